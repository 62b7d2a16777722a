-- How often each file of a list was read to its end.
use Rattle.std.proofs.Common.{◌≡◌, ◌≢◌, ℕ, zero, suc, ◌+◌, ◌<◌, Bool, true, false, List, [], ◌∷◌, ◌++◌, map, length, slice_set, get_or, refl, sym, ◌∙◌, ap, subst, arith, inl, inr}
use Rattle.std.proofs.Math.Path.{fun_ext}
use Rattle.std.proofs.lemmas.Bool.{cases_Bool}
use Rattle.mr_values.specs.declared.named_file.NamedFile.{NamedFile}
use Rattle.mr_values.specs.Faults.{IsRisen, IsRaisedAt}
use Rattle.mr_values.specs.NamedFiles.{name_of, entry_of, name_at, files_of, same_name, count_where, ends_in}
use Rattle.mr_values.proofs.FilesByName.{same_name-itself, same_name-equal, name_at-is}

-- no count is no more, wanted or not
none_more : (b : Bool) → count_where b 0 ≡ 0
none_more true = refl
none_more false = refl

same_end : (f new : NamedFile) (name : List ℕ) (rest : ℕ) → name_of new ≡ name_of f → new.ends ≡ f.ends
    → count_where (same_name name (name_of new)) new.ends + rest ≡ count_where (same_name name (name_of f)) f.ends + rest
same_end f new name rest same count = rw (same, count)

-- a file that keeps its name and its count leaves all counts
ends_in-set_at : (files : List NamedFile) (at : ℕ) (file new : NamedFile) (name : List ℕ) → at < length files → file ≡ get_or files at file → name_of new ≡ name_of file → new.ends ≡ file.ends
    → ends_in (slice_set files at new) name ≡ ends_in files name
ends_in-set_at [] at file new name h is same count = absurd (omega arith)
ends_in-set_at (f ∷ files) zero file new name h is same count = same_end f new name (ends_in files name) (same ∙ ap (λ (x : NamedFile). name_of x) is) (count ∙ ap (λ (x : NamedFile). x.ends) is)
ends_in-set_at (f ∷ files) (suc at) file new name h is same count = ap (λ rest. count_where (same_name name (name_of f)) f.ends + rest) (ends_in-set_at files at file new name (omega arith) is same count)

pub ends_in-set : (files : List NamedFile) (at : ℕ) (file new : NamedFile) → at < length files → file ≡ get_or files at file → name_of new ≡ name_of file → new.ends ≡ file.ends → ends_in (slice_set files at new) ≡ ends_in files
ends_in-set files at file new h is same count = fun_ext (λ name. ends_in-set_at files at file new name h is same count)

ends_in-push_at : (files : List NamedFile) (file : NamedFile) (name : List ℕ) → file.ends ≡ 0 → ends_in (files ++ file ∷ []) name ≡ ends_in files name
ends_in-push_at [] file name none = rw none (let more = none_more (same_name name (name_of file)) in omega (arith, more))
ends_in-push_at (f ∷ files) file name none = ap (λ rest. count_where (same_name name (name_of f)) f.ends + rest) (ends_in-push_at files file name none)

-- a new file wasn't read yet
pub ends_in-push : (files : List NamedFile) (file : NamedFile) → file.ends ≡ 0 → ends_in (files ++ file ∷ []) ≡ ends_in files
ends_in-push files file none = fun_ext (λ name. ends_in-push_at files file name none)

-- ---- a file whose count rises

risen_before : (old new rest : ℕ) → IsRisen old new → IsRisen (old + rest) (new + rest)
risen_before old new rest h = (omega (arith, h), omega (arith, h))

risen_behind : (old new front : ℕ) → IsRisen old new → IsRisen (front + old) (front + new)
risen_behind old new front h = (omega (arith, h), omega (arith, h))

own_end : (f new : NamedFile) (name : List ℕ) (rest : ℕ) → name ≡ name_of f → name_of new ≡ name_of f → IsRisen f.ends new.ends
    → IsRisen (count_where (same_name name (name_of f)) f.ends + rest) (count_where (same_name name (name_of new)) new.ends + rest)
own_end f new name rest is same risen = rw (same, is, same_name-itself (name_of f)) (risen_before f.ends new.ends rest risen)

ends_in-own : (files : List NamedFile) (at : ℕ) (file new : NamedFile) (name : List ℕ) → at < length files → file ≡ get_or files at file → name ≡ name_of file → name_of new ≡ name_of file → IsRisen file.ends new.ends
    → IsRisen (ends_in files name) (ends_in (slice_set files at new) name)
ends_in-own [] at file new name h is own same risen = absurd (omega arith)
ends_in-own (f ∷ files) zero file new name h is own same risen =
    let names = ap (λ (x : NamedFile). name_of x) is in
    own_end f new name (ends_in files name) (own ∙ names) (same ∙ names) (subst (λ (x : NamedFile). IsRisen x.ends new.ends) is risen)
ends_in-own (f ∷ files) (suc at) file new name h is own same risen = risen_behind _ _ (count_where (same_name name (name_of f)) f.ends) (ends_in-own files at file new name (omega arith) is own same risen)

other_end : (x y : List ℕ) (count : ℕ) → x ≢ y → count_where (same_name x y) count ≡ 0
other_end x y count other =
    elim (cases_Bool (same_name x y)) [
      | inl same ↦ absurd (other (same_name-equal x y same))
      | inr differs ↦ rw differs
    ]

ends_in-others : (files : List NamedFile) (at : ℕ) (file new : NamedFile) (name : List ℕ) → at < length files → file ≡ get_or files at file → name ≢ name_of file → name_of new ≡ name_of file
    → ends_in (slice_set files at new) name ≡ ends_in files name
ends_in-others [] at file new name h is other same = absurd (omega arith)
ends_in-others (f ∷ files) zero file new name h is other same =
    let before = other_end name (name_of f) f.ends (λ e. other (e ∙ sym (ap (λ (x : NamedFile). name_of x) is))) in
    let after = other_end name (name_of new) new.ends (λ e. other (e ∙ same)) in
    omega (arith, before, after)
ends_in-others (f ∷ files) (suc at) file new name h is other same = ap (λ rest. count_where (same_name name (name_of f)) f.ends + rest) (ends_in-others files at file new name (omega arith) is other same)

-- the count of one file has risen
pub ends_in-raised : (files : List NamedFile) (at : ℕ) (file new : NamedFile) → at < length files → file ≡ get_or files at file → name_of new ≡ name_of file → IsRisen file.ends new.ends
    → IsRaisedAt (name_at files at) (ends_in files) (ends_in (slice_set files at new))
ends_in-raised files at file new h is same risen = record {
  own = ends_in-own files at file new (name_at files at) h is (name_at-is files at file h is) same risen;
  others = λ other differs. ends_in-others files at file new other h is (λ e. differs (e ∙ sym (name_at-is files at file h is))) same;
}

-- ---- a file that keeps its name and its bytes

entries-set : (files : List NamedFile) (at : ℕ) (file new : NamedFile) → at < length files → file ≡ get_or files at file → entry_of new ≡ entry_of file → map entry_of (slice_set files at new) ≡ map entry_of files
entries-set [] at file new h is same = absurd (omega arith)
entries-set (f ∷ files) zero file new h is same = ap (λ entry. entry ∷ map entry_of files) (same ∙ ap (λ (x : NamedFile). entry_of x) is)
entries-set (f ∷ files) (suc at) file new h is same = ap (λ entries. entry_of f ∷ entries) (entries-set files at file new (omega arith) is same)

pub files_of-same : (files : List NamedFile) (at : ℕ) (file new : NamedFile) → at < length files → file ≡ get_or files at file → entry_of new ≡ entry_of file → files_of (slice_set files at new) ≡ files_of files
files_of-same files at file new h is same = rw (entries-set files at file new h is same)
