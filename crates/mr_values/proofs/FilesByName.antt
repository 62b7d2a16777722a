-- A list of files with distinct names is a map from names to bytes.
use Rattle.std.proofs.Common.{◌≡◌, ℕ, zero, suc, ◌+◌, ◌<◌, Bool, true, false, not, cond, IsTrue, List, [], ◌∷◌, ◌++◌, map, length, Option, Some, None, is_some, IsSome, slice_set, get_or, drop, Ordering, Less, Equal, Greater, refl, sym, ◌∙◌, ap, subst, arith, inl, inr}
use Rattle.std.specs.Prelude.{vec_capacity}
use Rattle.std.proofs.lemmas.Bool.{cases_Bool, and_parts, or_parts, not-true, false≢true}
use Rattle.std.proofs.lemmas.List.{map-append, at_drop_more}
use Rattle.std.proofs.lemmas.Option.{slice_get-map, slice_get_read}
use Rattle.std.proofs.lemmas.Map.Text.{is_eq-slice_cmp}
use Rattle.std.specs.Str.{bytes_eq}
use Rattle.std.proofs.lemmas.List.Folds.{list_any-append}
use Rattle.std.specs.List.{list_any}
use Rattle.std.specs.Ordering.{nat_cmp, is_eq}
use Rattle.std.specs.Cmp.{tied_itself}
use Rattle.std.specs.Cmp.Lexicographic.{slice_cmp, nat_list_cmp_total}
use Rattle.std.specs.FinMap.{find, get, insert, get-insert, get-from_entries, same_map, from_entries_push, slice_cmp-IsAntisymmetric, nat_cmp-IsAntisymmetric, IsAntisymmetric}
use Rattle.mr_values.specs.Files.{bytes_of}
use Rattle.mr_values.specs.declared.named_file.NamedFile.{NamedFile}
use Rattle.mr_values.specs.NamedFiles.{name_of, entry_of, names_of, files_of, same_name, are_distinct, name_in, name_at, bytes_at, capacity_at}

names_antisymmetric : IsAntisymmetric (slice_cmp nat_cmp)
names_antisymmetric = slice_cmp-IsAntisymmetric nat_cmp-IsAntisymmetric

-- a name is the same as itself
pub same_name-itself : (name : List ℕ) → same_name name name ≡ true
same_name-itself name = rw (tied_itself nat_list_cmp_total name)

-- an entry of another name is passed over
pub find-other : (q : List ℕ) (file : NamedFile) (files : List NamedFile) → same_name q (name_of file) ≡ false → find (slice_cmp nat_cmp) q (map entry_of (file ∷ files)) ≡ find (slice_cmp nat_cmp) q (map entry_of files)
find-other q file files other = rw other

-- a new file of the same name leaves the names
pub names_of-set : (files : List NamedFile) (at : ℕ) (file : NamedFile) → name_of file ≡ name_at files at → names_of (slice_set files at file) ≡ names_of files
names_of-set [] at file same = refl
names_of-set (f ∷ files) zero file same = ap (λ name. name ∷ names_of files) same
names_of-set (f ∷ files) (suc at) file same = ap (λ names. name_of f ∷ names) (names_of-set files at file same)

equal_of : (o : Ordering) → is_eq o ≡ true → o ≡ Equal
equal_of Less h = absurd (false≢true h)
equal_of Equal h = refl
equal_of Greater h = absurd (false≢true h)

skip : (b : Bool) (x y : Option (List ℕ)) (rest : Option (List ℕ)) → cond b x rest ≡ cond b x (cond b y rest)
skip true x y rest = refl
skip false x y rest = refl

-- two names that differ, the other way round
turned_name : (x y : List ℕ) → same_name x y ≡ false → same_name y x ≡ false
turned_name x y h =
    elim (cases_Bool (same_name y x)) [
      | inl same ↦ absurd (false≢true (sym h ∙ subst (λ n. same_name n y ≡ true) (names_antisymmetric y x (equal_of _ same)) (same_name-itself y)))
      | inr other ↦ other
    ]

-- the names decide what is found
list_any-names : (file : NamedFile) (files : List NamedFile) → is_some (find (slice_cmp nat_cmp) (name_of file) (map entry_of files)) ≡ list_any (same_name (name_of file)) (names_of files)
list_any-names file [] = refl
list_any-names file (f ∷ files) =
    elim (cases_Bool (same_name (name_of file) (name_of f))) [
      | inl same ↦ rw same
      | inr other ↦ rw other (list_any-names file files)
    ]

pub same_name-equal : (x y : List ℕ) → same_name x y ≡ true → x ≡ y
same_name-equal x y h = names_antisymmetric x y (equal_of (slice_cmp nat_cmp x y) h)

-- a name of the list is found
pub is_some-find-name_at : (files : List NamedFile) (at : ℕ) → at < length files → is_some (find (slice_cmp nat_cmp) (name_at files at) (map entry_of files)) ≡ true
is_some-find-name_at [] at h = absurd (omega arith)
is_some-find-name_at (f ∷ files) zero h = rw (same_name-itself (name_of f))
is_some-find-name_at (f ∷ files) (suc at) h =
    elim (cases_Bool (same_name (name_at files at) (name_of f))) [
      | inl same ↦ rw same
      | inr other ↦ rw other (is_some-find-name_at files at (omega arith))
    ]

-- a name further on differs from the first
other_name : (f : NamedFile) (files : List NamedFile) (at : ℕ) → at < length files → list_any (same_name (name_of f)) (names_of files) ≡ false → same_name (name_at files at) (name_of f) ≡ false
other_name f files at h none =
    elim (cases_Bool (same_name (name_at files at) (name_of f))) [
      | inl same ↦
          let here : is_some (find (slice_cmp nat_cmp) (name_of f) (map entry_of files)) ≡ true = subst (λ name. is_some (find (slice_cmp nat_cmp) name (map entry_of files)) ≡ true) (same_name-equal _ _ same) (is_some-find-name_at files at h) in
          let named : list_any (same_name (name_of f)) (names_of files) ≡ true = sym (list_any-names f files) ∙ here in
          absurd (false≢true (sym none ∙ named))
      | inr other ↦ other
    ]

-- what is found after a file got other bytes
pub find-set : (q : List ℕ) (files : List NamedFile) (at : ℕ) (file : NamedFile) → at < length files → IsTrue (are_distinct (names_of files)) → name_of file ≡ name_at files at
    → find (slice_cmp nat_cmp) q (map entry_of (slice_set files at file)) ≡ cond (same_name q (name_at files at)) (Some file.bytes.items) (find (slice_cmp nat_cmp) q (map entry_of files))
find-set q [] at file h d same = absurd (omega arith)
find-set q (f ∷ files) zero file h d same = rw same (skip (same_name q (name_of f)) _ _ _)
find-set q (f ∷ files) (suc at) file h d same =
    let (new, more) = and_parts (not (list_any (same_name (name_of f)) (names_of files))) (are_distinct (names_of files)) d in
    let none : list_any (same_name (name_of f)) (names_of files) ≡ false = not-true _ new in
    elim (cases_Bool (same_name q (name_of f))) [
      | inl here ↦
          let is : q ≡ name_of f = same_name-equal q (name_of f) here in
          let there : same_name q (name_at files at) ≡ false = subst (λ name. same_name name (name_at files at) ≡ false) (sym is) (turned_name (name_at files at) (name_of f) (other_name f files at (omega arith) none)) in
          rw (here, there)
      | inr other ↦ rw other (find-set q files at file (omega arith) more same)
    ]

-- a file with other bytes is the insert of these bytes
pub files_of-set : (files : List NamedFile) (at : ℕ) (file : NamedFile) → at < length files → IsTrue (are_distinct (names_of files)) → name_of file ≡ name_at files at
    → files_of (slice_set files at file) ≡ insert (files_of files) (name_at files at) file.bytes.items
files_of-set files at file h d same =
    same_map nat_list_cmp_total names_antisymmetric _ _
    (λ q. get-from_entries nat_list_cmp_total _ q ∙ find-set q files at file h d same
    ∙ sym (get-insert nat_list_cmp_total _ _ _ q ∙ ap (cond (same_name q (name_at files at)) (Some file.bytes.items)) (get-from_entries nat_list_cmp_total _ q)))

-- what the map holds at a name of the list
pub find-name_at : (files : List NamedFile) (at : ℕ) → at < length files → IsTrue (are_distinct (names_of files)) → find (slice_cmp nat_cmp) (name_at files at) (map entry_of files) ≡ Some (bytes_at files at)
find-name_at [] at h d = absurd (omega arith)
find-name_at (f ∷ files) zero h d = rw (same_name-itself (name_of f))
find-name_at (f ∷ files) (suc at) h d =
    let (new, more) = and_parts (not (list_any (same_name (name_of f)) (names_of files))) (are_distinct (names_of files)) d in
    rw (other_name f files at (omega arith) (not-true _ new)) (find-name_at files at (omega arith) more)

pub get-name_at : (files : List NamedFile) (at : ℕ) → at < length files → IsTrue (are_distinct (names_of files)) → get (files_of files) (name_at files at) ≡ Some (bytes_at files at)
get-name_at files at h d = get-from_entries nat_list_cmp_total _ _ ∙ find-name_at files at h d

-- a file whose name is new, at the end
pub files_of-push : (files : List NamedFile) (file : NamedFile) → get (files_of files) (name_of file) ≡ None → files_of (files ++ file ∷ []) ≡ insert (files_of files) (name_of file) file.bytes.items
files_of-push files file none =
    rw map-append (from_entries_push nat_list_cmp_total names_antisymmetric (map entry_of files) (name_of file) file.bytes.items (sym (get-from_entries nat_list_cmp_total _ _) ∙ none))

are_distinct-last : (names : List (List ℕ)) (name : List ℕ) → IsTrue (are_distinct names) → list_any (same_name name) names ≡ false → IsTrue (are_distinct (names ++ name ∷ []))
are_distinct-last [] name d none = refl
are_distinct-last (n ∷ names) name d none =
    let (new, more) = and_parts (not (list_any (same_name n) names)) (are_distinct names) d in
    let (first, rest) = or_parts (same_name name n) (list_any (same_name name) names) none in
    rw (list_any-append (same_name n) names (name ∷ []), not-true (list_any (same_name n) names) new, turned_name name n first) (are_distinct-last names name more rest)

pub are_distinct-push : (files : List NamedFile) (file : NamedFile) → IsTrue (are_distinct (names_of files)) → get (files_of files) (name_of file) ≡ None → IsTrue (are_distinct (names_of (files ++ file ∷ [])))
are_distinct-push files file d none =
    let absent : list_any (same_name (name_of file)) (names_of files) ≡ false = sym (list_any-names file files) ∙ ap is_some (sym (get-from_entries nat_list_cmp_total _ _) ∙ none) in
    rw map-append (are_distinct-last (names_of files) (name_of file) d absent)

-- the name and the bytes of the file that stands at a place
pub name_at-is : (files : List NamedFile) (at : ℕ) (file : NamedFile) → at < length files → file ≡ get_or files at file → name_at files at ≡ name_of file
name_at-is files at file h is = rw (slice_get-map name_of files at, slice_get_read files (length files) at file refl h is)

pub bytes_at-is : (files : List NamedFile) (at : ℕ) (file : NamedFile) → at < length files → file ≡ get_or files at file → bytes_at files at ≡ file.bytes.items
bytes_at-is files at file h is = rw (slice_get-map (λ f. f.bytes.items) files at, slice_get_read files (length files) at file refl h is)

pub capacity_at-is : (files : List NamedFile) (at : ℕ) (file : NamedFile) → at < length files → file ≡ get_or files at file → capacity_at files at ≡ vec_capacity file.bytes
capacity_at-is files at file h is = rw (slice_get-map (λ f. vec_capacity f.bytes) files at, slice_get_read files (length files) at file refl h is)

-- the name that stands last, and those before it
pub name_in-last : (names : List (List ℕ)) (name : List ℕ) → name_in (names ++ name ∷ []) (length names) ≡ name
name_in-last [] name = refl
name_in-last (n ∷ names) name = name_in-last names name

pub name_in-before : (names : List (List ℕ)) (name : List ℕ) (at : ℕ) → at < length names → name_in (names ++ name ∷ []) at ≡ name_in names at
name_in-before [] name at h = absurd (omega arith)
name_in-before (n ∷ names) name zero h = refl
name_in-before (n ∷ names) name (suc at) h = name_in-before names name at (omega arith)

-- the search goes on past a file of another name
pub find-drop : (name : List ℕ) (files : List NamedFile) (at : ℕ) (file : NamedFile) → at < length files → file ≡ get_or files at file → same_name name (name_of file) ≡ false
    → find (slice_cmp nat_cmp) name (map entry_of (drop at files)) ≡ find (slice_cmp nat_cmp) name (map entry_of (drop (at + 1) files))
find-drop name files at file h is other =
    at_drop_more (λ fs. find (slice_cmp nat_cmp) name (map entry_of fs)) files at file h
    ∙ rw (← is) (find-other name file (drop (at + 1) files) other)

pub get-missing : (name : List ℕ) (files : List NamedFile) → find (slice_cmp nat_cmp) name (map entry_of files) ≡ None → get (files_of files) name ≡ None
get-missing name files none = get-from_entries nat_list_cmp_total _ _ ∙ none

pub same_name-bytes_eq : (x y : List ℕ) → bytes_eq y x ≡ false → same_name x y ≡ false
same_name-bytes_eq x y h = turned_name y x (is_eq-slice_cmp y x ∙ h)

pub bytes_eq-equal : (x y : List ℕ) → bytes_eq x y ≡ true → x ≡ y
bytes_eq-equal x y h = same_name-equal x y (is_eq-slice_cmp x y ∙ h)

-- other bytes leave the names distinct
pub distinct-set : (files : List NamedFile) (at : ℕ) (file new : NamedFile) → at < length files → file ≡ get_or files at file → name_of new ≡ name_of file → IsTrue (are_distinct (names_of files)) → IsTrue (are_distinct (names_of (slice_set files at new)))
distinct-set files at file new h is same d = rw (names_of-set files at new (same ∙ sym (name_at-is files at file h is))) d

-- a file that keeps its name
pub sets_name : (files : List NamedFile) (at : ℕ) (file new : NamedFile) → at < length files → file ≡ get_or files at file → name_of new ≡ name_of file → names_of (slice_set files at new) ≡ names_of files
sets_name files at file new h is same = names_of-set files at new (same ∙ sym (name_at-is files at file h is))

-- What a file with other bytes makes of the list.
pub record SetsBytes (old new : List NamedFile) (at : ℕ) (bytes : List ℕ) : Type 0 where
  pub distinct : IsTrue (are_distinct (names_of new))
  pub names : names_of new ≡ names_of old
  pub files : files_of new ≡ insert (files_of old) (name_at old at) bytes

pub sets_bytes : (files : List NamedFile) (at : ℕ) (file new : NamedFile) → at < length files → file ≡ get_or files at file → IsTrue (are_distinct (names_of files)) → name_of new ≡ name_of file → SetsBytes files (slice_set files at new) at new.bytes.items
sets_bytes files at file new h is d same = record {
  distinct = distinct-set files at file new h is same d;
  names = sets_name files at file new h is same;
  files = files_of-set files at new h d (same ∙ sym (name_at-is files at file h is));
}

-- What a new file makes of the list.
pub record AddsFile (old new : List NamedFile) (name bytes : List ℕ) : Type 0 where
  pub distinct : IsTrue (are_distinct (names_of new))
  pub files : files_of new ≡ insert (files_of old) name bytes
  pub names : names_of new ≡ names_of old ++ name ∷ []

pub adds_file : (files : List NamedFile) (file : NamedFile) (name : List ℕ) → IsTrue (are_distinct (names_of files)) → get (files_of files) name ≡ None → name_of file ≡ name → AddsFile files (files ++ file ∷ []) name file.bytes.items
adds_file files file name d none same =
    let missing : get (files_of files) (name_of file) ≡ None = rw same none in
    record {
      distinct = are_distinct-push files file d missing;
      files = files_of-push files file missing ∙ ap (λ n. insert (files_of files) n file.bytes.items) same;
      names = map-append name_of files (file ∷ []) ∙ ap (λ n. names_of files ++ n ∷ []) same;
    }

-- the bytes under a name that stands at a place
pub get-named : (files : List NamedFile) (at : ℕ) (name : List ℕ) (file : NamedFile) → at < length files → IsTrue (are_distinct (names_of files)) → name_at files at ≡ name → file ≡ get_or files at file → get (files_of files) name ≡ Some file.bytes.items
get-named files at name file h d same is = subst (λ n. get (files_of files) n ≡ Some file.bytes.items) same (get-name_at files at h d ∙ ap Some (bytes_at-is files at file h is))

pub bytes_of-named : (files : List NamedFile) (at : ℕ) (file : NamedFile) → at < length files → IsTrue (are_distinct (names_of files)) → file ≡ get_or files at file → bytes_of (files_of files) (name_at files at) ≡ file.bytes.items
bytes_of-named files at file h d is = rw (get-named files at (name_at files at) file h d refl is)

pub is_some-get : (files : List NamedFile) (at : ℕ) (name : List ℕ) → at < length files → IsTrue (are_distinct (names_of files)) → name_at files at ≡ name → IsSome (get (files_of files) name)
is_some-get files at name h d same = rw (← same, get-name_at files at h d)

pub bytes_of-name_at : (files : List NamedFile) (at : ℕ) → at < length files → IsTrue (are_distinct (names_of files)) → bytes_of (files_of files) (name_at files at) ≡ bytes_at files at
bytes_of-name_at files at h d = rw (get-name_at files at h d)
