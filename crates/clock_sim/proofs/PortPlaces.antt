-- Where the input ports stand among the names.
use Rattle.std.proofs.Common.{◌≡◌, ℕ, zero, suc, ◌+◌, ◌<◌, Bool, true, false, not, ◌&&◌, ◌||◌, cond, List, [], ◌∷◌, length, get_or, Option, None, Some, slice_get, find, refl, sym, ◌∙◌, ap, arith, subst}
use Rattle.std.specs.Prelude.{bytes_eq, codes}
use Rattle.std.specs.List.{list_any, position_or_len, prefix_len}
use Rattle.std.specs.Option.{option_map, unwrap_or}
use Rattle.std.proofs.lemmas.Option.{slice_get_within}
use Rattle.std.proofs.lemmas.List.Sums.{position_or_len_is}
use Rattle.mr_values.proofs.FilesByName.{bytes_eq-equal}
use Rattle.verilog_tree.specs.declared.tree.Signal.{Signal}
use Rattle.verilog_tree.specs.Tree.{Design}
use Rattle.verilog_tree.specs.Names.{text_of, number_of}
use Rattle.verilog_tree.specs.Checks.{is_port, is_right_port, has_port, port_names, declarations, Passes, filter_face}
use Rattle.module_laws.proofs.TextOrder.{Every, nothing_found}
use Rattle.module_laws.proofs.Passing.{none_fails, no_second}

pub not_false : (b : Bool) → not b ≡ false → b ≡ true
not_false true e = refl
not_false false e = absurd (cc)

and_second : (a b : Bool) → (a && b) ≡ true → b ≡ true
and_second true b e = e
and_second false b e = absurd (cc)

-- the first place of an element that passes
found_below : (p : List ℕ → Bool) (names : List (List ℕ)) (n : ℕ) (x : List ℕ) → slice_get names n ≡ Some x → p x ≡ true → position_or_len p names < length names
found_below p [] n x at is = absurd (omega (arith, slice_get_within {A = List ℕ} [] n x at))
found_below p (y ∷ names) zero x at is =
    let same : y ≡ x = cc in
    let here = ap (λ (b : Bool). cond (not b) (1 + prefix_len (λ z. not (p z)) names) 0) (ap p same ∙ is) in
    omega (arith, here)
found_below p (y ∷ names) (suc n) x at is = by (p y) (found_below p names n x at is)
  where
    by : (b : Bool) → position_or_len p names < length names → cond (not b) (1 + prefix_len (λ z. not (p z)) names) 0 < suc (length names)
    by true rest = omega arith
    by false rest = omega (arith, rest)

some_passes : (test : Signal → Bool) (signals : List Signal) → list_any test signals ≡ true → (s : Signal) × (test s ≡ true)
some_passes test [] is = absurd (cc)
some_passes test (s ∷ signals) is = by (test s) refl is (some_passes test signals)
  where
    by : (b : Bool) → test s ≡ b → (b || list_any test signals) ≡ true → (list_any test signals ≡ true → (s : Signal) × (test s ≡ true)) → (s : Signal) × (test s ≡ true)
    by true e is rest = (s, e)
    by false e is rest = rest is

-- a port that is there has its text among the names
pub port_there : (d : Design) (c : ℕ) (text : List ℕ) → has_port d (c ∷ text) ≡ true → number_of d (c ∷ text) < length d.names
port_there d c text is =
    let found = some_passes (λ (s : Signal). is_port s.kind && bytes_eq (text_of d s.name) (c ∷ text)) d.signals is in
    let equal = and_second (is_port (found.0).kind) (bytes_eq (text_of d (found.0).name) (c ∷ text)) found.1 in
    let same = bytes_eq-equal (text_of d (found.0).name) (c ∷ text) equal in
    by (found.0).name (slice_get d.names (found.0).name) refl same (subst (λ (x : List ℕ). bytes_eq x (c ∷ text) ≡ true) same equal)
  where
    by : (n : ℕ) (o : Option (List ℕ)) → slice_get d.names n ≡ o → unwrap_or o [] ≡ c ∷ text → bytes_eq (c ∷ text) (c ∷ text) ≡ true → number_of d (c ∷ text) < length d.names
    by n None at is equal = absurd (cc)
    by n (Some x) at is equal = found_below (bytes_eq (c ∷ text)) d.names n (c ∷ text) (at ∙ ap Some is) equal

module _ (d : Design) (passes : Passes d) where
  pub ports_there : Every (λ text. not (has_port d text) ≡ false) port_names
  ports_there =
      nothing_found (λ text. not (has_port d text)) port_names
      (no_second (option_map (λ (s : Signal). text_of d s.name) (find (λ (s : Signal). is_port s.kind && not (is_right_port filter_face d s)) (declarations d))) _ (none_fails filter_face d passes.early).ports)

  pub rst_inside : number_of d (codes "rst") < length d.names
  rst_inside = port_there d 114 (codes "st") (not_false _ ports_there.1.0)

  pub ce_inside : number_of d (codes "ce") < length d.names
  ce_inside = port_there d 99 (codes "e") (not_false _ ports_there.1.1.0)

  pub in_data_inside : number_of d (codes "in_data") < length d.names
  in_data_inside = port_there d 105 (codes "n_data") (not_false _ ports_there.1.1.1.0)

-- the first place of a text, where a search finds it or goes to the end
pub first_here : (d : Design) (text : List ℕ) (place : ℕ) → ((k : ℕ) → k < place → bytes_eq text (get_or d.names k []) ≡ false) → place < length d.names → bytes_eq text (get_or d.names place []) ≡ true → place ≡ number_of d text
first_here d text place before inside here = sym (position_or_len_is (bytes_eq text) d.names place [] (omega (arith, inside)) before (λ lt. here))

pub first_none : (d : Design) (text : List ℕ) (place : ℕ) → ((k : ℕ) → k < place → bytes_eq text (get_or d.names k []) ≡ false) → place ≡ length d.names → length d.names ≡ number_of d text
first_none d text place before end =
    sym (position_or_len_is (bytes_eq text) d.names (length d.names) [] (omega arith) (λ k lt. before k (omega (arith, lt, end))) (λ lt. absurd (omega (arith, lt))))

get_or-any : (xs : List (List ℕ)) (k : ℕ) (x y : List ℕ) → k < length xs → get_or xs k x ≡ get_or xs k y
get_or-any [] k x y lt = absurd (omega (arith, lt))
get_or-any (z ∷ xs) zero x y lt = refl
get_or-any (z ∷ xs) (suc k) x y lt = get_or-any xs k x y (omega (arith, lt))

-- a name that a loop reads
pub name_read : (read names : List (List ℕ)) (place : ℕ) (x : List ℕ) → read ≡ names → place < length read → x ≡ get_or read place x → x ≡ get_or names place []
name_read read names place x same lt is = is ∙ get_or-any read place x [] lt ∙ ap (λ (ns : List (List ℕ)). get_or ns place []) same
