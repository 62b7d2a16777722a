-- Names that stand twice, by the set of those that stand before.
use Rattle.std.proofs.Common.{◌≡◌, ℕ, ◌+◌, ◌<◌, ◌≤◌, Bool, true, false, not, ◌||◌, cond, List, [], ◌∷◌, map, Option, None, Some, length, get_or, drop, refl, sym, ap, ◌∙◌}
use Rattle.std.specs.Prelude.{◌==◌}
use Rattle.std.specs.List.{list_any}
use Rattle.std.proofs.Math.Path.{fun_ext}
use Rattle.verilog_tree.specs.declared.tree.Signal.{Signal}
use Rattle.verilog_tree.specs.Checks.{or_else, first_repeat}
use Rattle.verilog_check.proofs.Lists.{drop_next, drop_all, if_true, if_false}

-- the first name that is in the set or stands before
abbrev pub first_known : (ℕ → Bool) → List Signal → Option ℕ
first_known known [] = None
first_known known (s ∷ ss) = cond (known s.name) (Some s.name) (first_known (λ n. cond (s.name == n) true (known n)) ss)

known_first : (b : Bool) (n : ℕ) (rest : Option ℕ) → or_else (cond b (Some n) None) rest ≡ cond b (Some n) rest
known_first true n rest = refl
known_first false n rest = refl

or_is : (a b : Bool) → (a || b) ≡ cond a true b
or_is true b = refl
or_is false b = refl

repeats : (seen : List ℕ) (ss : List Signal) → first_repeat seen (map (λ (s : Signal). s.name) ss) ≡ first_known (λ n. list_any (λ m. m == n) seen) ss
repeats seen [] = refl
repeats seen (s ∷ ss) =
    let rest = repeats (s.name ∷ seen) ss in
    let sets : (λ (n : ℕ). list_any (λ m. m == n) (s.name ∷ seen)) ≡ (λ (n : ℕ). cond (s.name == n) true (list_any (λ m. m == n) seen)) =
    fun_ext (λ n. or_is (s.name == n) (list_any (λ m. m == n) seen)) in
    known_first (list_any (λ m. m == s.name) seen) s.name (first_repeat (s.name ∷ seen) (map (λ (s : Signal). s.name) ss))
    ∙ ap (λ (o : Option ℕ). cond (list_any (λ m. m == s.name) seen) (Some s.name) o) (rest ∙ ap (λ (known : ℕ → Bool). first_known known ss) sets)

pub none_known : (known : ℕ → Bool) (ss : List Signal) → ((n : ℕ) → known n ≡ false) → first_known known ss ≡ first_repeat [] (map (λ (s : Signal). s.name) ss)
none_known known ss none = ap (λ (set : ℕ → Bool). first_known set ss) (fun_ext none) ∙ sym (repeats [] ss)

-- ---- turns

module _ (ss : List Signal) (k : ℕ) (known : ℕ → Bool) (whole : Option ℕ) (before : first_known known (drop k ss) ≡ whole) where
  pub repeat_ends : length ss ≤ k → whole ≡ None
  repeat_ends le = sym before ∙ ap (first_known known) (drop_all ss k le)

  module _ (s : Signal) (lt : k < length ss) (is : s ≡ get_or ss k s) where
    turn : whole ≡ cond (known s.name) (Some s.name) (first_known (λ n. cond (s.name == n) true (known n)) (drop (k + 1) ss))
    turn = sym before ∙ ap (first_known known) (drop_next ss k s lt is)

    pub repeat_hits : (added : Bool) → added ≡ not (known s.name) → added ≡ false → whole ≡ Some s.name
    repeat_hits added value seen = turn ∙ if_true (known s.name) (Some s.name) _ (flipped (known s.name) (sym value ∙ seen))
      where
        flipped : (b : Bool) → not b ≡ false → b ≡ true
        flipped true e = refl
        flipped false e = absurd (cc)

    pub repeat_skips : (added : Bool) (next : ℕ → Bool) → added ≡ not (known s.name) → added ≡ true → ((n : ℕ) → next n ≡ cond (s.name == n) true (known n)) → first_known next (drop (k + 1) ss) ≡ whole
    repeat_skips added next value new updates =
        ap (λ (set : ℕ → Bool). first_known set (drop (k + 1) ss)) (fun_ext updates)
        ∙ sym (turn ∙ if_false (known s.name) (Some s.name) _ (flipped (known s.name) (sym value ∙ new)))
      where
        flipped : (b : Bool) → not b ≡ true → b ≡ false
        flipped true e = absurd (cc)
        flipped false e = refl
