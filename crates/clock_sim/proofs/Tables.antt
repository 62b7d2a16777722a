-- A table of lengths and signs, written from the last declaration to the first.
use Rattle.std.proofs.Common.{◌≡◌, ℕ, zero, suc, ◌+◌, ◌-◌, ◌<◌, ◌≤◌, Bool, true, false, cond, List, [], ◌∷◌, length, get_or, set, drop, replicate, Some, refl, sym, ◌∙◌, ap, arith, subst}
use Rattle.std.specs.Prelude.{◌==◌}
use Rattle.std.specs.Option.{option_map_or}
use Rattle.std.proofs.lemmas.Bool.{eqb-true, eqb-false}
use Rattle.std.proofs.lemmas.List.{get_or-set_same, get_or-set_other, length-set}
use Rattle.std.proofs.Math.Path.{fun_ext}
use Rattle.verilog_tree.specs.declared.tree.Signal.{Signal}
use Rattle.verilog_tree.specs.Meaning.{Shapes}
use Rattle.verilog_tree.specs.Names.{declaration_in, shapes_in}
use Rattle.clock_sim.specs.Simulated.{table_shapes}
use Rattle.clock_sim.specs.Tables.{AreNumbered, TellsShapes}

-- the lists have the lengths and signs of these declarations
pub record IsTableOf (count : ℕ) (widths : List ℕ) (signs : List Bool) (rest : List Signal) : Type 0 where
  pub many : length widths ≡ count
  pub as_many : length signs ≡ count
  pub wide : (n : ℕ) → get_or widths n 1 ≡ (shapes_in rest).width n
  pub signed : (n : ℕ) → get_or signs n false ≡ (shapes_in rest).signed n

module _ {A : Type 0} (of : Signal → A) (else_ : A) (xs : List A) (s : Signal) (rest : List Signal) (inside : s.name < length xs)
    (so_far : (n : ℕ) → get_or xs n else_ ≡ option_map_or of (declaration_in rest n) else_) where
  written : (n : ℕ) → get_or (set xs s.name (of s)) n else_ ≡ option_map_or of (declaration_in (s ∷ rest) n) else_
  written n = by (s.name == n) refl
    where
      by : (b : Bool) → (s.name == n) ≡ b → get_or (set xs s.name (of s)) n else_ ≡ option_map_or of (cond b (Some s) (declaration_in rest n)) else_
      by true e = ap (λ (m : ℕ). get_or (set xs s.name (of s)) m else_) (sym (eqb-true s.name n e)) ∙ get_or-set_same xs s.name (of s) else_ inside
      by false e = get_or-set_other xs s.name n (of s) else_ (λ same. eqb-false s.name n e (sym same)) ∙ so_far n

pub table_turn : (count : ℕ) (widths : List ℕ) (signs : List Bool) (s : Signal) (rest : List Signal) → s.name < count → IsTableOf count widths signs rest
    → IsTableOf count (set widths s.name s.width) (set signs s.name s.signed) (s ∷ rest)
table_turn count widths signs s rest inside t = record {
  many = length-set widths s.name s.width ∙ t.many;
  as_many = length-set signs s.name s.signed ∙ t.as_many;
  wide = written (λ s. s.width) 1 widths s rest (omega (arith, t.many, inside)) t.wide;
  signed = written (λ s. s.signed) false signs s rest (omega (arith, t.as_many, inside)) t.signed;
}

get_or-replicate : {A : Type 0} (x : A) (count n : ℕ) → get_or (replicate count x) n x ≡ x
get_or-replicate x zero n = refl
get_or-replicate x (suc count) zero = refl
get_or-replicate x (suc count) (suc n) = get_or-replicate x count n

pub replicated : {A : Type 0} (x : A) (count : ℕ) → length (replicate count x) ≡ count
replicated x zero = refl
replicated x (suc count) = ap suc (replicated x count)

pub table_start : (count : ℕ) (rest : List Signal) → rest ≡ [] → IsTableOf count (replicate count 1) (replicate count false) rest
table_start count rest is = subst (IsTableOf count (replicate count 1) (replicate count false)) (sym is) (record {
  many = replicated 1 count;
  as_many = replicated false count;
  wide = λ n. get_or-replicate 1 count n;
  signed = λ n. get_or-replicate false count n;
})

pub drop_all : {A : Type 0} (xs : List A) (k : ℕ) → length xs ≤ k → drop k xs ≡ []
drop_all [] zero le = refl
drop_all [] (suc k) le = refl
drop_all (x ∷ xs) zero le = absurd (omega (arith, le))
drop_all (x ∷ xs) (suc k) le = drop_all xs k (omega (arith, le))

pub drop_one : {A : Type 0} (xs : List A) (k : ℕ) (x : A) → k < length xs → x ≡ get_or xs k x → drop k xs ≡ x ∷ drop (suc k) xs
drop_one [] k x lt is = absurd (omega (arith, lt))
drop_one (y ∷ xs) zero x lt is = ap (λ z. z ∷ xs) (sym is)
drop_one (y ∷ xs) (suc k) x lt is = drop_one xs k x (omega (arith, lt)) is

pub get_or-any : {A : Type 0} (xs : List A) (k : ℕ) (x y : A) → k < length xs → get_or xs k x ≡ get_or xs k y
get_or-any [] k x y lt = absurd (omega (arith, lt))
get_or-any (z ∷ xs) zero x y lt = refl
get_or-any (z ∷ xs) (suc k) x y lt = get_or-any xs k x y (omega (arith, lt))

-- the declaration that a turn reads, before those of the turns so far
pub drop_before : (ss : List Signal) (turn : ℕ) (s : Signal) → turn < length ss → s ≡ get_or ss (length ss - 1 - turn) s → drop (length ss - (turn + 1)) ss ≡ s ∷ drop (length ss - turn) ss
drop_before ss turn s lt read =
    let here : length ss - (turn + 1) ≡ length ss - 1 - turn = omega (arith, lt) in
    let next : suc (length ss - 1 - turn) ≡ length ss - turn = omega (arith, lt) in
    ap (λ (k : ℕ). drop k ss) here ∙ drop_one ss (length ss - 1 - turn) s (omega (arith, lt)) read ∙ ap (λ (k : ℕ). s ∷ drop k ss) next

-- one turn: the last declaration that is not written yet
pub table_next : (x : Signal) (count : ℕ) (widths : List ℕ) (signs : List Bool) (ss read : List Signal) (turn : ℕ) → AreNumbered count ss → read ≡ ss → turn < length read → IsTableOf count widths signs (drop (length ss - turn) ss)
    → IsTableOf count (set widths (get_or read (length read - 1 - turn) x).name (get_or read (length read - 1 - turn) x).width) (set signs (get_or read (length read - 1 - turn) x).name (get_or read (length read - 1 - turn) x).signed) (drop (length ss - (turn + 1)) ss)
table_next x count widths signs ss read turn numbered same lt t =
    subst (λ (r : List Signal). IsTableOf count (set widths (get_or r (length r - 1 - turn) x).name (get_or r (length r - 1 - turn) x).width) (set signs (get_or r (length r - 1 - turn) x).name (get_or r (length r - 1 - turn) x).signed) (drop (length ss - (turn + 1)) ss)) (sym same) own
  where
    inside : turn < length ss
    inside = subst (λ (r : List Signal). turn < length r) same lt

    place : ℕ
    place = length ss - 1 - turn

    below : place < length ss
    below = omega (arith, inside)

    s : Signal
    s = get_or ss place x

    own : IsTableOf count (set widths s.name s.width) (set signs s.name s.signed) (drop (length ss - (turn + 1)) ss)
    own = subst (λ (rest : List Signal). IsTableOf count (set widths s.name s.width) (set signs s.name s.signed) rest) (sym (drop_before ss turn s inside (get_or-any ss place x s below)))
        (table_turn count widths signs s (drop (length ss - turn) ss) (numbered.each place x below) t)

pub table_done : (count : ℕ) (widths : List ℕ) (signs : List Bool) (signals : List Signal) → IsTableOf count widths signs signals → TellsShapes (table_shapes widths signs) (shapes_in signals)
table_done count widths signs signals t = record {
  same =
      ap (λ (ws : ℕ → ℕ). let s : Shapes = record { width = ws; signed = (table_shapes widths signs).signed } in s) (fun_ext t.wide)
      ∙ ap (λ (ss : ℕ → Bool). let s : Shapes = record { width = (shapes_in signals).width; signed = ss } in s) (fun_ext t.signed);
}
