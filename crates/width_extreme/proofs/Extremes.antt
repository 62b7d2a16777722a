-- Samples and an index that reach an end of the range, soon.
use Rattle.std.proofs.Common.{◌≡◌, ℕ, zero, suc, ◌+◌, ◌-◌, ◌*◌, ◌<◌, ◌≤◌, List, [], ◌∷◌, length, get_or, ℤ, pos, negsuc, ◌+ℤ◌, ◌-ℤ◌, ◌*ℤ◌, ◌≤ℤ◌, arith, add-mul, mul_assoc, refl, ◌∙◌, ap}
use Rattle.std.proofs.lemmas.Int.{ints}
use Rattle.std.proofs.lemmas.Nat.{div-add-mod', mod_below}
use Rattle.mr_values.specs.declared.plan.Element.{Element}
use Rattle.mr_values.specs.Width.{FitsWidth}
use Rattle.mr_values.specs.Sequence.{Sequence, samples, filter}
use Rattle.mr_values.specs.Timing.{low_end, ceil_div}
use Rattle.mr_values.specs.Value.{chain}
use Rattle.impulse_phase.specs.Response.{Response, Responses, respond, later, through_filter, responses, HasResponses, full_cycle, AreLinear}
use Rattle.stage_law.specs.declared.ranges.Class.{Class}
use Rattle.width_extreme.specs.Prefix.{IsExtreme}
use Rattle.impulse_phase.specs.Reach.{HasReach, Extent, IsExtent, extent}
use Rattle.impulse_phase.proofs.Steps.{filter-keeps}
use Rattle.impulse_phase.proofs.Ends.{ends_for, history, history-reaches, history-all, length-tabulate}
use Rattle.width_extreme.proofs.Ranges.{later-at, finer-in_class, zero-fits}
use Rattle.impulse_phase.proofs.Reach.{filter-reach, prefix-extent, times-le}
use Rattle.impulse_phase.proofs.Prefix.{prefix-has}

-- an index of the class that lies at most `whole` past what is needed
pub record SoonEnough (first whole down needed : ℕ) : Type 0 where
  pub rounds : ℕ
  pub enough : needed ≤ (first + rounds * whole) * down
  pub soon : (first + rounds * whole) * down ≤ needed + whole * down

pub soon_enough : (first whole down needed : ℕ) → first < whole → 0 < down → SoonEnough first whole down needed
soon_enough first whole down needed below positive = by_gap (needed - first * down) refl
  where
    by_gap : (gap : ℕ) → needed - first * down ≡ gap → SoonEnough first whole down needed
    by_gap zero e = record {
      rounds = 0;
      enough = omega (arith, add-mul first (0 * whole) down);
      soon = omega (arith, add-mul first (0 * whole) down, times-le first whole down (omega arith));
    }
    by_gap (suc gap) e =
        let step = whole * down in
        let large : 0 < step = omega (arith, times-le 1 whole down (omega arith)) in
        let rounds = ceil_div (suc gap) step in
        let parts = div-add-mod' (suc gap + (step - 1)) step in
        let rest = mod_below (suc gap + (step - 1)) step large in
        let spread = add-mul first (rounds * whole) down in
        let product = mul_assoc rounds whole down in
        record { rounds = rounds; enough = omega (arith, e, parts, rest, spread, product); soon = omega (arith, e, parts, rest, spread, product) }

-- where the form's weights end, an index has its whole history
history-there : (f : Responses) (up down slack n : ℕ) → HasReach f up down slack → 0 < up → slack ≤ n * down → (newest : ℤ) → (f (pos n)).newest ≡ newest
    → 0 < length (f (pos n)).weights → pos (length (f (pos n)).weights) ≤ℤ newest
history-there f up down slack n h has_up far newest e some = by_gap (newest -ℤ pos (length (f (pos n)).weights)) refl
  where
    by_gap : (z : ℤ) → newest -ℤ pos (length (f (pos n)).weights) ≡ z → pos (length (f (pos n)).weights) ≤ℤ newest
    by_gap (pos m) is = omega (arith, ints)
    by_gap (negsuc m) is =
        let left : (f (pos n)).newest -ℤ pos (length (f (pos n)).weights) ≡ negsuc m = omega (arith, ints) in
        absurd (omega (arith, ints, h.oldest (pos n) some, ap (λ (z : ℤ). z *ℤ pos up) left))

-- a response without weights
no_weights : (r : Response) (x : Sequence) (a b : ℤ) → length r.weights ≡ 0 → respond r x ≡ low_end r.weights a b
no_weights r x a b none = by_weights r.weights r.newest none
  where
    by_weights : (cs : List ℤ) (n : ℤ) → length cs ≡ 0 → filter cs x n ≡ low_end cs a b
    by_weights [] n e = refl
    by_weights (c ∷ cs) n e = absurd (omega arith)

-- an end of a finer class, reached soon
pub record Extreme (transform : Sequence → Sequence) (w : ℕ) (form : List ℤ) (class : Class) (sum : ℤ) (whole : ℕ) (p : Extent) : Type 0 where
  pub xs : List ℤ
  pub index : ℕ
  pub reaches : IsExtreme transform w form class sum xs index
  pub soon : index * p.down ≤ (length form - 1 + whole) * p.down + p.slack
  pub few : length xs * p.up ≤ index * p.down + p.up

pub extreme-within : (transform : Sequence → Sequence) (f : Responses) (classes step w : ℕ) (form : List ℤ) (p : Extent) → HasResponses transform f classes step → IsExtent f p
    → (class : Class) (count turns place : ℕ) → class.residue < class.modulus → class.residue + place * class.modulus < count * class.modulus → count * class.modulus ≡ turns * classes
    → (a b : ℤ) → FitsWidth w a → FitsWidth w b
    → Extreme transform w form class (low_end (through_filter form f (pos (class.residue + place * class.modulus))).weights a b) (count * class.modulus) p
extreme-within transform f classes step w form p h extent_law class count turns place below inside whole a b fits_a fits_b =
    by_newest (first.newest +ℤ pos (soon.rounds * turns * step)) (length first.weights) refl refl
  where
    form_law : HasResponses (λ x. filter form (transform x)) (through_filter form f) classes step
    form_law = filter-keeps form transform f classes step h

    form_reach : HasReach (through_filter form f) p.up p.down (p.slack + (length form - 1) * p.down)
    form_reach = filter-reach form f p.up p.down p.slack h.ordered extent_law.reach

    first : Response
    first = through_filter form f (pos (class.residue + place * class.modulus))

    soon : SoonEnough (class.residue + place * class.modulus) (count * class.modulus) p.down (p.slack + (length form - 1) * p.down)
    soon = soon_enough (class.residue + place * class.modulus) (count * class.modulus) p.down (p.slack + (length form - 1) * p.down) inside extent_law.has_down

    index : ℕ
    index = class.residue + place * class.modulus + soon.rounds * (count * class.modulus)

    is_later : through_filter form f (pos index) ≡ later (pos (soon.rounds * turns * step)) first
    is_later = later-at (λ x. filter form (transform x)) (through_filter form f) classes step form_law (count * class.modulus) turns (class.residue + place * class.modulus) soon.rounds whole

    is_newest : (through_filter form f (pos index)).newest ≡ first.newest +ℤ pos (soon.rounds * turns * step)
    is_newest = ap (λ (r : Response). r.newest) is_later

    is_length : length (through_filter form f (pos index)).weights ≡ length first.weights
    is_length = ap (λ (r : Response). length r.weights) is_later

    is_soon : index * p.down ≤ (length form - 1 + count * class.modulus) * p.down + p.slack
    is_soon = omega (arith, soon.soon, add-mul (length form - 1) (count * class.modulus) p.down)

    is_few : (newest : ℕ) → (through_filter form f (pos index)).newest ≡ pos newest → length (history newest (ends_for a b first.weights)) * p.up ≤ index * p.down + p.up
    is_few newest e =
        let size = length-tabulate (suc newest) (λ n. get_or (ends_for a b first.weights) (newest - n) (pos 0)) in
        omega (arith, ints, form_reach.newest (pos index), ap (λ (z : ℤ). z *ℤ pos p.up) e, ap (λ (n : ℕ). n * p.up) size)

    silent : length first.weights ≡ 0 → Extreme transform w form class (low_end first.weights a b) (count * class.modulus) p
    silent none = record {
      xs = [];
      index = index;
      reaches = record {
        fits = λ k d within. absurd (omega arith);
        in_class = finer-in_class class count place soon.rounds below;
        is = form_law.gives (samples []) (pos index) ∙ ap (λ (q : Response). respond q (samples [])) is_later ∙ no_weights (later (pos (soon.rounds * turns * step)) first) (samples []) a b none;
      };
      soon = is_soon;
      few = omega arith;
    }

    made : (newest : ℕ) → first.newest +ℤ pos (soon.rounds * turns * step) ≡ pos newest → length first.weights ≤ suc newest
        → Extreme transform w form class (low_end first.weights a b) (count * class.modulus) p
    made newest e enough =
        let r : Response = record { newest = first.newest +ℤ pos (soon.rounds * turns * step); weights = first.weights } in
        let xs = history newest (ends_for a b first.weights) in
        record {
          xs = xs;
          index = index;
          reaches = record {
            fits = history-all (FitsWidth w) a b first.weights newest fits_a fits_b (zero-fits w);
            in_class = finer-in_class class count place soon.rounds below;
            is = form_law.gives (samples xs) (pos index) ∙ ap (λ (q : Response). respond q (samples xs)) is_later ∙ history-reaches r a b newest e enough;
          };
          soon = is_soon;
          few = is_few newest (is_newest ∙ e);
        }

    by_newest : (z : ℤ) (count_weights : ℕ) → first.newest +ℤ pos (soon.rounds * turns * step) ≡ z → length first.weights ≡ count_weights
        → Extreme transform w form class (low_end first.weights a b) (count * class.modulus) p
    by_newest z zero e is = silent is
    by_newest (pos newest) (suc n) e is =
        made newest e (omega (arith, ints, is, is_length, history-there (through_filter form f) p.up p.down (p.slack + (length form - 1) * p.down) index form_reach extent_law.has_up soon.enough (pos newest) (is_newest ∙ e) (omega (arith, is, is_length))))
    by_newest (negsuc m) (suc n) e is =
        absurd (omega (arith, ints, history-there (through_filter form f) p.up p.down (p.slack + (length form - 1) * p.down) index form_reach extent_law.has_up soon.enough (negsuc m) (is_newest ∙ e) (omega (arith, is, is_length))))

-- the same for a prefix
pub prefix-extreme : (es : List Element) (w : ℕ) (form : List ℤ) (class : Class) (count turns place : ℕ) → AreLinear es → class.residue < class.modulus
    → class.residue + place * class.modulus < count * class.modulus → count * class.modulus ≡ turns * (full_cycle es).classes
    → (a b : ℤ) → FitsWidth w a → FitsWidth w b
    → Extreme (chain es) w form class (low_end (through_filter form (responses es) (pos (class.residue + place * class.modulus))).weights a b) (count * class.modulus) (extent es)
prefix-extreme es w form class count turns place linear below inside whole a b fits_a fits_b =
    extreme-within (chain es) (responses es) (full_cycle es).classes (full_cycle es).step w form (extent es) (prefix-has es linear) (prefix-extent es linear) class count turns place below inside whole a b fits_a fits_b
