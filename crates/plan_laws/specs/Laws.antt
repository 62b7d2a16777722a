-- What the numbers of a plan say of its values.
use Rattle.std.specs.Prelude.{false, ℕ, ◌-◌, ◌^◌, ◌≤◌, List, [], ◌∷◌, All, ℤ, pos, ◌+ℤ◌, ◌-ℤ◌, ◌*ℤ◌, ◌≤ℤ◌, ◌<ℤ◌, ◌≡◌, unsigned_abs}
use Rattle.mr_values.specs.declared.plan.Element.{Element}
use Rattle.mr_values.specs.declared.plan.Element.TheVariants.{Up, Down, Filter, CicDown, CicUp, Round, Clip}
use Rattle.mr_values.specs.Width.{FitsWidth}
use Rattle.mr_values.specs.Sequence.{samples}
use Rattle.mr_values.specs.Value.{val, has_clip}
use Rattle.mr_values.specs.Timing.{Group, groups, last_stream, period_after}
use Rattle.plan_check.specs.Amounts.{peak_after, error_after_all, no_error}
use Rattle.plan_check.specs.Costs.{Spread, spread_after}

-- the peak after all groups
abbrev pub peak_after_all : List Group → ℕ → ℕ
peak_after_all [] peak = peak
peak_after_all (g ∷ gs) peak = peak_after_all gs (peak_after g peak)

-- the chain without its roundings
abbrev pub plain : List Element → List Element
plain [] = []
plain (Up factor ∷ es) = Up factor ∷ plain es
plain (Down factor ∷ es) = Down factor ∷ plain es
plain (Filter taps form ∷ es) = Filter taps form ∷ plain es
plain (CicDown factor stages delay ∷ es) = CicDown factor stages delay ∷ plain es
plain (CicUp factor stages delay ∷ es) = CicUp factor stages delay ∷ plain es
plain (Round shift mode ∷ es) = plain es
plain (Clip bits ∷ es) = Clip bits ∷ plain es

pub record IsBetween (low high z : ℤ) : Type 0 where
  pub least : low ≤ℤ z
  pub greatest : z ≤ℤ high

-- each value of the chain, over samples of this width, lies in the span of the last stream
abbrev pub SpanHolds : ℕ → ℕ → List Element → Type 0
SpanHolds width ticks elements = (xs : List ℤ) (n : ℤ) → All (FitsWidth width) xs
    → IsBetween (last_stream width ticks elements).low (last_stream width ticks elements).high (val elements xs n)

-- no value has a greater magnitude than the peak
abbrev pub PeakHolds : ℕ → List Element → Type 0
PeakHolds width elements = (xs : List ℤ) (n : ℤ) → All (FitsWidth width) xs → unsigned_abs (val elements xs n) ≤ peak_after_all (groups elements) (2 ^ (width - 1))

-- 2 ^ shift times a value is at most the bound away from the value of the chain without its roundings, where nothing is clipped
abbrev pub BoundHolds : List Element → Type 0
BoundHolds elements =
    let error = error_after_all (groups elements) no_error in
    has_clip elements ≡ false → (xs : List ℤ) (n : ℤ) → unsigned_abs (pos (2 ^ error.shift) *ℤ val elements xs n -ℤ val (plain elements) xs n) ≤ error.bound

-- the classes and the reach after all groups
abbrev pub spread_after_all : ℕ → List Group → ℕ → Spread → Spread
spread_after_all ticks [] period s = s
spread_after_all ticks (g ∷ gs) period s = spread_after_all ticks gs (period_after g period) (spread_after ticks g period s)

abbrev pub reach_of : ℕ → List Element → ℕ
reach_of ticks elements = (spread_after_all ticks (groups elements) ticks (record { classes = 1; reach = 1 })).reach

-- The value at index n depends on no other sample than those that stand, in ticks, at most at n * period, and there
-- less than `reach` samples back. There are at most `reach` of them.
abbrev pub ReachHolds : ℕ → List Element → Type 0
ReachHolds ticks elements =
    let period = (last_stream 1 ticks elements).period in
    (xs ys : List ℤ) (n : ℤ)
    → ((k : ℤ) → (k *ℤ pos ticks) ≤ℤ (n *ℤ pos period) → (n *ℤ pos period) <ℤ ((k +ℤ pos (reach_of ticks elements)) *ℤ pos ticks) → samples xs k ≡ samples ys k)
    → val elements xs n ≡ val elements ys n
