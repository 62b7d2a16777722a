-- How the numbers of a net are cut: in the run each to its node's width, in the uncut run only those of control nodes.
use Rattle.std.specs.Prelude.{◌≡◌, ℕ, ◌+◌, ◌^◌, ◌≤◌, ℤ, pos, ◌-ℤ◌, ◌*ℤ◌, Bool, true, false}
use Rattle.mr_values.specs.Width.{wrap, FitsWidth}

-- what a node makes of a number, by whether it is control and by its width
abbrev pub Cut : Type 0
Cut = Bool → ℕ → ℤ → ℤ

-- each number is cut to its node's width
abbrev pub cut_all : Cut
cut_all control width v = wrap width v

-- numbers of control nodes are cut to the width; all others are kept whole
abbrev pub cut_control : Cut
cut_control true width v = wrap width v
cut_control false width v = v

-- A cut leaves alone what fits the width. What any node keeps, each data node as wide or wider keeps too, and it keeps a multiple by
-- a power of two and the negation where it is so much wider. Control nodes are cut to their width.
pub record IsCut (cut : Cut) : Type 0 where
  pub fitting : (control : Bool) (width : ℕ) (v : ℤ) → 1 ≤ width → FitsWidth width v → cut control width v ≡ v
  pub again : (control : Bool) (width : ℕ) (v : ℤ) → 1 ≤ width → cut control width (cut control width v) ≡ cut control width v
  pub data_keeps : (control : Bool) (width more : ℕ) (v : ℤ) → 1 ≤ width → width ≤ more → cut control width v ≡ v → cut false more v ≡ v
  pub data_scales : (control : Bool) (width by : ℕ) (v : ℤ) → 1 ≤ width → cut control width v ≡ v → cut false (width + by) (v *ℤ pos (2 ^ by)) ≡ v *ℤ pos (2 ^ by)
  pub data_negates : (control : Bool) (width : ℕ) (v : ℤ) → 1 ≤ width → cut control width v ≡ v → cut false (width + 1) (pos 0 -ℤ v) ≡ pos 0 -ℤ v
  pub controls : (width : ℕ) (v : ℤ) → cut true width v ≡ wrap width v
