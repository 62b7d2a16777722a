-- The numbers at the ticks of a run.
use Rattle.std.proofs.Common.{◌≡◌, ℕ, Bool, cond, zero, suc, ◌-◌, ◌<◌, ◌≤◌, ◌^◌, true, false, List, [], ◌∷◌, map, get_or, refl, sym, ◌∙◌, ap, subst, arith, pos, ◌-ℤ◌, ltb}
use Rattle.std.specs.Prelude.{All, slice_index}
use Rattle.std.proofs.lemmas.List.{get_or_default}
use Rattle.std.proofs.lemmas.Nat.{pow_pos}
use Rattle.mr_values.specs.Sequence.{samples}
use Rattle.mr_values.specs.Width.{FitsWidth, signed}
use Rattle.mr_values.proofs.WidthLemmas.{signed_is}
use Rattle.verilog_tree.specs.Shown.{Cycle, EachFits}
use Rattle.net_module.specs.Steps.{tick_data, samples_of}
use Rattle.shown_module.specs.Shown.{numbers_in}

-- each sample's pattern fits, and so does the 0 past the last
pub data_fits : (width : ℕ) (cs : List Cycle) → EachFits width cs → (k : ℕ) → slice_index (tick_data cs) k < 2 ^ width
data_fits width [] fit k = pow_pos width
data_fits width (c ∷ cs) fit k = by c.ce k (data_fits width cs fit.1)
  where
    by : (b : Bool) (k : ℕ) → ((j : ℕ) → slice_index (tick_data cs) j < 2 ^ width) → slice_index (cond b (c.in_data ∷ tick_data cs) (tick_data cs)) k < 2 ^ width
    by true zero rest = fit.0
    by true (suc k) rest = rest k
    by false k rest = rest k

-- a pattern of 0 is the number 0
pub signed_zero : (width : ℕ) → signed width 0 ≡ pos 0
unfolding signed
signed_zero width = ap (λ (b : Bool). cond b (pos 0) (pos 0 -ℤ pos (2 ^ width))) (below (2 ^ (width - 1)) (pow_pos (width - 1)))
  where
    below : (n : ℕ) → 0 < n → ltb 0 n ≡ true
    below n h = grind arith

pub read_samples : (width : ℕ) (xs : List ℕ) (k : ℕ) → get_or (map (signed width) xs) k (pos 0) ≡ signed width (slice_index xs k)
read_samples width [] k = sym (signed_zero width)
read_samples width (x ∷ xs) zero = refl
read_samples width (x ∷ xs) (suc k) = read_samples width xs k

-- they are what the input is, 0 past the last
pub numbers_are : (width : ℕ) (cs : List Cycle) (t : ℕ) → samples_of width cs t ≡ samples (numbers_in width cs) (pos t)
numbers_are width cs t = sym (read_samples width (tick_data cs) t)

pub numbers_fit : (width : ℕ) → 1 ≤ width → (cs : List Cycle) → EachFits width cs → All (FitsWidth width) (numbers_in width cs)
numbers_fit width wide cs fit k d below =
    subst (FitsWidth width) (sym (read_samples width (tick_data cs) k) ∙ get_or_default (numbers_in width cs) k (pos 0) d below) (signed_is width (slice_index (tick_data cs) k) wide (data_fits width cs fit k)).0
