-- Both runs of a net are cut lawfully.
use Rattle.std.proofs.lemmas.Nat.{pow_below}
use Rattle.std.proofs.lemmas.Int.{ints}
use Rattle.std.proofs.Common.{◌≡◌, ℕ, ◌≤◌, refl, arith, subst, ℤ, Bool, true, false, ◌+◌, ◌-◌, ◌^◌, ◌<◌, pos, ◌-ℤ◌, ◌*ℤ◌}
use Rattle.mr_values.specs.Width.{wrap, FitsWidth}
use Rattle.mr_values.proofs.WidthLemmas.{wrap_fits, FitsWidth-wrap, FitsWidth-more, FitsWidth-*, fits_in, fits_out}
use Rattle.net_graph.specs.Cut.{cut_all, cut_control, IsCut}

wrap_again : (w : ℕ) (v : ℤ) → 1 ≤ w → wrap w (wrap w v) ≡ wrap w v
wrap_again w v wide = wrap_fits w (wrap w v) wide (FitsWidth-wrap w v wide)

kept_fits : (w : ℕ) (v : ℤ) → 1 ≤ w → wrap w v ≡ v → FitsWidth w v
kept_fits w v wide e = subst (λ (z : ℤ). FitsWidth w z) e (FitsWidth-wrap w v wide)

scales : (w by : ℕ) (v : ℤ) → 1 ≤ w → wrap w v ≡ v → wrap (w + by) (v *ℤ pos (2 ^ by)) ≡ v *ℤ pos (2 ^ by)
scales w by v wide e = wrap_fits (w + by) (v *ℤ pos (2 ^ by)) (let h = wide in omega arith) (FitsWidth-* w by v wide (kept_fits w v wide e))

negates : (w : ℕ) (v : ℤ) → 1 ≤ w → wrap w v ≡ v → wrap (w + 1) (pos 0 -ℤ v) ≡ pos 0 -ℤ v
negates w v wide e =
    let o = fits_out w v (kept_fits w v wide e) in
    let same : w + 1 - 1 ≡ w = omega arith in
    let more : 2 ^ (w - 1) < 2 ^ (w + 1 - 1) = rw same (pow_below (w - 1) w (omega arith)) in
    wrap_fits (w + 1) (pos 0 -ℤ v) (let h = wide in omega arith) (fits_in (w + 1) (pos 0 -ℤ v) (omega (arith, ints, o, more)) (omega (arith, ints, o, more)))

pub IsCut-all : IsCut cut_all
IsCut-all = record {
  fitting = λ control width v wide fits. wrap_fits width v wide fits;
  again = λ control width v wide. wrap_again width v wide;
  data_keeps = λ control width more v wide less e. wrap_fits more v (let w = wide in let l = less in omega arith) (FitsWidth-more width more v less (subst (λ (z : ℤ). FitsWidth width z) e (FitsWidth-wrap width v wide)));
  data_scales = λ control width by v wide e. scales width by v wide e;
  data_negates = λ control width v wide e. negates width v wide e;
  controls = λ width v. refl;
}

fitting_control : (control : Bool) (width : ℕ) (v : ℤ) → 1 ≤ width → FitsWidth width v → cut_control control width v ≡ v
fitting_control true width v wide fits = wrap_fits width v wide fits
fitting_control false width v wide fits = refl

again_control : (control : Bool) (width : ℕ) (v : ℤ) → 1 ≤ width → cut_control control width (cut_control control width v) ≡ cut_control control width v
again_control true width v wide = wrap_again width v wide
again_control false width v wide = refl

pub IsCut-control : IsCut cut_control
IsCut-control = record {
  fitting = fitting_control;
  again = again_control;
  data_keeps = λ control width more v wide less e. refl;
  data_scales = λ control width by v wide e. refl;
  data_negates = λ control width v wide e. refl;
  controls = λ width v. refl;
}
