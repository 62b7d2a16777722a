-- Streams of what is the same.
use Rattle.std.proofs.Common.{◌≡◌, ℕ, subst, sym}
use Rattle.mr_values.specs.Sequence.{Sequence}
use Rattle.stage_law.specs.Streams.{Streams}
use Rattle.width_extreme.specs.Prefix.{IsStream}

pub same_streams : {f g : Sequence → Sequence} {w u : ℕ} (P : Streams → Type 0) → f ≡ g → w ≡ u → P (IsStream g u) → P (IsStream f w)
same_streams {f} {g} {w} {u} P functions widths h = subst (λ (n : ℕ). P (IsStream f n)) (sym widths) (subst (λ (t : Sequence → Sequence). P (IsStream t u)) (sym functions) h)

pub streams_same : {f g : Sequence → Sequence} {w u : ℕ} (P : Streams → Type 0) → f ≡ g → w ≡ u → P (IsStream f w) → P (IsStream g u)
streams_same {f} {g} {w} {u} P functions widths h = subst (λ (n : ℕ). P (IsStream g n)) widths (subst (λ (t : Sequence → Sequence). P (IsStream t w)) functions h)
