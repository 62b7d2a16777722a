use Rattle.std.proofs.Common.{◌≡◌, ℕ, true, take, sym, subst}
use Rattle.std.specs.List.{list_all}
use Rattle.std.specs.Char.{is_ascii_digit}
use Rattle.plan_reader.proofs.TapSteps.{all_front}
use Rattle.plan_reader.proofs.tap_fields.signed_tap.Goals as goal

pub magnitude-requires : goal.magnitude-requires
magnitude-requires c = subst (λ (n : ℕ). list_all is_ascii_digit (take n c.args.bytes.now) ≡ true) (sym c.digits_in_front-count.ensures.count) (all_front is_ascii_digit c.args.bytes.now)
