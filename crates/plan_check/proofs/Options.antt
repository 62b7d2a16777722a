-- The first of two faults.
use Rattle.std.proofs.Common.{◌≡◌, refl, sym, ap, Option, None, Some}
use Rattle.std.specs.Option.{option_or}

pub after_none : {F : Type 0} (a b : Option F) → None ≡ a → option_or a b ≡ b
after_none a b e = ap (λ x. option_or x b) (sym e)

pub after_some : {F : Type 0} (a b : Option F) (fault : F) → Some fault ≡ a → option_or a b ≡ Some fault
after_some a b fault e = ap (λ x. option_or x b) (sym e)

-- neither of two faults
pub none_of : {F : Type 0} (a b : Option F) → option_or a b ≡ None → (a ≡ None) × (b ≡ None)
none_of None b e = (refl, e)
none_of (Some fault) b e = absurd (cc)
