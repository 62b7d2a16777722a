-- A linear register of which one sum needs its width has two bits or more.
use Rattle.std.proofs.Common.{◌≡◌, ◌≢◌, ◌∙◌, ℕ, zero, suc, ◌+◌, ◌≤◌, Bool, true, false, if◌then◌else◌, nat_eq, List, [], ◌∷◌, ◌++◌, map, take, Option, Some, None, slice_get, max, refl, sym, ap, subst, arith}
use Rattle.mr_values.specs.declared.plan.Element.{Element}
use Rattle.mr_values.specs.Timing.{Group, Fir, DownCic, UpCic, Rounding, Clipping, Stream, groups, input, after}
use Rattle.plan_check.specs.Groups.{size_of}
use Rattle.stage_law.specs.Registers.{HeldSum, StageRegister, Telling, bits_of, bits_for, needing}
use Rattle.chain_build.specs.Linear.{PrefixStream, LinearRegister, prefix_range, register_of, group_registers, output_register, linear_from, linear}

one_bit : (range : Telling) (sums : List HeldSum) → 1 ≤ bits_of range sums
one_bit range [] = omega arith
one_bit range (s ∷ sums) = let rest = one_bit range sums in omega (arith, rest)

-- it has two bits or more, where a sum needs its width
abbrev IsSized : LinearRegister → Type 0
IsSized r = (s : HeldSum) → r.needed ≡ Some s → 2 ≤ r.width

beyond_one : (bits : ℕ) (found : Option HeldSum) (s : HeldSum) → 1 ≤ bits → (is_one : Bool) → nat_eq bits 1 ≡ is_one → (if is_one then None else found) ≡ Some s → 2 ≤ bits
beyond_one zero found s some b same needed = omega (arith, some)
beyond_one (suc zero) found s some true same needed = absurd (cc)
beyond_one (suc zero) found s some false same needed = absurd (cc)
beyond_one (suc (suc n)) found s some b same needed = omega arith

register_sized : (w group : ℕ) (stream : PrefixStream) (r : StageRegister) → IsSized (register_of w group stream r)
register_sized w group stream r s needed =
    let range = prefix_range w stream.elements in
    beyond_one (bits_of range r.sums) (needing range (bits_of range r.sums) r.sums) s (one_bit range r.sums) (nat_eq (bits_of range r.sums) 1) refl needed

abbrev AreSized : List LinearRegister → Type 0
AreSized rs = (i : ℕ) (r : LinearRegister) → slice_get rs i ≡ Some r → IsSized r

some_same : {X : Type 0} {x y : X} → Some x ≡ Some y → x ≡ y
some_same e = cc

before : (w group : ℕ) (stream : PrefixStream) (registers : List StageRegister) (rest : List LinearRegister) → AreSized rest → AreSized (map (register_of w group stream) registers ++ rest)
before w group stream [] rest sized i r there = sized i r there
before w group stream (x ∷ registers) rest sized zero r there = subst IsSized (some_same there) (register_sized w group stream x)
before w group stream (x ∷ registers) rest sized (suc i) r there = before w group stream registers rest sized i r there

none_sized : AreSized []
none_sized i r there = absurd (cc)

from_sized : (w : ℕ) (elements : List Element) (number taken : ℕ) (s : Stream) (gs : List Group) → AreSized (linear_from w elements number taken s gs)
from_sized w elements number taken s [] = before w 0 (record { elements = elements; period = s.period; offset = s.offset }) (output_register ∷ []) [] none_sized
from_sized w elements number taken s (Rounding shift mode ∷ gs) = none_sized
from_sized w elements number taken s (Clipping bits ∷ gs) = none_sized
from_sized w elements number taken s (Fir up filter down ∷ gs) =
    before w number (record { elements = take taken elements; period = s.period; offset = s.offset }) (group_registers (Fir up filter down) s) _ (from_sized w elements (number + 1) (taken + size_of (Fir up filter down)) (after (Fir up filter down) s) gs)
from_sized w elements number taken s (DownCic factor stages delay ∷ gs) =
    from_sized w elements (number + 1) (taken + size_of (DownCic factor stages delay)) (after (DownCic factor stages delay) s) gs
from_sized w elements number taken s (UpCic factor stages delay ∷ gs) =
    from_sized w elements (number + 1) (taken + size_of (UpCic factor stages delay)) (after (UpCic factor stages delay) s) gs

pub two_bits : (w ticks : ℕ) (elements : List Element) (place : ℕ) (r : LinearRegister) (s : HeldSum) → slice_get (linear w ticks elements) place ≡ Some r → r.needed ≡ Some s → 2 ≤ r.width
two_bits w ticks elements place r s there needed = from_sized w elements 1 0 (input w ticks) (groups elements) place r there s needed
