-- The linear registers of the groups that were added so far.
use Rattle.std.proofs.Common.{◌≡◌, ◌⊎◌, ℕ, zero, suc, ◌+◌, ◌<◌, ◌≤◌, Bool, true, false, if◌then◌else◌, List, [], ◌∷◌, ◌++◌, length, map, take, append_assoc, Some, slice_get, refl, sym, ◌∙◌, ap, subst, arith, inl, inr}
use Rattle.mr_values.specs.declared.plan.Element.{Element}
use Rattle.mr_values.specs.Timing.{Group, Fir, DownCic, UpCic, Rounding, Clipping, Stream as Timed, groups, input, after, last_stream}
use Rattle.net_graph.specs.declared.cell.Cell.{Cell}
use Rattle.net_graph.specs.declared.cell.Stream.{Stream}
use Rattle.net_graph.specs.declared.name.Name.{Name}
use Rattle.net_graph.specs.declared.name.NameKind.TheVariants.{Control}
use Rattle.net_graph.specs.Grow.{Extends}
use Rattle.net_graph.specs.WellFormed.{IsFree}
use Rattle.plan_check.specs.Groups.{size_of}
use Rattle.chain_build.specs.Built.{rounds, has_rounding}
use Rattle.chain_build.specs.Linear.{LinearRegister, PrefixStream, linear, linear_from, register_of, group_registers, is_linear_number, output_register, is_linear_group}
use Rattle.chain_build.specs.LinearNet.{IsListed}
use Rattle.chain_build.proofs.Prefixes.{sizes, sizes-more}
use Rattle.chain_build.proofs.Roundings.{has_rounding-more}
use Rattle.chain_build.specs.LinearOn.{IsRegisterOn, HasGroupRegisters, output_registers}
use Rattle.chain_build.proofs.RegisterOn.{IsRegisterOn-later}

-- ---- lists one behind another

-- an element of two lists, one behind the other, is one of either
pub parted : {A : Type 0} (xs ys : List A) (i : ℕ) (a : A) → slice_get (xs ++ ys) i ≡ Some a → (slice_get xs i ≡ Some a) ⊎ ((j : ℕ) × (slice_get ys j ≡ Some a))
parted [] ys i a is = inr (i, is)
parted (x ∷ xs) ys zero a is = inl is
parted (x ∷ xs) ys (suc i) a is = parted xs ys i a is

pub listed-front : (xs ys : List LinearRegister) (name : Name) → IsListed xs name → IsListed (xs ++ ys) name
listed-front xs ys name l = record { place = l.place; r = l.r; there = front xs ys l.place l.r l.there; named = l.named }
  where
    front : (xs ys : List LinearRegister) (i : ℕ) (r : LinearRegister) → slice_get xs i ≡ Some r → slice_get (xs ++ ys) i ≡ Some r
    front [] ys i r is = absurd (cc)
    front (x ∷ xs) ys zero r is = is
    front (x ∷ xs) ys (suc i) r is = front xs ys i r is

pub listed-back : (xs ys : List LinearRegister) (name : Name) → IsListed ys name → IsListed (xs ++ ys) name
listed-back xs ys name l = record { place = length xs + l.place; r = l.r; there = back xs ys l.place l.r l.there; named = l.named }
  where
    back : (xs ys : List LinearRegister) (i : ℕ) (r : LinearRegister) → slice_get ys i ≡ Some r → slice_get (xs ++ ys) (length xs + i) ≡ Some r
    back [] ys i r is = subst (λ (k : ℕ). slice_get ys k ≡ Some r) (let e : i ≡ 0 + i = omega arith in e) is
    back (x ∷ xs) ys i r is = subst (λ (k : ℕ). slice_get (x ∷ (xs ++ ys)) k ≡ Some r) (let e : suc (length xs + i) ≡ suc (length xs) + i = omega arith in e) (back xs ys i r is)

-- ---- what is left of a plan's list

-- the stream before a group
abbrev pub stream_at : List Element → ℕ → Timed → PrefixStream
stream_at whole taken s = record { elements = take taken whole; period = s.period; offset = s.offset }

-- the registers of a group that doesn't round, and those of the groups behind it
abbrev pub own_registers : ℕ → List Element → ℕ → ℕ → Timed → Group → List LinearRegister
own_registers width whole number taken s g = map (register_of width number (stream_at whole taken s)) (group_registers g s)

pub linear_from-more : (width : ℕ) (whole : List Element) (number taken : ℕ) (s : Timed) (g : Group) (gs : List Group) → rounds g ≡ false
    → linear_from width whole number taken s (g ∷ gs) ≡ own_registers width whole number taken s g ++ linear_from width whole (number + 1) (taken + size_of g) (after g s) gs
linear_from-more width whole number taken s (Fir up filter down) gs is = refl
linear_from-more width whole number taken s (DownCic factor stages delay) gs is = refl
linear_from-more width whole number taken s (UpCic factor stages delay) gs is = refl
linear_from-more width whole number taken s (Rounding shift mode) gs is = absurd (cc)
linear_from-more width whole number taken s (Clipping bits) gs is = absurd (cc)

pub linear_from-none : (width : ℕ) (whole : List Element) (number taken : ℕ) (s : Timed) (g : Group) (gs : List Group) → rounds g ≡ true → linear_from width whole number taken s (g ∷ gs) ≡ []
linear_from-none width whole number taken s (Fir up filter down) gs is = absurd (cc)
linear_from-none width whole number taken s (DownCic factor stages delay) gs is = absurd (cc)
linear_from-none width whole number taken s (UpCic factor stages delay) gs is = absurd (cc)
linear_from-none width whole number taken s (Rounding shift mode) gs is = refl
linear_from-none width whole number taken s (Clipping bits) gs is = refl

-- ---- so far

-- the registers that are still to come
abbrev pub coming : Bool → ℕ → List Element → ℕ → ℕ → Timed → List Group → List LinearRegister
coming true width whole number taken s gs = []
coming false width whole number taken s gs = linear_from width whole number taken s gs

-- a name of a linear group of a number below this one, which some node has
pub record IsLinearTaken (whole : List Element) (cells : List Cell) (number : ℕ) (name : Name) : Type 0 where
  pub taken : IsFree cells name → ⊥
  pub is_data : name.kind ≡ Control → ⊥
  pub some : 1 ≤ name.group
  pub below : name.group < number
  pub linear_group : is_linear_number (groups whole) name.group ≡ true

pub record RegistersSoFar (width ticks : ℕ) (whole : List Element) (cells : List Cell) (from : Stream) (front rest : List Group) (s : Timed) (number : ℕ) : Type 0 where
  pub listed : List LinearRegister
  pub parts : listed ++ coming (has_rounding front) width whole number (sizes front) s rest ≡ linear width ticks whole
  pub each : (i : ℕ) (r : LinearRegister) → slice_get listed i ≡ Some r → IsRegisterOn width cells from r
  pub only : (name : Name) → IsLinearTaken whole cells number name → IsListed listed name

pub RegistersSoFar-start : (width ticks : ℕ) (whole : List Element) (cells : List Cell) (from : Stream) → RegistersSoFar width ticks whole cells from [] (groups whole) (input width ticks) 1
RegistersSoFar-start width ticks whole cells from = record {
  listed = [];
  parts = refl;
  each = λ i r there. absurd (cc);
  only = λ name is. absurd (let some = is.some in let below = is.below in omega arith);
}

-- ---- one group more

-- a name of a register of the group, where neither it nor one before it rounds
pub record IsOwn (width : ℕ) (whole : List Element) (front : List Group) (g : Group) (s : Timed) (number : ℕ) (name : Name) : Type 0 where
  pub before : has_rounding front ≡ false
  pub plain : rounds g ≡ false
  pub is_listed : IsListed (own_registers width whole number (sizes front) s g) name

-- what a group adds, before any rounding
pub record IsStep (width : ℕ) (whole : List Element) (old new : List Cell) (from : Stream) (front : List Group) (g : Group) (s : Timed) (number : ℕ) : Type 0 where
  pub extends : Extends old new
  pub own : has_rounding front ≡ false → rounds g ≡ false → (i : ℕ) (r : LinearRegister) → slice_get (own_registers width whole number (sizes front) s g) i ≡ Some r → IsRegisterOn width new from r
  pub only : (name : Name) → IsLinearTaken whole new (number + 1) name → IsLinearTaken whole old number name
      ⊎ IsOwn width whole front g s number name

module _ {width ticks : ℕ} {whole : List Element} {old new : List Cell} {from : Stream} {front rest others : List Group} {g : Group} {s : Timed} {number : ℕ} (so : RegistersSoFar width ticks whole old from front rest s number)
    (split : rest ≡ g ∷ others) (step : IsStep width whole old new from front g s number) where
  abbrev own : List LinearRegister
  own = own_registers width whole number (sizes front) s g

  was : (b : Bool) → has_rounding front ≡ b → so.listed ++ coming b width whole number (sizes front) s (g ∷ others) ≡ linear width ticks whole
  was b is = subst (λ (gs : List Group). so.listed ++ coming b width whole number (sizes front) s gs ≡ linear width ticks whole) split
      (subst (λ (c : Bool). so.listed ++ coming c width whole number (sizes front) s rest ≡ linear width ticks whole) is so.parts)

  later : (i : ℕ) (r : LinearRegister) → slice_get so.listed i ≡ Some r → IsRegisterOn width new from r
  later i r there = IsRegisterOn-later step.extends (so.each i r there)

  -- no register of a linear group was added
  same : (b : Bool) → has_rounding (front ++ g ∷ []) ≡ b → so.listed ++ coming b width whole (number + 1) (sizes (front ++ g ∷ [])) (after g s) others ≡ linear width ticks whole
      → ((has_rounding front ≡ false) → (rounds g ≡ false) → ⊥) → RegistersSoFar width ticks whole new from (front ++ g ∷ []) others (after g s) (number + 1)
  same b is parts none = record {
    listed = so.listed;
    parts = subst (λ (c : Bool). so.listed ++ coming c width whole (number + 1) (sizes (front ++ g ∷ [])) (after g s) others ≡ linear width ticks whole) (sym is) parts;
    each = later;
    only = λ name taken. elim (step.only name taken) [
      | inl before ↦ so.only name before
      | inr here ↦ absurd (none here.before here.plain)
    ];
  }

  rounded : (b : Bool) → has_rounding front ≡ b → has_rounding (front ++ g ∷ []) ≡ (if b then true else rounds g)
  rounded b is = has_rounding-more front g ∙ ap (λ (c : Bool). if c then true else rounds g) is

  by : (b r : Bool) → has_rounding front ≡ b → rounds g ≡ r → RegistersSoFar width ticks whole new from (front ++ g ∷ []) others (after g s) (number + 1)
  by true r is round_is = same true (rounded true is) (was true is) (λ f h. absurd (let e : true ≡ false = sym is ∙ f in cc))
  by false true is round_is =
      same true (rounded false is ∙ round_is) (ap (λ (rs : List LinearRegister). so.listed ++ rs) (sym (linear_from-none width whole number (sizes front) s g others round_is)) ∙ was false is)
      (λ f h. absurd (let e : true ≡ false = sym round_is ∙ h in cc))
  by false false is round_is = record {
    listed = so.listed ++ own;
    parts = subst (λ (c : Bool). (so.listed ++ own) ++ coming c width whole (number + 1) (sizes (front ++ g ∷ [])) (after g s) others ≡ linear width ticks whole) (sym (rounded false is ∙ round_is))
        (subst (λ (taken : ℕ). (so.listed ++ own) ++ linear_from width whole (number + 1) taken (after g s) others ≡ linear width ticks whole) (sym (sizes-more front g))
        (append_assoc so.listed own (linear_from width whole (number + 1) (sizes front + size_of g) (after g s) others)
        ∙ ap (λ (rs : List LinearRegister). so.listed ++ rs) (sym (linear_from-more width whole number (sizes front) s g others round_is))
        ∙ was false is));
    each = λ i r there. elim (parted so.listed own i r there) [
      | inl before ↦ later i r before
      | inr here ↦ step.own is round_is here.0 r here.1
    ];
    only = λ name taken. elim (step.only name taken) [
      | inl before ↦ listed-front so.listed own name (so.only name before)
      | inr here ↦ listed-back so.listed own name here.is_listed
    ];
  }

  pub RegistersSoFar-next : RegistersSoFar width ticks whole new from (front ++ g ∷ []) others (after g s) (number + 1)
  RegistersSoFar-next = by (has_rounding front) (rounds g) refl refl

-- ---- all groups

linear-below : (gs : List Group) (n : ℕ) → is_linear_group gs n ≡ true → n < length gs
linear-below [] n is = absurd (cc)
linear-below (Rounding shift mode ∷ gs) n is = absurd (cc)
linear-below (Clipping bits ∷ gs) n is = absurd (cc)
linear-below (Fir u f d ∷ gs) zero is = omega arith
linear-below (DownCic a b c ∷ gs) zero is = omega arith
linear-below (UpCic a b c ∷ gs) zero is = omega arith
linear-below (Fir u f d ∷ gs) (suc n) is = let h = linear-below gs n is in omega (arith, h)
linear-below (DownCic a b c ∷ gs) (suc n) is = let h = linear-below gs n is in omega (arith, h)
linear-below (UpCic a b c ∷ gs) (suc n) is = let h = linear-below gs n is in omega (arith, h)

number-below : (gs : List Group) (n : ℕ) → is_linear_number gs n ≡ true → n < 1 + length gs
number-below gs zero is = absurd (cc)
number-below gs (suc n) is = let h = linear-below gs n is in omega (arith, h)

-- what is still to come behind all groups is the output's register
pub coming-none : (width ticks : ℕ) (whole : List Element) (number taken : ℕ) (b : Bool) → has_rounding (groups whole) ≡ b
    → coming b width whole number taken (last_stream width ticks whole) [] ≡ output_registers width ticks whole
coming-none width ticks whole number taken true is =
    sym (ap (λ (b : Bool). if b then [] else register_of width 0 (record { elements = whole; period = (last_stream width ticks whole).period; offset = (last_stream width ticks whole).offset }) output_register ∷ []) is)
coming-none width ticks whole number taken false is =
    sym (ap (λ (b : Bool). if b then [] else register_of width 0 (record { elements = whole; period = (last_stream width ticks whole).period; offset = (last_stream width ticks whole).offset }) output_register ∷ []) is)

pub RegistersSoFar-end : {width ticks : ℕ} {whole : List Element} {cells : List Cell} {from : Stream} {rest : List Group} {number : ℕ} → RegistersSoFar width ticks whole cells from (groups whole) rest (last_stream width ticks whole) number → rest ≡ []
    → number ≡ 1 + length (groups whole) → HasGroupRegisters width ticks whole cells from
RegistersSoFar-end {width} {ticks} {whole} {cells} {from} {rest} {number} so none count = record {
  listed = so.listed;
  parts = ap (λ (rs : List LinearRegister). so.listed ++ rs) (sym (coming-none width ticks whole number (sizes (groups whole)) (has_rounding (groups whole)) refl))
      ∙ ap (λ (gs : List Group). so.listed ++ coming (has_rounding (groups whole)) width whole number (sizes (groups whole)) (last_stream width ticks whole) gs) (sym none) ∙ so.parts;
  each = so.each;
  only = λ name taken other some is. so.only name (record { taken = taken; is_data = other; some = some; below = let b = number-below (groups whole) name.group is in omega (arith, b, count); linear_group = is });
}
