-- A flat step gives what its right side gives.
use Rattle.std.proofs.Common.{◌≡◌, ℕ, ◌+◌, ◌-◌, ◌*◌, ◌/◌, ◌%◌, ◌^◌, ◌<◌, ◌≤◌, max, min, bit_and, Bool, true, false, ◌&&◌, refl, sym, ◌∙◌, ap, subst, arith, inl, inr}
use Rattle.std.specs.Prelude.{◌==◌, nat_le, if◌then◌else◌}
use Rattle.std.proofs.lemmas.Bool.{cases_lt}
use Rattle.std.proofs.lemmas.Nat.{pow_pos, pow-add, mod_below}
use Rattle.std.proofs.Math.Nat.{mod-eq_of_lt, div-le_self, add-mul-mod_self_left, mul-sub}
use Rattle.verilog_tree.specs.declared.tree.Op.TheVariants.{Add, Sub, Equal}
use Rattle.verilog_tree.specs.declared.tree.ShiftOp.TheVariants.{Left, Right, ArithRight}
use Rattle.verilog_tree.specs.Tree.{Name, Part, Binary, Shift, Choice}
use Rattle.verilog_tree.specs.Meaning.{Shapes, Values, FitNames, assigned, extension, bit_of, picked, top_bit}
use Rattle.verilog_tree.proofs.Powers.{power_order, low_mask, low_of_low, shift_small}
use Rattle.clock_sim.specs.declared.operand.Operand.{Operand}
use Rattle.clock_sim.specs.declared.operand.Handed.{Handed}
use Rattle.clock_sim.specs.Steps.{AllFitting, IsMask, IsOperandOf, IsHanded, operand_value, raised}

-- ---- numbers below powers

raise_is : (s : Bool) (half fill top bits extra : ℕ) → fill ≡ (if s then extra else 0) → bits + extra < 2 ^ 128
    → raised half fill top bits ≡ (if s && nat_le half top then bits + extra else bits)
raise_is true half fill top bits extra is small = by (nat_le half top)
  where
    by : (t : Bool) → (if t then (bits + fill) % 2 ^ 128 else bits) ≡ (if t then bits + extra else bits)
    by true = ap (λ (f : ℕ). (bits + f) % 2 ^ 128) is ∙ mod-eq_of_lt small
    by false = refl
raise_is false half fill top bits extra is small = by (nat_le half top)
  where
    by : (t : Bool) → (if t then (bits + fill) % 2 ^ 128 else bits) ≡ bits
    by true =
        let none : (bits + fill) ≡ bits = omega (arith, is) in
        let below : bits < 2 ^ 128 = omega (arith, small) in
        ap (λ (n : ℕ). n % 2 ^ 128) none ∙ mod-eq_of_lt below
    by false = refl

extension_small : (w l : ℕ) (s : Bool) (x : ℕ) → w ≤ l → x < 2 ^ w → extension w l s x < 2 ^ l
extension_small w l s x le lt = by (s && top_bit w x)
  where
    powers : (2 ^ w ≤ 2 ^ l) × (1 ≤ 2 ^ w)
    powers = power_order w l le

    by : (t : Bool) → (if t then x + (2 ^ l - 2 ^ w) else x) < 2 ^ l
    by true = omega (arith, powers, lt)
    by false = omega (arith, powers, lt)

pub extension_same : (w : ℕ) (s : Bool) (x : ℕ) → extension w w s x ≡ x
extension_same w s x = by (s && top_bit w x)
  where
    by : (t : Bool) → (if t then x + (2 ^ w - 2 ^ w) else x) ≡ x
    by true = omega arith
    by false = refl

wide_cut : (x l t : ℕ) → t ≤ l → l ≤ 128 → x % 2 ^ 128 % 2 ^ t ≡ x % 2 ^ l % 2 ^ t
wide_cut x l t le most = low_of_low x t 128 (omega (arith, le, most)) ∙ sym (low_of_low x t l le)

-- the powers from l up are multiples of that of t
multiple : (t l : ℕ) → t ≤ l → 2 ^ l ≡ 2 ^ t * 2 ^ (l - t)
multiple t l le = let e : l ≡ t + (l - t) = omega arith in ap (λ (n : ℕ). 2 ^ n) e ∙ pow-add 2 t (l - t)

difference_cut : (a b l t : ℕ) → t ≤ l → l ≤ 128 → b ≤ 2 ^ l → (a + (2 ^ 128 - b)) % 2 ^ 128 % 2 ^ t ≡ (a + (2 ^ l - b)) % 2 ^ l % 2 ^ t
difference_cut a b l t le most small =
    wide_cut (a + (2 ^ 128 - b)) l t le most
    ∙ low_of_low (a + (2 ^ 128 - b)) t l le
    ∙ ap (λ (n : ℕ). n % 2 ^ t) split
    ∙ add-mul-mod_self_left (a + (2 ^ l - b)) (2 ^ t) (2 ^ (128 - t) - 2 ^ (l - t))
    ∙ sym (low_of_low (a + (2 ^ l - b)) t l le)
  where
    whole : 2 ^ 128 ≡ 2 ^ t * 2 ^ (128 - t)
    whole = multiple t 128 (omega (arith, le, most))

    part : 2 ^ l ≡ 2 ^ t * 2 ^ (l - t)
    part = multiple t l le

    rest : 2 ^ t * (2 ^ (128 - t) - 2 ^ (l - t)) ≡ 2 ^ 128 - 2 ^ l
    rest = mul-sub (2 ^ t) (2 ^ (128 - t)) (2 ^ (l - t)) ∙ ap (λ (n : ℕ). n - 2 ^ t * 2 ^ (l - t)) (sym whole) ∙ ap (λ (n : ℕ). 2 ^ 128 - n) (sym part)

    split : a + (2 ^ 128 - b) ≡ (a + (2 ^ l - b)) + 2 ^ t * (2 ^ (128 - t) - 2 ^ (l - t))
    split = omega (arith, rest, small, (power_order l 128 most).0)

and_self : (b : Bool) → (b && b) ≡ b
and_self true = refl
and_self false = refl

bit_cut : (b : Bool) (t : ℕ) → 1 ≤ t → bit_of b % 2 ^ t ≡ bit_of b
bit_cut b t some = mod-eq_of_lt (below b)
  where
    two : 2 ≤ 2 ^ t
    two = (power_order 1 t some).0

    below : (b : Bool) → bit_of b < 2 ^ t
    below true = omega (arith, two)
    below false = omega (arith, two)

-- ---- steps over the values of a moment

module _ (shapes : Shapes) (all : AllFitting shapes) (v : Values) (names : FitNames shapes v) where
  operand_is : (n l : ℕ) (s : Bool) (o : Operand) → IsOperandOf shapes n l s o → shapes.width n ≤ l → l ≤ 128 → operand_value o v ≡ extension (shapes.width n) l s (v n)
  operand_is n l s o h le most =
      ap (λ (m : ℕ). raised o.half o.fill (v m) (v m)) h.name
      ∙ ap (λ (k : ℕ). raised k o.fill (v n) (v n)) h.half
      ∙ raise_is s (2 ^ (shapes.width n - 1)) o.fill (v n) (v n) (2 ^ l - 2 ^ shapes.width n) h.fill
      (omega (arith, names.each n, (power_order (shapes.width n) l le).0, (power_order l 128 most).0))

  -- an operand of two names that are handed a length and a sign
  module _ (target a b : ℕ) (h : Handed) (handed : IsHanded shapes a b (shapes.width target) h) where
    abbrev W : ℕ
    W = max (max (shapes.width a) (shapes.width b)) (shapes.width target)

    abbrev S : Bool
    S = shapes.signed a && shapes.signed b

    limit : W ≤ 128
    limit = omega (arith, (all.each a).most, (all.each b).most, (all.each target).most)

    moved : (n : ℕ) (o : Operand) → IsOperandOf shapes n h.length h.signed o → IsOperandOf shapes n W S o
    moved n o is = subst (λ (l : ℕ). IsOperandOf shapes n l S o) handed.length (subst (λ (s : Bool). IsOperandOf shapes n h.length s o) handed.signed is)

    first_is : (o : Operand) → IsOperandOf shapes a h.length h.signed o → operand_value o v ≡ extension (shapes.width a) W S (v a)
    first_is o is = operand_is a W S o (moved a o is) (omega arith) limit

    second_is : (o : Operand) → IsOperandOf shapes b h.length h.signed o → operand_value o v ≡ extension (shapes.width b) W S (v b)
    second_is o is = operand_is b W S o (moved b o is) (omega arith) limit

    module _ (mask : ℕ) (is_mask : IsMask (shapes.width target) mask) (p q : Operand) (first : IsOperandOf shapes a h.length h.signed p) (second : IsOperandOf shapes b h.length h.signed q) where
      abbrev A : ℕ
      A = extension (shapes.width a) W S (v a)

      abbrev B : ℕ
      B = extension (shapes.width b) W S (v b)

      pub sum_is : bit_and ((operand_value p v + operand_value q v) % 2 ^ 128) mask ≡ assigned shapes v target (Binary Add (Name a) (Name b))
      sum_is =
          low_mask _ mask (shapes.width target) is_mask.all
          ∙ ap (λ (x : ℕ). (x + operand_value q v) % 2 ^ 128 % 2 ^ shapes.width target) (first_is p first)
          ∙ ap (λ (y : ℕ). (A + y) % 2 ^ 128 % 2 ^ shapes.width target) (second_is q second)
          ∙ wide_cut (A + B) W (shapes.width target) (omega arith) limit

      pub difference_is : bit_and ((operand_value p v + (2 ^ 128 - operand_value q v)) % 2 ^ 128) mask ≡ assigned shapes v target (Binary Sub (Name a) (Name b))
      difference_is =
          let small = extension_small (shapes.width b) W S (v b) (omega arith) (names.each b) in
          low_mask _ mask (shapes.width target) is_mask.all
          ∙ ap (λ (x : ℕ). (x + (2 ^ 128 - operand_value q v)) % 2 ^ 128 % 2 ^ shapes.width target) (first_is p first)
          ∙ ap (λ (y : ℕ). (A + (2 ^ 128 - y)) % 2 ^ 128 % 2 ^ shapes.width target) (second_is q second)
          ∙ difference_cut A B W (shapes.width target) (omega arith) limit (omega (arith, small))

      pub choice_is : (c : ℕ) → bit_and (picked (v c) (operand_value p v) (operand_value q v)) mask ≡ assigned shapes v target (Choice (Name c) (Name a) (Name b))
      choice_is c =
          low_mask _ mask (shapes.width target) is_mask.all
          ∙ ap (λ (x : ℕ). picked (v c) x (operand_value q v) % 2 ^ shapes.width target) (first_is p first)
          ∙ ap (λ (y : ℕ). picked (v c) A y % 2 ^ shapes.width target) (second_is q second)
          ∙ ap (λ (z : ℕ). picked z A B % 2 ^ shapes.width target) (sym (extension_same (shapes.width c) (shapes.signed c) (v c)))

  module _ (target a b : ℕ) (h : Handed) (p q : Operand) (handed : IsHanded shapes a b 0 h) (first : IsOperandOf shapes a h.length h.signed p) (second : IsOperandOf shapes b h.length h.signed q) where
    abbrev l : ℕ
    l = max (shapes.width a) (shapes.width b)

    abbrev s : Bool
    s = shapes.signed a && shapes.signed b

    narrow : l ≤ 128
    narrow = omega (arith, (all.each a).most, (all.each b).most)

    own : h.length ≡ l
    own = handed.length ∙ omega arith

    at_own : (n : ℕ) (o : Operand) → IsOperandOf shapes n h.length h.signed o → IsOperandOf shapes n l s o
    at_own n o is = subst (λ (m : ℕ). IsOperandOf shapes n m s o) own (subst (λ (t : Bool). IsOperandOf shapes n h.length t o) handed.signed is)

    pub same_is : bit_of (operand_value p v == operand_value q v) ≡ assigned shapes v target (Binary Equal (Name a) (Name b))
    same_is =
        ap (λ (x : ℕ). bit_of (x == operand_value q v)) (operand_is a l s p (at_own a p first) (omega arith) narrow)
        ∙ ap (λ (y : ℕ). bit_of (extension (shapes.width a) l s (v a) == y)) (operand_is b l s q (at_own b q second) (omega arith) narrow)
        ∙ sym (bit_cut (extension (shapes.width a) l s (v a) == extension (shapes.width b) l s (v b)) (shapes.width target) (all.each target).least)

  -- an operand alone
  module _ (target n : ℕ) (h : Handed) (handed : IsHanded shapes n n (shapes.width target) h) (o : Operand) (is_operand : IsOperandOf shapes n h.length h.signed o) where
    abbrev L : ℕ
    L = max (shapes.width n) (shapes.width target)

    abbrev T : Bool
    T = shapes.signed n

    pub long : h.length ≡ L
    long = handed.length ∙ omega arith

    pub signed : h.signed ≡ T
    signed = handed.signed ∙ and_self (shapes.signed n)

    pub most : L ≤ 128
    most = omega (arith, (all.each n).most, (all.each target).most)

    abbrev X : ℕ
    X = extension (shapes.width n) L T (v n)

    alone_is : operand_value o v ≡ X
    alone_is =
        operand_is n L T o (subst (λ (m : ℕ). IsOperandOf shapes n m T o) long (subst (λ (t : Bool). IsOperandOf shapes n h.length t o) signed is_operand)) (omega arith) most

    small : X < 2 ^ L
    small = extension_small (shapes.width n) L T (v n) (omega arith) (names.each n)

    module _ (mask : ℕ) (is_mask : IsMask (shapes.width target) mask) where
      pub copy_is : bit_and (operand_value o v) mask ≡ assigned shapes v target (Name n)
      copy_is = low_mask _ mask (shapes.width target) is_mask.all ∙ ap (λ (x : ℕ). x % 2 ^ shapes.width target) alone_is

      pub left_is : (amount : ℕ) → bit_and (operand_value o v * 2 ^ amount % 2 ^ 128) mask ≡ assigned shapes v target (Shift Left (Name n) amount)
      left_is amount =
          low_mask _ mask (shapes.width target) is_mask.all
          ∙ ap (λ (x : ℕ). x * 2 ^ amount % 2 ^ 128 % 2 ^ shapes.width target) alone_is
          ∙ wide_cut (X * 2 ^ amount) L (shapes.width target) (omega arith) most

      pub right_is : (amount half fill : ℕ) → fill ≡ 0 → bit_and (raised half fill (operand_value o v) (operand_value o v / 2 ^ amount)) mask ≡ assigned shapes v target (Shift Right (Name n) amount)
      right_is amount half fill none =
          low_mask _ mask (shapes.width target) is_mask.all
          ∙ ap (λ (x : ℕ). raised half fill x (x / 2 ^ amount) % 2 ^ shapes.width target) alone_is
          ∙ ap (λ (x : ℕ). x % 2 ^ shapes.width target)
          (raise_is false half fill X (X / 2 ^ amount) 0 none (omega (arith, small, div-le_self X (2 ^ amount), (power_order L 128 most).0)))

      pub arith_right_is : (amount half fill : ℕ) → half ≡ 2 ^ (h.length - 1) → fill ≡ (if h.signed then 2 ^ h.length - 2 ^ (h.length - amount) else 0)
          → bit_and (raised half fill (operand_value o v) (operand_value o v / 2 ^ amount)) mask ≡ assigned shapes v target (Shift ArithRight (Name n) amount)
      arith_right_is amount half fill top is_fill =
          low_mask _ mask (shapes.width target) is_mask.all
          ∙ ap (λ (x : ℕ). raised half fill x (x / 2 ^ amount) % 2 ^ shapes.width target) alone_is
          ∙ ap (λ (k : ℕ). raised k fill X (X / 2 ^ amount) % 2 ^ shapes.width target) (top ∙ ap (λ (m : ℕ). 2 ^ (m - 1)) long)
          ∙ ap (λ (x : ℕ). x % 2 ^ shapes.width target)
          (raise_is T (2 ^ (L - 1)) fill X (X / 2 ^ amount) (2 ^ L - 2 ^ (L - amount))
          (is_fill ∙ ap (λ (t : Bool). if t then 2 ^ h.length - 2 ^ (h.length - amount) else 0) signed ∙ ap (λ (m : ℕ). if T then 2 ^ m - 2 ^ (m - amount) else 0) long)
          (omega (arith, shift_small X L amount small, (power_order (L - amount) L (omega arith)).0, (power_order L 128 most).0)))

  pub part_is : (target n high low mask : ℕ) (o : Operand) → IsOperandOf shapes n (shapes.width n) false o → IsMask (min (high - low + 1) (shapes.width target)) mask
      → bit_and (raised 0 0 (operand_value o v) (operand_value o v / 2 ^ low)) mask ≡ assigned shapes v target (Part n high low)
  part_is target n high low mask o is is_mask =
      low_mask _ mask (min (high - low + 1) (shapes.width target)) is_mask.all
      ∙ ap (λ (x : ℕ). raised 0 0 x (x / 2 ^ low) % 2 ^ min (high - low + 1) (shapes.width target)) (operand_is n (shapes.width n) false o is (omega arith) (all.each n).most)
      ∙ ap (λ (x : ℕ). x % 2 ^ min (high - low + 1) (shapes.width target))
      (raise_is false 0 0 (v n) (v n / 2 ^ low) 0 refl (omega (arith, names.each n, div-le_self (v n) (2 ^ low), (power_order (shapes.width n) 128 (all.each n).most).0)))
      ∙ cut (v n / 2 ^ low) (high - low + 1) (shapes.width target)
    where
      cut : (x p t : ℕ) → x % 2 ^ min p t ≡ x % 2 ^ p % 2 ^ t
      cut x p t = elim (cases_lt p t) [
        | inl lt ↦
            let e : min p t ≡ p = omega arith in
            ap (λ (m : ℕ). x % 2 ^ m) e ∙ sym (mod-eq_of_lt (omega (arith, mod_below x (2 ^ p) (pow_pos p), (power_order p t (omega (arith, lt))).0)))
        | inr le ↦
            let e : min p t ≡ t = omega arith in
            ap (λ (m : ℕ). x % 2 ^ m) e ∙ sym (low_of_low x t p le)
      ]
