-- Expressions over signed signals compute whole numbers: from bit patterns to the numbers that they stand for.
use Rattle.std.proofs.Common.{◌≡◌, ℕ, zero, suc, ◌+◌, ◌-◌, ◌*◌, ◌/◌, ◌%◌, ◌^◌, ◌<◌, ◌≤◌, max, Bool, true, false, ◌&&◌, ℤ, pos, negsuc, ◌+ℤ◌, ◌-ℤ◌, ◌*ℤ◌, refl, sym, ◌∙◌, ap, arith}
use Rattle.std.specs.Prelude.{◌==◌}
use Rattle.std.proofs.lemmas.Bool.{eqb-true, eqb-false}
use Rattle.mr_values.specs.Width.{FitsWidth, pattern, extended, wrap, chosen, floor_quotient, floor_remainder}
use Rattle.mr_values.proofs.WidthLemmas.{pattern-+, pattern--, pattern-*, pattern_cut, pattern_same, extended-pattern, FitsWidth-more, FitsWidth-wrap, pattern-wrap, pattern-zero, pattern_some}
use Rattle.verilog_tree.specs.declared.tree.Op.TheVariants.{Add, Sub, Equal}
use Rattle.verilog_tree.specs.declared.tree.ShiftOp.TheVariants.{ArithLeft, ArithRight}
use Rattle.verilog_tree.specs.Tree.{Tree, Name, Part, Based, Binary, Shift, Choice}
use Rattle.verilog_tree.specs.Meaning.{Shapes, Values, length_of, signed_of, value, alone, assigned, picked, shifted, bit_of}
use Rattle.verilog_tree.proofs.Powers.{power_order}
use Rattle.verilog_tree.proofs.BitNumbers.{extension-true, shifted-pattern, selected-pattern}

pattern-one : pattern 1 (pos 1) ≡ 1
unfolding pattern
pattern-one = refl

pattern-pos : (w n : ℕ) → pattern w (pos n) ≡ n % 2 ^ w
unfolding pattern
pattern-pos w n = refl

-- a signal is signed, and has the bits of a number that fits it
pub record Holds (shapes : Shapes) (now : Values) (name : ℕ) (x : ℤ) : Type 0 where
  pub wide : 1 ≤ shapes.width name
  pub sign : shapes.signed name ≡ true
  pub fits : FitsWidth (shapes.width name) x
  pub bits : now name ≡ pattern (shapes.width name) x

-- a signed expression has the bits of a number at every length that is long enough for it
pub record Computes (shapes : Shapes) (now : Values) (e : Tree) (x : ℤ) : Type 0 where
  pub sign : signed_of shapes e ≡ true
  pub value : (l : ℕ) → length_of shapes e ≤ l → value shapes e now l true ≡ pattern l x

-- it is computed, and fits its own length
pub record ComputesFit (shapes : Shapes) (now : Values) (e : Tree) (x : ℤ) : Type 0 where
  pub computes : Computes shapes now e x
  pub wide : 1 ≤ length_of shapes e
  pub fits : FitsWidth (length_of shapes e) x

module _ (shapes : Shapes) (now : Values) where
  -- an assignment cuts the number to the target's bits
  pub assigned_from : (target : ℕ) (e : Tree) (x : ℤ) → Computes shapes now e x → assigned shapes now target e ≡ pattern (shapes.width target) x
  assigned_from target e x c =
      let l = max (length_of shapes e) (shapes.width target) in
      ap (λ (s : Bool). value shapes e now l s % 2 ^ shapes.width target) c.sign
      ∙ ap (λ (n : ℕ). n % 2 ^ shapes.width target) (c.value l (omega arith)) ∙ pattern_cut (shapes.width target) l x (omega arith)

  pub name_computes : (n : ℕ) (x : ℤ) → Holds shapes now n x → ComputesFit shapes now (Name n) x
  name_computes n x h = record {
    computes = record {
      sign = h.sign;
      value = λ l le.
          extension-true (shapes.width n) l (now n) ∙ ap (extended (shapes.width n) l) h.bits ∙ extended-pattern (shapes.width n) l x h.wide le h.fits;
    };
    wide = h.wide;
    fits = h.fits;
  }

  pub literal_computes : (w bits : ℕ) (x : ℤ) → 1 ≤ w → bits ≡ pattern w x → ComputesFit shapes now (Based w true bits) (wrap w x)
  literal_computes w bits x wide is = record {
    computes = record {
      sign = refl;
      value = λ l le.
          extension-true w l bits ∙ ap (extended w l) (is ∙ sym (pattern-wrap w x wide)) ∙ extended-pattern w l (wrap w x) wide le (FitsWidth-wrap w x wide);
    };
    wide = wide;
    fits = FitsWidth-wrap w x wide;
  }

  module _ (a b : Tree) (x y : ℤ) (c : Computes shapes now a x) (d : Computes shapes now b y) where
    both_signed : (signed_of shapes a && signed_of shapes b) ≡ true
    both_signed = ap (λ (s : Bool). s && signed_of shapes b) c.sign ∙ d.sign

    pub add_computes : Computes shapes now (Binary Add a b) (x +ℤ y)
    add_computes = record {
      sign = both_signed;
      value = λ l le.
          ap (λ (n : ℕ). (n + value shapes b now l true) % 2 ^ l) (c.value l (omega arith))
          ∙ ap (λ (n : ℕ). (pattern l x + n) % 2 ^ l) (d.value l (omega arith)) ∙ sym (pattern-+ l x y);
    }

    pub sub_computes : Computes shapes now (Binary Sub a b) (x -ℤ y)
    sub_computes = record {
      sign = both_signed;
      value = λ l le.
          ap (λ (n : ℕ). (n + (2 ^ l - value shapes b now l true)) % 2 ^ l) (c.value l (omega arith))
          ∙ ap (λ (n : ℕ). (pattern l x + (2 ^ l - n)) % 2 ^ l) (d.value l (omega arith)) ∙ sym (pattern-- l x y);
    }

  pub left_computes : (a : Tree) (x : ℤ) (by : ℕ) → Computes shapes now a x → Computes shapes now (Shift ArithLeft a by) (x *ℤ pos (2 ^ by))
  left_computes a x by c = record {
    sign = c.sign;
    value = λ l le. ap (λ (n : ℕ). n * 2 ^ by % 2 ^ l) (c.value l le) ∙ sym (pattern-* l by x);
  }

  pub right_computes : (a : Tree) (x : ℤ) (by : ℕ) → ComputesFit shapes now a x → Computes shapes now (Shift ArithRight a by) (floor_quotient x (2 ^ by))
  right_computes a x by c = record {
    sign = c.computes.sign;
    value = λ l le.
        ap (shifted ArithRight true l by) (c.computes.value l le)
        ∙ shifted-pattern l by x (omega (arith, c.wide)) (λ less. (power_order l by less).0) (FitsWidth-more (length_of shapes a) l x le c.fits);
  }

  -- a self-determined expression has the bits of its number
  pub alone_bits : (e : Tree) (z : ℤ) → ComputesFit shapes now e z → alone shapes now e ≡ pattern (length_of shapes e) z
  alone_bits e z c =
      ap (λ (s : Bool). value shapes e now (length_of shapes e) s) c.computes.sign ∙ c.computes.value (length_of shapes e) (omega arith)

  picked_some : (n a b : ℕ) → (n ≡ 0 → ⊥) → picked n a b ≡ a
  picked_some zero a b h = absurd (h refl)
  picked_some (suc n) a b h = refl

  picked_bits : (w l : ℕ) (z x y : ℤ) → 1 ≤ w → FitsWidth w z → picked (pattern w z) (pattern l x) (pattern l y) ≡ pattern l (chosen z x y)
  picked_bits w l (pos zero) x y wide f = ap (λ (n : ℕ). picked n (pattern l x) (pattern l y)) (pattern-zero w)
  picked_bits w l (pos (suc n)) x y wide f = picked_some (pattern w (pos (suc n))) (pattern l x) (pattern l y) (pattern_some w (pos (suc n)) wide f (λ e. cc))
  picked_bits w l (negsuc n) x y wide f = picked_some (pattern w (negsuc n)) (pattern l x) (pattern l y) (pattern_some w (negsuc n) wide f (λ e. cc))

  pub choice_computes : (on a b : Tree) (z x y : ℤ) → ComputesFit shapes now on z → Computes shapes now a x → Computes shapes now b y → Computes shapes now (Choice on a b) (chosen z x y)
  choice_computes on a b z x y o c d = record {
    sign = both_signed a b x y c d;
    value = λ l le.
        ap (λ (n : ℕ). picked n (value shapes a now l true) (value shapes b now l true)) (alone_bits on z o)
        ∙ ap (λ (n : ℕ). picked (pattern (length_of shapes on) z) n (value shapes b now l true)) (c.value l (omega arith))
        ∙ ap (λ (n : ℕ). picked (pattern (length_of shapes on) z) (pattern l x) n) (d.value l (omega arith))
        ∙ picked_bits (length_of shapes on) l z x y o.wide o.fits;
  }

  -- an assignment of a comparison to one bit: `same` is 1 where the numbers are equal, else 0
  pub equal_assigned : (target : ℕ) (a b : Tree) (x y same : ℤ) → shapes.width target ≡ 1 → ComputesFit shapes now a x → ComputesFit shapes now b y
      → (x ≡ y → same ≡ pos 1) → ((x ≡ y → ⊥) → same ≡ pos 0) → assigned shapes now target (Binary Equal a b) ≡ pattern 1 same
  equal_assigned target a b x y same one c d is_one is_zero =
      let m = max (length_of shapes a) (length_of shapes b) in
      let both = both_signed a b x y c.computes d.computes in
      rw one (
      ap (λ (s : Bool). bit_of (value shapes a now m s == value shapes b now m s) % 2) both
      ∙ ap (λ (n : ℕ). bit_of (n == value shapes b now m true) % 2) (c.computes.value m (omega arith))
      ∙ ap (λ (n : ℕ). bit_of (pattern m x == n) % 2) (d.computes.value m (omega arith))
      ∙ by m (omega (arith, c.wide)) (FitsWidth-more (length_of shapes a) m x (omega arith) c.fits) (FitsWidth-more (length_of shapes b) m y (omega arith) d.fits) (pattern m x == pattern m y) refl)
    where
      by : (m : ℕ) → 1 ≤ m → FitsWidth m x → FitsWidth m y → (t : Bool) → (pattern m x == pattern m y) ≡ t → bit_of t % 2 ≡ pattern 1 same
      by m wide f g true e = sym (ap (pattern 1) (is_one (pattern_same m x y wide f g (eqb-true _ _ e))) ∙ pattern-one)
      by m wide f g false e = sym (ap (pattern 1) (is_zero (λ h. eqb-false _ _ e (ap (pattern m) h))) ∙ pattern-zero 1)

  -- an assignment of the selected bits of a signal
  pub part_assigned : (target n high low : ℕ) (x : ℤ) → Holds shapes now n x → high < shapes.width n → low ≤ high → shapes.width target ≡ high - low + 1
      → assigned shapes now target (Part n high low) ≡ pattern (shapes.width target) (pos (floor_remainder (floor_quotient x (2 ^ low)) (2 ^ (high - low + 1))))
  part_assigned target n high low x h inside order wide =
      ap (λ (m : ℕ). m / 2 ^ low % 2 ^ (high - low + 1) % 2 ^ shapes.width target) h.bits
      ∙ ap (λ (m : ℕ). m % 2 ^ shapes.width target) (selected-pattern (shapes.width n) high low x inside order) ∙ sym (pattern-pos (shapes.width target) (floor_remainder (floor_quotient x (2 ^ low)) (2 ^ (high - low + 1))))
