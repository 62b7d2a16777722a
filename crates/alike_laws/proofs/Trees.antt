-- Expressions that are the same by the texts of their names have the same length, sign and value.
use Rattle.std.proofs.Common.{◌≡◌, ℕ, ◌+◌, ◌-◌, ◌*◌, ◌^◌, ◌/◌, ◌%◌, Bool, ◌||◌, ◌&&◌, sym, ◌∙◌, ap}
use Rattle.std.specs.Prelude.{◌==◌, max}
use Rattle.verilog_tree.specs.Tree.{Tree, Trees, Name, Bit, Part, Plain, Based, Cat, Not, Binary, Shift, Choice, none, more}
use Rattle.verilog_tree.specs.Alike.{IsAlikeTree, AreAlikeTrees}
use Rattle.verilog_tree.specs.Checks.{has_over, any_over, is_over}
use Rattle.verilog_tree.specs.Cycle.{reads, any_reads}
use Rattle.verilog_tree.specs.Meaning.{Shapes, Values, is_comparison, binary_length, length_of, total_length, binary_signed, signed_of, extension, operand_length, operand_signed, picked, binary_value, shifted, value, joined_bits, alone, assigned}

-- names that are the same are declared alike
pub record AreShapedAlike (same : ℕ → ℕ → Type 0) (s t : Shapes) : Type 0 where
  pub width : (m n : ℕ) → same m n → s.width m ≡ t.width n
  pub signed : (m n : ℕ) → same m n → s.signed m ≡ t.signed n

-- names that are the same have the same values
pub record AreValuedAlike (same : ℕ → ℕ → Type 0) (v w : Values) : Type 0 where
  pub each : (m n : ℕ) → same m n → v m ≡ w n

module _ (same : ℕ → ℕ → Type 0) (s t : Shapes) (shaped : AreShapedAlike same s t) where
  mutual
    pub same_length : (e f : Tree) → IsAlikeTree same e f → length_of s e ≡ length_of t f
    same_length (Name m) f (n, is, h) = shaped.width m n h ∙ ap (length_of t) (sym is)
    same_length (Bit m place) f (n, is, h) = ap (length_of t) (sym is)
    same_length (Part m high low) f (n, is, h) = ap (length_of t) (sym is)
    same_length (Plain x) f is = ap (length_of t) (sym is)
    same_length (Based width signed bits) f is = ap (length_of t) (sym is)
    same_length (Cat members) f (others, is, h) = same_total members others h ∙ ap (length_of t) (sym is)
    same_length (Not a) f (b, is, h) = same_length a b h ∙ ap (length_of t) (sym is)
    same_length (Binary op a b) f (x, y, is, p, q) = (λ i. binary_length (is_comparison op) (same_length a x p i) (same_length b y q i)) ∙ ap (length_of t) (sym is)
    same_length (Shift op a amount) f (b, is, h) = same_length a b h ∙ ap (length_of t) (sym is)
    same_length (Choice c a b) f (z, x, y, is, o, p, q) = (λ i. max (same_length a x p i) (same_length b y q i)) ∙ ap (length_of t) (sym is)

    pub same_total : (es fs : Trees) → AreAlikeTrees same es fs → total_length s es ≡ total_length t fs
    same_total none fs is = ap (total_length t) (sym is)
    same_total (more e es) fs (f, rest, is, p, q) = (λ i. same_length e f p i + same_total es rest q i) ∙ ap (total_length t) (sym is)

  pub same_sign : (e f : Tree) → IsAlikeTree same e f → signed_of s e ≡ signed_of t f
  same_sign (Name m) f (n, is, h) = shaped.signed m n h ∙ ap (signed_of t) (sym is)
  same_sign (Bit m place) f (n, is, h) = ap (signed_of t) (sym is)
  same_sign (Part m high low) f (n, is, h) = ap (signed_of t) (sym is)
  same_sign (Plain x) f is = ap (signed_of t) (sym is)
  same_sign (Based width signed bits) f is = ap (signed_of t) (sym is)
  same_sign (Cat members) f (others, is, h) = ap (signed_of t) (sym is)
  same_sign (Not a) f (b, is, h) = same_sign a b h ∙ ap (signed_of t) (sym is)
  same_sign (Binary op a b) f (x, y, is, p, q) = (λ i. binary_signed (is_comparison op) (same_sign a x p i) (same_sign b y q i)) ∙ ap (signed_of t) (sym is)
  same_sign (Shift op a amount) f (b, is, h) = same_sign a b h ∙ ap (signed_of t) (sym is)
  same_sign (Choice c a b) f (z, x, y, is, o, p, q) = (λ i. same_sign a x p i && same_sign b y q i) ∙ ap (signed_of t) (sym is)

  mutual
    pub same_over : (e f : Tree) → IsAlikeTree same e f → has_over s e ≡ has_over t f
    same_over (Name m) f (n, is, h) = ap is_over (shaped.width m n h) ∙ ap (has_over t) (sym is)
    same_over (Bit m place) f (n, is, h) = ap (has_over t) (sym is)
    same_over (Part m high low) f (n, is, h) = ap (has_over t) (sym is)
    same_over (Plain x) f is = ap (has_over t) (sym is)
    same_over (Based width signed bits) f is = ap (has_over t) (sym is)
    same_over (Cat members) f (others, is, h) = (λ i. same_any_over members others h i || is_over (same_total members others h i)) ∙ ap (has_over t) (sym is)
    same_over (Not a) f (b, is, h) = same_over a b h ∙ ap (has_over t) (sym is)
    same_over (Binary op a b) f (x, y, is, p, q) = (λ i. same_over a x p i || same_over b y q i) ∙ ap (has_over t) (sym is)
    same_over (Shift op a amount) f (b, is, h) = same_over a b h ∙ ap (has_over t) (sym is)
    same_over (Choice c a b) f (z, x, y, is, o, p, q) = (λ i. same_over c z o i || (same_over a x p i || same_over b y q i)) ∙ ap (has_over t) (sym is)

    same_any_over : (es fs : Trees) → AreAlikeTrees same es fs → any_over s es ≡ any_over t fs
    same_any_over none fs is = ap (any_over t) (sym is)
    same_any_over (more e es) fs (f, rest, is, p, q) = (λ i. same_over e f p i || same_any_over es rest q i) ∙ ap (any_over t) (sym is)

  module _ (v w : Values) (valued : AreValuedAlike same v w) where
    -- an expression by itself, where its value is the same at its own length and sign
    alone_from : (e f : Tree) → IsAlikeTree same e f → value s e v (length_of s e) (signed_of s e) ≡ value t f w (length_of s e) (signed_of s e) → alone s v e ≡ alone t w f
    alone_from e f h is = is ∙ (λ i. value t f w (same_length e f h i) (same_sign e f h i))

    mutual
      pub same_value : (e f : Tree) → IsAlikeTree same e f → (length : ℕ) (signed : Bool) → value s e v length signed ≡ value t f w length signed
      same_value (Name m) f (n, is, h) length signed =
          (λ i. extension (shaped.width m n h i) length signed (valued.each m n h i)) ∙ ap (λ (g : Tree). value t g w length signed) (sym is)
      same_value (Bit m place) f (n, is, h) length signed =
          ap (λ (x : ℕ). extension 1 length signed (x / 2 ^ place % 2)) (valued.each m n h) ∙ ap (λ (g : Tree). value t g w length signed) (sym is)
      same_value (Part m high low) f (n, is, h) length signed =
          ap (λ (x : ℕ). extension (high - low + 1) length signed (x / 2 ^ low % 2 ^ (high - low + 1))) (valued.each m n h) ∙ ap (λ (g : Tree). value t g w length signed) (sym is)
      same_value (Plain x) f is length signed = ap (λ (g : Tree). value t g w length signed) (sym is)
      same_value (Based width sign bits) f is length signed = ap (λ (g : Tree). value t g w length signed) (sym is)
      same_value (Cat members) f (others, is, h) length signed =
          (λ i. extension (same_total members others h i) length signed (same_joined members others h i)) ∙ ap (λ (g : Tree). value t g w length signed) (sym is)
      same_value (Not a) f (b, is, h) length signed = ap (λ (x : ℕ). 2 ^ length - 1 - x) (same_value a b h length signed) ∙ ap (λ (g : Tree). value t g w length signed) (sym is)
      same_value (Binary op a b) f (x, y, is, p, q) length signed =
          (λ i. binary_value op (operand_signed (is_comparison op) (same_sign a x p i) (same_sign b y q i) signed) (operand_length (is_comparison op) (same_length a x p i) (same_length b y q i) length)
          (λ l g. same_value a x p l g i) (λ l g. same_value b y q l g i))
          ∙ ap (λ (g : Tree). value t g w length signed) (sym is)
      same_value (Shift op a amount) f (b, is, h) length signed = ap (shifted op signed length amount) (same_value a b h length signed) ∙ ap (λ (g : Tree). value t g w length signed) (sym is)
      same_value (Choice c a b) f (z, x, y, is, o, p, q) length signed =
          (λ i. picked (alone_from c z o (same_value c z o (length_of s c) (signed_of s c)) i) (same_value a x p length signed i) (same_value b y q length signed i)) ∙ ap (λ (g : Tree). value t g w length signed) (sym is)

      same_joined : (es fs : Trees) → AreAlikeTrees same es fs → joined_bits s es v ≡ joined_bits t fs w
      same_joined none fs is = ap (λ (gs : Trees). joined_bits t gs w) (sym is)
      same_joined (more e es) fs (f, rest, is, p, q) =
          (λ i. alone_from e f p (same_value e f p (length_of s e) (signed_of s e)) i * 2 ^ same_total es rest q i + same_joined es rest q i) ∙ ap (λ (gs : Trees). joined_bits t gs w) (sym is)

    pub same_alone : (e f : Tree) → IsAlikeTree same e f → alone s v e ≡ alone t w f
    same_alone e f h = alone_from e f h (same_value e f h (length_of s e) (signed_of s e))

    -- a right side
    pub same_assigned : (m n : ℕ) (e f : Tree) → same m n → IsAlikeTree same e f → assigned s v m e ≡ assigned t w n f
    same_assigned m n e f target h =
        ap (λ (x : ℕ). x % 2 ^ s.width m) (same_value e f h (max (length_of s e) (s.width m)) (signed_of s e))
        ∙ (λ i. value t f w (max (same_length e f h i) (shaped.width m n target i)) (same_sign e f h i) % 2 ^ shaped.width m n target i)

-- ---- what an expression reads

module _ (same : ℕ → ℕ → Type 0) (equal : (m n k l : ℕ) → same m n → same k l → (m == k) ≡ (n == l)) (k l : ℕ) (at : same k l) where
  mutual
    pub same_reads : (e f : Tree) → IsAlikeTree same e f → reads e k ≡ reads f l
    same_reads (Name m) f (n, is, h) = equal k l m n at h ∙ ap (λ (g : Tree). reads g l) (sym is)
    same_reads (Bit m place) f (n, is, h) = equal k l m n at h ∙ ap (λ (g : Tree). reads g l) (sym is)
    same_reads (Part m high low) f (n, is, h) = equal k l m n at h ∙ ap (λ (g : Tree). reads g l) (sym is)
    same_reads (Plain x) f is = ap (λ (g : Tree). reads g l) (sym is)
    same_reads (Based width signed bits) f is = ap (λ (g : Tree). reads g l) (sym is)
    same_reads (Cat members) f (others, is, h) = same_any_reads members others h ∙ ap (λ (g : Tree). reads g l) (sym is)
    same_reads (Not a) f (b, is, h) = same_reads a b h ∙ ap (λ (g : Tree). reads g l) (sym is)
    same_reads (Binary op a b) f (x, y, is, p, q) = (λ i. same_reads a x p i || same_reads b y q i) ∙ ap (λ (g : Tree). reads g l) (sym is)
    same_reads (Shift op a amount) f (b, is, h) = same_reads a b h ∙ ap (λ (g : Tree). reads g l) (sym is)
    same_reads (Choice c a b) f (z, x, y, is, o, p, q) = (λ i. same_reads c z o i || (same_reads a x p i || same_reads b y q i)) ∙ ap (λ (g : Tree). reads g l) (sym is)

    same_any_reads : (es fs : Trees) → AreAlikeTrees same es fs → any_reads es k ≡ any_reads fs l
    same_any_reads none fs is = ap (λ (gs : Trees). any_reads gs l) (sym is)
    same_any_reads (more e es) fs (f, rest, is, p, q) = (λ i. same_reads e f p i || same_any_reads es rest q i) ∙ ap (λ (gs : Trees). any_reads gs l) (sym is)
