-- The value of an expression depends only on the names that it reads.
use Rattle.std.proofs.Common.{◌≡◌, ℕ, ◌+◌, ◌-◌, ◌*◌, ◌/◌, ◌%◌, ◌^◌, Bool, true, false, ◌||◌, refl, ap, ◌∙◌}
use Rattle.std.proofs.lemmas.Bool.{eq-eqb}
use Rattle.verilog_tree.specs.Tree.{Tree, Trees, Name, Bit, Part, Plain, Based, Cat, Not, Binary, Shift, Choice, none, more}
use Rattle.verilog_tree.specs.Meaning.{Shapes, Values, value, joined_bits, length_of, signed_of, total_length, extension, operation, operand_length, operand_signed, is_comparison, shifted, picked}
use Rattle.verilog_tree.specs.Cycle.{reads, any_reads}

pub or_left : (a b : Bool) → a ≡ true → (a || b) ≡ true
or_left a b e = ap (λ (t : Bool). t || b) e

pub or_right : (a b : Bool) → b ≡ true → (a || b) ≡ true
or_right true b e = refl
or_right false b e = e

-- the same values of the names that are read
abbrev Same : (ℕ → Bool) → Values → Values → Type 0
Same names v w = (n : ℕ) → names n ≡ true → v n ≡ w n

module _ (shapes : Shapes) (v w : Values) where
  mutual
    pub depends_on_reads : (e : Tree) → Same (reads e) v w → (length : ℕ) (signed : Bool) → value shapes e v length signed ≡ value shapes e w length signed
    depends_on_reads (Name m) same length signed = ap (extension (shapes.width m) length signed) (same m (eq-eqb m m refl))
    depends_on_reads (Bit m place) same length signed = ap (λ (x : ℕ). extension 1 length signed (x / 2 ^ place % 2)) (same m (eq-eqb m m refl))
    depends_on_reads (Part m high low) same length signed = ap (λ (x : ℕ). extension (high - low + 1) length signed (x / 2 ^ low % 2 ^ (high - low + 1))) (same m (eq-eqb m m refl))
    depends_on_reads (Plain x) same length signed = refl
    depends_on_reads (Based width sign bits) same length signed = refl
    depends_on_reads (Cat members) same length signed = ap (extension (total_length shapes members) length signed) (members_depend members same)
    depends_on_reads (Not a) same length signed = ap (λ (x : ℕ). 2 ^ length - 1 - x) (depends_on_reads a same length signed)
    depends_on_reads (Binary op a b) same length signed =
        let l = operand_length (is_comparison op) (length_of shapes a) (length_of shapes b) length in
        let s = operand_signed (is_comparison op) (signed_of shapes a) (signed_of shapes b) signed in
        ap (λ (x : ℕ). operation op s l x (value shapes b v l s)) (depends_on_reads a (λ n r. same n (or_left _ _ r)) l s)
        ∙ ap (operation op s l (value shapes a w l s)) (depends_on_reads b (λ n r. same n (or_right (reads a n) _ r)) l s)
    depends_on_reads (Shift op a amount) same length signed = ap (shifted op signed length amount) (depends_on_reads a same length signed)
    depends_on_reads (Choice c a b) same length signed =
        let on = depends_on_reads c (λ n r. same n (or_left _ _ r)) (length_of shapes c) (signed_of shapes c) in
        let first = depends_on_reads a (λ n r. same n (or_right (reads c n) _ (or_left _ _ r))) length signed in
        let second = depends_on_reads b (λ n r. same n (or_right (reads c n) _ (or_right (reads a n) _ r))) length signed in
        ap (λ (x : ℕ). picked x (value shapes a v length signed) (value shapes b v length signed)) on
        ∙ ap (λ (x : ℕ). picked (value shapes c w (length_of shapes c) (signed_of shapes c)) x (value shapes b v length signed)) first
        ∙ ap (picked (value shapes c w (length_of shapes c) (signed_of shapes c)) (value shapes a w length signed)) second

    members_depend : (es : Trees) → Same (any_reads es) v w → joined_bits shapes es v ≡ joined_bits shapes es w
    members_depend none same = refl
    members_depend (more e es) same =
        let here = depends_on_reads e (λ n r. same n (or_left _ _ r)) (length_of shapes e) (signed_of shapes e) in
        ap (λ (x : ℕ). x * 2 ^ total_length shapes es + joined_bits shapes es v) here
        ∙ ap (λ (x : ℕ). value shapes e w (length_of shapes e) (signed_of shapes e) * 2 ^ total_length shapes es + x) (members_depend es (λ n r. same n (or_right (reads e n) _ r)))
