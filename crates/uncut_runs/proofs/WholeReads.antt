-- The whole number of an expression depends only on the names that it reads.
use Rattle.std.proofs.Common.{◌≡◌, ℕ, ◌+◌, ◌*◌, ◌^◌, Bool, true, ℤ, pos, refl, ap, ◌∙◌}
use Rattle.std.proofs.lemmas.Bool.{eq-eqb}
use Rattle.mr_values.specs.Width.{floor_remainder, chosen}
use Rattle.verilog_tree.specs.Tree.{Tree, Trees, Name, Bit, Part, Plain, Based, Cat, Not, Binary, Shift, Choice, none, more}
use Rattle.verilog_tree.specs.Meaning.{Shapes, length_of, total_length}
use Rattle.verilog_tree.specs.Cycle.{reads, any_reads}
use Rattle.verilog_tree.specs.Uncut.{Numbers, whole, whole_joined, whole_part, whole_not, whole_operation, whole_shift}
use Rattle.verilog_tree.proofs.DependsOnReads.{or_left, or_right}

-- the same numbers of the names that are read
abbrev Same : (ℕ → Bool) → Numbers → Numbers → Type 0
Same names v w = (n : ℕ) → names n ≡ true → v n ≡ w n

module _ (shapes : Shapes) (v w : Numbers) where
  mutual
    pub whole_reads : (e : Tree) → Same (reads e) v w → whole shapes e v ≡ whole shapes e w
    whole_reads (Name m) same = same m (eq-eqb m m refl)
    whole_reads (Bit m place) same = ap (λ (x : ℤ). whole_part x place place) (same m (eq-eqb m m refl))
    whole_reads (Part m high low) same = ap (λ (x : ℤ). whole_part x high low) (same m (eq-eqb m m refl))
    whole_reads (Plain x) same = refl
    whole_reads (Based width sign bits) same = refl
    whole_reads (Cat members) same = ap pos (joined_reads members same)
    whole_reads (Not a) same = ap whole_not (whole_reads a same)
    whole_reads (Binary op a b) same =
        ap (λ (x : ℤ). whole_operation op x (whole shapes b v)) (whole_reads a (λ n r. same n (or_left _ _ r)))
        ∙ ap (whole_operation op (whole shapes a w)) (whole_reads b (λ n r. same n (or_right (reads a n) _ r)))
    whole_reads (Shift op a amount) same = ap (whole_shift op amount) (whole_reads a same)
    whole_reads (Choice c a b) same =
        let on = whole_reads c (λ n r. same n (or_left _ _ r)) in
        let first = whole_reads a (λ n r. same n (or_right (reads c n) _ (or_left _ _ r))) in
        let second = whole_reads b (λ n r. same n (or_right (reads c n) _ (or_right (reads a n) _ r))) in
        ap (λ (x : ℤ). chosen x (whole shapes a v) (whole shapes b v)) on
        ∙ ap (λ (x : ℤ). chosen (whole shapes c w) x (whole shapes b v)) first
        ∙ ap (chosen (whole shapes c w) (whole shapes a w)) second

    joined_reads : (es : Trees) → Same (any_reads es) v w → whole_joined shapes es v ≡ whole_joined shapes es w
    joined_reads none same = refl
    joined_reads (more e es) same =
        ap (λ (x : ℤ). floor_remainder x (2 ^ length_of shapes e) * 2 ^ total_length shapes es + whole_joined shapes es v) (whole_reads e (λ n r. same n (or_left _ _ r)))
        ∙ ap (λ (x : ℕ). floor_remainder (whole shapes e w) (2 ^ length_of shapes e) * 2 ^ total_length shapes es + x) (joined_reads es (λ n r. same n (or_right (reads e n) _ r)))
