use Rattle.std.proofs.Common.{◌≡◌, ℕ, ◌+◌, ◌-◌, ◌*◌, ◌^◌, ◌<◌, ◌≤◌, Bool, List, length, get_or, drop, rules, arith, subst, ap, sym, ◌∙◌}
use Rattle.std.specs.Prelude.{IsTrue, slice_index}
use Rattle.verilog_tree.specs.declared.tree.Expr.{Expr, the_lemmas}
use Rattle.verilog_tree.specs.Tree as tree
use Rattle.verilog_tree.specs.Tree.{Tree, Trees}
use Rattle.verilog_tree.specs.Meaning.{Shapes, Values, IsFitting, all_fit, alone, extension, joined_bits, fits, is_comparison, length_of, total_length, value, operand_length}
use Rattle.verilog_tree.specs.View.{tree_view, trees_view}
use Rattle.verilog_tree.proofs.Views.{view-Cat}
use Rattle.verilog_tree.proofs.Members.{members_left}
use Rattle.verilog_tree.proofs.Parts.{and_parts, fits_range, cat_fits, binary_small, append_small, append_fits, next_joined}
use Rattle.verilog_tree.proofs.evaluation.+evaluate.Goals as goal

pub alone-evaluate-requires : goal.alone-evaluate-requires
alone-evaluate-requires g t c κs within =
    let range = fits_range (g.D.Declarations.shapes c.args.declarations.now) (tree_view c.args.expr.now) c.requires.fits in (
      first_of (search (rules, the_lemmas), grind (arith, the_lemmas)),
      (search rules, (c.requires.names, (c.requires.fits, (omega (arith, range.most, c.length_in.ensures), omega (arith, range.most, c.length_in.ensures))))),
    )

pub alone-returns-clause-value : goal.alone-returns-clause-value
alone-returns-clause-value g t c =
    let shapes = g.D.Declarations.shapes c.args.declarations.now in
    let e = tree_view c.args.expr.now in
    let values = λ (n : ℕ). slice_index c.args.values.now n in
    let own : c.length_in.result ≡ length_of shapes e = omega (arith, (fits_range shapes e c.requires.fits).most, c.length_in.ensures) in
    c.evaluate.ensures.value
    ∙ ap (λ (n : ℕ). value shapes e values n c.sign_in.result) own
    ∙ ap (λ (s : Bool). value shapes e values (length_of shapes e) s) c.sign_in.ensures

pub alone-returns-clause-small : goal.alone-returns-clause-small
alone-returns-clause-small g t c =
    let shapes = g.D.Declarations.shapes c.args.declarations.now in
    let e = tree_view c.args.expr.now in
    let own : c.length_in.result ≡ length_of shapes e = omega (arith, (fits_range shapes e c.requires.fits).most, c.length_in.ensures) in
    subst (λ (n : ℕ). c.evaluate.result < 2 ^ n) own c.evaluate.ensures.small

pub evaluate-joined-bits-requires : goal.evaluate-joined-bits-requires
evaluate-joined-bits-requires g t c κs within =
    let shapes = g.D.Declarations.shapes c.args.declarations.now in
    let viewed = ap tree_view c.in-Cat.is ∙ view-Cat c.in-Cat.members ∙ ap (λ (es : List Expr). tree.Cat (trees_view es)) (sym c.deref.ensures.value) in
    let members = cat_fits shapes (trees_view c.deref.result.now) (subst (λ (e : Tree). IsTrue (fits shapes e)) viewed c.requires.fits) in (
      first_of (search (rules, the_lemmas), grind (arith, the_lemmas)),
      (search rules, (c.requires.names, (members.0, members.1.most))),
    )

pub evaluate-extend-requires-in-Cat-clause-within : goal.evaluate-extend-requires-in-Cat-clause-within
evaluate-extend-requires-in-Cat-clause-within g t c =
    let shapes = g.D.Declarations.shapes c.args.declarations.now in
    let viewed = ap tree_view c.in-Cat.is ∙ view-Cat c.in-Cat.members ∙ ap (λ (es : List Expr). tree.Cat (trees_view es)) (sym c.deref.ensures.value) in
    let members = cat_fits shapes (trees_view c.deref.result.now) (subst (λ (e : Tree). IsTrue (fits shapes e)) viewed c.requires.fits) in
    let own : total_length shapes (trees_view c.deref.result.now) ≡ c.length_in-width.result =
    omega (arith, members.1.most, ap (λ (e : Tree). length_of shapes e) viewed, c.length_in-width.ensures) in
    subst (λ (n : ℕ). c.joined-bits.result < 2 ^ n) own c.joined-bits.ensures.small

pub evaluate-operands-inner-requires-clause-first : goal.evaluate-operands-inner-requires-clause-first
evaluate-operands-inner-requires-clause-first g t c =
    let shapes = g.D.Declarations.shapes c.args.declarations.now in
    let whole = subst (λ (e : Tree). IsTrue (fits shapes e)) (ap tree_view c.in-Binary.is) c.requires.fits in
    subst (λ (e : Expr). IsFitting (length_of shapes (tree_view e))) (sym c.deref-in-Binary.ensures) (fits_range shapes (tree_view c.in-Binary.a.value) (and_parts _ _ whole).0)

pub evaluate-operands-inner-requires-clause-second : goal.evaluate-operands-inner-requires-clause-second
evaluate-operands-inner-requires-clause-second g t c =
    let shapes = g.D.Declarations.shapes c.args.declarations.now in
    let whole = subst (λ (e : Tree). IsTrue (fits shapes e)) (ap tree_view c.in-Binary.is) c.requires.fits in
    subst (λ (e : Expr). IsFitting (length_of shapes (tree_view e))) (sym c.deref-in-Binary-2.ensures) (fits_range shapes (tree_view c.in-Binary.b.value) (and_parts _ _ whole).1)

pub evaluate-shift-requires-clause-least : goal.evaluate-shift-requires-clause-least
evaluate-shift-requires-clause-least g t c =
    omega (arith, (fits_range (g.D.Declarations.shapes c.args.declarations.now) (tree_view c.args.expr.now) c.requires.fits).least, c.requires.wide)

pub evaluate-returns-in-Cat-clause-value : goal.evaluate-returns-in-Cat-clause-value
evaluate-returns-in-Cat-clause-value g t c =
    let shapes = g.D.Declarations.shapes c.args.declarations.now in
    let values = λ (n : ℕ). slice_index c.args.values.now n in
    let viewed = ap tree_view c.in-Cat.is ∙ view-Cat c.in-Cat.members ∙ ap (λ (es : List Expr). tree.Cat (trees_view es)) (sym c.deref.ensures.value) in
    let members = cat_fits shapes (trees_view c.deref.result.now) (subst (λ (e : Tree). IsTrue (fits shapes e)) viewed c.requires.fits) in
    let own : c.length_in-width.result ≡ total_length shapes (trees_view c.deref.result.now) =
    omega (arith, members.1.most, ap (λ (e : Tree). length_of shapes e) viewed, c.length_in-width.ensures) in
    c.extend-in-Cat.ensures.value
    ∙ ap (λ (n : ℕ). extension n c.args.context.length c.args.context.signed c.joined-bits.result) own
    ∙ ap (extension (total_length shapes (trees_view c.deref.result.now)) c.args.context.length c.args.context.signed) c.joined-bits.ensures.value
    ∙ ap (λ (e : Tree). value shapes e values c.args.context.length c.args.context.signed) (sym viewed)

pub evaluate-returns-in-Binary-clause-small : goal.evaluate-returns-in-Binary-clause-small
evaluate-returns-in-Binary-clause-small g t c =
    let shapes = g.D.Declarations.shapes c.args.declarations.now in
    let wide = subst (λ (e : Tree). length_of shapes e ≤ c.args.context.length) (ap tree_view c.in-Binary.is) c.requires.wide in
    let inner = c.operands-inner.ensures.length
    ∙ ap (λ (e : Expr). operand_length (is_comparison c.in-Binary.op) (length_of shapes (tree_view e)) (length_of shapes (tree_view c.deref-in-Binary-2.result.now)) c.args.context.length) c.deref-in-Binary.ensures
    ∙ ap (λ (e : Expr). operand_length (is_comparison c.in-Binary.op) (length_of shapes (tree_view c.in-Binary.a.value)) (length_of shapes (tree_view e)) c.args.context.length) c.deref-in-Binary-2.ensures in
    binary_small shapes (tree_view c.in-Binary.a.value) (tree_view c.in-Binary.b.value) (is_comparison c.in-Binary.op) _ _ _ wide inner c.operate.ensures.small c.operate.ensures.bit

-- one more member is taken: what holds of it and of those behind it
module _ (shapes : Shapes) (members : List Expr) (k : ℕ) (e : Expr) (lt : k < length members) (is : e ≡ get_or members k e) where
  split : trees_view (drop k members) ≡ tree.more (tree_view e) (trees_view (drop (k + 1) members))
  split = members_left members k e lt is

  pub here_fits : IsTrue (all_fit shapes (trees_view (drop k members))) → IsTrue (fits shapes (tree_view e)) × IsTrue (all_fit shapes (trees_view (drop (k + 1) members)))
  here_fits h = and_parts _ _ (subst (λ (es : Trees). IsTrue (all_fit shapes es)) split h)

  pub here_total : total_length shapes (trees_view (drop k members)) ≡ length_of shapes (tree_view e) + total_length shapes (trees_view (drop (k + 1) members))
  here_total = ap (λ (es : Trees). total_length shapes es) split

  pub here_joined : (values : Values) → joined_bits shapes (trees_view (drop k members)) values
      ≡ alone shapes values (tree_view e) * 2 ^ total_length shapes (trees_view (drop (k + 1) members)) + joined_bits shapes (trees_view (drop (k + 1) members)) values
  here_joined values = ap (λ (es : Trees). joined_bits shapes es values) split

pub joined-alone-more-requires : goal.joined-alone-more-requires
joined-alone-more-requires g t c κs within =
    let now = here_fits (g.D.Declarations.shapes c.args.declarations.now) c.args.members.now c.loop-member.member-index c.member-item.result c.loop-member-test.true c.member-item.is c.loop-member.invariant.fit in
    (first_of (search (rules, the_lemmas), grind (arith, the_lemmas)), (search rules, (c.requires.names, now.0)))

pub joined-append-bits-requires-clause-fits : goal.joined-append-bits-requires-clause-fits
joined-append-bits-requires-clause-fits g t c =
    let shapes = g.D.Declarations.shapes c.args.declarations.now in
    let now = here_fits shapes c.args.members.now c.loop-member.member-index c.member-item.result c.loop-member-test.true c.member-item.is c.loop-member.invariant.fit in
    let total = here_total shapes c.args.members.now c.loop-member.member-index c.member-item.result c.loop-member-test.true c.member-item.is in
    let own : length_of shapes (tree_view c.member-item.result) ≡ c.length_in-width.result = omega (arith, (fits_range shapes (tree_view c.member-item.result) now.0).most, c.length_in-width.ensures) in
    append_fits _ _ _ c.length_in-width.result c.loop-member.invariant.small
    (subst (λ (n : ℕ). c.alone-more.result < 2 ^ n) own c.alone-more.ensures.small) (omega (arith, total, own, c.loop-member.invariant.left, c.requires.limit))

pub joined-append-bits-requires-clause-within : goal.joined-append-bits-requires-clause-within
joined-append-bits-requires-clause-within g t c =
    let shapes = g.D.Declarations.shapes c.args.declarations.now in
    let now = here_fits shapes c.args.members.now c.loop-member.member-index c.member-item.result c.loop-member-test.true c.member-item.is c.loop-member.invariant.fit in
    let own : length_of shapes (tree_view c.member-item.result) ≡ c.length_in-width.result = omega (arith, (fits_range shapes (tree_view c.member-item.result) now.0).most, c.length_in-width.ensures) in
    subst (λ (n : ℕ). c.alone-more.result < 2 ^ n) own c.alone-more.ensures.small

pub joined-loop-member-preserved : goal.joined-loop-member-preserved
joined-loop-member-preserved g t c =
    let shapes = g.D.Declarations.shapes c.args.declarations.now in
    let values = λ (n : ℕ). slice_index c.args.values.now n in
    let members = c.args.members.now in
    let k = c.loop-member.member-index in
    let now = here_fits shapes members k c.member-item.result c.loop-member-test.true c.member-item.is c.loop-member.invariant.fit in
    let total = here_total shapes members k c.member-item.result c.loop-member-test.true c.member-item.is in
    let joined = here_joined shapes members k c.member-item.result c.loop-member-test.true c.member-item.is values in
    let own : length_of shapes (tree_view c.member-item.result) ≡ c.length_in-width.result = omega (arith, (fits_range shapes (tree_view c.member-item.result) now.0).most, c.length_in-width.ensures) in
    let small = subst (λ (n : ℕ). c.alone-more.result < 2 ^ n) own c.alone-more.ensures.small in
    record {
      value = rw c.append-bits.ensures
          (next_joined c.loop-member.bits c.alone-more.result c.length_in-width.result (total_length shapes (trees_view (drop (k + 1) members)))
          (total_length shapes (trees_view (drop k members))) _ _ _ (omega (arith, total, own))
          (joined ∙ ap (λ (x : ℕ). x * 2 ^ total_length shapes (trees_view (drop (k + 1) members)) + joined_bits shapes (trees_view (drop (k + 1) members)) values) (sym c.alone-more.ensures.value))
          c.loop-member.invariant.value);
      small = rw c.append-bits.ensures
          (let sum : (total_length shapes (trees_view members) - total_length shapes (trees_view (drop k members))) + c.length_in-width.result
          ≡ total_length shapes (trees_view members) - total_length shapes (trees_view (drop (k + 1) members)) = omega (arith, total, own, c.loop-member.invariant.left) in
          subst (λ (n : ℕ). c.loop-member.bits * 2 ^ c.length_in-width.result + c.alone-more.result < 2 ^ n) sum
          (append_small _ _ _ c.length_in-width.result c.loop-member.invariant.small small));
      left = omega (arith, total, c.loop-member.invariant.left);
      fit = now.1;
    }
