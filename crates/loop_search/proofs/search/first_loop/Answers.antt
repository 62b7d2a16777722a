use Rattle.std.proofs.Common.{◌∙◌, Bool, List, false, refl, ap, subst, sym, get_or, slice_get, arith, MatchBool}
use Rattle.std.proofs.lemmas.Option.{slice_get_within, slice_get-get_or}
use Rattle.verilog_tree.specs.declared.tree.Kind.TheVariants.{Input}
use Rattle.verilog_tree.specs.declared.tree.Signal.{Signal}
use Rattle.verilog_tree.specs.Checks.{DependsOnItself}
use Rattle.verilog_tree.specs.View.{design_view}
use Rattle.settle_order.specs.Placing.{opened_of}
use Rattle.loop_search.proofs.Marking.{none_more}
use Rattle.loop_search.proofs.Closed.{open_inside, closed_free}
use Rattle.loop_search.proofs.search.first_loop.Goals.{else-is_open-via-then-is_open+in_ok-depends_on_itself+else-branch, else-is_open-via-else-is_open}
use Rattle.loop_search.proofs.search.first_loop.Goals as goal

abbrev no_signal : Signal
no_signal = record { name = 0; kind = Input; signed = false; ranged = false; width = 0; place = 0 }

pub depends_on_itself-requires-clause-inside : goal.depends_on_itself-requires-clause-inside
depends_on_itself-requires-clause-inside c =
    let name = (get_or c.args.ordered.now c.loop-signal.signal-index no_signal).name in
    open_inside (design_view c.args.design.now) c.in-Some.count c.in-Some.ensures (opened_of c.in_ok-placed.placed.opened.items) c.in_ok-placed.placed.order.items c.in_ok-placed.ensures.placed name
    (ap (λ (flags : List Bool). opened_of flags name) (sym c.deref.ensures.value) ∙ sym c.is_open.ensures ∙ c.if-is_open.true)

pub returns-then-branch : goal.returns-then-branch
returns-then-branch c =
    let d = design_view c.args.design.now in
    let k = c.loop-signal.signal-index in
    let x = get_or c.args.ordered.now k no_signal in
    record {
      place = k;
      signal = x;
      there = ap (λ (ss : List Signal). slice_get ss k) (sym c.requires.ordered) ∙ slice_get-get_or c.args.ordered.now k no_signal c.loop-signal-test.true;
      name = refl;
      loops = subst (λ (b : Bool). MatchBool b (DependsOnItself d x.name) (DependsOnItself d x.name → ⊥)) c.if-branch.true c.in_ok-depends_on_itself.ensures;
      first = λ j s less at. c.loop-signal.invariant j s less (ap (λ (ss : List Signal). slice_get ss j) c.requires.ordered ∙ at);
    }

pub loop-signal-preserved : goal.loop-signal-preserved
loop-signal-preserved c =
    let d = design_view c.args.design.now in
    let k = c.loop-signal.signal-index in
    let x = get_or c.args.ordered.now k no_signal in
    none_more c.args.ordered.now (λ (s : Signal). DependsOnItself d s.name) k x (slice_get-get_or c.args.ordered.now k no_signal c.loop-signal-test.true) c.loop-signal.invariant
    (elim c.else-is_open.branch [
      | else-is_open-via-then-is_open+in_ok-depends_on_itself+else-branch w ↦
          subst (λ (b : Bool). MatchBool b (DependsOnItself d x.name) (DependsOnItself d x.name → ⊥)) w.if-branch.false w.in_ok-depends_on_itself.ensures
      | else-is_open-via-else-is_open w ↦
          closed_free d c.requires.driven (opened_of c.in_ok-placed.placed.opened.items) c.in_ok-placed.placed.order.items c.in_ok-placed.ensures.placed x.name
          (ap (λ (flags : List Bool). opened_of flags x.name) (sym c.deref.ensures.value) ∙ sym c.is_open.ensures ∙ w.if-is_open.false)
    ])

pub returns : goal.returns
returns c n loops =
    let d = design_view c.args.design.now in
    let found = loops.1 in
    let s = c.requires.declared.each found.0 found.1 found.2 in
    let there = ap (λ (ss : List Signal). slice_get ss s.0) c.requires.ordered ∙ s.2 in
    let inside = slice_get_within c.args.ordered.now s.0 s.1 there in
    c.loop-signal.invariant s.0 s.1 (omega (arith, inside, c.loop-signal-test.false)) there (subst (DependsOnItself d) (sym (s.3 ∙ found.3)) loops)
