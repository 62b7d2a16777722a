use Rattle.std.proofs.Common.{◌≡◌, ◌<◌, Bool, List, true, false, length, set, subst, ◌∙◌, MatchBool, rules, arith}
use Rattle.std.specs.Prelude.{replicate}
use Rattle.std.proofs.lemmas.List.{get_or-set_same, length-set}
use Rattle.verilog_tree.specs.View.{design_view}
use Rattle.settle_order.specs.Placing.{opened_of}
use Rattle.loop_search.specs.Dependents.{AreDependents, ReadsItself}
use Rattle.loop_search.proofs.Marking.{one_set, of_one, put_back, whether_loops}
use Rattle.loop_search.proofs.dependents.depends_on_itself.Goals as goal

pub returns : goal.returns
returns c =
    let d = design_view c.args.design.now in
    let name = c.args.name in
    let none = c.in_ok-marked.marked.items in
    let first = set none name true in
    let new = c.mark_dependents.new.marked in
    let size : length none ≡ c.args.count = omega (arith, c.in_ok-marked.ensures.len, c.in_ok-marked.marked.ok) in
    let within : name < length none = omega (arith, size, c.requires.inside) in
    let all_clear : none ≡ replicate c.args.count false = c.in_ok-marked.ensures.items_if_clones_equal (λ y h. search rules) in
    let long : length new ≡ length first = subst (λ (flags : List Bool). length new ≡ length flags) c.deref_mut.ensures.value c.mark_dependents.auto.marked in
    let read : c.deref.result.now ≡ new = c.deref.ensures.value ∙ put_back _ new first (omega (arith, long)) (omega (arith, long, length-set none name true, size, c.in_ok-marked.marked.ok)) in
    let dependents = subst (λ (flags : List Bool). AreDependents d (opened_of flags) (opened_of new)) c.deref_mut.ensures.value c.mark_dependents.ensures.dependents in
    whether_loops d name (opened_of new) (of_one d name (opened_of first) (opened_of new) (get_or-set_same none name true false within) (one_set none c.args.count name all_clear within) dependents)
    c.mark_dependents.ensures.all c.reads_itself.result
    (subst (λ (flags : List Bool). MatchBool c.reads_itself.result (ReadsItself d name (opened_of flags)) (ReadsItself d name (opened_of flags) → ⊥)) read c.reads_itself.ensures)
