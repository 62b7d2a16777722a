use Rattle.std.proofs.Common.{◌≡◌, ◌∙◌, ℕ, ◌+◌, ◌*◌, List, length, ap, subst, Some, slice_get}
use Rattle.net_graph.specs.declared.cell.Node.{Node}
use Rattle.net_graph.proofs.NetLemmas.{Extends-adds, Extends-trans}
use Rattle.pipeline_balance.specs.Gate.{IsCounter, IsTickOf}
use Rattle.pipeline_balance.proofs.TakenLemmas.{IsBitOf-later}
use Rattle.distributed_table.specs.Copies.{AddsCopies}
use Rattle.distributed_table.proofs.ShownLemmas.{AddsShown-circuit, window_narrow}
use Rattle.distributed_table.proofs.shown.add_shown.Goals as goal

pub returns-in_err-window-clause-extends : goal.returns-in_err-window-clause-extends
returns-in_err-window-clause-extends c = Extends-trans _ _ _ (Extends-adds c.in_ok-shl.ensures.ok) c.in_err-window.ensures.extends

pub returns-in_err-load-clause-extends : goal.returns-in_err-load-clause-extends
returns-in_err-load-clause-extends c = Extends-trans _ _ _ (Extends-adds c.in_ok-shl.ensures.ok) (Extends-trans _ _ _ c.in_ok-window.ensures.extends c.in_err-load.ensures.extends)

pub returns-in_err-begin-clause-extends : goal.returns-in_err-begin-clause-extends
returns-in_err-begin-clause-extends c = Extends-trans _ _ _ (Extends-adds c.in_ok-shl.ensures.ok) (Extends-trans _ _ _ c.in_ok-window.ensures.extends (Extends-trans _ _ _ c.in_ok-load.ensures.extends c.in_err-begin.ensures.extends))

pub add_copies-requires-clause-narrow : goal.add_copies-requires-clause-narrow
add_copies-requires-clause-narrow c age node is =
    window_narrow c.args.from c.args.bits c.requires.wide c.requires.unused c.in_ok-shl.ensures.ok c.in_ok-window.ensures.window (Extends-trans _ _ _ c.in_ok-load.ensures.extends c.in_ok-begin.ensures.extends) age node
    (subst (λ (ns : List Node). slice_get ns age ≡ Some node) c.as_slice.ensures.value is)

pub returns-in_err-highs-clause-extends : goal.returns-in_err-highs-clause-extends
returns-in_err-highs-clause-extends c =
    Extends-trans _ _ _ (Extends-adds c.in_ok-shl.ensures.ok) (Extends-trans _ _ _ c.in_ok-window.ensures.extends (Extends-trans _ _ _ c.in_ok-load.ensures.extends (Extends-trans _ _ _ c.in_ok-begin.ensures.extends c.in_err-highs.ensures.extends)))

pub returns-clause-ok : goal.returns-clause-ok
returns-clause-ok c =
    let from = c.args.from in
    let period : ℕ = from.period * c.args.down in
    let l = subst (λ (d : ℕ). IsCounter c.window.new.net c.counter.new.net (IsTickOf (from.period * d) (from.offset + 1)) c.in_ok-load.load) c.from.ensures c.in_ok-load.ensures.ok in
    let b = subst (λ (d : ℕ). IsCounter c.counter.new.net c.counter-2.new.net (IsTickOf (from.period * d) (from.offset + 2)) c.in_ok-begin.begin) c.from.ensures c.in_ok-begin.ensures.ok in
    let copies = c.in_ok-highs.ensures.ok period (from.offset + 1) (IsBitOf-later l.bit_of c.in_ok-begin.ensures.extends) in
    let same = c.as_slice.ensures.value in
    let of_window = subst (λ (ns : List Node). AddsCopies c.counter-2.new.net c.add_copies.new.net period (from.offset + 1) c.args.bits ns c.in_ok-highs.highs.items) same copies in
    let deep = c.in_ok-window.ensures.many in
    AddsShown-circuit from c.args.depth c.args.down c.args.bits c.requires.data_group c.in_ok-shl.ensures.ok c.in_ok-window.ensures.window deep l b of_window (c.in_ok-highs.ensures.many ∙ ap length same ∙ deep)

pub returns-clause-extends : goal.returns-clause-extends
returns-clause-extends c =
    Extends-trans _ _ _ (Extends-adds c.in_ok-shl.ensures.ok) (Extends-trans _ _ _ c.in_ok-window.ensures.extends (Extends-trans _ _ _ c.in_ok-load.ensures.extends (Extends-trans _ _ _ c.in_ok-begin.ensures.extends c.in_ok-highs.ensures.extends)))
