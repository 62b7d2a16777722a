use Rattle.std.proofs.Common.{◌≡◌, ◌∙◌, sym, subst, arith, refl, ℕ, suc, ◌+◌, length, length-append}
use Rattle.net_graph.specs.declared.name.NameKind.TheVariants.{Register, Table}
use Rattle.net_graph.specs.WellFormed.{IsFree}
use Rattle.net_graph.proofs.NetLemmas.{Extends-refl, Extends-trans}
use Rattle.pipeline_balance.specs.Numbered.{LeavesFree, name_of}
use Rattle.pipeline_balance.proofs.NumberedLemmas.{LeavesFree-refl, LeavesFree-trans}
use Rattle.distributed_table.specs.Runs.{IsNumbered, IsBelow, serial_of, AddsRuns}
use Rattle.distributed_table.proofs.EndLemmas.{ceil_same}
use Rattle.distributed_table.proofs.RunLemmas.{AddsRuns-none, AddsRuns-push, IsRunReady-later}
use Rattle.distributed_table.proofs.runs.add_runs.Goals as goal

pub loop-number-init : goal.loop-number-init
loop-number-init g c = record {
  many = rw c.new-leaves.ensures.items (omega arith);
  extends = Extends-refl _;
  group = refl;
  names = LeavesFree-refl _ _;
  runs = λ pace window bits ready. rw c.new-leaves.ensures.items (AddsRuns-none c.args.net.now (serial_of c.args.taps.now g.row.G bits c.args.values) pace window c.args.highs.now);
}

pub add_run-requires-clause-free_table : goal.add_run-requires-clause-free_table
add_run-requires-clause-free_table g c =
    let i = c.loop-number.invariant in
    let free = i.names.free (name_of c.args.net.now.group Table c.loop-number.number) (λ h. let l = h.1 in omega arith) (c.requires.free_tables c.loop-number.number) in
    subst (λ (k : ℕ). IsFree c.loop-number.net.cells (name_of k Table c.loop-number.number)) (sym i.group) free

pub add_run-requires-clause-free_register : goal.add_run-requires-clause-free_register
add_run-requires-clause-free_register g c =
    let i = c.loop-number.invariant in
    let free = i.names.free (name_of c.args.net.now.group Register c.loop-number.number) (λ h. let l = h.1 in omega arith) (c.requires.free_registers c.loop-number.number) in
    subst (λ (k : ℕ). IsFree c.loop-number.net.cells (name_of k Register c.loop-number.number)) (sym i.group) free

pub returns-in_err-leaf-clause-extends : goal.returns-in_err-leaf-clause-extends
returns-in_err-leaf-clause-extends g c = Extends-trans _ _ _ c.loop-number.invariant.extends c.in_err-leaf.ensures.extends

pub returns-in_err-push-clause-extends : goal.returns-in_err-push-clause-extends
returns-in_err-push-clause-extends g c = Extends-trans _ _ _ c.loop-number.invariant.extends c.in_ok-leaf.ensures.extends

pub loop-number-preserved : goal.loop-number-preserved
loop-number-preserved g c =
    let i = c.loop-number.invariant in
    let n : ℕ = c.loop-number.number in
    let group : ℕ = c.args.net.now.group in
    let count : length c.push.new.self.items ≡ suc (length c.loop-number.leaves.items) = rw (c.in_ok-push.ensures.items, length-append) (omega arith) in
    record {
      many = omega (arith, count, i.many);
      extends = Extends-trans _ _ _ i.extends c.in_ok-leaf.ensures.extends;
      group = c.in_ok-leaf.ensures.group ∙ i.group;
      names = LeavesFree-trans _ _ _ (IsBelow group n) (IsNumbered c.loop-number.net.group n) (IsBelow group (n + 1)) (λ name h. (h.0, let l = h.1 in omega arith)) (λ name h. (h.0 ∙ i.group, let m = h.1 in omega arith)) i.names c.in_ok-leaf.ensures.names;
      runs = λ pace window bits ready.
          rw c.in_ok-push.ensures.items (AddsRuns-push (serial_of c.args.taps.now g.row.G bits c.args.values) pace window (i.runs pace window bits ready) (c.in_ok-leaf.ensures.ok pace window bits (IsRunReady-later i.extends ready)));
    }

pub returns-clause-many : goal.returns-clause-many
returns-clause-many g c =
    let all : c.loop-number.number ≡ c.div_ceil-count.result = omega arith in
    c.loop-number.invariant.many ∙ all ∙ c.div_ceil-count.ensures ∙ ceil_same (length c.args.taps.now) g.row.G c.requires.some

pub returns-clause-names : goal.returns-clause-names
returns-clause-names g c =
    let all : c.loop-number.number ≡ c.div_ceil-count.result = omega arith in
    subst (λ (n : ℕ). LeavesFree c.args.net.now.cells c.loop-number.net.cells (IsBelow c.args.net.now.group n)) (all ∙ c.div_ceil-count.ensures ∙ ceil_same (length c.args.taps.now) g.row.G c.requires.some) c.loop-number.invariant.names

pub returns-clause-ok : goal.returns-clause-ok
returns-clause-ok g c pace window bits ready =
    let all : c.loop-number.number ≡ c.div_ceil-count.result = omega arith in
    subst (λ (n : ℕ). AddsRuns c.args.net.now c.loop-number.net (serial_of c.args.taps.now g.row.G bits c.args.values) pace window c.args.highs.now n c.loop-number.leaves.items) (all ∙ c.div_ceil-count.ensures ∙ ceil_same (length c.args.taps.now) g.row.G c.requires.some)
    (c.loop-number.invariant.runs pace window bits ready)
