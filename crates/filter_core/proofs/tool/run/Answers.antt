use Rattle.std.proofs.Common.{subst}
use Rattle.filter_core.specs.CommandWords.{words_of}
use Rattle.filter_core.specs.Tool.{IsReady}
use Rattle.demo_command.proofs.Completeness.{demo-complete}
use Rattle.plan_commands.proofs.Completeness.{compile-complete, noble-complete}
use Rattle.plan_commands.proofs.ExtremeSteps.{extreme-complete}
use Rattle.plan_commands.proofs.MigrateSteps.{migrate-complete}
use Rattle.plan_commands.proofs.RunSteps.{run-complete}
use Rattle.text_commands.proofs.SimSteps.{sim-complete}
use Rattle.text_commands.proofs.OrderSteps.{order-complete}
use Rattle.filter_core.proofs.tool.run.Goals as goal

pub returns-in-Compile-clause-complete : goal.returns-in-Compile-clause-complete
returns-in-Compile-clause-complete g c = λ told ready unstruck.
    let old = g.H.Host.state c.args.host.now in
    let new = g.H.Host.state c.compile.new.host in
    let accepted = subst (λ command. IsReady (words_of command) old.files) c.in-Compile.is ready in
    compile-complete c.in-Compile.plan.now c.in-Compile.text.now c.in-Compile.report.now c.compile.result old new (c.compile.ensures.cause.struck told) (c.compile.ensures.told told) accepted unstruck

pub returns-in-Noble-clause-complete : goal.returns-in-Noble-clause-complete
returns-in-Noble-clause-complete g c = λ told ready unstruck.
    let old = g.H.Host.state c.args.host.now in
    let new = g.H.Host.state c.noble.new.host in
    let accepted = subst (λ command. IsReady (words_of command) old.files) c.in-Noble.is ready in
    noble-complete c.in-Noble.plan.now c.in-Noble.out.now c.noble.result old new (c.noble.ensures.cause.struck told) (c.noble.ensures.told told) accepted.0 accepted.1 unstruck

pub returns-in-Migrate-clause-complete : goal.returns-in-Migrate-clause-complete
returns-in-Migrate-clause-complete g c = λ told ready unstruck.
    let old = g.H.Host.state c.args.host.now in
    let new = g.H.Host.state c.migrate.new.host in
    let accepted = subst (λ command. IsReady (words_of command) old.files) c.in-Migrate.is ready in
    migrate-complete c.in-Migrate.plan.now c.in-Migrate.out.now c.migrate.result old new (c.migrate.ensures.cause.struck told) (c.migrate.ensures.told told) accepted.0 accepted.1 unstruck

pub returns-in-Run-clause-complete : goal.returns-in-Run-clause-complete
returns-in-Run-clause-complete g c = λ told ready unstruck.
    let old = g.H.Host.state c.args.host.now in
    let new = g.H.Host.state c.run_plan.new.host in
    let accepted = subst (λ command. IsReady (words_of command) old.files) c.in-Run.is ready in
    run-complete c.in-Run.plan.now c.in-Run.samples.now c.in-Run.out.now c.run_plan.result old new (c.run_plan.ensures.cause.struck told) (c.run_plan.ensures.told told) accepted unstruck

pub returns-in-Sim-clause-complete : goal.returns-in-Sim-clause-complete
returns-in-Sim-clause-complete g c = λ told ready unstruck.
    let old = g.H.Host.state c.args.host.now in
    let new = g.H.Host.state c.sim.new.host in
    let accepted = subst (λ command. IsReady (words_of command) old.files) c.in-Sim.is ready in
    sim-complete c.in-Sim.text.now c.in-Sim.stimulus.now c.in-Sim.out.now c.sim.result old new (c.sim.ensures.cause.struck told) (c.sim.ensures.told told) accepted unstruck

pub returns-in-Order-clause-complete : goal.returns-in-Order-clause-complete
returns-in-Order-clause-complete g c = λ told ready unstruck.
    let old = g.H.Host.state c.args.host.now in
    let new = g.H.Host.state c.order.new.host in
    let accepted = subst (λ command. IsReady (words_of command) old.files) c.in-Order.is ready in
    order-complete c.in-Order.text.now c.in-Order.stimulus.now c.in-Order.out.now c.in-Order.number c.order.result old new (c.order.ensures.cause.struck told) (c.order.ensures.told told) accepted unstruck

pub returns-in-Extreme-clause-complete : goal.returns-in-Extreme-clause-complete
returns-in-Extreme-clause-complete g c = λ told ready unstruck.
    let old = g.H.Host.state c.args.host.now in
    let new = g.H.Host.state c.extreme.new.host in
    let accepted = subst (λ command. IsReady (words_of command) old.files) c.in-Extreme.is ready in
    extreme-complete c.in-Extreme.plan.now c.in-Extreme.register.now c.in-Extreme.out.now c.extreme.result old new (c.extreme.ensures.cause.struck told) (c.extreme.ensures.told told) accepted unstruck

pub returns-in-Demo-clause-complete : goal.returns-in-Demo-clause-complete
returns-in-Demo-clause-complete g c = λ told ready unstruck.
    let old = g.H.Host.state c.args.host.now in
    let new = g.H.Host.state c.demo.new.host in
    demo-complete c.in-Demo.number c.in-Demo.out.now c.demo.result old new (c.demo.ensures.cause.struck told) (c.demo.ensures.told told) unstruck
