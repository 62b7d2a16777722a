-- What the program's answers mean, command by command.
use Rattle.std.specs.Prelude.{◌≡◌, ℕ, List, Option, Some, None, Result, Ok, Err}
use Rattle.mr_values.specs.Files.{Files}
use Rattle.mr_values.specs.Host.{HostState}
use Rattle.command_files.specs.declared.fault.CommandFault.{CommandFault}
use Rattle.filter_core.specs.declared.fault.Fault.{Fault}
use Rattle.filter_core.specs.declared.fault.Fault.TheVariants.{Usage}
use Rattle.filter_core.specs.Answers.{Answers}
use Rattle.filter_core.specs.CommandWords.{CommandWords, compile_words, run_words, sim_words, order_words, extreme_words, noble_words, migrate_words, demo_words}
use Rattle.mr_values.specs.declared.plan.Plan.{Plan}
use Rattle.command_files.specs.Ends.{IsNoFile}
use Rattle.command_files.specs.PlanFile.{IsAcceptedFile, IsOfPlan}
use Rattle.demo_command.specs.Demo.{DemoEnds}
use Rattle.plan_commands.specs.Migrate.{MigrateEnds}
use Rattle.plan_commands.specs.Noble.{NobleEnds}
use Rattle.plan_commands.specs.Compile.{CompileEnds, IsBuiltFile}
use Rattle.plan_commands.specs.Extreme.{ExtremeEnds, IsExtremeReady}
use Rattle.text_commands.specs.Order.{OrderEnds}
use Rattle.plan_commands.specs.Run.{RunEnds, IsReadForRun, IsRunReady}
use Rattle.text_commands.specs.Sim.{SimEnds, IsTextOrStimulus, AreSimFiles}

-- a file that a command reads: PLAN, or a tap file that it names, and for `run` SAMPLES too; for `sim` and `order` TEXT or STIMULUS, and none for `demo`
abbrev pub IsReadFor : CommandWords → Files → List ℕ → Type 0
IsReadFor (compile_words plan text report) = IsOfPlan plan
IsReadFor (run_words plan samples out) = IsReadForRun plan samples
IsReadFor (sim_words text stimulus out) = IsTextOrStimulus text stimulus
IsReadFor (order_words text stimulus out number) = IsTextOrStimulus text stimulus
IsReadFor (extreme_words plan register out) = IsOfPlan plan
IsReadFor (noble_words plan out) = IsOfPlan plan
IsReadFor (migrate_words plan out) = IsOfPlan plan
IsReadFor (demo_words number out) = IsNoFile

-- each command's answers, and the host after them
abbrev pub CommandEnds : CommandWords → Result (Unit {0}) CommandFault → HostState → HostState → Type 0
CommandEnds (compile_words plan text report) result old new = CompileEnds plan text report result old new
CommandEnds (run_words plan samples out) result old new = RunEnds plan samples out result old new
CommandEnds (sim_words text stimulus out) result old new = SimEnds text stimulus out result old new
CommandEnds (order_words text stimulus out number) result old new = OrderEnds text stimulus out number result old new
CommandEnds (extreme_words plan register out) result old new = ExtremeEnds plan register out result old new
CommandEnds (noble_words plan out) result old new = NobleEnds plan out result old new
CommandEnds (migrate_words plan out) result old new = MigrateEnds plan out result old new
CommandEnds (demo_words number out) result old new = DemoEnds number out result old new

-- the files that a command reads are there and accepted
abbrev pub IsReady : CommandWords → Files → Type 0
IsReady (compile_words plan text report) files = IsBuiltFile plan files
IsReady (run_words plan samples out) files = IsRunReady plan samples files
IsReady (sim_words text stimulus out) files = AreSimFiles text stimulus files
IsReady (order_words text stimulus out number) files = AreSimFiles text stimulus files
IsReady (extreme_words plan register out) files = IsExtremeReady plan register files
IsReady (noble_words plan out) files = (meaning : Plan) × IsAcceptedFile plan files meaning
IsReady (migrate_words plan out) files = (meaning : Plan) × IsAcceptedFile plan files meaning
IsReady (demo_words number out) files = Unit {0}

-- the same of words that may be no command
abbrev pub IsReadBy : Option CommandWords → Files → List ℕ → Type 0
IsReadBy None = IsNoFile
IsReadBy (Some command) = IsReadFor command

abbrev pub ToolEnds : Option CommandWords → Option Fault → HostState → HostState → Type 0
ToolEnds None fault old new = (fault ≡ Some Usage) × (new ≡ old)
ToolEnds (Some command) fault old new = Answers (λ result. CommandEnds command result old new) fault

abbrev pub result_of : Option Fault → Result (Unit {0}) Fault
result_of None = Ok tt
result_of (Some fault) = Err fault
