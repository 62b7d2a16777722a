-- The report of a plan and its module.
use Rattle.std.specs.Prelude.{◌≡◌, ℕ, ◌+◌, ℤ, List, [], ◌∷◌, ◌++◌, Option, None, Some, codes, decimal, if◌then◌else◌}
use Rattle.std.specs.Fmt.{signed_decimal}
use Rattle.mr_values.specs.Timing.{Group}
use Rattle.plan_check.specs.declared.facts.Facts.{Facts}
use Rattle.stage_law.specs.declared.stage.Kind.{Kind}
use Rattle.stage_law.specs.declared.stage.Kind.TheVariants.{Parallel, Symmetric, HalfBand, Folded, Distributed, CicDown, CicUp, Rounding, Clipping}
use Rattle.chain_build.specs.Built.{kind_of}
use Rattle.verilog_tree.specs.declared.tree.Signal.{Signal}
use Rattle.verilog_tree.specs.Counted.{Counts, counted, is_reg}
use Rattle.verilog_tree.specs.Names.{shapes_of, text_of}
use Rattle.verilog_tree.specs.Shown.{ports_of}
use Rattle.verilog_tree.specs.Tree.{Design}

-- the bound of the rounding error; a plan that clips has none
abbrev pub bound_words : Option ℕ → List ℕ
bound_words None = codes "none"
bound_words (Some bound) = decimal bound

-- the tick of the first output, the ticks from one to the next, the bound and the shift, and the bits of an output
abbrev pub plan_lines : Facts → ℕ → List ℕ
plan_lines facts output =
    codes "latency " ++ decimal facts.latency ++ codes "\nperiod " ++ decimal facts.period ++ codes "\nbound " ++ bound_words facts.bound ++ codes "\nshift " ++ decimal facts.shift
    ++ codes "\noutput " ++ decimal output ++ codes "\n"

abbrev pub kind_word : Kind → List ℕ
kind_word Parallel = codes "parallel"
kind_word Symmetric = codes "symmetric"
kind_word HalfBand = codes "half_band"
kind_word Folded = codes "folded"
kind_word Distributed = codes "distributed"
kind_word CicDown = codes "cic_down"
kind_word CicUp = codes "cic_up"
kind_word Rounding = codes "round"
kind_word Clipping = codes "clip"

-- the form of a group, and its adders, window registers and tables
abbrev pub group_line : ℕ → Kind → Counts → List ℕ
group_line number kind counts =
    codes "group " ++ decimal number ++ codes " " ++ kind_word kind ++ codes " adders " ++ decimal counts.adders ++ codes " windows " ++ decimal counts.windows ++ codes " tables "
    ++ decimal counts.tables ++ codes "\n"

-- a line for each group, numbered from here: what it costs is counted in the module's statements
abbrev pub group_lines : ℕ → List Group → Design → List ℕ
group_lines number [] d = []
group_lines number (g ∷ gs) d = group_line number (kind_of g) (counted d number) ++ group_lines (number + 1) gs d

-- a tick, and the value that a register has at it, where one is told
abbrev pub extreme_words : Option (ℕ × ℤ) → List ℕ
extreme_words None = []
extreme_words (Some (tick, value)) = codes " tick " ++ decimal tick ++ codes " value " ++ signed_decimal value

-- the name of a register, its bits, and what is told at the number of its name; and nothing for another signal
abbrev pub register_line : Design → (ℕ → Option (ℕ × ℤ)) → Signal → List ℕ
register_line d extremes s =
    if is_reg s.kind then codes "register " ++ text_of d s.name ++ codes " " ++ decimal s.width ++ extreme_words (extremes s.name) ++ codes "\n" else []

-- a line for each register, in the order of the declarations
abbrev pub register_lines : Design → (ℕ → Option (ℕ × ℤ)) → List Signal → List ℕ
register_lines d extremes [] = []
register_lines d extremes (s ∷ ss) = register_line d extremes s ++ register_lines d extremes ss

abbrev pub report_text : Facts → List Group → Design → (ℕ → Option (ℕ × ℤ)) → List ℕ
report_text facts gs d extremes = plan_lines facts ((shapes_of d).width (ports_of d).out_data) ++ group_lines 1 gs d ++ register_lines d extremes d.signals

-- so many bits has the module's output
abbrev pub TellsOutput : ℕ → Design → Type 0
TellsOutput output d = output ≡ (shapes_of d).width (ports_of d).out_data
