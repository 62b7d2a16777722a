-- The linear registers of a plan: those of its linear groups before any rounding, and `out_q` where no group rounds.
use Rattle.std.specs.Prelude.{ℕ, zero, suc, ◌+◌, nat_eq, if◌then◌else◌, Bool, false, Option, None, List, [], ◌∷◌, ◌++◌, map, take, unwrap_or, pos}
use Rattle.mr_values.specs.declared.plan.Element.{Element}
use Rattle.mr_values.specs.Timing.{Group, Fir, DownCic, UpCic, Rounding, Clipping, Stream, groups, input, after, last_stream, taps_of, form_of, wide}
use Rattle.net_graph.specs.declared.name.Name.{Name}
use Rattle.net_graph.specs.declared.name.NameKind.TheVariants.{Output}
use Rattle.pipeline_balance.specs.Numbered.{name_of}
use Rattle.plan_check.specs.Groups.{size_of}
use Rattle.stage_law.specs.Kinds.{is_linear}
use Rattle.stage_law.specs.Registers.{HeldSum, StageRegister, Telling, bits_of, needing}
use Rattle.stage_law.specs.declared.ranges.Class.{Class}
use Rattle.stage_law.specs.declared.ranges.Range.{Range}
use Rattle.impulse_phase.specs.Response.{responses, full_cycle}
use Rattle.width_extreme.specs.Prefix.{range_of, finer_classes}
use Rattle.chain_build.specs.Built.{kind_of, has_rounding}
use Rattle.chain_build.specs.Forms.{fir_facts}

-- the stream that elements make of the samples: value k stands at the tick offset + k * period
pub record PrefixStream : Type 0 where
  pub elements : List Element
  pub period : ℕ
  pub offset : ℕ

-- a linear register, the stream whose sums it holds, and the first of these sums that needs its width, where one bit is too few
pub record LinearRegister : Type 0 where
  pub name : Name
  pub width : ℕ
  pub stream : PrefixStream
  pub needed : Option HeldSum

-- the exact ranges of sums over what elements make of samples of w bits
abbrev pub prefix_range : ℕ → List Element → Telling
prefix_range w elements form class = range_of w form (responses elements) class (finer_classes (full_cycle elements).classes class.modulus)

abbrev pub register_of : ℕ → ℕ → PrefixStream → StageRegister → LinearRegister
register_of w group stream r =
    let range = prefix_range w stream.elements in
    let bits = bits_of range r.sums in
    record { name = name_of group r.kind r.number; width = bits; stream = stream; needed = if nat_eq bits 1 then None else needing range bits r.sums }

-- ---- the registers of a group

-- of groups that are not linear there are none
abbrev pub group_registers : Group → Stream → List StageRegister
group_registers (Fir up filter down) s = (fir_facts (form_of filter) (taps_of filter) (unwrap_or up 1) (unwrap_or down 1) (wide s.low s.high)).registers s.period
group_registers (DownCic factor stages delay) s = []
group_registers (UpCic factor stages delay) s = []
group_registers (Rounding shift mode) s = []
group_registers (Clipping bits) s = []

-- every index
abbrev pub each_index : Class
each_index = record { modulus = 1; residue = 0 }

-- `out_q` takes each value of the last stream one tick later
abbrev pub output_register : StageRegister
output_register = record { kind = Output; number = 0; sums = record { form = pos 1 ∷ []; class = each_index; lag = 1 } ∷ [] }

-- the range of the chain's values: the exact one where no group rounds, else the span of the last stream
abbrev pub output_range : ℕ → ℕ → List Element → Range
output_range w ticks elements =
    if has_rounding (groups elements) then record { lo = (last_stream w ticks elements).low; hi = (last_stream w ticks elements).high } else prefix_range w elements (pos 1 ∷ []) each_index

-- ---- the registers of a plan

-- of the groups that are left, numbered from here, after so many elements and on this stream
abbrev pub linear_from : ℕ → List Element → ℕ → ℕ → Stream → List Group → List LinearRegister
linear_from w elements number taken s [] = register_of w 0 (record { elements = elements; period = s.period; offset = s.offset }) output_register ∷ []
linear_from w elements number taken s (Rounding shift mode ∷ gs) = []
linear_from w elements number taken s (Clipping bits ∷ gs) = []
linear_from w elements number taken s (g ∷ gs) =
    map (register_of w number (record { elements = take taken elements; period = s.period; offset = s.offset })) (group_registers g s)
    ++ linear_from w elements (number + 1) (taken + size_of g) (after g s) gs

abbrev pub linear : ℕ → ℕ → List Element → List LinearRegister
linear w ticks elements = linear_from w elements 1 0 (input w ticks) (groups elements)

-- ---- which groups are linear

-- the group at this place, counted from 0, is linear, and none before it rounds
abbrev pub is_linear_group : List Group → ℕ → Bool
is_linear_group [] n = false
is_linear_group (Rounding shift mode ∷ gs) n = false
is_linear_group (Clipping bits ∷ gs) n = false
is_linear_group (g ∷ gs) zero = is_linear (kind_of g)
is_linear_group (g ∷ gs) (suc n) = is_linear_group gs n

-- the group of this number, counted from 1
abbrev pub is_linear_number : List Group → ℕ → Bool
is_linear_number gs zero = false
is_linear_number gs (suc n) = is_linear_group gs n
