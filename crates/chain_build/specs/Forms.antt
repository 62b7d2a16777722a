-- Which forms of filters are built, and what a filter of each is as a stage.
use Rattle.std.specs.Prelude.{◌≡◌, ℕ, ◌*◌, ◌≤◌, ◌≤ℤ◌, Bool, true, false, ◌||◌, if◌then◌else◌, List, [], ℤ, pos}
use Rattle.distributed_table.specs.Facts.{distributed_facts}
use Rattle.mr_values.specs.declared.plan.Form.{Form}
use Rattle.mr_values.specs.declared.plan.Form.TheVariants.{Parallel, Symmetric, HalfBand, Folded, Distributed}
use Rattle.mr_values.specs.Value.{size}
use Rattle.plan_check.specs.Forms.{is_symmetric, is_antisymmetric}
use Rattle.polyphase_fir.specs.Facts.{polyphase_facts}
use Rattle.stage_law.specs.Facts.{StageFacts}
use Rattle.stage_law.specs.declared.stage.Kind.{Kind}
use Rattle.stage_law.specs.declared.stage.Kind.TheVariants as kind
use Rattle.symmetric_fir.specs.Facts.{mirror_facts}

abbrev pub is_built_form : Form → Bool
is_built_form Parallel = true
is_built_form Symmetric = true
is_built_form HalfBand = false
is_built_form (Folded slots) = false
is_built_form (Distributed group) = true

abbrev pub form_kind : Form → Kind
form_kind Parallel = kind.Parallel
form_kind Symmetric = kind.Symmetric
form_kind HalfBand = kind.HalfBand
form_kind (Folded slots) = kind.Folded
form_kind (Distributed group) = kind.Distributed

-- Distributed arithmetic takes a stream without an Up, with a tick before the next output for each bit.
pub record IsSerial (group : ℤ) (up down bits period : ℕ) : Type 0 where
  pub some : pos 1 ≤ℤ group
  pub few : group ≤ℤ pos 6
  pub alone : up ≡ 1
  pub enough : bits ≤ period * down

-- What a form that is built asks of its taps, the rates, and the bits and the period of its stream: mirrored taps read backwards are the taps,
-- or their negations.
abbrev pub AsksForm : Form → List ℤ → ℕ → ℕ → ℕ → ℕ → Type 0
AsksForm Parallel taps up down bits period = Unit {0}
AsksForm Symmetric taps up down bits period = (is_symmetric taps || is_antisymmetric taps) ≡ true
AsksForm HalfBand taps up down bits period = Unit {0}
AsksForm (Folded slots) taps up down bits period = Unit {0}
AsksForm (Distributed group) taps up down bits period = IsSerial group up down bits period

-- whether mirrored taps are the same from both ends, or the negations: 0 or 1
abbrev pub anti_of : List ℤ → ℕ
anti_of taps = if is_symmetric taps then 0 else 1

-- a form that isn't built has no nodes
abbrev pub unbuilt_facts : Kind → ℕ → ℕ → StageFacts
unbuilt_facts own up down = record {
  kind = own;
  elements = [];
  up = up;
  down = down;
  delay = λ period. 0;
  gain = 0;
  adders = 0;
  windows = 0;
  tables = 0;
  longest = 0;
  alike = 0;
  registers = λ period. [];
}

-- a filter of the form with these taps between an Up and a Down, on a stream whose values fit so many bits
abbrev pub fir_facts : Form → List ℤ → ℕ → ℕ → ℕ → StageFacts
fir_facts Parallel taps up down bits = polyphase_facts taps up down
fir_facts Symmetric taps up down bits = mirror_facts (anti_of taps) taps down
fir_facts HalfBand taps up down bits = unbuilt_facts kind.HalfBand up down
fir_facts (Folded slots) taps up down bits = unbuilt_facts kind.Folded up down
fir_facts (Distributed group) taps up down bits = distributed_facts (size group) taps down bits
