-- The definition of an order can be met: a wire that follows a register, and a block that adds 1 to the wire.
use Rattle.std.proofs.Common.{◌≡◌, ℕ, zero, suc, ◌+◌, Bool, true, false, [], ◌∷◌, Option, None, Some, refl, arith}
use Rattle.std.specs.Prelude.{◌==◌, if◌then◌else◌, All}
use Rattle.verilog_tree.specs.Circuit.{Driver, Process, Circuit, later}
use Rattle.event_order.specs.Order.{Moment, Step, Evaluate, Run, Update, evaluated, ran, updated, CycleSteps, IsOrder, IsQuiet, HasRun, IsUpdated, is_evaluation, is_update, is_run, first_moment}

abbrev wire : Driver
wire = record { target = 1; reads = λ n. n == 0; value = λ v. v 0 }

abbrev block : Process
block v register = if register == 0 then Some (v 1 + 1) else None

abbrev circuit : Circuit
circuit = record { drivers = wire ∷ []; processes = block ∷ [] }

abbrev start : Moment
start = first_moment (λ n. 5)

abbrev read : Moment
read = evaluated circuit 0 wire start

abbrev edge : Moment
edge = record read { waiting = λ k. true }

abbrev after : Moment
after = updated circuit 0 6 (ran 0 block edge)

abbrev steps : CycleSteps
steps = record { settle = Evaluate 0 ∷ []; edge = Run 0 ∷ []; update = Update 0 ∷ [] }

one : (P : Step → Type 0) (s : Step) → P s → All P (s ∷ [])
one P s holds zero d lt = holds
one P s holds (suc k) d lt = absurd (omega (arith, lt))

quiet : IsQuiet circuit read
quiet zero d at = refl
quiet (suc k) d at = absurd (grind arith)

has_run : HasRun circuit (ran 0 block edge)
has_run zero p at = refl
has_run (suc k) p at = absurd (grind arith)

abbrev six : Option ℕ
six = Some 6

is_updated : IsUpdated after
is_updated register = by (register == 0)
  where
    by : (b : Bool) → (if b then None else later None (if b then six else None)) ≡ None
    by true = refl
    by false = refl

pub an_order : IsOrder circuit [] start steps read after
an_order = record {
  settle_steps = one (λ s. is_evaluation s ≡ true) (Evaluate 0) refl;
  settle = (read, (wire, refl, refl), refl);
  quiet = quiet;
  run = ran 0 block edge;
  edge_steps = one (λ s. is_update s ≡ false) (Run 0) refl;
  edge = (ran 0 block edge, (block, refl, refl, refl), refl);
  has_run = has_run;
  update_steps = one (λ s. is_run s ≡ false) (Update 0) refl;
  update = (after, (6, refl, refl), refl);
  is_updated = is_updated;
}

pub register_after : after.values 0 ≡ 6
register_after = refl
