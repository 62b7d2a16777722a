-- A simulation row by row.
use Rattle.std.proofs.Common.{◌≡◌, ◌∙◌, ℕ, zero, suc, ◌+◌, arith, zero-add, List, [], ◌∷◌, ◌++◌, drop, Option, Some, None, Result, Ok, Err, refl, sym, ap, subst, append_assoc, append-nil}
use Rattle.std.proofs.Math.Seq.{drop-nil}
use Rattle.verilog_tree.specs.declared.tree.Module.{Module}
use Rattle.verilog_tree.specs.View.{design_view}
use Rattle.sample_file.specs.declared.fault.LineFault.{LineFault}
use Rattle.sample_file.specs.declared.ranges.Stimulus.{Stimulus}
use Rattle.sample_file.specs.declared.row.Row.{Row}
use Rattle.sample_file.specs.Reading.{Place, Reading, rows_from, row_then, no_rows, refused}
use Rattle.sample_file.specs.Ranges.{item_then}
use Rattle.clock_sim.specs.Simulated.{values_of}
use Rattle.row_stream.specs.declared.fault.StreamFault.{StreamFault}
use Rattle.row_stream.specs.declared.fault.StreamFault.TheVariants.{Line, Memory}
use Rattle.sim_stream.specs.Given.{Gives, cycles_for}
use Rattle.row_stream.specs.Giving.{Giving, GoesOn, Takes, Closes}
use Rattle.sim_stream.specs.Stream.{Midst, GivesFrom}
use Rattle.sim_stream.specs.Ends.{RunsCycle, CycleEnds, cycle_in}

abbrev midst : Module → List ℕ → Place → ℕ → ℕ → Midst
midst design values place cycle tick = record { design = design; values = values; place = place; cycle = cycle; tick = tick }

module _ (old : Midst) (design : Module) (values : List ℕ) (cycle tick : ℕ) (p q : Place) (piece left : List ℕ) (is_old : midst design values p cycle tick ≡ old) where
  -- no row was found
  pub no-row : ((rest : List ℕ) → rows_from p (piece ++ rest) ≡ row_then (Ok None) (rows_from q (left ++ rest))) → GoesOn (GivesFrom old) (GivesFrom (midst design values q cycle tick)) piece left []
  no-row rows = subst (λ (m : Midst). GoesOn (GivesFrom m) (GivesFrom (midst design values q cycle tick)) piece left []) is_old (record {
    gives = λ rest text last g. subst (λ (r : Reading). Gives (design_view design) (values_of values) cycle tick (cycles_for (design_view design) r) text last) (sym (rows rest)) g;
  })

  -- a line is refused
  pub line-refused : (fault : LineFault) → ((rest : List ℕ) → rows_from p (piece ++ rest) ≡ refused fault) → (new : Giving) (before : List ℕ) → Takes (GivesFrom old) new piece before (Err (Line fault)) before
  line-refused fault is new before = (
    [],
    sym (append-nil before),
    λ rest. subst (λ (m : Midst). GivesFrom m (piece ++ rest) [] (Some fault)) is_old (
        subst (λ (r : Reading). Gives (design_view design) (values_of values) cycle tick (cycles_for (design_view design) r) [] (Some fault)) (sym (is rest)) (record { settled = []; run = refl; shown = refl; refused = refl })),
  )

  module _ (row : Row) (rows : (rest : List ℕ) → rows_from p (piece ++ rest) ≡ row_then (Ok (Some row)) (rows_from q (left ++ rest))) where
    -- its cycle was run
    pub row-run : (after : List ℕ) (ticks : ℕ) (line : List ℕ) (same : Module) → same ≡ design → RunsCycle (design_view design) (values_of values) cycle tick row (values_of after) ticks line
        → GoesOn (GivesFrom old) (GivesFrom (midst same after q (cycle + 1) ticks)) piece left line
    row-run after ticks line same is runs = subst (λ (m : Module). GoesOn (GivesFrom old) (GivesFrom (midst m after q (cycle + 1) ticks)) piece left line) (sym is)
        (subst (λ (m : Midst). GoesOn (GivesFrom m) (GivesFrom (midst design after q (cycle + 1) ticks)) piece left line) is_old (record {
          gives = λ rest text last g.
              subst (λ (r : Reading). Gives (design_view design) (values_of values) cycle tick (cycles_for (design_view design) r) (line ++ text) last) (sym (rows rest))
              (runs.gives (cycles_for (design_view design) (rows_from q (left ++ rest))) text last g);
        }))

    -- the row is refused
    row-refused : (fault : LineFault) → cycle_in (design_view design) row ≡ Err fault → (rest : List ℕ) → GivesFrom old (piece ++ rest) [] (Some fault)
    row-refused fault is rest = subst (λ (m : Midst). GivesFrom m (piece ++ rest) [] (Some fault)) is_old (
        subst (λ (r : Reading). Gives (design_view design) (values_of values) cycle tick (cycles_for (design_view design) r) [] (Some fault)) (sym (rows rest))
        (subst (λ (first : Result Stimulus LineFault). Gives (design_view design) (values_of values) cycle tick (item_then first (cycles_for (design_view design) (rows_from q (left ++ rest)))) [] (Some fault)) (sym is)
        (record { settled = []; run = refl; shown = refl; refused = refl })))

    -- its cycle ends with a fault
    pub row-faults : (fault : StreamFault) (after : List ℕ) (new : Giving) (before out : List ℕ) → CycleEnds (design_view design) (values_of values) cycle tick row before (Err fault) (values_of after) out
        → Takes (GivesFrom old) new piece before (Err fault) out
    row-faults (Line fault) after new before out ends = ([], ends.0 ∙ sym (append-nil before), row-refused fault ends.1)
    row-faults Memory after new before out ends = ([], ends ∙ sym (append-nil before))

-- one part after another
pub continued : (a b c : Giving) (bytes middle left first second : List ℕ) → GoesOn a b bytes middle first → GoesOn b c middle left second → GoesOn a c bytes left (first ++ second)
continued a b c bytes middle left first second one two = record {
  gives = λ rest text last g. subst (λ (all : List ℕ). a (bytes ++ rest) all last) (sym (append_assoc first second text)) (one.gives rest (second ++ text) last (two.gives rest text last g));
}

drop-more : (n m : ℕ) (xs : List ℕ) → drop m (drop n xs) ≡ drop (n + m) xs
drop-more zero m xs = ap (λ (k : ℕ). drop k xs) (sym (zero-add m))
drop-more (suc n) m [] = drop-nil m ∙ sym (drop-nil (suc n + m))
drop-more (suc n) m (x ∷ xs) = drop-more n m xs ∙ (let next : suc (n + m) ≡ suc n + m = omega arith in ap (λ (k : ℕ). drop k (x ∷ xs)) next)

-- more bytes were taken
pub advanced : (a b c : Giving) (piece : List ℕ) (taken more : ℕ) (before middle after : List ℕ) → Takes a b piece before (Ok taken) middle → Takes b c (drop taken piece) middle (Ok more) after → Takes a c piece before (Ok (taken + more)) after
advanced a b c piece taken more before middle after one two = (
  one.0 ++ two.0,
  two.1 ∙ ap (λ (out : List ℕ). out ++ two.0) one.1 ∙ append_assoc before one.0 two.0,
  subst (λ (left : List ℕ). GoesOn a c piece left (one.0 ++ two.0)) (drop-more taken more piece) (continued a b c piece (drop taken piece) (drop more (drop taken piece)) one.0 two.0 one.2 two.2),
)

-- bytes behind those that were taken end in a fault
pub advanced-fault : (a b : Giving) (c d : Giving) (piece : List ℕ) (taken : ℕ) (fault : StreamFault) (before middle after : List ℕ) → Takes a b piece before (Ok taken) middle → Takes b c (drop taken piece) middle (Err fault) after
    → Takes a d piece before (Err fault) after
advanced-fault a b c d piece taken (Line fault) before middle after one two = (
  one.0 ++ two.0,
  two.1 ∙ ap (λ (out : List ℕ). out ++ two.0) one.1 ∙ append_assoc before one.0 two.0,
  (λ rest. one.2.gives rest two.0 (Some fault) (two.2 rest)),
)
advanced-fault a b c d piece taken Memory before middle after one two = (one.0 ++ two.0, two.1 ∙ ap (λ (out : List ℕ). out ++ two.0) one.1 ∙ append_assoc before one.0 two.0)

-- nothing was taken yet
pub not-advanced : (a : Giving) (piece before : List ℕ) → Takes a a piece before (Ok 0) before
not-advanced a piece before = ([], sym (append-nil before), record { gives = λ rest text last g. g })

-- ---- the end

module _ (m : Midst) (design : Module) (values : List ℕ) (place : Place) (cycle tick : ℕ) (is_m : midst design values place cycle tick ≡ m) where
  abbrev AtEnd : List ℕ → Option LineFault → Type 0
  AtEnd text last = GivesFrom m [] text last

  from_rows : (reading : Reading) (text : List ℕ) (last : Option LineFault) → rows_from place [] ≡ reading → Gives (design_view design) (values_of values) cycle tick (cycles_for (design_view design) reading) text last → AtEnd text last
  from_rows reading text last is g = subst (λ (n : Midst). GivesFrom n [] text last) is_m
      (subst (λ (r : Reading). Gives (design_view design) (values_of values) cycle tick (cycles_for (design_view design) r) text last) (sym is) g)

  pub end-none : rows_from place [] ≡ row_then (Ok None) no_rows → AtEnd [] None
  end-none is = from_rows no_rows [] None is (record { settled = []; run = refl; shown = refl; refused = refl })

  pub end-refused : (fault : LineFault) → rows_from place [] ≡ row_then (Err fault) no_rows → AtEnd [] (Some fault)
  end-refused fault is = from_rows (refused fault) [] (Some fault) is (record { settled = []; run = refl; shown = refl; refused = refl })

  pub end-run : (row : Row) (after : List ℕ) (ticks : ℕ) (line : List ℕ) → rows_from place [] ≡ row_then (Ok (Some row)) no_rows → RunsCycle (design_view design) (values_of values) cycle tick row (values_of after) ticks line → AtEnd line None
  end-run row after ticks line is runs =
      from_rows (row_then (Ok (Some row)) no_rows) line None is
      (subst (λ (text : List ℕ). Gives (design_view design) (values_of values) cycle tick (item_then (cycle_in (design_view design) row) (cycles_for (design_view design) no_rows)) text None) (append-nil line)
      (runs.gives (cycles_for (design_view design) no_rows) [] None (record { settled = []; run = refl; shown = refl; refused = refl })))

  -- the last row is refused, or memory runs out
  pub end-faults : (fault : StreamFault) (row : Row) (after : List ℕ) (new : Giving) (before out : List ℕ) → rows_from place [] ≡ row_then (Ok (Some row)) no_rows
      → CycleEnds (design_view design) (values_of values) cycle tick row before (Err fault) (values_of after) out → Closes (GivesFrom m) new before (Err fault) out
  end-faults (Line fault) row after new before out is ends = (
    [],
    ends.0 ∙ sym (append-nil before),
    from_rows (row_then (Ok (Some row)) no_rows) [] (Some fault) is
        (subst (λ (first : Result Stimulus LineFault). Gives (design_view design) (values_of values) cycle tick (item_then first (cycles_for (design_view design) no_rows)) [] (Some fault)) (sym ends.1)
        (record { settled = []; run = refl; shown = refl; refused = refl })),
  )
  end-faults Memory row after new before out is ends = ([], ends ∙ sym (append-nil before))
