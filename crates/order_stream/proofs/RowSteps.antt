-- What is given for cycles row by row, at each point of their file.
use Rattle.std.proofs.Common.{◌≡◌, ◌∙◌, ℕ, ◌+◌, List, [], ◌++◌, Option, Some, None, Result, Ok, Err, refl, sym, subst, append-nil}
use Rattle.verilog_tree.specs.Tree.{Design}
use Rattle.sample_file.specs.declared.fault.LineFault.{LineFault}
use Rattle.sample_file.specs.declared.ranges.Stimulus.{Stimulus}
use Rattle.sample_file.specs.declared.row.Row.{Row}
use Rattle.sample_file.specs.Reading.{Place, Reading, rows_from, row_then, no_rows, refused}
use Rattle.sample_file.specs.Ranges.{item_then}
use Rattle.row_stream.specs.declared.fault.StreamFault.{StreamFault}
use Rattle.row_stream.specs.declared.fault.StreamFault.TheVariants.{Line, Memory}
use Rattle.row_stream.specs.Giving.{Giving, GoesOn, Takes, Closes}
use Rattle.sim_stream.specs.Given.{cycles_for}
use Rattle.sim_stream.specs.Ends.{cycle_in}
use Rattle.verilog_tree.specs.Meaning.{Values}
use Rattle.order_stream.specs.Ordered.{GivesOrdered}
use Rattle.order_stream.specs.Ends.{RunsCycle, CycleEnds}

module _ (d : Design) (values : Values) (cycle tick state : ℕ) (p : Place) where
  abbrev Here : Giving
  Here = λ bytes text last. GivesOrdered d values cycle tick state (cycles_for d (rows_from p bytes)) text last

  -- there is no cycle
  nothing : (fault : Option LineFault) → GivesOrdered d values cycle tick state (record { items = []; fault = fault }) [] fault
  nothing fault = record { settled = []; run = refl; shown = refl; refused = refl }

  module _ (q : Place) (piece left : List ℕ) where
    -- no row was found
    pub no-row : ((rest : List ℕ) → rows_from p (piece ++ rest) ≡ row_then (Ok None) (rows_from q (left ++ rest)))
        → GoesOn Here (λ bytes text last. GivesOrdered d values cycle tick state (cycles_for d (rows_from q bytes)) text last) piece left []
    no-row rows = record { gives = λ rest text last g. subst (λ (r : Reading). GivesOrdered d values cycle tick state (cycles_for d r) text last) (sym (rows rest)) g }

    module _ (row : Row) (rows : (rest : List ℕ) → rows_from p (piece ++ rest) ≡ row_then (Ok (Some row)) (rows_from q (left ++ rest))) where
      -- its cycle was run
      pub row-run : (after : Values) (ticks new_state : ℕ) (line : List ℕ) → RunsCycle d values cycle tick state row after ticks new_state line
          → GoesOn Here (λ bytes text last. GivesOrdered d after (cycle + 1) ticks new_state (cycles_for d (rows_from q bytes)) text last) piece left line
      row-run after ticks new_state line runs = record {
        gives = λ rest text last g. subst (λ (r : Reading). GivesOrdered d values cycle tick state (cycles_for d r) (line ++ text) last) (sym (rows rest))
            (runs.gives (cycles_for d (rows_from q (left ++ rest))) text last g);
      }

      row-refused : (fault : LineFault) → cycle_in d row ≡ Err fault → (rest : List ℕ) → Here (piece ++ rest) [] (Some fault)
      row-refused fault is rest =
          subst (λ (r : Reading). GivesOrdered d values cycle tick state (cycles_for d r) [] (Some fault)) (sym (rows rest))
          (subst (λ (first : Result Stimulus LineFault). GivesOrdered d values cycle tick state (item_then first (cycles_for d (rows_from q (left ++ rest)))) [] (Some fault)) (sym is) (nothing (Some fault)))

      -- its cycle ends with a fault
      pub row-faults : (fault : StreamFault) (after : Values) (new_state : ℕ) (new : Giving) (before out : List ℕ) → CycleEnds d values cycle tick state row before (Err fault) after new_state out
          → Takes Here new piece before (Err fault) out
      row-faults (Line fault) after new_state new before out ends = ([], ends.0 ∙ sym (append-nil before), row-refused fault ends.1)
      row-faults Memory after new_state new before out ends = ([], ends ∙ sym (append-nil before))

  -- a line is refused
  pub line-refused : (piece : List ℕ) (fault : LineFault) → ((rest : List ℕ) → rows_from p (piece ++ rest) ≡ refused fault) → (new : Giving) (before : List ℕ) → Takes Here new piece before (Err (Line fault)) before
  line-refused piece fault is new before = (
    [],
    sym (append-nil before),
    λ rest. subst (λ (r : Reading). GivesOrdered d values cycle tick state (cycles_for d r) [] (Some fault)) (sym (is rest)) (nothing (Some fault)),
  )

  -- ---- the end

  from_rows : (reading : Reading) (text : List ℕ) (last : Option LineFault) → rows_from p [] ≡ reading → GivesOrdered d values cycle tick state (cycles_for d reading) text last → Here [] text last
  from_rows reading text last is g = subst (λ (r : Reading). GivesOrdered d values cycle tick state (cycles_for d r) text last) (sym is) g

  pub end-none : rows_from p [] ≡ row_then (Ok None) no_rows → Here [] [] None
  end-none is = from_rows no_rows [] None is (nothing None)

  pub end-refused : (fault : LineFault) → rows_from p [] ≡ row_then (Err fault) no_rows → Here [] [] (Some fault)
  end-refused fault is = from_rows (refused fault) [] (Some fault) is (nothing (Some fault))

  pub end-run : (row : Row) (after : Values) (ticks new_state : ℕ) (line : List ℕ) → rows_from p [] ≡ row_then (Ok (Some row)) no_rows → RunsCycle d values cycle tick state row after ticks new_state line → Here [] line None
  end-run row after ticks new_state line is runs =
      from_rows (row_then (Ok (Some row)) no_rows) line None is
      (subst (λ (text : List ℕ). GivesOrdered d values cycle tick state (item_then (cycle_in d row) (cycles_for d no_rows)) text None) (append-nil line)
      (runs.gives (cycles_for d no_rows) [] None (record { settled = []; run = refl; shown = refl; refused = refl })))

  -- the last row is refused, or memory runs out
  pub end-faults : (fault : StreamFault) (row : Row) (after : Values) (new_state : ℕ) (new : Giving) (before out : List ℕ) → rows_from p [] ≡ row_then (Ok (Some row)) no_rows
      → CycleEnds d values cycle tick state row before (Err fault) after new_state out → Closes Here new before (Err fault) out
  end-faults (Line fault) row after new_state new before out is ends = (
    [],
    ends.0 ∙ sym (append-nil before),
    from_rows (row_then (Ok (Some row)) no_rows) [] (Some fault) is
        (subst (λ (first : Result Stimulus LineFault). GivesOrdered d values cycle tick state (item_then first (cycles_for d no_rows)) [] (Some fault)) (sym ends.1) (nothing (Some fault))),
  )
  end-faults Memory row after new_state new before out is ends = ([], ends ∙ sym (append-nil before))
