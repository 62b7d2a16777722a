-- A run tick by tick and row by row.
use Rattle.std.proofs.Common.{◌≡◌, ◌∙◌, ℕ, ◌+◌, ◌-◌, ◌*◌, ◌≤◌, max, List, [], ◌++◌, Option, Some, None, Result, Ok, Err, ℤ, refl, sym, subst, append-nil}
use Rattle.verilog_tree.specs.declared.tree.Module.{Module}
use Rattle.verilog_tree.specs.Tree.{Design}
use Rattle.verilog_tree.specs.Meaning.{Values}
use Rattle.verilog_tree.specs.Shown.{Cycle}
use Rattle.verilog_tree.specs.View.{design_view}
use Rattle.sample_file.specs.declared.fault.LineFault.{LineFault}
use Rattle.sample_file.specs.declared.row.Row.{Row}
use Rattle.sample_file.specs.Reading.{Place, Reading, rows_from, row_then, no_rows, refused}
use Rattle.sample_file.specs.Ranges.{Checked, item_then, sample_of, samples_of}
use Rattle.clock_sim.specs.Simulated.{values_of}
use Rattle.row_stream.specs.declared.fault.StreamFault.{StreamFault}
use Rattle.row_stream.specs.declared.fault.StreamFault.TheVariants.{Line, Memory}
use Rattle.row_stream.specs.Giving.{GoesOn, EndsOn, Takes, Closes}
use Rattle.chain_run.specs.declared.timing.ChainTiming.{ChainTiming}
use Rattle.chain_run.specs.Given.{ShowsLines, Gives, RunsOn}
use Rattle.chain_run.specs.Stream.{Midst, GivesFrom}
use Rattle.chain_run.specs.Ticks.{zeros, end_tick, ticks_from}
use Rattle.chain_run.specs.Ends.{RunsSample, SampleEnds, RunsDue, RowCloses}
use Rattle.chain_run.proofs.TickSteps.{ticks-due, ticks-end, ticks-sample, ticks-refused, ticks-over}

abbrev pub midst : Module → List ℕ → ChainTiming → Place → ℕ → ℕ → Midst
midst design values t place samples tick = record { design = design; values = values; timing = t; place = place; samples = samples; tick = tick }

-- no sample, and no refused line
abbrev no_samples : Checked ℤ
no_samples = record { items = []; fault = None }

shows-none : (d : Design) (a : Values) → ShowsLines d a [] []
shows-none d a = record { settled = []; run = refl; shown = refl }

module _ (d : Design) (t : ChainTiming) (samples tick : ℕ) where
  shows-from : (a : Values) (text : List ℕ) (cycles : List Cycle) (xs : Checked ℤ) → ticks_from t samples tick xs.items xs.fault ≡ cycles → ShowsLines d a cycles text → Gives d a t samples tick xs text xs.fault
  shows-from a text cycles xs is shows = record { lines = subst (λ (cs : List Cycle). ShowsLines d a cs text) (sym is) shows; refused = refl }

  -- ticks that are due were run
  gives-due : (a b : Values) (ticks : ℕ) (lines : List ℕ) → RunsOn d a (zeros (ticks - tick)) b lines → tick ≤ ticks → ticks ≤ max tick (samples * t.ticks)
      → (xs : Checked ℤ) (text : List ℕ) (last : Option LineFault) → Gives d b t samples ticks xs text last → Gives d a t samples tick xs (lines ++ text) last
  gives-due a b ticks lines runs least most xs text last g = record {
    lines = subst (λ (cs : List Cycle). ShowsLines d a cs (lines ++ text)) (sym (ticks-due t samples tick ticks xs.items xs.fault least most)) (runs.gives (ticks_from t samples ticks xs.items xs.fault) text g.lines);
    refused = g.refused;
  }

  -- ticks behind the last sample were run
  gives-end : (a b : Values) (ticks : ℕ) (lines : List ℕ) → RunsOn d a (zeros (ticks - tick)) b lines → tick ≤ ticks → ticks ≤ max tick (end_tick t samples None)
      → (text : List ℕ) (last : Option LineFault) → Gives d b t samples ticks no_samples text last → Gives d a t samples tick no_samples (lines ++ text) last
  gives-end a b ticks lines runs least most text last g = record {
    lines = subst (λ (cs : List Cycle). ShowsLines d a cs (lines ++ text)) (sym (ticks-end t samples tick ticks least most)) (runs.gives (ticks_from t samples ticks [] None) text g.lines);
    refused = g.refused;
  }

  -- a sample's tick was run
  gives-sample : (a b : Values) (row : Row) (lines : List ℕ) → RunsSample d a t.width row b lines → samples * t.ticks ≤ tick
      → (others : Checked ℤ) (text : List ℕ) (last : Option LineFault) → Gives d b t (samples + 1) (tick + 1) others text last → Gives d a t samples tick (item_then (sample_of t.width row) others) (lines ++ text) last
  gives-sample a b row lines runs due others text last g =
      subst (λ (first : Result ℤ LineFault). Gives d a t samples tick (item_then first others) (lines ++ text) last) (sym runs.holds) (record {
        lines =
            subst (λ (cs : List Cycle). ShowsLines d a cs (lines ++ text)) (sym (ticks-sample t samples tick runs.sample others.items others.fault due))
            (runs.runs.gives (ticks_from t (samples + 1) (tick + 1) others.items others.fault) text g.lines);
        refused = g.refused;
      })

  -- a line is refused
  gives-refused : (a : Values) (fault : LineFault) → samples * t.ticks ≤ tick → Gives d a t samples tick (record { items = []; fault = Some fault }) [] (Some fault)
  gives-refused a fault due = shows-from a [] [] (record { items = []; fault = Some fault }) (ticks-refused t samples tick fault due) (shows-none d a)

  -- all ticks were run
  gives-over : (a : Values) → end_tick t samples None ≤ tick → Gives d a t samples tick no_samples [] None
  gives-over a over = shows-from a [] [] no_samples (ticks-over t samples tick over) (shows-none d a)

-- nothing is left at the end of the file
last-over : (m : Midst) (design : Module) (values : List ℕ) (t : ChainTiming) (place : Place) (samples tick : ℕ) → midst design values t place samples tick ≡ m → rows_from place [] ≡ no_rows → end_tick t samples None ≤ tick → GivesFrom m [] [] None
last-over m design values t place samples tick is closed over = subst (λ (n : Midst). GivesFrom n [] [] None) is
    (subst (λ (r : Reading). Gives (design_view design) (values_of values) t samples tick (samples_of t.width r) [] None) (sym closed) (gives-over (design_view design) t samples tick (values_of values) over))

module _ (old : Midst) (design : Module) (values : List ℕ) (t : ChainTiming) (place : Place) (samples tick : ℕ) (is_old : midst design values t place samples tick ≡ old) where
  abbrev FromReading : Reading → List ℕ → Option LineFault → Type 0
  FromReading reading text last = Gives (design_view design) (values_of values) t samples tick (samples_of t.width reading) text last

  from-rows : (bytes : List ℕ) (reading : Reading) (text : List ℕ) (last : Option LineFault) → rows_from place bytes ≡ reading → FromReading reading text last → GivesFrom old bytes text last
  from-rows bytes reading text last is g = subst (λ (m : Midst). GivesFrom m bytes text last) is_old (subst (λ (r : Reading). FromReading r text last) (sym is) g)

  -- ---- ticks that are due

  pub runs-due : (same : Module) (after : List ℕ) (ticks : ℕ) (lines : List ℕ) → same ≡ design → RunsOn (design_view design) (values_of values) (zeros (ticks - tick)) (values_of after) lines → tick ≤ ticks → ticks ≤ max tick (samples * t.ticks)
      → RunsDue old (midst same after t place samples ticks) lines
  runs-due same after ticks lines is runs least most = subst (λ (m : Module). RunsDue old (midst m after t place samples ticks) lines) (sym is) (record {
    gives = λ bytes text last g.
        from-rows bytes (rows_from place bytes) (lines ++ text) last refl (gives-due (design_view design) t samples tick (values_of values) (values_of after) ticks lines runs least most (samples_of t.width (rows_from place bytes)) text last g);
  })

  -- ---- a row

  module _ (due : samples * t.ticks ≤ tick) (piece left : List ℕ) (later : Place) where
    pub no-row : ((rest : List ℕ) → rows_from place (piece ++ rest) ≡ row_then (Ok None) (rows_from later (left ++ rest))) → GoesOn (GivesFrom old) (GivesFrom (midst design values t later samples tick)) piece left []
    no-row rows = record { gives = λ rest text last g. from-rows (piece ++ rest) (rows_from later (left ++ rest)) text last (rows rest) g }

    pub line-refused : (fault : LineFault) → ((rest : List ℕ) → rows_from place (piece ++ rest) ≡ refused fault) → (rest : List ℕ) → GivesFrom old (piece ++ rest) [] (Some fault)
    line-refused fault rows rest = from-rows (piece ++ rest) (refused fault) [] (Some fault) (rows rest) (gives-refused (design_view design) t samples tick (values_of values) fault due)

    module _ (row : Row) (rows : (rest : List ℕ) → rows_from place (piece ++ rest) ≡ row_then (Ok (Some row)) (rows_from later (left ++ rest))) where
      pub row-run : (same : Module) (after lines : List ℕ) → same ≡ design → RunsSample (design_view design) (values_of values) t.width row (values_of after) lines
          → GoesOn (GivesFrom old) (GivesFrom (midst same after t later (samples + 1) (tick + 1))) piece left lines
      row-run same after lines is runs = subst (λ (m : Module). GoesOn (GivesFrom old) (GivesFrom (midst m after t later (samples + 1) (tick + 1))) piece left lines) (sym is) (record {
        gives = λ rest text last g.
            from-rows (piece ++ rest) (row_then (Ok (Some row)) (rows_from later (left ++ rest))) (lines ++ text) last (rows rest)
            (gives-sample (design_view design) t samples tick (values_of values) (values_of after) row lines runs due (samples_of t.width (rows_from later (left ++ rest))) text last g);
      })

      row-refused : (fault : LineFault) → sample_of t.width row ≡ Err fault → (rest : List ℕ) → GivesFrom old (piece ++ rest) [] (Some fault)
      row-refused fault is rest =
          from-rows (piece ++ rest) (row_then (Ok (Some row)) (rows_from later (left ++ rest))) [] (Some fault) (rows rest)
          (subst (λ (first : Result ℤ LineFault). Gives (design_view design) (values_of values) t samples tick (item_then first (samples_of t.width (rows_from later (left ++ rest)))) [] (Some fault)) (sym is)
          (gives-refused (design_view design) t samples tick (values_of values) fault due))

      -- its tick ends with a fault
      pub row-faults : (fault : StreamFault) (after before out : List ℕ) (new : Midst) → SampleEnds (design_view design) (values_of values) t.width row before (Err fault) (values_of after) out
          → Takes (GivesFrom old) (GivesFrom new) piece before (Err fault) out
      row-faults (Line fault) after before out new ends = ([], ends.0 ∙ sym (append-nil before), row-refused fault ends.1)
      row-faults Memory after before out new ends = ([], ends ∙ sym (append-nil before))

  -- ---- the end of the file

  module _ (due : samples * t.ticks ≤ tick) (later : Place) (closed : rows_from later [] ≡ no_rows) where
    pub end-none : rows_from place [] ≡ row_then (Ok None) no_rows → EndsOn (GivesFrom old) (GivesFrom (midst design values t later samples tick)) []
    end-none is = record { gives = λ text last g. from-rows [] no_rows text last is (subst (λ (r : Reading). FromReading r text last) closed g) }

    pub end-run : (row : Row) (same : Module) (after lines : List ℕ) → rows_from place [] ≡ row_then (Ok (Some row)) no_rows → same ≡ design → RunsSample (design_view design) (values_of values) t.width row (values_of after) lines
        → EndsOn (GivesFrom old) (GivesFrom (midst same after t later (samples + 1) (tick + 1))) lines
    end-run row same after lines is same_is runs = subst (λ (m : Module). EndsOn (GivesFrom old) (GivesFrom (midst m after t later (samples + 1) (tick + 1))) lines) (sym same_is) (record {
      gives = λ text last g.
          from-rows [] (row_then (Ok (Some row)) no_rows) (lines ++ text) last is
          (gives-sample (design_view design) t samples tick (values_of values) (values_of after) row lines runs due no_samples text last
          (subst (λ (r : Reading). Gives (design_view design) (values_of after) t (samples + 1) (tick + 1) (samples_of t.width r) text last) closed g));
    })

  pub end-refused : (fault : LineFault) → samples * t.ticks ≤ tick → rows_from place [] ≡ refused fault → GivesFrom old [] [] (Some fault)
  end-refused fault due is = from-rows [] (refused fault) [] (Some fault) is (gives-refused (design_view design) t samples tick (values_of values) fault due)

  -- the last row's tick ends with a fault
  pub end-faults : (fault : StreamFault) (row : Row) (after before out : List ℕ) (new : Midst) → samples * t.ticks ≤ tick → rows_from place [] ≡ row_then (Ok (Some row)) no_rows
      → SampleEnds (design_view design) (values_of values) t.width row before (Err fault) (values_of after) out → RowCloses old new before (Err fault) out
  end-faults (Line fault) row after before out new due is ends = (
    ends.0,
    from-rows [] (row_then (Ok (Some row)) no_rows) [] (Some fault) is
        (subst (λ (first : Result ℤ LineFault). Gives (design_view design) (values_of values) t samples tick (item_then first no_samples) [] (Some fault)) (sym ends.1)
        (gives-refused (design_view design) t samples tick (values_of values) fault due)),
  )
  end-faults Memory row after before out new due is ends = ends

  -- ticks behind the last sample were run
  pub end-ticks : (same : Module) (after : List ℕ) (ticks : ℕ) (lines : List ℕ) → rows_from place [] ≡ no_rows → same ≡ design → RunsOn (design_view design) (values_of values) (zeros (ticks - tick)) (values_of after) lines → tick ≤ ticks → ticks ≤ max tick (end_tick t samples None)
      → EndsOn (GivesFrom old) (GivesFrom (midst same after t place samples ticks)) lines
  end-ticks same after ticks lines closed same_is runs least most = subst (λ (m : Module). EndsOn (GivesFrom old) (GivesFrom (midst m after t place samples ticks)) lines) (sym same_is) (record {
    gives = λ text last g.
        from-rows [] no_rows (lines ++ text) last closed
        (gives-end (design_view design) t samples tick (values_of values) (values_of after) ticks lines runs least most text last
        (subst (λ (r : Reading). Gives (design_view design) (values_of after) t samples ticks (samples_of t.width r) text last) closed g));
  })

  -- all of them were run
  pub end-whole : (same : Module) (after : List ℕ) (ticks : ℕ) (lines : List ℕ) → rows_from place [] ≡ no_rows → same ≡ design → RunsOn (design_view design) (values_of values) (zeros (ticks - tick)) (values_of after) lines → tick ≤ ticks → ticks ≤ max tick (end_tick t samples None)
      → end_tick t samples None ≤ ticks → GivesFrom old [] lines None
  end-whole same after ticks lines closed same_is runs least most over =
      let rest : GivesFrom (midst same after t place samples ticks) [] [] None = last-over (midst same after t place samples ticks) same after t place samples ticks refl closed over in
      subst (λ (text : List ℕ). GivesFrom old [] text None) (append-nil lines) ((end-ticks same after ticks lines closed same_is runs least most).gives [] None rest)

-- a refusal at the end of the file
pub closes-fault : (old new : Midst) (fault : StreamFault) (before after : List ℕ) → RowCloses old new before (Err fault) after → Closes (GivesFrom old) (GivesFrom new) before (Err fault) after
closes-fault old new (Line fault) before after closes = ([], closes.0 ∙ sym (append-nil before), closes.1)
closes-fault old new Memory before after closes = ([], closes ∙ sym (append-nil before))
