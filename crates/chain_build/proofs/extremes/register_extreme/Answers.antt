use Rattle.std.proofs.Common.{ℕ, List, length, Option, sym, ap, subst, arith}
use Rattle.std.specs.Prelude.{IfSome, IfNone}
use Rattle.chain_build.specs.declared.extremes.LinearPeak.{LinearPeak}
use Rattle.chain_build.specs.Peaks.{AreInside, IsPeakTo, HasNoneTo}
use Rattle.chain_build.proofs.NamedPeaks.{inside_of, peak_read, kept_place, register_found, register_none, text_read, to_inside}
use Rattle.chain_build.proofs.extremes.register_extreme.Goals as goal

pub find_peak-requires : goal.find_peak-requires
find_peak-requires c =
    let told = c.in_ok-told.told in
    subst (λ (ps : List LinearPeak). AreInside told.built.net ps) (sym c.deref.ensures.value) (inside_of told.built.net told.peaks.items c.in_ok-told.ensures.peaks)

pub index-requires : goal.index-requires
index-requires c =
    let told = c.in_ok-told.told in
    let text = c.args.register.now in
    let found = subst (λ (o : Option ℕ). IfSome o (λ (p : ℕ). IsPeakTo told.built.net c.deref.result.now p text)) c.in-Some.is c.in_ok-place.ensures.some in
    omega (arith, to_inside told.built.net c.deref.result.now c.in-Some.place text found, told.peaks.ok.0, ap (λ (ps : List LinearPeak). length ps) c.deref.ensures.value)

pub samples_of-requires-clause-place : goal.samples_of-requires-clause-place
samples_of-requires-clause-place c =
    let told = c.in_ok-told.told in
    let text = c.args.register.now in
    let found = subst (λ (ps : List LinearPeak). IsPeakTo told.built.net ps c.in-Some.place text) c.deref.ensures.value
    (subst (λ (o : Option ℕ). IfSome o (λ (p : ℕ). IsPeakTo told.built.net c.deref.result.now p text)) c.in-Some.is c.in_ok-place.ensures.some) in
    kept_place (peak_read told.peaks.items c.in-Some.place c.index.result.now c.in_ok-told.ensures.peaks (to_inside told.built.net told.peaks.items c.in-Some.place text found) c.index.ensures)

pub returns-in-Some-clause-some : goal.returns-in-Some-clause-some
returns-in-Some-clause-some c =
    let told = c.in_ok-told.told in
    let text = c.args.register.now in
    let found = subst (λ (ps : List LinearPeak). IsPeakTo told.built.net ps c.in-Some.place text) c.deref.ensures.value
    (subst (λ (o : Option ℕ). IfSome o (λ (p : ℕ). IsPeakTo told.built.net c.deref.result.now p text)) c.in-Some.is c.in_ok-place.ensures.some) in
    register_found (peak_read told.peaks.items c.in-Some.place c.index.result.now c.in_ok-told.ensures.peaks (to_inside told.built.net told.peaks.items c.in-Some.place text found) c.index.ensures)
    (text_read told.built.net told.peaks.items c.in-Some.place text c.index.result.now found c.index.ensures) c.in_ok-samples-in-Some.ensures

pub returns-clause-none : goal.returns-clause-none
returns-clause-none c =
    let told = c.in_ok-told.told in
    let text = c.args.register.now in
    let none = subst (λ (ps : List LinearPeak). HasNoneTo told.built.net ps (length ps) text) c.deref.ensures.value
    (subst (λ (o : Option ℕ). IfNone o (HasNoneTo told.built.net c.deref.result.now (length c.deref.result.now) text)) c.in-None.is c.in_ok-place.ensures.none) in
    register_none (length told.peaks.items) c.in_ok-told.ensures.chain.netlist c.in_ok-told.ensures.registers c.in_ok-told.ensures.peaks (omega arith) none
