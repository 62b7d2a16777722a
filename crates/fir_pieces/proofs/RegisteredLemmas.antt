-- Parts of a stage's registers, one after another, and the law for all of them.
use Rattle.std.proofs.Common.{◌≡◌, ℕ, zero, suc, ◌+◌, ◌*◌, ◌<◌, ◌≤◌, max, List, [], ◌∷◌, ◌++◌, length, map, refl, sym, ◌∙◌, ap, arith, inl, inr, subst, Some, slice_get}
use Rattle.std.proofs.lemmas.Bool.{cases_lt}
use Rattle.std.proofs.lemmas.List.{map-append}
use Rattle.std.proofs.lemmas.Option.{slice_get_within}
use Rattle.std.specs.Int.{IsGcd}
use Rattle.net_graph.specs.declared.cell.Cell.{Cell}
use Rattle.net_graph.specs.declared.cell.Node.{Node}
use Rattle.net_graph.specs.declared.cell.Stream.{Stream}
use Rattle.net_graph.specs.declared.name.NameKind.{NameKind}
use Rattle.net_graph.specs.declared.name.NameKind.TheVariants.{Control}
use Rattle.pipeline_balance.specs.Numbered.{IsCounted, name_of}
use Rattle.stage_law.specs.Facts.{StageFacts}
use Rattle.stage_law.specs.Least.{HasRegisters, HasStageRegister, IsListed, IsTimely, named_peak}
use Rattle.stage_law.specs.Registers.{HeldSum, NamedPeak, StageRegister, Telling, TellsRanges, peaks_of}
use Rattle.stage_law.specs.Streams.{Streams, magnitudes}
use Rattle.stage_law.specs.declared.stage.Peak.{Peak}
use Rattle.fir_pieces.specs.Moment.{Pace, IsPace}
use Rattle.fir_pieces.specs.PhaseSums.{IsPhasesDue}
use Rattle.fir_pieces.specs.Registered.{AreCounted, AreHeldAt, AreRegisters, numbered_all}
use Rattle.fir_pieces.proofs.ListLemmas.{each_appended, listed_left, listed_right}
use Rattle.fir_pieces.proofs.PeakLemmas.{peaks_of-append}
use Rattle.fir_pieces.proofs.PhaseDueLemmas.{some_sum, stage_register, timely}
use Rattle.fir_pieces.proofs.WidthsLemmas.{slice_get_some}

-- ---- one part after another

pub AreRegisters-none : (facts : StageFacts) (streams : Streams) (cells : List Cell) (group : ℕ) (from : Stream) → AreRegisters facts streams cells group from [] []
AreRegisters-none facts streams cells group from = record {
  some = λ i r there. absurd (cc);
  timely = λ i j r s there at small. absurd (cc);
  each = λ i r there. absurd (cc);
  told = λ range tells. refl;
}

pub AreRegisters-append : {facts : StageFacts} {streams : Streams} {cells : List Cell} {group : ℕ} {from : Stream} {rs qs : List StageRegister} {ps us : List Peak} → AreRegisters facts streams cells group from rs ps → AreRegisters facts streams cells group from qs us → AreRegisters facts streams cells group from (rs ++ qs) (ps ++ us)
AreRegisters-append {facts} {streams} {cells} {group} {from} {rs} {qs} {ps} {us} p q = record {
  some = each_appended (λ (r : StageRegister). 1 ≤ length r.sums) rs qs p.some q.some;
  timely = λ i j r s there.
      each_appended (λ (r : StageRegister). (j : ℕ) (s : HeldSum) → slice_get r.sums j ≡ Some s → magnitudes s.form ≤ max 1 (2 * facts.gain) → IsTimely facts from.period s) rs qs
      (λ i r there j s. p.timely i j r s there) (λ i r there j s. q.timely i j r s there) i r there j s;
  each = each_appended (HasStageRegister streams cells group from) rs qs p.each q.each;
  told = λ range tells.
      map-append (named_peak cells) ps us ∙ ap (λ (xs : List NamedPeak). xs ++ map (named_peak cells) us) (p.told range tells) ∙ ap (λ (xs : List NamedPeak). peaks_of range group rs ++ xs) (q.told range tells)
      ∙ sym (peaks_of-append range group rs qs);
}

pub AreCounted-left : {cells : List Cell} {group : ℕ} {kind : NameKind} (rs qs : List StageRegister) → AreCounted cells group rs kind → AreCounted cells group (rs ++ qs) kind
AreCounted-left rs qs c = record { count = c.count; counted = c.counted; listed = λ number less. listed_left rs qs (c.listed number less) }

pub AreCounted-right : {cells : List Cell} {group : ℕ} {kind : NameKind} (rs qs : List StageRegister) → AreCounted cells group qs kind → AreCounted cells group (rs ++ qs) kind
AreCounted-right rs qs c = record { count = c.count; counted = c.counted; listed = λ number less. listed_right rs qs (c.listed number less) }

pub AreCounted-none : {cells : List Cell} {group : ℕ} {kind : NameKind} (rs : List StageRegister) → IsCounted cells group kind 0 → AreCounted cells group rs kind
AreCounted-none rs c = record { count = 0; counted = c; listed = λ number less. absurd (omega arith) }

-- ---- the law

pub HasRegisters-of : (facts : StageFacts) (streams : Streams) (cells : List Cell) (group : ℕ) (from : Stream) (registers : List StageRegister) (peaks : List Peak) → facts.registers from.period ≡ registers → AreRegisters facts streams cells group from registers peaks
    → ((kind : NameKind) → (kind ≡ Control → ⊥) → AreCounted cells group registers kind)
    → ((i j : ℕ) (r : StageRegister) (s : HeldSum) → slice_get (facts.registers from.period) i ≡ Some r → slice_get r.sums j ≡ Some s → magnitudes s.form ≤ max 1 (2 * facts.gain)) → HasRegisters facts streams cells group from peaks
HasRegisters-of facts streams cells group from registers peaks e p counts small = record {
  some = λ i r there. p.some i r (in_list i r there);
  timely = λ i j r s there at. p.timely i j r s (in_list i r there) at (small i j r s there at);
  each = λ i r there. p.each i r (in_list i r there);
  only = λ kind number apart used.
      let c = counts kind apart in
      subst (λ (rs : List StageRegister). IsListed rs kind number) (sym e) (elim (cases_lt number c.count) [ inl less ↦ c.listed number less | inr more ↦ absurd (used (c.counted.free number more)) ]);
  told = λ range tells. p.told range tells ∙ ap (peaks_of range group) (sym e);
}
  where
    in_list : (i : ℕ) (r : StageRegister) → slice_get (facts.registers from.period) i ≡ Some r → slice_get registers i ≡ Some r
    in_list i r there = subst (λ (rs : List StageRegister). slice_get rs i ≡ Some r) e there

-- ---- registers at a pace

each_numbered_all : (P : StageRegister → Type 0) (kind : NameKind) (number : ℕ) (all : List (List HeldSum)) → ((k : ℕ) (sums : List HeldSum) → slice_get all k ≡ Some sums → P (record { kind = kind; number = number + k; sums = sums })) → (i : ℕ) (r : StageRegister) → slice_get (numbered_all kind number all) i ≡ Some r → P r
each_numbered_all P kind number [] h i r is = absurd (cc)
each_numbered_all P kind number (sums ∷ all) h zero r is =
    let same : record { kind = kind; number = number; sums = sums } ≡ r = cc in
    let at : number + 0 ≡ number = omega arith in
    subst P same (subst (λ (n : ℕ). P (record { kind = kind; number = n; sums = sums })) at (h zero sums refl))
each_numbered_all P kind number (sums ∷ all) h (suc i) r is =
    each_numbered_all P kind (suc number) all (λ k own there. let at : number + suc k ≡ suc number + k = omega arith in subst (λ (n : ℕ). P (record { kind = kind; number = n; sums = own })) at (h (suc k) own there)) i r is

numbered_all-at : (kind : NameKind) (number : ℕ) (all : List (List HeldSum)) (k : ℕ) (sums : List HeldSum) → slice_get all k ≡ Some sums → slice_get (numbered_all kind number all) k ≡ Some (record { kind = kind; number = number + k; sums = sums })
numbered_all-at kind number [] k sums is = absurd (cc)
numbered_all-at kind number (own ∷ all) zero sums is =
    let same : own ≡ sums = cc in
    let at : number ≡ number + 0 = omega arith in
    ap (λ (z : List HeldSum). let r : StageRegister = record { kind = kind; number = number; sums = z } in Some r) same ∙ ap (λ (n : ℕ). let r : StageRegister = record { kind = kind; number = n; sums = sums } in Some r) at
numbered_all-at kind number (own ∷ all) (suc k) sums is =
    let at : suc number + k ≡ number + suc k = omega arith in numbered_all-at kind (suc number) all k sums is ∙ ap (λ (n : ℕ). let r : StageRegister = record { kind = kind; number = n; sums = sums } in Some r) at

module _ {streams : Streams} {cells : List Cell} {group : ℕ} {from : Stream} {pace : Pace} {depth levels : ℕ} {kind : NameKind} {all : List (List HeldSum)} {nodes : List Node} (held : AreHeldAt streams cells group from pace depth levels kind all nodes) where
  pub held_counted : AreCounted cells group (numbered_all kind 0 all) kind
  held_counted = record {
    count = length all;
    counted = held.counted;
    listed = λ number less.
        let own = slice_get_some all number less in
        let at : 0 + number ≡ number = omega arith in
        record { index = number; r = record { kind = kind; number = 0 + number; sums = own.0 }; there = numbered_all-at kind 0 all number own.0 own.1; is_kind = refl; is_number = at };
  }

  -- what holds of each such register holds of each of the list
  each_held : (P : StageRegister → Type 0) → ((k : ℕ) (sums : List HeldSum) (node : Node) → IsPhasesDue streams cells from pace depth levels group (name_of group kind (0 + k)) sums node → P (record { kind = kind; number = 0 + k; sums = sums }))
      → (i : ℕ) (r : StageRegister) → slice_get (numbered_all kind 0 all) i ≡ Some r → P r
  each_held P h = each_numbered_all P kind 0 all (λ k sums is.
      let inside = slice_get_within all k sums is in
      let many = held.many in
      let node = slice_get_some nodes k (omega (arith, inside, many)) in
      h k sums node.0 (held.due k sums node.0 is node.1))

  pub held_registers : (facts : StageFacts) (peaks : List Peak) → IsPace from pace → ((φ : ℕ) → φ < pace.phases → pace.lag φ + levels ≤ from.period + facts.delay from.period) → depth ≤ facts.longest
      → (shared : ℕ) → IsGcd facts.up facts.down shared → ((φ : ℕ) → φ < pace.phases → (times : ℕ) × (facts.down ≡ shared * (times * (pace.class φ).modulus))) → ((range : Telling) → TellsRanges streams range → map (named_peak cells) peaks ≡ peaks_of range group (numbered_all kind 0 all))
      → AreRegisters facts streams cells group from (numbered_all kind 0 all) peaks
  held_registers facts peaks is_pace soon few shared greatest divides told = record {
    some = each_held (λ r. 1 ≤ length r.sums) (λ k sums node d. some_sum streams is_pace d);
    timely = λ i j r s there at small.
        each_held (λ r. (j : ℕ) (s : HeldSum) → slice_get r.sums j ≡ Some s → magnitudes s.form ≤ max 1 (2 * facts.gain) → IsTimely facts from.period s)
        (λ k sums node d. timely streams facts is_pace d soon few shared greatest divides) i r there j s at small;
    each = each_held (HasStageRegister streams cells group from) (λ k sums node d. stage_register streams kind (0 + k) is_pace d);
    told = told;
  }
