-- A register of a stage is a linear register of the plan.
use Rattle.std.proofs.Common.{◌≡◌, ℕ, zero, suc, ◌+◌, ◌*◌, Bool, true, false, cond, List, [], ◌∷◌, Some, None, slice_get, sym, ◌∙◌, ap, subst, nat_eq, ℤ}
use Rattle.std.specs.Prelude.{All}
use Rattle.mr_values.specs.Sequence.{samples}
use Rattle.mr_values.specs.Value.{chain}
use Rattle.mr_values.specs.Width.{FitsWidth}
use Rattle.net_graph.specs.declared.cell.Cell.{Cell}
use Rattle.net_graph.specs.declared.cell.Stream.{Stream}
use Rattle.net_graph.specs.Cut.{cut_all, cut_control}
use Rattle.net_graph.specs.Grow.{Extends}
use Rattle.net_graph.proofs.CutLemmas.{IsCut-all, IsCut-control}
use Rattle.pipeline_balance.specs.Numbered.{IsRegister, name_of}
use Rattle.stage_law.specs.Least.{HasStageRegister}
use Rattle.stage_law.specs.Registers.{HeldSum, StageRegister, Telling, TellsRanges, bits_for, bits_of, needing}
use Rattle.stage_law.specs.Streams.{Streams}
use Rattle.chain_build.specs.Linear.{PrefixStream, prefix_range, register_of}
use Rattle.chain_build.specs.LinearOn.{IsRegisterOn}
use Rattle.chain_build.proofs.RegisterOn.{CarriesPrefix}

-- ---- the sum that needs a width is one of the sums

pub record IsMember (sums : List HeldSum) (s : HeldSum) : Type 0 where
  pub place : ℕ
  pub there : slice_get sums place ≡ Some s

needing-member : (range : Telling) (bits : ℕ) (sums : List HeldSum) (s : HeldSum) → needing range bits sums ≡ Some s → IsMember sums s
needing-member range bits [] s is = absurd (cc)
needing-member range bits (h ∷ sums) s is = by (nat_eq (bits_for (range h.form h.class)) bits) is (needing-member range bits sums s)
  where
    by : (b : Bool) → cond b (Some h) (needing range bits sums) ≡ Some s → (needing range bits sums ≡ Some s → IsMember sums s) → IsMember (h ∷ sums) s
    by true e rest = record { place = zero; there = e }
    by false e rest = let m = rest e in record { place = suc m.place; there = m.there }

pub needed-member : (range : Telling) (sums : List HeldSum) (s : HeldSum) → (b : Bool) → cond b None (needing range (bits_of range sums) sums) ≡ Some s → IsMember sums s
needed-member range sums s true is = absurd (cc)
needed-member range sums s false is = needing-member range (bits_of range sums) sums s is

-- ---- a register of a stage

module _ {streams : Streams} {cells old : List Cell} {last from : Stream} {width number : ℕ} (stream : PrefixStream) (period_is : last.period ≡ stream.period) (offset_is : last.offset ≡ stream.offset) (extends : Extends old cells)
    (has : (xs : List ℤ) → All (FitsWidth width) xs → streams (chain stream.elements (samples xs))) (tells : TellsRanges streams (prefix_range width stream.elements))
    (carries : CarriesPrefix cut_all width stream.elements old from last) (whole_carries : CarriesPrefix cut_control width stream.elements old from last) where
  pub register_on : (r : StageRegister) → HasStageRegister streams cells number last r → IsRegisterOn width cells from (register_of width number stream r)
  register_on r h = record {
    node = h.node;
    group = number;
    register = subst (λ (w : ℕ). IsRegister cells h.node.place number (name_of number r.kind r.number) w) (h.least (prefix_range width stream.elements) tells) h.register;
    same = λ inputs values whole xs fit run uncut carried carried_whole.
        h.kept_whole.same inputs values whole (chain stream.elements (samples xs)) (has xs fit) run uncut
        (carries inputs values xs fit (extends.runs cut_all IsCut-all inputs values run) carried)
        (whole_carries inputs whole xs fit (extends.runs cut_control IsCut-control inputs whole uncut) carried_whole);
    holds = λ s is inputs values xs fit run carried k in_class.
        let m = needed-member (prefix_range width stream.elements) r.sums s (nat_eq (bits_of (prefix_range width stream.elements) r.sums) 1) is in
        let held = (h.holds m.place s m.there).at cut_all IsCut-all inputs values (chain stream.elements (samples xs)) (has xs fit) run
        (carries inputs values xs fit (extends.runs cut_all IsCut-all inputs values run) carried) k in_class in
        ap (λ (t : ℕ). values t h.node.place) (sym (ap (λ (o : ℕ). o + k * last.period + s.lag) offset_is ∙ ap (λ (p : ℕ). stream.offset + k * p + s.lag) period_is)) ∙ held;
  }
