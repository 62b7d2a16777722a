-- The values while the assignments are evaluated as they are drawn.
use Rattle.std.proofs.Common.{◌≡◌, ℕ, ◌<◌, true, List, [], ◌∷◌, ◌++◌, Some, length, slice_get, refl, sym, ap, ◌∙◌, arith, subst}
use Rattle.std.specs.Prelude.{false}
use Rattle.std.proofs.lemmas.Option.{slice_get_within}
use Rattle.verilog_tree.specs.Meaning.{Values}
use Rattle.verilog_tree.specs.Circuit.{put, Driver, Circuit, IsSource, IsSettled, IsSettling, IsSound}
use Rattle.event_order.specs.Order.{Moment, evaluated, IsAwake, first_moment}
use Rattle.event_order.specs.Drawn.{is_taken, open_reads}
use Rattle.event_order.proofs.Moments.{evaluated_awake, evaluated_source}
use Rattle.event_order.proofs.DrawnSteps.{Evaluated, evaluated_more}

-- the values are those of a moment after these evaluations
pub record SettlesTo (c : Circuit) (content : Values) (taken : List ℕ) (v : Values) : Type 0 where
  pub moment : Moment
  pub same : moment.values ≡ v
  pub awake : IsAwake c moment
  pub sources : (n : ℕ) → IsSource c n → v n ≡ content n
  pub evaluations : Evaluated c taken moment

pub settles_first : (c : Circuit) (v : Values) → SettlesTo c v [] v
settles_first c v = record {
  moment = first_moment v;
  same = refl;
  awake = λ k d at quiet. absurd (grind arith);
  sources = λ n source. refl;
  evaluations = record { quiet = λ k d at is. absurd (grind arith); closed = λ k j is lt reads. absurd (grind arith) };
}

pub settles_more : (c : Circuit) → IsSound c → (content : Values) (taken : List ℕ) (v after : Values) (p : ℕ) (d : Driver) → slice_get c.drivers p ≡ Some d → is_taken taken p ≡ false → open_reads c taken p ≡ 0
    → after ≡ put v d.target (d.value v) → SettlesTo c content taken v → SettlesTo c content (taken ++ p ∷ []) after
settles_more c sound content taken v after p d at untaken closed is h =
    let same : (evaluated c p d h.moment).values ≡ after = ap (λ (w : Values). put w d.target (d.value w)) h.same ∙ sym is in
    record {
      moment = evaluated c p d h.moment;
      same = same;
      awake = evaluated_awake c sound p d h.moment at h.awake;
      sources = λ n source. sym (ap (λ (w : Values). w n) same) ∙ evaluated_source c sound p d h.moment at n source ∙ ap (λ (w : Values). w n) h.same ∙ h.sources n source;
      evaluations = evaluated_more c taken h.moment p d at untaken closed h.evaluations;
    }

pub settles_all : (c : Circuit) (content : Values) (taken : List ℕ) (v : Values) → ((k : ℕ) → k < length c.drivers → is_taken taken k ≡ true) → SettlesTo c content taken v → IsSettling c content v
settles_all c content taken v all h = record {
  sources = h.sources;
  settled = subst (IsSettled c) h.same (λ k d at. h.awake k d at (h.evaluations.quiet k d at (all k (slice_get_within c.drivers k d at))));
}
