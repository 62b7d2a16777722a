use Rattle.std.proofs.Common.{◌≡◌, ◌+◌, ◌-◌, ◌≤◌, arith, length, drop, add-one, drop-cons, ap, ◌∙◌, sym, get_or, List, ◌∷◌, ◌++◌, pos, ℤ, ◌+ℤ◌, ℕ, false, replicate}
use Rattle.signed_digit.specs.declared.term_list.Term.{Term}
use Rattle.std.proofs.lemmas.List.{length-set, length-replicate}
use Rattle.stage_law.specs.Streams.{magnitudes}
use Rattle.fir_pieces.specs.Placed.{powers}
use Rattle.fir_pieces.specs.Form.{reach_of, moved, with_term, with_terms, power_of}
use Rattle.fir_pieces.proofs.FormLemmas.{magnitudes_entry, magnitudes-with_term, magnitudes-replicate}
use Rattle.fir_pieces.proofs.PlaceLemmas.{below_reach, nothing_behind, replicate_split, with_term-behind}
use Rattle.fir_pieces.proofs.forms.sum_of.Goals as goal

pub loop-term-init : goal.loop-term-init
loop-term-init c =
    let behind = c.first_place-behind.result in
    let terms = c.args.terms.now in
    let rest = reach_of terms - behind in
    let reach : c.reach_of-reach.result ≡ reach_of terms = c.reach_of-reach.ensures.value in
    let most : behind ≤ c.reach_of-reach.result = c.first_place-behind.ensures.most in
    let items : c.in_ok-weights.weights.items ≡ replicate rest (pos 0) = c.in_ok-weights.ensures.items_if_clones_equal (λ y e. e) ∙ ap (λ (n : ℕ). replicate (n - behind) (pos 0)) reach in
    let whole : behind + rest ≡ reach_of terms = omega (arith, reach, most) in
    record {
      whole =
          ap (λ (w : List ℤ). with_terms c.args.negated (replicate behind (pos 0) ++ w) terms) items
          ∙ ap (λ (form : List ℤ). with_terms c.args.negated form terms) (sym (replicate_split behind rest) ∙ ap (λ (n : ℕ). replicate n (pos 0)) whole);
      long = let long = ap length items ∙ length-replicate rest (pos 0) in omega (arith, long, whole);
      small = let none = ap magnitudes items ∙ magnitudes-replicate rest in omega (arith, none);
    }

pub moved-requires : goal.moved-requires
moved-requires c = c.first_place-behind.ensures.least c.loop-term.term-index (record { index = 0; place = 0; negative = false }) c.loop-term-test.true

pub add_term-requires-clause-within : goal.add_term-requires-clause-within
add_term-requires-clause-within c =
    let blank : Term = record { index = 0; place = 0; negative = false } in
    let below = below_reach c.args.terms.now c.loop-term.term-index blank c.loop-term-test.true in
    let past = c.first_place-behind.ensures.least c.loop-term.term-index blank c.loop-term-test.true in
    let long = c.loop-term.invariant.long in
    let place = ap (λ (t : Term). t.index) c.moved.ensures in
    omega (arith, below, past, long, place)

pub add_term-requires-clause-short : goal.add_term-requires-clause-short
add_term-requires-clause-short c = rw c.moved.ensures (c.requires.short c.loop-term.term-index (record { index = 0; place = 0; negative = false }) c.loop-term-test.true)

pub add_term-requires-clause-room : goal.add_term-requires-clause-room
add_term-requires-clause-room c =
    let i = c.loop-term.invariant in
    let entry = magnitudes_entry c.loop-term.weights.items c.moved.result.index in
    omega (arith, entry, i.small, c.requires.small)

-- one term more
pub loop-term-preserved : goal.loop-term-preserved
loop-term-preserved c =
    let i = c.loop-term.invariant in
    let behind = c.first_place-behind.result in
    let negated = c.args.negated in
    let weights = c.loop-term.weights.items in
    let blank : Term = record { index = 0; place = 0; negative = false } in
    let t = get_or c.args.terms.now c.loop-term.term-index blank in
    let rest = drop (c.loop-term.term-index + 1) c.args.terms.now in
    let split : drop c.loop-term.term-index c.args.terms.now ≡ t ∷ rest = rw add-one (drop-cons c.args.terms.now c.loop-term.term-index blank c.loop-term-test.true) in
    let past : behind ≤ t.index = c.first_place-behind.ensures.least c.loop-term.term-index blank c.loop-term-test.true in
    let own : c.moved.result ≡ moved behind t = c.moved.ensures in
    let now : c.add_term.new.form.items ≡ with_term negated weights (moved behind t) = c.add_term.ensures ∙ ap (with_term negated weights) own in
    record {
      whole =
          ap (λ (w : List ℤ). with_terms negated (replicate behind (pos 0) ++ w) rest) now
          ∙ ap (λ (form : List ℤ). with_terms negated form rest) (sym (with_term-behind negated behind weights t past))
          ∙ sym (ap (with_terms negated (replicate behind (pos 0) ++ weights)) split) ∙ i.whole;
      long =
          let same = ap length now ∙ length-set weights (moved behind t).index (get_or weights (moved behind t).index (pos 0) +ℤ power_of negated (moved behind t)) in
          let long = i.long in
          omega (arith, same, long);
      small =
          let more = magnitudes-with_term negated weights (moved behind t) in
          let same = ap magnitudes now in
          let less = ap powers split in
          omega (arith, i.small, more, same, less);
    }

pub of-requires-clause-some : goal.of-requires-clause-some
of-requires-clause-some c none =
    let long = c.loop-term.invariant.long in
    let same = ap length c.as_slice.ensures.value in
    nothing_behind c.args.terms.now c.first_place-behind.result c.first_place-behind.ensures.least (omega (arith, long, same, none))
