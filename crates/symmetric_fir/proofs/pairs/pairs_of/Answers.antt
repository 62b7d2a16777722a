use Rattle.std.proofs.Common.{◌≡◌, ◌∙◌, ◌+◌, ◌/◌, ◌++◌, ℕ, suc, List, ℤ, length, map, sym, ap, arith}
use Rattle.std.proofs.lemmas.List.{map-append}
use Rattle.fir_pieces.specs.declared.reading.Reading.{Reading}
use Rattle.fir_pieces.specs.declared.reading.Reading.TheVariants.{One}
use Rattle.symmetric_fir.specs.Pairs.{tap, place_if, places_below, pair_places, centre_places, pair_at}
use Rattle.symmetric_fir.proofs.pairs.pairs_of.Goals as goal

pub loop-place-preserved : goal.loop-place-preserved
loop-place-preserved c =
    let i = c.loop-place.invariant in
    let taps = c.args.taps.now in
    let place = c.loop-place.place in
    let f : ℕ → Reading = pair_at c.args.anti (length taps) in
    let next : suc place ≡ place + 1 = omega arith in
    record {
      pairs = c.in_ok-push_pair.ensures.pairs ∙ ap (λ (xs : List Reading). xs ++ map f (place_if taps place)) i.pairs ∙ sym (map-append f (places_below taps place) (place_if taps place)) ∙ ap (λ (n : ℕ). map f (places_below taps n)) next;
      firsts = c.in_ok-push_pair.ensures.firsts ∙ ap (λ (xs : List ℤ). xs ++ map (tap taps) (place_if taps place)) i.firsts ∙ sym (map-append (tap taps) (places_below taps place) (place_if taps place)) ∙ ap (λ (n : ℕ). map (tap taps) (places_below taps n)) next;
      centres = c.in_ok-push_pair.ensures.centres ∙ i.centres;
    }

pub returns-clause-pairs : goal.returns-clause-pairs
returns-clause-pairs c =
    let taps = c.args.taps.now in
    let low = c.loop-place-test.false in
    let high = c.loop-place.auto.place-end in
    let same : c.loop-place.place ≡ length taps / 2 = omega (arith, low, high) in
    c.in_ok-push_centre.ensures.pairs ∙ c.loop-place.invariant.pairs ∙ ap (λ (n : ℕ). map (pair_at c.args.anti (length taps)) (places_below taps n)) same

pub returns-clause-centres : goal.returns-clause-centres
returns-clause-centres c = c.in_ok-push_centre.ensures.centres ∙ ap (λ (xs : List Reading). xs ++ map One (centre_places c.args.taps.now)) c.loop-place.invariant.centres

pub returns-clause-firsts : goal.returns-clause-firsts
returns-clause-firsts c =
    let taps = c.args.taps.now in
    let low = c.loop-place-test.false in
    let high = c.loop-place.auto.place-end in
    let same : c.loop-place.place ≡ length taps / 2 = omega (arith, low, high) in
    c.in_ok-push_centre.ensures.firsts ∙ ap (λ (xs : List ℤ). xs ++ map (tap taps) (centre_places taps)) (c.loop-place.invariant.firsts ∙ ap (λ (n : ℕ). map (tap taps) (places_below taps n)) same)
    ∙ sym (map-append (tap taps) (pair_places taps) (centre_places taps))
