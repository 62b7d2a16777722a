use Rattle.std.proofs.Common.{◌≡◌, refl, inl, inr, IsSome, Option, None, List, ℕ}
use Rattle.std.proofs.lemmas.Bool.{false≢true}
use Rattle.mr_values.proofs.FilesByName.{is_some-get}
use Rattle.mr_values.proofs.memory_host.MemoryHostHost.open_input.Goals as goal

pub returns-then-take_turn-clause-told : goal.returns-then-take_turn-clause-told
returns-then-take_turn-clause-told c = λ told.
    record { opened = tt; unmoved = tt; refused = inl (rw c.take_turn.ensures.struck at c.strike.ensures.risen); files = refl; output = refl; ends = refl }

pub returns-in-Some-clause-told : goal.returns-in-Some-clause-told
returns-in-Some-clause-told c = λ told.
    let found = rw c.deref.ensures.value at c.in-Some.ensures.found in
    record {
      opened = (is_some-get _ _ _ found.0 c.args.self.now.distinct found.1, found.1, refl);
      unmoved = c.take_turn.ensures.struck;
      refused = tt;
      files = refl;
      output = refl;
      ends = refl;
    }

-- a file that is there isn't missing
is_there : (found : Option (List ℕ)) → IsSome found → found ≡ None → ⊥
is_there found some none = let gone = rw none at some in false≢true gone

pub returns-in-Some-clause-exact : goal.returns-in-Some-clause-exact
returns-in-Some-clause-exact c =
    let found = rw c.deref.ensures.value at c.in-Some.ensures.found in
    let there = is_some-get _ _ _ found.0 c.args.self.now.distinct found.1 in
    (λ e. absurd (false≢true e), λ why. absurd (elim why [ inl fails ↦ (let hit = c.take_turn.ensures.exact.1 fails in absurd (cc)) | inr none ↦ is_there _ there none ]))
