-- A step of the walk that adds up the costs of the groups and writes down their facts.
use Rattle.std.proofs.Common.{◌≡◌, ◌∙◌, ℕ, ◌+◌, sym, ap, List, [], ◌∷◌, ◌++◌, append_assoc, append-nil}
use Rattle.mr_values.specs.declared.plan.Element.{Element}
use Rattle.mr_values.specs.Timing.{Group, groups, Stream, after, after_all}
use Rattle.plan_check.specs.declared.facts.GroupFacts.{GroupFacts}
use Rattle.plan_check.specs.Groups.{size_of}
use Rattle.plan_check.specs.Accepted.{facts_of, group_facts}

pub facts_more : (before now : List GroupFacts) (fact : GroupFacts) (first n : ℕ) (s next : Stream) (g : Group) (gs all : List Group) (whole : List GroupFacts)
    → now ≡ before ++ fact ∷ [] → fact ≡ facts_of first s g → n ≡ size_of g → next ≡ after g s → all ≡ g ∷ gs
    → before ++ group_facts first s all ≡ whole → now ++ group_facts (first + n) next gs ≡ whole
facts_more before now fact first n s next g gs all whole pushed is size stream parts so_far =
    rw (pushed, is, size, stream, append_assoc) (rw parts at so_far)

pub facts_end : (before : List GroupFacts) (first : ℕ) (s : Stream) (es : List Element) (whole : List GroupFacts) → es ≡ [] → before ++ group_facts first s (groups es) ≡ whole → before ≡ whole
facts_end before first s es whole none so_far =
    sym (append-nil before) ∙ sym (ap (λ (xs : List Element). before ++ group_facts first s (groups xs)) none) ∙ so_far

pub after_more : (s next whole : Stream) (g : Group) (gs all : List Group) → next ≡ after g s → all ≡ g ∷ gs → after_all all s ≡ whole → after_all gs next ≡ whole
after_more s next whole g gs all stream parts so_far = ap (after_all gs) stream ∙ sym (ap (λ (xs : List Group). after_all xs s) parts) ∙ so_far
