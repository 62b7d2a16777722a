-- A step of a test that goes from group to group.
use Rattle.std.proofs.Common.{◌≡◌, ◌∙◌, ℕ, ◌+◌, sym, ap, List, [], Option, None, Some}
use Rattle.mr_values.specs.declared.plan.Element.{Element}
use Rattle.mr_values.specs.Timing.{Group, groups}
use Rattle.plan_check.specs.declared.fault.PlanFault.{PlanFault}
use Rattle.plan_check.specs.Groups.{size_of, first_failing, IsSplit}
use Rattle.plan_check.proofs.Options.{after_none, after_some}

pub walk-more : {S : Type 0} (test : ℕ → S → Group → Option PlanFault) (next : Group → S → S) (first : ℕ) (s : S) (es : List Element) (g : Group) (rest : List Element) (whole : Option PlanFault)
    → IsSplit es g rest → test first s g ≡ None → first_failing test next first s (groups es) ≡ whole → first_failing test next (first + size_of g) (next g s) (groups rest) ≡ whole
walk-more test next first s es g rest whole split pass so_far =
    sym (ap (first_failing test next first s) split.parts ∙ after_none _ _ (sym pass)) ∙ so_far

pub walk-fails : {S : Type 0} (test : ℕ → S → Group → Option PlanFault) (next : Group → S → S) (first : ℕ) (s : S) (es : List Element) (g : Group) (rest : List Element) (whole : Option PlanFault) (fault : PlanFault)
    → IsSplit es g rest → test first s g ≡ Some fault → first_failing test next first s (groups es) ≡ whole → Some fault ≡ whole
walk-fails test next first s es g rest whole fault split fail so_far =
    sym (ap (first_failing test next first s) split.parts ∙ after_some _ _ fault (sym fail)) ∙ so_far

pub walk-end : {S : Type 0} (test : ℕ → S → Group → Option PlanFault) (next : Group → S → S) (first : ℕ) (s : S) (es : List Element) (whole : Option PlanFault)
    → es ≡ [] → first_failing test next first s (groups es) ≡ whole → None ≡ whole
walk-end test next first s es whole none so_far = sym (ap (λ xs. first_failing test next first s (groups xs)) none) ∙ so_far
