-- Turn after turn, the leftmost pair to which a rule applies is rewritten, until there is none.
use Rattle.std.specs.Prelude.{◌≡◌, suc, ◌≤◌, List, [], ◌∷◌, ◌++◌, length, Some, None}
use Rattle.mr_values.specs.declared.plan.Element.{Element}
use Rattle.mr_values.specs.declared.plan.Element.TheVariants.{Up, Down, Filter, CicDown, CicUp, Round, Clip}
use Rattle.mr_values.specs.Value.{size}
use Rattle.noble_rewrite.specs.declared.turn.Applied.{Applied}
use Rattle.noble_rewrite.specs.Rules.{Exchange, exchange}

-- no rule applies to any two neighbours
abbrev pub IsSettledAfter : Element → List Element → Type 0
IsSettledAfter e [] = Unit {0}
IsSettledAfter e (f ∷ es) = (exchange e f ≡ None) × IsSettledAfter f es

abbrev pub IsSettled : List Element → Type 0
IsSettled [] = Unit {0}
IsSettled (e ∷ es) = IsSettledAfter e es

-- one turn: of the neighbours to which a rule applies the leftmost, the place of whose first is told, counted from 1
pub record IsTurn (old new : List Element) (applied : Applied) : Type 0 where
  pub before : List Element
  pub first : Element
  pub second : Element
  pub after : List Element
  pub becomes : Exchange
  pub old_is : old ≡ before ++ first ∷ second ∷ after
  pub leftmost : IsSettled (before ++ first ∷ [])
  pub applies : exchange first second ≡ Some becomes
  pub new_is : new ≡ before ++ becomes.first ∷ becomes.second ∷ after
  pub rule : applied.rule ≡ becomes.rule
  pub place : applied.place ≡ suc (length before)

-- the turns that lead from one list of elements to another
abbrev pub LeadsTo : List Element → List Applied → List Element → Type 0
LeadsTo old [] new = new ≡ old
LeadsTo old (turn ∷ turns) new = (next : List Element) × IsTurn old next turn × LeadsTo next turns new

-- an Up has a factor of 1 or more
abbrev pub HasFactor : Element → Type 0
HasFactor (Up factor) = 1 ≤ size factor
HasFactor (Down factor) = Unit {0}
HasFactor (Filter taps form) = Unit {0}
HasFactor (CicDown factor stages delay) = Unit {0}
HasFactor (CicUp factor stages delay) = Unit {0}
HasFactor (Round shift mode) = Unit {0}
HasFactor (Clip bits) = Unit {0}

abbrev pub HaveFactors : List Element → Type 0
HaveFactors [] = Unit {0}
HaveFactors (e ∷ es) = HasFactor e × HaveFactors es
