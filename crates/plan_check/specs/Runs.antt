-- The groups of a plan as runs of its elements.
use Rattle.std.specs.Prelude.{◌≡◌, ◌≤◌, List, [], ◌∷◌, ◌++◌, length, None, Some}
use Rattle.mr_values.specs.declared.plan.Element.{Element}
use Rattle.mr_values.specs.declared.plan.Element.TheVariants.{Up, Down, Filter, CicDown, CicUp, Round, Clip}
use Rattle.mr_values.specs.Value.{size}
use Rattle.mr_values.specs.Timing.{Group, Fir, DownCic, UpCic, Rounding, Clipping, groups}

-- The elements are a run, and this group: an Up, a Filter and a Down in this order, at least one of them, or another element by itself.
abbrev pub IsRun : List Element → Group → Type 0
IsRun (Up l ∷ Filter taps form ∷ Down m ∷ []) g = g ≡ Fir (Some (size l)) (Some (taps, form)) (Some (size m))
IsRun (Up l ∷ Filter taps form ∷ []) g = g ≡ Fir (Some (size l)) (Some (taps, form)) None
IsRun (Up l ∷ Down m ∷ []) g = g ≡ Fir (Some (size l)) None (Some (size m))
IsRun (Up l ∷ []) g = g ≡ Fir (Some (size l)) None None
IsRun (Filter taps form ∷ Down m ∷ []) g = g ≡ Fir None (Some (taps, form)) (Some (size m))
IsRun (Filter taps form ∷ []) g = g ≡ Fir None (Some (taps, form)) None
IsRun (Down m ∷ []) g = g ≡ Fir None None (Some (size m))
IsRun (CicDown factor stages delay ∷ []) g = g ≡ DownCic (size factor) (size stages) (size delay)
IsRun (CicUp factor stages delay ∷ []) g = g ≡ UpCic (size factor) (size stages) (size delay)
IsRun (Round shift mode ∷ []) g = g ≡ Rounding (size shift) mode
IsRun (Clip bits ∷ []) g = g ≡ Clipping (size bits)
IsRun _ g = ⊥

-- The elements begin with a run that is this group, none with which they begin is longer, and `rest` comes after it.
pub record IsLongestRun (elements : List Element) (group : Group) (rest : List Element) : Type 0 where
  pub run : List Element
  pub whole : elements ≡ run ++ rest
  pub is_run : IsRun run group
  pub longest : (other others : List Element) (g : Group) → elements ≡ other ++ others → IsRun other g → length other ≤ length run

-- The groups are runs that make up the elements one after another, each the longest that there is where it begins.
abbrev pub AreLongestRuns : List Element → List Group → Type 0
AreLongestRuns elements [] = elements ≡ []
AreLongestRuns elements (g ∷ gs) = (rest : List Element) × IsLongestRun elements g rest × AreLongestRuns rest gs

abbrev pub GroupsLaw : Type 0
GroupsLaw = (elements : List Element) → AreLongestRuns elements (groups elements)
