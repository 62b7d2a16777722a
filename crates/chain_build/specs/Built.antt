-- Which plans are built.
use Rattle.std.specs.Prelude.{◌≡◌, Bool, true, false, if◌then◌else◌, List, [], ◌∷◌}
use Rattle.std.specs.List.{list_all}
use Rattle.mr_values.specs.declared.plan.Element.{Element}
use Rattle.mr_values.specs.declared.plan.Element.TheVariants.{Up, Down, Filter, CicDown, CicUp, Round, Clip}
use Rattle.mr_values.specs.Timing.{Group, Fir, DownCic, UpCic, Rounding, Clipping, form_of}
use Rattle.stage_law.specs.declared.stage.Kind.{Kind}
use Rattle.stage_law.specs.declared.stage.Kind.TheVariants as kind
use Rattle.chain_build.specs.Forms.{is_built_form, form_kind}

-- an element that is built
abbrev pub is_built : Element → Bool
is_built (Up factor) = true
is_built (Down factor) = true
is_built (Filter taps form) = is_built_form form
is_built (CicDown factor stages delay) = true
is_built (CicUp factor stages delay) = true
is_built (Round shift mode) = true
is_built (Clip bits) = true

-- all elements are built
abbrev pub are_built : List Element → Bool
are_built elements = list_all is_built elements

-- a group of elements that are built
abbrev pub IsBuiltGroup : Group → Type 0
IsBuiltGroup (Fir up filter down) = is_built_form (form_of filter) ≡ true
IsBuiltGroup (DownCic factor stages delay) = Unit {0}
IsBuiltGroup (UpCic factor stages delay) = Unit {0}
IsBuiltGroup (Rounding shift mode) = Unit {0}
IsBuiltGroup (Clipping bits) = Unit {0}

abbrev pub AreBuiltGroups : List Group → Type 0
AreBuiltGroups [] = Unit {0}
AreBuiltGroups (g ∷ gs) = IsBuiltGroup g × AreBuiltGroups gs

-- ---- the form of a group as a stage

abbrev pub kind_of : Group → Kind
kind_of (Fir up filter down) = form_kind (form_of filter)
kind_of (DownCic factor stages delay) = kind.CicDown
kind_of (UpCic factor stages delay) = kind.CicUp
kind_of (Rounding shift mode) = kind.Rounding
kind_of (Clipping bits) = kind.Clipping

-- ---- which groups don't round

-- a group that neither rounds nor clips
abbrev pub IsPlainGroup : Group → Type 0
IsPlainGroup (Fir up filter down) = Unit {0}
IsPlainGroup (DownCic factor stages delay) = Unit {0}
IsPlainGroup (UpCic factor stages delay) = Unit {0}
IsPlainGroup (Rounding shift mode) = ⊥
IsPlainGroup (Clipping bits) = ⊥

abbrev pub ArePlainGroups : List Group → Type 0
ArePlainGroups [] = Unit {0}
ArePlainGroups (g ∷ gs) = IsPlainGroup g × ArePlainGroups gs

-- whether a group rounds or clips, and whether one of several does
abbrev pub rounds : Group → Bool
rounds (Fir up filter down) = false
rounds (DownCic factor stages delay) = false
rounds (UpCic factor stages delay) = false
rounds (Rounding shift mode) = true
rounds (Clipping bits) = true

abbrev pub has_rounding : List Group → Bool
has_rounding [] = false
has_rounding (g ∷ gs) = if rounds g then true else has_rounding gs
