-- An element of a plan file: its kind, its numbers, where its taps stand, and which keys it has.
use Rattle.std.specs.Prelude.{ℕ, ℤ, pos, List, [], ◌∷◌, codes, nat_eq, length, Bool, false, ◌&&◌, if◌then◌else◌, Option, Some, None, Result, Ok, Err}
use Rattle.std.specs.Str.{bytes_eq}
use Rattle.toml.specs.Data.{Data, Items, Members, as_str, as_array}
use Rattle.mr_values.specs.declared.plan.Element.{Element}
use Rattle.mr_values.specs.declared.plan.Element.TheVariants as element
use Rattle.mr_values.specs.declared.plan.Form.{Form}
use Rattle.mr_values.specs.declared.plan.Form.TheVariants.{Parallel, Symmetric, HalfBand, Folded, Distributed}
use Rattle.mr_values.specs.declared.plan.Mode.{Mode}
use Rattle.mr_values.specs.declared.plan.Mode.TheVariants.{HalfUp, HalfEven, Floor}
use Rattle.plan_reader.specs.declared.keys.Key.{Key}
use Rattle.plan_reader.specs.declared.keys.Key.TheVariants as key
use Rattle.plan_reader.specs.declared.keys.FieldFault.{FieldFault}
use Rattle.plan_reader.specs.declared.fault.FieldWhy.TheVariants.{Missing, WrongType, BadWord, Both}
use Rattle.plan_reader.specs.declared.shape.Kind.{Kind}
use Rattle.plan_reader.specs.declared.shape.Kind.TheVariants as kind
use Rattle.plan_reader.specs.declared.shape.TapSource.{TapSource}
use Rattle.plan_reader.specs.declared.shape.TapSource.TheVariants.{Listed, InFile}
use Rattle.plan_reader.specs.declared.shape.Shape.{Shape}
use Rattle.plan_reader.specs.declared.shape.Shape.TheVariants as shape
use Rattle.plan_reader.specs.Fields.{and_then, listed, required, or_default, at_key, value_at, number_at, number_or, items_at, are_numbers, numbers_of}

-- ---- words of a version

abbrev pub kind_of : ℕ → List ℕ → Option Kind
kind_of version word =
    if bytes_eq word (codes "up") then Some kind.Up
    else if bytes_eq word (codes "down") then Some kind.Down
    else if bytes_eq word (codes "filter") then Some kind.Filter
    else if bytes_eq word (codes "cic_down") then Some kind.CicDown
    else if bytes_eq word (codes "cic_up") then Some kind.CicUp
    else if bytes_eq word (codes "round") then Some kind.Round
    else if nat_eq version 2 && bytes_eq word (codes "clip") then Some kind.Clip
    else None

abbrev pub mode_of : ℕ → List ℕ → Option Mode
mode_of version word =
    if bytes_eq word (codes "half_up") then Some HalfUp
    else if bytes_eq word (codes "floor") then Some Floor
    else if nat_eq version 2 && bytes_eq word (codes "half_even") then Some HalfEven
    else None

abbrev pub kind_at : ℕ → Members → Result Kind FieldFault
kind_at version ms = at_key key.Kind (and_then (required as_str (value_at key.Kind ms)) (λ word. listed (kind_of version word)))

abbrev pub mode_at : ℕ → Members → Result Mode FieldFault
mode_at version ms = at_key key.Mode (and_then (or_default as_str (codes "half_up") (value_at key.Mode ms)) (λ word. listed (mode_of version word)))

-- the form of this word, with its number at a key of its own
abbrev pub form_of : List ℕ → Members → Result Form FieldFault
form_of word ms =
    if bytes_eq word (codes "parallel") then Ok Parallel
    else if bytes_eq word (codes "symmetric") then Ok Symmetric
    else if bytes_eq word (codes "half_band") then Ok HalfBand
    else if bytes_eq word (codes "folded") then and_then (number_at key.Slots ms) (λ slots. Ok (Folded slots))
    else if bytes_eq word (codes "distributed") then and_then (number_at key.Group ms) (λ group. Ok (Distributed group))
    else Err (record { key = key.Form; why = BadWord })

abbrev pub form_at : Members → Result Form FieldFault
form_at ms = and_then (at_key key.Form (or_default as_str (codes "parallel") (value_at key.Form ms))) (λ word. form_of word ms)

-- ---- where the taps stand

-- taps in the plan file: an array of whole numbers, and no tap file beside it
abbrev pub only_listed : Option Data → Result TapSource FieldFault
only_listed None = Ok Listed
only_listed (Some file) = Err (record { key = key.TapsFile; why = Both })

abbrev pub is_number_list : Option Items → Bool
is_number_list None = false
is_number_list (Some values) = are_numbers values

abbrev pub listed_source : Data → Option Data → Result TapSource FieldFault
listed_source taps file =
    if is_number_list (as_array taps) then only_listed file else Err (record { key = key.Taps; why = WrongType })

-- taps in a file of their own, whose name is a text that isn't empty
abbrev pub file_named : Option (List ℕ) → Result TapSource FieldFault
file_named None = Err (record { key = key.TapsFile; why = WrongType })
file_named (Some name) = if nat_eq (length name) 0 then Err (record { key = key.TapsFile; why = BadWord }) else Ok InFile

abbrev pub file_source : Option Data → Result TapSource FieldFault
file_source None = Err (record { key = key.Taps; why = Missing })
file_source (Some file) = file_named (as_str file)

abbrev pub source_of : Option Data → Option Data → Result TapSource FieldFault
source_of None file = file_source file
source_of (Some taps) file = listed_source taps file

abbrev pub source_at : Members → Result TapSource FieldFault
source_at ms = source_of (value_at key.Taps ms) (value_at key.TapsFile ms)

-- ---- an element

abbrev pub shape_of_kind : ℕ → Kind → Members → Result Shape FieldFault
shape_of_kind version kind.Up ms = and_then (number_at key.Factor ms) (λ factor. Ok (shape.Up factor))
shape_of_kind version kind.Down ms = and_then (number_at key.Factor ms) (λ factor. Ok (shape.Down factor))
shape_of_kind version kind.Filter ms = and_then (source_at ms) (λ source. and_then (form_at ms) (λ form. Ok (shape.Filter source form)))
shape_of_kind version kind.CicDown ms =
    and_then (number_at key.Factor ms) (λ factor. and_then (number_at key.Stages ms) (λ stages. and_then (number_or key.Delay (pos 1) ms) (λ delay. Ok (shape.CicDown factor stages delay))))
shape_of_kind version kind.CicUp ms =
    and_then (number_at key.Factor ms) (λ factor. and_then (number_at key.Stages ms) (λ stages. and_then (number_or key.Delay (pos 1) ms) (λ delay. Ok (shape.CicUp factor stages delay))))
shape_of_kind version kind.Round ms = and_then (number_at key.Shift ms) (λ shift. and_then (mode_at version ms) (λ mode. Ok (shape.Round shift mode)))
shape_of_kind version kind.Clip ms = and_then (number_at key.Bits ms) (λ bits. Ok (shape.Clip bits))

-- the kind and the numbers that a table says, or its first wrong field
abbrev pub shape_of : ℕ → Members → Result Shape FieldFault
shape_of version ms = and_then (kind_at version ms) (λ kind. shape_of_kind version kind ms)

-- the keys of each kind and form
abbrev pub filter_keys : Form → List Key
filter_keys (Folded slots) = key.Kind ∷ key.Taps ∷ key.TapsFile ∷ key.Form ∷ key.Slots ∷ []
filter_keys (Distributed group) = key.Kind ∷ key.Taps ∷ key.TapsFile ∷ key.Form ∷ key.Group ∷ []
filter_keys _ = key.Kind ∷ key.Taps ∷ key.TapsFile ∷ key.Form ∷ []

abbrev pub keys_of : Shape → List Key
keys_of (shape.Up factor) = key.Kind ∷ key.Factor ∷ []
keys_of (shape.Down factor) = key.Kind ∷ key.Factor ∷ []
keys_of (shape.Filter source form) = filter_keys form
keys_of (shape.CicDown factor stages delay) = key.Kind ∷ key.Factor ∷ key.Stages ∷ key.Delay ∷ []
keys_of (shape.CicUp factor stages delay) = key.Kind ∷ key.Factor ∷ key.Stages ∷ key.Delay ∷ []
keys_of (shape.Round shift mode) = key.Kind ∷ key.Shift ∷ key.Mode ∷ []
keys_of (shape.Clip bits) = key.Kind ∷ key.Bits ∷ []

-- the element, without taps where they stand in a file of their own
abbrev pub taps_of : TapSource → Members → List ℤ
taps_of Listed ms = numbers_of (items_at key.Taps ms)
taps_of InFile ms = []

abbrev pub element_of : Shape → Members → Element
element_of (shape.Up factor) ms = element.Up factor
element_of (shape.Down factor) ms = element.Down factor
element_of (shape.Filter source form) ms = element.Filter (taps_of source ms) form
element_of (shape.CicDown factor stages delay) ms = element.CicDown factor stages delay
element_of (shape.CicUp factor stages delay) ms = element.CicUp factor stages delay
element_of (shape.Round shift mode) ms = element.Round shift mode
element_of (shape.Clip bits) ms = element.Clip bits

-- the name of the tap file
abbrev pub text_of : Option Data → Option (List ℕ)
text_of None = None
text_of (Some value) = as_str value

abbrev pub file_of : Shape → Members → Option (List ℕ)
file_of (shape.Filter InFile form) ms = text_of (value_at key.TapsFile ms)
file_of _ ms = None
