-- A TOML document as a plan, and the first of its fields that is wrong.
use Rattle.std.specs.Prelude.{◌≡◌, ℕ, suc, ℤ, pos, List, [], ◌∷◌, ◌++◌, IsUtf8, if◌then◌else◌, Option, Some, None, option_map, Result, Ok, Err}
use Rattle.std.specs.Ordering.{int_eq}
use Rattle.toml.specs.Data.{Items, no_items, item, Members, as_array, as_table}
use Rattle.toml.specs.Parse.{parse_document}
use Rattle.mr_values.specs.declared.plan.Element.{Element}
use Rattle.plan_reader.specs.declared.keys.Key.{Key}
use Rattle.plan_reader.specs.declared.keys.Key.TheVariants as key
use Rattle.plan_reader.specs.declared.keys.FieldFault.{FieldFault}
use Rattle.plan_reader.specs.declared.fault.FieldWhy.TheVariants.{WrongType, Unknown}
use Rattle.plan_reader.specs.declared.fault.PlanReadFault.{PlanReadFault}
use Rattle.plan_reader.specs.declared.fault.PlanReadFault.TheVariants.{NotToml, Field, Version, Memory}
use Rattle.plan_reader.specs.declared.plan_texts.TapFile.{TapFile}
use Rattle.plan_reader.specs.declared.plan_texts.PlanText.{PlanText}
use Rattle.plan_reader.specs.declared.document.Top.{Top}
use Rattle.plan_reader.specs.declared.document.ReadElement.{ReadElement}
use Rattle.plan_reader.specs.declared.shape.Shape.{Shape}
use Rattle.plan_reader.specs.Fields.{and_then, key_text, required, at_key, value_at, number_at, number_or, items_at, are_tables, first_other}
use Rattle.plan_reader.specs.Shapes.{shape_of, keys_of, element_of, file_of}

-- a wrong field of the element of this number; 0 is the plan itself
abbrev pub in_element : {T : Type 0} → ℕ → Result T FieldFault → Result T PlanReadFault
in_element number (Ok x) = Ok x
in_element number (Err fault) = Err (Field number (key_text fault.key) fault.why)

-- no key but these
abbrev pub no_key : ℕ → Option (List ℕ) → Result (Unit {0}) PlanReadFault
no_key number None = Ok tt
no_key number (Some name) = Err (Field number name Unknown)

abbrev pub no_other : ℕ → List Key → Members → Result (Unit {0}) PlanReadFault
no_other number keys ms = no_key number (first_other keys ms)

-- ---- elements

abbrev pub element_with : ℕ → Members → Shape → Result ReadElement PlanReadFault
element_with number ms shape = and_then (no_other number (keys_of shape) ms) (λ _. Ok (record { element = element_of shape ms; file = file_of shape ms }))

-- the element of this number in a plan of this version, or its first wrong field: its kind, its keys in their order, and then other keys
abbrev pub element_from : ℕ → ℕ → Members → Result ReadElement PlanReadFault
element_from version number ms = and_then (in_element number (shape_of version ms)) (λ shape. element_with number ms shape)

abbrev pub element_value : ℕ → ℕ → Option Members → Result ReadElement PlanReadFault
element_value version number None = Err (Field 0 (key_text key.Element) WrongType)
element_value version number (Some ms) = element_from version number ms

-- the elements of a plan and their tap files
pub record ReadElements : Type 0 where
  pub elements : List Element
  pub files : List TapFile

abbrev pub file_list : ℕ → Option (List ℕ) → List TapFile
file_list number None = []
file_list number (Some name) = record { element = number; name = name } ∷ []

abbrev pub with_first : ℕ → ReadElement → Result ReadElements PlanReadFault → Result ReadElements PlanReadFault
with_first number first (Ok rest) = Ok (record { elements = first.element ∷ rest.elements; files = file_list number first.file ++ rest.files })
with_first number first (Err fault) = Err fault

abbrev pub joined : ℕ → Result ReadElement PlanReadFault → Result ReadElements PlanReadFault → Result ReadElements PlanReadFault
joined number (Ok first) rest = with_first number first rest
joined number (Err fault) rest = Err fault

-- the elements of an array of tables, the first of which has this number
abbrev pub elements_from : ℕ → ℕ → Items → Result ReadElements PlanReadFault
elements_from version number no_items = Ok (record { elements = []; files = [] })
elements_from version number (item value values) = joined number (element_value version number (as_table value)) (elements_from version (suc number) values)

-- ---- the plan itself

-- an array of tables
abbrev pub tables_only : Items → Result (Unit {0}) FieldFault
tables_only values = if are_tables values then Ok tt else Err (record { key = key.Element; why = WrongType })

abbrev pub tables_at : Members → Result (Unit {0}) FieldFault
tables_at ms = and_then (at_key key.Element (required as_array (value_at key.Element ms))) (λ values. tables_only values)

abbrev pub sizes_of : ℕ → Members → Result Top FieldFault
sizes_of version ms = and_then (number_at key.Width ms) (λ width. and_then (number_or key.Ticks (pos 1) ms) (λ ticks. and_then (tables_at ms) (λ _. Ok (record { version = version; width = width; ticks = ticks }))))

-- one of the versions that are read
abbrev pub version_of : ℤ → Result ℕ PlanReadFault
version_of found = if int_eq found (pos 1) then Ok 1 else if int_eq found (pos 2) then Ok 2 else Err (Version found)

abbrev pub top_keys : List Key
top_keys = key.Version ∷ key.Width ∷ key.Ticks ∷ key.Element ∷ []

-- the version and the numbers of the plan, or its first wrong field: `version`, `width`, `ticks`, `element`, and then other keys
abbrev pub top_of : Members → Result Top PlanReadFault
top_of ms =
    and_then (in_element 0 (number_at key.Version ms)) (λ found.
    and_then (version_of found) (λ version.
    and_then (in_element 0 (sizes_of version ms)) (λ top.
    and_then (no_other 0 top_keys ms) (λ _. Ok top))))

abbrev pub plan_with : Top → ReadElements → PlanText
plan_with top read = record { version = top.version; plan = record { width = top.width; ticks = top.ticks; elements = read.elements }; files = read.files }

-- the plan that a document says, or its first wrong field: the plan's own fields come before those of the elements
abbrev pub plan_of : Members → Result PlanText PlanReadFault
plan_of ms = and_then (top_of ms) (λ top. and_then (elements_from top.version 1 (items_at key.Element ms)) (λ read. Ok (plan_with top read)))

-- ---- files

-- the bytes are a TOML document, and say this plan or have this first wrong field
pub record Says (bytes : List ℕ) (answer : Result PlanText PlanReadFault) : Type 0 where
  pub text : IsUtf8 bytes
  pub says : option_map plan_of (parse_document bytes) ≡ Some answer

-- the bytes are no TOML document
abbrev pub IsNotToml : List ℕ → Type 0
IsNotToml bytes = IsUtf8 bytes → parse_document bytes ≡ None

-- why a plan file is refused
abbrev pub IsRefusedFor : List ℕ → PlanReadFault → Type 0
IsRefusedFor bytes NotToml = IsNotToml bytes
IsRefusedFor bytes (Field element field why) = Says bytes (Err (Field element field why))
IsRefusedFor bytes (Version found) = Says bytes (Err (Version found))
IsRefusedFor bytes Memory = Unit {0}
