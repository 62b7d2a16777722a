-- The fields of a plan's tables: what a key holds, and what is wrong with it.
use Rattle.std.specs.Prelude.{ℕ, ℤ, List, [], ◌∷◌, codes, Bool, true, ◌&&◌, is_some, if◌then◌else◌, Option, Some, None, Result, Ok, Err}
use Rattle.std.specs.List.{list_any}
use Rattle.std.specs.Str.{bytes_eq}
use Rattle.toml.specs.Data.{Data, Items, no_items, item, Members, no_members, member, get_member, as_integer, as_array, as_table}
use Rattle.plan_reader.specs.declared.keys.Key.{Key}
use Rattle.plan_reader.specs.declared.keys.Key.TheVariants.{Version, Width, Ticks, Element, Kind, Factor, Taps, TapsFile, Form, Slots, Group, Stages, Delay, Shift, Mode, Bits}
use Rattle.plan_reader.specs.declared.keys.FieldFault.{FieldFault}
use Rattle.plan_reader.specs.declared.fault.FieldWhy.{FieldWhy}
use Rattle.plan_reader.specs.declared.fault.FieldWhy.TheVariants.{Missing, WrongType, BadWord}

-- the first answer, and then the second; the first fault counts
abbrev pub and_then : {T U E : Type 0} → Result T E → (T → Result U E) → Result U E
and_then (Ok x) f = f x
and_then (Err e) f = Err e

-- how a key is spelled
abbrev pub key_text : Key → List ℕ
key_text Version = codes "version"
key_text Width = codes "width"
key_text Ticks = codes "ticks"
key_text Element = codes "element"
key_text Kind = codes "kind"
key_text Factor = codes "factor"
key_text Taps = codes "taps"
key_text TapsFile = codes "taps_file"
key_text Form = codes "form"
key_text Slots = codes "slots"
key_text Group = codes "group"
key_text Stages = codes "stages"
key_text Delay = codes "delay"
key_text Shift = codes "shift"
key_text Mode = codes "mode"
key_text Bits = codes "bits"

-- a value of the type that is asked for
abbrev pub typed : {T : Type 0} → Option T → Result T FieldWhy
typed None = Err WrongType
typed (Some x) = Ok x

-- one of the listed words
abbrev pub listed : {T : Type 0} → Option T → Result T FieldWhy
listed None = Err BadWord
listed (Some x) = Ok x

-- a value that must be there
abbrev pub required : {T : Type 0} → (Data → Option T) → Option Data → Result T FieldWhy
required read None = Err Missing
required read (Some value) = typed (read value)

-- a value that is this one where it is missing
abbrev pub or_default : {T : Type 0} → (Data → Option T) → T → Option Data → Result T FieldWhy
or_default read default None = Ok default
or_default read default (Some value) = typed (read value)

-- the same, of a key
abbrev pub at_key : {T : Type 0} → Key → Result T FieldWhy → Result T FieldFault
at_key key (Ok x) = Ok x
at_key key (Err why) = Err (record { key = key; why = why })

-- what a table holds at a key
abbrev pub value_at : Key → Members → Option Data
value_at key ms = get_member (key_text key) ms

-- the whole number at a key
abbrev pub number_at : Key → Members → Result ℤ FieldFault
number_at key ms = at_key key (required as_integer (value_at key ms))

-- the whole number at a key that may be missing
abbrev pub number_or : Key → ℤ → Members → Result ℤ FieldFault
number_or key default ms = at_key key (or_default as_integer default (value_at key ms))

-- the values of an array at a key, none where there is no array
abbrev pub items_or_none : Option Items → Items
items_or_none None = no_items
items_or_none (Some values) = values

abbrev pub array_of : Option Data → Option Items
array_of None = None
array_of (Some value) = as_array value

abbrev pub items_at : Key → Members → Items
items_at key ms = items_or_none (array_of (value_at key ms))

-- all are whole numbers, all are tables
abbrev pub are_numbers : Items → Bool
are_numbers no_items = true
are_numbers (item value values) = is_some (as_integer value) && are_numbers values

abbrev pub are_tables : Items → Bool
are_tables no_items = true
are_tables (item value values) = is_some (as_table value) && are_tables values

-- the whole numbers among the values
abbrev pub number_then : Option ℤ → List ℤ → List ℤ
number_then None others = others
number_then (Some number) others = number ∷ others

abbrev pub numbers_of : Items → List ℤ
numbers_of no_items = []
numbers_of (item value values) = number_then (as_integer value) (numbers_of values)

-- a name is one of these keys
abbrev pub is_key_of : List Key → List ℕ → Bool
is_key_of keys name = list_any (λ key. bytes_eq (key_text key) name) keys

-- the first key of a table, whose keys stand in byte order, that is none of these
abbrev pub first_other : List Key → Members → Option (List ℕ)
first_other keys no_members = None
first_other keys (member name value ms) = if is_key_of keys name then first_other keys ms else Some name
