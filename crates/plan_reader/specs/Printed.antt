-- A plan as a document of a version: all keys are there, and the taps stand in it.
use Rattle.std.specs.Prelude.{ℕ, ℤ, pos, List, [], ◌∷◌, codes}
use Rattle.std.specs.Ordering.{nat_cmp, match_ordering}
use Rattle.std.specs.Cmp.Lexicographic.{slice_cmp}
use Rattle.toml.specs.Data.{Data, string, integer, array, table, Items, no_items, item, Members, no_members, member}
use Rattle.mr_values.specs.declared.plan.Element.{Element}
use Rattle.mr_values.specs.declared.plan.Element.TheVariants.{Up, Down, Filter, CicDown, CicUp, Round, Clip}
use Rattle.mr_values.specs.declared.plan.Form.{Form}
use Rattle.mr_values.specs.declared.plan.Form.TheVariants.{Parallel, Symmetric, HalfBand, Folded, Distributed}
use Rattle.mr_values.specs.declared.plan.Mode.{Mode}
use Rattle.mr_values.specs.declared.plan.Mode.TheVariants.{HalfUp, HalfEven, Floor}
use Rattle.mr_values.specs.declared.plan.Plan.{Plan}
use Rattle.plan_reader.specs.declared.keys.Key.{Key}
use Rattle.plan_reader.specs.declared.keys.Key.TheVariants as key
use Rattle.plan_reader.specs.Fields.{key_text}

-- a table with a value at a key, whose keys ascend as before
abbrev pub put_member : List ℕ → Data → Members → Members
put_member name value no_members = member name value no_members
put_member name value (member other held ms) =
    match_ordering (slice_cmp nat_cmp name other) (member name value (member other held ms)) (member other value ms) (member other held (put_member name value ms))

abbrev pub with_value : Key → Data → Members → Members
with_value key value ms = put_member (key_text key) value ms

abbrev pub with_number : Key → ℤ → Members → Members
with_number key number ms = with_value key (integer number) ms

abbrev pub with_word : Key → List ℕ → Members → Members
with_word key word ms = with_value key (string word) ms

abbrev pub number_items : List ℤ → Items
number_items [] = no_items
number_items (number ∷ numbers) = item (integer number) (number_items numbers)

abbrev pub mode_word : Mode → List ℕ
mode_word HalfUp = codes "half_up"
mode_word HalfEven = codes "half_even"
mode_word Floor = codes "floor"

abbrev pub with_form : Form → Members → Members
with_form Parallel ms = with_word key.Form (codes "parallel") ms
with_form Symmetric ms = with_word key.Form (codes "symmetric") ms
with_form HalfBand ms = with_word key.Form (codes "half_band") ms
with_form (Folded slots) ms = with_number key.Slots slots (with_word key.Form (codes "folded") ms)
with_form (Distributed group) ms = with_number key.Group group (with_word key.Form (codes "distributed") ms)

abbrev pub with_kind : List ℕ → Members
with_kind word = with_word key.Kind word no_members

abbrev pub element_members : Element → Members
element_members (Up factor) = with_number key.Factor factor (with_kind (codes "up"))
element_members (Down factor) = with_number key.Factor factor (with_kind (codes "down"))
element_members (Filter taps form) = with_form form (with_value key.Taps (array (number_items taps)) (with_kind (codes "filter")))
element_members (CicDown factor stages delay) = with_number key.Delay delay (with_number key.Stages stages (with_number key.Factor factor (with_kind (codes "cic_down"))))
element_members (CicUp factor stages delay) = with_number key.Delay delay (with_number key.Stages stages (with_number key.Factor factor (with_kind (codes "cic_up"))))
element_members (Round shift mode) = with_word key.Mode (mode_word mode) (with_number key.Shift shift (with_kind (codes "round")))
element_members (Clip bits) = with_number key.Bits bits (with_kind (codes "clip"))

abbrev pub element_items : List Element → Items
element_items [] = no_items
element_items (e ∷ es) = item (table (element_members e)) (element_items es)

abbrev pub plan_members : ℕ → Plan → Members
plan_members version plan =
    with_value key.Element (array (element_items plan.elements)) (with_number key.Ticks plan.ticks (with_number key.Width plan.width (with_number key.Version (pos version) no_members)))
