-- A document is refused for a field or its version alone.
use Rattle.std.proofs.Common.{◌≡◌, ◌∙◌, ℕ, suc, List, inl, inr, Bool, true, false, Option, Some, None, option_map, Result, Ok, Err, ap, subst}
use Rattle.std.specs.Prelude.{IsUtf8, MatchResult, ℤ, pos, cond}
use Rattle.std.specs.Ordering.{int_eq}
use Rattle.toml.specs.Data.{Items, no_items, item, Members, as_table}
use Rattle.toml.specs.Parse.{parse_document}
use Rattle.plan_reader.specs.declared.keys.Key.TheVariants as key
use Rattle.plan_reader.specs.declared.keys.FieldFault.{FieldFault}
use Rattle.plan_reader.specs.declared.fault.PlanReadFault.{PlanReadFault}
use Rattle.plan_reader.specs.declared.fault.PlanReadFault.TheVariants.{NotToml, Field, Version, Memory}
use Rattle.plan_reader.specs.declared.plan_texts.PlanText.{PlanText}
use Rattle.plan_reader.specs.declared.document.ReadElement.{ReadElement}
use Rattle.plan_reader.specs.declared.shape.Shape.{Shape}
use Rattle.plan_reader.specs.Answers.{Gives}
use Rattle.plan_reader.specs.Fields.{and_then, first_other, number_at, items_at}
use Rattle.plan_reader.specs.Shapes.{shape_of, keys_of}
use Rattle.plan_reader.specs.Documents.{in_element, no_key, element_with, element_value, joined, ReadElements, elements_from, sizes_of, version_of, top_keys, top_of, plan_of, Says, IsRefusedFor}

abbrev IsFieldFault : PlanReadFault → Type 0
IsFieldFault NotToml = ⊥
IsFieldFault (Field element field why) = Unit {0}
IsFieldFault (Version found) = Unit {0}
IsFieldFault Memory = ⊥

abbrev NamesField : {T : Type 0} → Result T PlanReadFault → Type 0
NamesField (Ok x) = Unit {0}
NamesField (Err fault) = IsFieldFault fault

then-names : {T U : Type 0} (r : Result T PlanReadFault) (f : T → Result U PlanReadFault) → NamesField r → ((x : T) → NamesField (f x)) → NamesField (and_then r f)
then-names (Ok x) f here later = later x
then-names (Err fault) f here later = here

in_element-names : {T : Type 0} (number : ℕ) (r : Result T FieldFault) → NamesField (in_element number r)
in_element-names number (Ok x) = tt
in_element-names number (Err fault) = tt

no_key-names : (number : ℕ) (found : Option (List ℕ)) → NamesField (no_key number found)
no_key-names number None = tt
no_key-names number (Some name) = tt

element_with-names : (number : ℕ) (ms : Members) (shape : Shape) → NamesField (element_with number ms shape)
element_with-names number ms shape = then-names (no_key number (first_other (keys_of shape) ms)) _ (no_key-names number (first_other (keys_of shape) ms)) (λ _. tt)

element_value-names : (version number : ℕ) (found : Option Members) → NamesField (element_value version number found)
element_value-names version number None = tt
element_value-names version number (Some ms) = then-names (in_element number (shape_of version ms)) _ (in_element-names number (shape_of version ms)) (λ shape. element_with-names number ms shape)

joined-names : (number : ℕ) (first : Result ReadElement PlanReadFault) (rest : Result ReadElements PlanReadFault) → NamesField first → NamesField rest → NamesField (joined number first rest)
joined-names number (Ok first) (Ok rest) h k = tt
joined-names number (Ok first) (Err fault) h k = k
joined-names number (Err fault) rest h k = h

elements_from-names : (version number : ℕ) (values : Items) → NamesField (elements_from version number values)
elements_from-names version number no_items = tt
elements_from-names version number (item value values) =
    joined-names number (element_value version number (as_table value)) (elements_from version (suc number) values) (element_value-names version number (as_table value)) (elements_from-names version (suc number) values)

abbrev by_version : Bool → Bool → ℤ → Result ℕ PlanReadFault
by_version a b found = cond a (Ok 1) (cond b (Ok 2) (Err (Version found)))

either_version : (a b : Bool) (found : ℤ) → NamesField (by_version a b found)
either_version true b found = tt
either_version false true found = tt
either_version false false found = tt

version_of-names : (found : ℤ) → NamesField (version_of found)
version_of-names found = either_version (int_eq found (pos 1)) (int_eq found (pos 2)) found

top_of-names : (ms : Members) → NamesField (top_of ms)
top_of-names ms =
    then-names (in_element 0 (number_at key.Version ms)) _ (in_element-names 0 (number_at key.Version ms)) (λ found.
    then-names (version_of found) _ (version_of-names found) (λ version.
    then-names (in_element 0 (sizes_of version ms)) _ (in_element-names 0 (sizes_of version ms)) (λ top.
    then-names (no_key 0 (first_other top_keys ms)) _ (no_key-names 0 (first_other top_keys ms)) (λ _. tt))))

plan_of-names : (ms : Members) → NamesField (plan_of ms)
plan_of-names ms =
    then-names (top_of ms) _ (top_of-names ms) (λ top. then-names (elements_from top.version 1 (items_at key.Element ms)) _ (elements_from-names top.version 1 (items_at key.Element ms)) (λ read. tt))

-- what a document's answer says of the file
pub answered : (bytes : List ℕ) (ms : Members) (result : Result PlanText PlanReadFault) → IsUtf8 bytes → parse_document bytes ≡ Some ms → Gives (plan_of ms) result
    → MatchResult result (λ text. Says bytes (Ok text)) (IsRefusedFor bytes)
answered bytes ms (Ok text) utf8 parsed gives = record { text = utf8; says = ap (option_map plan_of) parsed ∙ ap Some gives }
answered bytes ms (Err NotToml) utf8 parsed (inl same) = cc
answered bytes ms (Err NotToml) utf8 parsed (inr gives) = absurd (subst (λ (r : Result PlanText PlanReadFault). NamesField r) gives (plan_of-names ms))
answered bytes ms (Err (Field element field why)) utf8 parsed (inl same) = cc
answered bytes ms (Err (Field element field why)) utf8 parsed (inr gives) = record { text = utf8; says = ap (option_map plan_of) parsed ∙ ap Some gives }
answered bytes ms (Err (Version found)) utf8 parsed (inl same) = cc
answered bytes ms (Err (Version found)) utf8 parsed (inr gives) = record { text = utf8; says = ap (option_map plan_of) parsed ∙ ap Some gives }
answered bytes ms (Err Memory) utf8 parsed gives = tt
