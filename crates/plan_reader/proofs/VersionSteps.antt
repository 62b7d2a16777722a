-- What is read has elements that its version knows, and so has a plan with other taps.
use Rattle.std.proofs.Common.{◌≡◌, ℕ, zero, suc, List, [], ◌∷◌, ℤ, pos, Bool, true, false, cond, Option, None, Some, option_map, Result, Ok, Err, ◌⊎◌, inl, inr, refl, sym, subst}
use Rattle.std.specs.Prelude.{codes, IfOk, MatchResult}
use Rattle.std.specs.Ordering.{int_eq}
use Rattle.std.specs.Str.{bytes_eq}
use Rattle.std.proofs.lemmas.Option.{same_Some}
use Rattle.toml.specs.Data.{Items, no_items, item, Members, as_table, as_str}
use Rattle.toml.specs.Parse.{parse_document}
use Rattle.mr_values.specs.declared.plan.Element.{Element}
use Rattle.mr_values.specs.declared.plan.Element.TheVariants.{Up, Down, Filter, CicDown, CicUp, Round, Clip}
use Rattle.mr_values.specs.declared.plan.Mode.TheVariants.{HalfUp, Floor}
use Rattle.mr_values.specs.Value.{IsFirstMode, IsFirst, AreFirst}
use Rattle.plan_reader.specs.declared.keys.Key.{Key}
use Rattle.plan_reader.specs.declared.keys.Key.TheVariants as key
use Rattle.plan_reader.specs.declared.keys.FieldFault.{FieldFault}
use Rattle.plan_reader.specs.declared.fault.FieldWhy.{FieldWhy}
use Rattle.plan_reader.specs.declared.fault.PlanReadFault.{PlanReadFault}
use Rattle.plan_reader.specs.declared.fault.PlanReadFault.TheVariants.{Version}
use Rattle.plan_reader.specs.declared.shape.Kind.{Kind}
use Rattle.plan_reader.specs.declared.shape.Kind.TheVariants as kind
use Rattle.plan_reader.specs.declared.shape.Shape.{Shape}
use Rattle.plan_reader.specs.declared.shape.Shape.TheVariants as shape
use Rattle.plan_reader.specs.declared.document.Top.{Top}
use Rattle.plan_reader.specs.declared.document.ReadElement.{ReadElement}
use Rattle.plan_reader.specs.declared.plan_texts.PlanText.{PlanText}
use Rattle.plan_reader.specs.Fields.{and_then, listed, required, or_default, at_key, value_at, number_at, number_or, items_at}
use Rattle.plan_reader.specs.Shapes.{kind_of, mode_of, mode_at, kind_at, source_at, form_at, shape_of_kind, shape_of, keys_of, element_of, file_of}
use Rattle.plan_reader.specs.Documents.{ReadElements, in_element, no_other, element_with, element_from, element_value, elements_from, joined, tables_at, sizes_of, version_of, top_keys, top_of, plan_with, plan_of, Says, IsRefusedFor}
use Rattle.plan_reader.specs.Versions.{IsVersioned}
use Rattle.plan_reader.specs.Tapped.{tapped, tapped_at, tapped_number}

-- ---- other taps

tapped-first : (taps : List ℤ) (e : Element) → IsFirst e → IsFirst (tapped taps e)
tapped-first taps (Up factor) h = h
tapped-first taps (Down factor) h = h
tapped-first taps (Filter old form) h = h
tapped-first taps (CicDown factor stages delay) h = h
tapped-first taps (CicUp factor stages delay) h = h
tapped-first taps (Round shift mode) h = h
tapped-first taps (Clip bits) h = h

tapped_at-first : (place : ℕ) (taps : List ℤ) (es : List Element) → AreFirst es → AreFirst (tapped_at place taps es)
tapped_at-first place taps [] h = tt
tapped_at-first zero taps (e ∷ es) h = (tapped-first taps e h.0, h.1)
tapped_at-first (suc place) taps (e ∷ es) h = (h.0, tapped_at-first place taps es h.1)

tapped_number-first : (number : ℕ) (taps : List ℤ) (es : List Element) → AreFirst es → AreFirst (tapped_number number taps es)
tapped_number-first zero taps es h = h
tapped_number-first (suc place) taps es h = tapped_at-first place taps es h

pub tapped_number-versioned : (version number : ℕ) (taps : List ℤ) (es : List Element) → IsVersioned version es → IsVersioned version (tapped_number number taps es)
tapped_number-versioned version number taps es (inl second) = inl second
tapped_number-versioned version number taps es (inr first) = inr (first.0, tapped_number-first number taps es first.1)

-- ---- what is read in version 1

then_ok : {T U E : Type 0} (Q : T → Type 0) (P : U → Type 0) (r : Result T E) (f : T → Result U E) → IfOk r Q → ((x : T) → Q x → IfOk (f x) P) → IfOk (and_then r f) P
then_ok Q P (Ok x) f h g = g x h
then_ok Q P (Err e) f h g = tt

abbrev Any : {T : Type 0} → T → Type 0
Any x = Unit {0}

any_ok : {T E : Type 0} (r : Result T E) → IfOk r Any
any_ok (Ok x) = tt
any_ok (Err e) = tt

key_ok : {T : Type 0} (P : T → Type 0) (key : Key) (r : Result T FieldWhy) → IfOk r P → IfOk (at_key key r) P
key_ok P key (Ok x) h = h
key_ok P key (Err e) h = tt

in_element-ok : {T : Type 0} (P : T → Type 0) (number : ℕ) (r : Result T FieldFault) → IfOk r P → IfOk (in_element number r) P
in_element-ok P number (Ok x) h = h
in_element-ok P number (Err e) h = tt

mode_first : (a b : Bool) → IfOk (listed (cond a (Some HalfUp) (cond b (Some Floor) None))) IsFirstMode
mode_first true b = tt
mode_first false true = tt
mode_first false false = tt

mode_at-first : (ms : Members) → IfOk (mode_at 1 ms) IsFirstMode
mode_at-first ms =
    key_ok IsFirstMode key.Mode (and_then (or_default as_str (codes "half_up") (value_at key.Mode ms)) (λ word. listed (mode_of 1 word)))
    (then_ok Any IsFirstMode (or_default as_str (codes "half_up") (value_at key.Mode ms)) (λ word. listed (mode_of 1 word)) (any_ok (or_default as_str (codes "half_up") (value_at key.Mode ms)))
    (λ word h. mode_first (bytes_eq word (codes "half_up")) (bytes_eq word (codes "floor"))))

abbrev IsFirstKind : Kind → Type 0
IsFirstKind kind.Clip = ⊥
IsFirstKind _ = Unit {0}

kind_first : (a b c d e f : Bool)
    → IfOk (listed (cond a (Some kind.Up) (cond b (Some kind.Down) (cond c (Some kind.Filter) (cond d (Some kind.CicDown) (cond e (Some kind.CicUp) (cond f (Some kind.Round) None))))))) IsFirstKind
kind_first true b c d e f = tt
kind_first false true c d e f = tt
kind_first false false true d e f = tt
kind_first false false false true e f = tt
kind_first false false false false true f = tt
kind_first false false false false false true = tt
kind_first false false false false false false = tt

kind_at-first : (ms : Members) → IfOk (kind_at 1 ms) IsFirstKind
kind_at-first ms =
    key_ok IsFirstKind key.Kind (and_then (required as_str (value_at key.Kind ms)) (λ word. listed (kind_of 1 word)))
    (then_ok Any IsFirstKind (required as_str (value_at key.Kind ms)) (λ word. listed (kind_of 1 word)) (any_ok (required as_str (value_at key.Kind ms)))
    (λ word h. kind_first (bytes_eq word (codes "up")) (bytes_eq word (codes "down")) (bytes_eq word (codes "filter")) (bytes_eq word (codes "cic_down")) (bytes_eq word (codes "cic_up")) (bytes_eq word (codes "round"))))

abbrev IsFirstShape : Shape → Type 0
IsFirstShape (shape.Round shift mode) = IsFirstMode mode
IsFirstShape (shape.Clip bits) = ⊥
IsFirstShape _ = Unit {0}

shape_of_kind-first : (kind : Kind) (ms : Members) → IsFirstKind kind → IfOk (shape_of_kind 1 kind ms) IsFirstShape
shape_of_kind-first kind.Up ms is = then_ok Any IsFirstShape (number_at key.Factor ms) (λ factor. Ok (shape.Up factor)) (any_ok (number_at key.Factor ms)) (λ factor h. tt)
shape_of_kind-first kind.Down ms is = then_ok Any IsFirstShape (number_at key.Factor ms) (λ factor. Ok (shape.Down factor)) (any_ok (number_at key.Factor ms)) (λ factor h. tt)
shape_of_kind-first kind.Filter ms is =
    then_ok Any IsFirstShape (source_at ms) (λ source. and_then (form_at ms) (λ form. Ok (shape.Filter source form))) (any_ok (source_at ms))
    (λ source h. then_ok Any IsFirstShape (form_at ms) (λ form. Ok (shape.Filter source form)) (any_ok (form_at ms)) (λ form h. tt))
shape_of_kind-first kind.CicDown ms is =
    then_ok Any IsFirstShape (number_at key.Factor ms) (λ factor. and_then (number_at key.Stages ms) (λ stages. and_then (number_or key.Delay (pos 1) ms) (λ delay. Ok (shape.CicDown factor stages delay)))) (any_ok (number_at key.Factor ms))
    (λ factor h. then_ok Any IsFirstShape (number_at key.Stages ms) (λ stages. and_then (number_or key.Delay (pos 1) ms) (λ delay. Ok (shape.CicDown factor stages delay))) (any_ok (number_at key.Stages ms))
    (λ stages h. then_ok Any IsFirstShape (number_or key.Delay (pos 1) ms) (λ delay. Ok (shape.CicDown factor stages delay)) (any_ok (number_or key.Delay (pos 1) ms)) (λ delay h. tt)))
shape_of_kind-first kind.CicUp ms is =
    then_ok Any IsFirstShape (number_at key.Factor ms) (λ factor. and_then (number_at key.Stages ms) (λ stages. and_then (number_or key.Delay (pos 1) ms) (λ delay. Ok (shape.CicUp factor stages delay)))) (any_ok (number_at key.Factor ms))
    (λ factor h. then_ok Any IsFirstShape (number_at key.Stages ms) (λ stages. and_then (number_or key.Delay (pos 1) ms) (λ delay. Ok (shape.CicUp factor stages delay))) (any_ok (number_at key.Stages ms))
    (λ stages h. then_ok Any IsFirstShape (number_or key.Delay (pos 1) ms) (λ delay. Ok (shape.CicUp factor stages delay)) (any_ok (number_or key.Delay (pos 1) ms)) (λ delay h. tt)))
shape_of_kind-first kind.Round ms is =
    then_ok Any IsFirstShape (number_at key.Shift ms) (λ shift. and_then (mode_at 1 ms) (λ mode. Ok (shape.Round shift mode))) (any_ok (number_at key.Shift ms))
    (λ shift h. then_ok IsFirstMode IsFirstShape (mode_at 1 ms) (λ mode. Ok (shape.Round shift mode)) (mode_at-first ms) (λ mode h. h))
shape_of_kind-first kind.Clip ms is = absurd is

element_of-first : (s : Shape) (ms : Members) → IsFirstShape s → IsFirst (element_of s ms)
element_of-first (shape.Up factor) ms h = tt
element_of-first (shape.Down factor) ms h = tt
element_of-first (shape.Filter source form) ms h = tt
element_of-first (shape.CicDown factor stages delay) ms h = tt
element_of-first (shape.CicUp factor stages delay) ms h = tt
element_of-first (shape.Round shift mode) ms h = h
element_of-first (shape.Clip bits) ms h = absurd h

abbrev HasFirst : ReadElement → Type 0
HasFirst read = IsFirst read.element

abbrev HaveFirst : ReadElements → Type 0
HaveFirst read = AreFirst read.elements

element_from-first : (number : ℕ) (ms : Members) → IfOk (element_from 1 number ms) HasFirst
element_from-first number ms =
    then_ok IsFirstShape HasFirst (in_element number (shape_of 1 ms)) (λ s. element_with number ms s)
    (in_element-ok IsFirstShape number (shape_of 1 ms) (then_ok IsFirstKind IsFirstShape (kind_at 1 ms) (λ k. shape_of_kind 1 k ms) (kind_at-first ms) (λ k h. shape_of_kind-first k ms h)))
    (λ s h. then_ok Any HasFirst (no_other number (keys_of s) ms) (λ _. Ok (record { element = element_of s ms; file = file_of s ms })) (any_ok (no_other number (keys_of s) ms)) (λ _ any. element_of-first s ms h))

element_value-first : (number : ℕ) (table : Option Members) → IfOk (element_value 1 number table) HasFirst
element_value-first number None = tt
element_value-first number (Some ms) = element_from-first number ms

joined-first : (number : ℕ) (first : Result ReadElement PlanReadFault) (rest : Result ReadElements PlanReadFault) → IfOk first HasFirst → IfOk rest HaveFirst → IfOk (joined number first rest) HaveFirst
joined-first number (Ok first) (Ok rest) h t = (h, t)
joined-first number (Ok first) (Err fault) h t = tt
joined-first number (Err fault) rest h t = tt

elements_from-first : (number : ℕ) (values : Items) → IfOk (elements_from 1 number values) HaveFirst
elements_from-first number no_items = tt
elements_from-first number (item value values) =
    joined-first number (element_value 1 number (as_table value)) (elements_from 1 (suc number) values) (element_value-first number (as_table value)) (elements_from-first (suc number) values)

-- ---- what is read in either version

abbrev IsKnown : ℕ → Type 0
IsKnown version = (version ≡ 2) ⊎ (version ≡ 1)

abbrev by_version : Bool → Bool → ℤ → Result ℕ PlanReadFault
by_version a b found = cond a (Ok 1) (cond b (Ok 2) (Err (Version found)))

known_version : (a b : Bool) (found : ℤ) → IfOk (by_version a b found) IsKnown
known_version true b found = inr refl
known_version false true found = inl refl
known_version false false found = tt

abbrev HasKnown : Top → Type 0
HasKnown top = IsKnown top.version

sizes_of-known : (version : ℕ) (ms : Members) → IsKnown version → IfOk (sizes_of version ms) HasKnown
sizes_of-known version ms known =
    then_ok Any HasKnown (number_at key.Width ms) (λ width. and_then (number_or key.Ticks (pos 1) ms) (λ ticks. and_then (tables_at ms) (λ _. Ok (record { version = version; width = width; ticks = ticks })))) (any_ok (number_at key.Width ms))
    (λ width h. then_ok Any HasKnown (number_or key.Ticks (pos 1) ms) (λ ticks. and_then (tables_at ms) (λ _. Ok (record { version = version; width = width; ticks = ticks }))) (any_ok (number_or key.Ticks (pos 1) ms))
    (λ ticks h. then_ok Any HasKnown (tables_at ms) (λ _. Ok (record { version = version; width = width; ticks = ticks })) (any_ok (tables_at ms)) (λ _ h. known)))

top_of-known : (ms : Members) → IfOk (top_of ms) HasKnown
top_of-known ms =
    then_ok Any HasKnown (in_element 0 (number_at key.Version ms)) _ (any_ok (in_element 0 (number_at key.Version ms)))
    (λ found h. then_ok IsKnown HasKnown (version_of found) _ (known_version (int_eq found (pos 1)) (int_eq found (pos 2)) found)
    (λ version known. then_ok HasKnown HasKnown (in_element 0 (sizes_of version ms)) _ (in_element-ok HasKnown 0 (sizes_of version ms) (sizes_of-known version ms known))
    (λ top has. then_ok Any HasKnown (no_other 0 top_keys ms) (λ _. Ok top) (any_ok (no_other 0 top_keys ms)) (λ _ h. has))))

abbrev SaysVersioned : PlanText → Type 0
SaysVersioned text = IsVersioned text.version text.plan.elements

elements_versioned : (top : Top) (number : ℕ) (values : Items) → IsKnown top.version → IfOk (elements_from top.version number values) (λ read. IsVersioned top.version read.elements)
elements_versioned top number values (inl second) = second_alone (elements_from top.version number values)
  where
    second_alone : (read : Result ReadElements PlanReadFault) → IfOk read (λ found. IsVersioned top.version found.elements)
    second_alone (Ok read) = inl second
    second_alone (Err fault) = tt
elements_versioned top number values (inr first) =
    first_alone (elements_from top.version number values) (subst (λ (version : ℕ). IfOk (elements_from version number values) HaveFirst) (sym first) (elements_from-first number values))
  where
    first_alone : (read : Result ReadElements PlanReadFault) → IfOk read HaveFirst → IfOk read (λ found. IsVersioned top.version found.elements)
    first_alone (Ok read) h = inr (first, h)
    first_alone (Err fault) h = tt

plan_of-versioned : (ms : Members) → IfOk (plan_of ms) SaysVersioned
plan_of-versioned ms =
    then_ok HasKnown SaysVersioned (top_of ms) (λ top. and_then (elements_from top.version 1 (items_at key.Element ms)) (λ read. Ok (plan_with top read))) (top_of-known ms)
    (λ top known. then_ok (λ (read : ReadElements). IsVersioned top.version read.elements) SaysVersioned (elements_from top.version 1 (items_at key.Element ms)) (λ read. Ok (plan_with top read))
    (elements_versioned top 1 (items_at key.Element ms) known) (λ read versioned. versioned))

-- the elements of a plan file
pub says-versioned : (bytes : List ℕ) (text : PlanText) → Says bytes (Ok text) → IsVersioned text.version text.plan.elements
says-versioned bytes text h = by (parse_document bytes) h.says
  where
    by : (parsed : Option Members) → option_map plan_of parsed ≡ Some (Ok text) → IsVersioned text.version text.plan.elements
    by None e = absurd (cc)
    by (Some ms) e = subst (λ (answer : Result PlanText PlanReadFault). IfOk answer SaysVersioned) (same_Some (plan_of ms) (Ok text) e) (plan_of-versioned ms)

pub answered-versioned : (bytes : List ℕ) (result : Result PlanText PlanReadFault) → MatchResult result (λ text. Says bytes (Ok text)) (IsRefusedFor bytes) → IfOk result SaysVersioned
answered-versioned bytes (Ok text) h = says-versioned bytes text h
answered-versioned bytes (Err fault) h = tt
