-- A printed plan reads as the plan.
use Rattle.std.proofs.Common.{◌≡◌, ◌∙◌, ℕ, suc, ◌+◌, ◌<◌, ◌≤◌, true, List, [], ◌∷◌, ◌++◌, length, take, get_or, ℤ, pos, ◌⊎◌, inl, inr, Some, None, option_map, Result, Ok, Err, String, Global, string_bytes, Ordering, Less, Equal, Greater, refl, sym, ap, subst, arith}
use Rattle.std.specs.Prelude.{IsUtf8, IfOk, Vec}
use Rattle.mr_values.specs.declared.memory.Memory.{Memory}
use Rattle.std.specs.Ordering.{match_ordering}
use Rattle.std.specs.String.{string_cmp}
use Rattle.std.specs.BTreeMap.{insert_entry}
use Rattle.toml.specs.Data.{integer, table, Items, item, Members, member, items_depth, members_depth, push_item}
use Rattle.toml.specs.Parse.{parse_document}
use Rattle.toml.specs.declared.value.Value.{Value}
use Rattle.toml.specs.View.{view, items_view, members_view}
use Rattle.toml.proofs.Views.{items_view-push}
use Rattle.std.proofs.lemmas.List.{take_more}
use Rattle.mr_values.specs.declared.plan.Element.{Element}
use Rattle.mr_values.specs.declared.plan.Element.TheVariants.{Up, Down, Filter, CicDown, CicUp, Round, Clip}
use Rattle.mr_values.specs.declared.plan.Form.TheVariants.{Parallel, Symmetric, HalfBand, Folded, Distributed}
use Rattle.mr_values.specs.declared.plan.Mode.TheVariants.{HalfUp, HalfEven, Floor}
use Rattle.mr_values.specs.declared.plan.Plan.{Plan}
use Rattle.mr_values.specs.Value.{IsFirst}
use Rattle.plan_reader.specs.Fields.{are_numbers, are_tables, numbers_of}
use Rattle.plan_reader.specs.Documents.{element_from, elements_from, version_of, plan_of, Says}
use Rattle.plan_reader.specs.Versions.{IsVersioned}
use Rattle.plan_reader.specs.Printed.{put_member, number_items, element_members, element_items, plan_members}

-- ---- a table in memory

by_order : (o : Ordering) (a b c : List (String Global × Value)) (x y z : Members) → members_view a ≡ x → members_view b ≡ y → members_view c ≡ z → members_view (match_ordering o a b c) ≡ match_ordering o x y z
by_order Less a b c x y z p q r = p
by_order Equal a b c x y z p q r = q
by_order Greater a b c x y z p q r = r

-- an insert into the map of a table
pub inserted : (k : String Global) (v : Value) (es : List (String Global × Value)) → members_view (insert_entry string_cmp es k v) ≡ put_member (string_bytes k) (view v) (members_view es)
inserted k v [] = refl
inserted k v (e ∷ es) = by_order (string_cmp k e.0) ((k, v) ∷ e ∷ es) ((e.0, v) ∷ es) (e ∷ insert_entry string_cmp es k v) _ _ _ refl refl (ap (member (string_bytes e.0) (view e.1)) (inserted k v es))

-- ---- reading it again

are_numbers-items : (taps : List ℤ) → are_numbers (number_items taps) ≡ true
are_numbers-items [] = refl
are_numbers-items (c ∷ cs) = are_numbers-items cs

numbers_of-items : (taps : List ℤ) → numbers_of (number_items taps) ≡ taps
numbers_of-items [] = refl
numbers_of-items (c ∷ cs) = ap (λ (xs : List ℤ). c ∷ xs) (numbers_of-items cs)

element-again : (version n : ℕ) (e : Element) → (version ≡ 2) ⊎ IsFirst e → element_from version n (element_members e) ≡ Ok (record { element = e; file = None })
element-again version n (Up factor) h = refl
element-again version n (Down factor) h = refl
element-again version n (Filter taps Parallel) h = rw (are_numbers-items taps, numbers_of-items taps) refl
element-again version n (Filter taps Symmetric) h = rw (are_numbers-items taps, numbers_of-items taps) refl
element-again version n (Filter taps HalfBand) h = rw (are_numbers-items taps, numbers_of-items taps) refl
element-again version n (Filter taps (Folded slots)) h = rw (are_numbers-items taps, numbers_of-items taps) refl
element-again version n (Filter taps (Distributed group)) h = rw (are_numbers-items taps, numbers_of-items taps) refl
element-again version n (CicDown factor stages delay) h = refl
element-again version n (CicUp factor stages delay) h = refl
element-again version n (Round shift HalfUp) h = refl
element-again version n (Round shift HalfEven) (inl second) = rw second refl
element-again version n (Round shift HalfEven) (inr first) = absurd first
element-again version n (Round shift Floor) h = refl
element-again version n (Clip bits) (inl second) = rw second refl
element-again version n (Clip bits) (inr first) = absurd first

head_versioned : (version : ℕ) (e : Element) (es : List Element) → IsVersioned version (e ∷ es) → (version ≡ 2) ⊎ IsFirst e
head_versioned version e es (inl second) = inl second
head_versioned version e es (inr first) = inr first.1.0

tail_versioned : (version : ℕ) (e : Element) (es : List Element) → IsVersioned version (e ∷ es) → IsVersioned version es
tail_versioned version e es (inl second) = inl second
tail_versioned version e es (inr first) = inr (first.0, first.1.1)

elements-again : (version n : ℕ) (es : List Element) → IsVersioned version es → elements_from version n (element_items es) ≡ Ok (record { elements = es; files = [] })
elements-again version n [] h = refl
elements-again version n (e ∷ es) h = rw (element-again version n e (head_versioned version e es h), elements-again version (suc n) es (tail_versioned version e es h)) refl

are_tables-items : (es : List Element) → are_tables (element_items es) ≡ true
are_tables-items [] = refl
are_tables-items (e ∷ es) = are_tables-items es

version-again : (version : ℕ) (es : List Element) → IsVersioned version es → version_of (pos version) ≡ Ok version
version-again version es (inl second) = rw second refl
version-again version es (inr first) = rw first.0 refl

plan-again : (version : ℕ) (plan : Plan) → IsVersioned version plan.elements → plan_of (plan_members version plan) ≡ Ok (record { version = version; plan = plan; files = [] })
plan-again version plan h = rw (version-again version plan.elements h, are_tables-items plan.elements, elements-again version 1 plan.elements h) refl

-- ---- how deep it is

numbers-flat : (taps : List ℤ) → items_depth (number_items taps) ≡ 0
numbers-flat [] = refl
numbers-flat (c ∷ cs) = rw (numbers-flat cs) refl

element-depth : (e : Element) → members_depth (element_members e) ≤ 1
element-depth (Up factor) = omega arith
element-depth (Down factor) = omega arith
element-depth (Filter taps Parallel) = rw (numbers-flat taps) (omega arith)
element-depth (Filter taps Symmetric) = rw (numbers-flat taps) (omega arith)
element-depth (Filter taps HalfBand) = rw (numbers-flat taps) (omega arith)
element-depth (Filter taps (Folded slots)) = rw (numbers-flat taps) (omega arith)
element-depth (Filter taps (Distributed group)) = rw (numbers-flat taps) (omega arith)
element-depth (CicDown factor stages delay) = omega arith
element-depth (CicUp factor stages delay) = omega arith
element-depth (Round shift mode) = omega arith
element-depth (Clip bits) = omega arith

elements-depth : (es : List Element) → items_depth (element_items es) ≤ 2
elements-depth [] = omega arith
elements-depth (e ∷ es) = omega (arith, element-depth e, elements-depth es)

pub plan-depth : (version : ℕ) (plan : Plan) → members_depth (plan_members version plan) ≤ 80
plan-depth version plan = omega (arith, elements-depth plan.elements)

-- what is printed says the plan
pub printed : (version : ℕ) (plan : Plan) (bytes : List ℕ) (ms : Members) → IsVersioned version plan.elements → IsUtf8 bytes → ms ≡ plan_members version plan → parse_document bytes ≡ Some ms
    → Says bytes (Ok (record { version = version; plan = plan; files = [] }))
printed version plan bytes ms versioned utf8 is parsed = record { text = utf8; says = ap (option_map plan_of) (parsed ∙ ap Some is) ∙ ap Some (plan-again version plan versioned) }

-- ---- arrays

number_items-push : (numbers : List ℤ) (number : ℤ) → number_items (numbers ++ number ∷ []) ≡ push_item (number_items numbers) (integer number)
number_items-push [] number = refl
number_items-push (c ∷ cs) number = ap (item (integer c)) (number_items-push cs number)

element_items-push : (es : List Element) (e : Element) → element_items (es ++ e ∷ []) ≡ push_item (element_items es) (table (element_members e))
element_items-push [] e = refl
element_items-push (f ∷ es) e = ap (item (table (element_members f))) (element_items-push es e)

-- one more number of an array
pub numbers-pushed : (values values' : List Value) (numbers : List ℤ) (i : ℕ) (d number : ℤ) (value : Value) → i < length numbers → items_view values ≡ number_items (take i numbers) → view value ≡ integer number → number ≡ get_or numbers i d
    → values' ≡ values ++ value ∷ [] → items_view values' ≡ number_items (take (i + 1) numbers)
numbers-pushed values values' numbers i d number value h so_far seen is pushed =
    ap items_view pushed ∙ items_view-push values value
    ∙ ap (λ (items : Items). push_item items (view value)) so_far
    ∙ ap (push_item (number_items (take i numbers))) (seen ∙ ap integer is)
    ∙ sym (number_items-push (take i numbers) (get_or numbers i d))
    ∙ ap number_items (sym (take_more numbers i d h))

-- one more element of an array
pub elements-pushed : (values values' : List Value) (elements : List Element) (i : ℕ) (d e : Element) (value : Value) → i < length elements → items_view values ≡ element_items (take i elements) → view value ≡ table (element_members e) → e ≡ get_or elements i d
    → values' ≡ values ++ value ∷ [] → items_view values' ≡ element_items (take (i + 1) elements)
elements-pushed values values' elements i d e value h so_far seen is pushed =
    ap items_view pushed ∙ items_view-push values value
    ∙ ap (λ (items : Items). push_item items (view value)) so_far
    ∙ ap (push_item (element_items (take i elements))) (seen ∙ ap (λ (x : Element). table (element_members x)) is)
    ∙ sym (element_items-push (take i elements) (get_or elements i d))
    ∙ ap element_items (sym (take_more elements i d h))

-- what is handed out says the plan
pub printed-copied : (version : ℕ) (plan : Plan) (result : Result (Vec ℕ Global) Memory) (shown bytes : List ℕ) (ms : Members) → IsVersioned version plan.elements → IfOk result (λ v. v.items ≡ shown) → shown ≡ bytes → IsUtf8 shown
    → ms ≡ plan_members version plan → (members_depth ms ≤ 80 → parse_document bytes ≡ Some ms) → IfOk result (λ v. Says v.items (Ok (record { version = version; plan = plan; files = [] })))
printed-copied version plan (Err memory) shown bytes ms versioned copy same utf8 is reads = tt
printed-copied version plan (Ok v) shown bytes ms versioned copy same utf8 is reads =
    let shallow : members_depth ms ≤ 80 = subst (λ (m : Members). members_depth m ≤ 80) (sym is) (plan-depth version plan) in
    let parsed : parse_document shown ≡ Some ms = ap parse_document same ∙ reads shallow in
    subst (λ (text : List ℕ). Says text (Ok (record { version = version; plan = plan; files = [] }))) (sym copy) (printed version plan shown ms versioned utf8 is parsed)
