-- The elements of a plan, one after another.
use Rattle.std.proofs.Common.{◌≡◌, ◌∙◌, ℕ, suc, ◌+◌, ◌<◌, List, [], ◌∷◌, ◌++◌, length, drop, get_or, Result, Ok, Err, refl, sym, ap, arith, append_assoc}
use Rattle.toml.specs.Data.{Items, as_table}
use Rattle.toml.specs.declared.value.Value.{Value}
use Rattle.toml.specs.View.{view, items_view}
use Rattle.toml.proofs.Views.{items_view-drop}
use Rattle.mr_values.specs.declared.plan.Element.{Element}
use Rattle.plan_reader.specs.declared.fault.PlanReadFault.{PlanReadFault}
use Rattle.plan_reader.specs.declared.plan_texts.TapFile.{TapFile}
use Rattle.plan_reader.specs.declared.document.ReadElement.{ReadElement}
use Rattle.plan_reader.specs.Documents.{ReadElements, element_value, elements_from, file_list, joined}

-- what was read, before what is left
abbrev pub behind : List Element → List TapFile → Result ReadElements PlanReadFault → Result ReadElements PlanReadFault
behind elements files (Ok rest) = Ok (record { elements = elements ++ rest.elements; files = files ++ rest.files })
behind elements files (Err fault) = Err fault

pub behind-none : (rest : Result ReadElements PlanReadFault) → behind [] [] rest ≡ rest
behind-none (Ok rest) = refl
behind-none (Err fault) = refl

behind-joined : (elements : List Element) (files : List TapFile) (number : ℕ) (read : ReadElement) (rest : Result ReadElements PlanReadFault)
    → behind elements files (joined number (Ok read) rest) ≡ behind (elements ++ read.element ∷ []) (files ++ file_list number read.file) rest
behind-joined elements files number read (Ok rest) = rw (append_assoc elements (read.element ∷ []) rest.elements, append_assoc files (file_list number read.file) rest.files) refl
behind-joined elements files number read (Err fault) = refl

-- one more element
pub element-read : (elements elements' : List Element) (files files' : List TapFile) (version i : ℕ) (values : List Value) (d : Value) (read : ReadElement) (all : Result ReadElements PlanReadFault) → i < length values
    → element_value version (i + 1) (as_table (view (get_or values i d))) ≡ Ok read
    → behind elements files (elements_from version (i + 1) (items_view (drop i values))) ≡ all
    → elements' ≡ elements ++ read.element ∷ [] → files' ≡ files ++ file_list (i + 1) read.file
    → behind elements' files' (elements_from version (i + 1 + 1) (items_view (drop (i + 1) values))) ≡ all
element-read elements elements' files files' version i values d read all h is whole es fs =
    ap (λ (n : ℕ). behind elements' files' (elements_from version n (items_view (drop (i + 1) values)))) (omega arith)
    ∙ ap (λ (xs : List Element). behind xs files' (elements_from version (suc (i + 1)) (items_view (drop (i + 1) values)))) es
    ∙ ap (λ (ys : List TapFile). behind (elements ++ read.element ∷ []) ys (elements_from version (suc (i + 1)) (items_view (drop (i + 1) values)))) fs
    ∙ sym (behind-joined elements files (i + 1) read (elements_from version (suc (i + 1)) (items_view (drop (i + 1) values))))
    ∙ ap (λ (first : Result ReadElement PlanReadFault). behind elements files (joined (i + 1) first (elements_from version (suc (i + 1)) (items_view (drop (i + 1) values))))) (sym is)
    ∙ ap (λ (items : Items). behind elements files (elements_from version (i + 1) items)) (sym (items_view-drop values i d h))
    ∙ whole

-- the first wrong element
pub element-refused : (elements : List Element) (files : List TapFile) (version i : ℕ) (values : List Value) (d : Value) (fault : PlanReadFault) (all : Result ReadElements PlanReadFault) → i < length values
    → element_value version (i + 1) (as_table (view (get_or values i d))) ≡ Err fault
    → behind elements files (elements_from version (i + 1) (items_view (drop i values))) ≡ all
    → all ≡ Err fault
element-refused elements files version i values d fault all h is whole =
    sym whole
    ∙ ap (λ (items : Items). behind elements files (elements_from version (i + 1) items)) (items_view-drop values i d h)
    ∙ ap (λ (first : Result ReadElement PlanReadFault). behind elements files (joined (i + 1) first (elements_from version (suc (i + 1)) (items_view (drop (i + 1) values))))) is
