-- Each cycle of a run has settled values.
use Rattle.std.proofs.Common.{◌≡◌, ℕ, zero, suc, List, [], ◌∷◌, Some, slice_get, ◌∙◌, sym, ap, subst}
use Rattle.verilog_tree.specs.Meaning.{Values}
use Rattle.verilog_tree.specs.Circuit.{Circuit, Input, IsSettled, IsRun, next}

same_values : (v w : Values) → Some v ≡ Some w → v ≡ w
same_values v w e = cc

none_there : (j : ℕ) (now : Values) → slice_get {X = Values} [] j ≡ Some now → ⊥
none_there j now e = cc

pub settled_in : (c : Circuit) (content : Values) (cycles : List (List Input)) (settled : List Values) → IsRun c content cycles settled → (j : ℕ) (now : Values) → slice_get settled j ≡ Some now → IsSettled c now
settled_in c content [] settled is j now at = absurd (none_there j now (sym (ap (λ (vs : List Values). slice_get vs j) is) ∙ at))
settled_in c content (inputs ∷ cycles) settled (values, rest, is, settling, later) zero now at =
    subst (IsSettled c) (same_values values now (sym (ap (λ (vs : List Values). slice_get vs 0) is) ∙ at)) settling.settled
settled_in c content (inputs ∷ cycles) settled (values, rest, is, settling, later) (suc j) now at =
    settled_in c (next c values) cycles rest later j now (sym (ap (λ (vs : List Values). slice_get vs (suc j)) is) ∙ at)
