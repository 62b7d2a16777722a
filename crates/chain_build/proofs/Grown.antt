-- Nets that grow, and the names that stay free.
use Rattle.std.proofs.Common.{◌≡◌, ℕ, List, length, refl, sym, ◌∙◌, ap, arith, inl, inr, slice_get}
use Rattle.std.proofs.lemmas.Bool.{cases_lt}
use Rattle.std.proofs.lemmas.Option.{slice_get_within}
use Rattle.net_graph.specs.declared.cell.Cell.{Cell}
use Rattle.net_graph.specs.declared.name.Name.{Name}
use Rattle.net_graph.specs.declared.name.NameKind.{NameKind}
use Rattle.net_graph.specs.declared.name.NameKind.TheVariants.{Control, Window, Copy, PreAdder, Register as Other, Table, Output, Valid}
use Rattle.net_graph.specs.Cells.{NetView, cell_at}
use Rattle.net_graph.specs.Grow.{Lengthens, Grows}
use Rattle.net_graph.specs.Name.{is_input}
use Rattle.net_graph.specs.WellFormed.{IsFree}
use Rattle.net_graph.proofs.CellLemmas.{cell_at-there, same_cell}
use Rattle.net_graph.proofs.GrowLemmas.{lengthened}
use Rattle.net_graph.proofs.NetLemmas.{Extends-refl, Extends-trans}
use Rattle.pipeline_balance.specs.Numbered.{name_of}
use Rattle.stage_law.specs.Realises.{IsFreeIn}
use Rattle.chain_build.specs.Added.{IsGrown}

pub IsGrown-refl : (cells : List Cell) → IsGrown cells cells
IsGrown-refl cells = record {
  extends = Extends-refl cells;
  bound = λ b. b;
  closed = λ c. c;
  no_input = λ place cell after there. absurd (let within = slice_get_within cells place cell there in omega arith);
}

pub IsGrown-lengthens : {old new : NetView} → Lengthens old new → IsGrown old.cells new.cells
IsGrown-lengthens g = record { extends = g.extends; bound = g.bound; closed = g.closed; no_input = λ place cell after there. (g.added place cell after there).no_input }

pub IsGrown-grows : {old new : NetView} → Grows old new → IsGrown old.cells new.cells
IsGrown-grows g = IsGrown-lengthens (lengthened g)

pub IsGrown-trans : (a b c : List Cell) → IsGrown a b → IsGrown b c → IsGrown a c
IsGrown-trans a b c p q = record {
  extends = Extends-trans a b c p.extends q.extends;
  bound = λ before. q.bound (p.bound before);
  closed = λ before. q.closed (p.closed before);
  no_input = λ place cell after there. elim (cases_lt place (length b)) [
    | inl less ↦
        let was = cell_at b place in
        let here = cell_at-there b place less in
        let kept = q.extends.keeps place was here in
        let is : kept.cell ≡ cell = same_cell kept.cell cell (slice_get c place) kept.there there in
        sym (ap (λ (x : Cell). is_input x.item) is) ∙ kept.input ∙ p.no_input place was after here
    | inr more ↦ q.no_input place cell more there
  ];
}

-- ---- names of a group that are free

-- where all names of the group but those of control are free, none is taken
pub free_in : (cells : List Cell) (group : ℕ) → ((name : Name) → (name.kind ≡ Control → ⊥) → name.group ≡ group → IsFree cells name) → (kind : NameKind) (number : ℕ) → IsFreeIn cells group kind number
free_in cells group free Control number = tt
free_in cells group free Window number = free (name_of group Window number) (λ e. absurd (cc)) refl
free_in cells group free Copy number = free (name_of group Copy number) (λ e. absurd (cc)) refl
free_in cells group free PreAdder number = free (name_of group PreAdder number) (λ e. absurd (cc)) refl
free_in cells group free Other number = free (name_of group Other number) (λ e. absurd (cc)) refl
free_in cells group free Table number = free (name_of group Table number) (λ e. absurd (cc)) refl
free_in cells group free Output number = free (name_of group Output number) (λ e. absurd (cc)) refl
free_in cells group free Valid number = free (name_of group Valid number) (λ e. absurd (cc)) refl
