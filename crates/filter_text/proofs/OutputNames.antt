-- The names of the output and of the shown bit.
use Rattle.std.proofs.Common.{◌≡◌, ℕ, true, Option, Some, None, refl, ap}
use Rattle.net_graph.specs.declared.cell.Item.{Item}
use Rattle.net_graph.specs.declared.cell.Item.TheVariants.{Input, Constant, Add, Sub, Shl, Shr, Mux, Equal, Bits, Register}
use Rattle.net_graph.specs.declared.name.Name.{Name}
use Rattle.net_graph.specs.declared.name.NameKind.{NameKind}
use Rattle.net_graph.specs.declared.name.NameKind.TheVariants.{Control, Window, Copy, PreAdder, Register as Other, Table, Output, Valid}
use Rattle.net_graph.specs.WellFormed.{IsNamed}
use Rattle.net_module.specs.Written.{has_kind, is_output_kind, is_valid_kind}
use Rattle.pipeline_balance.specs.Numbered.{name_of}

output_named : (group number : ℕ) (item : Option Item) → IsNamed (Some (name_of group Output number)) item → name_of group Output number ≡ name_of 0 Output 0
output_named group number None h = rw (h.0, h.1) refl
output_named group number (Some (Register next)) h = rw (h.0, h.1) refl
output_named group number (Some Input) h = absurd h
output_named group number (Some (Constant v)) h = absurd h
output_named group number (Some (Add a b)) h = absurd h
output_named group number (Some (Sub a b)) h = absurd h
output_named group number (Some (Shl a by)) h = absurd h
output_named group number (Some (Shr a by)) h = absurd h
output_named group number (Some (Mux on a b)) h = absurd h
output_named group number (Some (Equal a b)) h = absurd h
output_named group number (Some (Bits a high low)) h = absurd h

valid_named : (group number : ℕ) (item : Option Item) → IsNamed (Some (name_of group Valid number)) item → name_of group Valid number ≡ name_of 0 Valid 0
valid_named group number None h = absurd h
valid_named group number (Some (Register next)) h = absurd h
valid_named group number (Some Input) h = rw (h.0, h.1) refl
valid_named group number (Some (Constant v)) h = rw (h.0, h.1) refl
valid_named group number (Some (Add a b)) h = rw (h.0, h.1) refl
valid_named group number (Some (Sub a b)) h = rw (h.0, h.1) refl
valid_named group number (Some (Shl a by)) h = rw (h.0, h.1) refl
valid_named group number (Some (Shr a by)) h = rw (h.0, h.1) refl
valid_named group number (Some (Mux on a b)) h = rw (h.0, h.1) refl
valid_named group number (Some (Equal a b)) h = rw (h.0, h.1) refl
valid_named group number (Some (Bits a high low)) h = rw (h.0, h.1) refl

-- the only name of the output's kind
output_by : (kind : NameKind) (group number : ℕ) (item : Option Item) → IsNamed (Some (name_of group kind number)) item → is_output_kind kind ≡ true → name_of group kind number ≡ name_of 0 Output 0
output_by Output group number item h is = output_named group number item h
output_by Control group number item h is = absurd (cc)
output_by Window group number item h is = absurd (cc)
output_by Copy group number item h is = absurd (cc)
output_by PreAdder group number item h is = absurd (cc)
output_by Other group number item h is = absurd (cc)
output_by Table group number item h is = absurd (cc)
output_by Valid group number item h is = absurd (cc)

valid_by : (kind : NameKind) (group number : ℕ) (item : Option Item) → IsNamed (Some (name_of group kind number)) item → is_valid_kind kind ≡ true → name_of group kind number ≡ name_of 0 Valid 0
valid_by Valid group number item h is = valid_named group number item h
valid_by Control group number item h is = absurd (cc)
valid_by Window group number item h is = absurd (cc)
valid_by Copy group number item h is = absurd (cc)
valid_by PreAdder group number item h is = absurd (cc)
valid_by Other group number item h is = absurd (cc)
valid_by Table group number item h is = absurd (cc)
valid_by Output group number item h is = absurd (cc)

pub output_name : (name : Option Name) (item : Option Item) → IsNamed name item → has_kind is_output_kind name ≡ true → name ≡ Some (name_of 0 Output 0)
output_name None item h is = absurd (cc)
output_name (Some name) item h is = ap Some (output_by name.kind name.group name.number item h is)

pub valid_name : (name : Option Name) (item : Option Item) → IsNamed name item → has_kind is_valid_kind name ≡ true → name ≡ Some (name_of 0 Valid 0)
valid_name None item h is = absurd (cc)
valid_name (Some name) item h is = ap Some (valid_by name.kind name.group name.number item h is)
