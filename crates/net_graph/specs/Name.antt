-- The names of nodes, and which nodes are control.
use Rattle.std.specs.Prelude.{◌≡◌, ℕ, ◌≤◌, List, [], ◌++◌, Bool, true, false, not, ◌&&◌, nat_eq, codes, Option, Some, None}
use Rattle.std.specs.Fmt.{decimal}
use Rattle.net_graph.specs.declared.cell.Cell.{Cell}
use Rattle.net_graph.specs.declared.cell.Item.{Item}
use Rattle.net_graph.specs.declared.cell.Item.TheVariants.{Input}
use Rattle.net_graph.specs.declared.name.Name.{Name}
use Rattle.net_graph.specs.declared.name.NameKind.{NameKind}
use Rattle.net_graph.specs.declared.name.NameKind.TheVariants.{Control, Window, Copy, PreAdder, Register, Table, Output, Valid}

-- `ctl_` and a number
abbrev pub control_name : ℕ → List ℕ
control_name number = codes "ctl_" ++ decimal number

-- `s`, a group, what stands for a kind, and a number
abbrev pub group_name : ℕ → List ℕ → ℕ → List ℕ
group_name group kind number = codes "s" ++ (decimal group ++ (kind ++ decimal number))

-- how a name of this kind, group and number is written; the node shown as `out_valid` is written as one without a name
abbrev pub written : NameKind → ℕ → ℕ → List ℕ
written Control group number = control_name number
written Window group number = group_name group (codes "_w") number
written Copy group number = group_name group (codes "_v") number
written PreAdder group number = group_name group (codes "_p") number
written Register group number = group_name group (codes "_a") number
written Table group number = group_name group (codes "_t") number
written Output group number = codes "out_q"
written Valid group number = []

abbrev pub written_name : Name → List ℕ
written_name name = written name.kind name.group name.number

-- a register of control is of group 0, one of a stage of that stage's group, and there is one `out_q`
abbrev pub IsRegisterKind : NameKind → ℕ → ℕ → Type 0
IsRegisterKind Control group number = group ≡ 0
IsRegisterKind Window group number = 1 ≤ group
IsRegisterKind Copy group number = 1 ≤ group
IsRegisterKind PreAdder group number = 1 ≤ group
IsRegisterKind Register group number = 1 ≤ group
IsRegisterKind Table group number = ⊥
IsRegisterKind Output group number = (group ≡ 0) × (number ≡ 0)
IsRegisterKind Valid group number = ⊥

-- a name that a register can have
abbrev pub IsRegisterName : Name → Type 0
IsRegisterName name = IsRegisterKind name.kind name.group name.number

-- tables are of a stage's group, and there is one node shown as `out_valid`
abbrev pub IsWireKind : NameKind → ℕ → ℕ → Type 0
IsWireKind Control group number = ⊥
IsWireKind Window group number = ⊥
IsWireKind Copy group number = ⊥
IsWireKind PreAdder group number = ⊥
IsWireKind Register group number = ⊥
IsWireKind Table group number = 1 ≤ group
IsWireKind Output group number = ⊥
IsWireKind Valid group number = (group ≡ 0) × (number ≡ 0)

-- a name that another node can have
abbrev pub IsWireName : Name → Type 0
IsWireName name = IsWireKind name.kind name.group name.number

-- whether a node with a name of this kind, made in this group, is written `ctl_` and more
abbrev pub is_control_kind : NameKind → ℕ → Bool
is_control_kind Control group = true
is_control_kind Window group = false
is_control_kind Copy group = false
is_control_kind PreAdder group = false
is_control_kind Register group = false
is_control_kind Table group = false
is_control_kind Output group = false
is_control_kind Valid group = nat_eq group 0

-- a node without a name is written by its group and a number: `ctl_n` in group 0, else `sJ_n`
abbrev pub is_control_name : Option Name → ℕ → Bool
is_control_name None group = nat_eq group 0
is_control_name (Some name) group = is_control_kind name.kind group

abbrev pub is_input : Option Item → Bool
is_input (Some Input) = true
is_input _ = false

-- A node is control where its written name begins `ctl_`. The input is written as the port `in_data`.
abbrev pub is_control : Cell → Bool
is_control cell = is_control_name cell.name cell.group && not (is_input cell.item)
