-- Which names a module declares, and how.
use Rattle.std.specs.Prelude.{◌≡◌, ℕ, ◌≤◌, true, false, List, Some, slice_get, codes}
use Rattle.net_graph.specs.declared.name.Name.{Name}
use Rattle.net_graph.specs.Name.{IsRegisterName, written_name}
use Rattle.verilog_tree.specs.declared.tree.Kind.TheVariants.{Reg}
use Rattle.verilog_tree.specs.declared.tree.Signal.{Signal}
use Rattle.verilog_tree.specs.Tree.{Design}
use Rattle.verilog_tree.specs.Checks.{is_port, port_names}
use Rattle.verilog_tree.specs.Names.{text_of, kind_of, is_control, is_in_group}

-- a port, the output register, a name that begins `ctl_`, or one that begins with `s`, a group from 1 to `count` and `_`
pub data IsNameOf (count : ℕ) (text : List ℕ) : Type 0 where
  of_port : (k : ℕ) → slice_get port_names k ≡ Some text → IsNameOf count text
  of_output : text ≡ codes "out_q" → IsNameOf count text
  of_control : is_control text ≡ true → IsNameOf count text
  of_group : (group : ℕ) → 1 ≤ group → group ≤ count → is_in_group group text ≡ true → IsNameOf count text

-- The text is that of a register: `ctl_` and a number; `s`, a group from 1 to `count`, `_w`, `_v`, `_p` or `_a`, and a number; or `out_q`.
pub record IsRegisterText (count : ℕ) (text : List ℕ) : Type 0 where
  pub name : Name
  pub named : IsRegisterName name
  pub low : name.group ≤ count
  pub written : text ≡ written_name name

-- The module is called `mr_filter`. Each declared name is one of these, each register is named as one, and all wires and registers are signed.
pub record HasNames (count : ℕ) (d : Design) : Type 0 where
  pub own : text_of d d.name ≡ codes "mr_filter"
  pub each : (k : ℕ) (s : Signal) → slice_get d.signals k ≡ Some s → IsNameOf count (text_of d s.name)
  pub registers : (name : ℕ) → kind_of d name ≡ Some Reg → IsRegisterText count (text_of d name)
  pub signed : (k : ℕ) (s : Signal) → slice_get d.signals k ≡ Some s → is_port s.kind ≡ false → s.signed ≡ true
