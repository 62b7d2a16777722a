-- The checks and the values of a small module, computed by their definitions. The expected answers are those of the text:
--   module t (input clk, rst, ce, input signed [3:0] in_data, output out_valid, output signed [4:0] out_data);
--   reg signed [3:0] a; reg v; wire signed [4:0] y;
--   assign y = in_data + a; assign out_valid = v; assign out_data = y;
--   always @(posedge clk) if (rst) begin a <= 4'sh0; v <= 1'h0; end else if (ce) begin a <= in_data; v <= 1'h1; end
use Rattle.std.proofs.Common.{◌≡◌, ℕ, Bool, true, false, List, [], ◌∷◌, ◌++◌, Option, None, Some, refl}
use Rattle.std.specs.Prelude.{codes}
use Rattle.verilog_tree.specs.declared.tree.Signal.{Signal}
use Rattle.verilog_tree.specs.declared.tree.Kind.{Kind}
use Rattle.verilog_tree.specs.declared.tree.Kind.TheVariants.{Input, Output, Wire, Reg}
use Rattle.verilog_tree.specs.declared.tree.Op.TheVariants.{Add}
use Rattle.verilog_tree.specs.declared.tree.ShiftOp.TheVariants.{ArithRight}
use Rattle.verilog_tree.specs.declared.fault.ModuleFault.TheVariants.{Redeclared, Undeclared, PortShape, WrongKind, WidthOver, BadSelect, ManyDrivers, NoDriver}
use Rattle.verilog_tree.specs.Tree.{Tree, Name, Bit, Plain, Based, Binary, Shift, Not, Action, Block, When, Either, Give, no_action, action, Assignment, Design}
use Rattle.verilog_tree.specs.Meaning.{Shapes, assigned}
use Rattle.verilog_tree.specs.Checks.{early_fault, filter_face}

abbrev signal : ℕ → Kind → Bool → ℕ → Signal
signal name kind signed width = record { name = name; kind = kind; signed = signed; ranged = true; width = width; place = 0 }

abbrev bit : ℕ → Kind → Signal
bit name kind = record { name = name; kind = kind; signed = false; ranged = false; width = 1; place = 0 }

abbrev assign : ℕ → Tree → Assignment
assign target value = record { target = target; value = value }

abbrev clocked : Action
clocked =
    Either (Name 2) (Block (action (Give 7 (Based 4 true 0)) (action (Give 8 (Based 1 false 0)) no_action)))
    (When (Name 3) (Block (action (Give 7 (Name 4)) (action (Give 8 (Based 1 false 1)) no_action))))

-- the module with an output of this width, further names, declarations and assignments
abbrev worked : ℕ → List (List ℕ) → List Signal → List Assignment → Design
worked width names signals assigns = record {
  name = 0;
  names = codes "t" ∷ codes "clk" ∷ codes "rst" ∷ codes "ce" ∷ codes "in_data" ∷ codes "out_valid" ∷ codes "out_data" ∷ codes "a" ∷ codes "v" ∷ codes "y" ∷ names;
  signals = bit 1 Input ∷ bit 2 Input ∷ bit 3 Input ∷ signal 4 Input true 4 ∷ bit 5 Output ∷ signal 6 Output true width ∷ signal 7 Reg true 4 ∷ bit 8 Reg ∷ signal 9 Wire true 5 ∷ signals;
  assigns = assign 9 (Binary Add (Name 4) (Name 7)) ∷ assign 5 (Name 8) ∷ assign 6 (Name 9) ∷ assigns;
  blocks = clocked ∷ [];
}

passes : early_fault filter_face (worked 5 [] [] []) ≡ None
passes = refl

-- a second `reg v;`
redeclared : early_fault filter_face (worked 5 [] (bit 8 Reg ∷ []) []) ≡ Some (Redeclared (codes "v"))
redeclared = refl

-- `assign z = a;` without a declaration of z
undeclared : early_fault filter_face (worked 5 (codes "z" ∷ []) [] (assign 10 (Name 7) ∷ [])) ≡ Some (Undeclared (codes "z"))
undeclared = refl

-- `out_data` of 128 bits
port_shape : early_fault filter_face (worked 128 [] [] []) ≡ Some (PortShape (codes "out_data"))
port_shape = refl

-- `assign v = ce;`
wrong_kind : early_fault filter_face (worked 5 [] [] (assign 8 (Name 3) ∷ [])) ≡ Some (WrongKind (codes "v"))
wrong_kind = refl

-- `wire [128:0] z;`
width_over : early_fault filter_face (worked 5 (codes "z" ∷ []) (signal 10 Wire false 129 ∷ []) []) ≡ Some (WidthOver (codes "z"))
width_over = refl

-- `wire z; assign z = a[4];`
bad_select : early_fault filter_face (worked 5 (codes "z" ∷ []) (bit 10 Wire ∷ []) (assign 10 (Bit 7 4) ∷ [])) ≡ Some (BadSelect (codes "a"))
bad_select = refl

-- a second `assign y = a;`
many_drivers : early_fault filter_face (worked 5 [] [] (assign 9 (Name 7) ∷ [])) ≡ Some (ManyDrivers (codes "y"))
many_drivers = refl

-- `wire z;`
no_driver : early_fault filter_face (worked 5 (codes "z" ∷ []) (bit 10 Wire ∷ []) []) ≡ Some (NoDriver (codes "z"))
no_driver = refl

-- ---- values

-- all names are signed and have 9 bits
abbrev shapes : Shapes
shapes = record { width = λ n. 9; signed = λ n. true }

-- 8'shFF is -1, and 8'hFF is 255
signed_literal : assigned shapes (λ n. 0) 0 (Based 8 true 255) ≡ 511
signed_literal = refl

unsigned_literal : assigned shapes (λ n. 0) 0 (Based 8 false 255) ≡ 255
unsigned_literal = refl

-- `8'sh80 >>> 1` follows the sign of the whole context
signed_shift : assigned shapes (λ n. 0) 0 (Shift ArithRight (Based 8 true 128) 1) ≡ 448
signed_shift = refl

unsigned_shift : assigned shapes (λ n. 0) 0 (Binary Add (Shift ArithRight (Based 8 true 128) 1) (Based 8 false 0)) ≡ 64
unsigned_shift = refl

-- the complement is taken at the whole length
complement : assigned shapes (λ n. 0) 0 (Not (Based 4 false 0)) ≡ 511
complement = refl

-- a plain number has 32 bits and a sign
plain_sum : assigned shapes (λ n. 0) 0 (Binary Add (Plain 2147483647) (Plain 1)) ≡ 0
plain_sum = refl
