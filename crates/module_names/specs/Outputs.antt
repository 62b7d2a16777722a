-- The statements that drive the outputs.
use Rattle.std.specs.Prelude.{◌≡◌, ℕ, Bool, ◌||◌, List, codes, bytes_eq}
use Rattle.verilog_tree.specs.Counted.{adders_of}
use Rattle.verilog_tree.specs.Names.{text_of}
use Rattle.verilog_tree.specs.Tree.{Design}

-- the output register or one of the outputs
abbrev pub is_output : List ℕ → Bool
is_output text = bytes_eq (codes "out_q") text || (bytes_eq (codes "out_data") text || bytes_eq (codes "out_valid") text)

-- the statements that drive `out_q`, `out_data` and `out_valid` hold no `+` and no `-`
pub record HasPlainOutputs (d : Design) : Type 0 where
  pub none : adders_of d (λ n. is_output (text_of d n)) ≡ 0
