-- Modules whose data is taken and given by ready and valid.
use Rattle.std.specs.Prelude.{true, false, [], ◌∷◌, codes}
use Rattle.verilog_tree.specs.Checks.{Face}

-- the ports of such a module: a side offers data by its `valid`, and the other takes it by its `ready`
abbrev pub stream_face : Face
stream_face =
    record { text = codes "clk"; input = true; bit = true } ∷ record { text = codes "rst"; input = true; bit = true }
    ∷ record { text = codes "in_valid"; input = true; bit = true } ∷ record { text = codes "in_ready"; input = false; bit = true } ∷ record { text = codes "in_data"; input = true; bit = false }
    ∷ record { text = codes "out_valid"; input = false; bit = true } ∷ record { text = codes "out_ready"; input = true; bit = true } ∷ record { text = codes "out_data"; input = false; bit = false } ∷ []
