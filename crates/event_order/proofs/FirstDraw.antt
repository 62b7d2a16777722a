-- A drawn list worked by hand. The assignments of a text with one tap: `s1_n0` reads a register, `ctl_n1` and `ctl_n2` read the counter, `ctl_n3` reads
-- the counter and both of these, `out_valid` reads `ctl_n1`, and `out_data` reads a register. In state 0 the first draw is 167951807, which is 3 modulo
-- 4, and of the four that may come first `out_data` is number 3.
use Rattle.std.proofs.Common.{◌≡◌, ◌||◌, [], ◌∷◌, refl}
use Rattle.std.specs.Prelude.{◌==◌}
use Rattle.verilog_tree.specs.Circuit.{Circuit}
use Rattle.event_order.specs.Drawn.{drawn_places, evaluations}

-- the registers are 0 to 3 (two of the window, the output and the counter), the wires 4 to 9
abbrev circuit : Circuit
circuit = record {
  drivers = record { target = 4; reads = λ n. n == 1; value = λ v. 0 } ∷ record { target = 5; reads = λ n. n == 3; value = λ v. 0 } ∷ record { target = 6; reads = λ n. n == 3; value = λ v. 0 }
      ∷ record { target = 7; reads = λ n. n == 5 || (n == 3 || n == 6); value = λ v. 0 } ∷ record { target = 8; reads = λ n. n == 5; value = λ v. 0 } ∷ record { target = 9; reads = λ n. n == 2; value = λ v. 0 } ∷ [];
  processes = [];
}

pub first_drawn : drawn_places (evaluations circuit) 0 1 ≡ 5 ∷ []
first_drawn = refl
