-- One more assignment is placed.
use Rattle.std.proofs.Common.{◌≡◌, ℕ, Bool, true, false, List, [], ◌∷◌, ◌++◌, Some, set, slice_get, sym, subst}
use Rattle.verilog_tree.specs.Tree.{Assignment, Design}
use Rattle.verilog_tree.specs.Names.{shapes_of}
use Rattle.verilog_tree.specs.Cycle.{circuit_of, driver_of, IsDrivenOnce}
use Rattle.verilog_tree.proofs.OneSettling.{circuit_sound}
use Rattle.settle_order.specs.Placing.{reads_open, opened_of, IsPlaced}
use Rattle.settle_order.proofs.Opened.{flags_closed, open_within, reads_open_tells}
use Rattle.settle_order.proofs.Placing.{place_one}
use Rattle.settle_order.proofs.Turns.{driver_at}

pub placed_next : (m : Design) → IsDrivenOnce m → (flags : List Bool) (order : List ℕ) (place : ℕ) (a : Assignment) → IsPlaced (circuit_of m) (opened_of flags) order → slice_get m.assigns place ≡ Some a
    → opened_of flags a.target ≡ true → reads_open (opened_of flags) a.value ≡ false → IsPlaced (circuit_of m) (opened_of (set flags a.target false)) (order ++ place ∷ [])
placed_next m once flags order place a h here is_open ready =
    subst (λ (o : ℕ → Bool). IsPlaced (circuit_of m) o (order ++ place ∷ [])) (sym (flags_closed flags a.target (open_within flags a.target is_open)))
    (place_one (circuit_of m) (circuit_sound m once) (opened_of flags) order place (driver_of (shapes_of m) a) h (driver_at m place a here) is_open
    ((reads_open_tells (opened_of flags) a.value).none ready))
