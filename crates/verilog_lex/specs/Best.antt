-- The longest front that a reading takes.
use Rattle.std.specs.Prelude.{◌≡◌, ℕ, ◌<◌, ◌≤◌, List, length, take, Option, Some, None}
use Rattle.verilog_text.specs.Lexer.{Piece}

-- the first n bytes are read as the piece, and no longer front is read
pub record IsBest (reading : List ℕ → Option Piece) (bytes : List ℕ) (n : ℕ) (piece : Piece) : Type 0 where
  pub within : n ≤ length bytes
  pub is : reading (take n bytes) ≡ Some piece
  pub longest : (m : ℕ) → n < m → m ≤ length bytes → reading (take m bytes) ≡ None

-- no front is read
pub record IsNever (reading : List ℕ → Option Piece) (bytes : List ℕ) : Type 0 where
  pub none : (m : ℕ) → m ≤ length bytes → reading (take m bytes) ≡ None

-- no front longer than this is read
pub record IsNoLonger (reading : List ℕ → Option Piece) (bytes : List ℕ) (n : ℕ) : Type 0 where
  pub none : (m : ℕ) → n < m → m ≤ length bytes → reading (take m bytes) ≡ None
