-- What a reader of lines keeps.
use Rattle.std.specs.Prelude.{◌≡◌, ◌≤◌, ◌==◌, ◌^◌, ◌<◌, ℕ, true, not, List, length, take}
use Rattle.std.specs.List.{list_all}

-- bytes without LF
pub record IsOneLine (bytes : List ℕ) : Type 0 where
  pub each : list_all (λ byte. not (byte == 10)) bytes ≡ true

-- there is room for a line of 4,096 bytes and a CR, and what is kept is of one line
pub record IsKept (ended : ℕ) (room : List ℕ) (held : ℕ) : Type 0 where
  pub size : length room ≡ 4097
  pub within : held ≤ 4097
  pub one : IsOneLine (take held room)
  pub few : ended < 2 ^ 32
