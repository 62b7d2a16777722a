-- What a file of samples has room for.
use Rattle.std.specs.Prelude.{◌≡◌, ◌==◌, ℕ, ℤ, ◌+◌, ◌≤◌, ◌<◌, ◌^◌, List, length, not, true}
use Rattle.std.specs.List.{list_all}

-- the name stands in one line that isn't too long, and there are fewer lines than a file may have
pub record HasRoom (register : List ℕ) (samples : List ℤ) : Type 0 where
  pub one : list_all (λ byte. not (byte == 10)) register ≡ true
  pub short : length register ≤ 3968
  pub few : length samples + 1 < 2 ^ 32
