-- Signed whole numbers of a width, and their bit patterns: two's complement. Division that rounds down.
use Rattle.std.specs.Prelude.{ℕ, zero, suc, nat_eq, ◌+◌, ◌-◌, ◌/◌, ◌%◌, ◌≤◌, ◌^◌, ℤ, pos, negsuc, neg_ℤ, ◌-ℤ◌, ◌≤ℤ◌, ◌<ℤ◌, nat_lt, if◌then◌else◌}

-- v is a number of w bits in two's complement
pub record FitsWidth (w : ℕ) (v : ℤ) : Type 0 where
  pub low : neg_ℤ (pos (2 ^ (w - 1))) ≤ℤ v
  pub high : v <ℤ pos (2 ^ (w - 1))

-- v modulo 2 ^ w: the bits of v, of which the lowest w are kept
unfoldable pub pattern : ℕ → ℤ → ℕ
pattern w (pos n) = n % 2 ^ w
pattern w (negsuc n) = 2 ^ w - 1 - n % 2 ^ w

-- the number that w bits stand for in two's complement
unfoldable pub signed : ℕ → ℕ → ℤ
signed w n = if nat_lt n (2 ^ (w - 1)) then pos n else (pos n -ℤ pos (2 ^ w))

-- the number of w bits that equals v modulo 2 ^ w
abbrev pub wrap : ℕ → ℤ → ℤ
wrap w v = signed w (pattern w v)

-- w bits extended to l bits by repeating the top bit
unfoldable pub extended : ℕ → ℕ → ℕ → ℕ
extended w l n = if nat_lt n (2 ^ (w - 1)) then n else n + (2 ^ l - 2 ^ w)

-- a bit that is set has the value -1
abbrev pub set_bit : ℤ
set_bit = negsuc 0

-- the bit that tells whether two numbers are equal
abbrev pub equal_bit : ℤ → ℤ → ℤ
equal_bit (pos a) (pos b) = if nat_eq a b then set_bit else pos 0
equal_bit (pos a) (negsuc b) = pos 0
equal_bit (negsuc a) (pos b) = pos 0
equal_bit (negsuc a) (negsuc b) = if nat_eq a b then set_bit else pos 0

-- the first number where `on` isn't 0, else the second
abbrev pub chosen : ℤ → ℤ → ℤ → ℤ
chosen (pos zero) a b = b
chosen (pos (suc n)) a b = a
chosen (negsuc n) a b = a

-- v divided by d, rounded down
abbrev pub floor_quotient : ℤ → ℕ → ℤ
floor_quotient (pos a) d = pos (a / d)
floor_quotient (negsuc a) d = negsuc (a / d)

-- v modulo d, which is not negative
abbrev pub floor_remainder : ℤ → ℕ → ℕ
floor_remainder (pos a) d = a % d
floor_remainder (negsuc a) d = d - 1 - a % d

-- w is the least number of bits, at least 1, that holds both
pub record IsLeastWidth (low high : ℤ) (w : ℕ) : Type 0 where
  pub positive : 1 ≤ w
  pub most : w ≤ 128
  pub holds_low : FitsWidth w low
  pub holds_high : FitsWidth w high
  pub least : (v : ℕ) → 1 ≤ v → FitsWidth v low → FitsWidth v high → w ≤ v
