-- How far back the responses of a chain reach.
use Rattle.std.specs.Prelude.{ℕ, ◌+◌, ◌-◌, ◌*◌, ◌<◌, ◌≤◌, List, [], ◌∷◌, length, ℤ, pos, ◌+ℤ◌, ◌-ℤ◌, ◌*ℤ◌, ◌≤ℤ◌}
use Rattle.mr_values.specs.declared.plan.Element.{Element}
use Rattle.mr_values.specs.declared.plan.Element.TheVariants.{Up, Down, Filter, CicDown, CicUp, Round, Clip}
use Rattle.mr_values.specs.Value.{size}
use Rattle.mr_values.specs.Timing.{ceil_div}
use Rattle.impulse_phase.specs.Response.{Responses}

-- Index n stands at n * down / up samples. Responses read nothing that is later, and at most slack / up samples before.
pub record HasReach (f : Responses) (up down slack : ℕ) : Type 0 where
  pub newest : (n : ℤ) → ((f n).newest *ℤ pos up) ≤ℤ (n *ℤ pos down)
  pub oldest : (n : ℤ) → 0 < length (f n).weights → (n *ℤ pos down) ≤ℤ (((f n).newest -ℤ pos (length (f n).weights)) *ℤ pos up +ℤ pos slack)

pub record Extent : Type 0 where
  pub up : ℕ
  pub down : ℕ
  pub slack : ℕ
  pub reach : ℕ

abbrev pub extent_up : ℕ → Extent → Extent
extent_up factor p = record { up = p.up * factor; down = p.down; slack = p.slack * factor; reach = p.reach }

abbrev pub extent_down : ℕ → Extent → Extent
extent_down factor p = record { up = p.up; down = factor * p.down; slack = p.slack; reach = p.reach }

-- so many indices more
abbrev pub extent_back : ℕ → Extent → Extent
extent_back taps p = record { up = p.up; down = p.down; slack = p.slack + taps * p.down; reach = p.reach + ceil_div (taps * p.down) p.up }

abbrev pub extent_after : Element → Extent → Extent
extent_after (Up factor) p = extent_up (size factor) p
extent_after (Down factor) p = extent_down (size factor) p
extent_after (Filter taps form) p = extent_back (length taps - 1) p
extent_after (CicDown factor stages delay) p = extent_down (size factor) (extent_back (size stages * (size factor * size delay - 1)) p)
extent_after (CicUp factor stages delay) p = extent_back (size stages * (size factor * size delay - 1)) (extent_up (size factor) p)
extent_after (Round shift mode) p = p
extent_after (Clip bits) p = p

abbrev pub extent_after_all : List Element → Extent → Extent
extent_after_all [] p = p
extent_after_all (e ∷ es) p = extent_after_all es (extent_after e p)

abbrev pub extent : List Element → Extent
extent elements = extent_after_all elements (record { up = 1; down = 1; slack = 1; reach = 1 })

-- Responses have this extent, whose reach is whole and covers the slack.
pub record IsExtent (f : Responses) (p : Extent) : Type 0 where
  pub reach : HasReach f p.up p.down p.slack
  pub covers : p.slack ≤ p.reach * p.up
  pub has_up : 0 < p.up
  pub has_down : 0 < p.down
