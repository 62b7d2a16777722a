-- Registers of one width in a longer net.
use Rattle.std.proofs.Common.{◌≡◌, ℕ, List}
use Rattle.mr_values.specs.Sequence.{Sequence}
use Rattle.net_graph.specs.declared.cell.Cell.{Cell}
use Rattle.net_graph.specs.declared.name.NameKind.{NameKind}
use Rattle.net_graph.specs.declared.name.NameKind.TheVariants.{Register, Control}
use Rattle.net_graph.specs.Grow.{Extends}
use Rattle.net_graph.specs.WellFormed.{IsFree}
use Rattle.pipeline_balance.specs.Numbered.{name_of}
use Rattle.pipeline_balance.proofs.NumberedLemmas.{IsRegister-later}
use Rattle.stage_law.specs.Alike.{HasRegister, HasAlike}
use Rattle.stage_law.specs.Streams.{Streams}

pub HasRegister-later : {old new : List Cell} {group number width : ℕ} → Extends old new → HasRegister old group number width → HasRegister new group number width
HasRegister-later e h = record { place = h.place; register = IsRegister-later e h.register }

-- a longer net in which no name of the group is taken more, but for control
pub HasAlike-later : {streams : Streams} {made : Sequence → Sequence} {old new : List Cell} {group count : ℕ} → Extends old new
    → ((kind : NameKind) (number : ℕ) → (kind ≡ Control → ⊥) → IsFree old (name_of group kind number) → IsFree new (name_of group kind number)) → HasAlike streams made old group count → HasAlike streams made new group count
HasAlike-later {streams} {made} {old} {new} {group} {count} e free h = record {
  width = h.width;
  least = h.least;
  registers = record {
    counted = record {
      used = λ number less none. let r = HasRegister-later e (h.registers.each number less) in none.none r.place r.register.cell r.register.there r.register.named;
      free = λ number more. free Register number (λ is. absurd (cc)) (h.registers.counted.free number more);
    };
    each = λ number less. HasRegister-later e (h.registers.each number less);
    only = λ kind number other own_kind. free kind number own_kind (h.registers.only kind number other own_kind);
  };
}
