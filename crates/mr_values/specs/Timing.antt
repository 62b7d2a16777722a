-- The groups of a plan, and at which ticks their streams stand.
use Rattle.std.specs.Prelude.{ℕ, zero, suc, ◌+◌, ◌-◌, ◌*◌, ◌/◌, ◌^◌, ◌==◌, max, nat_le, if◌then◌else◌, List, [], ◌∷◌, length, take, sum_by, Option, None, Some, unwrap_or, ℤ, pos, negsuc, ◌+ℤ◌, ◌*ℤ◌, neg_ℤ}
use Rattle.mr_values.specs.declared.plan.Element.{Element}
use Rattle.mr_values.specs.declared.plan.Element.TheVariants.{Up, Down, Filter, CicDown, CicUp, Round, Clip}
use Rattle.mr_values.specs.declared.plan.Form.{Form}
use Rattle.mr_values.specs.declared.plan.Form.TheVariants.{Parallel, Symmetric, HalfBand, Folded, Distributed}
use Rattle.mr_values.specs.declared.plan.Mode.{Mode}
use Rattle.mr_values.specs.Value.{size, round_value}
use Rattle.mr_values.specs.Rounding.{clip_value}
use Rattle.mr_values.specs.Sequence.{phase}
use Rattle.mr_values.specs.Digit.{positive_count, negative_count, digit_count}

-- ---- numbers

-- n / d, rounded up
abbrev pub ceil_div : ℕ → ℕ → ℕ
ceil_div n d = (n + (d - 1)) / d

-- the least k with n ≤ 2 ^ k, where n is at most the fuel
abbrev pub ceil_log_to : ℕ → ℕ → ℕ
ceil_log_to zero n = 0
ceil_log_to (suc fuel) n = if nat_le n 1 then 0 else suc (ceil_log_to fuel ((n + 1) / 2))

abbrev pub ceil_log : ℕ → ℕ
ceil_log n = ceil_log_to n n

-- how many bits n has
abbrev pub bit_length_to : ℕ → ℕ → ℕ
bit_length_to zero n = 0
bit_length_to (suc fuel) n = if n == 0 then 0 else suc (bit_length_to fuel (n / 2))

abbrev pub signed_bits : ℤ → ℕ
signed_bits (pos n) = suc (bit_length_to 128 n)
signed_bits (negsuc n) = suc (bit_length_to 128 n)

-- the terms of taps: the digits of their non-adjacent forms
abbrev pub plus_terms : List ℤ → ℕ
plus_terms taps = sum_by positive_count taps

abbrev pub minus_terms : List ℤ → ℕ
minus_terms taps = sum_by negative_count taps

abbrev pub terms : List ℤ → ℕ
terms taps = sum_by digit_count taps

-- the greatest over the phases below r
abbrev pub greatest_below : (List ℤ → ℕ) → ℕ → ℕ → List ℤ → ℕ
greatest_below count factor zero taps = 0
greatest_below count factor (suc r) taps = max (count (phase factor r taps)) (greatest_below count factor r taps)

abbrev pub greatest : (List ℤ → ℕ) → ℕ → List ℤ → ℕ
greatest count factor taps = greatest_below count factor factor taps

-- ---- groups

-- a group: an Up, a Filter and a Down, at least one of them, or a CIC, a rounding or a clipping by itself
pub data Group : Type 0 where
  Fir : (up : Option ℕ) (filter : Option (List ℤ × Form)) (down : Option ℕ) → Group
  DownCic : (factor stages delay : ℕ) → Group
  UpCic : (factor stages delay : ℕ) → Group
  Rounding : (shift : ℕ) (mode : Mode) → Group
  Clipping : (bits : ℕ) → Group

-- An element before groups: an Up joins a group that has none, a Filter one that has neither, and a Down joins none.
-- So each group is the longest run of one Up, one Filter and one Down in this order, as taken from the left.
abbrev pub join_up : ℕ → List Group → List Group
join_up l (Fir None filter down ∷ gs) = Fir (Some l) filter down ∷ gs
join_up l gs = Fir (Some l) None None ∷ gs

abbrev pub join_filter : List ℤ → Form → List Group → List Group
join_filter taps form (Fir None None down ∷ gs) = Fir None (Some (taps, form)) down ∷ gs
join_filter taps form gs = Fir None (Some (taps, form)) None ∷ gs

abbrev pub groups : List Element → List Group
groups [] = []
groups (Up factor ∷ es) = join_up (size factor) (groups es)
groups (Filter taps form ∷ es) = join_filter taps form (groups es)
groups (Down factor ∷ es) = Fir None None (Some (size factor)) ∷ groups es
groups (CicDown factor stages delay ∷ es) = DownCic (size factor) (size stages) (size delay) ∷ groups es
groups (CicUp factor stages delay ∷ es) = UpCic (size factor) (size stages) (size delay) ∷ groups es
groups (Round shift mode ∷ es) = Rounding (size shift) mode ∷ groups es
groups (Clip bits ∷ es) = Clipping (size bits) ∷ groups es

-- ---- the span of a stream

abbrev pub least_term : ℤ → ℤ → ℤ → ℤ
least_term low high (pos c) = pos c *ℤ low
least_term low high (negsuc c) = negsuc c *ℤ high

abbrev pub low_end : List ℤ → ℤ → ℤ → ℤ
low_end [] low high = pos 0
low_end (c ∷ cs) low high = least_term low high c +ℤ low_end cs low high

abbrev pub high_end : List ℤ → ℤ → ℤ → ℤ
high_end [] low high = pos 0
high_end (c ∷ cs) low high = least_term high low c +ℤ high_end cs low high

abbrev pub taps_of : Option (List ℤ × Form) → List ℤ
taps_of None = pos 1 ∷ []
taps_of (Some f) = f.0

abbrev pub form_of : Option (List ℤ × Form) → Form
form_of None = Parallel
form_of (Some f) = f.1

-- ---- timing

-- where a stream stands: at the ticks offset + k * period; its values lie from low to high
pub record Stream : Type 0 where
  pub period : ℕ
  pub offset : ℕ
  pub low : ℤ
  pub high : ℤ

-- the least width that holds both
abbrev pub wide : ℤ → ℤ → ℕ
wide low high = max (signed_bits low) (signed_bits high)

-- the accumulators of a folded filter
abbrev pub accumulators : ℕ → ℕ → List ℤ → ℕ
accumulators slots factor taps = ceil_div (greatest plus_terms factor taps) slots + ceil_div (greatest minus_terms factor taps) slots

abbrev pub form_delay : Form → ℕ → List ℤ → Stream → ℕ
form_delay Parallel factor taps s = 1 + ceil_log (greatest terms factor taps)
form_delay Symmetric factor taps s = 2 + ceil_log (terms (take (ceil_div (length taps) 2) taps))
form_delay HalfBand factor taps s = 2 + ceil_log (terms (take (ceil_div (length taps) 2) taps))
form_delay (Folded slots) factor taps s = 2 + size slots + ceil_log (accumulators (size slots) factor taps)
form_delay (Distributed group) factor taps s = 2 + wide s.low s.high + ceil_log (ceil_div (length taps) (size group))

-- the factors of a group, 1 where there is none
abbrev pub up_factor : Group → ℕ
up_factor (Fir up filter down) = unwrap_or up 1
up_factor (DownCic factor stages delay) = 1
up_factor (UpCic factor stages delay) = factor
up_factor (Rounding shift mode) = 1
up_factor (Clipping bits) = 1

abbrev pub down_factor : Group → ℕ
down_factor (Fir up filter down) = unwrap_or down 1
down_factor (DownCic factor stages delay) = factor
down_factor (UpCic factor stages delay) = 1
down_factor (Rounding shift mode) = 1
down_factor (Clipping bits) = 1

-- the period after a group, from the period before it
abbrev pub period_after : Group → ℕ → ℕ
period_after g period = period * down_factor g / up_factor g

abbrev pub group_delay : Group → Stream → ℕ
group_delay (Fir up filter down) s = form_delay (form_of filter) (unwrap_or up 1) (taps_of filter) s
group_delay (DownCic factor stages delay) s = (stages - 1) * s.period + 1 + stages
group_delay (UpCic factor stages delay) s = stages + (stages - 1) * period_after (UpCic factor stages delay) s.period + 1
group_delay (Rounding shift mode) s = 1
group_delay (Clipping bits) s = 1

-- the least and the greatest value after a group, from those before it
abbrev pub low_after : Group → ℤ → ℤ → ℤ
low_after (Fir up filter down) low high = low_end (taps_of filter) low high
low_after (DownCic factor stages delay) low high = pos ((factor * delay) ^ stages) *ℤ low
low_after (UpCic factor stages delay) low high = pos ((factor * delay) ^ stages) *ℤ low
low_after (Rounding shift mode) low high = round_value mode shift low
low_after (Clipping bits) low high = clip_value bits low

abbrev pub high_after : Group → ℤ → ℤ → ℤ
high_after (Fir up filter down) low high = high_end (taps_of filter) low high
high_after (DownCic factor stages delay) low high = pos ((factor * delay) ^ stages) *ℤ high
high_after (UpCic factor stages delay) low high = pos ((factor * delay) ^ stages) *ℤ high
high_after (Rounding shift mode) low high = round_value mode shift high
high_after (Clipping bits) low high = clip_value bits high

-- the stream after a group
abbrev pub after : Group → Stream → Stream
after g s = record {
  period = period_after g s.period;
  offset = s.offset + group_delay g s;
  low = low_after g s.low s.high;
  high = high_after g s.low s.high;
}

abbrev pub after_all : List Group → Stream → Stream
after_all [] s = s
after_all (g ∷ gs) s = after_all gs (after g s)

-- the samples: w bits, one in K ticks
abbrev pub input : ℕ → ℕ → Stream
input w ticks = record { period = ticks; offset = 0; low = neg_ℤ (pos (2 ^ (w - 1))); high = pos (2 ^ (w - 1) - 1) }

abbrev pub last_stream : ℕ → ℕ → List Element → Stream
last_stream w ticks elements = after_all (groups elements) (input w ticks)

abbrev pub latency : ℕ → ℕ → List Element → ℕ
latency w ticks elements = (last_stream w ticks elements).offset + 1

-- how many outputs belong to so many samples
abbrev pub count : ℕ → ℕ → List Element → ℕ → ℕ
count w ticks elements samples = ceil_div (samples * ticks) (last_stream w ticks elements).period
