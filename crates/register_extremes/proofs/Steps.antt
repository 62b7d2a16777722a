-- Samples that drive a linear register, as a text.
use Rattle.std.proofs.Common.{◌≡◌, ℕ, ◌<◌, ◌≤◌, ◌^◌, true, List, ◌++◌, All, length, length-append, refl, ap, subst, arith, ℤ}
use Rattle.std.specs.Prelude.{codes, decimal}
use Rattle.std.specs.List.{list_all}
use Rattle.std.proofs.lemmas.Fmt.{length-decimal-le}
use Rattle.mr_values.specs.Value.{size}
use Rattle.mr_values.specs.Width.{FitsWidth}
use Rattle.mr_values.specs.declared.plan.Element.{Element}
use Rattle.mr_values.specs.declared.plan.Plan.{Plan}
use Rattle.net_graph.specs.Name.{group_name, written}
use Rattle.net_graph.specs.declared.name.NameKind.{NameKind}
use Rattle.net_graph.specs.declared.name.NameKind.TheVariants.{Control, Window, Copy, PreAdder, Register, Table, Output, Valid}
use Rattle.plan_check.specs.Accepted.{IsAccepted}
use Rattle.plan_laws.proofs.Passes.{passes_of}
use Rattle.verilog_tree.specs.Tree.{Design}
use Rattle.chain_build.specs.declared.extremes.RegisterSamples.{RegisterSamples}
use Rattle.chain_build.specs.Told.{IsRegisterExtreme}
use Rattle.chain_build.proofs.SoFar.{size_least, size_most}
use Rattle.extreme_file.specs.Reading.{ReadsAs}
use Rattle.extreme_file.specs.Room.{HasRoom}
use Rattle.extreme_file.specs.Text.{extreme_lines}
use Rattle.extreme_file.proofs.Lines.{is_within, all_both}
use Rattle.extreme_file.proofs.Numerals.{one_plain, plain_decimal}
use Rattle.filter_text.specs.Registers.{HasLinearRegisters, IsExtremeOf}
use Rattle.filter_text.proofs.SumExtreme.{sum_extreme}
use Rattle.register_extremes.specs.Text.{IsExtremeText}
use Rattle.register_extremes.proofs.Sizes.{two_bits}

-- ---- a file of samples has room for the text of a small name

text_short : (group number : ℕ) (kind : List ℕ) → group < 2 ^ 64 → number < 2 ^ 64 → length kind ≤ 2 → length (group_name group kind number) ≤ 3968
text_short group number kind few small short =
    let first = length-decimal-le 20 group (omega arith) (omega (arith, few)) few in
    let last = length-decimal-le 20 number (omega arith) (omega (arith, small)) small in
    let parts = length-append (decimal group) (kind ++ decimal number) in
    let end = length-append kind (decimal number) in
    omega (arith, first, last, parts, end, short)

text_line : (group number : ℕ) (kind : List ℕ) → group < 2 ^ 64 → number < 2 ^ 64 → list_all is_within kind ≡ true → list_all is_within (group_name group kind number) ≡ true
text_line group number kind few small own =
    all_both (decimal group) (kind ++ decimal number) (one_plain (decimal group) (plain_decimal group (omega (arith, few))))
    (all_both kind (decimal number) own (one_plain (decimal number) (plain_decimal number (omega (arith, small)))))

-- a short text in one line
record IsNameText (text : List ℕ) : Type 0 where
  one : list_all is_within text ≡ true
  short : length text ≤ 3968

in_group : (group number : ℕ) (kind : List ℕ) → group < 2 ^ 64 → number < 2 ^ 64 → length kind ≤ 2 → list_all is_within kind ≡ true → IsNameText (group_name group kind number)
in_group group number kind few small short own = record { one = text_line group number kind few small own; short = text_short group number kind few small short }

name_text : (kind : NameKind) (group number : ℕ) → group < 2 ^ 64 → number < 2 ^ 64 → IsNameText (written kind group number)
name_text Control group number few small = record {
  one = one_plain (decimal number) (plain_decimal number (omega (arith, small)));
  short = let last = length-decimal-le 20 number (omega arith) (omega (arith, small)) small in omega (arith, last);
}
name_text Window group number few small = in_group group number (codes "_w") few small (omega arith) refl
name_text Copy group number few small = in_group group number (codes "_v") few small (omega arith) refl
name_text PreAdder group number few small = in_group group number (codes "_p") few small (omega arith) refl
name_text Register group number few small = in_group group number (codes "_a") few small (omega arith) refl
name_text Table group number few small = in_group group number (codes "_t") few small (omega arith) refl
name_text Output group number few small = record { one = refl; short = omega arith }
name_text Valid group number few small = record { one = refl; short = omega arith }

pub extreme_room : {width ticks : ℕ} {elements : List Element} {register : List ℕ} {x : RegisterSamples} (samples : List ℤ) → samples ≡ x.samples.items → IsRegisterExtreme width ticks elements register x → HasRoom register samples
extreme_room {width} {ticks} {elements} {register} {x} samples same is =
    let text : IsNameText register = subst IsNameText is.named (name_text is.r.name.kind is.r.name.group is.r.name.number is.small.0 is.small.1) in
    let few = is.few in
    record { one = text.one; short = text.short; few = omega (arith, few, ap (λ (xs : List ℤ). length xs) same) }

-- ---- what the samples do

-- they do so in every module that has the plan's linear registers
pub drives : {width ticks : ℕ} → 1 ≤ ticks → (elements : List Element) (register : List ℕ) (x : RegisterSamples) → IsRegisterExtreme width ticks elements register x
    → (d : Design) → HasLinearRegisters elements width ticks d → IsExtremeOf width ticks d register x.samples.items x.tick x.value
drives {width} {ticks} some elements register x is d has =
    let its = has.each is.wide.place is.r is.wide.there in
    subst (λ (name : List ℕ). IsExtremeOf width ticks d name x.samples.items x.tick x.value) is.named (sum_extreme some d is.r is.s x.samples.items x.tick x.value its is.wide.needed is.input)

pub text_of : (plan : Plan) → IsAccepted plan → (register : List ℕ) (x : RegisterSamples) (text : List ℕ) → IsRegisterExtreme (size plan.width) (size plan.ticks) plan.elements register x
    → text ≡ extreme_lines register x.tick x.value x.samples.items → ((width : ℕ) → width ≤ 128 → All (FitsWidth width) x.samples.items → ReadsAs width x.samples.items text)
    → IsExtremeText (size plan.width) (size plan.ticks) plan.elements register text
text_of plan accepted register x text is lines reads =
    let limits = (passes_of plan accepted).limits in
    let narrow : size plan.width ≤ 64 = size_most plan.width 64 limits.width_high in
    record {
      wide = record { place = is.wide.place; r = is.r; there = is.wide.there; named = is.named; sum = is.s; needed = is.wide.needed };
      two = two_bits (size plan.width) (size plan.ticks) plan.elements is.wide.place is.r is.s is.wide.there is.wide.needed;
      samples = x.samples.items;
      few = is.few;
      tick = x.tick;
      value = x.value;
      lines = lines;
      reads = reads (size plan.width) (le_trans narrow) is.input.fit;
      drives = drives (size_least plan.ticks 1 limits.ticks_low) plan.elements register x is;
    }
  where
    le_trans : size plan.width ≤ 64 → size plan.width ≤ 128
    le_trans le = omega (arith, le)
