use Rattle.std.proofs.Common.{rules, ◌≡◌, ◌∙◌, ℕ, List, get_or, ℤ, pos, sym, ap, subst}
use Rattle.std.proofs.lemmas.Int.{to_z-of_z}
use mir.Syntax.{w128}
use mir.Val.{SFits}
use Rattle.mr_values.specs.Timing.{low_end}
use Rattle.mr_values.specs.Width.{FitsWidth}
use Rattle.impulse_phase.specs.Reading.{silent, rows_of}
use Rattle.width_extreme.specs.Prefix.{least_sample, greatest_sample}
use Rattle.width_extreme.specs.Walk.{IsEntry, HasSmallSums}
use Rattle.width_extreme.proofs.OneWeight.{HasRowRoom, row-room, small-sums, end-room_at, end_at, times-room_at, single_at}
use Rattle.width_extreme.proofs.Ranges.{least-fits, greatest-fits}
use Rattle.width_extreme.proofs.prefix.PrefixRanges.single_ends.Goals as goal

pub signed_sums-sums-requires : goal.signed_sums-sums-requires
signed_sums-sums-requires c =
    let s = c.args.self.now in
    let w = c.args.weight in
    let class = c.first_entry-entry.result.class in
    let late = c.first_entry-entry.result.late in
    let e : IsEntry s.table c.args.index w.behind class late = subst (λ (n : ℕ). IsEntry s.table c.args.index n class late) c.first_entry-entry.ensures.back c.first_entry-entry.ensures.entry in
    let row = (get_or (rows_of s.table) class silent).weights in
    let room : HasRowRoom s.width row w.factor = row-room s.table s.width c.args.index class late w s.lawful e c.requires.some c.requires.room in
    subst HasSmallSums (sym c.phase.ensures) (small-sums s.width row w.factor room)

pub end_of-least-requires : goal.end_of-least-requires
end_of-least-requires c =
    let s = c.args.self.now in
    let w = c.args.weight in
    let class = c.first_entry-entry.result.class in
    let late = c.first_entry-entry.result.late in
    let e : IsEntry s.table c.args.index w.behind class late = subst (λ (n : ℕ). IsEntry s.table c.args.index n class late) c.first_entry-entry.ensures.back c.first_entry-entry.ensures.entry in
    let row = (get_or (rows_of s.table) class silent).weights in
    let room : HasRowRoom s.width row w.factor = row-room s.table s.width c.args.index class late w s.lawful e c.requires.some c.requires.room in
    let above = c.signed_sums-sums.ensures.above ∙ ap (λ (ws : List ℤ). low_end ws (pos 1) (pos 0)) c.phase.ensures in
    let below = c.signed_sums-sums.ensures.below ∙ ap (λ (ws : List ℤ). low_end ws (pos 0) (pos 1)) c.phase.ensures in
    let l : SFits w128 c.least.result = search rules in
    let g : SFits w128 c.greatest.result = search rules in
    simp to_z-of_z (end-room_at s.width row w.factor c.signed_sums-sums.result.above c.signed_sums-sums.result.below c.least.result c.greatest.result room above below
    (subst (FitsWidth s.width) (sym c.least.ensures) (least-fits s.width)) (subst (FitsWidth s.width) (sym c.greatest.ensures) (greatest-fits s.width)))

pub end_of-greatest-requires : goal.end_of-greatest-requires
end_of-greatest-requires c =
    let s = c.args.self.now in
    let w = c.args.weight in
    let class = c.first_entry-entry.result.class in
    let late = c.first_entry-entry.result.late in
    let e : IsEntry s.table c.args.index w.behind class late = subst (λ (n : ℕ). IsEntry s.table c.args.index n class late) c.first_entry-entry.ensures.back c.first_entry-entry.ensures.entry in
    let row = (get_or (rows_of s.table) class silent).weights in
    let room : HasRowRoom s.width row w.factor = row-room s.table s.width c.args.index class late w s.lawful e c.requires.some c.requires.room in
    let above = c.signed_sums-sums.ensures.above ∙ ap (λ (ws : List ℤ). low_end ws (pos 1) (pos 0)) c.phase.ensures in
    let below = c.signed_sums-sums.ensures.below ∙ ap (λ (ws : List ℤ). low_end ws (pos 0) (pos 1)) c.phase.ensures in
    let l2 : SFits w128 c.least-2.result = search rules in
    let g2 : SFits w128 c.greatest-2.result = search rules in
    simp to_z-of_z (end-room_at s.width row w.factor c.signed_sums-sums.result.above c.signed_sums-sums.result.below c.greatest-2.result c.least-2.result room above below
    (subst (FitsWidth s.width) (sym c.greatest-2.ensures) (greatest-fits s.width)) (subst (FitsWidth s.width) (sym c.least-2.ensures) (least-fits s.width)))

pub least_product-requires : goal.least_product-requires
least_product-requires c =
    let s = c.args.self.now in
    let w = c.args.weight in
    let class = c.first_entry-entry.result.class in
    let late = c.first_entry-entry.result.late in
    let e : IsEntry s.table c.args.index w.behind class late = subst (λ (n : ℕ). IsEntry s.table c.args.index n class late) c.first_entry-entry.ensures.back c.first_entry-entry.ensures.entry in
    let row = (get_or (rows_of s.table) class silent).weights in
    let room : HasRowRoom s.width row w.factor = row-room s.table s.width c.args.index class late w s.lawful e c.requires.some c.requires.room in
    let above = c.signed_sums-sums.ensures.above ∙ ap (λ (ws : List ℤ). low_end ws (pos 1) (pos 0)) c.phase.ensures in
    let below = c.signed_sums-sums.ensures.below ∙ ap (λ (ws : List ℤ). low_end ws (pos 0) (pos 1)) c.phase.ensures in
    let l : SFits w128 c.least.result = search rules in
    let g : SFits w128 c.greatest.result = search rules in
    let l2 : SFits w128 c.least-2.result = search rules in
    let g2 : SFits w128 c.greatest-2.result = search rules in
    let least : c.end_of-least.result ≡ low_end row (least_sample s.width) (greatest_sample s.width) =
    end_at row c.end_of-least.result c.signed_sums-sums.result.above c.signed_sums-sums.result.below c.least.result c.greatest.result _ _ (simp to_z-of_z at c.end_of-least.ensures) above below c.least.ensures c.greatest.ensures in
    let greatest : c.end_of-greatest.result ≡ low_end row (greatest_sample s.width) (least_sample s.width) =
    end_at row c.end_of-greatest.result c.signed_sums-sums.result.above c.signed_sums-sums.result.below c.greatest-2.result c.least-2.result _ _ (simp to_z-of_z at c.end_of-greatest.ensures) above below c.greatest-2.ensures c.least-2.ensures in
    let a : SFits w128 c.end_of-least.result = search rules in
    let b : SFits w128 c.end_of-greatest.result = search rules in
    let f : SFits w128 w.factor = search rules in
    simp to_z-of_z (times-room_at s.width row w.factor (least_sample s.width) (greatest_sample s.width) c.end_of-least.result c.end_of-greatest.result room (least-fits s.width) (greatest-fits s.width) least greatest)

pub least_product-requires-2 : goal.least_product-requires-2
least_product-requires-2 c =
    let s = c.args.self.now in
    let w = c.args.weight in
    let class = c.first_entry-entry.result.class in
    let late = c.first_entry-entry.result.late in
    let e : IsEntry s.table c.args.index w.behind class late = subst (λ (n : ℕ). IsEntry s.table c.args.index n class late) c.first_entry-entry.ensures.back c.first_entry-entry.ensures.entry in
    let row = (get_or (rows_of s.table) class silent).weights in
    let room : HasRowRoom s.width row w.factor = row-room s.table s.width c.args.index class late w s.lawful e c.requires.some c.requires.room in
    let above = c.signed_sums-sums.ensures.above ∙ ap (λ (ws : List ℤ). low_end ws (pos 1) (pos 0)) c.phase.ensures in
    let below = c.signed_sums-sums.ensures.below ∙ ap (λ (ws : List ℤ). low_end ws (pos 0) (pos 1)) c.phase.ensures in
    let l : SFits w128 c.least.result = search rules in
    let g : SFits w128 c.greatest.result = search rules in
    let l2 : SFits w128 c.least-2.result = search rules in
    let g2 : SFits w128 c.greatest-2.result = search rules in
    let least : c.end_of-least.result ≡ low_end row (least_sample s.width) (greatest_sample s.width) =
    end_at row c.end_of-least.result c.signed_sums-sums.result.above c.signed_sums-sums.result.below c.least.result c.greatest.result _ _ (simp to_z-of_z at c.end_of-least.ensures) above below c.least.ensures c.greatest.ensures in
    let greatest : c.end_of-greatest.result ≡ low_end row (greatest_sample s.width) (least_sample s.width) =
    end_at row c.end_of-greatest.result c.signed_sums-sums.result.above c.signed_sums-sums.result.below c.greatest-2.result c.least-2.result _ _ (simp to_z-of_z at c.end_of-greatest.ensures) above below c.greatest-2.ensures c.least-2.ensures in
    let a : SFits w128 c.end_of-least.result = search rules in
    let b : SFits w128 c.end_of-greatest.result = search rules in
    let f : SFits w128 w.factor = search rules in
    simp to_z-of_z (times-room_at s.width row w.factor (greatest_sample s.width) (least_sample s.width) c.end_of-greatest.result c.end_of-least.result room (greatest-fits s.width) (least-fits s.width) greatest least)

pub returns-clause-low : goal.returns-clause-low
returns-clause-low c =
    let s = c.args.self.now in
    let w = c.args.weight in
    let class = c.first_entry-entry.result.class in
    let late = c.first_entry-entry.result.late in
    let e : IsEntry s.table c.args.index w.behind class late = subst (λ (n : ℕ). IsEntry s.table c.args.index n class late) c.first_entry-entry.ensures.back c.first_entry-entry.ensures.entry in
    let row = (get_or (rows_of s.table) class silent).weights in
    let room : HasRowRoom s.width row w.factor = row-room s.table s.width c.args.index class late w s.lawful e c.requires.some c.requires.room in
    let above = c.signed_sums-sums.ensures.above ∙ ap (λ (ws : List ℤ). low_end ws (pos 1) (pos 0)) c.phase.ensures in
    let below = c.signed_sums-sums.ensures.below ∙ ap (λ (ws : List ℤ). low_end ws (pos 0) (pos 1)) c.phase.ensures in
    let l : SFits w128 c.least.result = search rules in
    let g : SFits w128 c.greatest.result = search rules in
    let l2 : SFits w128 c.least-2.result = search rules in
    let g2 : SFits w128 c.greatest-2.result = search rules in
    let least : c.end_of-least.result ≡ low_end row (least_sample s.width) (greatest_sample s.width) =
    end_at row c.end_of-least.result c.signed_sums-sums.result.above c.signed_sums-sums.result.below c.least.result c.greatest.result _ _ (simp to_z-of_z at c.end_of-least.ensures) above below c.least.ensures c.greatest.ensures in
    let greatest : c.end_of-greatest.result ≡ low_end row (greatest_sample s.width) (least_sample s.width) =
    end_at row c.end_of-greatest.result c.signed_sums-sums.result.above c.signed_sums-sums.result.below c.greatest-2.result c.least-2.result _ _ (simp to_z-of_z at c.end_of-greatest.ensures) above below c.greatest-2.ensures c.least-2.ensures in
    let a : SFits w128 c.end_of-least.result = search rules in
    let b : SFits w128 c.end_of-greatest.result = search rules in
    let f : SFits w128 w.factor = search rules in
    let p : SFits w128 c.least_product.result = search rules in
    simp to_z-of_z (single_at s.table c.args.index class late w (least_sample s.width) (greatest_sample s.width) c.least_product.result c.end_of-least.result c.end_of-greatest.result e (simp to_z-of_z at c.least_product.ensures) least greatest)

pub returns-clause-high : goal.returns-clause-high
returns-clause-high c =
    let s = c.args.self.now in
    let w = c.args.weight in
    let class = c.first_entry-entry.result.class in
    let late = c.first_entry-entry.result.late in
    let e : IsEntry s.table c.args.index w.behind class late = subst (λ (n : ℕ). IsEntry s.table c.args.index n class late) c.first_entry-entry.ensures.back c.first_entry-entry.ensures.entry in
    let row = (get_or (rows_of s.table) class silent).weights in
    let room : HasRowRoom s.width row w.factor = row-room s.table s.width c.args.index class late w s.lawful e c.requires.some c.requires.room in
    let above = c.signed_sums-sums.ensures.above ∙ ap (λ (ws : List ℤ). low_end ws (pos 1) (pos 0)) c.phase.ensures in
    let below = c.signed_sums-sums.ensures.below ∙ ap (λ (ws : List ℤ). low_end ws (pos 0) (pos 1)) c.phase.ensures in
    let l : SFits w128 c.least.result = search rules in
    let g : SFits w128 c.greatest.result = search rules in
    let l2 : SFits w128 c.least-2.result = search rules in
    let g2 : SFits w128 c.greatest-2.result = search rules in
    let least : c.end_of-least.result ≡ low_end row (least_sample s.width) (greatest_sample s.width) =
    end_at row c.end_of-least.result c.signed_sums-sums.result.above c.signed_sums-sums.result.below c.least.result c.greatest.result _ _ (simp to_z-of_z at c.end_of-least.ensures) above below c.least.ensures c.greatest.ensures in
    let greatest : c.end_of-greatest.result ≡ low_end row (greatest_sample s.width) (least_sample s.width) =
    end_at row c.end_of-greatest.result c.signed_sums-sums.result.above c.signed_sums-sums.result.below c.greatest-2.result c.least-2.result _ _ (simp to_z-of_z at c.end_of-greatest.ensures) above below c.greatest-2.ensures c.least-2.ensures in
    let a : SFits w128 c.end_of-least.result = search rules in
    let b : SFits w128 c.end_of-greatest.result = search rules in
    let f : SFits w128 w.factor = search rules in
    let p : SFits w128 c.least_product-2.result = search rules in
    simp to_z-of_z (single_at s.table c.args.index class late w (greatest_sample s.width) (least_sample s.width) c.least_product-2.result c.end_of-greatest.result c.end_of-least.result e (simp to_z-of_z at c.least_product-2.ensures) greatest least)
