use Rattle.std.proofs.Common.{rules, ◌≡◌, arith, refl, sym, subst, ℕ, ◌+◌, ◌^◌, ◌<◌, ◌≤◌, ◌+ℤ◌, List, [], drop, length, get_or, ℤ, pos, to_z, of_z}
use Rattle.std.proofs.lemmas.Int.{to_z-of_z}
use Rattle.std.proofs.lemmas.List.{drop_all}
use Rattle.std.specs.Prelude.{unsigned_abs}
use Rattle.std.proofs.lemmas.Option.{slice_get_within}
use mir.Syntax.{w128}
use mir.Val.{SFits}
use Rattle.mr_values.specs.Width.{wrap}
use Rattle.net_graph.specs.declared.cell.Item.TheVariants.{Constant}
use Rattle.net_graph.specs.Grow.{Adds}
use Rattle.net_graph.proofs.NetLemmas.{Extends-adds, Extends-then, Extends-trans}
use Rattle.net_graph.specs.declared.cell.Node.{Node}
use Rattle.stage_law.specs.Streams.{magnitudes}
use Rattle.distributed_table.specs.Choices.{SumsFit, AddsChoices}
use Rattle.distributed_table.specs.Copies.{node_at}
use Rattle.distributed_table.proofs.ChoiceLemmas.{AddsChoices-end, AddsChoices-place, fits_with, fits_without, small_with, small_without}
use Rattle.distributed_table.proofs.choices.+add_choices.Goals as goal

pub returns-then-place-taps-clause-ok : goal.returns-then-place-taps-clause-ok
returns-then-place-taps-clause-ok t c =
    let f : SFits w128 c.args.so_far = c.ranges.so_far in
    let end : c.args.place ≡ length c.args.taps.now = c.if-place-taps.true in
    let none : drop c.args.place c.args.taps.now ≡ [] = drop_all c.args.place c.args.taps.now (omega arith) in
    let added = subst (λ (z : ℤ). Adds c.args.net.now c.constant.new.self c.in_ok-sum.sum c.args.width (Constant (wrap c.args.width z))) (to_z-of_z w128 c.args.so_far f) c.in_ok-sum.ensures.ok in
    let fits = subst (λ (cs : List ℤ). SumsFit c.args.width cs c.args.so_far) none c.requires.fits in
    subst (λ (cs : List ℤ). AddsChoices c.args.net.now c.constant.new.self cs (λ k. node_at c.args.address.now (c.args.place + k)) c.args.so_far c.args.width c.in_ok-sum.sum) (sym none)
    (AddsChoices-end (λ k. node_at c.args.address.now (c.args.place + k)) c.args.so_far c.requires.data_group c.requires.wide.0 fits added)

pub returns-then-place-taps-clause-extends : goal.returns-then-place-taps-clause-extends
returns-then-place-taps-clause-extends t c = Extends-adds c.in_ok-sum.ensures.ok

pub add_choices-requires : goal.add_choices-requires
add_choices-requires t c =
    let taps = c.args.taps.now in
    let f : SFits w128 c.args.so_far = c.ranges.so_far in
    let g : SFits w128 (get_or taps c.args.place (pos 0)) = search rules in
    let h : SFits w128 c.with_tap-more.result = search rules in
    let less : c.args.place < length taps = let w = c.requires.within in let n = c.if-place-taps.false in omega arith in
    let more : c.with_tap-more.result ≡ c.args.so_far +ℤ get_or taps c.args.place (pos 0) = simp to_z-of_z at c.with_tap-more.ensures in
    let next : c.args.place + 1 ≤ length taps = omega arith in
    let back : c.with_tap-more.result ≡ to_z w128 (of_z w128 c.with_tap-more.result) = sym (to_z-of_z w128 c.with_tap-more.result h) in
    let d = c.decreases in (
      omega arith,
      (
        c.requires.data_group,
        (
          c.requires.wide,
          (
            next,
            (
              c.requires.as_many,
              (
                c.requires.has_address,
                (
                  subst (SumsFit c.args.width (drop (c.args.place + 1) taps)) back (fits_with taps c.args.place c.args.so_far c.with_tap-more.result less more c.args.width c.requires.fits),
                  subst (λ (z : ℤ). unsigned_abs z + magnitudes (drop (c.args.place + 1) taps) ≤ 2 ^ 126) back (small_with taps c.args.place c.args.so_far c.with_tap-more.result less more (2 ^ 126) c.requires.small),
                ),
              ),
            ),
          ),
        ),
      ),
    )

pub add_choices-requires-2 : goal.add_choices-requires-2
add_choices-requires-2 t c =
    let taps = c.args.taps.now in
    let f : SFits w128 c.args.so_far = c.ranges.so_far in
    let less : c.args.place < length taps = let w = c.requires.within in let n = c.if-place-taps.false in omega arith in
    let next : c.args.place + 1 ≤ length taps = omega arith in
    let back : c.args.so_far ≡ to_z w128 (of_z w128 c.args.so_far) = sym (to_z-of_z w128 c.args.so_far f) in
    let d = c.decreases in (
      omega arith,
      (
        rw c.in_ok-yes.ensures.group c.requires.data_group,
        (
          c.requires.wide,
          (
            next,
            (
              c.requires.as_many,
              (
                λ k inside. (let there = c.requires.has_address k inside in let longer = c.in_ok-yes.ensures.extends.longer in omega arith),
                (
                  subst (SumsFit c.args.width (drop (c.args.place + 1) taps)) back (fits_without taps c.args.place c.args.so_far (c.args.so_far +ℤ get_or taps c.args.place (pos 0)) less refl c.args.width c.requires.fits),
                  subst (λ (z : ℤ). unsigned_abs z + magnitudes (drop (c.args.place + 1) taps) ≤ 2 ^ 126) back (small_without taps c.args.place c.args.so_far (c.args.so_far +ℤ get_or taps c.args.place (pos 0)) less refl (2 ^ 126) c.requires.small),
                ),
              ),
            ),
          ),
        ),
      ),
    )

pub returns-in_err-no-clause-extends : goal.returns-in_err-no-clause-extends
returns-in_err-no-clause-extends t c = Extends-trans _ _ _ c.in_ok-yes.ensures.extends c.in_err-no.ensures.extends

pub mux-requires-clause-has_yes : goal.mux-requires-clause-has_yes
mux-requires-clause-has_yes t c =
    let y = c.in_ok-yes.ensures.ok in
    let inside : c.in_ok-yes.yes.place < length c.add_choices.new.net.cells = slice_get_within _ _ y.cell y.there in
    let longer = c.in_ok-no.ensures.extends.longer in
    omega arith

pub mux-requires-clause-has_no : goal.mux-requires-clause-has_no
mux-requires-clause-has_no t c = let n = c.in_ok-no.ensures.ok in slice_get_within _ _ n.cell n.there

pub returns-in_err-root-clause-extends : goal.returns-in_err-root-clause-extends
returns-in_err-root-clause-extends t c = rw c.in_err-root.ensures.err (Extends-trans _ _ _ c.in_ok-yes.ensures.extends c.in_ok-no.ensures.extends)

pub returns-clause-ok : goal.returns-clause-ok
returns-clause-ok t c =
    let taps = c.args.taps.now in
    let f : SFits w128 c.args.so_far = c.ranges.so_far in
    let g : SFits w128 (get_or taps c.args.place (pos 0)) = search rules in
    let h : SFits w128 c.with_tap-more.result = search rules in
    let less : c.args.place < length taps = let w = c.requires.within in let n = c.if-place-taps.false in omega arith in
    let more : c.with_tap-more.result ≡ c.args.so_far +ℤ get_or taps c.args.place (pos 0) = simp to_z-of_z at c.with_tap-more.ensures in
    let rest : List ℤ = drop (c.args.place + 1) taps in
    let on : ℕ → Node = λ (k : ℕ). node_at c.args.address.now (c.args.place + 1 + k) in
    let y = subst (λ (z : ℤ). AddsChoices c.args.net.now c.add_choices.new.net rest on z c.args.width c.in_ok-yes.yes) (to_z-of_z w128 c.with_tap-more.result h) c.in_ok-yes.ensures.ok in
    let n = subst (λ (z : ℤ). AddsChoices c.add_choices.new.net c.add_choices-2.new.net rest on z c.args.width c.in_ok-no.no) (to_z-of_z w128 c.args.so_far f) c.in_ok-no.ensures.ok in
    AddsChoices-place taps c.args.place c.args.so_far c.with_tap-more.result less more c.args.address.now c.requires.data_group c.requires.wide.0 y n c.in_ok-root.ensures.ok

pub returns-clause-extends : goal.returns-clause-extends
returns-clause-extends t c = Extends-then (Extends-trans _ _ _ c.in_ok-yes.ensures.extends c.in_ok-no.ensures.extends) c.in_ok-root.ensures.ok
