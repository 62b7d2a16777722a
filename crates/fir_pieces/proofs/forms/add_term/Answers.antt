use Rattle.std.proofs.Common.{◌≤◌, ◌^◌, ◌+ℤ◌, arith, unsigned_abs, subst, sym, ap, ◌∙◌, get_or, set, pos, ℤ}
use Rattle.fir_pieces.proofs.FormLemmas.{abs_power, pow_90, sum_fits, read_or}
use Rattle.fir_pieces.proofs.forms.add_term.Goals as goal

pub overflow_add-weight : goal.overflow_add-weight
overflow_add-weight c =
    let read = read_or c.args.form.now.items c.args.term.index c.index.result.now (pos 0) c.requires.within c.index.ensures in
    let small : unsigned_abs c.index.result.now ≤ 2 ^ 100 = subst (λ (z : ℤ). unsigned_abs z ≤ 2 ^ 100) (sym read) c.requires.room in
    let power : unsigned_abs c.power_of.result ≤ 2 ^ 90 = subst (λ (z : ℤ). unsigned_abs z ≤ 2 ^ 90) (sym c.power_of.ensures) (omega (arith, abs_power c.args.negated c.args.term, pow_90 c.args.term.place c.requires.short)) in
    (sum_fits c.index.result.now c.power_of.result small power).0

pub returns : goal.returns
returns c =
    let read = read_or c.args.form.now.items c.args.term.index c.index.result.now (pos 0) c.requires.within c.index.ensures in
    let small : unsigned_abs c.index.result.now ≤ 2 ^ 100 = subst (λ (z : ℤ). unsigned_abs z ≤ 2 ^ 100) (sym read) c.requires.room in
    let power : unsigned_abs c.power_of.result ≤ 2 ^ 90 = subst (λ (z : ℤ). unsigned_abs z ≤ 2 ^ 90) (sym c.power_of.ensures) (omega (arith, abs_power c.args.negated c.args.term, pow_90 c.args.term.place c.requires.short)) in
    ap (set c.args.form.now.items c.args.term.index) ((sum_fits c.index.result.now c.power_of.result small power).1 ∙ ap (λ (z : ℤ). z +ℤ c.power_of.result) read ∙ ap (λ (z : ℤ). get_or c.args.form.now.items c.args.term.index (pos 0) +ℤ z) c.power_of.ensures)
