use Rattle.std.proofs.Common.{ℕ, ◌-◌, ◌+◌, ◌*◌, ◌%◌, ◌<◌, ◌^◌, pos, ap, sym, ◌∙◌, arith, subst}
use Rattle.width_extreme.specs.Walk.{IsEntry}
use Rattle.width_extreme.proofs.Walk.{first_near, first_far}
use Rattle.width_extreme.proofs.prefix.PrefixRanges.first_entry.Goals as goal

pub returns-then-rest-index-clause-entry : goal.returns-then-rest-index-clause-entry
returns-then-rest-index-clause-entry c =
    let table = c.args.self.now.table in
    let index = c.args.index in
    let back = c.args.back in
    let classes = c.classes-classes.result in
    let class = index - back % classes in
    let newest = c.from-newest.result in
    let step = c.from-step.result in
    let early : newest < 2 ^ 32 = omega (arith, c.from-newest.ensures, c.newest.type_inv) in
    let entry = first_near table index back newest classes step c.requires c.classes-classes.ensures (c.from-step.ensures ∙ c.step.ensures)
    (ap pos c.from-newest.ensures ∙ c.newest.ensures) early c.if-rest-index.true in
    subst (λ (b : ℕ). IsEntry table index b class (newest + c.from-rounds.result * step)) (sym c.from.ensures)
    (subst (λ (n : ℕ). IsEntry table index back class (newest + n * step)) (sym c.from-rounds.ensures) entry)

pub returns-else-rest-index-clause-entry : goal.returns-else-rest-index-clause-entry
returns-else-rest-index-clause-entry c =
    let table = c.args.self.now.table in
    let index = c.args.index in
    let back = c.args.back in
    let classes = c.classes-classes.result in
    let class = index + (classes - back % classes) in
    let newest = c.from-newest.result in
    let step = c.from-step.result in
    let early : newest < 2 ^ 32 = omega (arith, c.from-newest.ensures, c.newest.type_inv) in
    let entry = first_far table index back newest classes step c.requires c.classes-classes.ensures (c.from-step.ensures ∙ c.step.ensures)
    (ap pos c.from-newest.ensures ∙ c.newest.ensures) early (omega (arith, c.if-rest-index.false)) in
    subst (λ (b : ℕ). IsEntry table index b class (newest + (c.from-rounds.result + 1) * step)) (sym c.from-else-rest-index.ensures)
    (subst (λ (n : ℕ). IsEntry table index back class (newest + (n + 1) * step)) (sym c.from-rounds.ensures) entry)
