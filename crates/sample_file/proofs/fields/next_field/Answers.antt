use Rattle.sample_file.proofs.FieldSteps.{next-field, no-field, behind-shorter}
use Rattle.sample_file.proofs.fields.next_field.Goals as goal

pub returns-then-is_empty-clause-fields : goal.returns-then-is_empty-clause-fields
returns-then-is_empty-clause-fields c =
    no-field c.args.bytes.now c.split_at.result.1.now c.blanks_in_front.result c.is_empty.result c.blanks_in_front.ensures.count c.split_at.ensures.back c.is_empty.ensures c.if-is_empty.true

pub returns-clause-fields : goal.returns-clause-fields
returns-clause-fields c =
    next-field c.args.bytes.now c.split_at.result.1.now c.split_at-2.result.0.now c.split_at-2.result.1.now c.blanks_in_front.result c.others_in_front.result c.is_empty.result c.blanks_in_front.ensures.count
    c.split_at.ensures.back c.others_in_front.ensures.count c.is_empty.ensures c.if-is_empty.false c.split_at-2.ensures.front c.split_at-2.ensures.back

pub returns-clause-shorter : goal.returns-clause-shorter
returns-clause-shorter c =
    behind-shorter c.args.bytes.now c.split_at.result.1.now c.split_at-2.result.1.now c.blanks_in_front.result c.others_in_front.result c.is_empty.result c.blanks_in_front.ensures.count c.split_at.ensures.back
    c.others_in_front.ensures.count c.is_empty.ensures c.if-is_empty.false c.split_at-2.ensures.back
