use Rattle.std.proofs.Common.{◌≡◌, ◌<◌, ◌∙◌, ◌++◌, ◌∷◌, ℤ, List, ℕ, [], length, FitsSigned, to_z, of_z, rules, inr, ap, sym, arith}
use Rattle.std.specs.Int.{w64}
use Rattle.std.proofs.lemmas.Int.{to_z-of_z}
use Rattle.csv.specs.Records.{fields_of}
use Rattle.plan_reader.specs.TapFields.{row_taps, at_row, tap_of}
use Rattle.plan_reader.proofs.TapSteps.{field-there, field-is, field-read, field-refused, all-read}
use Rattle.plan_reader.proofs.tap_rows.row_taps.Goals as goal

pub returns-in-Err : goal.returns-in-Err
returns-in-Err c =
    let fields = fields_of c.args.fields.now in
    let within : c.fields.index < length fields = field-there fields c.fields.index c.in-Some.field.now c.in-Some.ensures.value in
    let is = ap (λ (field : List ℕ). at_row c.args.row (tap_of field)) (field-is fields c.fields.index c.in-Some.field.now c.in-Some.ensures.value) in
    inr (field-refused c.fields.taps.items c.args.row c.fields.index fields [] c.in-Err.fault (row_taps c.args.row fields) within (is ∙ sym c.in-Err.ensures) c.fields.invariant)

pub fields-smaller : goal.fields-smaller
fields-smaller c = let within : c.fields.index < length (fields_of c.args.fields.now) = field-there (fields_of c.args.fields.now) c.fields.index c.in-Some.field.now c.in-Some.ensures.value in omega (arith, within)

pub fields-preserved : goal.fields-preserved
fields-preserved c =
    let fields = fields_of c.args.fields.now in
    let within : c.fields.index < length fields = field-there fields c.fields.index c.in-Some.field.now c.in-Some.ensures.value in
    let is = ap (λ (field : List ℕ). at_row c.args.row (tap_of field)) (field-is fields c.fields.index c.in-Some.field.now c.in-Some.ensures.value) in
    let fits : FitsSigned w64 c.in-Ok.tap = search rules in
    let same : to_z w64 (of_z w64 c.in-Ok.tap) ≡ c.in-Ok.tap = to_z-of_z w64 c.in-Ok.tap fits in
    let pushed = c.in_ok-push-in-Ok.ensures.items ∙ ap (λ (z : ℤ). c.fields.taps.items ++ z ∷ []) same in
    field-read c.fields.taps.items c.push.new.self.items c.args.row c.fields.index fields [] c.in-Ok.tap (row_taps c.args.row fields) within (is ∙ sym c.in-Ok.ensures) pushed c.fields.invariant

pub returns : goal.returns
returns c = all-read c.fields.taps.items c.args.row c.fields.index (fields_of c.args.fields.now) (row_taps c.args.row (fields_of c.args.fields.now)) c.in_default.ensures.value c.fields.invariant
