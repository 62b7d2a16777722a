-- A plan file and its tap files have one answer.
use Rattle.std.proofs.Common.{◌≡◌, ◌∙◌, ◌≤◌, ◌^◌, List, [], ◌∷◌, ◌++◌, ℕ, ℤ, length, Option, Some, None, option_map, Result, Ok, Err, inl, inr, sym, ap, subst, refl, arith}
use Rattle.std.proofs.lemmas.Option.{same_Some}
use Rattle.std.specs.FinMap.{get}
use Rattle.toml.specs.Data.{Members}
use Rattle.toml.specs.Parse.{parse_document}
use Rattle.mr_values.specs.Files.{Files}
use Rattle.mr_values.specs.declared.plan.Plan.{Plan}
use Rattle.plan_check.specs.Accepted.{first_fault}
use Rattle.plan_reader.specs.declared.fault.PlanReadFault.{PlanReadFault}
use Rattle.plan_reader.specs.declared.fault.PlanReadFault.TheVariants.{NotToml, Field, Version, Memory}
use Rattle.plan_reader.specs.declared.fault.TapFault.{TapFault}
use Rattle.plan_reader.specs.declared.fault.TapFault.TheVariants.{Bad}
use Rattle.plan_reader.specs.declared.plan_texts.PlanText.{PlanText}
use Rattle.plan_reader.specs.declared.plan_texts.TapFile.{TapFile}
use Rattle.plan_reader.specs.Documents.{plan_of, Says}
use Rattle.plan_reader.specs.TapFields.{SaysTaps}
use Rattle.plan_reader.specs.Tapped.{plan_tapped}
use Rattle.plan_reader.proofs.OneAnswer.{one_answer}
use Rattle.command_files.specs.declared.fault.CommandFault.{CommandFault}
use Rattle.command_files.specs.declared.fault.CommandFault.TheVariants as fault
use Rattle.command_files.specs.declared.fault.FileKind.TheVariants as file
use Rattle.command_files.specs.Ends.{IsMissing}
use Rattle.command_files.specs.PlanFile.{HasFile, IsTooLong, HasTaps, Fills, IsReached, SaysText, SaysPlan, IsAcceptedFile, IsUnread, IsRefusedPlan, IsOfPlan}

-- ---- one answer

pub same_bytes : (name : List ℕ) (files : Files) (a b : List ℕ) → get files name ≡ Some a → get files name ≡ Some b → a ≡ b
same_bytes name files a b x y = same_Some a b (sym x ∙ y)

pub isnt_long : (name bytes : List ℕ) (files : Files) → HasFile name files bytes → IsTooLong name files → ⊥
isnt_long name bytes files has long =
    let same : long.bytes ≡ bytes = same_bytes name files long.bytes bytes long.there has.there in
    let short : length long.bytes ≤ 2 ^ 20 = rw same has.short in
    omega (arith, short, long.long)

pub same_said : (bytes : List ℕ) (a b : Result PlanText PlanReadFault) → Says bytes a → Says bytes b → a ≡ b
same_said bytes a b x y = same_Some a b (sym x.says ∙ y.says)

pub same_text : (name : List ℕ) (files : Files) (a b : PlanText) → SaysText name files a → SaysText name files b → a ≡ b
same_text name files a b x y =
    let same : x.bytes ≡ y.bytes = same_bytes name files x.bytes y.bytes x.has.there y.has.there in
    let e = same_said y.bytes (Ok a) (Ok b) (subst (λ (bytes : List ℕ). Says bytes (Ok a)) same x.says) y.says in
    cc

pub same_taps : (name : List ℕ) (files : Files) (a b : Result (List ℤ) TapFault) → HasTaps name files a → HasTaps name files b → a ≡ b
same_taps name files a b x y =
    let same : x.bytes ≡ y.bytes = same_bytes name files x.bytes y.bytes x.has.there y.has.there in
    one_answer y.bytes a b (subst (λ (bytes : List ℕ). SaysTaps bytes a) same x.says) y.says

same_list : (name : List ℕ) (files : Files) (a b : List ℤ) → HasTaps name files (Ok a) → HasTaps name files (Ok b) → a ≡ b
same_list name files a b x y = let e = same_taps name files (Ok a) (Ok b) x y in cc

same_whole : (files : Files) (named : List TapFile) (plan a b : Plan) → Fills files named plan a → Fills files named plan b → a ≡ b
same_whole files [] plan a b x y = x ∙ sym y
same_whole files (tap_file ∷ others) plan a b x y =
    let same = same_list tap_file.name files x.0 y.0 x.1 y.1 in
    same_whole files others (plan_tapped tap_file.element y.0 plan) a b (subst (λ (taps : List ℤ). Fills files others (plan_tapped tap_file.element taps plan) a) same x.2) y.2

pub same_plan : (name : List ℕ) (files : Files) (a b : Plan) → SaysPlan name files a → SaysPlan name files b → a ≡ b
same_plan name files a b x y =
    let same = same_text name files x.text y.text x.says y.says in
    same_whole files y.text.files y.text.plan a b (subst (λ (text : PlanText). Fills files text.files text.plan a) same x.filled) y.filled

-- ---- a plan that is accepted isn't refused

pub no_document : (found : Option Members) (a : Result PlanText PlanReadFault) → found ≡ None → option_map plan_of found ≡ Some a → ⊥
no_document None a e h = cc
no_document (Some ms) a e h = cc

pub unread_isnt_said : (bytes : List ℕ) (why : PlanReadFault) (text : PlanText) → IsUnread bytes why → Says bytes (Ok text) → ⊥
unread_isnt_said bytes NotToml text x y = no_document (parse_document bytes) (Ok text) (x.refused y.text) y.says
unread_isnt_said bytes (Field element field why) text x y = let e = same_said bytes (Err (Field element field why)) (Ok text) x.refused y in cc
unread_isnt_said bytes (Version found) text x y = let e = same_said bytes (Err (Version found)) (Ok text) x.refused y in cc
unread_isnt_said bytes Memory text x y = x.told refl

pub has_each : (files : Files) (before : List TapFile) (tap_file : TapFile) (after : List TapFile) (plan whole : Plan) → Fills files (before ++ tap_file ∷ after) plan whole → (taps : List ℤ) × HasTaps tap_file.name files (Ok taps)
has_each files [] tap_file after plan whole x = (x.0, x.1)
has_each files (first ∷ others) tap_file after plan whole x = has_each files others tap_file after (plan_tapped first.element x.0 plan) whole x.2

-- each tap file of a plan is there and says taps
pub has_taps : (name : List ℕ) (files : Files) (plan : Plan) (text : PlanText) (tap_file : TapFile) → SaysPlan name files plan → SaysText name files text → IsReached files text tap_file → (taps : List ℤ) × HasTaps tap_file.name files (Ok taps)
has_taps name files plan text tap_file x y reached =
    let same = same_text name files x.text text x.says y in
    let filled : Fills files text.files text.plan plan = subst (λ (t : PlanText). Fills files t.files t.plan plan) same x.filled in
    has_each files reached.before tap_file reached.after text.plan plan (subst (λ (named : List TapFile). Fills files named text.plan plan) (sym reached.order) filled)

pub accepted_isnt_refused : (name : List ℕ) (files : Files) (plan : Plan) (why : CommandFault) → IsAcceptedFile name files plan → IsRefusedPlan name files why → ⊥
accepted_isnt_refused name files plan (fault.FileTooLong file.Plan) x y = isnt_long name x.says.says.bytes files x.says.says.has y
accepted_isnt_refused name files plan (fault.FileTooLong (file.Taps element)) x y =
    let taps = has_taps name files plan y.0 y.2.tap_file x.says y.1 y.2.reached in
    isnt_long y.2.tap_file.name taps.1.bytes files taps.1.has y.2.long
accepted_isnt_refused name files plan (fault.PlanRead why) x y =
    let same : x.says.says.bytes ≡ y.bytes = same_bytes name files x.says.says.bytes y.bytes x.says.says.has.there y.has.there in
    unread_isnt_said y.bytes why x.says.text y.unread (subst (λ (bytes : List ℕ). Says bytes (Ok x.says.text)) same x.says.says.says)
accepted_isnt_refused name files plan (fault.Tap element row why) x y =
    let taps = has_taps name files plan y.0 y.2.tap_file x.says y.1 y.2.reached in
    let e = same_taps y.2.tap_file.name files (Ok taps.0) (Err (Bad row why)) taps.1 y.2.bad in
    cc
accepted_isnt_refused name files plan (fault.Plan why) x y =
    let same = same_plan name files y.plan plan y.says x.says in
    let passes : first_fault y.plan ≡ None = ap first_fault same ∙ x.accepted.passes in
    let fails = y.first in
    cc
accepted_isnt_refused name files plan _ x y = absurd y

there_isnt_missing : (found : Option (List ℕ)) (bytes : List ℕ) → found ≡ Some bytes → found ≡ None → ⊥
there_isnt_missing found bytes there gone = cc

-- its files are there
pub accepted_isnt_missing : (name : List ℕ) (files : Files) (plan : Plan) → IsAcceptedFile name files plan → IsMissing (IsOfPlan name) files → ⊥
accepted_isnt_missing name files plan x (other, inl same, gone) = there_isnt_missing (get files name) x.says.says.bytes x.says.says.has.there (ap (get files) (sym same) ∙ gone)
accepted_isnt_missing name files plan x (other, inr (text, says, (tap_file, reached, same)), gone) =
    let taps = has_taps name files plan text tap_file x.says says reached in
    there_isnt_missing (get files tap_file.name) taps.1.bytes taps.1.has.there (ap (get files) (sym same) ∙ gone)
