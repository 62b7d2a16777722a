-- A plan file is refused for one reason.
use Rattle.std.proofs.Common.{◌≡◌, ◌∙◌, ℕ, ℤ, List, [], ◌∷◌, ◌++◌, Some, Result, Ok, Err, ◌⊎◌, inl, inr, refl, sym, ap, subst}
use Rattle.std.proofs.lemmas.Option.{same_Some}
use Rattle.mr_values.specs.Files.{Files}
use Rattle.plan_check.specs.declared.fault.PlanFault.{PlanFault}
use Rattle.plan_check.specs.Accepted.{first_fault}
use Rattle.plan_reader.specs.declared.fault.PlanReadFault.{PlanReadFault}
use Rattle.plan_reader.specs.declared.fault.PlanReadFault.TheVariants.{NotToml, Field, Version, Memory}
use Rattle.plan_reader.specs.declared.fault.TapFault.TheVariants.{Bad}
use Rattle.plan_reader.specs.declared.fault.TapWhy.{TapWhy}
use Rattle.plan_reader.specs.declared.plan_texts.PlanText.{PlanText}
use Rattle.plan_reader.specs.declared.plan_texts.TapFile.{TapFile}
use Rattle.plan_reader.specs.Documents.{Says}
use Rattle.command_files.specs.declared.fault.CommandFault.{CommandFault}
use Rattle.command_files.specs.declared.fault.CommandFault.TheVariants as fault
use Rattle.command_files.specs.declared.fault.FileKind.TheVariants as file
use Rattle.command_files.specs.PlanFile.{HasTaps, Fills, IsTooLong, IsReached, HasLongTaps, HasBadTaps, SaysText, IsUnread, IsUnreadFile, IsUnacceptedFile, IsRefusedPlan}
use Rattle.command_files.proofs.AcceptSteps.{same_bytes, same_said, same_text, same_taps, same_plan, isnt_long, no_document, unread_isnt_said, has_each, has_taps}

-- ---- which tap file is reached first

-- the one list begins as the other up to a file of it
pub record StandsIn (tap_file : TapFile) (named : List TapFile) : Type 0 where
  pub front : List TapFile
  pub back : List TapFile
  pub order : front ++ tap_file ∷ back ≡ named

abbrev pub Compared : TapFile → TapFile → List TapFile → List TapFile → Type 0
Compared one two before after = (one ≡ two) ⊎ (StandsIn one after ⊎ StandsIn two before)

stands_on : (tap_file first : TapFile) (named : List TapFile) → StandsIn tap_file named → StandsIn tap_file (first ∷ named)
stands_on tap_file first named s = record { front = first ∷ s.front; back = s.back; order = ap (λ (rest : List TapFile). first ∷ rest) s.order }

compared_on : (one two first other : TapFile) (before after : List TapFile) → Compared one two before after → Compared one two (first ∷ before) (other ∷ after)
compared_on one two first other before after (inl same) = inl same
compared_on one two first other before after (inr (inl s)) = inr (inl (stands_on one other after s))
compared_on one two first other before after (inr (inr s)) = inr (inr (stands_on two first before s))

compared : (before : List TapFile) (one : TapFile) (behind after : List TapFile) (two : TapFile) (last : List TapFile) → before ++ one ∷ behind ≡ after ++ two ∷ last → Compared one two before after
compared [] one behind [] two last e = inl (let same : one ≡ two = cc in same)
compared [] one behind (first ∷ after) two last e = inr (inl (record { front = []; back = after; order = let same : one ≡ first = cc in ap (λ (f : TapFile). f ∷ after) same }))
compared (first ∷ before) one behind [] two last e = inr (inr (record { front = []; back = before; order = let same : first ≡ two = cc in ap (λ (f : TapFile). f ∷ before) (sym same) }))
compared (first ∷ before) one behind (other ∷ after) two last e = compared_on one two first other before after (compared before one behind after two last (let rest : before ++ one ∷ behind ≡ after ++ two ∷ last = cc in rest))

-- a tap file before one that is reached is there and says taps
said_before : (files : Files) (text : PlanText) (tap_file reached_file : TapFile) (reached : IsReached files text reached_file) → StandsIn tap_file reached.before → (taps : List ℤ) × HasTaps tap_file.name files (Ok taps)
said_before files text tap_file reached_file reached s =
    has_each files s.front tap_file s.back text.plan reached.part (subst (λ (named : List TapFile). Fills files named text.plan reached.part) (sym s.order) reached.filled)

-- a tap file that is reached and doesn't say taps
abbrev pub SaysNone : Files → TapFile → Type 0
SaysNone files tap_file = (taps : List ℤ) → ¬ HasTaps tap_file.name files (Ok taps)

long_says_none : (files : Files) (tap_file : TapFile) → IsTooLong tap_file.name files → SaysNone files tap_file
long_says_none files tap_file long taps has = isnt_long tap_file.name has.bytes files has.has long

bad_says_none : (files : Files) (tap_file : TapFile) (row : ℕ) (why : TapWhy) → HasTaps tap_file.name files (Err (Bad row why)) → SaysNone files tap_file
bad_says_none files tap_file row why bad taps has = let e = same_taps tap_file.name files (Ok taps) (Err (Bad row why)) has bad in absurd (cc)

-- so there is one
one_stop : (name : List ℕ) (files : Files) (text other : PlanText) (a b : TapFile) → SaysText name files text → SaysText name files other → (x : IsReached files text a) (y : IsReached files other b) → SaysNone files a → SaysNone files b → a ≡ b
one_stop name files text other a b said_a said_b x y none_a none_b = by (subst (λ (t : PlanText). IsReached files t b) (same_text name files other text said_b said_a) y)
  where
    by : IsReached files text b → a ≡ b
    by z = elim (compared x.before a x.after z.before b z.after (x.order ∙ sym z.order)) [
      | inl same ↦ same
      | inr (inl s) ↦ (let said = said_before files text a b z s in absurd (none_a said.0 said.1))
      | inr (inr s) ↦ (let said = said_before files text b a x s in absurd (none_b said.0 said.1))
    ]

-- ---- the kinds of a refusal exclude each other

long_isnt_said : (name : List ℕ) (files : Files) (text : PlanText) → IsTooLong name files → SaysText name files text → ⊥
long_isnt_said name files text long said = isnt_long name said.bytes files said.has long

unread_isnt_text : (name : List ℕ) (files : Files) (why : PlanReadFault) (text : PlanText) → IsUnreadFile name files why → SaysText name files text → ⊥
unread_isnt_text name files why text x y =
    let same : y.bytes ≡ x.bytes = same_bytes name files y.bytes x.bytes y.has.there x.has.there in
    unread_isnt_said x.bytes why text x.unread (subst (λ (bytes : List ℕ). Says bytes (Ok text)) same y.says)

said_isnt_document : (bytes : List ℕ) (a : Result PlanText PlanReadFault) → IsUnread bytes NotToml → Says bytes a → ⊥
said_isnt_document bytes a x y = no_document _ a (x.refused y.text) y.says

same_why : (bytes : List ℕ) (a b : PlanReadFault) → Says bytes (Err a) → Says bytes (Err b) → a ≡ b
same_why bytes a b x y = let e = same_said bytes (Err a) (Err b) x y in cc

one_unread : (bytes : List ℕ) (a b : PlanReadFault) → IsUnread bytes a → IsUnread bytes b → a ≡ b
one_unread bytes NotToml NotToml x y = refl
one_unread bytes NotToml (Field element field why) x y = absurd (said_isnt_document bytes (Err (Field element field why)) x y.refused)
one_unread bytes NotToml (Version found) x y = absurd (said_isnt_document bytes (Err (Version found)) x y.refused)
one_unread bytes (Field element field why) NotToml x y = absurd (said_isnt_document bytes (Err (Field element field why)) y x.refused)
one_unread bytes (Version found) NotToml x y = absurd (said_isnt_document bytes (Err (Version found)) y x.refused)
one_unread bytes (Field element field why) (Field other name reason) x y = same_why bytes (Field element field why) (Field other name reason) x.refused y.refused
one_unread bytes (Field element field why) (Version found) x y = same_why bytes (Field element field why) (Version found) x.refused y.refused
one_unread bytes (Version found) (Field element field why) x y = same_why bytes (Version found) (Field element field why) x.refused y.refused
one_unread bytes (Version found) (Version other) x y = same_why bytes (Version found) (Version other) x.refused y.refused
one_unread bytes Memory b x y = absurd (x.told refl)
one_unread bytes a Memory x y = absurd (y.told refl)

-- a tap file that stops the reading isn't part of a plan
stop_isnt_plan : (name : List ℕ) (files : Files) (why : PlanFault) (text : PlanText) (tap_file : TapFile) → IsUnacceptedFile name files why → SaysText name files text → IsReached files text tap_file → SaysNone files tap_file → ⊥
stop_isnt_plan name files why text tap_file x said reached none = let taps = has_taps name files x.plan text tap_file x.says said reached in none taps.0 taps.1

-- ---- one refusal

module _ (name : List ℕ) (files : Files) where
  long_once : (element : ℕ) (b : CommandFault) (text : PlanText) → SaysText name files text → HasLongTaps files text element → IsRefusedPlan name files b → fault.FileTooLong (file.Taps element) ≡ b
  long_once element (fault.FileTooLong file.Plan) text said x y = absurd (long_isnt_said name files text y said)
  long_once element (fault.FileTooLong (file.Taps other)) text said x (text', said', y) =
      let same = one_stop name files text text' x.tap_file y.tap_file said said' x.reached y.reached (long_says_none files x.tap_file x.long) (long_says_none files y.tap_file y.long) in
      let elements : element ≡ other = x.same ∙ ap (λ (f : TapFile). f.element) same ∙ sym y.same in
      ap (λ (e : ℕ). fault.FileTooLong (file.Taps e)) elements
  long_once element (fault.PlanRead why) text said x y = absurd (unread_isnt_text name files why text y said)
  long_once element (fault.Tap other row why) text said x (text', said', y) =
      let same = one_stop name files text text' x.tap_file y.tap_file said said' x.reached y.reached (long_says_none files x.tap_file x.long) (bad_says_none files y.tap_file row why y.bad) in
      absurd (isnt_long y.tap_file.name y.bad.bytes files y.bad.has (subst (λ (f : TapFile). IsTooLong f.name files) same x.long))
  long_once element (fault.Plan why) text said x y = absurd (stop_isnt_plan name files why text x.tap_file y said x.reached (long_says_none files x.tap_file x.long))
  long_once element _ text said x y = absurd y

  bad_once : (element row : ℕ) (why : TapWhy) (b : CommandFault) (text : PlanText) → SaysText name files text → HasBadTaps files text element row why → IsRefusedPlan name files b → fault.Tap element row why ≡ b
  bad_once element row why (fault.FileTooLong file.Plan) text said x y = absurd (long_isnt_said name files text y said)
  bad_once element row why (fault.FileTooLong (file.Taps other)) text said x (text', said', y) = sym (long_once other (fault.Tap element row why) text' said' y (text, said, x))
  bad_once element row why (fault.PlanRead reason) text said x y = absurd (unread_isnt_text name files reason text y said)
  bad_once element row why (fault.Tap other row' why') text said x (text', said', y) =
      let same = one_stop name files text text' x.tap_file y.tap_file said said' x.reached y.reached (bad_says_none files x.tap_file row why x.bad) (bad_says_none files y.tap_file row' why' y.bad) in
      let elements : element ≡ other = x.same ∙ ap (λ (f : TapFile). f.element) same ∙ sym y.same in
      let e = same_taps y.tap_file.name files (Err (Bad row why)) (Err (Bad row' why')) (subst (λ (f : TapFile). HasTaps f.name files (Err (Bad row why))) same x.bad) y.bad in
      let rows : row ≡ row' = cc in
      let whys : why ≡ why' = cc in
      ap (λ (n : ℕ). fault.Tap n row why) elements ∙ ap (λ (n : ℕ). fault.Tap other n why) rows ∙ ap (λ (w : TapWhy). fault.Tap other row' w) whys
  bad_once element row why (fault.Plan reason) text said x y = absurd (stop_isnt_plan name files reason text x.tap_file y said x.reached (bad_says_none files x.tap_file row why x.bad))
  bad_once element row why _ text said x y = absurd y

  unread_once : (why : PlanReadFault) (b : CommandFault) → IsUnreadFile name files why → IsRefusedPlan name files b → fault.PlanRead why ≡ b
  unread_once why (fault.FileTooLong file.Plan) x y = absurd (isnt_long name x.bytes files x.has y)
  unread_once why (fault.FileTooLong (file.Taps element)) x y = absurd (unread_isnt_text name files why y.0 x y.1)
  unread_once why (fault.PlanRead other) x y =
      let same : x.bytes ≡ y.bytes = same_bytes name files x.bytes y.bytes x.has.there y.has.there in
      ap (λ (w : PlanReadFault). fault.PlanRead w) (one_unread y.bytes why other (subst (λ (bytes : List ℕ). IsUnread bytes why) same x.unread) y.unread)
  unread_once why (fault.Tap element row reason) x y = absurd (unread_isnt_text name files why y.0 x y.1)
  unread_once why (fault.Plan reason) x y = absurd (unread_isnt_text name files why y.says.text x y.says.says)
  unread_once why _ x y = absurd y

  plan_once : (why : PlanFault) (b : CommandFault) → IsUnacceptedFile name files why → IsRefusedPlan name files b → fault.Plan why ≡ b
  plan_once why (fault.FileTooLong file.Plan) x y = absurd (long_isnt_said name files x.says.text y x.says.says)
  plan_once why (fault.FileTooLong (file.Taps element)) x y = sym (long_once element (fault.Plan why) y.0 y.1 y.2 x)
  plan_once why (fault.PlanRead other) x y = sym (unread_once other (fault.Plan why) y x)
  plan_once why (fault.Tap element row reason) x y = sym (bad_once element row reason (fault.Plan why) y.0 y.1 y.2 x)
  plan_once why (fault.Plan other) x y =
      let plans = same_plan name files x.plan y.plan x.says y.says in
      let e : Some why ≡ Some other = sym x.first ∙ ap first_fault plans ∙ y.first in
      ap (λ (w : PlanFault). fault.Plan w) (same_Some why other e)
  plan_once why _ x y = absurd y

  whole_once : (b : CommandFault) → IsTooLong name files → IsRefusedPlan name files b → fault.FileTooLong file.Plan ≡ b
  whole_once (fault.FileTooLong file.Plan) x y = refl
  whole_once (fault.FileTooLong (file.Taps element)) x y = absurd (long_isnt_said name files y.0 x y.1)
  whole_once (fault.PlanRead why) x y = absurd (isnt_long name y.bytes files y.has x)
  whole_once (fault.Tap element row why) x y = absurd (long_isnt_said name files y.0 x y.1)
  whole_once (fault.Plan why) x y = absurd (long_isnt_said name files y.says.text x y.says.says)
  whole_once _ x y = absurd y

  pub refused_once : (a b : CommandFault) → IsRefusedPlan name files a → IsRefusedPlan name files b → a ≡ b
  refused_once (fault.FileTooLong file.Plan) b x y = whole_once b x y
  refused_once (fault.FileTooLong (file.Taps element)) b x y = long_once element b x.0 x.1 x.2 y
  refused_once (fault.PlanRead why) b x y = unread_once why b x y
  refused_once (fault.Tap element row why) b x y = bad_once element row why b x.0 x.1 x.2 y
  refused_once (fault.Plan why) b x y = plan_once why b x y
  refused_once _ b x y = absurd x
