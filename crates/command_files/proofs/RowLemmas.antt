-- Steps of streaming the rows of a file.
use Rattle.std.proofs.Common.{◌≡◌, ◌≢◌, ◌∙◌, ℕ, zero, suc, ◌+◌, arith, zero-add, Bool, true, false, List, [], ◌∷◌, ◌++◌, drop, Option, Some, None, Result, Ok, Err, inl, inr, refl, sym, ap, subst, append_assoc, append-nil}
use Rattle.std.proofs.Math.Seq.{drop-nil}
use Rattle.sample_file.specs.declared.fault.LineFault.{LineFault}
use Rattle.row_stream.specs.Giving.{Giving, GivesSome, GoesOn, EndsOn, Takes, Closes}
use Rattle.row_stream.specs.declared.fault.StreamFault.{StreamFault}
use Rattle.row_stream.specs.declared.fault.StreamFault.TheVariants as stream
use Rattle.mr_values.specs.declared.host.HostCall.TheVariants.{Next, Put}
use Rattle.command_files.specs.declared.fault.RowsFault.{RowsFault}
use Rattle.command_files.specs.declared.fault.RowsFault.TheVariants.{HostFault, Memory, Line}
use Rattle.command_files.specs.RowSteps.{IsPart, HandedOn, GivesFront, Taken, none_left, Given, GivenOnce}

-- ---- points of a file

-- one part after another
pub goes_after : (a b c : Giving) (bytes middle left first second : List ℕ) → GoesOn a b bytes middle first → GoesOn b c middle left second → GoesOn a c bytes left (first ++ second)
goes_after a b c bytes middle left first second one two = record {
  gives = λ rest text last g. subst (λ (all : List ℕ). a (bytes ++ rest) all last) (sym (append_assoc first second text)) (one.gives rest (second ++ text) last (two.gives rest text last g));
}

-- the same where more bytes follow
pub goes_before : (a b : Giving) (bytes left extra more : List ℕ) → GoesOn a b bytes left more → GoesOn a b (bytes ++ extra) (left ++ extra) more
goes_before a b bytes left extra more one = record {
  gives = λ rest text last g. subst (λ (all : List ℕ). a all (more ++ text) last) (sym (append_assoc bytes extra rest))
      (one.gives (extra ++ rest) text last (subst (λ (all : List ℕ). b all text last) (append_assoc left extra rest) g));
}

-- nothing was taken and nothing given
pub goes_nowhere : (a : Giving) (bytes : List ℕ) → GoesOn a a bytes bytes []
goes_nowhere a bytes = record { gives = λ rest text last g. g }

pub drop-more : (n m : ℕ) (xs : List ℕ) → drop m (drop n xs) ≡ drop (n + m) xs
drop-more zero m xs = ap (λ (k : ℕ). drop k xs) (sym (zero-add m))
drop-more (suc n) m [] = drop-nil m ∙ sym (drop-nil (suc n + m))
drop-more (suc n) m (x ∷ xs) = drop-more n m xs ∙ (let next : suc (n + m) ≡ suc n + m = omega arith in ap (λ (k : ℕ). drop k (x ∷ xs)) next)

-- ---- fronts

pub front_some : (gives : Giving) (bytes : List ℕ) → GivesSome gives → GivesFront gives bytes []
front_some gives bytes some = let one = some bytes in (one.0, one.1, one.2)

front_of : (gives : Giving) (bytes front behind more : List ℕ) (last : Option LineFault) → more ≡ front ++ behind → gives bytes more last → GivesFront gives bytes front
front_of gives bytes front behind more last is g = (behind, last, subst (λ (all : List ℕ). gives bytes all last) is g)

-- what is given goes on behind a front
pub front_after : (a b : Giving) (bytes left rest one two : List ℕ) → GoesOn a b bytes left one → GivesFront b (left ++ rest) two → GivesFront a (bytes ++ rest) (one ++ two)
front_after a b bytes left rest one two goes front =
    (front.0, front.1, subst (λ (all : List ℕ). a (bytes ++ rest) all front.1) (sym (append_assoc one two front.0)) (goes.gives rest (two ++ front.0) front.1 front.2))

-- a part of what goes before something that is given
front_part : (a b : Giving) (bytes left rest more front behind : List ℕ) → GivesSome b → GoesOn a b bytes left more → more ≡ front ++ behind → GivesFront a (bytes ++ rest) front
front_part a b bytes left rest more front behind some goes is =
    let next = some (left ++ rest) in
    (behind ++ next.0, next.1, subst (λ (all : List ℕ). a (bytes ++ rest) all next.1) (ap (λ (all : List ℕ). all ++ next.0) is ∙ append_assoc front behind next.0) (goes.gives rest next.0 next.1 next.2))

-- the same at the end of the file
end_part : (a b : Giving) (more front behind : List ℕ) → GivesSome b → EndsOn a b more → more ≡ front ++ behind → GivesFront a [] front
end_part a b more front behind some ends is =
    let next = some [] in
    (behind ++ next.0, next.1, subst (λ (all : List ℕ). a [] all next.1) (ap (λ (all : List ℕ). all ++ next.0) is ∙ append_assoc front behind next.0) (ends.gives next.0 next.1 next.2))

-- ---- a call of a stream, and its output handed on

module _ (a b : Giving) (piece bytes : List ℕ) (some_a : GivesSome a) (some_b : GivesSome b) where
  part_taken : (answer : Result ℕ StreamFault) (front behind rest : List ℕ) → Takes a b piece [] answer bytes → answer ≢ Err stream.Memory → bytes ≡ front ++ behind → GivesFront a (piece ++ rest) front
  part_taken (Ok taken) front behind rest takes isnt is = front_part a b piece (drop taken piece) rest takes.0 front behind some_b takes.2 (sym takes.1 ∙ is)
  part_taken (Err (stream.Line fault)) front behind rest takes isnt is = front_of a (piece ++ rest) front behind takes.0 (Some fault) (sym takes.1 ∙ is) (takes.2 rest)
  part_taken (Err stream.Memory) front behind rest takes isnt is = absurd (isnt refl)

  part_taken_of : (answer : Result ℕ StreamFault) (front rest : List ℕ) → Takes a b piece [] answer bytes → IsPart answer bytes front → GivesFront a (piece ++ rest) front
  part_taken_of answer front rest takes (inl none) = subst (λ (all : List ℕ). GivesFront a (piece ++ rest) all) (sym none) (front_some a (piece ++ rest) some_a)
  part_taken_of answer front rest takes (inr (behind, isnt, is)) = part_taken answer front behind rest takes isnt is

  pub taken_on : (answer : Result ℕ StreamFault) (front : List ℕ) (result : Result ℕ RowsFault) → Takes a b piece [] answer bytes → HandedOn answer bytes front result → Taken (λ taken. drop taken piece) a b piece front result
  taken_on answer front (Ok taken) takes (same, all) =
      let t = subst (λ (r : Result ℕ StreamFault). Takes a b piece [] r bytes) same takes in
      subst (λ (more : List ℕ). GoesOn a b piece (drop taken piece) more) (sym (all ∙ t.1)) t.2
  taken_on answer front (Err (Line fault)) takes (same, all) = λ rest.
      let t = subst (λ (r : Result ℕ StreamFault). Takes a b piece [] r bytes) same takes in
      subst (λ (more : List ℕ). a (piece ++ rest) more (Some fault)) (sym (all ∙ t.1)) (t.2 rest)
  taken_on answer front (Err (HostFault Put)) takes part = λ rest. part_taken_of answer front rest takes part
  taken_on answer front (Err Memory) takes part = λ rest. part_taken_of answer front rest takes part
  taken_on answer front (Err _) takes handed = absurd handed

module _ (a b : Giving) (bytes : List ℕ) (some_a : GivesSome a) (some_b : GivesSome b) where
  part_closed : (answer : Result Bool StreamFault) (front behind : List ℕ) → Closes a b [] answer bytes → answer ≢ Err stream.Memory → bytes ≡ front ++ behind → GivesFront a [] front
  part_closed (Ok true) front behind closes isnt is = front_of a [] front behind closes.0 None (sym closes.1 ∙ is) closes.2
  part_closed (Ok false) front behind closes isnt is = end_part a b closes.0 front behind some_b closes.2 (sym closes.1 ∙ is)
  part_closed (Err (stream.Line fault)) front behind closes isnt is = front_of a [] front behind closes.0 (Some fault) (sym closes.1 ∙ is) closes.2
  part_closed (Err stream.Memory) front behind closes isnt is = absurd (isnt refl)

  part_closed_of : (answer : Result Bool StreamFault) (front : List ℕ) → Closes a b [] answer bytes → IsPart answer bytes front → GivesFront a [] front
  part_closed_of answer front closes (inl none) = subst (λ (all : List ℕ). GivesFront a [] all) (sym none) (front_some a [] some_a)
  part_closed_of answer front closes (inr (behind, isnt, is)) = part_closed answer front behind closes isnt is

  pub closed_on : (answer : Result Bool StreamFault) (front : List ℕ) (result : Result Bool RowsFault) → Closes a b [] answer bytes → HandedOn answer bytes front result → GivenOnce a b front result
  closed_on answer front (Ok true) closes (same, all) =
      let t = subst (λ (r : Result Bool StreamFault). Closes a b [] r bytes) same closes in
      subst (λ (more : List ℕ). a [] more None) (sym (all ∙ t.1)) t.2
  closed_on answer front (Ok false) closes (same, all) =
      let t = subst (λ (r : Result Bool StreamFault). Closes a b [] r bytes) same closes in
      subst (λ (more : List ℕ). EndsOn a b more) (sym (all ∙ t.1)) t.2
  closed_on answer front (Err (Line fault)) closes (same, all) =
      let t = subst (λ (r : Result Bool StreamFault). Closes a b [] r bytes) same closes in
      subst (λ (more : List ℕ). a [] more (Some fault)) (sym (all ∙ t.1)) t.2
  closed_on answer front (Err (HostFault Put)) closes part = part_closed_of answer front closes part
  closed_on answer front (Err Memory) closes part = part_closed_of answer front closes part
  closed_on answer front (Err _) closes handed = absurd handed

-- ---- one part after another

-- bytes were taken after others
pub taken_after : {A : Type 0} (left_by : A → List ℕ) (a b c : Giving) (bytes left one two : List ℕ) (result : Result A RowsFault) → GoesOn a b bytes left one → Taken left_by b c left two result → Taken left_by a c bytes (one ++ two) result
taken_after left_by a b c bytes left one two (Ok x) goes taken = goes_after a b c bytes left (left_by x) one two goes taken
taken_after left_by a b c bytes left one two (Err (Line fault)) goes taken = λ rest. goes.gives rest two (Some fault) (taken rest)
taken_after left_by a b c bytes left one two (Err (HostFault Next)) goes taken = λ rest. front_after a b bytes left rest one two goes (taken rest)
taken_after left_by a b c bytes left one two (Err (HostFault Put)) goes taken = λ rest. front_after a b bytes left rest one two goes (taken rest)
taken_after left_by a b c bytes left one two (Err Memory) goes taken = λ rest. front_after a b bytes left rest one two goes (taken rest)
taken_after left_by a b c bytes left one two (Err _) goes taken = absurd taken

-- what was given up for bytes holds where more bytes follow
pub failed_before : {A B : Type 0} (left_by : A → List ℕ) (left_by' : B → List ℕ) (a b c : Giving) (bytes extra front : List ℕ) (fault : RowsFault) → Taken left_by a b bytes front (Err fault) → Taken left_by' a c (bytes ++ extra) front (Err fault)
failed_before left_by left_by' a b c bytes extra front (Line fault) taken = λ rest. subst (λ (all : List ℕ). a all front (Some fault)) (sym (append_assoc bytes extra rest)) (taken (extra ++ rest))
failed_before left_by left_by' a b c bytes extra front (HostFault Next) taken = λ rest. subst (λ (all : List ℕ). GivesFront a all front) (sym (append_assoc bytes extra rest)) (taken (extra ++ rest))
failed_before left_by left_by' a b c bytes extra front (HostFault Put) taken = λ rest. subst (λ (all : List ℕ). GivesFront a all front) (sym (append_assoc bytes extra rest)) (taken (extra ++ rest))
failed_before left_by left_by' a b c bytes extra front Memory taken = λ rest. subst (λ (all : List ℕ). GivesFront a all front) (sym (append_assoc bytes extra rest)) (taken (extra ++ rest))
failed_before left_by left_by' a b c bytes extra front _ taken = absurd taken

-- ---- the end of the file

-- what is given at the end of the file stands behind what is given for these bytes
abbrev pub StandsBehind : Giving → Giving → List ℕ → List ℕ → Type 0
StandsBehind a b bytes one = (text : List ℕ) (last : Option LineFault) → b [] text last → a bytes (one ++ text) last

pub at_end : (a b : Giving) (bytes one : List ℕ) → GoesOn a b bytes [] one → StandsBehind a b bytes one
at_end a b bytes one goes text last g = subst (λ (all : List ℕ). a all (one ++ text) last) (append-nil bytes) (goes.gives [] text last g)

front_at_end : (a b : Giving) (bytes one two : List ℕ) → StandsBehind a b bytes one → GivesFront b [] two → GivesFront a bytes (one ++ two)
front_at_end a b bytes one two goes front =
    (front.0, front.1, subst (λ (all : List ℕ). a bytes all front.1) (sym (append_assoc one two front.0)) (goes (two ++ front.0) front.1 front.2))

-- the end of the file comes after bytes
pub given_after : (a b : Giving) (bytes one two : List ℕ) (result : Result (Unit {0}) RowsFault) → StandsBehind a b bytes one → Given b [] two result → Given a bytes (one ++ two) result
given_after a b bytes one two (Ok done) goes given = goes two None given
given_after a b bytes one two (Err (Line fault)) goes given = goes two (Some fault) given
given_after a b bytes one two (Err (HostFault Next)) goes given = front_at_end a b bytes one two goes given
given_after a b bytes one two (Err (HostFault Put)) goes given = front_at_end a b bytes one two goes given
given_after a b bytes one two (Err Memory) goes given = front_at_end a b bytes one two goes given
given_after a b bytes one two (Err _) goes given = absurd given

-- one call at the end of the file after another
pub ends_then : (a b c : Giving) (one two : List ℕ) → EndsOn a b one → EndsOn b c two → EndsOn a c (one ++ two)
ends_then a b c one two first second = record {
  gives = λ text last g. subst (λ (all : List ℕ). a [] all last) (sym (append_assoc one two text)) (first.gives (two ++ text) last (second.gives text last g));
}

-- bytes up to the end of the file were given up
pub given_up : (a b : Giving) (bytes front : List ℕ) (fault : RowsFault) → Taken none_left a b bytes front (Err fault) → Given a bytes front (Err fault)
given_up a b bytes front (Line fault) taken = subst (λ (all : List ℕ). a all front (Some fault)) (append-nil bytes) (taken [])
given_up a b bytes front (HostFault Next) taken = subst (λ (all : List ℕ). GivesFront a all front) (append-nil bytes) (taken [])
given_up a b bytes front (HostFault Put) taken = subst (λ (all : List ℕ). GivesFront a all front) (append-nil bytes) (taken [])
given_up a b bytes front Memory taken = subst (λ (all : List ℕ). GivesFront a all front) (append-nil bytes) (taken [])
given_up a b bytes front _ taken = absurd taken
