-- The loop over the rows of a file.
use Rattle.std.proofs.Common.{Ordering, Less, Equal, Greater, ◌≡◌, ◌≢◌, ◌∙◌, ℕ, ◌+◌, ◌≤◌, Bool, cond, true, false, IsTrue, List, [], ◌++◌, length, drop, take, unwrap_or, IsSome, is_err, Option, Some, None, Result, Ok, Err, inl, inr, refl, sym, ap, subst, append_assoc, append-nil}
use Rattle.std.proofs.lemmas.List.{take-append-drop}
use Rattle.std.proofs.Math.Seq.{take-append_seam}
use Rattle.std.proofs.Math.ListN.{drop_of_length-le}
use Rattle.std.specs.Ordering.{nat_cmp, is_eq}
use Rattle.std.specs.Cmp.Lexicographic.{slice_cmp, nat_list_cmp_total}
use Rattle.std.specs.FinMap.{get, insert, get-insert, slice_cmp-IsAntisymmetric, nat_cmp-IsAntisymmetric}
use Rattle.mr_values.specs.Files.{Files, bytes_of}
use Rattle.mr_values.specs.Host.{HostState, HasCause, OpensInput, Reads, Appends, GrowsBy, left_of}
use Rattle.mr_values.specs.declared.host.Failed.{Failed as FailedCall}
use Rattle.mr_values.specs.declared.host.OutFail.{OutFail}
use Rattle.mr_values.specs.declared.host.HostCall.TheVariants.{Next, OpenOutput, Put}
use Rattle.sample_file.specs.declared.fault.LineFault.{LineFault}
use Rattle.row_stream.specs.Giving.{Giving, GivesSome, GoesOn, EndsOn, Takes, Closes}
use Rattle.row_stream.specs.declared.fault.StreamFault.{StreamFault}
use Rattle.command_files.specs.declared.fault.RowsFault.{RowsFault}
use Rattle.command_files.specs.declared.fault.RowsFault.TheVariants.{HostFault, Memory, Line}
use Rattle.command_files.specs.Ends.{EndsWith, IsNoFile, AreNoFewer, IsReadToEnd}
use Rattle.command_files.specs.WholeFiles.{IsEmptied}
use Rattle.command_files.specs.RowFiles.{RowsEnd, HoldsGiven, HoldsGivenFront}
use Rattle.command_files.specs.RowSteps.{Appended, PutAnswer, PutsOut, HandsOn, GivesFront, Taken, TakesPiece, TakesRows, EndsOnce, EndsRows, none_left, Given, OpensOut}
use Rattle.command_files.proofs.EndsKept.{read_kept, ended_before, ended_after}
use Rattle.command_files.proofs.FileSteps.{bytes_of-insert, insert-insert}
use Rattle.command_files.proofs.RowLemmas.{goes_after, goes_before, goes_nowhere, drop-more, front_some, front_after, taken_on, closed_on, taken_after, failed_before, at_end, given_after, ends_then, given_up}

-- ---- files

not_tied : {X : Type 0} (r : Ordering) (q name : List ℕ) (x y : X) → (r ≡ Equal → q ≡ name) → q ≢ name → cond (is_eq r) x y ≡ y
not_tied Less q name x y tied isnt = refl
not_tied Equal q name x y tied isnt = absurd (isnt (tied refl))
not_tied Greater q name x y tied isnt = refl

-- a file of another name is as it was
pub other_file : (files : Files) (name bytes q : List ℕ) → q ≢ name → get (insert files name bytes) q ≡ get files q
other_file files name bytes q isnt =
    get-insert nat_list_cmp_total files name bytes q ∙ not_tied (slice_cmp nat_cmp q name) q name (Some bytes) (get files q) (slice_cmp-IsAntisymmetric nat_cmp-IsAntisymmetric q name) isnt

pub other_bytes : (files : Files) (name bytes q : List ℕ) → q ≢ name → bytes_of (insert files name bytes) q ≡ bytes_of files q
other_bytes files name bytes q isnt = ap (λ (found : Option (List ℕ)). unwrap_or found []) (other_file files name bytes q isnt)

-- what is left of the input doesn't depend on the output
left_same : (base : Files) (output one two : List ℕ) (a b : HostState) → a.input ≢ output → a.files ≡ insert base output one → b.files ≡ insert base output two → b.input ≡ a.input → b.place ≡ a.place → left_of b ≡ left_of a
left_same base output one two a b isnt is_a is_b input place =
    let in_b : bytes_of b.files b.input ≡ bytes_of base a.input = ap (λ (files : Files). bytes_of files b.input) is_b ∙ ap (λ (name : List ℕ). bytes_of (insert base output two) name) input ∙ other_bytes base output two a.input isnt in
    let in_a : bytes_of a.files a.input ≡ bytes_of base a.input = ap (λ (files : Files). bytes_of files a.input) is_a ∙ other_bytes base output one a.input isnt in
    ap (λ (n : ℕ). drop n (bytes_of b.files b.input)) place ∙ ap (λ (bytes : List ℕ). drop a.place bytes) (in_b ∙ sym in_a)

pub appended_after : (one two : List ℕ) (a b c : HostState) → Appended one a b → b.output ≡ a.output → Appended two b c → Appended (one ++ two) a c
appended_after one two a b c first output second = λ base sent is.
    subst (λ (name : List ℕ). c.files ≡ insert base name (sent ++ (one ++ two))) output
    (subst (λ (bytes : List ℕ). c.files ≡ insert base b.output bytes) (append_assoc sent one two)
    (second base (sent ++ one) (subst (λ (name : List ℕ). b.files ≡ insert base name (sent ++ one)) (sym output) (first base sent is))))

pub appended_nothing : (a b : HostState) → b.files ≡ a.files → Appended [] a b
appended_nothing a b same = λ base sent is. same ∙ is ∙ ap (λ (bytes : List ℕ). insert base a.output bytes) (sym (append-nil sent))

-- ---- one output

grown_by : (piece : List ℕ) (old new : HostState) → GrowsBy piece old new → Appended piece old new
grown_by piece old new grown = λ base sent is. grown ∙ rw (is, bytes_of-insert base old.output sent, insert-insert base old.output sent (sent ++ piece)) refl

pub put_done : (bytes piece : List ℕ) (old new : HostState) → piece ≡ bytes → Appends piece (Ok tt) old new → PutsOut bytes (Ok tt) old new
put_done bytes piece old new is put = record { front = piece; answer = is; grown = grown_by piece old new put.appended.0; input = put.input; place = put.place; output = put.appended.1 }

pub put_failed : (bytes piece : List ℕ) (fault : RowsFault) (why : OutFail) (old new : HostState) → piece ≡ bytes → Appends piece (Err why) old new
    → ((front : List ℕ) → ((behind : List ℕ) × (bytes ≡ front ++ behind)) → PutAnswer bytes front (Err fault)) → PutsOut bytes (Err fault) old new
put_failed bytes piece fault why old new is put answer =
    let front = take put.refused.0 piece in
    record {
      front = front;
      answer = answer front (drop put.refused.0 piece, sym is ∙ sym (take-append-drop put.refused.0 piece));
      grown = grown_by front old new put.refused.1;
      input = put.input;
      place = put.place;
      output = tt;
    }

pub put_nothing : (bytes : List ℕ) (host : HostState) → bytes ≡ [] → PutsOut bytes (Ok tt) host host
put_nothing bytes host none = record { front = []; answer = sym none; grown = appended_nothing host host refl; input = refl; place = refl; output = refl }

-- ---- one call

pub turn_taken : (a b : Giving) (piece bytes : List ℕ) (answer : Result ℕ StreamFault) (result : Result ℕ RowsFault) (old new : HostState) → GivesSome a → GivesSome b → Takes a b piece [] answer bytes
    → HandsOn answer bytes result old new → TakesPiece (λ taken. drop taken piece) a b piece result old new
turn_taken a b piece bytes answer result old new some_a some_b takes h = record {
  front = h.front;
  answer = taken_on a b piece bytes some_a some_b answer h.front result takes h.handed;
  grown = h.grown;
  input = h.input;
  place = h.place;
  output = h.output;
}

pub turn_ended : (a b : Giving) (bytes : List ℕ) (answer : Result Bool StreamFault) (result : Result Bool RowsFault) (old new : HostState) → GivesSome a → GivesSome b → Closes a b [] answer bytes
    → HandsOn answer bytes result old new → EndsOnce a b result old new
turn_ended a b bytes answer result old new some_a some_b closes h = record {
  front = h.front;
  answer = closed_on a b bytes some_a some_b answer h.front result closes h.handed;
  grown = h.grown;
  input = h.input;
  place = h.place;
  output = h.output;
}

-- ---- a piece

pub piece_begun : (a : Giving) (piece : List ℕ) (host : HostState) → TakesPiece (λ (taken : ℕ). drop taken piece) a a piece (Ok 0) host host
piece_begun a piece host = record { front = []; answer = goes_nowhere a piece; grown = appended_nothing host host refl; input = refl; place = refl; output = refl }

module _ (a b : Giving) (piece left : List ℕ) (before : ℕ) (old middle new : HostState) (is_left : left ≡ drop before piece) (one : TakesPiece (λ (taken : ℕ). drop taken piece) a b piece (Ok before) old middle) where
  goes : GoesOn a b piece left one.front
  goes = subst (λ (bytes : List ℕ). GoesOn a b piece bytes one.front) (sym is_left) one.answer

  grown_on : (two : List ℕ) → Appended two middle new → Appended (one.front ++ two) old new
  grown_on two more = appended_after one.front two old middle new one.grown one.output more

  pub piece_more : (c : Giving) (taken : ℕ) → TakesPiece (λ (count : ℕ). drop count left) b c left (Ok taken) middle new → TakesPiece (λ (count : ℕ). drop count piece) a c piece (Ok (before + taken)) old new
  piece_more c taken two = record {
    front = one.front ++ two.front;
    answer = subst (λ (bytes : List ℕ). GoesOn a c piece bytes (one.front ++ two.front)) (ap (λ (bytes : List ℕ). drop taken bytes) is_left ∙ drop-more before taken piece)
        (goes_after a b c piece left (drop taken left) one.front two.front goes two.answer);
    grown = grown_on two.front two.grown;
    input = two.input ∙ one.input;
    place = two.place ∙ one.place;
    output = two.output ∙ one.output;
  }

  pub piece_failed : (c d : Giving) (fault : RowsFault) → TakesPiece (λ (count : ℕ). drop count left) b c left (Err fault) middle new → TakesPiece none_left a d piece (Err fault) old new
  piece_failed c d fault two = record {
    front = one.front ++ two.front;
    answer = failed_of (taken_after (λ (count : ℕ). drop count left) a b c piece left one.front two.front (Err fault) goes two.answer);
    grown = grown_on two.front two.grown;
    input = two.input ∙ one.input;
    place = two.place ∙ one.place;
    output = tt;
  }
    where
      failed_of : Taken (λ (count : ℕ). drop count left) a c piece (one.front ++ two.front) (Err fault) → Taken none_left a d piece (one.front ++ two.front) (Err fault)
      failed_of taken = subst (λ (bytes : List ℕ). Taken none_left a d bytes (one.front ++ two.front) (Err fault)) (append-nil piece) (failed_before (λ (count : ℕ). drop count left) none_left a c d piece [] (one.front ++ two.front) fault taken)

pub piece_done : (a b : Giving) (piece : List ℕ) (taken : ℕ) (old new : HostState) → length piece ≤ taken → TakesPiece (λ (count : ℕ). drop count piece) a b piece (Ok taken) old new → TakesPiece none_left a b piece (Ok tt) old new
piece_done a b piece taken old new all one = record {
  front = one.front;
  answer = subst (λ (bytes : List ℕ). GoesOn a b piece bytes one.front) (drop_of_length-le piece all) one.answer;
  grown = one.grown;
  input = one.input;
  place = one.place;
  output = one.output;
}

-- ---- all pieces

-- what was read so far and put, behind what was sent before
pub record RowsSoFar (start now : Giving) (base : Files) (sent : List ℕ) (old new : HostState) : Type 0 where
  pub seen : List ℕ
  pub front : List ℕ
  pub goes : GoesOn start now seen [] front
  pub read : left_of old ≡ seen ++ left_of new
  pub grown : new.files ≡ insert base old.output (sent ++ front)
  pub input : new.input ≡ old.input
  pub output : new.output ≡ old.output

pub rows_begun : (a : Giving) (base : Files) (sent : List ℕ) (host : HostState) → host.files ≡ insert base host.output sent → RowsSoFar a a base sent host host
rows_begun a base sent host is = record {
  seen = [];
  front = [];
  goes = goes_nowhere a [];
  read = refl;
  grown = is ∙ ap (λ (bytes : List ℕ). insert base host.output bytes) (sym (append-nil sent));
  input = refl;
  output = refl;
}

-- nothing is left of the input
pub rows_done : (a b : Giving) (base : Files) (sent : List ℕ) (old middle new : HostState) → RowsSoFar a b base sent old middle → left_of middle ≡ [] → left_of new ≡ left_of middle → new.files ≡ middle.files → new.input ≡ middle.input
    → new.output ≡ middle.output → IsReadToEnd middle.input old new → TakesRows a b base sent (Ok tt) old new
rows_done a b base sent old middle new so_far none left files input output ended = record {
  front = so_far.front;
  answer = subst (λ (bytes : List ℕ). GoesOn a b bytes [] so_far.front) (sym (so_far.read ∙ ap (λ (bytes : List ℕ). so_far.seen ++ bytes) none ∙ append-nil so_far.seen)) so_far.goes;
  grown = files ∙ so_far.grown;
  input = input ∙ so_far.input;
  ended = left ∙ none;
  read = subst (λ (name : List ℕ). IsReadToEnd name old new) so_far.input ended;
  output = output ∙ so_far.output;
}

-- the next bytes couldn't be read
pub rows_unread : (a b c : Giving) (base : Files) (sent : List ℕ) (old middle new : HostState) → GivesSome b → RowsSoFar a b base sent old middle → new.files ≡ middle.files → TakesRows a c base sent (Err (HostFault Next)) old new
rows_unread a b c base sent old middle new some so_far files = record {
  front = so_far.front;
  answer = λ rest. subst (λ (front : List ℕ). GivesFront a (left_of old ++ rest) front) (append-nil so_far.front)
      (subst (λ (bytes : List ℕ). GivesFront a bytes (so_far.front ++ [])) (sym (ap (λ (bytes : List ℕ). bytes ++ rest) so_far.read ∙ append_assoc so_far.seen (left_of middle) rest))
      (front_after a b so_far.seen [] (left_of middle ++ rest) so_far.front [] so_far.goes (front_some b (left_of middle ++ rest) some)));
  grown = files ∙ so_far.grown;
  input = tt;
  ended = tt;
  read = tt;
  output = tt;
}

module _ (a b : Giving) (base : Files) (sent piece : List ℕ) (old middle read new : HostState) (so_far : RowsSoFar a b base sent old middle) (isnt : old.input ≢ old.output)
    (bytes : left_of middle ≡ piece ++ left_of read) (files : read.files ≡ middle.files) (input : read.input ≡ middle.input) (output : read.output ≡ middle.output) where
  before : read.files ≡ insert base read.output (sent ++ so_far.front)
  before = files ∙ so_far.grown ∙ ap (λ (name : List ℕ). insert base name (sent ++ so_far.front)) (sym (output ∙ so_far.output))

  after : (two : List ℕ) → Appended two read new → new.files ≡ insert base old.output (sent ++ (so_far.front ++ two))
  after two more = subst (λ (all : List ℕ). new.files ≡ insert base old.output all) (append_assoc sent so_far.front two)
      (subst (λ (name : List ℕ). new.files ≡ insert base name ((sent ++ so_far.front) ++ two)) (output ∙ so_far.output) (more base (sent ++ so_far.front) before))

  goes_piece : GoesOn a b (so_far.seen ++ piece) piece so_far.front
  goes_piece = goes_before a b so_far.seen [] piece so_far.front so_far.goes

  -- a piece was read and taken
  pub rows_more : (c : Giving) → TakesPiece none_left b c piece (Ok tt) read new → RowsSoFar a c base sent old new
  rows_more c two =
      let grown = after two.front two.grown in
      let left : left_of new ≡ left_of read =
      left_same base old.output (sent ++ so_far.front) (sent ++ (so_far.front ++ two.front)) read new (subst (λ (name : List ℕ). name ≢ old.output) (sym (input ∙ so_far.input)) isnt) (files ∙ so_far.grown) grown two.input two.place in
      record {
        seen = so_far.seen ++ piece;
        front = so_far.front ++ two.front;
        goes = goes_after a b c (so_far.seen ++ piece) piece [] so_far.front two.front goes_piece two.answer;
        read = so_far.read ∙ ap (λ (all : List ℕ). so_far.seen ++ all) (bytes ∙ ap (λ (all : List ℕ). piece ++ all) (sym left)) ∙ sym (append_assoc so_far.seen piece (left_of new));
        grown = grown;
        input = two.input ∙ input ∙ so_far.input;
        output = two.output ∙ output ∙ so_far.output;
      }

  -- a piece was read, and its rows are given up
  pub rows_failed : (c d : Giving) (fault : RowsFault) → TakesPiece none_left b c piece (Err fault) read new → TakesRows a d base sent (Err fault) old new
  rows_failed c d fault two = record {
    front = so_far.front ++ two.front;
    answer = subst (λ (all : List ℕ). Taken none_left a d all (so_far.front ++ two.front) (Err fault))
        (append_assoc so_far.seen piece (left_of read) ∙ sym (so_far.read ∙ ap (λ (all : List ℕ). so_far.seen ++ all) bytes))
        (failed_before none_left none_left a c d (so_far.seen ++ piece) (left_of read) (so_far.front ++ two.front) fault
        (taken_after none_left a b c (so_far.seen ++ piece) piece so_far.front two.front (Err fault) goes_piece two.answer));
    grown = after two.front two.grown;
    input = tt;
    ended = tt;
    read = tt;
    output = tt;
  }

-- ---- the end

-- what was put so far at the end of the file
pub record EndSoFar (start now : Giving) (old new : HostState) : Type 0 where
  pub front : List ℕ
  pub goes : EndsOn start now front
  pub grown : Appended front old new
  pub input : new.input ≡ old.input
  pub place : new.place ≡ old.place
  pub output : new.output ≡ old.output

pub end_begun : (a : Giving) (host : HostState) → EndSoFar a a host host
end_begun a host = record { front = []; goes = record { gives = λ text last g. g }; grown = appended_nothing host host refl; input = refl; place = refl; output = refl }

module _ (a b c : Giving) (old middle new : HostState) (so_far : EndSoFar a b old middle) where
  pub end_more : EndsOnce b c (Ok false) middle new → EndSoFar a c old new
  end_more one = record {
    front = so_far.front ++ one.front;
    goes = ends_then a b c so_far.front one.front so_far.goes one.answer;
    grown = appended_after so_far.front one.front old middle new so_far.grown so_far.output one.grown;
    input = one.input ∙ so_far.input;
    place = one.place ∙ so_far.place;
    output = one.output ∙ so_far.output;
  }

  ends_with : (result : Result (Unit {0}) RowsFault) (front : List ℕ) → Given b [] front result → Appended front middle new → new.input ≡ middle.input → new.place ≡ middle.place → EndsRows a result old new
  ends_with result front given grown input place = record {
    front = so_far.front ++ front;
    answer = given_after a b [] so_far.front front result so_far.goes.gives given;
    grown = appended_after so_far.front front old middle new so_far.grown so_far.output grown;
    input = input ∙ so_far.input;
    place = place ∙ so_far.place;
  }

  pub end_done : EndsOnce b c (Ok true) middle new → EndsRows a (Ok tt) old new
  end_done one = ends_with (Ok tt) one.front one.answer one.grown one.input one.place

  pub end_failed : (fault : RowsFault) → EndsOnce b c (Err fault) middle new → EndsRows a (Err fault) old new
  end_failed fault one = ends_with (Err fault) one.front one.answer one.grown one.input one.place

-- ---- the whole loop

holds : (gives : Giving) (input output : List ℕ) (last : Option LineFault) (old new : Files) (bytes text : List ℕ) → get old input ≡ Some bytes → gives bytes text last → new ≡ insert old output text → HoldsGiven gives input output last old new
holds gives input output last old new bytes text there given written = record { text = text; given = record { bytes = bytes; there = there; given = given }; written = written }

pub holds_front : (gives : Giving) (input output : List ℕ) (old new : Files) (bytes front : List ℕ) → get old input ≡ Some bytes → GivesFront gives bytes front → new ≡ insert old output front → HoldsGivenFront gives input output old new
holds_front gives input output old new bytes front there given written = record {
  text = front ++ given.0;
  last = given.1;
  given = record { bytes = bytes; there = there; given = given.2 };
  written = (length front, written ∙ ap (λ (text : List ℕ). insert old output text) (sym (take-append_seam front given.0)));
}

-- what was put by each answer, where it failed
pub rows_fail : (gives : Giving) (input output : List ℕ) (fault : RowsFault) (old new : HostState) (bytes front : List ℕ) → get old.files input ≡ Some bytes → Given gives bytes front (Err fault) → new.files ≡ insert old.files output front
    → RowsEnd gives input output (Err fault) old new
rows_fail gives input output (Line fault) old new bytes front there given written = holds gives input output (Some fault) old.files new.files bytes front there given written
rows_fail gives input output (HostFault Next) old new bytes front there given written = holds_front gives input output old.files new.files bytes front there given written
rows_fail gives input output (HostFault Put) old new bytes front there given written = holds_front gives input output old.files new.files bytes front there given written
rows_fail gives input output Memory old new bytes front there given written = inr (holds_front gives input output old.files new.files bytes front there given written)
rows_fail gives input output _ old new bytes front there given written = absurd given

pub rows_end : (gives : Giving) (input output : List ℕ) (result : Result (Unit {0}) RowsFault) (old new : HostState) (bytes front : List ℕ) → get old.files input ≡ Some bytes → Given gives bytes front result → new.files ≡ insert old.files output front
    → new.input ≡ input → left_of new ≡ [] → IsReadToEnd input old new → RowsEnd gives input output result old new
rows_end gives input output (Ok done) old new bytes front there given written is_input end ended = record { holds = holds gives input output None old.files new.files bytes front there given written; read = is_input; end = end; ended = ended }
rows_end gives input output (Err fault) old new bytes front there given written is_input end ended = rows_fail gives input output fault old new bytes front there given written

-- the next bytes were read
pub read_ends : (count : ℕ) (room : List ℕ) (old new : HostState) → HasCause Next false old new → (IsTrue old.tells → Reads room (Ok count) old new) → EndsWith IsNoFile None old new
read_ends count room old new cause told = record { same_kind = cause.same_kind; blamed = cause.unmoved refl; struck = λ t. (told t).struck.unmoved refl; ends = λ t. read_kept (Ok count) room old new (told t) }

-- ---- the files opened

pub record InputOpened (name : List ℕ) (old new : HostState) : Type 0 where
  pub bytes : List ℕ
  pub there : get old.files name ≡ Some bytes
  pub input : new.input ≡ name
  pub place : new.place ≡ 0
  pub files : new.files ≡ old.files

some_of : (x : Option (List ℕ)) → IsSome x → (y : List ℕ) × (x ≡ Some y)
some_of (Some y) is = (y, refl)
some_of None is = absurd (cc)

pub input_opened : (name : List ℕ) (result : Result (Unit {0}) FailedCall) (old new : HostState) → is_err result ≡ false → OpensInput name result old new → InputOpened name old new
input_opened name (Ok done) old new is opens =
    let there = some_of (get old.files name) opens.opened.0 in
    record { bytes = there.0; there = there.1; input = opens.opened.1; place = opens.opened.2; files = opens.files }
input_opened name (Err failed) old new is opens = absurd (cc)

-- the output couldn't be opened
pub open_fails : (gives : Giving) (input output : List ℕ) (fault : RowsFault) (old middle new : HostState) → InputOpened input old middle → GivesSome gives → OpensOut output (Err fault) middle new → RowsEnd gives input output (Err fault) old new
open_fails gives input output (HostFault OpenOutput) old middle new opened some out = ((opened.bytes, opened.there), subst (λ (files : Files). IsEmptied output files new.files) opened.files out.answer)
open_fails gives input output Memory old middle new opened some out = by (subst (λ (files : Files). IsEmptied output files new.files) opened.files out.answer)
  where
    by : IsEmptied output old.files new.files → RowsEnd gives input output (Err Memory) old new
    by (inl same) = inl same
    by (inr emptied) = inr (holds_front gives input output old.files new.files opened.bytes [] opened.there (front_some gives opened.bytes some) emptied)
open_fails gives input output _ old middle new opened some out = absurd out.answer

module _ (a b : Giving) (input output : List ℕ) (old one two three : HostState) (isnt : input ≢ output) (opened : InputOpened input old one) (out : OpensOut output (Ok tt) one two) where
  output_is : two.output ≡ output
  output_is = out.answer.1

  input_is : two.input ≡ input
  input_is = out.input ∙ opened.input

  pub begun : two.files ≡ insert old.files two.output []
  begun = out.answer.0 ∙ ap (λ (files : Files). insert files output []) opened.files ∙ ap (λ (name : List ℕ). insert old.files name []) (sym output_is)

  pub differ : two.input ≢ two.output
  differ = subst (λ (name : List ℕ). name ≢ two.output) (sym input_is) (subst (λ (name : List ℕ). input ≢ name) (sym output_is) isnt)

  left_is : left_of two ≡ opened.bytes
  left_is =
      ap (λ (n : ℕ). drop n (bytes_of two.files two.input)) (out.place ∙ opened.place)
      ∙ ap (λ (name : List ℕ). bytes_of two.files name) input_is
      ∙ ap (λ (files : Files). bytes_of files input) (out.answer.0 ∙ ap (λ (files : Files). insert files output []) opened.files)
      ∙ other_bytes old.files output [] input isnt
      ∙ ap (λ (found : Option (List ℕ)). unwrap_or found []) opened.there

  pub stream_fails : (fault : RowsFault) → TakesRows a b old.files [] (Err fault) two three → RowsEnd a input output (Err fault) old three
  stream_fails fault t = rows_fail a input output fault old three opened.bytes t.front opened.there
      (subst (λ (bytes : List ℕ). Given a bytes t.front (Err fault)) left_is (given_up a b (left_of two) t.front fault t.answer))
      (t.grown ∙ ap (λ (name : List ℕ). insert old.files name t.front) output_is)

  pub stream_ends : (result : Result (Unit {0}) RowsFault) (four : HostState) → TakesRows a b old.files [] (Ok tt) two three → EndsRows b result three four → AreNoFewer old.ends two.ends → AreNoFewer three.ends four.ends → RowsEnd a input output result old four
  stream_ends result four t e before_rows after_rows =
      let name : three.output ≡ output = t.output ∙ output_is in
      let sent : three.files ≡ insert old.files three.output t.front = t.grown ∙ ap (λ (n : List ℕ). insert old.files n t.front) (sym t.output) in
      let grown : four.files ≡ insert old.files output (t.front ++ e.front) = e.grown old.files t.front sent ∙ ap (λ (n : List ℕ). insert old.files n (t.front ++ e.front)) name in
      let goes : GoesOn a b opened.bytes [] t.front = subst (λ (bytes : List ℕ). GoesOn a b bytes [] t.front) left_is t.answer in
      let read : three.input ≡ input = t.input ∙ input_is in
      let before : three.files ≡ insert old.files output t.front = sent ∙ ap (λ (n : List ℕ). insert old.files n t.front) name in
      let left : left_of four ≡ left_of three =
      left_same old.files output t.front (t.front ++ e.front) three four (subst (λ (n : List ℕ). n ≢ output) (sym read) isnt) before grown e.input e.place in
      rows_end a input output result old four opened.bytes (t.front ++ e.front) opened.there (given_after a b opened.bytes t.front e.front result (at_end a b opened.bytes t.front goes) e.answer) grown (e.input ∙ read) (left ∙ t.ended)
      (subst (λ (n : List ℕ). IsReadToEnd n old four) input_is (ended_before two.input old three four (ended_after two.input old two three before_rows t.read) after_rows))
