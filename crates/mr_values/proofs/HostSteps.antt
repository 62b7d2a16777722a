-- What the steps of a host are made of.
use Rattle.std.proofs.Common.{◌≡◌, ◌≤◌, ◌<◌, ◌+◌, ◌++◌, ◌⊎◌, inl, inr, ℕ, List, [], true, false, Bool, IsTrue, ◌↔◌, refl, Result, Ok, Err, OnOk, OnErr, take, drop, length, sym, ◌∙◌, ap, subst, arith}
use Rattle.std.proofs.lemmas.List.{append-nil, take-append-le, take-append-drop, length-take-le}
use Rattle.std.proofs.Math.Seq.{take-length}
use Rattle.std.proofs.lemmas.Bool.{false≢true}
use Rattle.std.specs.FinMap.{insert}
use Rattle.mr_values.specs.Faults.{IsRisen, IsRaisedAt}
use Rattle.mr_values.specs.Files.{Files, bytes_of}
use Rattle.mr_values.specs.Host.{HostState, IsStruck, IsEnd, CountsEnd, Reads}

pub is_struck : (old new : HostState) → IsRisen old.struck new.struck → IsStruck true old new
is_struck old new h = record { raised = λ e. h; unmoved = λ e. absurd (cc) }

pub is_spared : (old new : HostState) → new.struck ≡ old.struck → IsStruck false old new
is_spared old new h = record { raised = λ e. absurd (cc); unmoved = λ e. h }

-- A read from a file of these bytes, from this place on.
pub reads_piece : (old new : HostState) (name bytes room : List ℕ) (place count : ℕ) → bytes_of old.files name ≡ bytes
    → old.input ≡ name → new.input ≡ name → old.place ≡ place → new.place ≡ place + count → new.files ≡ old.files → new.output ≡ old.output → new.struck ≡ old.struck
    → drop place bytes ≡ take count room ++ drop (place + count) bytes → (count ≡ 0 → 0 < length room → drop place bytes ≡ []) → CountsEnd (IsEnd (Ok count) room) old new
    → Reads room (Ok count) old new
reads_piece old new name bytes room place count is input input' at at' files output struck copied end ends = record {
  bytes = rw (input, input', at, at', files, is) copied;
  place = rw (at, at');
  end = rw (input, at, is) end;
  struck = is_spared old new struck;
  input = input' ∙ sym input;
  files = files;
  output = output;
  ends = ends;
}

-- a read that failed counts no end
pub counts_none : (old new : HostState) → new.ends ≡ old.ends → CountsEnd ⊥ old new
counts_none old new same = record { raised = λ none. absurd none; unmoved = λ going. same }

-- the count of the input rises where no bytes came into a room that isn't empty
pub counts_end : (old new : HostState) (name : List ℕ) (count : ℕ) (room : List ℕ) (ended : Bool) → old.input ≡ name → (IsTrue ended ↔ ((count ≡ 0) × (0 < length room)))
    → (ended ≡ true → IsRaisedAt name old.ends new.ends) → (ended ≡ false → new.ends ≡ old.ends) → CountsEnd (IsEnd (Ok count) room) old new
counts_end old new name count room true input is raised unmoved = record { raised = λ end. rw input (raised refl); unmoved = λ going. absurd (going (is.0 refl)) }
counts_end old new name count room false input is raised unmoved = record { raised = λ end. absurd (false≢true (is.1 end)); unmoved = λ going. unmoved refl }

-- a part of the rest is copied to the front of the room
pub copied_front : (rest piece room : List ℕ) (shown count : ℕ) → shown ≡ length rest → count ≤ length rest → piece ≡ take count (take shown rest) → rest ≡ take count (piece ++ room) ++ drop count rest
copied_front rest piece room shown count all within is =
    let whole : take shown rest ≡ rest = rw all (take-length rest) in
    let front : piece ≡ take count rest = is ∙ ap (take count) whole in
    let long : length piece ≡ count = ap length front ∙ length-take-le count rest within in
    let kept : take count (piece ++ room) ≡ take count rest = take-append-le count piece room (omega (arith, long)) ∙ take_of_all piece count long ∙ front in
    rw kept (sym (take-append-drop count rest))
  where
    take_of_all : (xs : List ℕ) (n : ℕ) → length xs ≡ n → take n xs ≡ xs
    take_of_all xs n e = rw (← e) (take-length xs)

-- More bytes at the end of the file of this name.
pub grows_by : (files new : Files) (output name bytes more : List ℕ) → output ≡ name → bytes_of files name ≡ bytes → new ≡ insert files name (bytes ++ more) → new ≡ insert files output (bytes_of files output ++ more)
grows_by files new output name bytes more same is grown = rw (same, is) grown

-- A part of a piece that was to be appended: it stands at the end of the file, or nothing does where its memory had no room for it.
pub grows_in_part : {E : Type 0} (r : Result (Unit {0}) E) (files new : Files) (output name bytes part : List ℕ) (capacity more : ℕ) → output ≡ name → bytes_of files name ≡ bytes → length part ≡ more
    → OnOk r (new ≡ insert files name (bytes ++ part)) → OnErr r (new ≡ insert files name bytes) → OnErr r (capacity < length bytes + length part)
    → (new ≡ insert files output (bytes_of files output ++ part)) ⊎ ((capacity < length bytes + more) × (new ≡ insert files output (bytes_of files output ++ [])))
grows_in_part (Ok done) files new output name bytes part capacity more same is long ok err full = inl (grows_by files new output name bytes part same is ok)
grows_in_part (Err e) files new output name bytes part capacity more same is long ok err full =
    inr (subst (λ count. capacity < length bytes + count) long full, grows_by files new output name bytes [] same is (err ∙ ap (insert files name) (sym (append-nil bytes))))

pub refused_part : (files new : Files) (output bytes piece : List ℕ) (half : ℕ) (full : Type 0) → (new ≡ insert files output (bytes ++ take half piece)) ⊎ (full × (new ≡ insert files output (bytes ++ [])))
    → (count : ℕ) × (new ≡ insert files output (bytes ++ take count piece))
refused_part files new output bytes piece half full (inl grown) = (half, grown)
refused_part files new output bytes piece half full (inr none) = (0, none.1)
