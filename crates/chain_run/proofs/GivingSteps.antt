-- Calls one after another.
use Rattle.std.proofs.Common.{◌≡◌, ◌∙◌, ℕ, zero, suc, ◌+◌, arith, zero-add, Bool, true, false, List, [], ◌∷◌, ◌++◌, drop, Option, Some, None, Result, Ok, Err, sym, ap, subst, append_assoc, append-nil}
use Rattle.std.proofs.Math.Seq.{drop-nil}
use Rattle.sample_file.specs.declared.fault.LineFault.{LineFault}
use Rattle.row_stream.specs.declared.fault.StreamFault.{StreamFault}
use Rattle.row_stream.specs.declared.fault.StreamFault.TheVariants.{Line, Memory}
use Rattle.row_stream.specs.Giving.{Giving, GoesOn, EndsOn, Takes, Closes}

-- one output behind another
pub behind : (before middle after lines more : List ℕ) → middle ≡ before ++ lines → after ≡ middle ++ more → after ≡ before ++ (lines ++ more)
behind before middle after lines more one two = two ∙ ap (λ (out : List ℕ). out ++ more) one ∙ append_assoc before lines more

-- lines that come before whatever bytes follow
abbrev pub GoesFirst : Giving → Giving → List ℕ → Type 0
GoesFirst a b lines = (bytes text : List ℕ) (last : Option LineFault) → b bytes text last → a bytes (lines ++ text) last

regroup : (a : Giving) (bytes lines more text : List ℕ) (last : Option LineFault) → a bytes (lines ++ (more ++ text)) last → a bytes ((lines ++ more) ++ text) last
regroup a bytes lines more text last h = subst (λ (whole : List ℕ). a bytes whole last) (sym (append_assoc lines more text)) h

-- ---- bytes that are taken

-- bytes are taken behind lines
pub takes-behind : (a b c : Giving) (piece before middle after lines : List ℕ) (result : Result ℕ StreamFault) → middle ≡ before ++ lines → GoesFirst a b lines → Takes b c piece middle result after → Takes a c piece before result after
takes-behind a b c piece before middle after lines (Ok taken) is first takes = (
  lines ++ takes.0,
  behind before middle after lines takes.0 is takes.1,
  record { gives = λ rest text last g. regroup a (piece ++ rest) lines takes.0 text last (first (piece ++ rest) (takes.0 ++ text) last (takes.2.gives rest text last g)) },
)
takes-behind a b c piece before middle after lines (Err (Line fault)) is first takes =
    (lines ++ takes.0, behind before middle after lines takes.0 is takes.1, (λ rest. first (piece ++ rest) takes.0 (Some fault) (takes.2 rest)))
takes-behind a b c piece before middle after lines (Err Memory) is first takes = (lines ++ takes.0, behind before middle after lines takes.0 is takes.1)

-- lines were run, and no byte was taken
pub takes-none : (a b : Giving) (piece before after lines : List ℕ) → after ≡ before ++ lines → GoesFirst a b lines → Takes a b piece before (Ok 0) after
takes-none a b piece before after lines is first = (lines, is, record { gives = λ rest text last g. first (piece ++ rest) text last g })

drop-more : (n m : ℕ) (xs : List ℕ) → drop m (drop n xs) ≡ drop (n + m) xs
drop-more zero m xs = ap (λ (k : ℕ). drop k xs) (sym (zero-add m))
drop-more (suc n) m [] = drop-nil m ∙ sym (drop-nil (suc n + m))
drop-more (suc n) m (x ∷ xs) = drop-more n m xs ∙ (let next : suc (n + m) ≡ suc n + m = omega arith in ap (λ (k : ℕ). drop k (x ∷ xs)) next)

-- more bytes were taken
pub takes-more : (a b c : Giving) (piece : List ℕ) (taken more : ℕ) (before middle after : List ℕ) → Takes a b piece before (Ok taken) middle → Takes b c (drop taken piece) middle (Ok more) after → Takes a c piece before (Ok (taken + more)) after
takes-more a b c piece taken more before middle after one two = (
  one.0 ++ two.0,
  behind before middle after one.0 two.0 one.1 two.1,
  subst (λ (left : List ℕ). GoesOn a c piece left (one.0 ++ two.0)) (drop-more taken more piece) (record {
    gives = λ rest text last g. regroup a (piece ++ rest) one.0 two.0 text last (one.2.gives rest (two.0 ++ text) last (two.2.gives rest text last g));
  }),
)

-- bytes behind those that were taken end in a fault
pub takes-fault : (a b c d : Giving) (piece : List ℕ) (taken : ℕ) (fault : StreamFault) (before middle after : List ℕ) → Takes a b piece before (Ok taken) middle → Takes b c (drop taken piece) middle (Err fault) after → Takes a d piece before (Err fault) after
takes-fault a b c d piece taken (Line fault) before middle after one two =
    (one.0 ++ two.0, behind before middle after one.0 two.0 one.1 two.1, (λ rest. one.2.gives rest two.0 (Some fault) (two.2 rest)))
takes-fault a b c d piece taken Memory before middle after one two = (one.0 ++ two.0, behind before middle after one.0 two.0 one.1 two.1)

-- nothing was taken yet
pub takes-nothing : (a : Giving) (piece before : List ℕ) → Takes a a piece before (Ok 0) before
takes-nothing a piece before = ([], sym (append-nil before), record { gives = λ rest text last g. g })

-- ---- the end

-- the end comes behind lines
pub closes-behind : (a b c : Giving) (before middle after lines : List ℕ) (result : Result Bool StreamFault) → middle ≡ before ++ lines → EndsOn a b lines → Closes b c middle result after → Closes a c before result after
closes-behind a b c before middle after lines (Ok true) is first closes = (lines ++ closes.0, behind before middle after lines closes.0 is closes.1, first.gives closes.0 None closes.2)
closes-behind a b c before middle after lines (Ok false) is first closes = (
  lines ++ closes.0,
  behind before middle after lines closes.0 is closes.1,
  record { gives = λ text last g. regroup a [] lines closes.0 text last (first.gives (closes.0 ++ text) last (closes.2.gives text last g)) },
)
closes-behind a b c before middle after lines (Err (Line fault)) is first closes = (lines ++ closes.0, behind before middle after lines closes.0 is closes.1, first.gives closes.0 (Some fault) closes.2)
closes-behind a b c before middle after lines (Err Memory) is first closes = (lines ++ closes.0, behind before middle after lines closes.0 is closes.1)

pub at-end : (a b : Giving) (lines : List ℕ) → GoesFirst a b lines → EndsOn a b lines
at-end a b lines first = record { gives = λ text last g. first [] text last g }
