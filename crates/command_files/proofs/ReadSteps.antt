-- Steps of reading PLAN and its tap files.
use Rattle.std.proofs.Common.{◌≡◌, ◌∙◌, ℕ, ◌+◌, ◌<◌, ℤ, List, [], ◌∷◌, ◌++◌, length, take, drop, get_or, IsTrue, None, Ok, Err, refl, sym, ap, subst}
use Rattle.std.specs.Prelude.{Vec, All, slice_index_or}
use Rattle.std.specs.declared.alloc.Global.{Global}
use Rattle.std.proofs.lemmas.List.{take_more, drop_more, take-append-drop}
use Rattle.std.specs.FinMap.{get}
use Rattle.mr_values.specs.Files.{Files}
use Rattle.mr_values.specs.Host.{HostState, left_of}
use Rattle.mr_values.specs.declared.host.HostCall.TheVariants.{OpenInput, Next}
use Rattle.mr_values.specs.declared.plan.Plan.{Plan}
use Rattle.plan_reader.specs.declared.plan_texts.PlanText.{PlanText}
use Rattle.plan_reader.specs.declared.plan_texts.TapFile.{TapFile}
use Rattle.plan_reader.specs.Tapped.{plan_tapped}
use Rattle.plan_reader.proofs.VersionSteps.{tapped_number-versioned}
use Rattle.plan_reader.specs.Versions.{IsVersioned}
use Rattle.command_files.specs.declared.fault.CommandFault.{CommandFault}
use Rattle.command_files.specs.declared.fault.CommandFault.TheVariants as fault
use Rattle.command_files.specs.declared.fault.FileKind.TheVariants as file
use Rattle.command_files.specs.Ends.{IsThisFile, EndsWith, blamed_call, AreNoFewer, IsReadToEnd}
use Rattle.command_files.proofs.EndsKept.{kept_after, ended_before, ended_after}
use Rattle.std.proofs.lemmas.List.Elements.{All-push}
use Rattle.command_files.specs.PlanFile.{HasTaps, Fills, IsReached, IsTapFile, last_name}
use Rattle.command_files.specs.Reading.{TapsAnswer, ReadsTaps, FillAnswer, ReadsTapFiles}
use Rattle.command_files.proofs.EndSteps.{ends_after}

-- ---- the tap files one after another

-- one more tap file is there and says taps
fills-snoc : (files : Files) (before : List TapFile) (tap_file : TapFile) (taps : List ℤ) (plan part : Plan) → Fills files before plan part → HasTaps tap_file.name files (Ok taps)
    → Fills files (before ++ tap_file ∷ []) plan (plan_tapped tap_file.element taps part)
fills-snoc files [] tap_file taps plan part same has = (taps, has, ap (plan_tapped tap_file.element taps) same)
fills-snoc files (first ∷ others) tap_file taps plan part filled has = (filled.0, filled.1, fills-snoc files others tap_file taps (plan_tapped first.element filled.0 plan) part filled.2 has)

last_name-snoc : (name : List ℕ) (before : List TapFile) (tap_file : TapFile) → last_name name (before ++ tap_file ∷ []) ≡ tap_file.name
last_name-snoc name [] tap_file = refl
last_name-snoc name (first ∷ others) tap_file = last_name-snoc first.name others tap_file

-- The first tap files were read, where the host tells its files.
pub record ToldTaps (text : PlanText) (count : ℕ) (part : Plan) (start now : HostState) : Type 0 where
  pub struck : now.struck ≡ start.struck
  pub files : now.files ≡ start.files
  pub filled : Fills start.files (take count text.files) text.plan part
  pub input : now.input ≡ last_name start.input (take count text.files)
  pub end : left_of start ≡ [] → left_of now ≡ []
  pub ends : AreNoFewer start.ends now.ends
  pub ended : All (λ (tap_file : TapFile). IsReadToEnd tap_file.name start now) (take count text.files)

pub record TapsSoFar (text : PlanText) (count : ℕ) (now_text : PlanText) (start now : HostState) : Type 0 where
  pub named : now_text.files ≡ text.files
  pub same_kind : now.tells ≡ start.tells
  pub unmoved : now.faults ≡ start.faults
  pub told : IsTrue start.tells → ToldTaps text count now_text.plan start now
  pub versioned : IsVersioned text.version now_text.plan.elements

pub file-at : (named slice : List TapFile) (i : ℕ) (tap_file : TapFile) → tap_file ≡ get_or slice i tap_file → slice ≡ named → get_or named i tap_file ≡ tap_file
file-at named slice i tap_file is same = ap (λ (files : List TapFile). get_or files i tap_file) (sym same) ∙ sym is

-- the tap files before one are read
reached-at : (files : Files) (text : PlanText) (i : ℕ) (part : Plan) (tap_file : TapFile) → i < length text.files → get_or text.files i tap_file ≡ tap_file → Fills files (take i text.files) text.plan part → IsReached files text tap_file
reached-at files text i part tap_file h at filled = record {
  before = take i text.files;
  after = drop (i + 1) text.files;
  order = ap (λ (f : TapFile). take i text.files ++ f ∷ drop (i + 1) text.files) (sym at) ∙ ap (λ (rest : List TapFile). take i text.files ++ rest) (sym (drop_more text.files i tap_file h)) ∙ take-append-drop i text.files;
  part = part;
  filled = filled;
}

-- one more tap file was read
told-next : (text : PlanText) (i : ℕ) (part : Plan) (tap_file : TapFile) (taps : Vec ℤ Global) (start now later : HostState) → i < length text.files → get_or text.files i tap_file ≡ tap_file → ToldTaps text i part start now
    → later.struck ≡ now.struck → AreNoFewer now.ends later.ends → ReadsTaps tap_file (Ok taps) now later → ToldTaps text (i + 1) (plan_tapped tap_file.element taps.items part) start later
told-next text i part tap_file taps start now later h at sofar struck kept reads =
    let more : take (i + 1) text.files ≡ take i text.files ++ tap_file ∷ [] = take_more text.files i tap_file h ∙ ap (λ (f : TapFile). take i text.files ++ f ∷ []) at in
    let has : HasTaps tap_file.name start.files (Ok taps.items) = subst (λ (files : Files). HasTaps tap_file.name files (Ok taps.items)) sofar.files reads.answer in
    record {
      struck = struck ∙ sofar.struck;
      files = reads.files ∙ sofar.files;
      filled = subst (λ (named : List TapFile). Fills start.files named text.plan (plan_tapped tap_file.element taps.items part)) (sym more) (fills-snoc start.files (take i text.files) tap_file taps.items text.plan part sofar.filled has);
      input = reads.input ∙ sym (last_name-snoc start.input (take i text.files) tap_file) ∙ ap (last_name start.input) (sym more);
      end = λ end. reads.end;
      ends = kept_after start.ends now.ends later.ends sofar.ends kept;
      ended = subst (λ (named : List TapFile). All (λ (f : TapFile). IsReadToEnd f.name start later) named) (sym more)
          (All-push (λ (f : TapFile). IsReadToEnd f.name start later) (take i text.files) tap_file
          (λ k d below. ended_before (slice_index_or (take i text.files) k d).name start now later (sofar.ended k d below) kept)
          (ended_after tap_file.name start now later sofar.ends reads.ended));
    }

pub taps-next : (text now_text next_text : PlanText) (i : ℕ) (tap_file : TapFile) (taps : Vec ℤ Global) (start now later : HostState) → TapsSoFar text i now_text start now → i < length text.files → get_or text.files i tap_file ≡ tap_file
    → EndsWith (IsThisFile tap_file.name) None now later → (IsTrue now.tells → ReadsTaps tap_file (Ok taps) now later) → next_text.plan ≡ plan_tapped tap_file.element taps.items now_text.plan → next_text.files ≡ now_text.files
    → TapsSoFar text (i + 1) next_text start later
taps-next text now_text next_text i tap_file taps start now later sofar h at ended reads plan named = record {
  named = named ∙ sofar.named;
  same_kind = ended.same_kind ∙ sofar.same_kind;
  unmoved = ended.blamed ∙ sofar.unmoved;
  told = λ told. let told' = sofar.same_kind ∙ told in
      subst (λ (p : Plan). ToldTaps text (i + 1) p start later) (sym plan) (told-next text i now_text.plan tap_file taps start now later h at (sofar.told told) (ended.struck told') (ended.ends told') (reads told'));
  versioned = subst (λ (p : Plan). IsVersioned text.version p.elements) (sym plan) (tapped_number-versioned text.version tap_file.element taps.items now_text.plan.elements sofar.versioned);
}

-- so far no host call failed
pub taps-ends : (text now_text : PlanText) (i : ℕ) (start now : HostState) → TapsSoFar text i now_text start now → EndsWith (IsTapFile text) None start now
taps-ends text now_text i start now sofar = record { same_kind = sofar.same_kind; blamed = sofar.unmoved; struck = λ told. (sofar.told told).struck; ends = λ told. (sofar.told told).ends }

-- a tap file wasn't read
pub taps-stop-ends : (text now_text : PlanText) (i : ℕ) (tap_file : TapFile) (why : CommandFault) (start now later : HostState) → TapsSoFar text i now_text start now → i < length text.files → get_or text.files i tap_file ≡ tap_file
    → EndsWith (IsThisFile tap_file.name) (blamed_call why) now later → EndsWith (IsTapFile text) (blamed_call why) start later
taps-stop-ends text now_text i tap_file why start now later sofar h at ended =
    ends_after (IsTapFile text) (IsTapFile text) (IsThisFile tap_file.name) (blamed_call why) start now later (taps-ends text now_text i start now sofar) ended
    (λ told gone. (gone.0, (tap_file, reached-at start.files text i now_text.plan tap_file h at (sofar.told told).filled, gone.1), ap (λ (files : Files). get files gone.0) (sym (sofar.told told).files) ∙ gone.2))

fill_refused : (text : PlanText) (files : Files) (tap_file : TapFile) (why : CommandFault) → IsReached files text tap_file → TapsAnswer tap_file files (Err why) → FillAnswer text files (Err why)
fill_refused text files tap_file (fault.FileTooLong (file.Taps element)) reached answer = record { tap_file = tap_file; reached = reached; same = answer.0; long = answer.1 }
fill_refused text files tap_file (fault.Tap element row why) reached answer = record { tap_file = tap_file; reached = reached; same = answer.0; bad = answer.1 }
fill_refused text files tap_file (fault.HostFault OpenInput) reached answer = tt
fill_refused text files tap_file (fault.HostFault Next) reached answer = tt
fill_refused text files tap_file fault.Memory reached answer = tt
fill_refused text files tap_file _ reached answer = absurd answer

pub taps-stop : (text now_text : PlanText) (i : ℕ) (tap_file : TapFile) (why : CommandFault) (start now later : HostState) → TapsSoFar text i now_text start now → i < length text.files → get_or text.files i tap_file ≡ tap_file
    → (IsTrue now.tells → ReadsTaps tap_file (Err why) now later) → IsTrue start.tells → ReadsTapFiles text (Err why) start later
taps-stop text now_text i tap_file why start now later sofar h at reads told =
    let so = sofar.told told in
    let read = reads (sofar.same_kind ∙ told) in
    record {
      answer = fill_refused text start.files tap_file why (reached-at start.files text i now_text.plan tap_file h at so.filled) (subst (λ (files : Files). TapsAnswer tap_file files (Err why)) so.files read.answer);
      input = tt;
      end = tt;
      ended = tt;
      files = read.files ∙ so.files;
    }
