-- What the machine has accepted so far of a statement is the beginning of one, and at its end a whole one.
use Rattle.std.proofs.Common.{◌≡◌, ℕ, ◌+◌, ◌-◌, ◌<◌, ◌≤◌, inl, inr, List, [], ◌∷◌, ◌++◌, Option, Some, None, Result, Ok, Err, refl, sym, ap, ◌∙◌, arith, append_assoc}
use Rattle.std.specs.Prelude.{nat_le}
use Rattle.std.proofs.lemmas.List.{append-nil}
use Rattle.std.proofs.lemmas.Bool.{ltb-true, leb-true, cond-true, cond-false, cases_Bool}
use Rattle.verilog_tree.specs.declared.tree.Op.TheVariants.{LessEqual}
use Rattle.verilog_tree.specs.Tree as tree
use Rattle.verilog_tree.specs.Tree.{Tree}
use Rattle.verilog_text.specs.declared.token.Mark.TheVariants as mark
use Rattle.verilog_text.specs.declared.token.Word.TheVariants as word
use Rattle.verilog_text.specs.declared.token.Token.{Token}
use Rattle.verilog_text.specs.declared.token.Token.TheVariants as token
use Rattle.verilog_text.specs.declared.token.Why.{Why}
use Rattle.verilog_text.specs.Grammar.{Source, marked, written, tree_of, IsGrouped, depth, operators, Limits}
use Rattle.verilog_text.specs.Machine as inner
use Rattle.verilog_text.specs.Statements.{Statement, Statements, Block, Guarded, Forked, Given, none, more, worded, if_text, statement_text, statements_text, action_of, actions_of, openness, IsParted, AreParted, height, heights, IsShort, AreShort}
use Rattle.verilog_text.specs.StatementMachine.{Frame, InBlock, InThen, InElse, Phase, Waiting, After, Asking, Condition, Named, Value, State, levels, left_of, at, fold_to, with_last, lifted, or_closed, or_given, waiting_step, forked, going_on, after_step, condition_step, value_step, step}
use Rattle.verilog_text.proofs.Around as around
use Rattle.verilog_text.proofs.Sound as sound
use Rattle.verilog_text.proofs.Sound.{never, ok_inverse, ok_if}
use Rattle.verilog_text.proofs.StatementSteps.{Fits}
use Rattle.verilog_text.proofs.Writings.{written_split}

-- the inner machine has read these tokens
pub record Inside (bounds : Limits) (s : inner.State) (tokens : List Token) : Type 0 where
  pub stack : List around.Around
  pub part : around.Part
  pub state : around.state_of stack part ≡ s
  pub fine : around.IsFine bounds stack part
  pub same : (ts : List Token) → tokens ++ ts ≡ around.text_of stack part ts

-- an expression that these tokens are
pub record IsExpression (bounds : Limits) (tokens : List Token) (e : Tree) : Type 0 where
  pub source : Source
  pub grouped : IsGrouped source
  pub in_levels : depth source ≤ bounds.levels
  pub in_operators : operators source ≤ bounds.operators
  pub text_is : written source [] ≡ tokens
  pub tree_is : tree_of source ≡ e

pub inside_start : (bounds : Limits) → Inside bounds inner.start []
inside_start bounds = record { stack = []; part = around.Waiting; state = refl; fine = (record { in_levels = omega arith; in_operators = omega arith }, tt); same = λ ts. refl }

pub inside_step : (bounds : Limits) (s s' : inner.State) (tokens : List Token) (t : Token) → Inside bounds s tokens → inner.step bounds s t ≡ Ok s' → Inside bounds s' (tokens ++ (t ∷ []))
inside_step bounds s s' tokens t i e =
    let x = sound.step_sound bounds i.stack i.part t s' i.fine (ap (λ z. inner.step bounds z t) i.state ∙ e) in
    record { stack = x.stack'; part = x.part'; state = x.state; fine = x.fine; same = λ ts. append_assoc tokens (t ∷ []) ts ∙ i.same (t ∷ ts) ∙ x.same ts }

bare_is : (bounds : Limits) (tokens : List Token) (base : List around.Around) (c : Source) (e : Tree) → inner.bare_tree (around.frames base) (tree_of c) ≡ Some e → ((ts : List Token) → tokens ++ ts ≡ around.before base (written c ts)) → IsGrouped c → inner.levels (around.frames base) + depth c ≤ bounds.levels → around.spent base + operators c ≤ bounds.operators → IsExpression bounds tokens e
bare_is bounds tokens [] c e h same grouped high short = record { source = c; grouped = grouped; in_levels = omega arith; in_operators = omega arith; text_is = sym (same []) ∙ append-nil tokens; tree_is = cc }
bare_is bounds tokens (x ∷ base) c e h same grouped high short = cc

ended_is : (bounds : Limits) (tokens : List Token) (stack : List around.Around) (part : around.Part) (e : Tree) → around.IsFine bounds stack part → inner.finish (around.state_of stack part) ≡ Some e → ((ts : List Token) → tokens ++ ts ≡ around.text_of stack part ts) → IsExpression bounds tokens e
ended_is bounds tokens stack around.Waiting e fine h same = cc
ended_is bounds tokens stack (around.Ended c) e fine h same =
    let x = sound.folds bounds 8 stack c (omega arith) (omega (arith, fine.2)) fine.0 fine.1 in
    bare_is bounds tokens x.stack' x.c' e (ap (λ f. inner.bare_tree f.stack f.operand) (sym x.is) ∙ h) (λ ts. same ts ∙ x.same ts) x.fits.grouped x.fits.in_levels x.fits.in_operators
ended_is bounds tokens stack (around.Amounting op c) e fine h same = cc
ended_is bounds tokens stack (around.InSelect name) e fine h same = cc
ended_is bounds tokens stack (around.WithHigh name high) e fine h same = cc
ended_is bounds tokens stack (around.BeforeLow name high) e fine h same = cc
ended_is bounds tokens stack (around.WithLow name high low) e fine h same = cc

pub inside_end : (bounds : Limits) (s : inner.State) (tokens : List Token) (e : Tree) → Inside bounds s tokens → inner.finish s ≡ Some e → IsExpression bounds tokens e
inside_end bounds s tokens e i h = ended_is bounds tokens i.stack i.part e i.fine (ap inner.finish i.state ∙ h) i.same

-- a frame of the stack
pub data Around : Type 0 where
  AroundBlock : (held : Statements) → Around
  AroundThen : (condition : Source) → Around
  AroundElse : (condition : Source) (on_true : Statement) → Around

-- what stands on top of the stack
pub data Part : Type 0 where
  Waits : Part
  Ended : (latest : Statement) → Part
  Asks : Part
  InCondition : (tokens : List Token) (s : inner.State) → Part
  Names : (name : ℕ) → Part
  InValue : (name : ℕ) (tokens : List Token) (s : inner.State) → Part

abbrev pub frame_of : Around → Frame
frame_of (AroundBlock held) = InBlock (actions_of held)
frame_of (AroundThen condition) = InThen (tree_of condition)
frame_of (AroundElse condition on_true) = InElse (tree_of condition) (action_of on_true)

abbrev pub frames : List Around → List Frame
frames [] = []
frames (x ∷ below) = frame_of x ∷ frames below

-- the tokens so far, and then the rest
abbrev pub before : List Around → List Token → List Token
before [] rest = rest
before (AroundBlock held ∷ below) rest = before below (worded word.Begin (statements_text held rest))
before (AroundThen c ∷ below) rest = before below (if_text c rest)
before (AroundElse c t ∷ below) rest = before below (if_text c (statement_text t (worded word.Else rest)))

-- each part fits where it stands
abbrev pub IsGood : Limits → List Around → Type 0
IsGood limits [] = Unit {0}
IsGood limits (AroundBlock held ∷ below) = AreParted held × (1 + levels (frames below) + heights held ≤ limits.levels) × AreShort limits.operators held × IsGood limits below
IsGood limits (AroundThen c ∷ below) = IsGrouped c × (1 + levels (frames below) + depth c ≤ limits.levels) × (operators c ≤ limits.operators) × IsGood limits below
IsGood limits (AroundElse c t ∷ below) = IsGrouped c × (1 + levels (frames below) + depth c ≤ limits.levels) × (operators c ≤ limits.operators) × (openness t < 1) × IsParted t × (1 + levels (frames below) + height t ≤ limits.levels) × IsShort limits.operators t × IsGood limits below

abbrev pub state_of : List Around → Part → State
state_of stack Waits = at (frames stack) Waiting
state_of stack (Ended s) = at (frames stack) (After (action_of s))
state_of stack Asks = at (frames stack) Asking
state_of stack (InCondition tokens s) = at (frames stack) (Condition s)
state_of stack (Names name) = at (frames stack) (Named name)
state_of stack (InValue name tokens s) = at (frames stack) (Value name s)

abbrev pub text_of : List Around → Part → List Token → List Token
text_of stack Waits rest = before stack rest
text_of stack (Ended s) rest = before stack (statement_text s rest)
text_of stack Asks rest = before stack (worded word.If rest)
text_of stack (InCondition tokens s) rest = before stack (worded word.If (marked mark.Open (tokens ++ rest)))
text_of stack (Names name) rest = before stack (token.Name name ∷ rest)
text_of stack (InValue name tokens s) rest = before stack (token.Name name ∷ token.Operator LessEqual ∷ (tokens ++ rest))

abbrev pub IsFine : Limits → List Around → Part → Type 0
IsFine limits stack Waits = (levels (frames stack) ≤ limits.levels) × IsGood limits stack
IsFine limits stack (Ended s) = Fits limits (frames stack) s × IsGood limits stack × (openness s < 1)
IsFine limits stack Asks = (1 + levels (frames stack) ≤ limits.levels) × IsGood limits stack
IsFine limits stack (InCondition tokens s) = (1 + levels (frames stack) ≤ limits.levels) × IsGood limits stack × Inside (left_of limits (1 + levels (frames stack))) s tokens
IsFine limits stack (Names name) = (levels (frames stack) ≤ limits.levels) × IsGood limits stack
IsFine limits stack (InValue name tokens s) = (levels (frames stack) ≤ limits.levels) × IsGood limits stack × Inside (left_of limits (levels (frames stack))) s tokens

-- one more statement at the end
abbrev pub with_statement : Statements → Statement → Statements
with_statement none s = more s none
with_statement (more first rest) s = more first (with_statement rest s)

pub text_with : (xs : Statements) (s : Statement) (rest : List Token) → statements_text (with_statement xs s) rest ≡ statements_text xs (statement_text s rest)
text_with none s rest = refl
text_with (more first xs) s rest = ap (statement_text first) (text_with xs s rest)

actions_with : (xs : Statements) (s : Statement) → actions_of (with_statement xs s) ≡ with_last (actions_of xs) (action_of s)
actions_with none s = refl
actions_with (more first xs) s = ap (tree.action (action_of first)) (actions_with xs s)

pub parted_with : (xs : Statements) (s : Statement) → AreParted xs → IsParted s → AreParted (with_statement xs s)
parted_with none s h g = (g, tt)
parted_with (more first xs) s h g = (h.0, parted_with xs s h.1 g)

pub short_with : (n : ℕ) (xs : Statements) (s : Statement) → AreShort n xs → IsShort n s → AreShort n (with_statement xs s)
short_with n none s h g = (g, tt)
short_with n (more first xs) s h g = (h.0, short_with n xs s h.1 g)

pub height_with : (n : ℕ) (xs : Statements) (s : Statement) → heights xs ≤ n → height s ≤ n → heights (with_statement xs s) ≤ n
height_with n none s h g = omega arith
height_with n (more first xs) s h g = omega (arith, height_with n xs s (omega arith) g)

-- a statement and the stack below it, after folding
pub record FoldsTo (limits : Limits) (r : ℕ) (stack : List Around) (s : Statement) : Type 0 where
  pub stack' : List Around
  pub s' : Statement
  pub is : fold_to r (frames stack) (action_of s) ≡ record { stack = frames stack'; latest = action_of s' }
  pub same : (rest : List Token) → before stack (statement_text s rest) ≡ before stack' (statement_text s' rest)
  pub fits : Fits limits (frames stack') s'
  pub good : IsGood limits stack'
  pub tight : openness s' ≤ r

-- a step leads to a state in which all that was read fits, the token too
pub record Steps (limits : Limits) (so_far : List Token → List Token) (t : Token) (s : State) : Type 0 where
  pub stack' : List Around
  pub part' : Part
  pub state : state_of stack' part' ≡ s
  pub fine : IsFine limits stack' part'
  pub same : (rest : List Token) → so_far (t ∷ rest) ≡ text_of stack' part' rest

module _ (limits : Limits) where
  pub folds : (r : ℕ) (stack : List Around) (s : Statement) → openness s ≤ r → Fits limits (frames stack) s → IsGood limits stack → FoldsTo limits r stack s
  folds r [] s low f g = record { stack' = []; s' = s; is = refl; same = λ rest. refl; fits = f; good = g; tight = low }
  folds r (AroundBlock held ∷ below) s low f g = record { stack' = AroundBlock held ∷ below; s' = s; is = refl; same = λ rest. refl; fits = f; good = g; tight = low }
  folds r (AroundThen c ∷ below) s low f g =
      elim (cases_Bool (nat_le 1 r)) [
        | inl e ↦
            let x = folds r below (Guarded c s) (leb-true 1 r e) (record { parted = (g.0, f.parted); in_levels = omega (arith, f.in_levels, g.1); short = (g.2, f.short) }) g.3 in
            record { stack' = x.stack'; s' = x.s'; is = cond-true _ _ _ e ∙ x.is; same = x.same; fits = x.fits; good = x.good; tight = x.tight }
        | inr e ↦ record { stack' = AroundThen c ∷ below; s' = s; is = cond-false _ _ _ e; same = λ rest. refl; fits = f; good = g; tight = low }
      ]
  folds r (AroundElse c t ∷ below) s low f g =
      let x = folds r below (Forked c t s) low (record { parted = (g.0, g.3, g.4, f.parted); in_levels = omega (arith, f.in_levels, g.1, g.5); short = (g.2, g.6, f.short) }) g.7 in
      record { stack' = x.stack'; s' = x.s'; is = x.is; same = x.same; fits = x.fits; good = x.good; tight = x.tight }

  -- where a statement begins or its block ends
  waiting_sound : (so_far : List Token → List Token) (base : List Around) (t : Token) (s : State) → waiting_step limits (frames base) t ≡ Ok s → levels (frames base) ≤ limits.levels → IsGood limits base → ((rest : List Token) → so_far (t ∷ rest) ≡ before base (t ∷ rest)) → Steps limits so_far t s
  waiting_sound so_far base (token.Name name) s e high good same = record { stack' = base; part' = Names name; state = ok_inverse _ s e; fine = (high, good); same = same }
  waiting_sound so_far base (token.Keyword word.Begin) s e high good same =
      let p = ok_if _ _ s _ e in
      let room : levels (frames base) < limits.levels = ltb-true _ _ p.0 in
      record { stack' = AroundBlock none ∷ base; part' = Waits; state = p.1; fine = (omega arith, (tt, omega arith, tt, good)); same = same }
  waiting_sound so_far base (token.Keyword word.If) s e high good same =
      let p = ok_if _ _ s _ e in
      let room : levels (frames base) < limits.levels = ltb-true _ _ p.0 in
      record { stack' = base; part' = Asks; state = p.1; fine = (omega arith, good); same = same }
  waiting_sound so_far (AroundBlock held ∷ below) (token.Keyword word.End) s e high good same = record { stack' = below; part' = Ended (Block held); state = ok_inverse _ s e; fine = (record { parted = good.0; in_levels = omega (arith, good.1); short = good.2 }, good.3, omega arith); same = same }
  waiting_sound so_far base (token.Keyword word.End) s e high good same = absurd (never _ s e)
  waiting_sound so_far base (token.Keyword _) s e high good same = absurd (never _ s e)
  waiting_sound so_far base _ s e high good same = absurd (never _ s e)

  -- an `else`, over what has been folded
  forked_sound : (so_far : List Token → List Token) (base : List Around) (a : Statement) (s : State) → forked (frames base) (action_of a) ≡ Ok s → Fits limits (frames base) a → IsGood limits base → openness a ≤ 0 → ((rest : List Token) → so_far (token.Keyword word.Else ∷ rest) ≡ before base (statement_text a (token.Keyword word.Else ∷ rest))) → Steps limits so_far (token.Keyword word.Else) s
  forked_sound so_far (AroundThen c ∷ below) a s e f g low same = record {
    stack' = AroundElse c a ∷ below;
    part' = Waits;
    state = ok_inverse _ s e;
    fine = (omega (arith, f.in_levels), (g.0, g.1, g.2, omega arith, f.parted, f.in_levels, f.short, g.3));
    same = same;
  }
  forked_sound so_far _ a s e f g low same = absurd (never _ s e)

  -- a statement is over, over what has been folded
  going_sound : (so_far : List Token → List Token) (base : List Around) (a : Statement) (t : Token) (s : State) → going_on limits (frames base) (action_of a) t ≡ Ok s → Fits limits (frames base) a → IsGood limits base → ((rest : List Token) → so_far (t ∷ rest) ≡ before base (statement_text a (t ∷ rest))) → Steps limits so_far t s
  going_sound so_far (AroundBlock held ∷ below) a t s e f g same =
      waiting_sound so_far (AroundBlock (with_statement held a) ∷ below) t s
      (ap (λ d. waiting_step limits (InBlock d ∷ frames below) t) (actions_with held a) ∙ e)
      (omega (arith, f.in_levels))
      (parted_with held a g.0 f.parted, let h = height_with (limits.levels - (1 + levels (frames below))) held a (omega (arith, g.1)) (omega (arith, f.in_levels)) in omega (arith, g.1), short_with limits.operators held a g.2 f.short, g.3)
      (λ rest. same rest ∙ ap (λ ts. before below (worded word.Begin ts)) (sym (text_with held a (t ∷ rest))))
  going_sound so_far _ a t s e f g same = absurd (never _ s e)

  -- what the inner machine's step gives
  lifted_inverse : (stack : List Frame) (make : inner.State → Phase) (r : Result inner.State Why) (s : State) → lifted stack make r ≡ Ok s → (i : inner.State) × (r ≡ Ok i) × (at stack (make i) ≡ s)
  lifted_inverse stack make (Ok i) s e = (i, refl, ok_inverse _ s e)
  lifted_inverse stack make (Err reason) s e = absurd (never _ s e)

  condition_goes : (stack : List Around) (tokens : List Token) (i : inner.State) (t : Token) (s : State) → IsFine limits stack (InCondition tokens i) → lifted (frames stack) Condition (inner.step (left_of limits (1 + levels (frames stack))) i t) ≡ Ok s → Steps limits (text_of stack (InCondition tokens i)) t s
  condition_goes stack tokens i t s fine e =
      let p = lifted_inverse (frames stack) Condition (inner.step (left_of limits (1 + levels (frames stack))) i t) s e in
      record {
        stack' = stack;
        part' = InCondition (tokens ++ (t ∷ [])) p.0;
        state = p.2;
        fine = (fine.0, fine.1, inside_step (left_of limits (1 + levels (frames stack))) i p.0 tokens t fine.2 p.1);
        same = λ rest. ap (λ ts. before stack (worded word.If (marked mark.Open ts))) (sym (append_assoc tokens (t ∷ []) rest));
      }

  value_goes : (stack : List Around) (name : ℕ) (tokens : List Token) (i : inner.State) (t : Token) (s : State) → IsFine limits stack (InValue name tokens i) → lifted (frames stack) (Value name) (inner.step (left_of limits (levels (frames stack))) i t) ≡ Ok s → Steps limits (text_of stack (InValue name tokens i)) t s
  value_goes stack name tokens i t s fine e =
      let p = lifted_inverse (frames stack) (Value name) (inner.step (left_of limits (levels (frames stack))) i t) s e in
      record {
        stack' = stack;
        part' = InValue name (tokens ++ (t ∷ [])) p.0;
        state = p.2;
        fine = (fine.0, fine.1, inside_step (left_of limits (levels (frames stack))) i p.0 tokens t fine.2 p.1);
        same = λ rest. ap (λ ts. before stack (token.Name name ∷ token.Operator LessEqual ∷ ts)) (sym (append_assoc tokens (t ∷ []) rest));
      }

  condition_ends : (stack : List Around) (tokens : List Token) (i : inner.State) (o : Option Tree) (s : State) → IsFine limits stack (InCondition tokens i) → inner.finish i ≡ o → or_closed (frames stack) o (lifted (frames stack) Condition (inner.step (left_of limits (1 + levels (frames stack))) i (token.Punctuation mark.Close))) ≡ Ok s → Steps limits (text_of stack (InCondition tokens i)) (token.Punctuation mark.Close) s
  condition_ends stack tokens i None s fine h e = condition_goes stack tokens i (token.Punctuation mark.Close) s fine e
  condition_ends stack tokens i (Some c) s fine h e =
      let x = inside_end (left_of limits (1 + levels (frames stack))) i tokens c fine.2 h in
      record {
        stack' = AroundThen x.source ∷ stack;
        part' = Waits;
        state = ap (λ z. at (InThen z ∷ frames stack) Waiting) x.tree_is ∙ ok_inverse _ s e;
        fine = (fine.0, (x.grouped, omega (arith, x.in_levels, fine.0), x.in_operators, fine.1));
        same = λ rest. ap (λ ts. before stack (worded word.If (marked mark.Open (ts ++ token.Punctuation mark.Close ∷ rest)))) (sym x.text_is) ∙ ap (λ ts. before stack (worded word.If (marked mark.Open ts))) (sym (written_split x.source (marked mark.Close rest)));
      }

  value_ends : (stack : List Around) (name : ℕ) (tokens : List Token) (i : inner.State) (o : Option Tree) (s : State) → IsFine limits stack (InValue name tokens i) → inner.finish i ≡ o → or_given (frames stack) name o ≡ Ok s → Steps limits (text_of stack (InValue name tokens i)) (token.Punctuation mark.Semicolon) s
  value_ends stack name tokens i None s fine h e = absurd (never _ s e)
  value_ends stack name tokens i (Some c) s fine h e =
      let x = inside_end (left_of limits (levels (frames stack))) i tokens c fine.2 h in
      record {
        stack' = stack;
        part' = Ended (Given name x.source);
        state = ap (λ z. at (frames stack) (After (tree.Give name z))) x.tree_is ∙ ok_inverse _ s e;
        fine = (record { parted = x.grouped; in_levels = omega (arith, x.in_levels, fine.0); short = x.in_operators }, fine.1, omega arith);
        same = λ rest. ap (λ ts. before stack (token.Name name ∷ token.Operator LessEqual ∷ (ts ++ token.Punctuation mark.Semicolon ∷ rest))) (sym x.text_is) ∙ ap (λ ts. before stack (token.Name name ∷ token.Operator LessEqual ∷ ts)) (sym (written_split x.source (marked mark.Semicolon rest)));
      }

  condition_sound : (stack : List Around) (tokens : List Token) (i : inner.State) (t : Token) (s : State) → IsFine limits stack (InCondition tokens i) → condition_step limits (frames stack) i t ≡ Ok s → Steps limits (text_of stack (InCondition tokens i)) t s
  condition_sound stack tokens i (token.Punctuation mark.Close) s fine e = condition_ends stack tokens i (inner.finish i) s fine refl e
  condition_sound stack tokens i t s fine e = condition_goes stack tokens i t s fine e

  value_sound : (stack : List Around) (name : ℕ) (tokens : List Token) (i : inner.State) (t : Token) (s : State) → IsFine limits stack (InValue name tokens i) → value_step limits (frames stack) name i t ≡ Ok s → Steps limits (text_of stack (InValue name tokens i)) t s
  value_sound stack name tokens i (token.Punctuation mark.Semicolon) s fine e = value_ends stack name tokens i (inner.finish i) s fine refl e
  value_sound stack name tokens i t s fine e = value_goes stack name tokens i t s fine e

  after_sound : (stack : List Around) (a : Statement) (t : Token) (s : State) → IsFine limits stack (Ended a) → after_step limits (frames stack) (action_of a) t ≡ Ok s → Steps limits (text_of stack (Ended a)) t s
  after_sound stack a (token.Keyword word.Else) s fine e =
      let x = folds 0 stack a (omega (arith, fine.2)) fine.0 fine.1 in
      forked_sound (text_of stack (Ended a)) x.stack' x.s' s (ap (λ f. forked f.stack f.latest) (sym x.is) ∙ e) x.fits x.good x.tight (λ rest. x.same (token.Keyword word.Else ∷ rest))
  after_sound stack a t s fine e =
      let x = folds 1 stack a (omega (arith, fine.2)) fine.0 fine.1 in
      going_sound (text_of stack (Ended a)) x.stack' x.s' t s (ap (λ f. going_on limits f.stack f.latest t) (sym x.is) ∙ e) x.fits x.good (λ rest. x.same (t ∷ rest))

  pub step_sound : (stack : List Around) (part : Part) (t : Token) (s : State) → IsFine limits stack part → step limits (state_of stack part) t ≡ Ok s → Steps limits (text_of stack part) t s
  step_sound stack Waits t s fine e = waiting_sound (text_of stack Waits) stack t s e fine.0 fine.1 (λ rest. refl)
  step_sound stack (Ended a) t s fine e = after_sound stack a t s fine e
  step_sound stack Asks (token.Punctuation mark.Open) s fine e = record { stack' = stack; part' = InCondition [] inner.start; state = ok_inverse _ s e; fine = (fine.0, fine.1, inside_start (left_of limits (1 + levels (frames stack)))); same = λ rest. refl }
  step_sound stack Asks t s fine e = absurd (never _ s e)
  step_sound stack (InCondition tokens i) t s fine e = condition_sound stack tokens i t s fine e
  step_sound stack (Names name) (token.Operator LessEqual) s fine e = record { stack' = stack; part' = InValue name [] inner.start; state = ok_inverse _ s e; fine = (fine.0, fine.1, inside_start (left_of limits (levels (frames stack)))); same = λ rest. refl }
  step_sound stack (Names name) t s fine e = absurd (never _ s e)
  step_sound stack (InValue name tokens i) t s fine e = value_sound stack name tokens i t s fine e
