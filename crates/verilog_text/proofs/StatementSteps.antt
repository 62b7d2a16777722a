-- A statement drives the machine to its end, with the statement's tree.
use Rattle.std.proofs.Common.{◌≡◌, ℕ, ◌+◌, ◌≤◌, Bool, true, false, List, [], ◌∷◌, Some, None, Result, Ok, Err, refl, sym, ap, ◌∙◌, subst, arith}
use Rattle.std.proofs.lemmas.Bool.{lt-ltb, le-leb, cond-true}
use Rattle.verilog_tree.specs.declared.tree.Op.TheVariants.{LessEqual}
use Rattle.verilog_tree.specs.Tree as tree
use Rattle.verilog_tree.specs.Tree.{Tree, Action, Actions}
use Rattle.verilog_text.specs.declared.token.Mark.TheVariants as mark
use Rattle.verilog_text.specs.declared.token.Word.{Word}
use Rattle.verilog_text.specs.declared.token.Word.TheVariants as word
use Rattle.verilog_text.specs.declared.token.Token.{Token}
use Rattle.verilog_text.specs.declared.token.Token.TheVariants as token
use Rattle.verilog_text.specs.declared.token.Why.{Why}
use Rattle.verilog_text.specs.Grammar.{Source, marked, written, tree_of, IsGrouped, depth, operators, Limits}
use Rattle.verilog_text.specs.Machine as inner
use Rattle.verilog_text.specs.Statements.{Statement, Statements, Block, Guarded, Forked, Given, none, more, worded, if_text, statement_text, statements_text, action_of, actions_of, openness, IsParted, AreParted, height, heights, IsShort, AreShort}
use Rattle.verilog_text.specs.StatementMachine.{Frame, InBlock, InThen, InElse, Phase, Waiting, After, Asking, Condition, Named, Value, State, levels, left_of, at, Folded, fold_to, with_last, lifted, or_closed, or_given, waiting_step, forked, going_on, phase_step, step}
use Rattle.verilog_text.proofs.Passing.{Passing, one, chained, lift, resume}
use Rattle.verilog_text.proofs.Steps as steps
use Rattle.verilog_text.proofs.Steps.{looseness_most}

-- a bracket that closes inside an expression does not end it
closed_bare : (xs : List inner.Frame) (e : Tree) (used : ℕ) (s : inner.State) → inner.closed xs e used ≡ Ok s → inner.bare_tree xs e ≡ None
closed_bare [] e used s h = cc
closed_bare (x ∷ xs) e used s h = refl

closed_inside : (limits : Limits) (stack : List inner.Frame) (used : ℕ) (phase : inner.Phase) (s : inner.State) → inner.phase_step limits stack used phase (token.Punctuation mark.Close) ≡ Ok s → inner.finish_phase stack phase ≡ None
closed_inside limits stack used inner.Operand s h = refl
closed_inside limits stack used (inner.After bare loose e) s h = let f : inner.Folded = inner.fold_to 8 stack e in closed_bare f.stack f.operand used s h
closed_inside limits stack used (inner.Amount op e) s h = refl
closed_inside limits stack used (inner.Selecting name) s h = refl
closed_inside limits stack used (inner.Selected name high) s h = refl
closed_inside limits stack used (inner.Lowing name high) s h = refl
closed_inside limits stack used (inner.Closing name high low) s h = refl

-- no semicolon stands inside an expression
pub no_semicolon : (limits : Limits) (stack : List inner.Frame) (used : ℕ) (phase : inner.Phase) (s : inner.State) → inner.phase_step limits stack used phase (token.Punctuation mark.Semicolon) ≡ Ok s → ⊥
no_semicolon limits stack used inner.Operand s h = cc
no_semicolon limits stack used (inner.After bare loose e) s h = cc
no_semicolon limits stack used (inner.Amount op e) s h = cc
no_semicolon limits stack used (inner.Selecting name) s h = cc
no_semicolon limits stack used (inner.Selected name high) s h = cc
no_semicolon limits stack used (inner.Lowing name high) s h = cc
no_semicolon limits stack used (inner.Closing name high low) s h = cc

module _ (limits : Limits) where
  in_condition : (stack : List Frame) (s s' : inner.State) (t : Token) → inner.step (left_of limits (1 + levels stack)) s t ≡ Ok s' → step limits (at stack (Condition s)) t ≡ Ok (at stack (Condition s'))
  in_condition stack s s' (token.Punctuation mark.Close) e = ap (λ o. or_closed stack o (lifted stack Condition (inner.step (left_of limits (1 + levels stack)) s (token.Punctuation mark.Close)))) (closed_inside (left_of limits (1 + levels stack)) s.stack s.used s.phase s' e) ∙ ap (lifted stack Condition) e
  in_condition stack s s' t e = ap (lifted stack Condition) e

  in_value : (stack : List Frame) (name : ℕ) (s s' : inner.State) (t : Token) → inner.step (left_of limits (levels stack)) s t ≡ Ok s' → step limits (at stack (Value name s)) t ≡ Ok (at stack (Value name s'))
  in_value stack name s s' (token.Punctuation mark.Semicolon) e = absurd (no_semicolon (left_of limits (levels stack)) s.stack s.used s.phase s' e)
  in_value stack name s s' t e = ap (lifted stack (Value name)) e

  -- an expression by itself, with what is left of the levels
  expression : (k : ℕ) (c : Source) → IsGrouped c → k + depth c ≤ limits.levels → operators c ≤ limits.operators → steps.HasRead (left_of limits k) [] 0 c
  expression k c grouped high short =
      let low = looseness_most c in
      steps.reads (left_of limits k) [] 0 c (record { grouped = grouped; in_room = omega arith; in_levels = omega arith; in_operators = omega arith; free = steps.free_elsewhere (left_of limits k) [] 0 c refl })

  finished : (k : ℕ) (c : Source) (x : steps.HasRead (left_of limits k) [] 0 c) → inner.finish (inner.at x.stack' (inner.After x.bare x.loose x.operand) (0 + operators c)) ≡ Some (tree_of c)
  finished k c x = ap (λ f. inner.bare_tree f.stack f.operand) (x.folds 8 (looseness_most c))

  reads_condition : (stack : List Frame) (c : Source) → IsGrouped c → 1 + levels stack + depth c ≤ limits.levels → operators c ≤ limits.operators → Passing (step limits) (at stack (Condition inner.start)) (λ ts. written c (marked mark.Close ts)) (at (InThen (tree_of c) ∷ stack) Waiting)
  reads_condition stack c grouped high short =
      let k : ℕ = 1 + levels stack in
      let x = expression k c grouped high short in
      let end : inner.State = inner.at x.stack' (inner.After x.bare x.loose x.operand) (0 + operators c) in
      chained (lift (inner.step (left_of limits k)) (step limits) (λ s. at stack (Condition s)) (in_condition stack) inner.start end (written c) x.passes)
      (one (token.Punctuation mark.Close) (ap (λ o. or_closed stack o (lifted stack Condition (inner.step (left_of limits k) end (token.Punctuation mark.Close)))) (finished k c x)))

  reads_value : (stack : List Frame) (name : ℕ) (c : Source) → IsGrouped c → levels stack + depth c ≤ limits.levels → operators c ≤ limits.operators → Passing (step limits) (at stack (Value name inner.start)) (λ ts. written c (marked mark.Semicolon ts)) (at stack (After (tree.Give name (tree_of c))))
  reads_value stack name c grouped high short =
      let k : ℕ = levels stack in
      let x = expression k c grouped high short in
      let end : inner.State = inner.at x.stack' (inner.After x.bare x.loose x.operand) (0 + operators c) in
      chained (lift (inner.step (left_of limits k)) (step limits) (λ s. at stack (Value name s)) (in_value stack name) inner.start end (written c) x.passes)
      (one (token.Punctuation mark.Semicolon) (ap (or_given stack name) (finished k c x)))

-- a list of statements behind another
abbrev joined : Actions → Actions → Actions
joined tree.no_action others = others
joined (tree.action first rest) others = tree.action first (joined rest others)

joined_none : (xs : Actions) → joined xs tree.no_action ≡ xs
joined_none tree.no_action = refl
joined_none (tree.action first rest) = ap (tree.action first) (joined_none rest)

joined_last : (xs : Actions) (a : Action) (ys : Actions) → joined (with_last xs a) ys ≡ joined xs (tree.action a ys)
joined_last tree.no_action a ys = refl
joined_last (tree.action first rest) a ys = ap (tree.action first) (joined_last rest a ys)

abbrev is_else : Token → Bool
is_else (token.Keyword word.Else) = true
is_else _ = false

-- the machine has read the statement: what it would fold to is what the tree would
pub record HasRead (limits : Limits) (stack : List Frame) (s : Statement) : Type 0 where
  pub stack' : List Frame
  pub latest : Action
  pub passes : Passing (step limits) (at stack Waiting) (statement_text s) (at stack' (After latest))
  pub folds : (r : ℕ) → openness s ≤ r → fold_to r stack' latest ≡ fold_to r stack (action_of s)

-- the machine has read these statements of a block and its `end`
pub record Fits (limits : Limits) (stack : List Frame) (s : Statement) : Type 0 where
  pub parted : IsParted s
  pub in_levels : levels stack + height s ≤ limits.levels
  pub short : IsShort limits.operators s

pub openness_most : (s : Statement) → openness s ≤ 1
openness_most (Block members) = omega arith
openness_most (Guarded condition on_true) = omega arith
openness_most (Forked condition on_true on_false) = openness_most on_false
openness_most (Given name value) = omega arith

module _ (limits : Limits) where
  -- behind a statement, but for an `else`
  folds_on : (stack : List Frame) (a : Action) (f : Folded) (t : Token) → is_else t ≡ false → fold_to 1 stack a ≡ f → step limits (at stack (After a)) t ≡ going_on limits f.stack f.latest t
  folds_on stack a f (token.Keyword word.Else) h e = cc
  folds_on stack a f t h e = ap (λ g. going_on limits g.stack g.latest t) e

  -- a statement of a block is over where a further one begins, or the block ends
  goes_on : (stack stack' : List Frame) (before : Actions) (a a' : Action) → fold_to 1 stack' a' ≡ record { stack = InBlock before ∷ stack; latest = a } → (t : Token) (next : State) → step limits (at (InBlock (with_last before a) ∷ stack) Waiting) t ≡ Ok next → step limits (at stack' (After a')) t ≡ Ok next
  goes_on stack stack' before a a' e (token.Keyword word.Else) next h = cc
  goes_on stack stack' before a a' e t next h = folds_on stack' a' (record { stack = InBlock before ∷ stack; latest = a }) t refl e ∙ h

  -- the `if` and the `(`, and the condition with its `)`
  reads_if : (stack : List Frame) (c : Source) → IsGrouped c → 1 + levels stack + depth c ≤ limits.levels → operators c ≤ limits.operators → Passing (step limits) (at stack Waiting) (if_text c) (at (InThen (tree_of c) ∷ stack) Waiting)
  reads_if stack c grouped high short =
      chained (one (token.Keyword word.If) (cond-true _ _ _ (lt-ltb (levels stack) limits.levels (omega arith))))
      (chained (one {s = at stack Asking} {s' = at stack (Condition inner.start)} (token.Punctuation mark.Open) refl) (reads_condition limits stack c grouped high short))

  -- an `else` behind a statement that leaves no `if` open
  forks : (stack stack' : List Frame) (c : Tree) (a a' : Action) → fold_to 0 stack' a' ≡ record { stack = InThen c ∷ stack; latest = a } → step limits (at stack' (After a')) (token.Keyword word.Else) ≡ Ok (at (InElse c a ∷ stack) Waiting)
  forks stack stack' c a a' e = ap (λ f. forked f.stack f.latest) e

  mutual
    pub reads : (stack : List Frame) (s : Statement) → Fits limits stack s → HasRead limits stack s
    reads stack (Block members) f =
        let x = reads_all stack tree.no_action members f.parted (omega (arith, f.in_levels)) f.short in
        record {
          stack' = stack;
          latest = tree.Block (actions_of members);
          passes = chained (one (token.Keyword word.Begin) (cond-true _ _ _ (lt-ltb (levels stack) limits.levels (omega (arith, f.in_levels))))) x;
          folds = λ r h. refl;
        }
    reads stack (Guarded c t) f =
        let under : List Frame = InThen (tree_of c) ∷ stack in
        let x : HasRead limits under t = reads under t (record { parted = f.parted.1; in_levels = omega (arith, f.in_levels); short = f.short.1 }) in
        let most = openness_most t in
        record {
          stack' = x.stack';
          latest = x.latest;
          passes = chained (reads_if stack c f.parted.0 (omega (arith, f.in_levels)) f.short.0) x.passes;
          folds = λ r h. x.folds r (omega (arith, most, h)) ∙ cond-true _ _ _ (le-leb 1 r h);
        }
    reads stack (Forked c t e) f =
        let under : List Frame = InThen (tree_of c) ∷ stack in
        let beside : List Frame = InElse (tree_of c) (action_of t) ∷ stack in
        let x : HasRead limits under t = reads under t (record { parted = f.parted.2; in_levels = omega (arith, f.in_levels); short = f.short.1 }) in
        let y : HasRead limits beside e = reads beside e (record { parted = f.parted.3; in_levels = omega (arith, f.in_levels); short = f.short.2 }) in
        record {
          stack' = y.stack';
          latest = y.latest;
          passes =
              chained (reads_if stack c f.parted.0 (omega (arith, f.in_levels)) f.short.0)
              (chained x.passes (chained (one (token.Keyword word.Else) (forks stack x.stack' (tree_of c) (action_of t) x.latest (x.folds 0 (omega (arith, f.parted.1))))) y.passes));
          folds = λ r h. y.folds r h;
        }
    reads stack (Given name value) f = record {
      stack' = stack;
      latest = tree.Give name (tree_of value);
      passes = chained (one {s = at stack Waiting} {s' = at stack (Named name)} (token.Name name) refl) (chained (one {s = at stack (Named name)} {s' = at stack (Value name inner.start)} (token.Operator LessEqual) refl) (reads_value limits stack name value f.parted f.in_levels f.short));
      folds = λ r h. refl;
    }

    -- the statements of a block, and its `end`
    pub reads_all : (stack : List Frame) (before : Actions) (members : Statements) → AreParted members → 1 + levels stack + heights members ≤ limits.levels → AreShort limits.operators members
        → Passing (step limits) (at (InBlock before ∷ stack) Waiting) (λ ts. statements_text members (worded word.End ts)) (at stack (After (tree.Block (joined before (actions_of members)))))
    reads_all stack before none parted high short = one (token.Keyword word.End) (ap (λ xs. Ok (at stack (After (tree.Block xs)))) (sym (joined_none before)))
    reads_all stack before (more m others) parted high short =
        let here : List Frame = InBlock before ∷ stack in
        let x : HasRead limits here m = reads here m (record { parted = parted.0; in_levels = omega (arith, high); short = short.0 }) in
        let y = reads_all stack (with_last before (action_of m)) others parted.1 (omega (arith, high)) short.1 in
        let end : State = at stack (After (tree.Block (joined (with_last before (action_of m)) (actions_of others)))) in
        subst (λ xs. Passing (step limits) (at here Waiting) (λ ts. statements_text (more m others) (worded word.End ts)) (at stack (After (tree.Block xs)))) (joined_last before (action_of m) (actions_of others))
        (chained x.passes (resume (step limits) (at x.stack' (After x.latest)) (at (InBlock (with_last before (action_of m)) ∷ stack) Waiting) end _ (goes_on stack x.stack' before (action_of m) x.latest (x.folds 1 (openness_most m))) y))

-- no word that begins an item stands inside a statement
abbrev pub is_item_word : Word → Bool
is_item_word word.Wire = true
is_item_word word.Reg = true
is_item_word word.Assign = true
is_item_word word.Always = true
is_item_word word.EndModule = true
is_item_word _ = false

module _ (limits : Limits) where
  no_item_waiting : (stack : List Frame) (w : Word) (s' : State) → is_item_word w ≡ true → waiting_step limits stack (token.Keyword w) ≡ Ok s' → ⊥
  no_item_waiting stack word.Wire s' i e = cc
  no_item_waiting stack word.Reg s' i e = cc
  no_item_waiting stack word.Assign s' i e = cc
  no_item_waiting stack word.Always s' i e = cc
  no_item_waiting stack word.EndModule s' i e = cc
  no_item_waiting stack _ s' i e = cc

  no_item_on : (stack : List Frame) (a : Action) (w : Word) (s' : State) → is_item_word w ≡ true → going_on limits stack a (token.Keyword w) ≡ Ok s' → ⊥
  no_item_on [] a w s' i e = cc
  no_item_on (InBlock before ∷ stack) a w s' i e = no_item_waiting (InBlock (with_last before a) ∷ stack) w s' i e
  no_item_on (InThen c ∷ stack) a w s' i e = cc
  no_item_on (InElse c t ∷ stack) a w s' i e = cc

  no_word : (stack : List inner.Frame) (used : ℕ) (phase : inner.Phase) (w : Word) (bounds : Limits) (s' : inner.State) → inner.phase_step bounds stack used phase (token.Keyword w) ≡ Ok s' → ⊥
  no_word stack used inner.Operand w bounds s' e = cc
  no_word stack used (inner.After bare loose x) w bounds s' e = cc
  no_word stack used (inner.Amount op x) w bounds s' e = cc
  no_word stack used (inner.Selecting name) w bounds s' e = cc
  no_word stack used (inner.Selected name high) w bounds s' e = cc
  no_word stack used (inner.Lowing name high) w bounds s' e = cc
  no_word stack used (inner.Closing name high low) w bounds s' e = cc

  lifted_ok : (stack : List Frame) (make : inner.State → Phase) (r : Result inner.State Why) (s' : State) → lifted stack make r ≡ Ok s' → (x : inner.State) × (r ≡ Ok x)
  lifted_ok stack make (Ok x) s' e = (x, refl)
  lifted_ok stack make (Err w) s' e = cc

  after_item : (stack : List Frame) (a : Action) (w : Word) (s' : State) → is_item_word w ≡ true → step limits (at stack (After a)) (token.Keyword w) ≡ Ok s' → ⊥
  after_item stack a word.Else s' i e = cc
  after_item stack a w s' i e = let f : Folded = fold_to 1 stack a in no_item_on f.stack f.latest w s' i (sym (folds_on limits stack a f (token.Keyword w) (not_else w i) refl) ∙ e)
    where
      not_else : (w : Word) → is_item_word w ≡ true → is_else (token.Keyword w) ≡ false
      not_else word.Else i = cc
      not_else _ i = refl

  pub no_item : (s s' : State) (w : Word) → is_item_word w ≡ true → step limits s (token.Keyword w) ≡ Ok s' → ⊥
  no_item s s' w i e = go s.stack s.phase e
    where
      go : (stack : List Frame) (phase : Phase) → phase_step limits stack phase (token.Keyword w) ≡ Ok s' → ⊥
      go stack Waiting h = no_item_waiting stack w s' i h
      go stack (After a) h = after_item stack a w s' i h
      go stack Asking h = cc
      go stack (Condition x) h = let r = lifted_ok stack Condition _ s' h in no_word x.stack x.used x.phase w (left_of limits (1 + levels stack)) r.0 r.1
      go stack (Named name) h = cc
      go stack (Value name x) h = let r = lifted_ok stack (Value name) _ s' h in no_word x.stack x.used x.phase w (left_of limits (levels stack)) r.0 r.1
