-- An expression drives the machine over its tokens, step by step.
use Rattle.std.proofs.Common.{◌≡◌, ℕ, ◌+◌, ◌<◌, ◌≤◌, false, List, [], ◌∷◌, Some, None, Ok, refl, sym, ap, ◌∙◌, subst, arith}
use Rattle.std.specs.Prelude.{nat_le, Option}
use Rattle.std.proofs.lemmas.Bool.{lt-ltb, le-leb, lt-leb, cond-true, cond-false, and_right, and_left}
use Rattle.verilog_tree.specs.declared.tree.Op.{Op}
use Rattle.verilog_tree.specs.declared.tree.ShiftOp.{ShiftOp}
use Rattle.verilog_tree.specs.Tree as tree
use Rattle.verilog_tree.specs.Tree.{Tree, Trees}
use Rattle.verilog_text.specs.declared.token.Mark.TheVariants as mark
use Rattle.verilog_text.specs.declared.token.Token.{Token}
use Rattle.verilog_text.specs.declared.token.Token.TheVariants as token
use Rattle.verilog_text.specs.Grammar.{Source, Sources, Named, BitOf, PartOf, Number, Based, Bracketed, Joined, Inverted, Operated, Shifted, Chosen, no_member, member, written, written_members, tree_of, trees_of, rank, looseness, is_plain, HasMember, IsGrouped, AreGrouped, depth, depths, operators, operators_in, Limits}
use Rattle.verilog_text.specs.Machine.{Frame, InBracket, InNot, InMembers, InRight, InYes, InNo, Operand, After, Amount, State, levels, fold_to, at, opened, at_member, is_spent, operated, shifted, with_last, closed, parted, joined, turned, step}
use Rattle.verilog_text.proofs.Shortest.{rank_bounds}
use Rattle.verilog_text.proofs.Passing.{Passing, one, chained}

-- what stands in the place on top of the stack binds tighter than this
abbrev pub room : List Frame → ℕ
room [] = 9
room (InBracket ∷ stack) = 9
room (InNot ∷ stack) = 1
room (InMembers held ∷ stack) = 9
room (InRight left op ∷ stack) = rank op
room (InYes condition ∷ stack) = 9
room (InNo condition on_true ∷ stack) = 9

pub looseness_most : (c : Source) → looseness c ≤ 8
looseness_most (Named name) = omega arith
looseness_most (BitOf name place) = omega arith
looseness_most (PartOf name high low) = omega arith
looseness_most (Number value) = omega arith
looseness_most (Based literal) = omega arith
looseness_most (Bracketed c) = omega arith
looseness_most (Joined members) = omega arith
looseness_most (Inverted a) = omega arith
looseness_most (Operated op a b) = omega (arith, (rank_bounds op).1)
looseness_most (Shifted op a n) = omega arith
looseness_most (Chosen c a b) = omega arith

pub fold_keeps : (loose : ℕ) (stack : List Frame) (e : Tree) → 0 < loose → loose < 8 → loose < room stack → fold_to loose stack e ≡ record { stack = stack; operand = e }
fold_keeps loose [] e low high fits = refl
fold_keeps loose (InBracket ∷ stack) e low high fits = refl
fold_keeps loose (InNot ∷ stack) e low high fits = absurd (omega arith)
fold_keeps loose (InMembers held ∷ stack) e low high fits = refl
fold_keeps loose (InRight left op ∷ stack) e low high fits = cond-false _ _ _ (lt-leb (rank op) loose fits)
fold_keeps loose (InYes condition ∷ stack) e low high fits = refl
fold_keeps loose (InNo condition on_true ∷ stack) e low high fits = cond-false _ _ _ (lt-leb 8 loose high)

-- a number here can be gone on with
abbrev pub IsFree : Limits → List Frame → ℕ → Source → Type 0
IsFree limits stack used (Number value) = is_spent limits stack used ≡ false
IsFree limits stack used _ = Unit {0}

-- the expression fits into the place on top of the stack
pub record Fits (limits : Limits) (stack : List Frame) (used : ℕ) (c : Source) : Type 0 where
  pub grouped : IsGrouped c
  pub in_room : looseness c < room stack
  pub in_levels : levels stack + depth c ≤ limits.levels
  pub in_operators : used + operators c ≤ limits.operators
  pub free : IsFree limits stack used c

abbrev pub Passes : Limits → State → (List Token → List Token) → State → Type 0
Passes limits s f s' = Passing (step limits) s f s'

-- the machine has read the expression: what it would fold to is what the tree would
pub record HasRead (limits : Limits) (stack : List Frame) (used : ℕ) (c : Source) : Type 0 where
  pub stack' : List Frame
  pub bare : Option ℕ
  pub operand : Tree
  pub loose : ℕ
  pub passes : Passes limits (at stack Operand used) (written c) (at stack' (After bare loose operand) (used + operators c))
  pub folds : (r : ℕ) → looseness c ≤ r → fold_to r stack' operand ≡ fold_to r stack (tree_of c)
  pub tight : loose ≤ looseness c

-- members behind others
abbrev pub followed_by : Trees → Trees → Trees
followed_by tree.none others = others
followed_by (tree.more first rest) others = tree.more first (followed_by rest others)

pub followed_by-last : (xs : Trees) (e : Tree) (ys : Trees) → followed_by (with_last xs e) ys ≡ followed_by xs (tree.more e ys)
followed_by-last tree.none e ys = refl
followed_by-last (tree.more x xs) e ys = ap (tree.more x) (followed_by-last xs e ys)

pub followed_by-none : (xs : Trees) → followed_by xs tree.none ≡ xs
followed_by-none tree.none = refl
followed_by-none (tree.more x xs) = ap (tree.more x) (followed_by-none xs)

-- members without the mark before the first
abbrev pub written_rest : Sources → List Token → List Token
written_rest no_member rest = rest
written_rest (member c cs) rest = written c (written_members mark.Comma cs rest)

module _ (limits : Limits) where
  -- a few steps, as equations
  pub opens : (stack : List Frame) (used : ℕ) (frame : Frame) → levels stack < limits.levels → opened limits stack used frame ≡ Ok (at (frame ∷ stack) Operand used)
  opens stack used frame h = cond-true _ _ _ (lt-ltb (levels stack) limits.levels h)

  pub free_from_operators : (stack : List Frame) (used : ℕ) (c : Source) → used < limits.operators → IsFree limits stack used c
  free_from_operators stack used (Number value) h = and_right (at_member stack) _ (and_right (nat_le limits.levels (levels stack)) _ (lt-leb limits.operators used h))
  free_from_operators stack used _ h = tt

  pub free_from_levels : (stack : List Frame) (used : ℕ) (c : Source) → levels stack < limits.levels → IsFree limits stack used c
  free_from_levels stack used (Number value) h = and_right (at_member stack) _ (and_left _ (nat_le limits.operators used) (lt-leb limits.levels (levels stack) h))
  free_from_levels stack used _ h = tt

  -- where no member begins
  pub free_elsewhere : (stack : List Frame) (used : ℕ) (c : Source) → at_member stack ≡ false → IsFree limits stack used c
  free_elsewhere stack used (Number value) h = and_left (at_member stack) _ h
  free_elsewhere stack used _ h = tt

  -- a member is no number
  pub free_member : (stack : List Frame) (used : ℕ) (c : Source) → is_plain (tree_of c) ≡ false → IsFree limits stack used c
  free_member stack used (Number value) h = cc
  free_member stack used _ h = tt

  -- the step behind a left operand
  pub operates : (stack stack' : List Frame) (used loose : ℕ) (bare : Option ℕ) (e e' : Tree) (op : Op) → loose ≤ rank op → fold_to (rank op) stack' e' ≡ record { stack = stack; operand = e } → used < limits.operators → step limits (at stack' (After bare loose e') used) (token.Operator op) ≡ Ok (at (InRight e op ∷ stack) Operand (used + 1))
  operates stack stack' used loose bare e e' op tight fold room = cond-true _ _ _ (le-leb loose (rank op) tight) ∙ ap (λ f. operated limits f used op) fold ∙ cond-true _ _ _ (lt-ltb used limits.operators room)

  pub shifts : (stack stack' : List Frame) (used loose : ℕ) (bare : Option ℕ) (e e' : Tree) (op : ShiftOp) → loose ≤ 2 → fold_to 2 stack' e' ≡ record { stack = stack; operand = e } → used < limits.operators → step limits (at stack' (After bare loose e') used) (token.Shift op) ≡ Ok (at stack (Amount op e) (used + 1))
  shifts stack stack' used loose bare e e' op tight fold room = cond-true _ _ _ (le-leb loose 2 tight) ∙ ap (λ f. shifted limits f used op) fold ∙ cond-true _ _ _ (lt-ltb used limits.operators room)

  -- an operand that ends at once
  atom : (stack : List Frame) (used : ℕ) (c : Source) (bare : Option ℕ) → operators c ≡ 0 → Passes limits (at stack Operand used) (written c) (at stack (After bare 0 (tree_of c)) used) → HasRead limits stack used c
  atom stack used c bare none p = record {
    stack' = stack;
    bare = bare;
    operand = tree_of c;
    loose = 0;
    passes = subst (λ n. Passes limits (at stack Operand used) (written c) (at stack (After bare 0 (tree_of c)) n)) {x = used} {y = used + operators c} (omega (arith, none)) p;
    folds = λ r h. refl;
    tight = omega arith;
  }

  mutual
    pub reads : (stack : List Frame) (used : ℕ) (c : Source) → Fits limits stack used c → HasRead limits stack used c
    reads stack used (Named name) f = atom stack used (Named name) (Some name) refl (one (token.Name name) refl)
    reads stack used (BitOf name place) f = atom stack used (BitOf name place) None refl (chained (one (token.Name name) refl) (chained (one (token.Punctuation mark.OpenBracket) refl) (chained (one (token.Number place) refl) (one (token.Punctuation mark.CloseBracket) refl))))
    reads stack used (PartOf name high low) f = atom stack used (PartOf name high low) None refl (chained (one (token.Name name) refl) (chained (one (token.Punctuation mark.OpenBracket) refl) (chained (one (token.Number high) refl) (chained (one (token.Punctuation mark.Colon) refl) (chained (one (token.Number low) refl) (one (token.Punctuation mark.CloseBracket) refl))))))
    reads stack used (Number number) f = atom stack used (Number number) None refl (one (token.Number number) (cond-false _ _ _ f.free))
    reads stack used (Based literal) f = atom stack used (Based literal) None refl (one (token.Based literal) refl)
    reads stack used (Bracketed c) f =
        let room : levels stack < limits.levels = omega (arith, f.in_levels) in
        let low = looseness_most c in
        let a : HasRead limits (InBracket ∷ stack) used c = reads (InBracket ∷ stack) used c (record { grouped = f.grouped; in_room = omega arith; in_levels = omega (arith, f.in_levels); in_operators = f.in_operators; free = free_elsewhere (InBracket ∷ stack) used c refl }) in
        let closes : step limits (at a.stack' (After a.bare a.loose a.operand) (used + operators c)) (token.Punctuation mark.Close) ≡ Ok (at stack (After None 0 (tree_of c)) (used + operators c)) = ap (λ g. closed g.stack g.operand (used + operators c)) (a.folds 8 low) in
        record {
          stack' = stack;
          bare = None;
          operand = tree_of c;
          loose = 0;
          passes = chained (one (token.Punctuation mark.Open) (opens stack used InBracket room)) (chained a.passes (one (token.Punctuation mark.Close) closes));
          folds = λ r h. refl;
          tight = omega arith;
        }
    reads stack used (Joined no_member) f = absurd f.grouped.0
    reads stack used (Joined (member c cs)) f =
        let room : levels stack < limits.levels = omega (arith, f.in_levels) in
        let x = reads_members stack used tree.none (member c cs) f.grouped.0 f.grouped.1 (omega (arith, f.in_levels)) (omega (arith, f.in_operators)) in
        record {
          stack' = stack;
          bare = None;
          operand = tree_of (Joined (member c cs));
          loose = 0;
          passes = chained (one (token.Punctuation mark.OpenBrace) (opens stack used (InMembers tree.none) room)) x;
          folds = λ r h. refl;
          tight = omega arith;
        }
    reads stack used (Inverted a) f =
        let room : levels stack < limits.levels = omega (arith, f.in_levels) in
        let x : HasRead limits (InNot ∷ stack) used a = reads (InNot ∷ stack) used a (record { grouped = f.grouped.1; in_room = f.grouped.0; in_levels = omega (arith, f.in_levels); in_operators = f.in_operators; free = free_elsewhere (InNot ∷ stack) used a refl }) in
        record {
          stack' = x.stack';
          bare = x.bare;
          operand = x.operand;
          loose = x.loose;
          passes = chained (one (token.Punctuation mark.Inverse) (opens stack used InNot room)) x.passes;
          folds = λ r h. x.folds r (omega (arith, f.grouped.0));
          tight = omega (arith, x.tight, f.grouped.0);
        }
    reads stack used (Operated op a b) f =
        let bounds = rank_bounds op in
        let n : ℕ = used + operators a in
        let room : n < limits.operators = omega (arith, f.in_operators) in
        let room' : used < limits.operators = omega (arith, f.in_operators) in
        let x : HasRead limits stack used a = reads stack used a (record { grouped = f.grouped.2; in_room = omega (arith, f.in_room, f.grouped.0); in_levels = omega (arith, f.in_levels); in_operators = omega (arith, f.in_operators); free = free_from_operators stack used a room' }) in
        let goes : step limits (at x.stack' (After x.bare x.loose x.operand) n) (token.Operator op) ≡ Ok (at (InRight (tree_of a) op ∷ stack) Operand (n + 1)) = operates stack x.stack' n x.loose x.bare (tree_of a) x.operand op (omega (arith, x.tight, f.grouped.0)) (x.folds (rank op) f.grouped.0 ∙ fold_keeps (rank op) stack (tree_of a) bounds.0 bounds.1 f.in_room) room in
        let y : HasRead limits (InRight (tree_of a) op ∷ stack) (n + 1) b = reads (InRight (tree_of a) op ∷ stack) (n + 1) b (record { grouped = f.grouped.3; in_room = f.grouped.1; in_levels = omega (arith, f.in_levels); in_operators = omega (arith, f.in_operators); free = free_elsewhere (InRight (tree_of a) op ∷ stack) (n + 1) b refl }) in
        let e : n + 1 + operators b ≡ used + (operators a + 1 + operators b) = omega arith in
        record {
          stack' = y.stack';
          bare = y.bare;
          operand = y.operand;
          loose = y.loose;
          passes = subst (λ m. Passes limits (at stack Operand used) (written (Operated op a b)) (at y.stack' (After y.bare y.loose y.operand) m)) e
              (chained x.passes (chained (one (token.Operator op) goes) y.passes));
          folds = λ r h. y.folds r (omega (arith, f.grouped.1, h)) ∙ cond-true _ _ _ (le-leb (rank op) r h);
          tight = omega (arith, y.tight, f.grouped.1);
        }
    reads stack used (Shifted op a k) f =
        let n : ℕ = used + operators a in
        let room : n < limits.operators = omega (arith, f.in_operators) in
        let room' : used < limits.operators = omega (arith, f.in_operators) in
        let x : HasRead limits stack used a = reads stack used a (record { grouped = f.grouped.2; in_room = omega (arith, f.in_room, f.grouped.0); in_levels = f.in_levels; in_operators = omega (arith, f.in_operators); free = free_from_operators stack used a room' }) in
        let goes : step limits (at x.stack' (After x.bare x.loose x.operand) n) (token.Shift op) ≡ Ok (at stack (Amount op (tree_of a)) (n + 1)) = shifts stack x.stack' n x.loose x.bare (tree_of a) x.operand op (omega (arith, x.tight, f.grouped.0)) (x.folds 2 f.grouped.0 ∙ fold_keeps 2 stack (tree_of a) (omega arith) (omega arith) f.in_room) room in
        let amount : step limits (at stack (Amount op (tree_of a)) (n + 1)) (token.Number k) ≡ Ok (at stack (After None 2 (tree.Shift op (tree_of a) k.value)) (n + 1)) = cond-true _ _ _ (lt-ltb k.value 128 f.grouped.1) in
        let e : n + 1 ≡ used + (operators a + 1) = omega arith in
        record {
          stack' = stack;
          bare = None;
          operand = tree.Shift op (tree_of a) k.value;
          loose = 2;
          passes = subst (λ m. Passes limits (at stack Operand used) (written (Shifted op a k)) (at stack (After None 2 (tree.Shift op (tree_of a) k.value)) m)) e
              (chained x.passes (chained (one (token.Shift op) goes) (one (token.Number k) amount)));
          folds = λ r h. refl;
          tight = omega arith;
        }
    reads stack used (Chosen c a b) f =
        let n : ℕ = used + operators c in
        let n' : ℕ = n + operators a in
        let low = looseness_most a in
        let low' = looseness_most b in
        let room : levels stack < limits.levels = omega (arith, f.in_levels) in
        let x : HasRead limits stack used c = reads stack used c (record { grouped = f.grouped.1; in_room = omega (arith, f.in_room, f.grouped.0); in_levels = omega (arith, f.in_levels); in_operators = omega (arith, f.in_operators); free = free_from_levels stack used c room }) in
        let below : looseness c ≤ 7 = omega (arith, f.grouped.0) in
        let asks : step limits (at x.stack' (After x.bare x.loose x.operand) n) (token.Punctuation mark.Question) ≡ Ok (at (InYes (tree_of c) ∷ stack) Operand n) = ap (λ g. opened limits g.stack n (InYes g.operand)) (x.folds 7 below ∙ fold_keeps 7 stack (tree_of c) (omega arith) (omega arith) (omega (arith, f.in_room))) ∙ opens stack n (InYes (tree_of c)) room in
        let y : HasRead limits (InYes (tree_of c) ∷ stack) n a = reads (InYes (tree_of c) ∷ stack) n a (record { grouped = f.grouped.2; in_room = omega arith; in_levels = omega (arith, f.in_levels); in_operators = omega (arith, f.in_operators); free = free_elsewhere (InYes (tree_of c) ∷ stack) n a refl }) in
        let turns : step limits (at y.stack' (After y.bare y.loose y.operand) n') (token.Punctuation mark.Colon) ≡ Ok (at (InNo (tree_of c) (tree_of a) ∷ stack) Operand n') = ap (λ g. turned g.stack g.operand n') (y.folds 8 low) in
        let z : HasRead limits (InNo (tree_of c) (tree_of a) ∷ stack) n' b = reads (InNo (tree_of c) (tree_of a) ∷ stack) n' b (record { grouped = f.grouped.3; in_room = omega arith; in_levels = omega (arith, f.in_levels); in_operators = omega (arith, f.in_operators); free = free_elsewhere (InNo (tree_of c) (tree_of a) ∷ stack) n' b refl }) in
        let e : n' + operators b ≡ used + (operators c + operators a + operators b) = omega arith in
        record {
          stack' = z.stack';
          bare = z.bare;
          operand = z.operand;
          loose = z.loose;
          passes = subst (λ m. Passes limits (at stack Operand used) (written (Chosen c a b)) (at z.stack' (After z.bare z.loose z.operand) m)) e
              (chained x.passes (chained (one (token.Punctuation mark.Question) asks) (chained y.passes (chained (one (token.Punctuation mark.Colon) turns) z.passes))));
          folds = λ r h. z.folds r (omega (arith, low', h)) ∙ cond-true _ _ _ (le-leb 8 r h);
          tight = omega (arith, z.tight, low');
        }

    -- the members behind a `{` or a comma, and the `}`
    reads_members : (stack : List Frame) (used : ℕ) (held : Trees) (cs : Sources) → HasMember cs → AreGrouped cs → 1 + levels stack + depths cs ≤ limits.levels → used + operators_in cs ≤ limits.operators
        → Passes limits (at (InMembers held ∷ stack) Operand used) (written_rest cs) (at stack (After None 0 (tree.Cat (followed_by held (trees_of cs)))) (used + operators_in cs))
    reads_members stack used held no_member some g high few = absurd some
    reads_members stack used held (member c no_member) some g high few =
        let low = looseness_most c in
        let n : ℕ = used + operators c in
        let x : HasRead limits (InMembers held ∷ stack) used c = reads (InMembers held ∷ stack) used c (record { grouped = g.1; in_room = omega arith; in_levels = omega (arith, high); in_operators = omega (arith, few); free = free_member (InMembers held ∷ stack) used c g.0 }) in
        let all : with_last held (tree_of c) ≡ followed_by held (trees_of (member c no_member)) = sym (followed_by-none (with_last held (tree_of c))) ∙ followed_by-last held (tree_of c) tree.none in
        let joins : step limits (at x.stack' (After x.bare x.loose x.operand) n) (token.Punctuation mark.CloseBrace) ≡ Ok (at stack (After None 0 (tree.Cat (followed_by held (trees_of (member c no_member))))) n) =
        ap (λ h. joined h.stack h.operand n) (x.folds 8 low) ∙ cond-false _ _ _ g.0 ∙ ap (λ ts. Ok (at stack (After None 0 (tree.Cat ts)) n)) all in
        subst (λ m. Passes limits (at (InMembers held ∷ stack) Operand used) (written_rest (member c no_member)) (at stack (After None 0 (tree.Cat (followed_by held (trees_of (member c no_member))))) m)) {x = n} {y = used + operators_in (member c no_member)} (omega arith)
        (chained x.passes (one (token.Punctuation mark.CloseBrace) joins))
    reads_members stack used held (member c (member d cs)) some g high few =
        let low = looseness_most c in
        let n : ℕ = used + operators c in
        let x : HasRead limits (InMembers held ∷ stack) used c = reads (InMembers held ∷ stack) used c (record { grouped = g.1; in_room = omega arith; in_levels = omega (arith, high); in_operators = omega (arith, few); free = free_member (InMembers held ∷ stack) used c g.0 }) in
        let parts : step limits (at x.stack' (After x.bare x.loose x.operand) n) (token.Punctuation mark.Comma) ≡ Ok (at (InMembers (with_last held (tree_of c)) ∷ stack) Operand n) = ap (λ h. parted h.stack h.operand n) (x.folds 8 low) ∙ cond-false _ _ _ g.0 in
        let y = reads_members stack n (with_last held (tree_of c)) (member d cs) tt g.2 (omega (arith, high)) (omega (arith, few)) in
        let e : n + operators_in (member d cs) ≡ used + operators_in (member c (member d cs)) = omega arith in
        subst (λ ts. Passes limits (at (InMembers held ∷ stack) Operand used) (written_rest (member c (member d cs))) (at stack (After None 0 (tree.Cat ts)) (used + operators_in (member c (member d cs))))) (followed_by-last held (tree_of c) (trees_of (member d cs)))
        (subst (λ m. Passes limits (at (InMembers held ∷ stack) Operand used) (written_rest (member c (member d cs))) (at stack (After None 0 (tree.Cat (followed_by (with_last held (tree_of c)) (trees_of (member d cs))))) m)) e
        (chained x.passes (chained (one (token.Punctuation mark.Comma) parts) y)))
