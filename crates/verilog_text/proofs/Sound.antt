-- What the machine has accepted so far of an expression is the beginning of one, and at its end a whole one.
use Rattle.std.proofs.Common.{◌≡◌, ℕ, ◌+◌, ◌-◌, ◌<◌, ◌≤◌, Bool, true, false, cond, List, [], ◌∷◌, None, Result, Ok, Err, refl, sym, ap, ◌∙◌, subst, arith, inl, inr}
use Rattle.std.specs.Prelude.{nat_lt, nat_le}
use Rattle.std.proofs.lemmas.Bool.{ltb-true, leb-true, leb-false, cond-true, cond-false, cases_Bool}
use Rattle.verilog_tree.specs.Tree as tree
use Rattle.verilog_tree.specs.Tree.{Tree, Trees}
use Rattle.verilog_text.specs.declared.token.Mark.{Mark}
use Rattle.verilog_text.specs.declared.token.Mark.TheVariants as mark
use Rattle.verilog_text.specs.declared.token.Token.{Token}
use Rattle.verilog_text.specs.declared.token.Token.TheVariants as token
use Rattle.verilog_text.specs.declared.token.Why.TheVariants as why
use Rattle.verilog_text.specs.Grammar.{Source, Sources, Named, BitOf, PartOf, Number, Based, Bracketed, Joined, Inverted, Operated, Shifted, Chosen, no_member, member, marked, written, written_members, tree_of, trees_of, rank, looseness, is_plain, HasMember, IsGrouped, AreGrouped, depth, depths, operators, operators_in, Limits}
use Rattle.verilog_text.specs.Machine.{Frame, InBracket, InNot, InMembers, InRight, InYes, InNo, Operand, After, Amount, State, at, levels, fold_to, opened, operated, shifted, with_last, closed, parted, joined, turned, selecting, Selecting, step}
use Rattle.verilog_text.proofs.Shortest.{rank_bounds}
use Rattle.verilog_text.proofs.Steps.{room, IsFree, Fits}
use Rattle.verilog_text.proofs.Around.{Around, AroundBracket, AroundNot, AroundMembers, AroundRight, AroundYes, AroundNo, Part, Waiting, Ended, Amounting, InSelect, WithHigh, BeforeLow, WithLow, frame_of, frames, begun, before, spent, IsGood, bare_of, state_of, text_of, IsOpen, IsFine}

pub room_positive : (stack : List Frame) → 0 < room stack
room_positive [] = omega arith
room_positive (InBracket ∷ stack) = omega arith
room_positive (InNot ∷ stack) = omega arith
room_positive (InMembers before ∷ stack) = omega arith
room_positive (InRight left op ∷ stack) = (rank_bounds op).0
room_positive (InYes condition ∷ stack) = omega arith
room_positive (InNo condition on_true ∷ stack) = omega arith

-- a place that takes what is as loose as `|` takes a choice too
pub room_whole : (stack : List Frame) → 7 < room stack → 8 < room stack
room_whole [] h = omega arith
room_whole (InBracket ∷ stack) h = omega arith
room_whole (InNot ∷ stack) h = absurd (omega arith)
room_whole (InMembers before ∷ stack) h = omega arith
room_whole (InRight left op ∷ stack) h = absurd (omega (arith, (rank_bounds op).1))
room_whole (InYes condition ∷ stack) h = omega arith
room_whole (InNo condition on_true ∷ stack) h = omega arith

-- members with one more at the end
abbrev pub with_member : Sources → Source → Sources
with_member no_member c = member c no_member
with_member (member d cs) c = member d (with_member cs c)

trees_of-with_member : (cs : Sources) (c : Source) → trees_of (with_member cs c) ≡ with_last (trees_of cs) (tree_of c)
trees_of-with_member no_member c = refl
trees_of-with_member (member d cs) c = ap (tree.more (tree_of d)) (trees_of-with_member cs c)

pub depths-with_member : (cs : Sources) (c : Source) (n : ℕ) → depths cs ≤ n → depth c ≤ n → depths (with_member cs c) ≤ n
depths-with_member no_member c n h k = omega arith
depths-with_member (member d cs) c n h k = let r = depths-with_member cs c n (omega arith) k in omega arith

pub operators-with_member : (cs : Sources) (c : Source) → operators_in (with_member cs c) ≡ operators_in cs + operators c
operators-with_member no_member c = omega arith
operators-with_member (member d cs) c = let r = operators-with_member cs c in omega arith

pub grouped_with_member : (cs : Sources) (c : Source) → AreGrouped cs → is_plain (tree_of c) ≡ false → IsGrouped c → AreGrouped (with_member cs c)
grouped_with_member no_member c g p h = (p, h, tt)
grouped_with_member (member d cs) c g p h = (g.0, g.1, grouped_with_member cs c g.2 p h)

pub some_with_member : (cs : Sources) (c : Source) → HasMember (with_member cs c)
some_with_member no_member c = tt
some_with_member (member d cs) c = tt

-- a member more is begun by a comma, and ended by a `}`
begun_more : (m : Mark) (cs : Sources) (c : Source) (rest : List Token) → begun m cs (written c (marked mark.Comma rest)) ≡ begun m (with_member cs c) rest
begun_more m no_member c rest = refl
begun_more m (member d cs) c rest = ap (λ ts. marked m (written d ts)) (begun_more mark.Comma cs c rest)

pub begun_end : (m : Mark) (cs : Sources) (c : Source) (rest : List Token) → begun m cs (written c (marked mark.CloseBrace rest)) ≡ written_members m (with_member cs c) rest
begun_end m no_member c rest = refl
begun_end m (member d cs) c rest = ap (λ ts. marked m (written d ts)) (begun_end mark.Comma cs c rest)

-- an operand and the stack below it, after folding
pub record FoldsTo (limits : Limits) (r : ℕ) (stack : List Around) (c : Source) : Type 0 where
  pub stack' : List Around
  pub c' : Source
  pub is : fold_to r (frames stack) (tree_of c) ≡ record { stack = frames stack'; operand = tree_of c' }
  pub same : (rest : List Token) → before stack (written c rest) ≡ before stack' (written c' rest)
  pub fits : Fits limits (frames stack') (spent stack') c'
  pub good : IsGood limits stack'
  pub loose : looseness c' ≤ r
  pub roomy : r < 8 → r < room (frames stack')
  pub count : spent stack + operators c ≡ spent stack' + operators c'

module _ (limits : Limits) where
  -- nothing is folded
  stays : (r : ℕ) (stack : List Around) (c : Source) → fold_to r (frames stack) (tree_of c) ≡ record { stack = frames stack; operand = tree_of c } → looseness c ≤ r → (r < 8 → r < room (frames stack)) → Fits limits (frames stack) (spent stack) c → IsGood limits stack → FoldsTo limits r stack c
  stays r stack c e low roomy f g = record { stack' = stack; c' = c; is = e; same = λ rest. refl; fits = f; good = g; loose = low; roomy = roomy; count = refl }

  -- what is folded further
  further : (r : ℕ) (stack below : List Around) (c whole : Source) → FoldsTo limits r below whole → fold_to r (frames stack) (tree_of c) ≡ fold_to r (frames below) (tree_of whole) → ((rest : List Token) → before stack (written c rest) ≡ before below (written whole rest)) → spent stack + operators c ≡ spent below + operators whole → FoldsTo limits r stack c
  further r stack below c whole x e same count = record { stack' = x.stack'; c' = x.c'; is = e ∙ x.is; same = λ rest. same rest ∙ x.same rest; fits = x.fits; good = x.good; loose = x.loose; roomy = x.roomy; count = count ∙ x.count }

  pub folds : (r : ℕ) (stack : List Around) (c : Source) → 0 < r → looseness c ≤ r → Fits limits (frames stack) (spent stack) c → IsGood limits stack → FoldsTo limits r stack c
  folds r [] c p low f g = stays r [] c refl low (λ h. omega arith) f g
  folds r (AroundBracket ∷ below) c p low f g = stays r (AroundBracket ∷ below) c refl low (λ h. omega arith) f g
  folds r (AroundNot ∷ below) c p low f g =
      let positive = room_positive (frames below) in
      further r (AroundNot ∷ below) below c (Inverted c) (folds r below (Inverted c) p (omega arith) (record { grouped = (f.in_room, f.grouped); in_room = positive; in_levels = omega (arith, f.in_levels); in_operators = f.in_operators; free = tt }) g) refl (λ rest. refl) refl
  folds r (AroundMembers held ∷ below) c p low f g = stays r (AroundMembers held ∷ below) c refl low (λ h. omega arith) f g
  folds r (AroundRight left op ∷ below) c p low f g =
      elim (cases_Bool (nat_le (rank op) r)) [
        | inl e ↦
            let within = leb-true (rank op) r e in
            further r (AroundRight left op ∷ below) below c (Operated op left c) (folds r below (Operated op left c) p within (record { grouped = (g.0, f.in_room, g.1, f.grouped); in_room = g.3; in_levels = omega (arith, f.in_levels, g.2); in_operators = omega (arith, f.in_operators); free = tt }) g.4) (cond-true _ _ _ e) (λ rest. refl) (omega arith)
        | inr e ↦ stays r (AroundRight left op ∷ below) c (cond-false _ _ _ e) low (λ h. leb-false (rank op) r e) f g
      ]
  folds r (AroundYes condition ∷ below) c p low f g = stays r (AroundYes condition ∷ below) c refl low (λ h. omega arith) f g
  folds r (AroundNo condition on_true ∷ below) c p low f g =
      elim (cases_Bool (nat_le 8 r)) [
        | inl e ↦
            let within = leb-true 8 r e in
            further r (AroundNo condition on_true ∷ below) below c (Chosen condition on_true c) (folds r below (Chosen condition on_true c) p within (record { grouped = (g.0, g.1, g.4, f.grouped); in_room = g.3; in_levels = omega (arith, f.in_levels, g.2, g.5); in_operators = omega (arith, f.in_operators); free = tt }) g.6) (cond-true _ _ _ e) (λ rest. refl) (omega arith)
        | inr e ↦ stays r (AroundNo condition on_true ∷ below) c (cond-false _ _ _ e) low (λ h. omega arith) f g
      ]

-- a step's outcome, by the test that it makes
pub ok_inverse : {A E : Type 0} (x y : A) → ◌≡◌ {A = Result A E} (Ok x) (Ok y) → x ≡ y
ok_inverse x y e = cc

pub never : {A E : Type 0} (w : E) (y : A) → ◌≡◌ {A = Result A E} (Err w) (Ok y) → ⊥
never w y e = cc

pub ok_if : {A E : Type 0} (b : Bool) (x y : A) (w : E) → cond b (Ok x) (Err w) ≡ Ok y → (b ≡ true) × (x ≡ y)
ok_if true x y w e = (refl, ok_inverse x y e)
ok_if false x y w e = absurd (never w y e)

pub ok_unless : {A E : Type 0} (b : Bool) (x y : A) (w : E) → cond b (Err w) (Ok x) ≡ Ok y → (b ≡ false) × (x ≡ y)
ok_unless true x y w e = absurd (never w y e)
ok_unless false x y w e = (refl, ok_inverse x y e)

pub ok_under : {A E : Type 0} (b : Bool) (r : Result A E) (y : A) (w : E) → cond b r (Err w) ≡ Ok y → (b ≡ true) × (r ≡ Ok y)
ok_under true r y w e = (refl, e)
ok_under false r y w e = absurd (never w y e)

-- a step leads to a state in which all that was read fits, the token too
pub record Steps (limits : Limits) (stack : List Around) (part : Part) (t : Token) (s : State) : Type 0 where
  pub stack' : List Around
  pub part' : Part
  pub state : state_of stack' part' ≡ s
  pub fine : IsFine limits stack' part'
  pub same : (rest : List Token) → text_of stack part (t ∷ rest) ≡ text_of stack' part' rest

module _ (limits : Limits) where
  -- a level is opened
  opens_level : (stack : List Around) (part : Part) (t : Token) (base : List Around) (around : Around) (used : ℕ) (s : State) → opened limits (frames base) used (frame_of around) ≡ Ok s → levels (frames (around ∷ base)) ≡ 1 + levels (frames base) → used ≡ spent (around ∷ base) → used ≤ limits.operators → IsGood limits (around ∷ base) → ((rest : List Token) → text_of stack part (t ∷ rest) ≡ before (around ∷ base) rest) → Steps limits stack part t s
  opens_level stack part t base around used s e one count enough good same =
      let p = ok_if _ _ s _ e in
      let room : levels (frames base) < limits.levels = ltb-true _ _ p.0 in
      record {
        stack' = around ∷ base;
        part' = Waiting;
        state = ap (λ n. at (frames (around ∷ base)) Operand n) (sym count) ∙ p.1;
        fine = (record { in_levels = omega arith; in_operators = omega arith }, good);
        same = same;
      }

  -- an operand ends here
  ends_operand : (stack : List Around) (part : Part) (t : Token) (below : List Around) (c : Source) (used : ℕ) (s : State) → at (frames below) (After (bare_of c) (looseness c) (tree_of c)) used ≡ s → used ≡ spent below + operators c → Fits limits (frames below) (spent below) c → IsGood limits below → looseness c ≤ 2 → ((rest : List Token) → text_of stack part (t ∷ rest) ≡ before below (written c rest)) → Steps limits stack part t s
  ends_operand stack part t below c used s e count f g low same = record {
    stack' = below;
    part' = Ended c;
    state = ap (λ n. at (frames below) (After (bare_of c) (looseness c) (tree_of c)) n) (sym count) ∙ e;
    fine = (f, g, low);
    same = same;
  }

  -- the closing marks, over what has been folded
  module _ (stack : List Around) (part : Part) where
    closed_sound : (base : List Around) (c : Source) (used : ℕ) (s : State) → closed (frames base) (tree_of c) used ≡ Ok s → used ≡ spent base + operators c → Fits limits (frames base) (spent base) c → IsGood limits base → ((rest : List Token) → text_of stack part (token.Punctuation mark.Close ∷ rest) ≡ before base (written c (token.Punctuation mark.Close ∷ rest))) → Steps limits stack part (token.Punctuation mark.Close) s
    closed_sound (AroundBracket ∷ below) c used s e count f g same = ends_operand stack part (token.Punctuation mark.Close) below (Bracketed c) used s (ok_inverse _ s e) count (record { grouped = f.grouped; in_room = room_positive (frames below); in_levels = omega (arith, f.in_levels); in_operators = f.in_operators; free = tt }) g (omega arith) same
    closed_sound _ c used s e count f g same = absurd (never _ s e)

    parted_sound : (base : List Around) (c : Source) (used : ℕ) (s : State) → parted (frames base) (tree_of c) used ≡ Ok s → used ≡ spent base + operators c → Fits limits (frames base) (spent base) c → IsGood limits base → ((rest : List Token) → text_of stack part (token.Punctuation mark.Comma ∷ rest) ≡ before base (written c (token.Punctuation mark.Comma ∷ rest))) → Steps limits stack part (token.Punctuation mark.Comma) s
    parted_sound (AroundMembers held ∷ below) c used s e count f g same =
        let p = ok_unless _ _ s _ e in
        let more : Sources = with_member held c in
        let few = operators-with_member held c in
        let high = depths-with_member held c (limits.levels - (1 + levels (frames below))) (omega (arith, g.1)) (omega (arith, f.in_levels)) in
        record {
          stack' = AroundMembers more ∷ below;
          part' = Waiting;
          state = ap (λ n. at (frames (AroundMembers more ∷ below)) Operand n) {x = spent (AroundMembers more ∷ below)} {y = used} (omega (arith, few, count)) ∙ ap (λ ts. at (InMembers ts ∷ frames below) Operand used) (trees_of-with_member held c) ∙ p.1;
          fine = (record { in_levels = omega (arith, f.in_levels); in_operators = omega (arith, f.in_operators, few) }, (grouped_with_member held c g.0 p.0 f.grouped, omega (arith, high, f.in_levels), g.2));
          same = λ rest. same rest ∙ ap (before below) (begun_more mark.OpenBrace held c rest);
        }
    parted_sound _ c used s e count f g same = absurd (never _ s e)

    joined_sound : (base : List Around) (c : Source) (used : ℕ) (s : State) → joined (frames base) (tree_of c) used ≡ Ok s → used ≡ spent base + operators c → Fits limits (frames base) (spent base) c → IsGood limits base → ((rest : List Token) → text_of stack part (token.Punctuation mark.CloseBrace ∷ rest) ≡ before base (written c (token.Punctuation mark.CloseBrace ∷ rest))) → Steps limits stack part (token.Punctuation mark.CloseBrace) s
    joined_sound (AroundMembers held ∷ below) c used s e count f g same =
        let p = ok_unless _ _ s _ e in
        let more : Sources = with_member held c in
        let few = operators-with_member held c in
        let high = depths-with_member held c (limits.levels - (1 + levels (frames below))) (omega (arith, g.1)) (omega (arith, f.in_levels)) in
        ends_operand stack part (token.Punctuation mark.CloseBrace) below (Joined more) used s (ap (λ ts. at (frames below) (After None 0 (tree.Cat ts)) used) (trees_of-with_member held c) ∙ p.1) (omega (arith, count, few))
        (record { grouped = (some_with_member held c, grouped_with_member held c g.0 p.0 f.grouped); in_room = room_positive (frames below); in_levels = omega (arith, high, f.in_levels); in_operators = omega (arith, f.in_operators, few); free = tt }) g.2 (omega arith)
        (λ rest. same rest ∙ ap (before below) (begun_end mark.OpenBrace held c rest))
    joined_sound _ c used s e count f g same = absurd (never _ s e)

    turned_sound : (base : List Around) (c : Source) (used : ℕ) (s : State) → turned (frames base) (tree_of c) used ≡ Ok s → used ≡ spent base + operators c → Fits limits (frames base) (spent base) c → IsGood limits base → ((rest : List Token) → text_of stack part (token.Punctuation mark.Colon ∷ rest) ≡ before base (written c (token.Punctuation mark.Colon ∷ rest))) → Steps limits stack part (token.Punctuation mark.Colon) s
    turned_sound (AroundYes a ∷ below) c used s e count f g same = record {
      stack' = AroundNo a c ∷ below;
      part' = Waiting;
      state = ap (λ n. at (frames (AroundNo a c ∷ below)) Operand n) (sym count) ∙ ok_inverse _ s e;
      fine = (record { in_levels = omega (arith, f.in_levels); in_operators = omega (arith, f.in_operators) }, (g.0, g.1, g.2, g.3, f.grouped, f.in_levels, g.4));
      same = same;
    }
    turned_sound _ c used s e count f g same = absurd (never _ s e)

  -- in a select the same part of the text is open
  selects : (stack : List Around) (part part' : Part) (t : Token) (s : State) → state_of stack part' ≡ s → IsFine limits stack part' → ((rest : List Token) → text_of stack part (t ∷ rest) ≡ text_of stack part' rest) → Steps limits stack part t s
  selects stack part part' t s e fine same = record { stack' = stack; part' = part'; state = e; fine = fine; same = same }

  -- an operand of no operators
  atom : (stack : List Around) (part : Part) (t : Token) (c : Source) (s : State) → IsOpen limits stack → IsGood limits stack → IsGrouped c → operators c ≡ 0 → depth c ≡ 0 → looseness c ≡ 0 → IsFree limits (frames stack) (spent stack) c → at (frames stack) (After (bare_of c) (looseness c) (tree_of c)) (spent stack) ≡ s → ((rest : List Token) → text_of stack part (t ∷ rest) ≡ before stack (written c rest)) → Steps limits stack part t s
  atom stack part t c s room good grouped none flat tight free e same =
      let positive = room_positive (frames stack) in
      ends_operand stack part t stack c (spent stack) s e (omega (arith, none)) (record { grouped = grouped; in_room = omega (arith, tight); in_levels = omega (arith, flat, room.in_levels); in_operators = omega (arith, none, room.in_operators); free = free }) good (omega (arith, tight)) same

  selecting_sound : (stack : List Around) (c : Source) (s : State) → IsFine limits stack (Ended c) → selecting (frames stack) (spent stack + operators c) (bare_of c) ≡ Ok s → Steps limits stack (Ended c) (token.Punctuation mark.OpenBracket) s
  selecting_sound stack (Named name) s fine e =
      let zero : spent stack ≡ spent stack + 0 = omega arith in
      selects stack (Ended (Named name)) (InSelect name) (token.Punctuation mark.OpenBracket) s (ap (λ n. at (frames stack) (Selecting name) n) zero ∙ ok_inverse _ s e) (record { in_levels = omega (arith, fine.0.in_levels); in_operators = omega (arith, fine.0.in_operators) }, fine.1) (λ rest. refl)
  selecting_sound stack _ s fine e = absurd (never _ s e)

  opened_room : (stack : List Around) (s : State) → opened limits (frames stack) (spent stack) (InMembers tree.none) ≡ Ok s → levels (frames stack) < limits.levels
  opened_room stack s e = ltb-true _ _ (ok_if _ _ s _ e).0

  pub step_sound : (stack : List Around) (part : Part) (t : Token) (s : State) → IsFine limits stack part → step limits (state_of stack part) t ≡ Ok s → Steps limits stack part t s
  step_sound stack Waiting (token.Name name) s fine e = atom stack Waiting (token.Name name) (Named name) s fine.0 fine.1 tt refl refl refl tt (ok_inverse _ s e) (λ rest. refl)
  step_sound stack Waiting (token.Number d) s fine e = let p = ok_unless _ _ s _ e in atom stack Waiting (token.Number d) (Number d) s fine.0 fine.1 tt refl refl refl p.0 p.1 (λ rest. refl)
  step_sound stack Waiting (token.Based l) s fine e = atom stack Waiting (token.Based l) (Based l) s fine.0 fine.1 tt refl refl refl tt (ok_inverse _ s e) (λ rest. refl)
  step_sound stack Waiting (token.Punctuation mark.Open) s fine e = opens_level stack Waiting (token.Punctuation mark.Open) stack AroundBracket (spent stack) s e refl refl fine.0.in_operators fine.1 (λ rest. refl)
  step_sound stack Waiting (token.Punctuation mark.OpenBrace) s fine e =
      let none : spent stack ≡ spent stack + 0 = omega arith in
      opens_level stack Waiting (token.Punctuation mark.OpenBrace) stack (AroundMembers no_member) (spent stack) s e refl none fine.0.in_operators (tt, omega (arith, opened_room stack s e), fine.1) (λ rest. refl)
  step_sound stack Waiting (token.Punctuation mark.Inverse) s fine e = opens_level stack Waiting (token.Punctuation mark.Inverse) stack AroundNot (spent stack) s e refl refl fine.0.in_operators fine.1 (λ rest. refl)
  step_sound stack Waiting _ s fine e = absurd (never _ s e)
  step_sound stack (Ended c) (token.Operator op) s fine e =
      let used : ℕ = spent stack + operators c in
      let p = ok_under (nat_le (looseness c) (rank op)) (operated limits (fold_to (rank op) (frames stack) (tree_of c)) used op) s why.Syntax e in
      let x = folds limits (rank op) stack c (rank_bounds op).0 (leb-true _ _ p.0) fine.0 fine.1 in
      let q : operated limits (record { stack = frames x.stack'; operand = tree_of x.c' }) used op ≡ Ok s = subst (λ f. operated limits f used op ≡ Ok s) x.is p.1 in
      let r = ok_if (nat_lt used limits.operators) _ s _ q in
      let room : used < limits.operators = ltb-true _ _ r.0 in
      let count : spent x.stack' + operators x.c' + 1 ≡ used + 1 = omega (arith, x.count) in
      record {
        stack' = AroundRight x.c' op ∷ x.stack';
        part' = Waiting;
        state = ap (λ n. at (InRight (tree_of x.c') op ∷ frames x.stack') Operand n) count ∙ r.1;
        fine = (record { in_levels = omega (arith, x.fits.in_levels); in_operators = omega arith }, (x.loose, x.fits.grouped, x.fits.in_levels, x.roomy (rank_bounds op).1, x.good));
        same = λ rest. x.same (token.Operator op ∷ rest);
      }
  step_sound stack (Ended c) (token.Shift op) s fine e =
      let used : ℕ = spent stack + operators c in
      let p = ok_under (nat_le (looseness c) 2) (shifted limits (fold_to 2 (frames stack) (tree_of c)) used op) s why.Syntax e in
      let x = folds limits 2 stack c (omega arith) fine.2 fine.0 fine.1 in
      let q : shifted limits (record { stack = frames x.stack'; operand = tree_of x.c' }) used op ≡ Ok s = subst (λ f. shifted limits f used op ≡ Ok s) x.is p.1 in
      let r = ok_if (nat_lt used limits.operators) _ s _ q in
      let room : used < limits.operators = ltb-true _ _ r.0 in
      let count : spent x.stack' + operators x.c' + 1 ≡ used + 1 = omega (arith, x.count) in
      record {
        stack' = x.stack';
        part' = Amounting op x.c';
        state = ap (λ n. at (frames x.stack') (Amount op (tree_of x.c')) n) count ∙ r.1;
        fine = (record { grouped = (x.loose, omega arith, x.fits.grouped); in_room = x.roomy (omega arith); in_levels = x.fits.in_levels; in_operators = omega arith; free = tt }, x.good);
        same = λ rest. x.same (token.Shift op ∷ rest);
      }
  step_sound stack (Ended c) (token.Punctuation mark.Question) s fine e =
      let used : ℕ = spent stack + operators c in
      let x = folds limits 7 stack c (omega arith) (omega (arith, fine.2)) fine.0 fine.1 in
      let roomy = x.roomy (omega arith) in
      let q : opened limits (frames x.stack') used (InYes (tree_of x.c')) ≡ Ok s = subst (λ f. opened limits f.stack used (InYes f.operand) ≡ Ok s) x.is e in
      opens_level stack (Ended c) (token.Punctuation mark.Question) x.stack' (AroundYes x.c') used s q refl x.count (fine.0).in_operators (omega (arith, x.loose), x.fits.grouped, x.fits.in_levels, room_whole (frames x.stack') roomy, x.good) (λ rest. x.same (token.Punctuation mark.Question ∷ rest))
  step_sound stack (Ended c) (token.Punctuation mark.Close) s fine e =
      let used : ℕ = spent stack + operators c in
      let x = folds limits 8 stack c (omega arith) (omega (arith, fine.2)) fine.0 fine.1 in
      closed_sound stack (Ended c) x.stack' x.c' used s (subst (λ f. closed f.stack f.operand used ≡ Ok s) x.is e) x.count x.fits x.good (λ rest. x.same (token.Punctuation mark.Close ∷ rest))
  step_sound stack (Ended c) (token.Punctuation mark.Comma) s fine e =
      let used : ℕ = spent stack + operators c in
      let x = folds limits 8 stack c (omega arith) (omega (arith, fine.2)) fine.0 fine.1 in
      parted_sound stack (Ended c) x.stack' x.c' used s (subst (λ f. parted f.stack f.operand used ≡ Ok s) x.is e) x.count x.fits x.good (λ rest. x.same (token.Punctuation mark.Comma ∷ rest))
  step_sound stack (Ended c) (token.Punctuation mark.CloseBrace) s fine e =
      let used : ℕ = spent stack + operators c in
      let x = folds limits 8 stack c (omega arith) (omega (arith, fine.2)) fine.0 fine.1 in
      joined_sound stack (Ended c) x.stack' x.c' used s (subst (λ f. joined f.stack f.operand used ≡ Ok s) x.is e) x.count x.fits x.good (λ rest. x.same (token.Punctuation mark.CloseBrace ∷ rest))
  step_sound stack (Ended c) (token.Punctuation mark.Colon) s fine e =
      let used : ℕ = spent stack + operators c in
      let x = folds limits 8 stack c (omega arith) (omega (arith, fine.2)) fine.0 fine.1 in
      turned_sound stack (Ended c) x.stack' x.c' used s (subst (λ f. turned f.stack f.operand used ≡ Ok s) x.is e) x.count x.fits x.good (λ rest. x.same (token.Punctuation mark.Colon ∷ rest))
  step_sound stack (Ended c) (token.Punctuation mark.OpenBracket) s fine e = selecting_sound stack c s fine e
  step_sound stack (Ended c) _ s fine e = absurd (never _ s e)
  step_sound stack (Amounting op c) (token.Number n) s fine e =
      let p = ok_if (nat_lt n.value 128) _ s _ e in
      let count : spent stack + operators c + 1 ≡ spent stack + (operators c + 1) = omega arith in
      ends_operand stack (Amounting op c) (token.Number n) stack (Shifted op c n) (spent stack + operators c + 1) s p.1 count (record { grouped = (fine.0.grouped.0, ltb-true _ _ p.0, fine.0.grouped.2); in_room = fine.0.in_room; in_levels = fine.0.in_levels; in_operators = fine.0.in_operators; free = tt }) fine.1 (omega arith) (λ rest. refl)
  step_sound stack (Amounting op c) _ s fine e = absurd (never _ s e)
  step_sound stack (InSelect name) (token.Number n) s fine e = selects stack (InSelect name) (WithHigh name n) (token.Number n) s (ok_inverse _ s e) fine (λ rest. refl)
  step_sound stack (InSelect name) _ s fine e = absurd (never _ s e)
  step_sound stack (WithHigh name high) (token.Punctuation mark.CloseBracket) s fine e = atom stack (WithHigh name high) (token.Punctuation mark.CloseBracket) (BitOf name high) s fine.0 fine.1 tt refl refl refl tt (ok_inverse _ s e) (λ rest. refl)
  step_sound stack (WithHigh name high) (token.Punctuation mark.Colon) s fine e = selects stack (WithHigh name high) (BeforeLow name high) (token.Punctuation mark.Colon) s (ok_inverse _ s e) fine (λ rest. refl)
  step_sound stack (WithHigh name high) _ s fine e = absurd (never _ s e)
  step_sound stack (BeforeLow name high) (token.Number n) s fine e = selects stack (BeforeLow name high) (WithLow name high n) (token.Number n) s (ok_inverse _ s e) fine (λ rest. refl)
  step_sound stack (BeforeLow name high) _ s fine e = absurd (never _ s e)
  step_sound stack (WithLow name high low) (token.Punctuation mark.CloseBracket) s fine e = atom stack (WithLow name high low) (token.Punctuation mark.CloseBracket) (PartOf name high low) s fine.0 fine.1 tt refl refl refl tt (ok_inverse _ s e) (λ rest. refl)
  step_sound stack (WithLow name high low) _ s fine e = absurd (never _ s e)
