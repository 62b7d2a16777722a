-- Each token of a writing has bytes.
use Rattle.std.proofs.Common.{ℕ, zero, suc, ◌+◌, ◌<◌, ◌≤◌, ◌^◌, Bool, true, false, List, [], ◌∷◌, ◌++◌, length, refl, arith}
use Rattle.std.specs.Prelude.{map, filter, not, nat_lt}
use Rattle.std.proofs.lemmas.Bool.{cond_both}
use Rattle.verilog_tree.specs.declared.tree.Signal.{Signal}
use Rattle.verilog_tree.specs.Tree as tree
use Rattle.verilog_tree.specs.Tree.{Tree, Trees, Action, Actions, Assignment, Design}
use Rattle.verilog_tree.specs.Renaming.{name_in, number_in}
use Rattle.verilog_text.specs.declared.token.Mark.{Mark}
use Rattle.verilog_text.specs.declared.token.Mark.TheVariants as mark
use Rattle.verilog_text.specs.declared.token.Word.{Word}
use Rattle.verilog_text.specs.declared.token.Word.TheVariants as word
use Rattle.verilog_text.specs.declared.token.Token.{Token}
use Rattle.verilog_text.specs.Grammar.{Source, Bracketed, written, written_members, looseness, rank, Limits}
use Rattle.verilog_text.specs.Statements.{Statement, Block, none, more, statement_text, worded, statements_text, if_text, openness}
use Rattle.verilog_text.specs.Text.{Item, range_text, if_word, shape_text, fresh_text, ports_text, items_text, tokens_of, clock_text}
use Rattle.verilog_text.specs.Layout.{IsName, AreSpelled}
use Rattle.verilog_text.specs.Shortest.{within, spelling, spellings, closed, statement_of, statements_of, range_of, shape_of, fresh_of, port_of, declared_of, assigned_of, clocked_of, ports_in, stores_in, first_port, other_ports, text_of, IsFormed, AreFormed, IsFormedAction, AreFormedActions, IsFormedAssignment, IsFormedBlock, IsFormedSignal, AllFormed, is_port, IsWritable}

pub name_at : (names : List (List ℕ)) (n : ℕ) → AllFormed IsName names → n < length names → IsName (name_in names n)
name_at [] n all h = absurd (omega arith)
name_at (name ∷ names) zero all h = all.0
name_at (name ∷ names) (suc n) all h = name_at names n all.1 (omega arith)

module _ (names : List (List ℕ)) (good : AllFormed IsName names) where
  named : (n : ℕ) → n < length names → IsName (name_in names n)
  named n h = name_at names n good h

  -- what can be written in front of written tokens
  abbrev Goes : (List Token → List Token) → Type 0
  Goes f = (rest : List Token) → AreSpelled names rest → AreSpelled names (f rest)

  goes_within : (bound : ℕ) (c : Source) → Goes (written c) → Goes (written (within bound c))
  goes_within bound c g = cond_both (nat_lt (looseness c) bound) c (Bracketed c) (λ x. Goes (written x)) (λ e. g) (λ e rest h. (tt, g _ (tt, h)))

  mutual
    goes : (t : Tree) → IsFormed (length names) t → Goes (written (spelling t))
    goes (tree.Name name) f rest h = (named name f, h)
    goes (tree.Bit name place) f rest h = (named name f.0, (tt, ((f.1, refl), (tt, h))))
    goes (tree.Part name high low) f rest h = (named name f.0, (tt, ((f.1, refl), (tt, ((f.2, refl), (tt, h))))))
    goes (tree.Plain value) f rest h = ((f, refl), h)
    goes (tree.Based width signed bits) f rest h = (f, h)
    goes (tree.Cat members) f rest h = goes_members mark.OpenBrace members f.1 rest h
    goes (tree.Not a) f rest h = (tt, goes_within 1 (spelling a) (goes a f) rest h)
    goes (tree.Binary op a b) f rest h = goes_within (rank op + 1) (spelling a) (goes a f.0) _ (tt, goes_within (rank op) (spelling b) (goes b f.1) rest h)
    goes (tree.Shift op a k) f rest h = goes_within 3 (spelling a) (goes a f.1) _ (tt, ((omega (arith, f.0), refl), h))
    goes (tree.Choice c a b) f rest h = goes_within 8 (spelling c) (goes c f.0) _ (tt, goes a f.1 _ (tt, goes b f.2 rest h))

    goes_members : (m : Mark) (ts : Trees) → AreFormed (length names) ts → Goes (written_members m (spellings ts))
    goes_members m tree.none f rest h = (tt, h)
    goes_members m (tree.more t ts) f rest h = (tt, goes t f.1 _ (goes_members mark.Comma ts f.2 rest h))

  goes_closed : (s : Statement) → Goes (statement_text s) → Goes (statement_text (closed s))
  goes_closed s g = cond_both (nat_lt (openness s) 1) s (Block (more s none)) (λ x. Goes (statement_text x)) (λ e. g) (λ e rest h. (tt, g _ (tt, h)))

  goes_if : (c : Tree) → IsFormed (length names) c → (rest : List Token) → AreSpelled names rest → AreSpelled names (if_text (spelling c) rest)
  goes_if c f rest h = (tt, (tt, goes c f _ (tt, h)))

  mutual
    goes_statement : (a : Action) → IsFormedAction (length names) a → Goes (statement_text (statement_of a))
    goes_statement (tree.Block members) f rest h = (tt, goes_statements members f _ (tt, h))
    goes_statement (tree.When c t) f rest h = goes_if c f.0 _ (goes_statement t f.1 rest h)
    goes_statement (tree.Either c t e) f rest h = goes_if c f.0 _ (goes_closed (statement_of t) (goes_statement t f.1) _ (tt, goes_statement e f.2 rest h))
    goes_statement (tree.Give r v) f rest h = (named r f.0, (tt, goes v f.1 _ (tt, h)))

    goes_statements : (xs : Actions) → AreFormedActions (length names) xs → Goes (statements_text (statements_of xs))
    goes_statements tree.no_action f rest h = h
    goes_statements (tree.action a xs) f rest h = goes_statement a f.0 _ (goes_statements xs f.1 rest h)

  goes_word : (b : Bool) (w : Word) (rest : List Token) → AreSpelled names rest → AreSpelled names (if_word b w rest)
  goes_word true w rest h = (tt, h)
  goes_word false w rest h = h

  goes_range : (ranged : Bool) (width : ℕ) → width ≤ 2 ^ 31 → 1 ≤ width → Goes (range_text (range_of ranged width))
  goes_range true width high low rest h = (tt, ((omega arith, refl), (tt, ((omega arith, refl), (tt, h)))))
  goes_range false width high low rest h = h

  goes_shape : (s : Signal) → IsFormedSignal (length names) s → Goes (shape_text (shape_of s))
  goes_shape s f rest h = goes_word s.signed _ _ (goes_range s.ranged s.width f.2 f.1 rest h)

  goes_fresh : (s : Signal) → IsFormedSignal (length names) s → Goes (fresh_text (fresh_of s))
  goes_fresh s f rest h = (tt, goes_shape s f _ (named s.name f.0, h))

  goes_ports : (ss : List Signal) → AllFormed (IsFormedSignal (length names)) ss → Goes (ports_text (map port_of ss))
  goes_ports [] f rest h = h
  goes_ports (s ∷ ss) f rest h = (tt, goes_fresh s f.0 _ (goes_ports ss f.1 rest h))

  goes_first : (ss : List Signal) → 0 < length ss → AllFormed (IsFormedSignal (length names)) ss → (rest : List Token) → AreSpelled names rest → AreSpelled names (fresh_text (first_port ss) (ports_text (other_ports ss) rest))
  goes_first [] some f rest h = absurd (omega arith)
  goes_first (s ∷ ss) some f rest h = goes_fresh s f.0 _ (goes_ports ss f.1 rest h)

  module _ (limits : Limits) (clock : ℕ) (ticks : clock < length names) where
    goes_declared : (ss : List Signal) (xs : List Item) → AllFormed (IsFormedSignal (length names)) ss → Goes (items_text clock xs) → Goes (items_text clock (map declared_of ss ++ xs))
    goes_declared [] xs f g rest h = g rest h
    goes_declared (s ∷ ss) xs f g rest h = (tt, goes_shape s f.0 _ (named s.name f.0.0, (tt, goes_declared ss xs f.1 g rest h)))

    pub goes_assigned : (ss : List Assignment) (xs : List Item) → AllFormed (IsFormedAssignment limits (length names)) ss → Goes (items_text clock xs) → Goes (items_text clock (map assigned_of ss ++ xs))
    goes_assigned [] xs f g rest h = g rest h
    goes_assigned (a ∷ ss) xs f g rest h = (tt, (named a.target f.0.0, (tt, goes a.value f.0.1 _ (tt, goes_assigned ss xs f.1 g rest h))))

    pub goes_clocked : (ss : List Action) → AllFormed (IsFormedBlock limits (length names)) ss → Goes (items_text clock (map clocked_of ss))
    goes_clocked [] f rest h = h
    goes_clocked (a ∷ ss) f rest h = (tt, (tt, (tt, (tt, (named clock ticks, (tt, goes_statement a f.0.0 _ (goes_clocked ss f.1 rest h)))))))

-- what passes a filter is formed
pub all_filtered : {X : Type 0} (P : X → Type 0) (p : X → Bool) (xs : List X) → AllFormed P xs → AllFormed P (filter p xs)
all_filtered P p [] all = tt
all_filtered P p (x ∷ xs) all = let rest = all_filtered P p xs all.1 in cond_both (p x) (x ∷ filter p xs) (filter p xs) (AllFormed P) (λ e. (all.0, rest)) (λ e. rest)

pub text_spelled : (limits : Limits) (d : Design) → IsWritable limits d → AreSpelled d.names (tokens_of (number_in d.names clock_text) (text_of d))
text_spelled limits d w =
    let ports = all_filtered (IsFormedSignal (length d.names)) (λ s. is_port s.kind) d.signals w.signals in
    let stores = all_filtered (IsFormedSignal (length d.names)) (λ s. not (is_port s.kind)) d.signals w.signals in
    let clock : ℕ = number_in d.names clock_text in
    let items = goes_declared d.names w.names limits clock w.clock (stores_in d.signals) _ stores
    (goes_assigned d.names w.names limits clock w.clock d.assigns _ w.assigns (goes_clocked d.names w.names limits clock w.clock d.blocks w.blocks)) (worded word.EndModule []) (tt, tt) in
    (tt, (named d.names w.names d.name w.name, (tt, goes_first d.names w.names (ports_in d.signals) w.port ports _ (tt, (tt, items)))))
