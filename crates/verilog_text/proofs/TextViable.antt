-- Whatever tokens the machine takes, some text of the grammar begins with them.
use Rattle.std.proofs.Common.{◌≡◌, ℕ, ◌≤◌, false, List, [], ◌∷◌, ◌++◌, Some, None, Result, Ok, refl, sym, ap, ◌∙◌, subst, arith}
use Rattle.verilog_text.specs.declared.token.Mark.TheVariants as mark
use Rattle.verilog_text.specs.declared.token.Word.TheVariants as word
use Rattle.verilog_text.specs.declared.token.Token.{Token}
use Rattle.verilog_text.specs.declared.token.Token.TheVariants as token
use Rattle.verilog_text.specs.Grammar.{Named, marked, Limits}
use Rattle.verilog_text.specs.Statements.{worded, statement_text}
use Rattle.verilog_text.specs.Text.{Text, Shape, Direction, Inward, FreshPort, Port, Fresh, Same, Item, Declared, Assigned, Clocked, zero_digit, shape_text, fresh_text, port_text, if_word, direction_word, store_word, item_text, tokens_of, IsItem, AreItems}
use Rattle.verilog_text.specs.TextMachine.{State, start, step, run}
use Rattle.verilog_text.proofs.Viable.{nought, least, inside_completes, statement_completes}
use Rattle.verilog_text.proofs.TextSound.{Head, Signs, Ranges, Highs, Colons, Zeros, Closes, Names, head_text, Place, First, Behind, Part, AtStart, AtName, AtOpen, AtFirst, PortBegun, PortHead, PortRead, AtPort, PortsEnded, AtItem, StoreHead, StoreRead, AtMore, AtTarget, AtAssigned, InValue, AtEvent, InEvent, OnEdge, AtClock, AtEventEnd, InBlock, Finished, ports_before, items_before, place_text, event_begun, state_of, text_of, IsFine, with_item, ports_text-last, names_text-last, items_last, item_written, then_ok, step_sound}

-- a heading, and tokens that go on with it up to its name
record HeadCompletes (h : Head) : Type 0 where
  shape : Shape
  more : List Token → List Token
  same : (rest : List Token) → head_text h (more rest) ≡ shape_text shape rest

abbrev unsigned_bit : Shape
unsigned_bit = record { signed = false; range = None }

head_completes : (h : Head) → HeadCompletes h
head_completes Signs = record { shape = unsigned_bit; more = λ rest. rest; same = λ rest. refl }
head_completes (Ranges signed) = record { shape = record { signed = signed; range = None }; more = λ rest. rest; same = λ rest. refl }
head_completes (Highs signed) = record { shape = record { signed = signed; range = Some nought }; more = λ rest. token.Number nought ∷ marked mark.Colon (token.Number zero_digit ∷ marked mark.CloseBracket rest); same = λ rest. refl }
head_completes (Colons signed high) = record { shape = record { signed = signed; range = Some high }; more = λ rest. marked mark.Colon (token.Number zero_digit ∷ marked mark.CloseBracket rest); same = λ rest. refl }
head_completes (Zeros signed high) = record { shape = record { signed = signed; range = Some high }; more = λ rest. token.Number zero_digit ∷ marked mark.CloseBracket rest; same = λ rest. refl }
head_completes (Closes signed high) = record { shape = record { signed = signed; range = Some high }; more = λ rest. marked mark.CloseBracket rest; same = λ rest. refl }
head_completes (Names shape) = record { shape = shape; more = λ rest. rest; same = λ rest. refl }

abbrev end_text : List Token
end_text = worded word.EndModule []

-- the ports are over, and there is no item
abbrev empty_text : List Token
empty_text = marked mark.Close (marked mark.Semicolon end_text)

abbrev a_port : Direction → FreshPort
a_port d = record { direction = d; wire = false; shape = unsigned_bit; name = 0 }

abbrev one_port : ℕ → FreshPort → Text
one_port name p = record { name = name; port = p; ports = []; items = [] }

-- the text with this port behind the others, and no item
abbrev port_more : Text → Port → Text
port_more t p = record { name = t.name; port = t.port; ports = t.ports ++ p ∷ []; items = [] }

module _ (limits : Limits) (clock : ℕ) where
  -- some tokens go on with these to a text
  pub record Completes (tokens : List Token → List Token) : Type 0 where
    pub text : Text
    pub in_limits : AreItems limits text.items
    pub rest : List Token
    pub same : tokens rest ≡ tokens_of clock text

  -- an item more
  by_item : (t : Text) (x : Item) (tokens : List Token → List Token) (rest : List Token) → AreItems limits t.items → IsItem limits x → tokens rest ≡ items_before limits clock t (item_text clock x end_text) → Completes tokens
  by_item t x tokens rest good fits same = record { text = with_item limits clock t x; in_limits = items_last limits clock t.items x good fits; rest = rest; same = same ∙ item_written limits clock t x end_text }

  by_block : (t : Text) (tokens : List Token → List Token) (rest : List Token) → AreItems limits t.items → tokens rest ≡ items_before limits clock t (item_text clock (Clocked least) end_text) → Completes tokens
  by_block t tokens rest good same = by_item t (Clocked least) tokens rest good (tt, omega arith, omega arith) same

  -- a port more
  by_port : (t : Text) (p : Port) (tokens : List Token → List Token) (rest : List Token) → tokens rest ≡ ports_before limits clock t (marked mark.Comma (port_text p empty_text)) → Completes tokens
  by_port t p tokens rest same = record {
    text = port_more t p;
    in_limits = tt;
    rest = rest;
    same = same ∙ ap (λ ts. worded word.Module (token.Name t.name ∷ marked mark.Open (fresh_text t.port ts))) (sym (ports_text-last limits clock t.ports p empty_text));
  }

  -- every state that is fine can be gone on with
  completes : (part : Part) → IsFine limits clock part → Completes (text_of limits clock part)
  completes AtStart fine = record { text = one_port 0 (a_port Inward); in_limits = tt; rest = tokens_of clock (one_port 0 (a_port Inward)); same = refl }
  completes AtName fine = record { text = one_port 0 (a_port Inward); in_limits = tt; rest = token.Name 0 ∷ marked mark.Open (fresh_text (a_port Inward) empty_text); same = refl }
  completes (AtOpen name) fine = record { text = one_port name (a_port Inward); in_limits = tt; rest = marked mark.Open (fresh_text (a_port Inward) empty_text); same = refl }
  completes (AtFirst name) fine = record { text = one_port name (a_port Inward); in_limits = tt; rest = fresh_text (a_port Inward) empty_text; same = refl }
  completes (PortBegun (First name) d) fine = record { text = one_port name (a_port d); in_limits = tt; rest = token.Name 0 ∷ empty_text; same = refl }
  completes (PortBegun (Behind t) d) fine = by_port t (Fresh (a_port d)) _ (token.Name 0 ∷ empty_text) refl
  completes (PortHead (First name) d wire h) fine =
      let x = head_completes h in
      let p : FreshPort = record { direction = d; wire = wire; shape = x.shape; name = 0 } in
      record { text = one_port name p; in_limits = tt; rest = x.more (token.Name 0 ∷ empty_text); same = ap (λ ts. worded word.Module (token.Name name ∷ marked mark.Open (worded (direction_word d) (if_word wire word.Wire ts)))) (x.same (token.Name 0 ∷ empty_text)) }
  completes (PortHead (Behind t) d wire h) fine =
      let x = head_completes h in
      let p : FreshPort = record { direction = d; wire = wire; shape = x.shape; name = 0 } in
      by_port t (Fresh p) _ (x.more (token.Name 0 ∷ empty_text)) (ap (λ ts. ports_before limits clock t (marked mark.Comma (worded (direction_word d) (if_word wire word.Wire ts)))) (x.same (token.Name 0 ∷ empty_text)))
  completes (PortRead t) fine = record { text = record t { items = [] }; in_limits = tt; rest = empty_text; same = refl }
  completes (AtPort t) fine = by_port t (Same 0) _ (token.Name 0 ∷ empty_text) refl
  completes (PortsEnded t) fine = record { text = record t { items = [] }; in_limits = tt; rest = marked mark.Semicolon end_text; same = refl }
  completes (AtItem t) fine = record { text = t; in_limits = fine; rest = end_text; same = refl }
  completes (StoreHead t store h) fine =
      let x = head_completes h in
      by_item t (Declared store x.shape 0 []) _ (x.more (token.Name 0 ∷ marked mark.Semicolon end_text)) fine tt (ap (λ ts. items_before limits clock t (worded (store_word store) ts)) (x.same (token.Name 0 ∷ marked mark.Semicolon end_text)))
  completes (StoreRead t store shape first others) fine = by_item t (Declared store shape first others) _ (marked mark.Semicolon end_text) fine tt refl
  completes (AtMore t store shape first others) fine =
      by_item t (Declared store shape first (others ++ 0 ∷ [])) _ (token.Name 0 ∷ marked mark.Semicolon end_text) fine tt
      (ap (λ ts. items_before limits clock t (worded (store_word store) (shape_text shape (token.Name first ∷ ts)))) (sym (names_text-last limits clock others 0 (marked mark.Semicolon end_text))))
  completes (AtTarget t) fine = by_item t (Assigned 0 (Named 0)) _ (token.Name 0 ∷ marked mark.Assigned (token.Name 0 ∷ marked mark.Semicolon end_text)) fine (tt, omega arith, omega arith) refl
  completes (AtAssigned t target) fine = by_item t (Assigned target (Named 0)) _ (marked mark.Assigned (token.Name 0 ∷ marked mark.Semicolon end_text)) fine (tt, omega arith, omega arith) refl
  completes (InValue t target tokens s) fine =
      let x = inside_completes limits s tokens fine.1 in
      by_item t (Assigned target x.source) _ (x.more (marked mark.Semicolon end_text)) fine.0 (x.grouped, x.in_levels, x.in_operators)
      (ap (λ ts. items_before limits clock t (worded word.Assign (token.Name target ∷ marked mark.Assigned ts))) (x.same (marked mark.Semicolon end_text)))
  completes (AtEvent t) fine = by_block t _ (marked mark.At (marked mark.Open (worded word.Posedge (token.Name clock ∷ marked mark.Close (statement_text least end_text))))) fine refl
  completes (InEvent t) fine = by_block t _ (marked mark.Open (worded word.Posedge (token.Name clock ∷ marked mark.Close (statement_text least end_text)))) fine refl
  completes (OnEdge t) fine = by_block t _ (worded word.Posedge (token.Name clock ∷ marked mark.Close (statement_text least end_text))) fine refl
  completes (AtClock t) fine = by_block t _ (token.Name clock ∷ marked mark.Close (statement_text least end_text)) fine refl
  completes (AtEventEnd t) fine = by_block t _ (marked mark.Close (statement_text least end_text)) fine refl
  completes (InBlock t stack part) fine =
      let x = statement_completes limits stack part fine.1 in
      by_item t (Clocked x.body) _ (x.more end_text) fine.0 (x.parted, x.in_levels, x.short) (ap (λ ts. items_before limits clock t (event_begun limits clock ts)) (x.same end_text))
  completes (Finished t) fine = record { text = t; in_limits = fine; rest = []; same = refl }

  -- the state that the machine comes to
  record Reaches (part : Part) (ts : List Token) : Type 0 where
    part' : Part
    fine : IsFine limits clock part'
    same : (rest : List Token) → text_of limits clock part (ts ++ rest) ≡ text_of limits clock part' rest

  reaches : (ts : List Token) (part : Part) (s : State) → IsFine limits clock part → run limits clock (state_of limits clock part) ts ≡ Ok s → Reaches part ts
  reaches [] part s fine e = record { part' = part; fine = fine; same = λ rest. refl }
  reaches (t ∷ ts) part s fine e =
      let p = then_ok limits clock (step limits clock (state_of limits clock part) t) (λ next. run limits clock next ts) s e in
      let x = step_sound limits clock part t p.0 fine p.1 in
      let y = reaches ts x.part' s x.fine (ap (λ z. run limits clock z ts) x.state ∙ p.2) in
      record { part' = y.part'; fine = y.fine; same = λ rest. x.same (ts ++ rest) ∙ y.same rest }

  -- what the machine takes is the beginning of a text of the grammar
  pub goes_on : (tokens : List Token) (s : State) → run limits clock start tokens ≡ Ok s → (text : Text) × (rest : List Token) × AreItems limits text.items × (tokens_of clock text ≡ tokens ++ rest)
  goes_on tokens s e =
      let r = reaches tokens AtStart s tt e in
      let x = completes r.part' r.fine in
      (x.text, x.rest, x.in_limits, sym (r.same x.rest ∙ x.same))
