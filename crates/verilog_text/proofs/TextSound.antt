-- What the machine has accepted so far of a text is the beginning of one, and at its end a whole one.
use Rattle.std.proofs.Common.{◌≡◌, ℕ, ◌+◌, ◌≤◌, ◌⊎◌, inl, inr, Bool, true, false, List, [], ◌∷◌, ◌++◌, Some, None, Result, Ok, Err, refl, sym, ap, ◌∙◌, subst, arith, append_assoc}
use Rattle.std.specs.Prelude.{map, Option, ◌&&◌}
use Rattle.std.proofs.lemmas.List.{append-nil}
use Rattle.std.proofs.lemmas.Bool.{eqb-true}
use Rattle.verilog_tree.specs.declared.tree.Kind.{Kind}
use Rattle.verilog_tree.specs.declared.tree.Signal.{Signal}
use Rattle.verilog_tree.specs.Tree.{Tree, Action, Assignment}
use Rattle.verilog_text.specs.declared.token.Decimal.{Decimal}
use Rattle.verilog_text.specs.declared.token.Mark.TheVariants as mark
use Rattle.verilog_text.specs.declared.token.Word.{Word}
use Rattle.verilog_text.specs.declared.token.Word.TheVariants as word
use Rattle.verilog_text.specs.declared.token.Token.{Token}
use Rattle.verilog_text.specs.declared.token.Token.TheVariants as token
use Rattle.verilog_text.specs.declared.token.Why.{Why}
use Rattle.verilog_text.specs.Grammar.{marked, Limits}
use Rattle.verilog_text.specs.Machine as inner
use Rattle.verilog_text.specs.StatementMachine as statement
use Rattle.verilog_text.specs.Statements.{Statement, worded, statement_text, action_of, IsParted, height, IsShort}
use Rattle.verilog_text.specs.Text.{Text, Shape, Direction, Inward, Outward, FreshPort, Port, Fresh, Same, Store, InWire, InReg, Item, Declared, Assigned, Clocked, zero_digit, if_word, shape_text, direction_word, fresh_text, port_text, ports_text, names_text, store_word, item_text, items_text, tokens_of, IsItem, AreItems, direction_kind, store_kind, signal_of, fresh_signal, port_signals, item_signals, items_signals, signals_of, item_assigns, assigns_of, item_blocks, blocks_of}
use Rattle.verilog_text.specs.TextMachine as machine
use Rattle.verilog_text.specs.TextMachine.{drafted, Draft, State, Phase, Spot, at, step, start, run}
use Rattle.verilog_text.proofs.Sound.{never, ok_inverse, ok_if}
use Rattle.verilog_text.proofs.StatementSound as statements
use Rattle.verilog_text.proofs.Writings.{written_split}

-- the fresh port whose direction and shape a name alone would have
abbrev pub latest : FreshPort → List Port → FreshPort
latest p [] = p
latest p (Fresh q ∷ ps) = latest q ps
latest p (Same name ∷ ps) = latest p ps

-- what has been read of a heading behind `wire`, if it is there
pub data Head : Type 0 where
  Signs : Head
  Ranges : (signed : Bool) → Head
  Highs : (signed : Bool) → Head
  Colons : (signed : Bool) (high : Decimal) → Head
  Zeros : (signed : Bool) (high : Decimal) → Head
  Closes : (signed : Bool) (high : Decimal) → Head
  Names : (shape : Shape) → Head

abbrev pub spot_of : Head → Spot
spot_of Signs = machine.Signable
spot_of (Ranges signed) = machine.Rangeable signed
spot_of (Highs signed) = machine.Ranging signed
spot_of (Colons signed high) = machine.Ranged signed high
spot_of (Zeros signed high) = machine.Zeroing signed high
spot_of (Closes signed high) = machine.Closing signed high
spot_of (Names shape) = machine.Nameable shape

abbrev pub head_text : Head → List Token → List Token
head_text Signs rest = rest
head_text (Ranges signed) rest = if_word signed word.Signed rest
head_text (Highs signed) rest = if_word signed word.Signed (marked mark.OpenBracket rest)
head_text (Colons signed high) rest = if_word signed word.Signed (marked mark.OpenBracket (token.Number high ∷ rest))
head_text (Zeros signed high) rest = if_word signed word.Signed (marked mark.OpenBracket (token.Number high ∷ marked mark.Colon rest))
head_text (Closes signed high) rest = if_word signed word.Signed (marked mark.OpenBracket (token.Number high ∷ marked mark.Colon (token.Number zero_digit ∷ rest)))
head_text (Names shape) rest = shape_text shape rest

-- where the heading of a port stands: the first one, or behind others
pub data Place : Type 0 where
  First : (name : ℕ) → Place
  Behind : (t : Text) → Place

-- what is being read
pub data Part : Type 0 where
  AtStart : Part
  AtName : Part
  AtOpen : (name : ℕ) → Part
  AtFirst : (name : ℕ) → Part
  PortBegun : (place : Place) (d : Direction) → Part
  PortHead : (place : Place) (d : Direction) (wire : Bool) (h : Head) → Part
  PortRead : (t : Text) → Part
  AtPort : (t : Text) → Part
  PortsEnded : (t : Text) → Part
  AtItem : (t : Text) → Part
  StoreHead : (t : Text) (store : Store) (h : Head) → Part
  StoreRead : (t : Text) (store : Store) (shape : Shape) (first : ℕ) (others : List ℕ) → Part
  AtMore : (t : Text) (store : Store) (shape : Shape) (first : ℕ) (others : List ℕ) → Part
  AtTarget : (t : Text) → Part
  AtAssigned : (t : Text) (target : ℕ) → Part
  InValue : (t : Text) (target : ℕ) (tokens : List Token) (s : inner.State) → Part
  AtEvent : (t : Text) → Part
  InEvent : (t : Text) → Part
  OnEdge : (t : Text) → Part
  AtClock : (t : Text) → Part
  AtEventEnd : (t : Text) → Part
  InBlock : (t : Text) (stack : List statements.Around) (part : statements.Part) → Part
  Finished : (t : Text) → Part

module _ (limits : Limits) (clock : ℕ) where
  abbrev pub ports_before : Text → List Token → List Token
  ports_before t rest = worded word.Module (token.Name t.name ∷ marked mark.Open (fresh_text t.port (ports_text t.ports rest)))

  abbrev pub items_before : Text → List Token → List Token
  items_before t rest = ports_before t (marked mark.Close (marked mark.Semicolon (items_text clock t.items rest)))

  abbrev pub place_text : Place → List Token → List Token
  place_text (First name) rest = worded word.Module (token.Name name ∷ marked mark.Open rest)
  place_text (Behind t) rest = ports_before t (marked mark.Comma rest)

  abbrev pub place_draft : Place → Draft
  place_draft (First name) = record machine.empty { name = name }
  place_draft (Behind t) = drafted t

  abbrev pub last_kind : Text → Kind
  last_kind t = direction_kind (latest t.port t.ports).direction

  abbrev pub last_shape : Text → Shape
  last_shape t = (latest t.port t.ports).shape

  abbrev pub state_of : Part → State
  state_of AtStart = at machine.empty machine.Start
  state_of AtName = at machine.empty machine.Naming
  state_of (AtOpen name) = at (record machine.empty { name = name }) machine.Opening
  state_of (AtFirst name) = at (record machine.empty { name = name }) machine.FirstPort
  state_of (PortBegun place d) = at (place_draft place) (machine.Heading (direction_kind d) machine.Wirable)
  state_of (PortHead place d wire h) = at (place_draft place) (machine.Heading (direction_kind d) (spot_of h))
  state_of (PortRead t) = at (drafted t) (machine.Listed (last_kind t) (last_shape t))
  state_of (AtPort t) = at (drafted t) (machine.NextPort (last_kind t) (last_shape t))
  state_of (PortsEnded t) = at (drafted t) machine.PortsClosed
  state_of (AtItem t) = at (drafted t) machine.AtItem
  state_of (StoreHead t store h) = at (drafted t) (machine.Heading (store_kind store) (spot_of h))
  state_of (StoreRead t store shape first others) = at (record (drafted t) { signals = signals_of t ++ map (signal_of (store_kind store) shape) (first ∷ others) }) (machine.Listed (store_kind store) shape)
  state_of (AtMore t store shape first others) = at (record (drafted t) { signals = signals_of t ++ map (signal_of (store_kind store) shape) (first ∷ others) }) (machine.Heading (store_kind store) (machine.Nameable shape))
  state_of (AtTarget t) = at (drafted t) machine.Targeting
  state_of (AtAssigned t target) = at (drafted t) (machine.Assigning target)
  state_of (InValue t target tokens s) = at (drafted t) (machine.Valued target s)
  state_of (AtEvent t) = at (drafted t) machine.AtEvent
  state_of (InEvent t) = at (drafted t) machine.InEvent
  state_of (OnEdge t) = at (drafted t) machine.OnEdge
  state_of (AtClock t) = at (drafted t) machine.AtClock
  state_of (AtEventEnd t) = at (drafted t) machine.EventClosed
  state_of (InBlock t stack part) = at (drafted t) (machine.Running (statements.state_of stack part))
  state_of (Finished t) = at (drafted t) machine.Done

  abbrev pub event_begun : List Token → List Token
  event_begun rest = worded word.Always (marked mark.At (marked mark.Open (worded word.Posedge (token.Name clock ∷ marked mark.Close rest))))

  abbrev pub store_begun : Text → Store → Shape → ℕ → List ℕ → List Token → List Token
  store_begun t store shape first others rest = items_before t (worded (store_word store) (shape_text shape (token.Name first ∷ names_text others rest)))

  abbrev pub text_of : Part → List Token → List Token
  text_of AtStart rest = rest
  text_of AtName rest = worded word.Module rest
  text_of (AtOpen name) rest = worded word.Module (token.Name name ∷ rest)
  text_of (AtFirst name) rest = worded word.Module (token.Name name ∷ marked mark.Open rest)
  text_of (PortBegun place d) rest = place_text place (worded (direction_word d) rest)
  text_of (PortHead place d wire h) rest = place_text place (worded (direction_word d) (if_word wire word.Wire (head_text h rest)))
  text_of (PortRead t) rest = ports_before t rest
  text_of (AtPort t) rest = ports_before t (marked mark.Comma rest)
  text_of (PortsEnded t) rest = ports_before t (marked mark.Close rest)
  text_of (AtItem t) rest = items_before t rest
  text_of (StoreHead t store h) rest = items_before t (worded (store_word store) (head_text h rest))
  text_of (StoreRead t store shape first others) rest = store_begun t store shape first others rest
  text_of (AtMore t store shape first others) rest = store_begun t store shape first others (marked mark.Comma rest)
  text_of (AtTarget t) rest = items_before t (worded word.Assign rest)
  text_of (AtAssigned t target) rest = items_before t (worded word.Assign (token.Name target ∷ rest))
  text_of (InValue t target tokens s) rest = items_before t (worded word.Assign (token.Name target ∷ marked mark.Assigned (tokens ++ rest)))
  text_of (AtEvent t) rest = items_before t (worded word.Always rest)
  text_of (InEvent t) rest = items_before t (worded word.Always (marked mark.At rest))
  text_of (OnEdge t) rest = items_before t (worded word.Always (marked mark.At (marked mark.Open rest)))
  text_of (AtClock t) rest = items_before t (worded word.Always (marked mark.At (marked mark.Open (worded word.Posedge rest))))
  text_of (AtEventEnd t) rest = items_before t (worded word.Always (marked mark.At (marked mark.Open (worded word.Posedge (token.Name clock ∷ rest)))))
  text_of (InBlock t stack part) rest = items_before t (event_begun (statements.text_of stack part rest))
  text_of (Finished t) rest = items_before t (worded word.EndModule rest)

  -- before the items there are none, and each expression and statement so far is within the grammar
  abbrev pub IsBare : Text → Type 0
  IsBare t = t.items ≡ []

  abbrev pub IsFine : Part → Type 0
  IsFine AtStart = Unit {0}
  IsFine AtName = Unit {0}
  IsFine (AtOpen name) = Unit {0}
  IsFine (AtFirst name) = Unit {0}
  IsFine (PortBegun (First name) d) = Unit {0}
  IsFine (PortBegun (Behind t) d) = IsBare t
  IsFine (PortHead (First name) d wire h) = Unit {0}
  IsFine (PortHead (Behind t) d wire h) = IsBare t
  IsFine (PortRead t) = IsBare t
  IsFine (AtPort t) = IsBare t
  IsFine (PortsEnded t) = IsBare t
  IsFine (AtItem t) = AreItems limits t.items
  IsFine (StoreHead t store h) = AreItems limits t.items
  IsFine (StoreRead t store shape first others) = AreItems limits t.items
  IsFine (AtMore t store shape first others) = AreItems limits t.items
  IsFine (AtTarget t) = AreItems limits t.items
  IsFine (AtAssigned t target) = AreItems limits t.items
  IsFine (InValue t target tokens s) = AreItems limits t.items × statements.Inside limits s tokens
  IsFine (AtEvent t) = AreItems limits t.items
  IsFine (InEvent t) = AreItems limits t.items
  IsFine (OnEdge t) = AreItems limits t.items
  IsFine (AtClock t) = AreItems limits t.items
  IsFine (AtEventEnd t) = AreItems limits t.items
  IsFine (InBlock t stack part) = AreItems limits t.items × statements.IsFine limits stack part
  IsFine (Finished t) = AreItems limits t.items

  -- a step leads to a state in which all that was read fits, the token too
  pub record Steps (so_far : List Token → List Token) (t : Token) (s : State) : Type 0 where
    pub part' : Part
    pub state : state_of part' ≡ s
    pub fine : IsFine part'
    pub same : (rest : List Token) → so_far (t ∷ rest) ≡ text_of part' rest

  -- ---- one more port, one more name, one more item

  abbrev with_port : Text → Port → Text
  with_port t p = record t { ports = t.ports ++ p ∷ [] }

  abbrev pub with_item : Text → Item → Text
  with_item t x = record t { items = t.items ++ x ∷ [] }

  pub ports_text-last : (ps : List Port) (p : Port) (rest : List Token) → ports_text (ps ++ p ∷ []) rest ≡ ports_text ps (marked mark.Comma (port_text p rest))
  ports_text-last [] p rest = refl
  ports_text-last (q ∷ ps) p rest = ap (λ ts. marked mark.Comma (port_text q ts)) (ports_text-last ps p rest)

  latest-fresh : (q : FreshPort) (ps : List Port) (p : FreshPort) → latest q (ps ++ Fresh p ∷ []) ≡ p
  latest-fresh q [] p = refl
  latest-fresh q (Fresh r ∷ ps) p = latest-fresh r ps p
  latest-fresh q (Same n ∷ ps) p = latest-fresh q ps p

  latest-same : (q : FreshPort) (ps : List Port) (n : ℕ) → latest q (ps ++ Same n ∷ []) ≡ latest q ps
  latest-same q [] n = refl
  latest-same q (Fresh r ∷ ps) n = latest-same r ps n
  latest-same q (Same m ∷ ps) n = latest-same q ps n

  port_signals-fresh : (q : FreshPort) (ps : List Port) (p : FreshPort) → port_signals q (ps ++ Fresh p ∷ []) ≡ port_signals q ps ++ fresh_signal p ∷ []
  port_signals-fresh q [] p = refl
  port_signals-fresh q (Fresh r ∷ ps) p = ap (λ ss. fresh_signal r ∷ ss) (port_signals-fresh r ps p)
  port_signals-fresh q (Same n ∷ ps) p = ap (λ ss. signal_of (direction_kind q.direction) q.shape n ∷ ss) (port_signals-fresh q ps p)

  port_signals-same : (q : FreshPort) (ps : List Port) (n : ℕ) → port_signals q (ps ++ Same n ∷ []) ≡ port_signals q ps ++ signal_of (direction_kind (latest q ps).direction) (latest q ps).shape n ∷ []
  port_signals-same q [] n = refl
  port_signals-same q (Fresh r ∷ ps) n = ap (λ ss. fresh_signal r ∷ ss) (port_signals-same r ps n)
  port_signals-same q (Same m ∷ ps) n = ap (λ ss. signal_of (direction_kind q.direction) q.shape m ∷ ss) (port_signals-same q ps n)

  pub names_text-last : (ns : List ℕ) (n : ℕ) (rest : List Token) → names_text (ns ++ n ∷ []) rest ≡ names_text ns (marked mark.Comma (token.Name n ∷ rest))
  names_text-last [] n rest = refl
  names_text-last (m ∷ ns) n rest = ap (λ ts. marked mark.Comma (token.Name m ∷ ts)) (names_text-last ns n rest)

  items_text-last : (xs : List Item) (x : Item) (rest : List Token) → items_text clock (xs ++ x ∷ []) rest ≡ items_text clock xs (item_text clock x rest)
  items_text-last [] x rest = refl
  items_text-last (y ∷ xs) x rest = ap (item_text clock y) (items_text-last xs x rest)

  pub items_last : (xs : List Item) (x : Item) → AreItems limits xs → IsItem limits x → AreItems limits (xs ++ x ∷ [])
  items_last [] x h g = (g, tt)
  items_last (y ∷ xs) x h g = (h.0, items_last xs x h.1 g)

  items_signals-last : (xs : List Item) (x : Item) → items_signals (xs ++ x ∷ []) ≡ items_signals xs ++ item_signals x
  items_signals-last [] x = append-nil (item_signals x)
  items_signals-last (y ∷ xs) x = ap (λ ss. item_signals y ++ ss) (items_signals-last xs x) ∙ sym (append_assoc (item_signals y) (items_signals xs) (item_signals x))

  assigns_of-last : (xs : List Item) (x : Item) → assigns_of (xs ++ x ∷ []) ≡ assigns_of xs ++ item_assigns x
  assigns_of-last [] x = append-nil (item_assigns x)
  assigns_of-last (y ∷ xs) x = ap (λ ss. item_assigns y ++ ss) (assigns_of-last xs x) ∙ sym (append_assoc (item_assigns y) (assigns_of xs) (item_assigns x))

  blocks_of-last : (xs : List Item) (x : Item) → blocks_of (xs ++ x ∷ []) ≡ blocks_of xs ++ item_blocks x
  blocks_of-last [] x = append-nil (item_blocks x)
  blocks_of-last (y ∷ xs) x = ap (λ ss. item_blocks y ++ ss) (blocks_of-last xs x) ∙ sym (append_assoc (item_blocks y) (blocks_of xs) (item_blocks x))

  -- ---- states that are the same

  draft_is : (n : ℕ) (ss ss' : List Signal) (xs xs' : List Assignment) (bs bs' : List Action) → ss ≡ ss' → xs ≡ xs' → bs ≡ bs' → ◌≡◌ {A = Draft} (record { name = n; signals = ss; assigns = xs; blocks = bs }) (record { name = n; signals = ss'; assigns = xs'; blocks = bs' })
  draft_is n ss ss' xs xs' bs bs' e f g =
      let form : List Signal → List Assignment → List Action → Draft = λ s a b. record { name = n; signals = s; assigns = a; blocks = b } in
      let first : form ss xs bs ≡ form ss' xs bs = ap (λ s. form s xs bs) e in
      let second : form ss' xs bs ≡ form ss' xs' bs = ap (λ a. form ss' a bs) f in
      let third : form ss' xs' bs ≡ form ss' xs' bs' = ap (λ b. form ss' xs' b) g in
      first ∙ second ∙ third

  -- one more port behind others, before any item
  port_signals_more : (t : Text) (ps : List Port) (x : Signal) → IsBare t → port_signals t.port ps ≡ port_signals t.port t.ports ++ x ∷ [] → fresh_signal t.port ∷ (port_signals t.port ps ++ items_signals t.items) ≡ signals_of t ++ x ∷ []
  port_signals_more t ps x bare e =
      let none : items_signals t.items ≡ [] = ap items_signals bare in
      ap (λ ss. fresh_signal t.port ∷ (port_signals t.port ps ++ ss)) none
      ∙ ap (λ ss. fresh_signal t.port ∷ ss) (append-nil (port_signals t.port ps) ∙ e ∙ ap (λ ss. ss ++ x ∷ []) (sym (append-nil (port_signals t.port t.ports)) ∙ ap (λ ss. port_signals t.port t.ports ++ ss) (sym none)))

  listed_is : (d d' : Draft) (k k' : Kind) (shape shape' : Shape) → d ≡ d' → k ≡ k' → shape ≡ shape' → ◌≡◌ {A = State} (at d (machine.Listed k shape)) (at d' (machine.Listed k' shape'))
  listed_is d d' k k' shape shape' e f g = ap (λ x. at x (machine.Listed k shape)) e ∙ ap (λ x. at d' (machine.Listed x shape)) f ∙ ap (λ x. at d' (machine.Listed k' x)) g

  fresh_read : (t : Text) (p : FreshPort) → IsBare t → state_of (PortRead (with_port t (Fresh p))) ≡ at (machine.declaring (drafted t) (direction_kind p.direction) p.shape p.name) (machine.Listed (direction_kind p.direction) p.shape)
  fresh_read t p bare =
      let q = latest-fresh t.port t.ports p in
      listed_is _ _ _ _ _ _ (draft_is t.name _ _ _ _ _ _ (port_signals_more t (t.ports ++ Fresh p ∷ []) (fresh_signal p) bare (port_signals-fresh t.port t.ports p)) refl refl) (ap (λ x. direction_kind x.direction) q) (ap (λ x. x.shape) q)

  same_read : (t : Text) (n : ℕ) → IsBare t → state_of (PortRead (with_port t (Same n))) ≡ at (machine.declaring (drafted t) (last_kind t) (last_shape t) n) (machine.Listed (last_kind t) (last_shape t))
  same_read t n bare =
      let q = latest-same t.port t.ports n in
      listed_is _ _ _ _ _ _ (draft_is t.name _ _ _ _ _ _ (port_signals_more t (t.ports ++ Same n ∷ []) (signal_of (last_kind t) (last_shape t) n) bare (port_signals-same t.port t.ports n)) refl refl) (ap (λ x. direction_kind x.direction) q) (ap (λ x. x.shape) q)

  -- one more item
  item_read : (t : Text) (x : Item) → drafted (with_item t x) ≡ record { name = t.name; signals = signals_of t ++ item_signals x; assigns = assigns_of t.items ++ item_assigns x; blocks = blocks_of t.items ++ item_blocks x }
  item_read t x =
      draft_is t.name _ _ _ _ _ _
      (ap (λ ss. fresh_signal t.port ∷ (port_signals t.port t.ports ++ ss)) (items_signals-last t.items x) ∙ ap (λ ss. fresh_signal t.port ∷ ss) (sym (append_assoc (port_signals t.port t.ports) (items_signals t.items) (item_signals x))))
      (assigns_of-last t.items x) (blocks_of-last t.items x)

  pub item_written : (t : Text) (x : Item) (rest : List Token) → items_before t (item_text clock x rest) ≡ items_before (with_item t x) rest
  item_written t x rest = ap (λ ts. ports_before t (marked mark.Close (marked mark.Semicolon ts))) (sym (items_text-last t.items x rest))

  -- ---- headings

  both : (x y : Bool) → (x && y) ≡ true → (x ≡ true) × (y ≡ true)
  both true true e = (refl, refl)
  both true false e = cc
  both false y e = cc

  zero_is : (d : Decimal) → machine.is_zero_digit d ≡ true → d ≡ zero_digit
  zero_is d e =
      let p = both _ _ e in
      let form : ℕ → Bool → Decimal = λ v b. record { value = v; is_single = b } in
      let first : form d.value d.is_single ≡ form 0 d.is_single = ap (λ v. form v d.is_single) (eqb-true d.value 0 p.0) in
      let second : form 0 d.is_single ≡ form 0 true = ap (form 0) p.1 in
      first ∙ second

  -- the heading goes on, or its name comes
  abbrev HeadGoes : Draft → Kind → Head → Token → State → Type 0
  HeadGoes draft k h t s =
      ((h' : Head) × (at draft (machine.Heading k (spot_of h')) ≡ s) × ((rest : List Token) → head_text h (t ∷ rest) ≡ head_text h' rest))
      ⊎ ((shape : Shape) × (n : ℕ) × (at (machine.declaring draft k shape n) (machine.Listed k shape) ≡ s) × ((rest : List Token) → head_text h (t ∷ rest) ≡ shape_text shape (token.Name n ∷ rest)))

  head_step : (draft : Draft) (k : Kind) (h : Head) (t : Token) (s : State) → machine.spot_step draft k (spot_of h) t ≡ Ok s → HeadGoes draft k h t s
  head_step draft k Signs (token.Keyword word.Signed) s e = inl (Ranges true, ok_inverse _ s e, λ rest. refl)
  head_step draft k Signs (token.Punctuation mark.OpenBracket) s e = inl (Highs false, ok_inverse _ s e, λ rest. refl)
  head_step draft k Signs (token.Name n) s e = inr (record { signed = false; range = None }, n, ok_inverse _ s e, λ rest. refl)
  head_step draft k Signs t s e = absurd (never _ s e)
  head_step draft k (Ranges signed) (token.Punctuation mark.OpenBracket) s e = inl (Highs signed, ok_inverse _ s e, λ rest. refl)
  head_step draft k (Ranges signed) (token.Name n) s e = inr (record { signed = signed; range = None }, n, ok_inverse _ s e, λ rest. refl)
  head_step draft k (Ranges signed) t s e = absurd (never _ s e)
  head_step draft k (Highs signed) (token.Number high) s e = inl (Colons signed high, ok_inverse _ s e, λ rest. refl)
  head_step draft k (Highs signed) t s e = absurd (never _ s e)
  head_step draft k (Colons signed high) (token.Punctuation mark.Colon) s e = inl (Zeros signed high, ok_inverse _ s e, λ rest. refl)
  head_step draft k (Colons signed high) t s e = absurd (never _ s e)
  head_step draft k (Zeros signed high) (token.Number d) s e =
      let p = ok_if _ _ s _ e in
      inl (Closes signed high, p.1, λ rest. ap (λ z. if_word signed word.Signed (marked mark.OpenBracket (token.Number high ∷ marked mark.Colon (token.Number z ∷ rest)))) (zero_is d p.0))
  head_step draft k (Zeros signed high) t s e = absurd (never _ s e)
  head_step draft k (Closes signed high) (token.Punctuation mark.CloseBracket) s e = inl (Names (record { signed = signed; range = Some high }), ok_inverse _ s e, λ rest. refl)
  head_step draft k (Closes signed high) t s e = absurd (never _ s e)
  head_step draft k (Names shape) (token.Name n) s e = inr (shape, n, ok_inverse _ s e, λ rest. refl)
  head_step draft k (Names shape) t s e = absurd (never _ s e)

  -- a port's name comes
  port_named : (so_far : List Token → List Token) (place : Place) (d : Direction) (wire : Bool) (shape : Shape) (n : ℕ) (t : Token) (s : State) → IsFine (PortBegun place d) → at (machine.declaring (place_draft place) (direction_kind d) shape n) (machine.Listed (direction_kind d) shape) ≡ s
      → ((rest : List Token) → so_far (t ∷ rest) ≡ place_text place (worded (direction_word d) (if_word wire word.Wire (shape_text shape (token.Name n ∷ rest))))) → Steps so_far t s
  port_named so_far (First name) d wire shape n t s fine e same = record { part' = PortRead (record { name = name; port = record { direction = d; wire = wire; shape = shape; name = n }; ports = []; items = [] }); state = e; fine = refl; same = same }
  port_named so_far (Behind u) d wire shape n t s fine e same =
      let p : FreshPort = record { direction = d; wire = wire; shape = shape; name = n } in
      record {
        part' = PortRead (with_port u (Fresh p));
        state = fresh_read u p fine ∙ e;
        fine = fine;
        same = λ rest. same rest ∙ ap (λ ts. worded word.Module (token.Name u.name ∷ marked mark.Open (fresh_text u.port ts))) (sym (ports_text-last u.ports (Fresh p) rest));
      }

  head_fine : (place : Place) (d : Direction) (wire : Bool) (h : Head) → IsFine (PortBegun place d) → IsFine (PortHead place d wire h)
  head_fine (First name) d wire h fine = tt
  head_fine (Behind u) d wire h fine = fine

  begun_fine : (place : Place) (d : Direction) (wire : Bool) (h : Head) → IsFine (PortHead place d wire h) → IsFine (PortBegun place d)
  begun_fine (First name) d wire h fine = tt
  begun_fine (Behind u) d wire h fine = fine

  begun_step : (place : Place) (d : Direction) (t : Token) (s : State) → IsFine (PortBegun place d) → machine.spot_step (place_draft place) (direction_kind d) machine.Wirable t ≡ Ok s → Steps (text_of (PortBegun place d)) t s
  begun_step place d (token.Keyword word.Wire) s fine e = record { part' = PortHead place d true Signs; state = ok_inverse _ s e; fine = head_fine place d true Signs fine; same = λ rest. refl }
  begun_step place d (token.Keyword word.Signed) s fine e = record { part' = PortHead place d false (Ranges true); state = ok_inverse _ s e; fine = head_fine place d false (Ranges true) fine; same = λ rest. refl }
  begun_step place d (token.Punctuation mark.OpenBracket) s fine e = record { part' = PortHead place d false (Highs false); state = ok_inverse _ s e; fine = head_fine place d false (Highs false) fine; same = λ rest. refl }
  begun_step place d (token.Name n) s fine e = port_named (text_of (PortBegun place d)) place d false (record { signed = false; range = None }) n (token.Name n) s fine (ok_inverse _ s e) (λ rest. refl)
  begun_step place d t s fine e = absurd (never _ s e)

  port_step : (place : Place) (d : Direction) (wire : Bool) (h : Head) (t : Token) (s : State) → IsFine (PortHead place d wire h) → HeadGoes (place_draft place) (direction_kind d) h t s → Steps (text_of (PortHead place d wire h)) t s
  port_step place d wire h t s fine (inl (h', e, same)) = record { part' = PortHead place d wire h'; state = e; fine = head_fine place d wire h' (begun_fine place d wire h fine); same = λ rest. ap (λ ts. place_text place (worded (direction_word d) (if_word wire word.Wire ts))) (same rest) }
  port_step place d wire h t s fine (inr (shape, n, e, same)) = port_named (text_of (PortHead place d wire h)) place d wire shape n t s (begun_fine place d wire h fine) e (λ rest. ap (λ ts. place_text place (worded (direction_word d) (if_word wire word.Wire ts))) (same rest))

  store_step : (u : Text) (store : Store) (h : Head) (t : Token) (s : State) → AreItems limits u.items → HeadGoes (drafted u) (store_kind store) h t s → Steps (text_of (StoreHead u store h)) t s
  store_step u store h t s fine (inl (h', e, same)) = record { part' = StoreHead u store h'; state = e; fine = fine; same = λ rest. ap (λ ts. items_before u (worded (store_word store) ts)) (same rest) }
  store_step u store h t s fine (inr (shape, n, e, same)) = record { part' = StoreRead u store shape n []; state = e; fine = fine; same = λ rest. ap (λ ts. items_before u (worded (store_word store) ts)) (same rest) }

  -- ---- behind names

  port_listed : (u : Text) (d : Direction) (shape : Shape) (t : Token) (s : State) → machine.listed_step (drafted u) (direction_kind d) shape t ≡ Ok s → ((t ≡ token.Punctuation mark.Comma) × (at (drafted u) (machine.NextPort (direction_kind d) shape) ≡ s)) ⊎ ((t ≡ token.Punctuation mark.Close) × (at (drafted u) machine.PortsClosed ≡ s))
  port_listed u Inward shape (token.Punctuation mark.Comma) s e = inl (refl, ok_inverse _ s e)
  port_listed u Inward shape (token.Punctuation mark.Close) s e = inr (refl, ok_inverse _ s e)
  port_listed u Outward shape (token.Punctuation mark.Comma) s e = inl (refl, ok_inverse _ s e)
  port_listed u Outward shape (token.Punctuation mark.Close) s e = inr (refl, ok_inverse _ s e)
  port_listed u Inward shape (token.Punctuation _) s e = absurd (never _ s e)
  port_listed u Outward shape (token.Punctuation _) s e = absurd (never _ s e)
  port_listed u d shape _ s e = absurd (never _ s e)

  port_read_step : (u : Text) (t : Token) (s : State) → IsBare u → ((t ≡ token.Punctuation mark.Comma) × (at (drafted u) (machine.NextPort (last_kind u) (last_shape u)) ≡ s)) ⊎ ((t ≡ token.Punctuation mark.Close) × (at (drafted u) machine.PortsClosed ≡ s)) → Steps (text_of (PortRead u)) t s
  port_read_step u t s bare (inl (is, e)) = record { part' = AtPort u; state = e; fine = bare; same = λ rest. ap (λ x. ports_before u (x ∷ rest)) is }
  port_read_step u t s bare (inr (is, e)) = record { part' = PortsEnded u; state = e; fine = bare; same = λ rest. ap (λ x. ports_before u (x ∷ rest)) is }

  next_port_step : (u : Text) (t : Token) (s : State) → IsBare u → machine.next_port_step (drafted u) (last_kind u) (last_shape u) t ≡ Ok s → Steps (text_of (AtPort u)) t s
  next_port_step u (token.Name n) s bare e = record {
    part' = PortRead (with_port u (Same n));
    state = same_read u n bare ∙ ok_inverse _ s e;
    fine = bare;
    same = λ rest. ap (λ ts. worded word.Module (token.Name u.name ∷ marked mark.Open (fresh_text u.port ts))) (sym (ports_text-last u.ports (Same n) rest));
  }
  next_port_step u (token.Keyword word.Input) s bare e = record { part' = PortBegun (Behind u) Inward; state = ok_inverse _ s e; fine = bare; same = λ rest. refl }
  next_port_step u (token.Keyword word.Output) s bare e = record { part' = PortBegun (Behind u) Outward; state = ok_inverse _ s e; fine = bare; same = λ rest. refl }
  next_port_step u _ s bare e = absurd (never _ s e)

  store_ends : (u : Text) (store : Store) (shape : Shape) (first : ℕ) (others : List ℕ) (s : State) → AreItems limits u.items → at (state_of (StoreRead u store shape first others)).draft machine.AtItem ≡ s → Steps (text_of (StoreRead u store shape first others)) (token.Punctuation mark.Semicolon) s
  store_ends u store shape first others s fine e =
      let x : Item = Declared store shape first others in
      record {
        part' = AtItem (with_item u x);
        state = ap (λ d. at d machine.AtItem) (item_read u x ∙ draft_is u.name _ _ _ _ _ _ refl (append-nil (assigns_of u.items)) (append-nil (blocks_of u.items))) ∙ e;
        fine = items_last u.items x fine tt;
        same = λ rest. item_written u x rest;
      }

  store_read_step : (u : Text) (store : Store) (shape : Shape) (first : ℕ) (others : List ℕ) (t : Token) (s : State) → AreItems limits u.items → machine.listed_step (state_of (StoreRead u store shape first others)).draft (store_kind store) shape t ≡ Ok s → Steps (text_of (StoreRead u store shape first others)) t s
  store_read_step u InWire shape first others (token.Punctuation mark.Comma) s fine e = record { part' = AtMore u InWire shape first others; state = ok_inverse _ s e; fine = fine; same = λ rest. refl }
  store_read_step u InWire shape first others (token.Punctuation mark.Semicolon) s fine e = store_ends u InWire shape first others s fine (ok_inverse _ s e)
  store_read_step u InReg shape first others (token.Punctuation mark.Comma) s fine e = record { part' = AtMore u InReg shape first others; state = ok_inverse _ s e; fine = fine; same = λ rest. refl }
  store_read_step u InReg shape first others (token.Punctuation mark.Semicolon) s fine e = store_ends u InReg shape first others s fine (ok_inverse _ s e)
  store_read_step u InWire shape first others (token.Punctuation _) s fine e = absurd (never _ s e)
  store_read_step u InReg shape first others (token.Punctuation _) s fine e = absurd (never _ s e)
  store_read_step u store shape first others _ s fine e = absurd (never _ s e)

  map_last : (f : ℕ → Signal) (ns : List ℕ) (n : ℕ) → map f (ns ++ n ∷ []) ≡ map f ns ++ f n ∷ []
  map_last f [] n = refl
  map_last f (m ∷ ns) n = ap (λ ss. f m ∷ ss) (map_last f ns n)

  more_step : (u : Text) (store : Store) (shape : Shape) (first : ℕ) (others : List ℕ) (t : Token) (s : State) → AreItems limits u.items → machine.spot_step (state_of (AtMore u store shape first others)).draft (store_kind store) (machine.Nameable shape) t ≡ Ok s → Steps (text_of (AtMore u store shape first others)) t s
  more_step u store shape first others (token.Name n) s fine e =
      let f : ℕ → Signal = signal_of (store_kind store) shape in
      record {
        part' = StoreRead u store shape first (others ++ n ∷ []);
        state = ap (λ d. at d (machine.Listed (store_kind store) shape)) (draft_is u.name _ _ _ _ _ _ (ap (λ ss. signals_of u ++ ss) (map_last f (first ∷ others) n) ∙ sym (append_assoc (signals_of u) (map f (first ∷ others)) (f n ∷ []))) refl refl) ∙ ok_inverse _ s e;
        fine = fine;
        same = λ rest. ap (λ ts. items_before u (worded (store_word store) (shape_text shape (token.Name first ∷ ts)))) (sym (names_text-last others n rest));
      }
  more_step u store shape first others _ s fine e = absurd (never _ s e)

  -- ---- items

  item_word_step : (u : Text) (w : Word) (s : State) → AreItems limits u.items → machine.item_word (drafted u) w ≡ Ok s → Steps (items_before u) (token.Keyword w) s
  item_word_step u word.Wire s fine e = record { part' = StoreHead u InWire Signs; state = ok_inverse _ s e; fine = fine; same = λ rest. refl }
  item_word_step u word.Reg s fine e = record { part' = StoreHead u InReg Signs; state = ok_inverse _ s e; fine = fine; same = λ rest. refl }
  item_word_step u word.Assign s fine e = record { part' = AtTarget u; state = ok_inverse _ s e; fine = fine; same = λ rest. refl }
  item_word_step u word.Always s fine e = record { part' = AtEvent u; state = ok_inverse _ s e; fine = fine; same = λ rest. refl }
  item_word_step u word.EndModule s fine e = record { part' = Finished u; state = ok_inverse _ s e; fine = fine; same = λ rest. refl }
  item_word_step u _ s fine e = absurd (never _ s e)

  -- an expression
  value_goes : (u : Text) (target : ℕ) (tokens : List Token) (i : inner.State) (t : Token) (s : State) → IsFine (InValue u target tokens i) → (r : Result inner.State Why) → inner.step limits i t ≡ r → machine.value_lifted (drafted u) target r ≡ Ok s → Steps (text_of (InValue u target tokens i)) t s
  value_goes u target tokens i t s fine (Ok i') is e = record {
    part' = InValue u target (tokens ++ t ∷ []) i';
    state = ok_inverse _ s e;
    fine = (fine.0, statements.inside_step limits i i' tokens t fine.1 is);
    same = λ rest. ap (λ ts. items_before u (worded word.Assign (token.Name target ∷ marked mark.Assigned ts))) (sym (append_assoc tokens (t ∷ []) rest));
  }
  value_goes u target tokens i t s fine (Err w) is e = absurd (never _ s e)

  value_ends : (u : Text) (target : ℕ) (tokens : List Token) (i : inner.State) (o : Option Tree) (s : State) → IsFine (InValue u target tokens i) → inner.finish i ≡ o → machine.or_assigned (drafted u) target o ≡ Ok s → Steps (text_of (InValue u target tokens i)) (token.Punctuation mark.Semicolon) s
  value_ends u target tokens i None s fine h e = absurd (never _ s e)
  value_ends u target tokens i (Some v) s fine h e =
      let x = statements.inside_end limits i tokens v fine.1 h in
      let item : Item = Assigned target x.source in
      let assigned : Tree → List Assignment = λ z. assigns_of u.items ++ record { target = target; value = z } ∷ [] in
      record {
        part' = AtItem (with_item u item);
        state = ap (λ d. at d machine.AtItem) (item_read u item ∙ draft_is u.name _ _ _ _ _ _ (append-nil (signals_of u)) (ap assigned x.tree_is) (append-nil (blocks_of u.items))) ∙ ok_inverse _ s e;
        fine = items_last u.items item fine.0 (x.grouped, x.in_levels, x.in_operators);
        same = λ rest.
            ap (λ ts. items_before u (worded word.Assign (token.Name target ∷ marked mark.Assigned (ts ++ token.Punctuation mark.Semicolon ∷ rest)))) (sym x.text_is)
            ∙ ap (λ ts. items_before u (worded word.Assign (token.Name target ∷ marked mark.Assigned ts))) (sym (written_split x.source (marked mark.Semicolon rest)))
            ∙ item_written u item rest;
      }

  value_step : (u : Text) (target : ℕ) (tokens : List Token) (i : inner.State) (t : Token) (s : State) → IsFine (InValue u target tokens i) → machine.valued_step limits (drafted u) target i t ≡ Ok s → Steps (text_of (InValue u target tokens i)) t s
  value_step u target tokens i (token.Punctuation mark.Semicolon) s fine e = value_ends u target tokens i (inner.finish i) s fine refl e
  value_step u target tokens i t s fine e = value_goes u target tokens i t s fine (inner.step limits i t) refl e

  -- a statement
  record Over (stack : List statements.Around) (part : statements.Part) (a : Action) : Type 0 where
    body : Statement
    parted : IsParted body
    in_levels : height body ≤ limits.levels
    short : IsShort limits.operators body
    text_is : (rest : List Token) → statements.text_of stack part rest ≡ statement_text body rest
    action_is : action_of body ≡ a

  over_base : (stack : List statements.Around) (part : statements.Part) (base : List statements.Around) (b : Statement) (a : Action) → statement.bare_action (statements.frames base) (action_of b) ≡ Some a → statement.levels (statements.frames base) + height b ≤ limits.levels → IsParted b → IsShort limits.operators b → ((rest : List Token) → statements.text_of stack part rest ≡ statements.before base (statement_text b rest)) → Over stack part a
  over_base stack part [] b a e high parted short same = record { body = b; parted = parted; in_levels = omega arith; short = short; text_is = same; action_is = cc }
  over_base stack part (x ∷ base) b a e high parted short same = cc

  over_is : (stack : List statements.Around) (part : statements.Part) (a : Action) → statements.IsFine limits stack part → statement.finish (statements.state_of stack part) ≡ Some a → Over stack part a
  over_is stack statements.Waits a fine e = cc
  over_is stack (statements.Ended b) a fine e =
      let x = statements.folds limits 1 stack b (omega (arith, fine.2)) fine.0 fine.1 in
      over_base stack (statements.Ended b) x.stack' x.s' a (ap (λ f. statement.bare_action f.stack f.latest) (sym x.is) ∙ e) x.fits.in_levels x.fits.parted x.fits.short x.same
  over_is stack statements.Asks a fine e = cc
  over_is stack (statements.InCondition tokens i) a fine e = cc
  over_is stack (statements.Names name) a fine e = cc
  over_is stack (statements.InValue name tokens i) a fine e = cc

  block_over : (u : Text) (stack : List statements.Around) (part : statements.Part) (w : Word) (o : Option Action) (s : State) → IsFine (InBlock u stack part) → statement.finish (statements.state_of stack part) ≡ o → machine.or_over (drafted u) o w ≡ Ok s → Steps (text_of (InBlock u stack part)) (token.Keyword w) s
  block_over u stack part w None s fine h e = absurd (never _ s e)
  block_over u stack part w (Some a) s fine h e =
      let x = over_is stack part a fine.1 h in
      let item : Item = Clocked x.body in
      let v : Text = with_item u item in
      let blocks : Action → List Action = λ z. blocks_of u.items ++ z ∷ [] in
      let draft = item_read u item ∙ draft_is u.name _ _ _ _ _ _ (append-nil (signals_of u)) (append-nil (assigns_of u.items)) (ap blocks x.action_is) in
      let next = item_word_step v w s (items_last u.items item fine.0 (x.parted, x.in_levels, x.short)) (ap (λ d. machine.item_word d w) draft ∙ e) in
      record {
        part' = next.part';
        state = next.state;
        fine = next.fine;
        same = λ rest. ap (λ ts. items_before u (event_begun ts)) (x.text_is (token.Keyword w ∷ rest)) ∙ item_written u item (token.Keyword w ∷ rest) ∙ next.same rest;
      }

  block_goes : (u : Text) (stack : List statements.Around) (part : statements.Part) (t : Token) (s : State) → IsFine (InBlock u stack part) → (r : Result statement.State Why) → statement.step limits (statements.state_of stack part) t ≡ r → machine.statement_lifted (drafted u) r ≡ Ok s → Steps (text_of (InBlock u stack part)) t s
  block_goes u stack part t s fine (Ok i) is e =
      let x = statements.step_sound limits stack part t i fine.1 is in
      record {
        part' = InBlock u x.stack' x.part';
        state = ap (λ z. at (drafted u) (machine.Running z)) x.state ∙ ok_inverse _ s e;
        fine = (fine.0, x.fine);
        same = λ rest. ap (λ ts. items_before u (event_begun ts)) (x.same rest);
      }
  block_goes u stack part t s fine (Err w) is e = absurd (never _ s e)

  block_step : (u : Text) (stack : List statements.Around) (part : statements.Part) (t : Token) (s : State) → IsFine (InBlock u stack part) → machine.running_step limits (drafted u) (statements.state_of stack part) t ≡ Ok s → Steps (text_of (InBlock u stack part)) t s
  block_step u stack part (token.Keyword word.Wire) s fine e = block_over u stack part word.Wire (statement.finish (statements.state_of stack part)) s fine refl e
  block_step u stack part (token.Keyword word.Reg) s fine e = block_over u stack part word.Reg (statement.finish (statements.state_of stack part)) s fine refl e
  block_step u stack part (token.Keyword word.Assign) s fine e = block_over u stack part word.Assign (statement.finish (statements.state_of stack part)) s fine refl e
  block_step u stack part (token.Keyword word.Always) s fine e = block_over u stack part word.Always (statement.finish (statements.state_of stack part)) s fine refl e
  block_step u stack part (token.Keyword word.EndModule) s fine e = block_over u stack part word.EndModule (statement.finish (statements.state_of stack part)) s fine refl e
  block_step u stack part t s fine e = block_goes u stack part t s fine (statement.step limits (statements.state_of stack part) t) refl e

  -- ---- all steps

  bare_items : (u : Text) (rest : List Token) → IsBare u → items_text clock u.items rest ≡ rest
  bare_items u rest bare = ap (λ xs. items_text clock xs rest) bare

  pub step_sound : (part : Part) (t : Token) (s : State) → IsFine part → step limits clock (state_of part) t ≡ Ok s → Steps (text_of part) t s
  step_sound AtStart (token.Keyword word.Module) s fine e = record { part' = AtName; state = ok_inverse _ s e; fine = tt; same = λ rest. refl }
  step_sound AtStart t s fine e = absurd (never _ s e)
  step_sound AtName (token.Name n) s fine e = record { part' = AtOpen n; state = ok_inverse _ s e; fine = tt; same = λ rest. refl }
  step_sound AtName t s fine e = absurd (never _ s e)
  step_sound (AtOpen n) (token.Punctuation mark.Open) s fine e = record { part' = AtFirst n; state = ok_inverse _ s e; fine = tt; same = λ rest. refl }
  step_sound (AtOpen n) t s fine e = absurd (never _ s e)
  step_sound (AtFirst n) (token.Keyword word.Input) s fine e = record { part' = PortBegun (First n) Inward; state = ok_inverse _ s e; fine = tt; same = λ rest. refl }
  step_sound (AtFirst n) (token.Keyword word.Output) s fine e = record { part' = PortBegun (First n) Outward; state = ok_inverse _ s e; fine = tt; same = λ rest. refl }
  step_sound (AtFirst n) t s fine e = absurd (never _ s e)
  step_sound (PortBegun place d) t s fine e = begun_step place d t s fine e
  step_sound (PortHead place d wire h) t s fine e = port_step place d wire h t s fine (head_step (place_draft place) (direction_kind d) h t s e)
  step_sound (PortRead u) t s fine e = port_read_step u t s fine (port_listed u (latest u.port u.ports).direction (last_shape u) t s e)
  step_sound (AtPort u) t s fine e = next_port_step u t s fine e
  step_sound (PortsEnded u) (token.Punctuation mark.Semicolon) s fine e = record { part' = AtItem u; state = ok_inverse _ s e; fine = subst (AreItems limits) (sym fine) tt; same = λ rest. ap (λ ts. ports_before u (marked mark.Close (marked mark.Semicolon ts))) (sym (bare_items u rest fine)) }
  step_sound (PortsEnded u) t s fine e = absurd (never _ s e)
  step_sound (AtItem u) (token.Keyword w) s fine e = item_word_step u w s fine e
  step_sound (AtItem u) t s fine e = absurd (never _ s e)
  step_sound (StoreHead u store h) t s fine e = store_step u store h t s fine (head_step (drafted u) (store_kind store) h t s e)
  step_sound (StoreRead u store shape first others) t s fine e = store_read_step u store shape first others t s fine e
  step_sound (AtMore u store shape first others) t s fine e = more_step u store shape first others t s fine e
  step_sound (AtTarget u) (token.Name n) s fine e = record { part' = AtAssigned u n; state = ok_inverse _ s e; fine = fine; same = λ rest. refl }
  step_sound (AtTarget u) t s fine e = absurd (never _ s e)
  step_sound (AtAssigned u n) (token.Punctuation mark.Assigned) s fine e = record { part' = InValue u n [] inner.start; state = ok_inverse _ s e; fine = (fine, statements.inside_start limits); same = λ rest. refl }
  step_sound (AtAssigned u n) t s fine e = absurd (never _ s e)
  step_sound (InValue u target tokens i) t s fine e = value_step u target tokens i t s fine e
  step_sound (AtEvent u) (token.Punctuation mark.At) s fine e = record { part' = InEvent u; state = ok_inverse _ s e; fine = fine; same = λ rest. refl }
  step_sound (AtEvent u) t s fine e = absurd (never _ s e)
  step_sound (InEvent u) (token.Punctuation mark.Open) s fine e = record { part' = OnEdge u; state = ok_inverse _ s e; fine = fine; same = λ rest. refl }
  step_sound (InEvent u) t s fine e = absurd (never _ s e)
  step_sound (OnEdge u) (token.Keyword word.Posedge) s fine e = record { part' = AtClock u; state = ok_inverse _ s e; fine = fine; same = λ rest. refl }
  step_sound (OnEdge u) t s fine e = absurd (never _ s e)
  step_sound (AtClock u) (token.Name n) s fine e =
      let p = ok_if _ _ s _ e in
      record { part' = AtEventEnd u; state = p.1; fine = fine; same = λ rest. ap (λ z. items_before u (worded word.Always (marked mark.At (marked mark.Open (worded word.Posedge (token.Name z ∷ rest)))))) (eqb-true n clock p.0) }
  step_sound (AtClock u) t s fine e = absurd (never _ s e)
  step_sound (AtEventEnd u) (token.Punctuation mark.Close) s fine e = record { part' = InBlock u [] statements.Waits; state = ok_inverse _ s e; fine = (fine, (omega arith, tt)); same = λ rest. refl }
  step_sound (AtEventEnd u) t s fine e = absurd (never _ s e)
  step_sound (InBlock u stack part) t s fine e = block_step u stack part t s fine e
  step_sound (Finished u) t s fine e = absurd (never _ s e)

  pub then_ok : (r : Result State Why) (next : State → Result State Why) (s : State) → machine.and_then r next ≡ Ok s → (x : State) × (r ≡ Ok x) × (next x ≡ Ok s)
  then_ok (Ok x) next s e = (x, refl, e)
  then_ok (Err w) next s e = absurd (never _ s e)

  -- the tokens are a text of the grammar, of which the machine has read this
  pub record IsText (tokens : List Token) (d : Draft) : Type 0 where
    pub text : Text
    pub in_limits : AreItems limits text.items
    pub text_is : tokens_of clock text ≡ tokens
    pub draft_is : drafted text ≡ d

  abbrev is_done : Phase → Bool
  is_done machine.Done = true
  is_done _ = false

  not_done : (p : Phase) → p ≡ machine.Done → is_done p ≡ false → ⊥
  not_done p e h = let f = ap is_done e in cc

  ended : (part : Part) (d : Draft) → IsFine part → state_of part ≡ at d machine.Done → IsText (text_of part []) d
  ended (Finished u) d fine e = record { text = u; in_limits = fine; text_is = refl; draft_is = ap (λ s. s.draft) e }
  ended AtStart d fine e = absurd (not_done _ (ap (λ (z : State). z.phase) e) refl)
  ended AtName d fine e = absurd (not_done _ (ap (λ (z : State). z.phase) e) refl)
  ended (AtOpen name) d fine e = absurd (not_done _ (ap (λ (z : State). z.phase) e) refl)
  ended (AtFirst name) d fine e = absurd (not_done _ (ap (λ (z : State). z.phase) e) refl)
  ended (PortBegun place dir) d fine e = absurd (not_done _ (ap (λ (z : State). z.phase) e) refl)
  ended (PortHead place dir wire h) d fine e = absurd (not_done _ (ap (λ (z : State). z.phase) e) refl)
  ended (PortRead t) d fine e = absurd (not_done _ (ap (λ (z : State). z.phase) e) refl)
  ended (AtPort t) d fine e = absurd (not_done _ (ap (λ (z : State). z.phase) e) refl)
  ended (PortsEnded t) d fine e = absurd (not_done _ (ap (λ (z : State). z.phase) e) refl)
  ended (AtItem t) d fine e = absurd (not_done _ (ap (λ (z : State). z.phase) e) refl)
  ended (StoreHead t store h) d fine e = absurd (not_done _ (ap (λ (z : State). z.phase) e) refl)
  ended (StoreRead t store shape first others) d fine e = absurd (not_done _ (ap (λ (z : State). z.phase) e) refl)
  ended (AtMore t store shape first others) d fine e = absurd (not_done _ (ap (λ (z : State). z.phase) e) refl)
  ended (AtTarget t) d fine e = absurd (not_done _ (ap (λ (z : State). z.phase) e) refl)
  ended (AtAssigned t target) d fine e = absurd (not_done _ (ap (λ (z : State). z.phase) e) refl)
  ended (InValue t target tokens s) d fine e = absurd (not_done _ (ap (λ (z : State). z.phase) e) refl)
  ended (AtEvent t) d fine e = absurd (not_done _ (ap (λ (z : State). z.phase) e) refl)
  ended (InEvent t) d fine e = absurd (not_done _ (ap (λ (z : State). z.phase) e) refl)
  ended (OnEdge t) d fine e = absurd (not_done _ (ap (λ (z : State). z.phase) e) refl)
  ended (AtClock t) d fine e = absurd (not_done _ (ap (λ (z : State). z.phase) e) refl)
  ended (AtEventEnd t) d fine e = absurd (not_done _ (ap (λ (z : State). z.phase) e) refl)
  ended (InBlock t stack part) d fine e = absurd (not_done _ (ap (λ (z : State). z.phase) e) refl)

  run_sound : (ts : List Token) (part : Part) (d : Draft) → IsFine part → run limits clock (state_of part) ts ≡ Ok (at d machine.Done) → IsText (text_of part ts) d
  run_sound [] part d fine e = ended part d fine (ok_inverse _ _ e)
  run_sound (t ∷ ts) part d fine e =
      let p = then_ok (step limits clock (state_of part) t) (λ next. run limits clock next ts) (at d machine.Done) e in
      let x = step_sound part t p.0 fine p.1 in
      let y = run_sound ts x.part' d x.fine (ap (λ s. run limits clock s ts) x.state ∙ p.2) in
      subst (λ tokens. IsText tokens d) (sym (x.same ts)) y

  -- what the machine reads is a text of the grammar, with its module
  pub reads_only : (tokens : List Token) (d : Draft) → run limits clock start tokens ≡ Ok (at d machine.Done) → IsText tokens d
  reads_only tokens d e = run_sound tokens AtStart d tt e
