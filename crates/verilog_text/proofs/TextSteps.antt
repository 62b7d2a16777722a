-- A text drives the machine to its end, with the module that it stands for.
use Rattle.std.proofs.Common.{◌≡◌, ℕ, ◌+◌, ◌≤◌, Bool, true, false, List, [], ◌∷◌, ◌++◌, Some, None, Ok, refl, sym, ap, ◌∙◌, subst, arith, append_assoc}
use Rattle.std.specs.Prelude.{map, Option}
use Rattle.std.proofs.lemmas.List.{append-nil}
use Rattle.std.proofs.lemmas.Bool.{eq-eqb, cond-true}
use Rattle.verilog_tree.specs.declared.tree.Kind.{Kind}
use Rattle.verilog_tree.specs.declared.tree.Kind.TheVariants as kind
use Rattle.verilog_tree.specs.declared.tree.Signal.{Signal}
use Rattle.verilog_tree.specs.Tree.{Action, Assignment}
use Rattle.verilog_text.specs.declared.token.Mark.TheVariants as mark
use Rattle.verilog_text.specs.declared.token.Word.TheVariants as word
use Rattle.verilog_text.specs.declared.token.Token.{Token}
use Rattle.verilog_text.specs.declared.token.Token.TheVariants as token
use Rattle.verilog_text.specs.Grammar.{Source, marked, written, tree_of, IsGrouped, depth, operators, Limits}
use Rattle.verilog_text.specs.Machine as inner
use Rattle.verilog_text.specs.StatementMachine as statement
use Rattle.verilog_text.specs.Statements.{worded, statement_text, action_of}
use Rattle.verilog_text.specs.Text.{Text, Shape, Direction, Inward, Outward, FreshPort, Port, Fresh, Same, Store, InWire, InReg, Item, Declared, Assigned, Clocked, if_word, shape_text, direction_word, fresh_text, ports_text, names_text, store_word, item_text, items_text, tokens_of, IsItem, AreItems, direction_kind, store_kind, signal_of, fresh_signal, port_signals, item_signals, items_signals, item_assigns, assigns_of, item_blocks, blocks_of}
use Rattle.verilog_text.specs.TextMachine.{drafted, Wirable, Signable, Opening, FirstPort, Heading, Listed, NextPort, Nameable, Naming, PortsClosed, AtItem, Targeting, Assigning, Valued, AtEvent, InEvent, OnEdge, AtClock, EventClosed, Running, Done, Draft, State, at, declaring, or_over, or_assigned, value_lifted, statement_lifted, step, empty, start, and_then, run}
use Rattle.verilog_text.proofs.Passing.{Passing, one, chained, lift, resume}
use Rattle.verilog_text.proofs.Steps as steps
use Rattle.verilog_text.proofs.Steps.{looseness_most}
use Rattle.verilog_text.proofs.StatementSteps as statements
use Rattle.verilog_text.proofs.StatementSteps.{no_semicolon, openness_most}

module _ (limits : Limits) (clock : ℕ) where
  abbrev Goes : State → (List Token → List Token) → State → Type 0
  Goes s f s' = Passing (step limits clock) s f s'

  -- a sign, a range and a name, where `signed` may come next
  reads_shape : (draft : Draft) (k : Kind) (shape : Shape) (name : ℕ) → Goes (at draft (Heading k Signable)) (λ ts. shape_text shape (token.Name name ∷ ts)) (at (declaring draft k shape name) (Listed k shape))
  reads_shape draft k shape name = go shape.signed shape.range
    where
      go : (signed : Bool) (range : Option _) → Goes (at draft (Heading k Signable)) (λ ts. shape_text (record { signed = signed; range = range }) (token.Name name ∷ ts)) (at (declaring draft k (record { signed = signed; range = range }) name) (Listed k (record { signed = signed; range = range })))
      go true None = chained (one (token.Keyword word.Signed) refl) (one (token.Name name) refl)
      go false None = one (token.Name name) refl
      go true (Some high) = chained (one (token.Keyword word.Signed) refl) (chained (one (token.Punctuation mark.OpenBracket) refl) (chained (one (token.Number high) refl) (chained (one (token.Punctuation mark.Colon) refl) (chained (one (token.Number _) refl) (chained (one (token.Punctuation mark.CloseBracket) refl) (one (token.Name name) refl))))))
      go false (Some high) = chained (one (token.Punctuation mark.OpenBracket) refl) (chained (one (token.Number high) refl) (chained (one (token.Punctuation mark.Colon) refl) (chained (one (token.Number _) refl) (chained (one (token.Punctuation mark.CloseBracket) refl) (one (token.Name name) refl)))))

  -- what may come next behind a direction may come next where `wire` may
  wirable : (draft : Draft) (k : Kind) (t : Token) (next : State) → step limits clock (at draft (Heading k Signable)) t ≡ Ok next → step limits clock (at draft (Heading k Wirable)) t ≡ Ok next
  wirable draft k (token.Keyword word.Wire) next e = cc
  wirable draft k t next e = e

  reads_wired : (draft : Draft) (k : Kind) (wire : Bool) (shape : Shape) (name : ℕ) → Goes (at draft (Heading k Wirable)) (λ ts. if_word wire word.Wire (shape_text shape (token.Name name ∷ ts))) (at (declaring draft k shape name) (Listed k shape))
  reads_wired draft k true shape name = chained (one (token.Keyword word.Wire) refl) (reads_shape draft k shape name)
  reads_wired draft k false shape name = resume (step limits clock) (at draft (Heading k Wirable)) (at draft (Heading k Signable)) _ _ (wirable draft k) (reads_shape draft k shape name)

  abbrev fresh_done : Draft → FreshPort → State
  fresh_done draft p = at (declaring draft (direction_kind p.direction) p.shape p.name) (Listed (direction_kind p.direction) p.shape)

  reads_first : (draft : Draft) (p : FreshPort) → Goes (at draft FirstPort) (fresh_text p) (fresh_done draft p)
  reads_first draft p = go p.direction
    where
      go : (d : Direction) → Goes (at draft FirstPort) (λ ts. worded (direction_word d) (if_word p.wire word.Wire (shape_text p.shape (token.Name p.name ∷ ts)))) (at (declaring draft (direction_kind d) p.shape p.name) (Listed (direction_kind d) p.shape))
      go Inward = chained (one (token.Keyword word.Input) refl) (reads_wired draft kind.Input p.wire p.shape p.name)
      go Outward = chained (one (token.Keyword word.Output) refl) (reads_wired draft kind.Output p.wire p.shape p.name)

  next_first : (draft : Draft) (k : Kind) (shape : Shape) (t : Token) (next : State) → step limits clock (at draft FirstPort) t ≡ Ok next → step limits clock (at draft (NextPort k shape)) t ≡ Ok next
  next_first draft k shape (token.Name name) next e = cc
  next_first draft k shape t next e = e

  -- the draft with these declarations behind its own
  abbrev with_signals : Draft → List Signal → Draft
  with_signals draft ss = record draft { signals = draft.signals ++ ss }

  abbrev last_port : FreshPort → List Port → FreshPort
  last_port p [] = p
  last_port p (Fresh q ∷ ps) = last_port q ps
  last_port p (Same name ∷ ps) = last_port p ps

  comma : (draft : Draft) (d : Direction) (shape : Shape) → step limits clock (at draft (Listed (direction_kind d) shape)) (token.Punctuation mark.Comma) ≡ Ok (at draft (NextPort (direction_kind d) shape))
  comma draft Inward shape = refl
  comma draft Outward shape = refl

  close : (draft : Draft) (d : Direction) (shape : Shape) → step limits clock (at draft (Listed (direction_kind d) shape)) (token.Punctuation mark.Close) ≡ Ok (at draft PortsClosed)
  close draft Inward shape = refl
  close draft Outward shape = refl

  more_signals : (draft : Draft) (s : Signal) (ss : List Signal) → with_signals (record draft { signals = draft.signals ++ s ∷ [] }) ss ≡ with_signals draft (s ∷ ss)
  more_signals draft s ss = ap (λ xs. record draft { signals = xs }) (append_assoc draft.signals (s ∷ []) ss)

  -- further ports, and the `)`
  reads_ports : (draft : Draft) (p : FreshPort) (ps : List Port) → Goes (at draft (Listed (direction_kind p.direction) p.shape)) (λ ts. ports_text ps (marked mark.Close ts)) (at (with_signals draft (port_signals p ps)) PortsClosed)
  reads_ports draft p [] = one (token.Punctuation mark.Close) (close draft p.direction p.shape ∙ ap (λ xs. Ok (at (record draft { signals = xs }) PortsClosed)) (sym (append-nil draft.signals)))
  reads_ports draft p (Fresh q ∷ ps) =
      let k : Kind = direction_kind p.direction in
      subst (λ d. Goes (at draft (Listed k p.shape)) (λ ts. ports_text (Fresh q ∷ ps) (marked mark.Close ts)) (at d PortsClosed)) (more_signals draft (fresh_signal q) (port_signals q ps))
      (chained (one (token.Punctuation mark.Comma) (comma draft p.direction p.shape))
      (chained (resume (step limits clock) (at draft (NextPort k p.shape)) (at draft FirstPort) (fresh_done draft q) (fresh_text q) (next_first draft k p.shape) (reads_first draft q)) (reads_ports (declaring draft (direction_kind q.direction) q.shape q.name) q ps)))
  reads_ports draft p (Same name ∷ ps) =
      let k : Kind = direction_kind p.direction in
      subst (λ d. Goes (at draft (Listed k p.shape)) (λ ts. ports_text (Same name ∷ ps) (marked mark.Close ts)) (at d PortsClosed)) (more_signals draft (signal_of k p.shape name) (port_signals p ps))
      (chained (one (token.Punctuation mark.Comma) (comma draft p.direction p.shape))
      (chained (one {s = at draft (NextPort k p.shape)} {s' = at (declaring draft k p.shape name) (Listed k p.shape)} (token.Name name) refl) (reads_ports (declaring draft k p.shape name) p ps)))

  -- further names of a declaration, and the semicolon
  store_comma : (draft : Draft) (store : Store) (shape : Shape) → step limits clock (at draft (Listed (store_kind store) shape)) (token.Punctuation mark.Comma) ≡ Ok (at draft (Heading (store_kind store) (Nameable shape)))
  store_comma draft InWire shape = refl
  store_comma draft InReg shape = refl

  store_end : (draft : Draft) (store : Store) (shape : Shape) → step limits clock (at draft (Listed (store_kind store) shape)) (token.Punctuation mark.Semicolon) ≡ Ok (at draft AtItem)
  store_end draft InWire shape = refl
  store_end draft InReg shape = refl

  reads_names : (draft : Draft) (store : Store) (shape : Shape) (names : List ℕ) → Goes (at draft (Listed (store_kind store) shape)) (λ ts. names_text names (marked mark.Semicolon ts)) (at (with_signals draft (map (signal_of (store_kind store) shape) names)) AtItem)
  reads_names draft store shape [] = one (token.Punctuation mark.Semicolon) (store_end draft store shape ∙ ap (λ xs. Ok (at (record draft { signals = xs }) AtItem)) (sym (append-nil draft.signals)))
  reads_names draft store shape (n ∷ names) =
      let k : Kind = store_kind store in
      subst (λ d. Goes (at draft (Listed k shape)) (λ ts. names_text (n ∷ names) (marked mark.Semicolon ts)) (at d AtItem)) (more_signals draft (signal_of k shape n) (map (signal_of k shape) names))
      (chained (one (token.Punctuation mark.Comma) (store_comma draft store shape))
      (chained (one {s = at draft (Heading k (Nameable shape))} {s' = at (declaring draft k shape n) (Listed k shape)} (token.Name n) refl) (reads_names (declaring draft k shape n) store shape names)))

  -- expressions and statements inside
  in_value : (draft : Draft) (target : ℕ) (s s' : inner.State) (t : Token) → inner.step limits s t ≡ Ok s' → step limits clock (at draft (Valued target s)) t ≡ Ok (at draft (Valued target s'))
  in_value draft target s s' (token.Punctuation mark.Semicolon) e = absurd (no_semicolon limits s.stack s.used s.phase s' e)
  in_value draft target s s' t e = ap (value_lifted draft target) e

  in_block : (draft : Draft) (s s' : statement.State) (t : Token) → statement.step limits s t ≡ Ok s' → step limits clock (at draft (Running s)) t ≡ Ok (at draft (Running s'))
  in_block draft s s' (token.Keyword word.Wire) e = absurd (statements.no_item limits s s' word.Wire refl e)
  in_block draft s s' (token.Keyword word.Reg) e = absurd (statements.no_item limits s s' word.Reg refl e)
  in_block draft s s' (token.Keyword word.Assign) e = absurd (statements.no_item limits s s' word.Assign refl e)
  in_block draft s s' (token.Keyword word.Always) e = absurd (statements.no_item limits s s' word.Always refl e)
  in_block draft s s' (token.Keyword word.EndModule) e = absurd (statements.no_item limits s s' word.EndModule refl e)
  in_block draft s s' t e = ap (statement_lifted draft) e

  -- the draft with these behind its own
  abbrev extended : Draft → List Signal → List Assignment → List Action → Draft
  extended draft ss xs bs = record draft { signals = draft.signals ++ ss; assigns = draft.assigns ++ xs; blocks = draft.blocks ++ bs }

  -- a state that goes on as one in which an item can begin
  abbrev Begins : Draft → State → Type 0
  Begins draft s = (t : Token) (next : State) → step limits clock (at draft AtItem) t ≡ Ok next → step limits clock s t ≡ Ok next

  -- an item, and a state in which an item can begin
  record ItemRead (draft : Draft) (x : Item) : Type 0 where
    after : State
    goes : Goes (at draft AtItem) (item_text clock x) after
    begins : Begins (extended draft (item_signals x) (item_assigns x) (item_blocks x)) after

  draft_is : (name : ℕ) (ss ss' : List Signal) (xs xs' : List Assignment) (bs bs' : List Action) → ss ≡ ss' → xs ≡ xs' → bs ≡ bs' → ◌≡◌ {A = Draft} (record { name = name; signals = ss; assigns = xs; blocks = bs }) (record { name = name; signals = ss'; assigns = xs'; blocks = bs' })
  draft_is name ss ss' xs xs' bs bs' e f g =
      let make : List Signal → List Assignment → List Action → Draft = λ s a b. record { name = name; signals = s; assigns = a; blocks = b } in
      let first : make ss xs bs ≡ make ss' xs bs = ap (λ s. make s xs bs) e in
      let second : make ss' xs bs ≡ make ss' xs' bs = ap (λ a. make ss' a bs) f in
      let third : make ss' xs' bs ≡ make ss' xs' bs' = ap (λ b. make ss' xs' b) g in
      first ∙ second ∙ third

  same_begins : (d d' : Draft) → d' ≡ d → Begins d' (at d AtItem)
  same_begins d d' e t next h = subst (λ x. step limits clock (at x AtItem) t ≡ Ok next) e h

  -- the value of an assignment
  reads_value : (draft : Draft) (target : ℕ) (c : Source) → IsGrouped c → depth c ≤ limits.levels → operators c ≤ limits.operators → Goes (at draft (Valued target inner.start)) (λ ts. written c (marked mark.Semicolon ts)) (at (record draft { assigns = draft.assigns ++ record { target = target; value = tree_of c } ∷ [] }) AtItem)
  reads_value draft target c grouped high short =
      let low = looseness_most c in
      let x = steps.reads limits [] 0 c (record { grouped = grouped; in_room = omega arith; in_levels = omega arith; in_operators = omega arith; free = steps.free_elsewhere limits [] 0 c refl }) in
      let end : inner.State = inner.at x.stack' (inner.After x.bare x.loose x.operand) (0 + operators c) in
      let finished : inner.finish end ≡ Some (tree_of c) = ap (λ f. inner.bare_tree f.stack f.operand) (x.folds 8 low) in
      chained (lift (inner.step limits) (step limits clock) (λ s. at draft (Valued target s)) (in_value draft target) inner.start end (written c) x.passes)
      (one (token.Punctuation mark.Semicolon) (ap (or_assigned draft target) finished))

  -- an item begins behind a statement that could end
  over_begins : (draft : Draft) (s : statement.State) (a : Action) → statement.finish s ≡ Some a → Begins (record draft { blocks = draft.blocks ++ a ∷ [] }) (at draft (Running s))
  over_begins draft s a e (token.Keyword word.Wire) next h = ap (λ o. or_over draft o word.Wire) e ∙ h
  over_begins draft s a e (token.Keyword word.Reg) next h = ap (λ o. or_over draft o word.Reg) e ∙ h
  over_begins draft s a e (token.Keyword word.Assign) next h = ap (λ o. or_over draft o word.Assign) e ∙ h
  over_begins draft s a e (token.Keyword word.Always) next h = ap (λ o. or_over draft o word.Always) e ∙ h
  over_begins draft s a e (token.Keyword word.EndModule) next h = ap (λ o. or_over draft o word.EndModule) e ∙ h
  over_begins draft s a e t next h = cc

  reads_store : (draft : Draft) (store : Store) (shape : Shape) (name : ℕ) → Goes (at draft AtItem) (λ ts. worded (store_word store) (shape_text shape (token.Name name ∷ ts))) (at (declaring draft (store_kind store) shape name) (Listed (store_kind store) shape))
  reads_store draft InWire shape name = chained (one (token.Keyword word.Wire) refl) (reads_shape draft kind.Wire shape name)
  reads_store draft InReg shape name = chained (one (token.Keyword word.Reg) refl) (reads_shape draft kind.Reg shape name)

  reads_item : (draft : Draft) (x : Item) → IsItem limits x → ItemRead draft x
  reads_item draft (Declared store shape first others) h =
      let k : Kind = store_kind store in
      let d : Draft = with_signals (declaring draft k shape first) (map (signal_of k shape) others) in
      record {
        after = at d AtItem;
        goes = chained (reads_store draft store shape first) (reads_names (declaring draft k shape first) store shape others);
        begins = same_begins d _ (draft_is draft.name _ _ _ _ _ _ (sym (append_assoc draft.signals (signal_of k shape first ∷ []) (map (signal_of k shape) others))) (append-nil draft.assigns) (append-nil draft.blocks));
      }
  reads_item draft (Assigned target value) h =
      let d : Draft = record draft { assigns = draft.assigns ++ record { target = target; value = tree_of value } ∷ [] } in
      record {
        after = at d AtItem;
        goes = chained (one {s = at draft AtItem} {s' = at draft Targeting} (token.Keyword word.Assign) refl) (chained (one {s = at draft Targeting} {s' = at draft (Assigning target)} (token.Name target) refl) (chained (one {s = at draft (Assigning target)} {s' = at draft (Valued target inner.start)} (token.Punctuation mark.Assigned) refl) (reads_value draft target value h.0 h.1 h.2)));
        begins = same_begins d _ (draft_is draft.name _ _ _ _ _ _ (append-nil draft.signals) refl (append-nil draft.blocks));
      }
  reads_item draft (Clocked body) h =
      let x = statements.reads limits [] body (record { parted = h.0; in_levels = omega (arith, h.1); short = h.2 }) in
      let end : statement.State = statement.at x.stack' (statement.After x.latest) in
      let finished : statement.finish end ≡ Some (action_of body) = ap (λ f. statement.bare_action f.stack f.latest) (x.folds 1 (openness_most body)) in
      record {
        after = at draft (Running end);
        goes =
            chained (one {s = at draft AtItem} {s' = at draft AtEvent} (token.Keyword word.Always) refl) (chained (one {s = at draft AtEvent} {s' = at draft InEvent} (token.Punctuation mark.At) refl) (chained (one {s = at draft InEvent} {s' = at draft OnEdge} (token.Punctuation mark.Open) refl)
            (chained (one {s = at draft OnEdge} {s' = at draft AtClock} (token.Keyword word.Posedge) refl) (chained (one {s = at draft AtClock} {s' = at draft EventClosed} (token.Name clock) (cond-true _ _ _ (eq-eqb clock clock refl))) (chained (one {s = at draft EventClosed} {s' = at draft (Running statement.start)} (token.Punctuation mark.Close) refl)
            (lift (statement.step limits) (step limits clock) (λ s. at draft (Running s)) (in_block draft) statement.start end (statement_text body) x.passes))))));
        begins = λ t next e. over_begins draft end (action_of body) finished t next (same_begins (record draft { blocks = draft.blocks ++ action_of body ∷ [] }) _ (draft_is draft.name _ _ _ _ _ _ (append-nil draft.signals) (append-nil draft.assigns) refl) t next e);
      }

  extended_twice : (draft : Draft) (ss ss' : List Signal) (xs xs' : List Assignment) (bs bs' : List Action) → extended (extended draft ss xs bs) ss' xs' bs' ≡ extended draft (ss ++ ss') (xs ++ xs') (bs ++ bs')
  extended_twice draft ss ss' xs xs' bs bs' = draft_is draft.name _ _ _ _ _ _ (append_assoc draft.signals ss ss') (append_assoc draft.assigns xs xs') (append_assoc draft.blocks bs bs')

  -- the items, and the `endmodule`
  reads_items : (xs : List Item) (draft : Draft) (s : State) → AreItems limits xs → Begins draft s → Goes s (λ ts. items_text clock xs (worded word.EndModule ts)) (at (extended draft (items_signals xs) (assigns_of xs) (blocks_of xs)) Done)
  reads_items [] draft s h b =
      one (token.Keyword word.EndModule) (b (token.Keyword word.EndModule) (at draft Done) refl ∙ ap (λ d. Ok (at d Done)) (draft_is draft.name _ _ _ _ _ _ (sym (append-nil draft.signals)) (sym (append-nil draft.assigns)) (sym (append-nil draft.blocks))))
  reads_items (x ∷ xs) draft s h b =
      let item = reads_item draft x h.0 in
      let rest = reads_items xs (extended draft (item_signals x) (item_assigns x) (item_blocks x)) item.after h.1 item.begins in
      subst (λ d. Goes s (λ ts. items_text clock (x ∷ xs) (worded word.EndModule ts)) (at d Done)) (extended_twice draft (item_signals x) (items_signals xs) (item_assigns x) (assigns_of xs) (item_blocks x) (blocks_of xs))
      (chained (resume (step limits clock) s (at draft AtItem) item.after (item_text clock x) b item.goes) rest)

  abbrev text_tokens : Text → List Token → List Token
  text_tokens t ts = worded word.Module (token.Name t.name ∷ marked mark.Open (fresh_text t.port (ports_text t.ports (marked mark.Close (marked mark.Semicolon (items_text clock t.items (worded word.EndModule ts)))))))

  reads_text : (t : Text) → AreItems limits t.items → Goes start (text_tokens t) (at (drafted t) Done)
  reads_text t h =
      let named : Draft = record empty { name = t.name } in
      let first : Draft = (fresh_done named t.port).draft in
      let ported : Draft = with_signals first (port_signals t.port t.ports) in
      let items = reads_items t.items ported (at ported AtItem) h (λ token next e. e) in
      chained (one {s = start} {s' = at empty Naming} (token.Keyword word.Module) refl) (chained (one {s = at empty Naming} {s' = at named Opening} (token.Name t.name) refl) (chained (one {s = at named Opening} {s' = at named FirstPort} (token.Punctuation mark.Open) refl)
      (chained (reads_first named t.port) (chained (reads_ports first t.port t.ports) (chained (one {s = at ported PortsClosed} {s' = at ported AtItem} (token.Punctuation mark.Semicolon) refl) items)))))

  run_over : (s s' : State) (f : List Token → List Token) (ts : List Token) → Goes s f s' → run limits clock s (f ts) ≡ run limits clock s' ts
  run_over s s' f ts (one t e) = ap (λ r. and_then r (λ next. run limits clock next ts)) e
  run_over s s' f ts (chained {s' = middle} {f = first} {g = second} a b) = run_over s middle first (second ts) a ∙ run_over middle s' second ts b

  -- the machine accepts each text within the limits, with its module
  pub accepts : (t : Text) → AreItems limits t.items → run limits clock start (tokens_of clock t) ≡ Ok (at (drafted t) Done)
  accepts t h = run_over start (at (drafted t) Done) (text_tokens t) [] (reads_text t h)

  -- tokens are the text of one module alone
  pub one_draft : (t u : Text) → AreItems limits t.items → AreItems limits u.items → tokens_of clock t ≡ tokens_of clock u → drafted t ≡ drafted u
  one_draft t u h k e =
      let a = accepts t h in
      let b = ap (run limits clock start) e ∙ accepts u k in
      let same : ◌≡◌ {A = State} (at (drafted t) Done) (at (drafted u) Done) = cc in
      ap (λ s. s.draft) same
