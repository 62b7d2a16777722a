-- The parts of a module's text one after the other.
use Rattle.std.proofs.Common.{◌≡◌, ℕ, ◌<◌, List, [], ◌∷◌, ◌++◌, length, refl, sym, ap, ◌∙◌, arith, append_assoc}
use Rattle.std.specs.Prelude.{map}
use Rattle.verilog_tree.specs.declared.tree.Signal.{Signal}
use Rattle.verilog_tree.specs.Tree.{Assignment, Design}
use Rattle.verilog_text.specs.declared.token.Mark.TheVariants as mark
use Rattle.verilog_text.specs.declared.token.Word.TheVariants as word
use Rattle.verilog_text.specs.declared.token.Token.{Token}
use Rattle.verilog_text.specs.declared.token.Token.TheVariants as token
use Rattle.verilog_text.specs.Grammar.{marked}
use Rattle.verilog_text.specs.Statements.{worded}
use Rattle.verilog_text.specs.Text.{fresh_text, ports_text, item_text, items_text, tokens_of}
use Rattle.verilog_text.specs.Shortest.{fresh_of, port_of, declared_of, assigned_of, clocked_of, ports_in, stores_in, first_port, other_ports, items_of, text_of}
use Rattle.verilog_text.proofs.Writings.{fresh_split, items_split, items_text-append}
use Rattle.verilog_write.specs.Parts.{port_list}

ports_listed : (ss : List Signal) (rest : List Token) → ports_text (map port_of ss) rest ≡ port_list mark.Comma ss ++ rest
ports_listed [] rest = refl
ports_listed (s ∷ ss) rest =
    ap (λ ts. marked mark.Comma (fresh_text (fresh_of s) ts)) (ports_listed ss rest)
    ∙ ap (marked mark.Comma) (fresh_split (fresh_of s) (port_list mark.Comma ss ++ rest) ∙ sym (append_assoc (fresh_text (fresh_of s) []) (port_list mark.Comma ss) rest))

first_listed : (ss : List Signal) (rest : List Token) → 0 < length ss → marked mark.Open (fresh_text (first_port ss) (ports_text (other_ports ss) rest)) ≡ port_list mark.Open ss ++ rest
first_listed [] rest some = absurd (omega arith)
first_listed (s ∷ ss) rest some =
    ap (λ ts. marked mark.Open (fresh_text (fresh_of s) ts)) (ports_listed ss rest)
    ∙ ap (marked mark.Open) (fresh_split (fresh_of s) (port_list mark.Comma ss ++ rest) ∙ sym (append_assoc (fresh_text (fresh_of s) []) (port_list mark.Comma ss) rest))

declared_free : (clock : ℕ) (ss : List Signal) → items_text clock (map declared_of ss) [] ≡ items_text 0 (map declared_of ss) []
declared_free clock [] = refl
declared_free clock (s ∷ ss) = ap (item_text 0 (declared_of s)) (declared_free clock ss)

assigned_free : (clock : ℕ) (xs : List Assignment) → items_text clock (map assigned_of xs) [] ≡ items_text 0 (map assigned_of xs) []
assigned_free clock [] = refl
assigned_free clock (x ∷ xs) = ap (item_text 0 (assigned_of x)) (assigned_free clock xs)

module _ (d : Design) (clock : ℕ) where
  abbrev declarations : List Token
  declarations = items_text 0 (map declared_of (stores_in d.signals)) []

  abbrev assigns : List Token
  assigns = items_text 0 (map assigned_of d.assigns) []

  abbrev blocks : List Token
  blocks = items_text clock (map clocked_of d.blocks) []

  abbrev end : List Token
  end = token.Keyword word.EndModule ∷ []

  items_listed : items_text clock (items_of d) end ≡ declarations ++ (assigns ++ (blocks ++ end))
  items_listed =
      items_text-append clock (map declared_of (stores_in d.signals)) (map assigned_of d.assigns ++ map clocked_of d.blocks) end
      ∙ ap (items_text clock (map declared_of (stores_in d.signals))) (items_text-append clock (map assigned_of d.assigns) (map clocked_of d.blocks) end)
      ∙ items_split clock (map declared_of (stores_in d.signals)) _
      ∙ ap (λ ts. ts ++ items_text clock (map assigned_of d.assigns) (items_text clock (map clocked_of d.blocks) end)) (declared_free clock (stores_in d.signals))
      ∙ ap (λ ts. declarations ++ ts) (items_split clock (map assigned_of d.assigns) _ ∙ ap (λ ts. ts ++ items_text clock (map clocked_of d.blocks) end) (assigned_free clock d.assigns) ∙ ap (λ ts. assigns ++ ts) (items_split clock (map clocked_of d.blocks) end))

  pub whole : (none head ports close stored assigned blocked all : List Token) → none ≡ [] → head ≡ none ++ token.Keyword word.Module ∷ token.Name d.name ∷ [] → ports ≡ head ++ port_list mark.Open (ports_in d.signals) → close ≡ ports ++ token.Punctuation mark.Close ∷ token.Punctuation mark.Semicolon ∷ []
      → stored ≡ close ++ declarations → assigned ≡ stored ++ assigns → blocked ≡ assigned ++ blocks → all ≡ blocked ++ end → 0 < length (ports_in d.signals) → all ≡ tokens_of clock (text_of d)
  whole none head ports close stored assigned blocked all e0 e1 e2 e3 e4 e5 e6 e7 some =
      let closing : List Token = token.Punctuation mark.Close ∷ token.Punctuation mark.Semicolon ∷ [] in
      let start : List Token = token.Keyword word.Module ∷ token.Name d.name ∷ [] in
      let list : List Token = port_list mark.Open (ports_in d.signals) in
      let f1 : head ≡ start = e1 ∙ ap (λ ts. ts ++ start) e0 in
      let f2 : ports ≡ start ++ list = e2 ∙ ap (λ ts. ts ++ list) f1 in
      let f7 : all ≡ close ++ (declarations ++ (assigns ++ (blocks ++ end))) =
      e7 ∙ ap (λ ts. ts ++ end) e6 ∙ append_assoc assigned blocks end ∙ ap (λ ts. ts ++ (blocks ++ end)) e5 ∙ append_assoc stored assigns (blocks ++ end) ∙ ap (λ ts. ts ++ (assigns ++ (blocks ++ end))) e4 ∙ append_assoc close declarations (assigns ++ (blocks ++ end)) in
      f7
      ∙ ap (λ ts. ts ++ (declarations ++ (assigns ++ (blocks ++ end)))) (e3 ∙ ap (λ ts. ts ++ closing) f2)
      ∙ ap (λ ts. ((start ++ list) ++ closing) ++ ts) (sym items_listed)
      ∙ append_assoc (start ++ list) closing (items_text clock (items_of d) end)
      ∙ append_assoc start list (closing ++ items_text clock (items_of d) end)
      ∙ ap (λ ts. worded word.Module (token.Name d.name ∷ ts)) (sym (first_listed (ports_in d.signals) (marked mark.Close (marked mark.Semicolon (items_text clock (items_of d) end))) some))
