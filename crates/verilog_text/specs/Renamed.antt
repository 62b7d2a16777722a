-- Texts with other numbers for their names.
use Rattle.std.specs.Prelude.{ℕ, map}
use Rattle.verilog_text.specs.declared.token.Token.{Token}
use Rattle.verilog_text.specs.declared.token.Token.TheVariants as token
use Rattle.verilog_text.specs.Grammar.{Source, Sources, Named, BitOf, PartOf, Number, Based, Bracketed, Joined, Inverted, Operated, Shifted, Chosen, no_member, member}
use Rattle.verilog_text.specs.Statements.{Statement, Statements, Block, Guarded, Forked, Given, none, more}
use Rattle.verilog_text.specs.Text.{Text, FreshPort, Port, Fresh, Same, Item, Declared, Assigned, Clocked}

abbrev pub token_in : (ℕ → ℕ) → Token → Token
token_in to (token.Name n) = token.Name (to n)
token_in to t = t

abbrev mutual
  pub source_in : (ℕ → ℕ) → Source → Source
  source_in to (Named name) = Named (to name)
  source_in to (BitOf name place) = BitOf (to name) place
  source_in to (PartOf name high low) = PartOf (to name) high low
  source_in to (Number number) = Number number
  source_in to (Based literal) = Based literal
  source_in to (Bracketed inner) = Bracketed (source_in to inner)
  source_in to (Joined members) = Joined (members_in to members)
  source_in to (Inverted operand) = Inverted (source_in to operand)
  source_in to (Operated op left right) = Operated op (source_in to left) (source_in to right)
  source_in to (Shifted op operand amount) = Shifted op (source_in to operand) amount
  source_in to (Chosen condition on_true on_false) = Chosen (source_in to condition) (source_in to on_true) (source_in to on_false)

  pub members_in : (ℕ → ℕ) → Sources → Sources
  members_in to no_member = no_member
  members_in to (member first rest) = member (source_in to first) (members_in to rest)

abbrev mutual
  pub statement_in : (ℕ → ℕ) → Statement → Statement
  statement_in to (Block members) = Block (statements_in to members)
  statement_in to (Guarded condition on_true) = Guarded (source_in to condition) (statement_in to on_true)
  statement_in to (Forked condition on_true on_false) = Forked (source_in to condition) (statement_in to on_true) (statement_in to on_false)
  statement_in to (Given register value) = Given (to register) (source_in to value)

  pub statements_in : (ℕ → ℕ) → Statements → Statements
  statements_in to none = none
  statements_in to (more first rest) = more (statement_in to first) (statements_in to rest)

abbrev pub fresh_in : (ℕ → ℕ) → FreshPort → FreshPort
fresh_in to p = record p { name = to p.name }

abbrev pub port_in : (ℕ → ℕ) → Port → Port
port_in to (Fresh p) = Fresh (fresh_in to p)
port_in to (Same name) = Same (to name)

abbrev pub item_in : (ℕ → ℕ) → Item → Item
item_in to (Declared store shape first others) = Declared store shape (to first) (map to others)
item_in to (Assigned target value) = Assigned (to target) (source_in to value)
item_in to (Clocked body) = Clocked (statement_in to body)

abbrev pub text_in : (ℕ → ℕ) → Text → Text
text_in to t = record {
  name = to t.name;
  port = fresh_in to t.port;
  ports = map (port_in to) t.ports;
  items = map (item_in to) t.items;
}
