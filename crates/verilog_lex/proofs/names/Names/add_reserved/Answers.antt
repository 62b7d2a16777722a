use Rattle.std.proofs.Common.{List, ℕ}
use Rattle.std.specs.Str.{bytes_eq}
use Rattle.std.specs.HashMap.{get_by}
use Rattle.std.proofs.lemmas.Map.Text.{hash_map_updates_str}
use Rattle.verilog_lex.specs.declared.names.Known.TheVariants.{Reserved}
use Rattle.verilog_lex.proofs.Naming.{knows_reserved}
use Rattle.verilog_lex.proofs.names.Names.add_reserved.Goals as goal

pub returns-clause-knows : goal.returns-clause-knows
returns-clause-knows c =
    knows_reserved (λ (q : List ℕ). get_by (λ k. bytes_eq q k.now) c.args.self.now.known) (λ (q : List ℕ). get_by (λ k. bytes_eq q k.now) c.insert.new.self) c.args.text.now (Reserved c.args.symbol)
    (hash_map_updates_str c.args.text.now c.args.self.now.known c.insert.new.self _ c.in_ok-insert.ensures.updates)
    c.args.self.now.names.items c.requires.knows c.requires.is
