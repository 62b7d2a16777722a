use Rattle.std.proofs.Common.{◌≡◌, List, ℕ, [], ◌∷◌, ◌++◌, length, ap, sym, subst, ◌∙◌, rules}
use Rattle.std.specs.Str.{bytes_eq}
use Rattle.std.specs.HashMap.{get_by}
use Rattle.std.proofs.lemmas.Map.Text.{hash_map_updates_str}
use Rattle.verilog_lex.specs.declared.names.Known.TheVariants.{Name}
use Rattle.verilog_lex.specs.Known.{IsKnown}
use Rattle.verilog_lex.proofs.Naming.{knows_name, name_known}
use Rattle.verilog_lex.proofs.names.Names.add_name.Goals as goal

pub returns-clause-knows : goal.returns-clause-knows
returns-clause-knows c =
    let names : List (List ℕ) = c.args.self.now.names.items in
    let text : List ℕ = c.args.text.now in
    let grown : c.push.new.self.items ≡ names ++ text ∷ [] = c.in_ok-push.ensures.items ∙ ap (λ t. names ++ t ∷ []) c.in_ok-name.ensures in
    let number : c.len-number.result ≡ length names = search rules in
    subst (λ (ns : List (List ℕ)). (q : List ℕ) → IsKnown ns q (get_by (λ k. bytes_eq q k.now) c.insert.new.self)) (sym grown)
    (knows_name (λ (q : List ℕ). get_by (λ k. bytes_eq q k.now) c.args.self.now.known) (λ (q : List ℕ). get_by (λ k. bytes_eq q k.now) c.insert.new.self) text (Name c.len-number.result)
    (hash_map_updates_str text c.args.self.now.known c.insert.new.self _ c.in_ok-insert.ensures.updates)
    names c.requires.knows (name_known names text c.len-number.result c.requires.is c.requires.new number))
