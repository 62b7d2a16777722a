-- A module of a clock alone has a writing.
use Rattle.std.proofs.Common.{◌≡◌, ℕ, false, List, [], ◌∷◌, refl, sym, subst, arith}
use Rattle.verilog_tree.specs.declared.tree.Kind.TheVariants.{Input}
use Rattle.verilog_tree.specs.declared.tree.Signal.{Signal}
use Rattle.verilog_tree.specs.Tree.{Action, Assignment, Design}
use Rattle.verilog_text.specs.Grammar.{limits}
use Rattle.verilog_text.specs.Lexer.{words}
use Rattle.verilog_text.specs.Layout.{IsName}
use Rattle.verilog_text.specs.Shortest.{IsWritable, AllFormed}

abbrev pub small_names : List (List ℕ)
small_names = (109 ∷ []) ∷ (99 ∷ 108 ∷ 107 ∷ []) ∷ []

abbrev pub clock_signal : Signal
clock_signal = record { name = 1; kind = Input; signed = false; ranged = false; width = 1; place = 0 }

abbrev design : List (List ℕ) → List Signal → List Assignment → List Action → Design
design names signals assigns blocks = record { name = 0; names = names; signals = signals; assigns = assigns; blocks = blocks }

names_good : AllFormed IsName small_names
unfolding words
names_good = ((refl, refl, refl), ((refl, refl, refl), tt))

small : IsWritable limits (design small_names (clock_signal ∷ []) [] [])
small = record {
  distinct = (refl, (refl, tt));
  names = names_good;
  name = omega arith;
  signals = ((omega arith, omega arith, omega arith, λ e. refl), tt);
  assigns = tt;
  blocks = tt;
  port = omega arith;
  clock = omega arith;
}

pub small_writable : (names : List (List ℕ)) (signals : List Signal) (assigns : List Assignment) (blocks : List Action) → names ≡ small_names → signals ≡ clock_signal ∷ [] → assigns ≡ [] → blocks ≡ [] → IsWritable limits (design names signals assigns blocks)
small_writable names signals assigns blocks e f g h =
    subst (λ n. IsWritable limits (design n signals assigns blocks)) (sym e)
    (subst (λ s. IsWritable limits (design small_names s assigns blocks)) (sym f)
    (subst (λ a. IsWritable limits (design small_names (clock_signal ∷ []) a blocks)) (sym g)
    (subst (λ b. IsWritable limits (design small_names (clock_signal ∷ []) [] b)) (sym h) small)))
