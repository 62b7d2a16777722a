-- As many registers are given a value, whatever the order in which the signals are taken.
use Rattle.std.proofs.Common.{◌≡◌, ◌∙◌, ℕ, zero, suc, ◌+◌, Bool, true, false, cond, List, [], ◌∷◌, map, length, slice_get, refl, sym, ap, arith}
use Rattle.std.specs.Prelude.{if◌then◌else◌, nat_le, is_some}
use Rattle.std.specs.Option.{option_map_or}
use Rattle.verilog_tree.specs.declared.tree.Signal.{Signal}
use Rattle.verilog_tree.specs.Meaning.{Values}
use Rattle.verilog_tree.specs.Circuit.{given_by}
use Rattle.verilog_tree.specs.Cycle.{circuit_of}
use Rattle.verilog_tree.specs.Checks.{with_declaration, in_text_order}
use Rattle.verilog_tree.specs.Tree.{Design}
use Rattle.event_order.specs.Drawn.{how_many, declared_names, update_count}
use Rattle.order_sim.specs.Drawing.{signal_names}

abbrev num : Bool → ℕ
num b = if b then 1 else 0

-- how many names of a list pass a test
abbrev count_in : (ℕ → Bool) → List ℕ → ℕ
count_in f [] = 0
count_in f (n ∷ ns) = num (f n) + count_in f ns

front : (t : ℕ → Bool) (m : ℕ) → how_many t (suc m) ≡ num (t 0) + how_many (λ k. t (suc k)) m
front t zero = omega arith
front t (suc m) = let rest = front t m in omega (arith, rest)

counted : (f : ℕ → Bool) (names : List ℕ) → how_many (λ k. option_map_or f (slice_get names k) false) (length names) ≡ count_in f names
counted f [] = refl
counted f (n ∷ ns) = front (λ k. option_map_or f (slice_get (n ∷ ns) k) false) (length ns) ∙ ap (λ (x : ℕ). num (f n) + x) (counted f ns)

abbrev names_of : List Signal → List ℕ
names_of ss = map (λ (s : Signal). s.name) ss

one_more : (f : ℕ → Bool) (s : Signal) (ts : List Signal) → count_in f (names_of (with_declaration s ts)) ≡ num (f s.name) + count_in f (names_of ts)
one_more f s [] = refl
one_more f s (t ∷ ts) = by (nat_le s.place t.place) (one_more f s ts)
  where
    by : (b : Bool) → count_in f (names_of (with_declaration s ts)) ≡ num (f s.name) + count_in f (names_of ts)
        → count_in f (names_of (cond b (s ∷ t ∷ ts) (t ∷ with_declaration s ts))) ≡ num (f s.name) + count_in f (names_of (t ∷ ts))
    by true rest = refl
    by false rest = omega (arith, rest)

in_order : (f : ℕ → Bool) (ss : List Signal) → count_in f (names_of (in_text_order ss)) ≡ count_in f (names_of ss)
in_order f [] = refl
in_order f (s ∷ ss) = one_more f s (in_text_order ss) ∙ ap (λ (x : ℕ). num (f s.name) + x) (in_order f ss)

pub same_count : (d : Design) (v : Values) → update_count (circuit_of d) (signal_names d) v ≡ update_count (circuit_of d) (declared_names d) v
same_count d v =
    let given : ℕ → Bool = λ n. is_some (given_by (circuit_of d).processes v n) in
    counted given (signal_names d) ∙ sym (in_order given d.signals) ∙ sym (counted given (declared_names d))
