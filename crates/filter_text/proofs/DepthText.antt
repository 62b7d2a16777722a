-- Places change no depth.
use Rattle.std.proofs.Common.{◌≡◌, ℕ, Bool, true, false, cond, List, [], ◌∷◌, map, Option, Some, slice_get, refl, sym, ◌∙◌, ap, subst}
use Rattle.std.specs.Prelude.{find, nat_eq}
use Rattle.std.specs.Option.{option_map, unwrap_or}
use Rattle.verilog_tree.specs.declared.tree.Kind.{Kind}
use Rattle.verilog_tree.specs.declared.tree.Signal.{Signal}
use Rattle.verilog_tree.specs.Counted.{in_group, depth_of, HasDepth, IsGivenWithin}
use Rattle.verilog_tree.specs.Names.{is_in_group, kind_of}
use Rattle.verilog_tree.specs.Tree.{Action, Assignment, Design}
use Rattle.verilog_text.specs.Order.{unplaced, IsSameButPlaces}

abbrev kind_in : List Signal → ℕ → Option Kind
kind_in signals n = option_map (λ (s : Signal). s.kind) (find (λ (s : Signal). nat_eq s.name n) signals)

unplaced_kind : (signals : List Signal) (n : ℕ) → kind_in (map unplaced signals) n ≡ kind_in signals n
unplaced_kind [] n = refl
unplaced_kind (s ∷ signals) n = by (nat_eq s.name n) (unplaced_kind signals n)
  where
    by : (b : Bool) → kind_in (map unplaced signals) n ≡ kind_in signals n
        → option_map (λ (t : Signal). t.kind) (cond b (Some (unplaced s)) (find (λ (t : Signal). nat_eq t.name n) (map unplaced signals)))
        ≡ option_map (λ (t : Signal). t.kind) (cond b (Some s) (find (λ (t : Signal). nat_eq t.name n) signals))
    by true rest = refl
    by false rest = rest

same_kind : (d e : Design) → IsSameButPlaces d e → (n : ℕ) → kind_of d n ≡ kind_of e n
same_kind d e same n = sym (unplaced_kind d.signals n) ∙ ap (λ (signals : List Signal). kind_in signals n) same.same_signals ∙ unplaced_kind e.signals n

pub same_depth : (d e : Design) → IsSameButPlaces d e → (group most : ℕ) → HasDepth e group most → HasDepth d group most
same_depth d e same group most h =
    let groups : in_group e group ≡ in_group d group = ap (λ (names : List (List ℕ)). let counts : ℕ → Bool = λ n. is_in_group group (unwrap_or (slice_get names n) []) in counts) (sym same.same_names) in
    let assign = λ (k : ℕ) (a : Assignment) (at : slice_get d.assigns k ≡ Some a). subst (λ (xs : List Assignment). slice_get xs k ≡ Some a) same.same_assigns at in
    record {
      depth = h.depth;
      registers = λ n is. h.registers n (sym (same_kind d e same n) ∙ is);
      wires = λ k a at. subst (λ (counts : ℕ → Bool). h.depth a.target ≡ depth_of counts h.depth a.value) groups (h.wires k a (assign k a at));
      assigned = λ k a at c. h.assigned k a (assign k a at) (ap (λ (counts : ℕ → Bool). counts a.target) groups ∙ c);
      given = λ k s at. subst (λ (counts : ℕ → Bool). IsGivenWithin counts h.depth most s) groups (h.given k s (subst (λ (bs : List Action). slice_get bs k ≡ Some s) same.same_blocks at));
    }
