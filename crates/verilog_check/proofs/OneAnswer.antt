-- A module passes or has one first fault.
use Rattle.std.proofs.Common.{◌≡◌, ℕ, ◌<◌, Bool, true, false, slice_get, refl, sym, ap, ◌∙◌, arith, subst}
use Rattle.std.specs.Prelude.{nat_lt}
use Rattle.std.proofs.lemmas.Bool.Decides.{nat_tests}
use Rattle.verilog_tree.specs.declared.tree.Signal.{Signal}
use Rattle.verilog_tree.specs.declared.fault.ModuleFault.{ModuleFault}
use Rattle.verilog_tree.specs.declared.fault.ModuleFault.TheVariants.{Redeclared, Undeclared, PortShape, WrongKind, WidthOver, BadSelect, ManyDrivers, NoDriver, CombLoop, Memory}
use Rattle.verilog_tree.specs.Tree.{Design}
use Rattle.verilog_tree.specs.Names.{text_of}
use Rattle.verilog_tree.specs.Checks.{declarations, DependsOnItself, IsFirstLoop, IsLoopFault, Face, PassesAs, FailsAs, Early, Loop}

module _ (d : Design) where
  record IsLoop (fault : ModuleFault) : Type 0 where
    name : ℕ
    first : IsFirstLoop d name
    is : fault ≡ CombLoop (text_of d name)

  loop_of : (fault : ModuleFault) → IsLoopFault d fault → IsLoop fault
  loop_of (CombLoop name) (n, first, is) = record { name = n; first = first; is = ap CombLoop is }
  loop_of (Redeclared name) none = absurd none
  loop_of (Undeclared name) none = absurd none
  loop_of (PortShape name) none = absurd none
  loop_of (WrongKind name) none = absurd none
  loop_of (WidthOver name) none = absurd none
  loop_of (BadSelect name) none = absurd none
  loop_of (ManyDrivers name) none = absurd none
  loop_of (NoDriver name) none = absurd none
  loop_of Memory none = absurd none

  pub excluded : {face : Face} (fault : ModuleFault) → PassesAs face d → FailsAs face d fault → ⊥
  excluded fault passes (Early is) = let early = passes.early in cc
  excluded fault passes (Loop none is) = let found = loop_of fault is in passes.free found.name (found.first).loops

  not_before : (m n : ℕ) (f : IsFirstLoop d m) (g : IsFirstLoop d n) → f.place < g.place → ⊥
  not_before m n f g lt = g.first f.place f.signal lt f.there (subst (DependsOnItself d) (sym f.name) f.loops)

  one_loop : (m n : ℕ) → IsFirstLoop d m → IsFirstLoop d n → m ≡ n
  one_loop m n f g = by (nat_lt f.place g.place) (nat_lt g.place f.place) refl refl
    where
      by : (a b : Bool) → nat_lt f.place g.place ≡ a → nat_lt g.place f.place ≡ b → m ≡ n
      by true b e h = absurd (not_before m n f g (grind (arith, nat_tests)))
      by false true e h = absurd (not_before n m g f (grind (arith, nat_tests)))
      by false false e h =
          let places : f.place ≡ g.place = grind (arith, nat_tests) in
          let there = f.there in
          let also = g.there in
          let moved = ap (slice_get (declarations d)) places in
          let same : f.signal ≡ g.signal = cc in
          sym f.name ∙ ap (λ (s : Signal). s.name) same ∙ g.name

  pub one_fault : {face : Face} (fault other : ModuleFault) → FailsAs face d fault → FailsAs face d other → fault ≡ other
  one_fault fault other (Early is) (Early also) = cc
  one_fault fault other (Early is) (Loop none also) = absurd (cc)
  one_fault fault other (Loop none is) (Early also) = absurd (cc)
  one_fault fault other (Loop none is) (Loop same also) =
      let f = loop_of fault is in
      let g = loop_of other also in
      f.is ∙ ap (λ (n : ℕ). CombLoop (text_of d n)) (one_loop f.name g.name f.first g.first) ∙ sym g.is
