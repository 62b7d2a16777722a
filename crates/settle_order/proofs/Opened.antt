-- Flags of open names, and expressions that read open names.
use Rattle.std.proofs.Common.{◌≡◌, ℕ, zero, suc, ◌+◌, ◌<◌, Bool, true, false, ◌||◌, List, [], ◌∷◌, Some, length, set, refl, sym, ap, ◌∙◌, arith}
use Rattle.std.specs.Prelude.{◌==◌, if◌then◌else◌}
use Rattle.std.proofs.lemmas.Bool.{eqb-true, eqb-false}
use Rattle.std.proofs.lemmas.List.{get_or-set_same, get_or-set_other}
use Rattle.std.proofs.Math.Path.{fun_ext}
use Rattle.verilog_tree.specs.Tree.{Tree, Trees, Name, Bit, Part, Plain, Based, Cat, Not, Binary, Shift, Choice, none, more}
use Rattle.verilog_tree.specs.Cycle.{reads, any_reads}
use Rattle.settle_order.specs.Placing.{reads_open, any_reads_open, opened_of, count_open}

pub same_some : {A : Type 0} (x y : A) → Some x ≡ Some y → x ≡ y
same_some x y same = cc

-- the flags with one name closed
abbrev pub closed : (ℕ → Bool) → ℕ → ℕ → Bool
closed opened name = λ n. if n == name then false else opened n

-- ---- flags

pub flags_set : (flags : List Bool) (name : ℕ) (b : Bool) (n : ℕ) → name < length flags → opened_of (set flags name b) n ≡ (if n == name then b else opened_of flags n)
flags_set flags name b n lt = by (n == name) refl
  where
    by : (t : Bool) → (n == name) ≡ t → opened_of (set flags name b) n ≡ (if t then b else opened_of flags n)
    by true e = ap (opened_of (set flags name b)) (eqb-true n name e) ∙ get_or-set_same flags name b false lt
    by false e = get_or-set_other flags name n b false (eqb-false n name e)

pub flags_closed : (flags : List Bool) (name : ℕ) → name < length flags → opened_of (set flags name false) ≡ closed (opened_of flags) name
flags_closed flags name lt = fun_ext (λ n. flags_set flags name false n lt)

pub open_within : (flags : List Bool) (n : ℕ) → opened_of flags n ≡ true → n < length flags
open_within [] n is = absurd (grind arith)
open_within (b ∷ flags) zero is = omega arith
open_within (b ∷ flags) (suc n) is = omega (arith, open_within flags n is)

pub fewer_open : (flags : List Bool) (n : ℕ) → opened_of flags n ≡ true → count_open (set flags n false) + 1 ≡ count_open flags
fewer_open [] n is = absurd (grind arith)
fewer_open (true ∷ flags) zero is = omega arith
fewer_open (false ∷ flags) zero is = absurd (grind arith)
fewer_open (b ∷ flags) (suc n) is = omega (arith, fewer_open flags n is)

-- ---- expressions

-- ---- expressions

module _ (opened : ℕ → Bool) where
  -- the flag tells whether one of the names is open
  pub record Tells (b : Bool) (names : ℕ → Bool) : Type 0 where
    pub none : b ≡ false → (n : ℕ) → names n ≡ true → opened n ≡ false
    pub some : b ≡ true → (n : ℕ) × (names n ≡ true) × (opened n ≡ true)

  tells_name : (m : ℕ) → Tells (opened m) (λ n. n == m)
  tells_name m = record {
    none = λ is n e. ap opened (eqb-true n m e) ∙ is;
    some = λ is. (m, same m, is);
  }
    where
      same : (k : ℕ) → (k == k) ≡ true
      same k = grind arith

  tells_nothing : Tells false (λ n. false)
  tells_nothing = record { none = λ is n e. absurd (grind arith); some = λ is. absurd (grind arith) }

  tells_or : (a b : Bool) (r s : ℕ → Bool) → Tells a r → Tells b s → Tells (a || b) (λ n. r n || s n)
  tells_or a b r s f g = record {
    none = λ is n e. none a b f.none g.none is n (r n) refl e;
    some = λ is. some a f.some g.some is;
  }
    where
      none : (a b : Bool) → (a ≡ false → (n : ℕ) → r n ≡ true → opened n ≡ false) → (b ≡ false → (n : ℕ) → s n ≡ true → opened n ≡ false)
          → (a || b) ≡ false → (n : ℕ) (t : Bool) → r n ≡ t → (r n || s n) ≡ true → opened n ≡ false
      none true b f g is n t e either = absurd (grind arith)
      none false b f g is n true e either = f refl n e
      none false b f g is n false e either = g is n (sym (ap (λ (u : Bool). u || s n) e) ∙ either)

      some : (a : Bool) → (a ≡ true → (n : ℕ) × (r n ≡ true) × (opened n ≡ true)) → (b ≡ true → (n : ℕ) × (s n ≡ true) × (opened n ≡ true)) → (a || b) ≡ true
          → (n : ℕ) × ((r n || s n) ≡ true) × (opened n ≡ true)
      some true f g is = let found = f refl in (found.0, ap (λ (u : Bool). u || s found.0) found.1, found.2)
      some false f g is = let found = g is in (found.0, right (r found.0) (s found.0) found.1, found.2)
        where
          right : (u v : Bool) → v ≡ true → (u || v) ≡ true
          right true v e = refl
          right false v e = e

  mutual
    pub reads_open_tells : (e : Tree) → Tells (reads_open opened e) (reads e)
    reads_open_tells (Name m) = tells_name m
    reads_open_tells (Bit m place) = tells_name m
    reads_open_tells (Part m high low) = tells_name m
    reads_open_tells (Plain x) = tells_nothing
    reads_open_tells (Based width signed bits) = tells_nothing
    reads_open_tells (Cat members) = members_tell members
    reads_open_tells (Not a) = reads_open_tells a
    reads_open_tells (Binary op a b) = tells_or (reads_open opened a) (reads_open opened b) (reads a) (reads b) (reads_open_tells a) (reads_open_tells b)
    reads_open_tells (Shift op a amount) = reads_open_tells a
    reads_open_tells (Choice c a b) =
        tells_or (reads_open opened c) (reads_open opened a || reads_open opened b) (reads c) (λ n. reads a n || reads b n) (reads_open_tells c)
        (tells_or (reads_open opened a) (reads_open opened b) (reads a) (reads b) (reads_open_tells a) (reads_open_tells b))

    pub members_tell : (es : Trees) → Tells (any_reads_open opened es) (any_reads es)
    members_tell none = tells_nothing
    members_tell (more first rest) = tells_or (reads_open opened first) (any_reads_open opened rest) (reads first) (any_reads rest) (reads_open_tells first) (members_tell rest)
