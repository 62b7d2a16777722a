-- Where no name depends on itself, each has a level: the length of the longest walk through assignments that begins at it.
use Rattle.std.proofs.Common.{◌≡◌, ℕ, zero, suc, ◌+◌, ◌-◌, ◌<◌, ◌≤◌, Bool, true, false, ◌||◌, List, [], ◌∷◌, length, Some, slice_get, refl, sym, ◌∙◌, ap, arith, subst, ◌⊎◌, inl, inr, max, cond}
use Rattle.std.specs.Prelude.{◌==◌, nat_lt}
use Rattle.std.proofs.lemmas.Bool.{eqb-true, eq-eqb}
use Rattle.std.proofs.lemmas.Option.{slice_get_within}
use Rattle.std_collections.proofs.IndexTableLemmas.Probe.{pigeonhole}
use Rattle.verilog_tree.specs.Tree.{Tree, Trees, Name, Bit, Part, Plain, Based, Cat, Not, Binary, Shift, Choice, none, more, Assignment, Design}
use Rattle.verilog_tree.specs.Cycle.{reads, any_reads, AreLevels, IsLoopFree}
use Rattle.verilog_tree.specs.Checks.{DependsBy, DependsOnItself}

either : (a b : Bool) → (a || b) ≡ true → (a ≡ true) ⊎ (b ≡ true)
either true b e = inl refl
either false b e = inr e

left : (a b : Bool) → a ≡ true → (a || b) ≡ true
left true b e = refl
left false b e = absurd (cc)

right : (a b : Bool) → b ≡ true → (a || b) ≡ true
right true b e = refl
right false b e = e

-- ---- the greatest number of a name that an expression reads

abbrev mutual
  greatest_read : (ℕ → ℕ) → Tree → ℕ
  greatest_read f (Name n) = f n
  greatest_read f (Bit n place) = f n
  greatest_read f (Part n high low) = f n
  greatest_read f (Plain x) = 0
  greatest_read f (Based width signed bits) = 0
  greatest_read f (Cat members) = greatest_of f members
  greatest_read f (Not a) = greatest_read f a
  greatest_read f (Binary op a b) = max (greatest_read f a) (greatest_read f b)
  greatest_read f (Shift op a amount) = greatest_read f a
  greatest_read f (Choice c a b) = max (greatest_read f c) (max (greatest_read f a) (greatest_read f b))

  greatest_of : (ℕ → ℕ) → Trees → ℕ
  greatest_of f none = 0
  greatest_of f (more first rest) = max (greatest_read f first) (greatest_of f rest)

at_most : (f : ℕ → ℕ) (m n : ℕ) → (n == m) ≡ true → f n ≤ f m
at_most f m n is = let same = ap f (eqb-true n m is) in omega (arith, same)

mutual
  read_at_most : (f : ℕ → ℕ) (e : Tree) (n : ℕ) → reads e n ≡ true → f n ≤ greatest_read f e
  read_at_most f (Name m) n is = at_most f m n is
  read_at_most f (Bit m place) n is = at_most f m n is
  read_at_most f (Part m high low) n is = at_most f m n is
  read_at_most f (Plain x) n is = absurd (cc)
  read_at_most f (Based width signed bits) n is = absurd (cc)
  read_at_most f (Cat members) n is = any_at_most f members n is
  read_at_most f (Not a) n is = read_at_most f a n is
  read_at_most f (Binary op a b) n is = elim (either (reads a n) (reads b n) is) [
    | inl first ↦ let h = read_at_most f a n first in omega (arith, h)
    | inr second ↦ let h = read_at_most f b n second in omega (arith, h)
  ]
  read_at_most f (Shift op a amount) n is = read_at_most f a n is
  read_at_most f (Choice c a b) n is = elim (either (reads c n) (reads a n || reads b n) is) [
    | inl first ↦ let h = read_at_most f c n first in omega (arith, h)
    | inr later ↦ elim (either (reads a n) (reads b n) later) [
      | inl second ↦ let h = read_at_most f a n second in omega (arith, h)
      | inr third ↦ let h = read_at_most f b n third in omega (arith, h)
    ]
  ]

  any_at_most : (f : ℕ → ℕ) (es : Trees) (n : ℕ) → any_reads es n ≡ true → f n ≤ greatest_of f es
  any_at_most f none n is = absurd (cc)
  any_at_most f (more first rest) n is = elim (either (reads first n) (any_reads rest n) is) [
    | inl here ↦ let h = read_at_most f first n here in omega (arith, h)
    | inr later ↦ let h = any_at_most f rest n later in omega (arith, h)
  ]

-- the number is 0 or that of a name that is read
abbrev IsOfRead : (ℕ → ℕ) → (ℕ → Bool) → ℕ → Type 0
IsOfRead f read m = (m ≡ 0) ⊎ ((n : ℕ) × (read n ≡ true) × (f n ≡ m))

more_reads : (f : ℕ → ℕ) (read other : ℕ → Bool) (m : ℕ) → ((n : ℕ) → read n ≡ true → other n ≡ true) → IsOfRead f read m → IsOfRead f other m
more_reads f read other m widen (inl is) = inl is
more_reads f read other m widen (inr (n, reads_n, is)) = inr (n, widen n reads_n, is)

max_cases : (a b : ℕ) → (max a b ≡ a) ⊎ (max a b ≡ b)
max_cases a b = by (nat_lt a b) refl
  where
    by : (t : Bool) → nat_lt a b ≡ t → (max a b ≡ a) ⊎ (max a b ≡ b)
    by true e = inr (grind arith)
    by false e = inl (grind arith)

joined : (f : ℕ → ℕ) (read other : ℕ → Bool) (a b : ℕ) → IsOfRead f read a → IsOfRead f other b → IsOfRead f (λ n. read n || other n) (max a b)
joined f read other a b of_a of_b = elim (max_cases a b) [
  | inl is ↦ subst (IsOfRead f (λ n. read n || other n)) (sym is) (more_reads f read (λ n. read n || other n) a (λ n h. left (read n) (other n) h) of_a)
  | inr is ↦ subst (IsOfRead f (λ n. read n || other n)) (sym is) (more_reads f other (λ n. read n || other n) b (λ n h. right (read n) (other n) h) of_b)
]

mutual
  greatest_is : (f : ℕ → ℕ) (e : Tree) → IsOfRead f (reads e) (greatest_read f e)
  greatest_is f (Name n) = inr (n, eq-eqb n n refl, refl)
  greatest_is f (Bit n place) = inr (n, eq-eqb n n refl, refl)
  greatest_is f (Part n high low) = inr (n, eq-eqb n n refl, refl)
  greatest_is f (Plain x) = inl refl
  greatest_is f (Based width signed bits) = inl refl
  greatest_is f (Cat members) = greatest_of_is f members
  greatest_is f (Not a) = greatest_is f a
  greatest_is f (Binary op a b) = joined f (reads a) (reads b) _ _ (greatest_is f a) (greatest_is f b)
  greatest_is f (Shift op a amount) = greatest_is f a
  greatest_is f (Choice c a b) = joined f (reads c) (λ n. reads a n || reads b n) _ _ (greatest_is f c) (joined f (reads a) (reads b) _ _ (greatest_is f a) (greatest_is f b))

  greatest_of_is : (f : ℕ → ℕ) (es : Trees) → IsOfRead f (any_reads es) (greatest_of f es)
  greatest_of_is f none = inl refl
  greatest_of_is f (more first rest) = joined f (reads first) (any_reads rest) _ _ (greatest_is f first) (greatest_of_is f rest)

-- ---- the longest walk of at most so many steps

abbrev step_from : (ℕ → ℕ) → ℕ → Assignment → ℕ
step_from below n a = cond (a.target == n) (greatest_read (λ r. suc (below r)) a.value) 0

abbrev longest : (ℕ → ℕ) → ℕ → List Assignment → ℕ
longest below n [] = 0
longest below n (a ∷ others) = max (step_from below n a) (longest below n others)

abbrev level_to : List Assignment → ℕ → ℕ → ℕ
level_to assigns zero n = 0
level_to assigns (suc k) n = longest (level_to assigns k) n assigns

-- the assignment at this place drives m by an expression that reads n
record IsStep (assigns : List Assignment) (place m n : ℕ) : Type 0 where
  assign : Assignment
  there : slice_get assigns place ≡ Some assign
  target : assign.target ≡ m
  read : reads assign.value n ≡ true

step_later : (a : Assignment) (others : List Assignment) (place m n : ℕ) → IsStep others place m n → IsStep (a ∷ others) (suc place) m n
step_later a others place m n s = record { assign = s.assign; there = s.there; target = s.target; read = s.read }

-- a longest walk that is not empty has a first step
longest_is : (below : ℕ → ℕ) (n : ℕ) (assigns : List Assignment) → (longest below n assigns ≡ 0) ⊎ ((place r : ℕ) × IsStep assigns place n r × (suc (below r) ≡ longest below n assigns))
longest_is below n [] = inl refl
longest_is below n (a ∷ others) = elim (max_cases (step_from below n a) (longest below n others)) [
  | inl here ↦ first (a.target == n) refl here
  | inr later ↦ elim (longest_is below n others) [
    | inl is ↦ inl (later ∙ is)
    | inr w ↦ inr (suc w.0, w.1, step_later a others w.0 n w.1 w.2, w.3 ∙ sym later)
  ]
]
  where
    first : (t : Bool) → (a.target == n) ≡ t → longest below n (a ∷ others) ≡ step_from below n a
        → (longest below n (a ∷ others) ≡ 0) ⊎ ((place r : ℕ) × IsStep (a ∷ others) place n r × (suc (below r) ≡ longest below n (a ∷ others)))
    first true is here =
        let value = here ∙ ap (λ (b : Bool). cond b (greatest_read (λ r. suc (below r)) a.value) 0) is in
        elim (greatest_is (λ r. suc (below r)) a.value) [
          | inl none_read ↦ inl (value ∙ none_read)
          | inr w ↦ inr (0, w.0, record { assign = a; there = refl; target = eqb-true a.target n is; read = w.1 }, w.2 ∙ sym value)
        ]
    first false is here = inl (here ∙ ap (λ (b : Bool). cond b (greatest_read (λ r. suc (below r)) a.value) 0) is)

-- each step is counted
longest_most : (below : ℕ → ℕ) (n r : ℕ) (assigns : List Assignment) (place : ℕ) → IsStep assigns place n r → suc (below r) ≤ longest below n assigns
longest_most below n r [] place s = absurd (omega (arith, slice_get_within {A = Assignment} [] place s.assign s.there))
longest_most below n r (a ∷ others) zero s =
    let same : a ≡ s.assign = let h = s.there in cc in
    let value = read_at_most (λ q. suc (below q)) a.value r (ap (λ (b : Assignment). reads b.value r) same ∙ s.read) in
    let here = ap (λ (b : Bool). cond b (greatest_read (λ q. suc (below q)) a.value) 0) (eq-eqb a.target n (ap (λ (b : Assignment). b.target) same ∙ s.target)) in
    omega (arith, value, here)
longest_most below n r (a ∷ others) (suc place) s =
    let rest = longest_most below n r others place (record { assign = s.assign; there = s.there; target = s.target; read = s.read }) in
    omega (arith, rest)

-- ---- walks

-- so many steps, each from a node to the next through the assignment of an edge
record IsWalk (assigns : List Assignment) (steps : ℕ) (node edge : ℕ → ℕ) : Type 0 where
  step : (i : ℕ) → i < steps → IsStep assigns (edge i) (node i) (node (suc i))

abbrev before : ℕ → (ℕ → ℕ) → ℕ → ℕ
before n f zero = n
before n f (suc i) = f i

longer : (assigns : List Assignment) (steps n place : ℕ) (node edge : ℕ → ℕ) → IsStep assigns place n (node 0) → IsWalk assigns steps node edge → IsWalk assigns (suc steps) (before n node) (before place edge)
longer assigns steps n place node edge first walk = record { step = by }
  where
    by : (i : ℕ) → i < suc steps → IsStep assigns (before place edge i) (before n node i) (before n node (suc i))
    by zero less = first
    by (suc i) less = walk.step i (omega arith)

-- a walk from a name
record Walk (assigns : List Assignment) (steps n : ℕ) : Type 0 where
  node : ℕ → ℕ
  edge : ℕ → ℕ
  start : node 0 ≡ n
  walk : IsWalk assigns steps node edge

step_at : (assigns : List Assignment) (place m n r : ℕ) → n ≡ r → IsStep assigns place m n → IsStep assigns place m r
step_at assigns place m n r is s = subst (λ (q : ℕ). IsStep assigns place m q) is s

walk_longer : (assigns : List Assignment) (steps n r place : ℕ) → IsStep assigns place n r → Walk assigns steps r → Walk assigns (suc steps) n
walk_longer assigns steps n r place first w = record {
  node = before n w.node;
  edge = before place w.edge;
  start = refl;
  walk = longer assigns steps n place w.node w.edge (step_at assigns place n r (w.node 0) (sym w.start) first) w.walk;
}

empty_walk : (assigns : List Assignment) (n : ℕ) → Walk assigns 0 n
empty_walk assigns n = record { node = λ i. n; edge = λ i. 0; start = refl; walk = record { step = λ i less. absurd (omega (arith, less)) } }

-- a level is the length of a walk
level_walk : (assigns : List Assignment) (k n : ℕ) → Walk assigns (level_to assigns k n) n
level_walk assigns zero n = empty_walk assigns n
level_walk assigns (suc k) n = elim (longest_is (level_to assigns k) n assigns) [
  | inl is ↦ subst (λ (steps : ℕ). Walk assigns steps n) (sym is) (empty_walk assigns n)
  | inr w ↦ subst (λ (steps : ℕ). Walk assigns steps n) w.3 (walk_longer assigns (level_to assigns k w.1) n w.1 w.0 w.2 (level_walk assigns k w.1))
]

-- no walk is longer than the level
walk_level : (assigns : List Assignment) (k steps : ℕ) (node edge : ℕ → ℕ) → IsWalk assigns steps node edge → steps ≤ k → steps ≤ level_to assigns k (node 0)
walk_level assigns zero steps node edge walk less = omega (arith, less)
walk_level assigns (suc k) zero node edge walk less = omega arith
walk_level assigns (suc k) (suc steps) node edge walk less =
    let rest = walk_level assigns k steps (λ i. node (suc i)) (λ i. edge (suc i)) (record { step = λ i lt. walk.step (suc i) (omega (arith, lt)) }) (omega (arith, less)) in
    let first = longest_most (level_to assigns k) (node 0) (node 1) assigns (edge 0) (walk.step 0 (omega arith)) in
    omega (arith, rest, first)

module _ (d : Design) (free : (n : ℕ) → DependsOnItself d n → ⊥) where
  depends : (steps : ℕ) (node edge : ℕ → ℕ) → IsWalk d.assigns steps node edge → (k i : ℕ) → i + k ≤ steps → DependsBy d k (node i) (node (i + k))
  depends steps node edge walk zero i less = ap node (let e : i ≡ i + 0 = omega arith in e)
  depends steps node edge walk (suc k) i less =
      let s = walk.step i (omega (arith, less)) in
      let rest = depends steps node edge walk k (suc i) (omega (arith, less)) in
      let same : suc i + k ≡ i + suc k = omega arith in
      (edge i, s.assign, s.there, s.target, node (suc i), s.read, subst (λ (j : ℕ). DependsBy d k (node (suc i)) (node j)) same rest)

  same_edge : (steps : ℕ) (node edge : ℕ → ℕ) → IsWalk d.assigns steps node edge → (i k : ℕ) → i + suc k < steps → edge i ≡ edge (i + suc k) → ⊥
  same_edge steps node edge walk i k less same =
      let s = walk.step i (omega (arith, less)) in
      let t = walk.step (i + suc k) less in
      let one : s.assign ≡ t.assign = let a = s.there in let b = t.there in let c = ap (slice_get d.assigns) same in cc in
      let back : node (i + suc k) ≡ node i = sym t.target ∙ sym (ap (λ (a : Assignment). a.target) one) ∙ s.target in
      free (node i) (k, subst (λ (n : ℕ). DependsBy d (suc k) (node i) n) back (depends steps node edge walk (suc k) i (omega (arith, less))))

  short : (steps : ℕ) (node edge : ℕ → ℕ) → IsWalk d.assigns steps node edge → steps ≤ length d.assigns
  short steps node edge walk = pigeonhole steps (length d.assigns) edge (λ i less. let s = walk.step i less in slice_get_within d.assigns (edge i) s.assign s.there) one
    where
      later : (i j : ℕ) → i < j → j < steps → edge i ≡ edge j → ⊥
      later i j lt less same =
          let k = (j - i) - 1 in
          let is : j ≡ i + suc k = omega (arith, lt) in
          same_edge steps node edge walk i k (omega (arith, is, less)) (same ∙ ap edge is)

      one : (i j : ℕ) → i < steps → j < steps → edge i ≡ edge j → i ≡ j
      one i j less_i less_j same = by (nat_lt i j) (nat_lt j i) refl refl
        where
          by : (a b : Bool) → nat_lt i j ≡ a → nat_lt j i ≡ b → i ≡ j
          by true b e f = absurd (later i j (grind arith) less_j same)
          by false true e f = absurd (later j i (grind arith) less_i (sym same))
          by false false e f = grind arith

  pub loop_free : IsLoopFree d
  loop_free = (level_to d.assigns (length d.assigns), levels)
    where
      levels : AreLevels d (level_to d.assigns (length d.assigns))
      levels place a at r read =
          let count = length d.assigns in
          let below = level_walk d.assigns count r in
          let whole = walk_longer d.assigns (level_to d.assigns count r) a.target r place (record { assign = a; there = at; target = refl; read = read }) below in
          let few = short (suc (level_to d.assigns count r)) whole.node whole.edge whole.walk in
          let counted = walk_level d.assigns count (suc (level_to d.assigns count r)) whole.node whole.edge whole.walk few in
          omega (arith, counted, ap (level_to d.assigns count) whole.start)
