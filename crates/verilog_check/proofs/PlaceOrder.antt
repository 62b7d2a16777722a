-- A stable sort by places gives the text order.
use Rattle.std.proofs.Common.{◌≡◌, ℕ, suc, ◌<◌, ◌≤◌, Bool, true, false, not, ◌&&◌, cond, List, [], ◌∷◌, length, get_or, refl, sym, ap, ◌∙◌, arith, subst}
use Rattle.std.specs.Prelude.{◌==◌, nat_lt, nat_le}
use Rattle.std.specs.List.{filter}
use Rattle.std.specs.List.Sorted.{IsNonDecreasingBy, IsStableByKey, ties}
use Rattle.std.specs.Ordering.{nat_cmp, is_lt}
use Rattle.std.specs.declared.cmp.Ordering.TheVariants.{Less, Equal, Greater}
use Rattle.std.proofs.lemmas.Bool.{eq-eqb, eqb-true}
use Rattle.std.proofs.lemmas.Bool.Decides.{nat_tests}
use Rattle.std.proofs.Math.Path.{fun_ext}
use Rattle.verilog_tree.specs.declared.tree.Signal.{Signal}
use Rattle.verilog_tree.specs.Checks.{with_declaration, in_text_order}

-- each stands at this place or behind it
abbrev IsBehind : ℕ → List Signal → Type 0
IsBehind p [] = Unit {0}
IsBehind p (s ∷ ss) = (p ≤ s.place) × IsBehind p ss

abbrev IsAscending : List Signal → Type 0
IsAscending [] = Unit {0}
IsAscending (s ∷ ss) = IsBehind s.place ss × IsAscending ss

abbrev is_at : ℕ → Signal → Bool
is_at p s = s.place == p

-- ---- what a sort ensures

behind_each : (p : ℕ) (ss : List Signal) → ((k : ℕ) (d : Signal) → k < length ss → p ≤ (get_or ss k d).place) → IsBehind p ss
behind_each p [] h = tt
behind_each p (s ∷ ss) h = (h 0 s (omega arith), behind_each p ss (λ k d lt. h (suc k) d (omega (arith, lt))))

pub ascending : (ss : List Signal) → IsNonDecreasingBy (λ (s : Signal). s.place) ss → IsAscending ss
ascending [] h = tt
ascending (s ∷ ss) h = (
  behind_each s.place ss (λ k d lt. h 0 (suc k) d (omega arith) (omega (arith, lt))),
  ascending ss (λ i j d le lt. h (suc i) (suc j) d (omega (arith, le)) (omega (arith, lt))),
)

less_is : (a b : ℕ) → is_lt (nat_cmp a b) ≡ nat_lt a b
less_is a b = by (nat_lt a b) (a == b)
  where
    by : (t u : Bool) → is_lt (cond t Less (cond u Equal Greater)) ≡ t
    by true u = refl
    by false true = refl
    by false false = refl

neither_less : (a b : ℕ) → (not (nat_lt a b) && not (nat_lt b a)) ≡ (b == a)
neither_less a b = grind (arith, nat_tests)

abbrev is_before : Signal → Signal → Bool
is_before x y = is_lt (nat_cmp x.place y.place)

tie_is : (x y : Signal) → ties is_before x y ≡ is_at x.place y
tie_is x y =
    ap (λ (b : Bool). not b && not (is_lt (nat_cmp y.place x.place))) (less_is x.place y.place)
    ∙ ap (λ (b : Bool). not (nat_lt x.place y.place) && not b) (less_is y.place x.place)
    ∙ neither_less x.place y.place

abbrev HaveSameTies : List Signal → List Signal → Type 0
HaveSameTies xs ys = (x : Signal) → filter (is_at x.place) ys ≡ filter (is_at x.place) xs

pub same_ties : (xs ys : List Signal) → IsStableByKey (λ (s : Signal). s.place) nat_cmp xs ys → HaveSameTies xs ys
same_ties xs ys stable x =
    let tests : ties is_before x ≡ is_at x.place = fun_ext (tie_is x) in
    subst (λ (test : Signal → Bool). filter test ys ≡ filter test xs) tests (stable x)

-- ---- one list ascends so

none_before : (p q : ℕ) (ss : List Signal) → IsBehind q ss → p < q → filter (is_at p) ss ≡ []
none_before p q [] behind lt = refl
none_before p q (s ∷ ss) behind lt = by (s.place == p) refl (none_before p q ss behind.1 lt)
  where
    by : (b : Bool) → (s.place == p) ≡ b → filter (is_at p) ss ≡ [] → cond b (s ∷ filter (is_at p) ss) (filter (is_at p) ss) ≡ []
    by true e rest = absurd (omega (arith, eqb-true s.place p e, behind.0, lt))
    by false e rest = rest

head_is : (s : Signal) (ss : List Signal) → filter (is_at s.place) (s ∷ ss) ≡ s ∷ filter (is_at s.place) ss
head_is s ss = ap (λ (b : Bool). cond b (s ∷ filter (is_at s.place) ss) (filter (is_at s.place) ss)) (eq-eqb s.place s.place refl)

not_none : {A : Type 0} (x : A) (xs : List A) → [] ≡ x ∷ xs → ⊥
not_none x xs e = cc

heads : (y : Signal) (ys : List Signal) (z : Signal) (zs : List Signal) → IsAscending (y ∷ ys) → filter (is_at z.place) (y ∷ ys) ≡ filter (is_at z.place) (z ∷ zs) → y.place ≤ z.place
heads y ys z zs up same = by (nat_lt z.place y.place) refl
  where
    by : (b : Bool) → nat_lt z.place y.place ≡ b → y.place ≤ z.place
    by false e = grind (arith, nat_tests)
    by true e =
        let lt : z.place < y.place = grind (arith, nat_tests) in
        absurd (not_none z (filter (is_at z.place) zs) (sym (none_before z.place y.place (y ∷ ys) (omega arith, up.0) lt) ∙ same ∙ head_is z zs))

tails : (p : ℕ) (y : Signal) (ys zs : List Signal) → filter (is_at p) (y ∷ ys) ≡ filter (is_at p) (y ∷ zs) → filter (is_at p) ys ≡ filter (is_at p) zs
tails p y ys zs same = by (y.place == p) same
  where
    by : (b : Bool) → cond b (y ∷ filter (is_at p) ys) (filter (is_at p) ys) ≡ cond b (y ∷ filter (is_at p) zs) (filter (is_at p) zs) → filter (is_at p) ys ≡ filter (is_at p) zs
    by true e = cc
    by false e = e

one_head : (y z : Signal) (ys zs : List Signal) → y ∷ ys ≡ z ∷ zs → y ≡ z
one_head y z ys zs e = cc

pub one_order : (ys zs : List Signal) → IsAscending ys → IsAscending zs → HaveSameTies zs ys → ys ≡ zs
one_order [] [] up also same = refl
one_order [] (z ∷ zs) up also same = absurd (not_none z (filter (is_at z.place) zs) (same z ∙ head_is z zs))
one_order (y ∷ ys) [] up also same = absurd (not_none y (filter (is_at y.place) ys) (sym (same y) ∙ head_is y ys))
one_order (y ∷ ys) (z ∷ zs) up also same =
    let places : y.place ≡ z.place = omega (arith, heads y ys z zs up (same z), heads z zs y ys also (sym (same y))) in
    let first : y ≡ z =
    one_head y z (filter (is_at y.place) ys) (filter (is_at y.place) zs)
    (sym (head_is y ys) ∙ same y ∙ ap (λ (p : ℕ). filter (is_at p) (z ∷ zs)) places ∙ head_is z zs ∙ ap (λ (p : ℕ). z ∷ filter (is_at p) zs) (sym places)) in
    ap (λ (x : Signal). x ∷ ys) first
    ∙ ap (λ (xs : List Signal). z ∷ xs) (one_order ys zs up.1 also.1 (λ x. tails x.place y ys zs (same x ∙ ap (λ (s : Signal). filter (is_at x.place) (s ∷ zs)) (sym first))))

-- ---- the text order

behind_with : (p : ℕ) (s : Signal) (ts : List Signal) → p ≤ s.place → IsBehind p ts → IsBehind p (with_declaration s ts)
behind_with p s [] le behind = (le, tt)
behind_with p s (t ∷ ts) le behind = by (nat_le s.place t.place) (behind_with p s ts le behind.1)
  where
    by : (b : Bool) → IsBehind p (with_declaration s ts) → IsBehind p (cond b (s ∷ t ∷ ts) (t ∷ with_declaration s ts))
    by true rest = (le, behind)
    by false rest = (behind.0, rest)

behind_less : (p q : ℕ) (ss : List Signal) → p ≤ q → IsBehind q ss → IsBehind p ss
behind_less p q [] le behind = tt
behind_less p q (s ∷ ss) le behind = (omega (arith, le, behind.0), behind_less p q ss le behind.1)

ascending_with : (s : Signal) (ts : List Signal) → IsAscending ts → IsAscending (with_declaration s ts)
ascending_with s [] up = (tt, tt)
ascending_with s (t ∷ ts) up = by (nat_le s.place t.place) refl (ascending_with s ts up.1)
  where
    by : (b : Bool) → nat_le s.place t.place ≡ b → IsAscending (with_declaration s ts) → IsAscending (cond b (s ∷ t ∷ ts) (t ∷ with_declaration s ts))
    by true e rest = let le : s.place ≤ t.place = grind (arith, nat_tests) in ((le, behind_less s.place t.place ts le up.0), up)
    by false e rest = let le : t.place ≤ s.place = grind (arith, nat_tests) in (behind_with t.place s ts le up.0, rest)

pub text_order_ascends : (ss : List Signal) → IsAscending (in_text_order ss)
text_order_ascends [] = tt
text_order_ascends (s ∷ ss) = ascending_with s (in_text_order ss) (text_order_ascends ss)

at_with : (p : ℕ) (s : Signal) (ts : List Signal) → filter (is_at p) (with_declaration s ts) ≡ filter (is_at p) (s ∷ ts)
at_with p s [] = refl
at_with p s (t ∷ ts) = by (nat_le s.place t.place) refl (at_with p s ts)
  where
    swapped : (a b : Bool) (rest : List Signal) → (a ≡ true → b ≡ true → ⊥) → cond b (t ∷ cond a (s ∷ rest) rest) (cond a (s ∷ rest) rest) ≡ cond a (s ∷ cond b (t ∷ rest) rest) (cond b (t ∷ rest) rest)
    swapped true true rest apart = absurd (apart refl refl)
    swapped true false rest apart = refl
    swapped false b rest apart = refl

    by : (b : Bool) → nat_le s.place t.place ≡ b → filter (is_at p) (with_declaration s ts) ≡ filter (is_at p) (s ∷ ts)
        → filter (is_at p) (cond b (s ∷ t ∷ ts) (t ∷ with_declaration s ts)) ≡ filter (is_at p) (s ∷ t ∷ ts)
    by true e rest = refl
    by false e rest =
        let lt : t.place < s.place = grind (arith, nat_tests) in
        ap (λ (xs : List Signal). cond (is_at p t) (t ∷ xs) xs) rest
        ∙ swapped (is_at p s) (is_at p t) (filter (is_at p) ts) (λ f g. absurd (omega (arith, lt, eqb-true s.place p f, eqb-true t.place p g)))

at_order : (p : ℕ) (ss : List Signal) → filter (is_at p) (in_text_order ss) ≡ filter (is_at p) ss
at_order p [] = refl
at_order p (s ∷ ss) = at_with p s (in_text_order ss) ∙ ap (λ (xs : List Signal). cond (is_at p s) (s ∷ xs) xs) (at_order p ss)

-- a sorted list with the same elements at each place
pub sorted_is : (xs ys : List Signal) → IsNonDecreasingBy (λ (s : Signal). s.place) ys → IsStableByKey (λ (s : Signal). s.place) nat_cmp xs ys → ys ≡ in_text_order xs
sorted_is xs ys up stable =
    one_order ys (in_text_order xs) (ascending ys up) (text_order_ascends xs) (λ x. same_ties xs ys stable x ∙ sym (at_order x.place xs))
