-- The places that terms weigh, from the first to the last.
use Rattle.std.proofs.Common.{◌≡◌, ℕ, zero, suc, ◌+◌, ◌-◌, ◌<◌, ◌≤◌, List, [], ◌∷◌, ◌++◌, length, get_or, set, replicate, refl, ◌∙◌, ap, arith, Bool, ℤ, pos, ◌+ℤ◌, All}
use Rattle.std.proofs.lemmas.List.Elements.{All-nil, All-cons, All-weaker}
use Rattle.signed_digit.specs.declared.term_list.Term.{Term}
use Rattle.fir_pieces.specs.Form.{power_of, with_term, reach_of, moved}

pub below_reach : (ts : List Term) → All (λ (t : Term). t.index < reach_of ts) ts
below_reach [] = All-nil (λ (t : Term). t.index < reach_of [])
below_reach (t ∷ ts) =
    All-cons (λ (u : Term). u.index < reach_of (t ∷ ts)) t ts (omega arith)
    (All-weaker (λ (u : Term). u.index < reach_of ts) (λ (u : Term). u.index < reach_of (t ∷ ts)) (λ u h. omega arith) ts (below_reach ts))

-- an element that is there, whatever is read where none is
pub get_or_default : (ts : List Term) (k : ℕ) (t u : Term) → k < length ts → get_or ts k t ≡ get_or ts k u
get_or_default [] k t u h = absurd (omega arith)
get_or_default (v ∷ ts) zero t u h = refl
get_or_default (v ∷ ts) (suc k) t u h = get_or_default ts k t u (omega arith)

pub replicate_split : (b n : ℕ) → replicate (b + n) (pos 0) ≡ replicate b (pos 0) ++ replicate n (pos 0)
replicate_split zero n = let e : 0 + n ≡ n = omega arith in ap (λ (k : ℕ). replicate k (pos 0)) e
replicate_split (suc b) n = let e : suc b + n ≡ suc (b + n) = omega arith in ap (λ (k : ℕ). replicate k (pos 0)) e ∙ ap (λ (zs : List ℤ). pos 0 ∷ zs) (replicate_split b n)

set_behind : (b : ℕ) (w : List ℤ) (i : ℕ) (z : ℤ) → set (replicate b (pos 0) ++ w) (b + i) z ≡ replicate b (pos 0) ++ set w i z
set_behind zero w i z = let e : 0 + i ≡ i = omega arith in ap (λ (k : ℕ). set w k z) e
set_behind (suc b) w i z =
    let e : suc b + i ≡ suc (b + i) = omega arith in ap (λ (k : ℕ). set (pos 0 ∷ (replicate b (pos 0) ++ w)) k z) e ∙ ap (λ (zs : List ℤ). pos 0 ∷ zs) (set_behind b w i z)

get_or_behind : (b : ℕ) (w : List ℤ) (i : ℕ) → get_or (replicate b (pos 0) ++ w) (b + i) (pos 0) ≡ get_or w i (pos 0)
get_or_behind zero w i = let e : 0 + i ≡ i = omega arith in ap (λ (k : ℕ). get_or w k (pos 0)) e
get_or_behind (suc b) w i = let e : suc b + i ≡ suc (b + i) = omega arith in ap (λ (k : ℕ). get_or (pos 0 ∷ (replicate b (pos 0) ++ w)) k (pos 0)) e ∙ get_or_behind b w i

-- a term behind zeros
pub with_term-behind : (negated : Bool) (b : ℕ) (w : List ℤ) (t : Term) → b ≤ t.index → with_term negated (replicate b (pos 0) ++ w) t ≡ replicate b (pos 0) ++ with_term negated w (moved b t)
with_term-behind negated b w t h =
    let form = replicate b (pos 0) ++ w in
    let i = t.index - b in
    let p = power_of negated t in
    let at : t.index ≡ b + i = omega arith in
    ap (λ (k : ℕ). set form k (get_or form k (pos 0) +ℤ p)) at ∙ ap (λ (z : ℤ). set form (b + i) (z +ℤ p)) (get_or_behind b w i) ∙ set_behind b w i (get_or w i (pos 0) +ℤ p)

-- terms of which none stands before the last place have no first place either
pub nothing_behind : (ts : List Term) (b : ℕ) → All (λ (t : Term). b ≤ t.index) ts → reach_of ts ≡ b → b ≡ 0
nothing_behind [] b h e = omega (arith, e)
nothing_behind (t ∷ ts) b h e = let first : b ≤ t.index = h 0 t (omega arith) in omega (arith, first, e)
