-- The classes of a stage's sums go round no slower than the stage does.
use Rattle.std.proofs.Common.{◌≡◌, ◌∙◌, ℕ, zero, suc, ◌+◌, ◌*◌, ◌/◌, ◌%◌, ◌<◌, ◌≤◌, sym, ap, subst, arith}
use Rattle.std.specs.Int.{IsGcd, ◌∣◌}
use Rattle.std.proofs.Math.Nat.{dvd-mul_left_of_dvd, dvd-add_iff_right}
use Rattle.std.proofs.lemmas.Nat.{div-add-mod', mod_below, le-div}
use Rattle.std.proofs.lemmas.Nat.Gcd.{mod-eq-zero_of_dvd, same_from_IsGcd}
use Rattle.plan_check.specs.Costs.{gcd_to, gcd}
use Rattle.plan_check.proofs.Divisors.{IsGcd-gcd}

-- what divides k times two numbers divides k times their greatest common divisor
times-common : (fuel a b k d : ℕ) → b < fuel → d ∣ k * a → d ∣ k * b → d ∣ k * gcd_to fuel a b
times-common zero a b k d h p q = absurd (omega arith)
times-common (suc fuel) a zero k d h p q = p
times-common (suc fuel) a (suc b) k d h p q =
    let whole = a / suc b in
    let rest = a % suc b in
    let split : a ≡ whole * suc b + rest = sym (div-add-mod' a (suc b)) in
    let parts : k * a ≡ whole * (k * suc b) + k * rest = ap (λ (n : ℕ). k * n) split ∙ omega arith in
    let sum : d ∣ whole * (k * suc b) + k * rest = subst (λ (n : ℕ). d ∣ n) parts p in
    times-common fuel (suc b) rest k d (omega (arith, mod_below a (suc b) (omega arith))) q ((dvd-add_iff_right d (dvd-mul_left_of_dvd d q whole)).1 sum)

quotient-whole : (a d : ℕ) → d ∣ a → a / d * d ≡ a
quotient-whole a d h = omega (arith, div-add-mod' a d, mod-eq-zero_of_dvd d h)

left-some : (a b n : ℕ) → a * b ≡ n → 0 < n → 0 < a
left-some zero b n e h = absurd (omega (arith, e))
left-some (suc a) b n e h = omega arith

-- A stage takes `down` values for each `up` that it gives. Where so many classes come in, a class of the stage's own whose modulus divides
-- down / gcd(up, down) goes round in at most as many of the old rounds as the classes behind the stage.
pub round-within : (classes up down modulus shared times : ℕ) → 0 < down → IsGcd up down shared → down ≡ shared * (times * modulus) → modulus / gcd classes modulus ≤ down / gcd (classes * up) down
round-within classes up down modulus shared times some greatest divides =
    let outer = gcd (classes * up) down in
    let inner = gcd classes modulus in
    let own = IsGcd-gcd (classes * up) down in
    let both : outer ∣ classes * gcd up down = times-common (suc down) up down classes outer (omega arith) own.0 (dvd-mul_left_of_dvd outer own.1 classes) in
    let alike : gcd up down ≡ shared = same_from_IsGcd up down (gcd up down) shared (IsGcd-gcd up down) greatest in
    let over : times * (classes * gcd up down) ≡ shared * times * classes = ap (λ (n : ℕ). times * (classes * n)) alike ∙ omega arith in
    let first : outer ∣ shared * times * classes = subst (λ (n : ℕ). outer ∣ n) over (dvd-mul_left_of_dvd outer both times) in
    let is_down : down ≡ shared * times * modulus = divides ∙ omega arith in
    let second : outer ∣ shared * times * modulus = subst (λ (n : ℕ). outer ∣ n) is_down own.1 in
    let third : outer ∣ shared * times * inner = times-common (suc modulus) classes modulus (shared * times) outer (omega arith) first second in
    let most = shared * times * inner / outer in
    let turns = modulus / inner in
    let covers : most * outer ≡ shared * times * inner = quotient-whole (shared * times * inner) outer third in
    let rounds : turns * inner ≡ modulus = quotient-whole modulus inner (IsGcd-gcd classes modulus).1 in
    let regroup : most * (turns * outer) ≡ turns * (most * outer) = omega arith in
    let again : turns * (shared * times * inner) ≡ shared * times * (turns * inner) = omega arith in
    let product : most * (turns * outer) ≡ down =
    regroup ∙ ap (λ (n : ℕ). turns * n) covers ∙ again ∙ ap (λ (n : ℕ). shared * times * n) rounds ∙ sym is_down in
    let positive : 0 < most = left-some most (turns * outer) down product some in
    let fits : turns * outer ≤ down = let more : 1 * (turns * outer) ≤ most * (turns * outer) = le-times (turns * outer) most positive in omega (arith, more, product) in
    let whole : down / outer * outer ≡ down = quotient-whole down outer own.1 in
    let outer_some : 0 < outer = left-some outer (down / outer) down (let turned : outer * (down / outer) ≡ down / outer * outer = omega arith in turned ∙ whole) some in
    le-div turns down outer outer_some fits
  where
    le-times : (n most : ℕ) → 0 < most → 1 * n ≤ most * n
    le-times n zero h = absurd (omega arith)
    le-times n (suc k) h = omega arith
