-- The bytes of a text are its pieces and no others.
use Rattle.std.proofs.Common.{◌≡◌, ℕ, ◌+◌, List, ◌∷◌, take, drop, Some, refl, sym, ap, ◌∙◌, subst, arith, inl, inr}
use Rattle.std.proofs.lemmas.Bool.{cases_order}
use Rattle.verilog_text.specs.Lexer.{Piece, Gap, piece_of, IsLongest, Placed, Scans, ended, gap, piece, unreadable}

-- the longest piece is one alone
pub longest_unique : (bytes : List ℕ) (n m : ℕ) (p q : Piece) → IsLongest bytes n p → IsLongest bytes m q → (n ≡ m) × (p ≡ q)
longest_unique bytes n m p q a b =
    elim (cases_order n m) [
      | inl e ↦ (e, let h : piece_of (take m bytes) ≡ Some p = ap (λ k. piece_of (take k bytes)) (sym e) ∙ a.is in let h' = b.is in cc)
      | inr (inl less) ↦ absurd (let h = a.longest m less b.within in let h' = b.is in cc)
      | inr (inr more) ↦ absurd (let h = b.longest n more a.within in let h' = a.is in cc)
    ]

-- the bytes of a text are these pieces and no others
pub scans_unique : (place : ℕ) (bytes : List ℕ) (xs ys : List Placed) → Scans place bytes xs → Scans place bytes ys → xs ≡ ys
scans_unique place bytes xs ys ended ended = refl
scans_unique place bytes xs ys ended (gap m b r) = absurd (omega (arith, b.some, b.within))
scans_unique place bytes xs ys ended (piece m q no_gap b r) = absurd (omega (arith, b.some, b.within))
scans_unique place bytes xs ys (gap n a r) ended = absurd (omega (arith, a.some, a.within))
scans_unique place bytes xs ys (gap n a r) (gap m b s) =
    let same = (longest_unique bytes n m Gap Gap a b).0 in
    scans_unique (place + n) (drop n bytes) xs ys r (subst (λ k. Scans (place + k) (drop k bytes) ys) (sym same) s)
scans_unique place bytes xs ys (gap n a r) (piece m q no_gap b s) = absurd (no_gap (sym (longest_unique bytes n m Gap q a b).1))
scans_unique place bytes xs ys (gap n a r) (unreadable none) = absurd (let h = none n a.within in let h' = a.is in cc)
scans_unique place bytes xs ys (piece n p no_gap a r) ended = absurd (omega (arith, a.some, a.within))
scans_unique place bytes xs ys (piece n p no_gap a r) (gap m b s) = absurd (no_gap (longest_unique bytes n m p Gap a b).1)
scans_unique place bytes xs ys (piece {pieces = us} n p no_gap a r) (piece {pieces = vs} m q no_gap' b s) =
    let same = longest_unique bytes n m p q a b in
    let rest : us ≡ vs = scans_unique (place + n) (drop n bytes) us vs r (subst (λ k. Scans (place + k) (drop k bytes) vs) (sym same.0) s) in
    let f : Piece → Placed = λ z. record { place = place; piece = z } in
    ap (λ z. f z ∷ us) same.1 ∙ ap (λ zs. f q ∷ zs) rest
scans_unique place bytes xs ys (piece n p no_gap a r) (unreadable none) = absurd (let h = none n a.within in let h' = a.is in cc)
scans_unique place bytes xs ys (unreadable none) (gap m b s) = absurd (let h = none m b.within in let h' = b.is in cc)
scans_unique place bytes xs ys (unreadable none) (piece m q no_gap b s) = absurd (let h = none m b.within in let h' = b.is in cc)
scans_unique place bytes xs ys (unreadable none) (unreadable none') = refl
