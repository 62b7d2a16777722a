-- Pieces that a writer took, one after another.
use Rattle.std.proofs.Common.{◌≡◌, ◌∙◌, ◌++◌, ◌≤◌, ◌-◌, ℕ, List, [], Option, Some, None, length, take, drop, refl, sym, ap, subst}
use Rattle.std.proofs.lemmas.List.{append_assoc, append-nil, take-append-drop, length-drop}
use Rattle.std.proofs.Math.Seq.{take-append_seam, take-length}
use Rattle.std.specs.Io.KnownBytes.{Appends, Keeps}

pub Appends-then : (a b c : Option (List ℕ)) (xs ys : List ℕ) → Appends a b xs → Appends b c ys → Appends a c (xs ++ ys)
Appends-then None b c xs ys first second = tt
Appends-then (Some old) None c xs ys first second = absurd first
Appends-then (Some old) (Some mid) None xs ys first second = absurd second
Appends-then (Some old) (Some mid) (Some new) xs ys first second = second ∙ ap (λ (bytes : List ℕ). bytes ++ ys) first ∙ append_assoc old xs ys

pub Keeps-appends : (a b : Option (List ℕ)) → Keeps a b → Appends a b []
Keeps-appends None b keeps = tt
Keeps-appends (Some old) None keeps = absurd keeps
Keeps-appends (Some old) (Some new) keeps = keeps ∙ sym (append-nil old)

-- a writer that stops has taken a front of the piece
pub stopped : (a b c : Option (List ℕ)) (piece front rest : List ℕ) → piece ≡ front ++ rest → Appends a b front → Appends b c [] → (count : ℕ) × Appends a c (take count piece)
stopped a b c piece front rest is first last =
    let whole : Appends a c (front ++ []) = Appends-then a b c front [] first last in
    let front_is : take (length front) piece ≡ front ++ [] = ap (λ (bytes : List ℕ). take (length front) bytes) is ∙ take-append_seam front rest ∙ sym (append-nil front) in
    (length front, subst (λ (bytes : List ℕ). Appends a c bytes) (sym front_is) whole)

-- what is left after a write
pub left : (piece front rest : List ℕ) (count : ℕ) → piece ≡ front ++ rest → piece ≡ (front ++ take count rest) ++ take (length rest - count) (drop count rest)
left piece front rest count is =
    let all : take (length rest - count) (drop count rest) ≡ drop count rest = ap (λ (n : ℕ). take n (drop count rest)) (sym (length-drop count rest)) ∙ take-length (drop count rest) in
    is ∙ ap (λ (bytes : List ℕ). front ++ bytes) (sym (take-append-drop count rest) ∙ ap (λ (bytes : List ℕ). take count rest ++ bytes) (sym all)) ∙ sym (append_assoc front (take count rest) (take (length rest - count) (drop count rest)))
