-- Numbers that are printed one after the other.
use Rattle.std.proofs.Common.{◌≡◌, ◌∙◌, ℕ, zero, suc, ◌+◌, ◌<◌, ◌≤◌, List, [], ◌∷◌, ◌++◌, length, take, map, get_or, ℤ, sym, ap, append_assoc, length-take, add-one, arith}
use Rattle.std.specs.List.{join_with_byte}
use Rattle.std.specs.Fmt.{signed_decimal}
use Rattle.std.proofs.Math.Seq.{take-suc}
use Rattle.std.proofs.lemmas.List.{map-append, length-map}

joined-more : (texts : List (List ℕ)) (text : List ℕ) → 0 < length texts → join_with_byte 32 (texts ++ text ∷ []) ≡ (join_with_byte 32 texts ++ 32 ∷ []) ++ text
joined-more [] text h = absurd (omega arith)
joined-more (t ∷ []) text h = sym (append_assoc t (32 ∷ []) text)
joined-more (t ∷ u ∷ ts) text h =
    let more : join_with_byte 32 (u ∷ (ts ++ text ∷ [])) ≡ (join_with_byte 32 (u ∷ ts) ++ 32 ∷ []) ++ text = joined-more (u ∷ ts) text (omega arith) in
    ap (λ (rest : List ℕ). t ++ 32 ∷ rest) more ∙ sym (regroup t (join_with_byte 32 (u ∷ ts)) text)
  where
    regroup : (t rest text : List ℕ) → ((t ++ 32 ∷ rest) ++ 32 ∷ []) ++ text ≡ t ++ 32 ∷ ((rest ++ 32 ∷ []) ++ text)
    regroup t rest text = simp append_assoc

texts-more : (values : List ℤ) (place : ℕ) (d : ℤ) → place < length values → map signed_decimal (take (place + 1) values) ≡ map signed_decimal (take place values) ++ signed_decimal (get_or values place d) ∷ []
texts-more values place d h = rw add-one (ap (map signed_decimal) (take-suc values place d h) ∙ map-append signed_decimal (take place values) (get_or values place d ∷ []))

-- a number behind others
pub joined-next : (values : List ℤ) (place : ℕ) (d : ℤ) (line with_space whole text : List ℕ) → place < length values → 0 < place → line ≡ join_with_byte 32 (map signed_decimal (take place values)) → with_space ≡ line ++ 32 ∷ []
    → whole ≡ with_space ++ text → text ≡ signed_decimal (get_or values place d) → whole ≡ join_with_byte 32 (map signed_decimal (take (place + 1) values))
joined-next values place d line with_space whole text h some is spaced is_whole is_text =
    let many : 0 < length (map signed_decimal (take place values)) = omega (arith, length-map (take place values) signed_decimal, length-take place values) in
    rw (is_whole, spaced, is, is_text) (sym (ap (join_with_byte 32) (texts-more values place d h) ∙ joined-more (map signed_decimal (take place values)) (signed_decimal (get_or values place d)) many))

-- the first number
pub joined-first : (values : List ℤ) (place : ℕ) (d : ℤ) (line whole text : List ℕ) → place < length values → place ≤ 0 → line ≡ join_with_byte 32 (map signed_decimal (take place values))
    → whole ≡ line ++ text → text ≡ signed_decimal (get_or values place d) → whole ≡ join_with_byte 32 (map signed_decimal (take (place + 1) values))
joined-first values (suc place) d line whole text h none is is_whole is_text = absurd (omega arith)
joined-first values zero d line whole text h none is is_whole is_text =
    rw (is_whole, is, is_text) (sym (ap (join_with_byte 32) (texts-more values 0 d h)))
