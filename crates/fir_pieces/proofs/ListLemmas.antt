-- The list of a filter's registers.
use Rattle.std.proofs.Common.{◌≡◌, ℕ, zero, suc, ◌+◌, ◌-◌, ◌<◌, ◌≤◌, List, [], ◌∷◌, ◌++◌, length, refl, sym, ◌∙◌, ap, arith, inl, inr, subst, Some, slice_get}
use Rattle.std.proofs.lemmas.Bool.{cases_lt}
use Rattle.net_graph.specs.declared.name.NameKind.{NameKind}
use Rattle.net_graph.proofs.Lists.{slice_get-append_left, slice_get_push_cases}
use Rattle.stage_law.specs.Registers.{HeldSum, StageRegister}
use Rattle.stage_law.specs.Least.{IsListed}
use Rattle.fir_pieces.specs.Listed.{numbered, window_sum, window_sums}
use Rattle.fir_pieces.proofs.WidthsLemmas.{slice_get-append_right, slice_get_some}

-- a register with one sum
abbrev pub single : NameKind → ℕ → HeldSum → StageRegister
single kind number s = record { kind = kind; number = number; sums = s ∷ [] }

-- what holds of the register of each sum holds of each register
pub each_numbered : (P : StageRegister → Type 0) (kind : NameKind) (number : ℕ) (sums : List HeldSum) → ((k : ℕ) (s : HeldSum) → slice_get sums k ≡ Some s → P (single kind (number + k) s)) → (i : ℕ) (r : StageRegister) → slice_get (numbered kind number sums) i ≡ Some r → P r
each_numbered P kind number [] h i r is = absurd (cc)
each_numbered P kind number (s ∷ sums) h zero r is =
    let same : single kind number s ≡ r = cc in
    let at : number + 0 ≡ number = omega arith in
    subst P same (subst (λ (n : ℕ). P (single kind n s)) at (h zero s refl))
each_numbered P kind number (s ∷ sums) h (suc i) r is =
    each_numbered P kind (suc number) sums (λ k t there. let at : number + suc k ≡ suc number + k = omega arith in subst (λ (n : ℕ). P (single kind n t)) at (h (suc k) t there)) i r is

-- and of two lists, one after the other
pub each_appended : {X : Type 0} (P : X → Type 0) (xs ys : List X) → ((i : ℕ) (x : X) → slice_get xs i ≡ Some x → P x) → ((i : ℕ) (x : X) → slice_get ys i ≡ Some x → P x) → (i : ℕ) (x : X) → slice_get (xs ++ ys) i ≡ Some x → P x
each_appended P [] ys h g i x is = g i x is
each_appended P (y ∷ xs) ys h g zero x is = h zero x is
each_appended P (y ∷ xs) ys h g (suc i) x is = each_appended P xs ys (λ k. h (suc k)) g i x is

pub numbered-at : (kind : NameKind) (number : ℕ) (sums : List HeldSum) (k : ℕ) (s : HeldSum) → slice_get sums k ≡ Some s → slice_get (numbered kind number sums) k ≡ Some (single kind (number + k) s)
numbered-at kind number [] k s is = absurd (cc)
numbered-at kind number (t ∷ sums) zero s is =
    let same : t ≡ s = cc in
    let at : number ≡ number + 0 = omega arith in
    ap (λ (z : HeldSum). Some (single kind number z)) same ∙ ap (λ (n : ℕ). Some (single kind n s)) at
numbered-at kind number (t ∷ sums) (suc k) s is = let at : suc number + k ≡ number + suc k = omega arith in numbered-at kind (suc number) sums k s is ∙ ap (λ (n : ℕ). Some (single kind n s)) at

-- the names of these are listed, and those of a list among others
pub listed_numbered : (kind : NameKind) (sums : List HeldSum) (number : ℕ) → number < length sums → IsListed (numbered kind 0 sums) kind number
listed_numbered kind sums number h =
    let s = slice_get_some sums number h in
    let at : 0 + number ≡ number = omega arith in
    record { index = number; r = single kind (0 + number) s.0; there = numbered-at kind 0 sums number s.0 s.1; is_kind = refl; is_number = at }

pub listed_left : {kind : NameKind} {number : ℕ} (xs ys : List StageRegister) → IsListed xs kind number → IsListed (xs ++ ys) kind number
listed_left xs ys l = record { index = l.index; r = l.r; there = slice_get-append_left xs ys l.index l.r l.there; is_kind = l.is_kind; is_number = l.is_number }

pub listed_right : {kind : NameKind} {number : ℕ} (xs ys : List StageRegister) → IsListed ys kind number → IsListed (xs ++ ys) kind number
listed_right xs ys l = record { index = length xs + l.index; r = l.r; there = slice_get-append_right xs ys l.index ∙ l.there; is_kind = l.is_kind; is_number = l.is_number }

-- ---- the window's sums

pub length-window_sums : (depth : ℕ) → length (window_sums depth) ≡ depth
length-window_sums zero = refl
length-window_sums (suc depth) = longer (window_sums depth) (window_sum depth) ∙ ap suc (length-window_sums depth)
  where
    longer : (xs : List HeldSum) (x : HeldSum) → length (xs ++ x ∷ []) ≡ suc (length xs)
    longer [] x = refl
    longer (y ∷ xs) x = ap suc (longer xs x)

pub window_sums-at : (depth age : ℕ) (s : HeldSum) → slice_get (window_sums depth) age ≡ Some s → s ≡ window_sum age
window_sums-at zero age s is = absurd (cc)
window_sums-at (suc depth) age s is = elim (slice_get_push_cases (window_sums depth) (window_sum depth) age s is) [
  | inl before ↦ window_sums-at depth age s before
  | inr last ↦ last.1 ∙ ap window_sum (sym (last.0 ∙ length-window_sums depth))
]

-- ---- two lists, one after the other

pub slice_get-append_first : {X : Type 0} (xs ys : List X) (k : ℕ) → k < length xs → slice_get (xs ++ ys) k ≡ slice_get xs k
slice_get-append_first [] ys k h = absurd (omega arith)
slice_get-append_first (x ∷ xs) ys zero h = refl
slice_get-append_first (x ∷ xs) ys (suc k) h = slice_get-append_first xs ys k (omega arith)

-- past the first elements
pub slice_get_past : {X : Type 0} (xs ys : List X) (k : ℕ) (x : X) → length xs ≤ k → slice_get (xs ++ ys) k ≡ Some x → slice_get ys (k - length xs) ≡ Some x
slice_get_past xs ys k x h is =
    let at : length xs + (k - length xs) ≡ k = omega arith in
    sym (slice_get-append_right xs ys (k - length xs)) ∙ ap (slice_get (xs ++ ys)) at ∙ is

-- what holds of the elements of two lists beside each other
pub beside : {X Y : Type 0} (P : X → Y → Type 0) (xs us : List X) (ys vs : List Y) → length xs ≡ length ys → ((k : ℕ) (x : X) (y : Y) → slice_get xs k ≡ Some x → slice_get ys k ≡ Some y → P x y) → ((k : ℕ) (x : X) (y : Y) → slice_get us k ≡ Some x → slice_get vs k ≡ Some y → P x y)
    → (k : ℕ) (x : X) (y : Y) → slice_get (xs ++ us) k ≡ Some x → slice_get (ys ++ vs) k ≡ Some y → P x y
beside P xs us ys vs long f g k x y is there = elim (cases_lt k (length xs)) [
  | inl less ↦ f k x y (sym (slice_get-append_first xs us k less) ∙ is) (sym (slice_get-append_first ys vs k (omega (arith, long, less))) ∙ there)
  | inr later ↦
      let here = slice_get_past ys vs k y (omega (arith, long, later)) there in
      g (k - length xs) x y (slice_get_past xs us k x later is) (subst (λ (n : ℕ). slice_get vs (k - n) ≡ Some y) (sym long) here)
]
