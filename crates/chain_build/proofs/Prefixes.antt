-- The first groups of a plan are the groups of its first elements.
use Rattle.std.proofs.Common.{◌≡◌, ℕ, suc, ◌+◌, ◌≤◌, List, [], ◌∷◌, ◌++◌, length, take, refl, sym, ◌∙◌, ap, arith, subst, None, Some, ℤ}
use Rattle.mr_values.specs.declared.plan.Element.{Element}
use Rattle.mr_values.specs.declared.plan.Element.TheVariants.{Up, Down, Filter, CicDown, CicUp, Round, Clip}
use Rattle.mr_values.specs.declared.plan.Form.{Form}
use Rattle.mr_values.specs.Sequence.{Sequence}
use Rattle.mr_values.specs.Value.{size, chain}
use Rattle.mr_values.specs.Timing.{Group, Fir, DownCic, UpCic, Rounding, Clipping, Stream, after, after_all, join_up, join_filter, groups}
use Rattle.plan_check.specs.Groups.{size_of}
use Rattle.plan_laws.proofs.Reach.{apply_group, apply_groups, chain-groups}

-- how many elements groups take
abbrev pub sizes : List Group → ℕ
sizes [] = 0
sizes (g ∷ gs) = size_of g + sizes gs

-- one group more
pub sizes-more : (gs : List Group) (g : Group) → sizes (gs ++ g ∷ []) ≡ sizes gs + size_of g
sizes-more [] g = omega arith
sizes-more (h ∷ gs) g = let e = sizes-more gs g in omega (arith, e)

pub after-more : (gs : List Group) (g : Group) (s : Stream) → after_all (gs ++ g ∷ []) s ≡ after g (after_all gs s)
after-more [] g s = refl
after-more (h ∷ gs) g s = after-more gs g (after h s)

pub apply-more : (gs : List Group) (g : Group) (v : Sequence) → apply_groups (gs ++ g ∷ []) v ≡ apply_group g (apply_groups gs v)
apply-more [] g v = refl
apply-more (h ∷ gs) g v = apply-more gs g (apply_group h v)

abbrev pub IsPrefixed : List Element → Type 0
IsPrefixed es = (first left : List Group) → groups es ≡ first ++ left → groups (take (sizes first) es) ≡ first

take-more : {A : Type 0} (n m : ℕ) (x : A) (xs : List A) → n ≡ suc m → take n (x ∷ xs) ≡ x ∷ take m xs
take-more n m x xs is = ap (λ (k : ℕ). take k (x ∷ xs)) is

-- an element in front that becomes a group of its own, of which `join` tells what it does to the groups behind it
alone : (e : Element) (own : Group) (join : List Group → List Group) (es : List Element) → IsPrefixed es → ((gs : List Group) (rest : List Element) → groups rest ≡ gs → groups (e ∷ rest) ≡ join gs) → size_of own ≡ 1
    → (hs : List Group) → groups es ≡ hs → ((k rest : List Group) → hs ≡ k ++ rest → join k ≡ own ∷ k)
    → (g : Group) (gs left : List Group) → own ∷ hs ≡ g ∷ (gs ++ left) → groups (take (sizes (g ∷ gs)) (e ∷ es)) ≡ g ∷ gs
alone e own join es ih joins one hs is stays g gs left same =
    let head : g ≡ own = cc in
    let tail : hs ≡ gs ++ left = cc in
    let size : size_of g ≡ 1 = ap size_of head ∙ one in
    let n : sizes (g ∷ gs) ≡ suc (sizes gs) = omega (arith, size) in
    ap groups (take-more (sizes (g ∷ gs)) (sizes gs) e es n)
    ∙ joins gs (take (sizes gs) es) (ih gs left (is ∙ tail))
    ∙ stays gs left tail
    ∙ ap (λ (h : Group). h ∷ gs) (sym head)

-- the head of a list takes nothing in
stays-from : (own : Group) (join : List Group → List Group) (h : Group) (hs : List Group) → join [] ≡ own ∷ [] → ((k : List Group) → join (h ∷ k) ≡ own ∷ h ∷ k)
    → (k rest : List Group) → h ∷ hs ≡ k ++ rest → join k ≡ own ∷ k
stays-from own join h hs empty keeps [] rest e = empty
stays-from own join h hs empty keeps (x ∷ k) rest e = let head : h ≡ x = cc in subst (λ (y : Group). join (y ∷ k) ≡ own ∷ y ∷ k) head (keeps k)

stays-none : (own : Group) (join : List Group → List Group) → join [] ≡ own ∷ [] → (k rest : List Group) → [] ≡ k ++ rest → join k ≡ own ∷ k
stays-none own join empty [] rest e = empty
stays-none own join empty (h ∷ k) rest e = absurd (cc)

-- an element in front that joins the first group behind it
joined : (e : Element) (own inner : Group) (join : List Group → List Group) (es : List Element) → IsPrefixed es → ((gs : List Group) (rest : List Element) → groups rest ≡ gs → groups (e ∷ rest) ≡ join gs) → size_of own ≡ suc (size_of inner)
    → (hs : List Group) → groups es ≡ inner ∷ hs → ((k : List Group) → join (inner ∷ k) ≡ own ∷ k)
    → (g : Group) (gs left : List Group) → own ∷ hs ≡ g ∷ (gs ++ left) → groups (take (sizes (g ∷ gs)) (e ∷ es)) ≡ g ∷ gs
joined e own inner join es ih joins more hs is takes g gs left same =
    let head : g ≡ own = cc in
    let tail : hs ≡ gs ++ left = cc in
    let size : size_of g ≡ suc (size_of inner) = ap size_of head ∙ more in
    let n : sizes (g ∷ gs) ≡ suc (sizes (inner ∷ gs)) = omega (arith, size) in
    ap groups (take-more (sizes (g ∷ gs)) (sizes (inner ∷ gs)) e es n)
    ∙ joins (inner ∷ gs) (take (sizes (inner ∷ gs)) es) (ih (inner ∷ gs) left (is ∙ ap (λ (t : List Group). inner ∷ t) tail))
    ∙ takes gs
    ∙ ap (λ (h : Group). h ∷ gs) (sym head)

-- ---- each element

prefixed-up : (factor : ℤ) (es : List Element) → IsPrefixed es → (first left : List Group) → groups (Up factor ∷ es) ≡ first ++ left → groups (take (sizes first) (Up factor ∷ es)) ≡ first
prefixed-up factor es ih [] left is = refl
prefixed-up factor es ih (g ∷ gs) left is = by (groups es) refl is
  where
    own : Group
    own = Fir (Some (size factor)) None None

    joins : (ks : List Group) (rest : List Element) → groups rest ≡ ks → groups (Up factor ∷ rest) ≡ join_up (size factor) ks
    joins ks rest e = ap (join_up (size factor)) e

    apart : (hs : List Group) → groups es ≡ hs → ((k rest : List Group) → hs ≡ k ++ rest → join_up (size factor) k ≡ own ∷ k) → own ∷ hs ≡ g ∷ (gs ++ left) → groups (take (sizes (g ∷ gs)) (Up factor ∷ es)) ≡ g ∷ gs
    apart hs e stays same = alone (Up factor) own (join_up (size factor)) es ih joins refl hs e stays g gs left same

    by : (hs : List Group) → groups es ≡ hs → join_up (size factor) hs ≡ g ∷ (gs ++ left) → groups (take (sizes (g ∷ gs)) (Up factor ∷ es)) ≡ g ∷ gs
    by [] e same = apart [] e (stays-none own (join_up (size factor)) refl) same
    by (Fir None f d ∷ hs) e same = joined (Up factor) (Fir (Some (size factor)) f d) (Fir None f d) (join_up (size factor)) es ih joins (omega arith) hs e (λ k. refl) g gs left same
    by (Fir (Some u) f d ∷ hs) e same = apart (Fir (Some u) f d ∷ hs) e (stays-from own (join_up (size factor)) (Fir (Some u) f d) hs refl (λ k. refl)) same
    by (DownCic r n m ∷ hs) e same = apart (DownCic r n m ∷ hs) e (stays-from own (join_up (size factor)) (DownCic r n m) hs refl (λ k. refl)) same
    by (UpCic r n m ∷ hs) e same = apart (UpCic r n m ∷ hs) e (stays-from own (join_up (size factor)) (UpCic r n m) hs refl (λ k. refl)) same
    by (Rounding s m ∷ hs) e same = apart (Rounding s m ∷ hs) e (stays-from own (join_up (size factor)) (Rounding s m) hs refl (λ k. refl)) same
    by (Clipping bits ∷ hs) e same = apart (Clipping bits ∷ hs) e (stays-from own (join_up (size factor)) (Clipping bits) hs refl (λ k. refl)) same

prefixed-filter : (taps : List ℤ) (form : Form) (es : List Element) → IsPrefixed es → (first left : List Group) → groups (Filter taps form ∷ es) ≡ first ++ left → groups (take (sizes first) (Filter taps form ∷ es)) ≡ first
prefixed-filter taps form es ih [] left is = refl
prefixed-filter taps form es ih (g ∷ gs) left is = by (groups es) refl is
  where
    own : Group
    own = Fir None (Some (taps, form)) None

    joins : (ks : List Group) (rest : List Element) → groups rest ≡ ks → groups (Filter taps form ∷ rest) ≡ join_filter taps form ks
    joins ks rest e = ap (join_filter taps form) e

    apart : (hs : List Group) → groups es ≡ hs → ((k rest : List Group) → hs ≡ k ++ rest → join_filter taps form k ≡ own ∷ k) → own ∷ hs ≡ g ∷ (gs ++ left) → groups (take (sizes (g ∷ gs)) (Filter taps form ∷ es)) ≡ g ∷ gs
    apart hs e stays same = alone (Filter taps form) own (join_filter taps form) es ih joins refl hs e stays g gs left same

    by : (hs : List Group) → groups es ≡ hs → join_filter taps form hs ≡ g ∷ (gs ++ left) → groups (take (sizes (g ∷ gs)) (Filter taps form ∷ es)) ≡ g ∷ gs
    by [] e same = apart [] e (stays-none own (join_filter taps form) refl) same
    by (Fir None None d ∷ hs) e same = joined (Filter taps form) (Fir None (Some (taps, form)) d) (Fir None None d) (join_filter taps form) es ih joins (omega arith) hs e (λ k. refl) g gs left same
    by (Fir None (Some f) d ∷ hs) e same = apart (Fir None (Some f) d ∷ hs) e (stays-from own (join_filter taps form) (Fir None (Some f) d) hs refl (λ k. refl)) same
    by (Fir (Some u) None d ∷ hs) e same = apart (Fir (Some u) None d ∷ hs) e (stays-from own (join_filter taps form) (Fir (Some u) None d) hs refl (λ k. refl)) same
    by (Fir (Some u) (Some f) d ∷ hs) e same = apart (Fir (Some u) (Some f) d ∷ hs) e (stays-from own (join_filter taps form) (Fir (Some u) (Some f) d) hs refl (λ k. refl)) same
    by (DownCic r n m ∷ hs) e same = apart (DownCic r n m ∷ hs) e (stays-from own (join_filter taps form) (DownCic r n m) hs refl (λ k. refl)) same
    by (UpCic r n m ∷ hs) e same = apart (UpCic r n m ∷ hs) e (stays-from own (join_filter taps form) (UpCic r n m) hs refl (λ k. refl)) same
    by (Rounding s m ∷ hs) e same = apart (Rounding s m ∷ hs) e (stays-from own (join_filter taps form) (Rounding s m) hs refl (λ k. refl)) same
    by (Clipping bits ∷ hs) e same = apart (Clipping bits ∷ hs) e (stays-from own (join_filter taps form) (Clipping bits) hs refl (λ k. refl)) same

prefixed-alone : (e : Element) (own : Group) (es : List Element) → IsPrefixed es → ((rest : List Element) → groups (e ∷ rest) ≡ own ∷ groups rest) → size_of own ≡ 1 → (first left : List Group) → groups (e ∷ es) ≡ first ++ left → groups (take (sizes first) (e ∷ es)) ≡ first
prefixed-alone e own es ih puts one [] left is = refl
prefixed-alone e own es ih puts one (g ∷ gs) left is =
    alone e own (λ ks. own ∷ ks) es ih (λ ks rest eq. puts rest ∙ ap (λ (t : List Group). own ∷ t) eq) one (groups es) refl (λ k rest eq. refl) g gs left (sym (puts es) ∙ is)

pub prefixed : (es : List Element) (first left : List Group) → groups es ≡ first ++ left → groups (take (sizes first) es) ≡ first
prefixed [] [] left is = refl
prefixed [] (g ∷ gs) left is = absurd (cc)
prefixed (Up factor ∷ es) first left is = prefixed-up factor es (prefixed es) first left is
prefixed (Filter taps form ∷ es) first left is = prefixed-filter taps form es (prefixed es) first left is
prefixed (Down factor ∷ es) first left is = prefixed-alone (Down factor) (Fir None None (Some (size factor))) es (prefixed es) (λ rest. refl) refl first left is
prefixed (CicDown factor stages delay ∷ es) first left is = prefixed-alone (CicDown factor stages delay) (DownCic (size factor) (size stages) (size delay)) es (prefixed es) (λ rest. refl) refl first left is
prefixed (CicUp factor stages delay ∷ es) first left is = prefixed-alone (CicUp factor stages delay) (UpCic (size factor) (size stages) (size delay)) es (prefixed es) (λ rest. refl) refl first left is
prefixed (Round shift mode ∷ es) first left is = prefixed-alone (Round shift mode) (Rounding (size shift) mode) es (prefixed es) (λ rest. refl) refl first left is
prefixed (Clip bits ∷ es) first left is = prefixed-alone (Clip bits) (Clipping (size bits)) es (prefixed es) (λ rest. refl) refl first left is

-- what the first groups do is what the first elements do
pub chain-first : (es : List Element) (first left : List Group) (v : Sequence) → groups es ≡ first ++ left → chain (take (sizes first) es) v ≡ apply_groups first v
chain-first es first left v is = chain-groups (take (sizes first) es) v ∙ ap (λ (gs : List Group). apply_groups gs v) (prefixed es first left is)

-- ---- how many elements there are

sizes-up : (l : ℕ) (gs : List Group) → sizes (join_up l gs) ≡ suc (sizes gs)
sizes-up l [] = omega arith
sizes-up l (Fir None f d ∷ gs) = omega arith
sizes-up l (Fir (Some u) f d ∷ gs) = omega arith
sizes-up l (DownCic r n m ∷ gs) = omega arith
sizes-up l (UpCic r n m ∷ gs) = omega arith
sizes-up l (Rounding s m ∷ gs) = omega arith
sizes-up l (Clipping bits ∷ gs) = omega arith

sizes-filter : (taps : List ℤ) (form : Form) (gs : List Group) → sizes (join_filter taps form gs) ≡ suc (sizes gs)
sizes-filter taps form [] = omega arith
sizes-filter taps form (Fir None None d ∷ gs) = omega arith
sizes-filter taps form (Fir None (Some f) d ∷ gs) = omega arith
sizes-filter taps form (Fir (Some u) None d ∷ gs) = omega arith
sizes-filter taps form (Fir (Some u) (Some f) d ∷ gs) = omega arith
sizes-filter taps form (DownCic r n m ∷ gs) = omega arith
sizes-filter taps form (UpCic r n m ∷ gs) = omega arith
sizes-filter taps form (Rounding s m ∷ gs) = omega arith
sizes-filter taps form (Clipping bits ∷ gs) = omega arith

sizes-groups : (es : List Element) → sizes (groups es) ≡ length es
sizes-groups [] = refl
sizes-groups (Up factor ∷ es) = sizes-up (size factor) (groups es) ∙ ap suc (sizes-groups es)
sizes-groups (Filter taps form ∷ es) = sizes-filter taps form (groups es) ∙ ap suc (sizes-groups es)
sizes-groups (Down factor ∷ es) = let e = sizes-groups es in omega (arith, e)
sizes-groups (CicDown factor stages delay ∷ es) = let e = sizes-groups es in omega (arith, e)
sizes-groups (CicUp factor stages delay ∷ es) = let e = sizes-groups es in omega (arith, e)
sizes-groups (Round shift mode ∷ es) = let e = sizes-groups es in omega (arith, e)
sizes-groups (Clip bits ∷ es) = let e = sizes-groups es in omega (arith, e)

sizes-front : (first left : List Group) → sizes first ≤ sizes (first ++ left)
sizes-front [] left = omega arith
sizes-front (g ∷ gs) left = let e = sizes-front gs left in omega (arith, e)

pub sizes-within : (es : List Element) (first left : List Group) → groups es ≡ first ++ left → sizes first ≤ length es
sizes-within es first left is = subst (λ (n : ℕ). sizes first ≤ n) (ap sizes (sym is) ∙ sizes-groups es) (sizes-front first left)
