-- The cycles of a run and of an uncut run, by their places, and the ticks up to a place.
use Rattle.std.proofs.Common.{◌≡◌, ℕ, zero, suc, ◌+◌, Bool, true, false, cond, List, [], ◌∷◌, length, map, take, drop, Some, slice_get, refl, sym, ◌∙◌, ap, arith, subst}
use Rattle.std.specs.Prelude.{slice_index}
use Rattle.verilog_tree.specs.Tree.{Design}
use Rattle.verilog_tree.specs.Meaning.{Values}
use Rattle.verilog_tree.specs.Circuit.{Circuit, Input, IsRun, IsSettling, with_inputs, next}
use Rattle.verilog_tree.specs.Shown.{Cycle}
use Rattle.verilog_tree.specs.Uncut.{Numbers, IsUncut, IsUncutRun, whole_next}
use Rattle.net_module.specs.Steps.{HasNoReset, tick_data, ticks_in}

nothing_there : {A : Type 0} (xs : List A) (j : ℕ) (x : A) → xs ≡ [] → slice_get xs j ≡ Some x → ⊥
nothing_there xs j x is at = let none : slice_get {X = _} [] j ≡ Some x = ap (λ ys. slice_get ys j) (sym is) ∙ at in cc

first_is : {A : Type 0} (xs rest : List A) (x y : A) → xs ≡ x ∷ rest → slice_get xs 0 ≡ Some y → x ≡ y
first_is xs rest x y is at = let same : Some x ≡ Some y = sym (ap (λ ys. slice_get ys 0) is) ∙ at in cc

pub later_is : {A : Type 0} (xs rest : List A) (x y : A) (j : ℕ) → xs ≡ x ∷ rest → slice_get xs (suc j) ≡ Some y → slice_get rest j ≡ Some y
later_is xs rest x y j is at = sym (ap (λ ys. slice_get ys (suc j)) is) ∙ at

pub slice_get-drop : {A : Type 0} (n j : ℕ) (xs : List A) → slice_get (drop n xs) j ≡ slice_get xs (n + j)
slice_get-drop zero j xs = ap (slice_get xs) (let e : j ≡ 0 + j = omega arith in e)
slice_get-drop (suc n) j [] = let none : suc n + j ≡ suc (n + j) = omega arith in sym (ap (slice_get []) none)
slice_get-drop (suc n) j (x ∷ xs) = slice_get-drop n j xs ∙ (let over : suc (n + j) ≡ suc n + j = omega arith in ap (slice_get (x ∷ xs)) over)

-- ---- runs

-- the cycle at a place of a run
pub record CycleAt (c : Circuit) (name : Cycle → List Input) (cycles : List Cycle) (j : ℕ) (now : Values) : Type 0 where
  pub cycle : Cycle
  pub there : slice_get cycles j ≡ Some cycle
  pub content : Values
  pub settling : IsSettling c (with_inputs (name cycle) content) now

pub cycle_at : (c : Circuit) (name : Cycle → List Input) (cycles : List Cycle) (content : Values) (settled : List Values) (j : ℕ) (now : Values)
    → IsRun c content (map name cycles) settled → slice_get settled j ≡ Some now → CycleAt c name cycles j now
cycle_at c name [] content settled j now run at = absurd (nothing_there settled j now run at)
cycle_at c name (x ∷ cycles) content settled zero now (values, rest, is, settling, run) at = record {
  cycle = x;
  there = refl;
  content = content;
  settling = subst (IsSettling c (with_inputs (name x) content)) (first_is settled rest values now is at) settling;
}
cycle_at c name (x ∷ cycles) content settled (suc j) now (values, rest, is, settling, run) at =
    let later = cycle_at c name cycles (next c values) rest j now run (later_is settled rest values now j is at) in
    record { cycle = later.cycle; there = later.there; content = later.content; settling = later.settling }

-- ---- uncut runs

-- the numbers of a cycle, beside its patterns, from these numbers of the registers
pub record UncutAt (d : Design) (settled : List Values) (j : ℕ) (start now : Numbers) : Type 0 where
  pub values : Values
  pub there : slice_get settled j ≡ Some values
  pub numbers : IsUncut d start values now

-- the numbers of a cycle after another
pub record UncutAfter (d : Design) (settled : List Values) (uncut : List Numbers) (j : ℕ) (now : Numbers) : Type 0 where
  pub start : Numbers
  pub before : Numbers
  pub earlier : slice_get uncut j ≡ Some before
  pub first : UncutAt d settled j start before
  pub then : UncutAt d settled (suc j) (whole_next d before) now

uncut_first : (d : Design) (start : Numbers) (settled : List Values) (uncut : List Numbers) (now : Numbers) → IsUncutRun d start settled uncut → slice_get uncut 0 ≡ Some now → UncutAt d settled 0 start now
uncut_first d start [] uncut now run at = absurd (nothing_there uncut 0 now run at)
uncut_first d start (values ∷ settled) uncut now (numbers, rest, is, one, run) at =
    record { values = values; there = refl; numbers = subst (IsUncut d start values) (first_is uncut rest numbers now is at) one }

pub uncut_after : (d : Design) (start : Numbers) (settled : List Values) (uncut : List Numbers) (j : ℕ) (now : Numbers) → IsUncutRun d start settled uncut → slice_get uncut (suc j) ≡ Some now
    → UncutAfter d settled uncut j now
uncut_after d start [] uncut j now run at = absurd (nothing_there uncut (suc j) now run at)
uncut_after d start (values ∷ settled) uncut zero now (numbers, rest, is, one, run) at =
    let second = uncut_first d (whole_next d numbers) settled rest now run (later_is uncut rest numbers now 0 is at) in
    record {
      start = start;
      before = numbers;
      earlier = ap (λ (ns : List Numbers). slice_get ns 0) is;
      first = record { values = values; there = refl; numbers = one };
      then = record { values = second.values; there = second.there; numbers = second.numbers };
    }
uncut_after d start (values ∷ settled) uncut (suc j) now (numbers, rest, is, one, run) at =
    let later = uncut_after d (whole_next d numbers) settled rest j now run (later_is uncut rest numbers now (suc j) is at) in
    record {
      start = later.start;
      before = later.before;
      earlier = ap (λ (ns : List Numbers). slice_get ns (suc j)) is ∙ later.earlier;
      first = record { values = later.first.values; there = later.first.there; numbers = later.first.numbers };
      then = record { values = later.then.values; there = later.then.there; numbers = later.then.numbers };
    }

-- ---- ticks

same_cycle : (c d : Cycle) → Some c ≡ Some d → c ≡ d
same_cycle c d e = cc

pub no_reset_at : (cycles : List Cycle) (j : ℕ) (c : Cycle) → HasNoReset cycles → slice_get cycles j ≡ Some c → c.rst ≡ false
no_reset_at [] j c none at = absurd (nothing_there {A = Cycle} [] j c refl at)
no_reset_at (x ∷ cycles) zero c none at = ap (λ (d : Cycle). d.rst) (sym (same_cycle x c at)) ∙ none.0
no_reset_at (x ∷ cycles) (suc j) c none at = no_reset_at cycles j c none.1 at

-- the ticks after one more cycle
abbrev pub one_more : Bool → ℕ → ℕ
one_more true n = suc n
one_more false n = n

pub ticks_after_one : (cycles : List Cycle) (j : ℕ) (c : Cycle) → slice_get cycles j ≡ Some c → ticks_in (take (suc j) cycles) ≡ one_more c.ce (ticks_in (take j cycles))
ticks_after_one [] j c at = absurd (nothing_there {A = Cycle} [] j c refl at)
ticks_after_one (x ∷ cycles) zero c at = by x.ce ∙ ap (λ (d : Cycle). one_more d.ce 0) (same_cycle x c at)
  where
    by : (b : Bool) → length (cond b (x.in_data ∷ []) []) ≡ one_more b 0
    by true = refl
    by false = refl
ticks_after_one (x ∷ cycles) (suc j) c at = by x.ce (ticks_after_one cycles j c at)
  where
    by : (b : Bool) → ticks_in (take (suc j) cycles) ≡ one_more c.ce (ticks_in (take j cycles))
        → length (cond b (x.in_data ∷ tick_data (take (suc j) cycles)) (tick_data (take (suc j) cycles))) ≡ one_more c.ce (length (cond b (x.in_data ∷ tick_data (take j cycles)) (tick_data (take j cycles))))
    by false e = e
    by true e = ap suc e ∙ over c.ce
      where
        over : (a : Bool) → suc (one_more a (ticks_in (take j cycles))) ≡ one_more a (suc (ticks_in (take j cycles)))
        over true = refl
        over false = refl

-- the sample at a tick is the input of its cycle
pub sample_at : (cycles : List Cycle) (j : ℕ) (c : Cycle) → slice_get cycles j ≡ Some c → c.ce ≡ true → slice_index (tick_data cycles) (ticks_in (take j cycles)) ≡ c.in_data
sample_at [] j c at on = absurd (nothing_there {A = Cycle} [] j c refl at)
sample_at (x ∷ cycles) zero c at on =
    let same = same_cycle x c at in
    let ticks : x.ce ≡ true = ap (λ (d : Cycle). d.ce) same ∙ on in
    rw ticks (ap (λ (d : Cycle). d.in_data) same)
sample_at (x ∷ cycles) (suc j) c at on = by x.ce (sample_at cycles j c at on)
  where
    by : (b : Bool) → slice_index (tick_data cycles) (ticks_in (take j cycles)) ≡ c.in_data
        → slice_index (cond b (x.in_data ∷ tick_data cycles) (tick_data cycles)) (length (cond b (x.in_data ∷ tick_data (take j cycles)) (tick_data (take j cycles)))) ≡ c.in_data
    by true e = e
    by false e = e
