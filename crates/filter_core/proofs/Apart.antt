-- The file that a command reads row by row isn't the one that it writes.
use Rattle.std.proofs.Common.{◌≡◌, ◌≢◌, ◌∙◌, ℕ, Bool, cond, true, false, not, ◌&&◌, List, [], ◌∷◌, codes, Option, Some, None, option_map, sym, ap, subst, refl}
use Rattle.std.specs.Str.{bytes_eq}
use Rattle.std.specs.Cmp.Lexicographic.{nat_list_eq_equiv}
use Rattle.filter_core.specs.CommandWords.{CommandWords, compile_words, run_words, sim_words, order_words, extreme_words, noble_words, migrate_words, demo_words, is_file, are_two_files, are_three_files, number_of, command_of_two, command_of_three, command_of_four, command_of, AreApart}

abbrev AreApartIn : Option CommandWords → Type 0
AreApartIn None = Unit {0}
AreApartIn (Some command) = AreApart command

apart_by : (b : Bool) (x y : Option CommandWords) → (b ≡ true → AreApartIn x) → (b ≡ false → AreApartIn y) → AreApartIn (cond b x y)
apart_by true x y first second = first refl
apart_by false x y first second = second refl

last_of : (a b : Bool) → (a && b) ≡ true → b ≡ true
last_of true b is = is
last_of false b is = absurd (cc)

first_of : (a b : Bool) → (a && b) ≡ true → a ≡ true
first_of true b is = refl
first_of false b is = absurd (cc)

two_apart : (a b : List ℕ) → are_two_files a b ≡ true → a ≢ b
two_apart a b are same =
    let differ : not (bytes_eq a b) ≡ true = last_of (is_file a && is_file b) (not (bytes_eq a b)) are in
    let equal : bytes_eq a b ≡ true = subst (λ (other : List ℕ). bytes_eq a other ≡ true) same (nat_list_eq_equiv.refl a) in
    let e : not true ≡ true = ap (λ (t : Bool). not t) (sym equal) ∙ differ in
    absurd (cc)

three_apart : (a b c : List ℕ) → not (are_three_files a b c) ≡ false → b ≢ c
three_apart a b c are = two_apart b c (last_of (are_two_files a b && are_two_files a c) (are_two_files b c) (true_of (are_three_files a b c) are))
  where
    true_of : (x : Bool) → not x ≡ false → x ≡ true
    true_of true is = refl
    true_of false is = absurd (cc)

apart_two : (word a b : List ℕ) → AreApartIn (command_of_two word a b)
apart_two word a b = apart_by (bytes_eq word (codes "noble")) _ _
    (λ is. apart_by (are_two_files a b) (Some (noble_words a b)) None (λ h. tt) (λ h. tt))
    (λ isnt. apart_by (bytes_eq word (codes "migrate")) _ _
    (λ is. apart_by (are_two_files a b) (Some (migrate_words a b)) None (λ h. tt) (λ h. tt))
    (λ isnt. apart_by (bytes_eq word (codes "demo") && is_file b) _ None (λ h. demo (number_of a)) (λ h. tt)))
  where
    demo : (number : Option ℕ) → AreApartIn (option_map (λ n. demo_words n b) number)
    demo None = tt
    demo (Some n) = tt

apart_three : (word a b c : List ℕ) → AreApartIn (command_of_three word a b c)
apart_three word a b c = apart_by (bytes_eq word (codes "extreme")) _ _
    (λ is. apart_by (are_two_files a c) (Some (extreme_words a b c)) None (λ h. tt) (λ h. tt))
    (λ isnt. apart_by (not (are_three_files a b c)) None _ (λ h. tt) (λ are.
    let apart = three_apart a b c are in
    apart_by (bytes_eq word (codes "compile")) (Some (compile_words a b c)) _ (λ h. tt) (λ h.
    apart_by (bytes_eq word (codes "run")) (Some (run_words a b c)) _ (λ h. apart) (λ h.
    apart_by (bytes_eq word (codes "sim")) (Some (sim_words a b c)) None (λ h. apart) (λ h. tt)))))

apart_four : (word a b c d : List ℕ) → AreApartIn (command_of_four word a b c d)
apart_four word a b c d = apart_by (bytes_eq word (codes "order") && are_three_files a b c) _ None (λ is. order (number_of d) (last_of (bytes_eq word (codes "order")) (are_three_files a b c) is)) (λ h. tt)
  where
    order : (number : Option ℕ) → are_three_files a b c ≡ true → AreApartIn (option_map (λ n. order_words a b c n) number)
    order None are = tt
    order (Some n) are = two_apart b c (last_of (are_two_files a b && are_two_files a c) (are_two_files b c) are)

apart_in : (words : List (List ℕ)) → AreApartIn (command_of words)
apart_in [] = tt
apart_in (word ∷ []) = tt
apart_in (word ∷ a ∷ []) = tt
apart_in (word ∷ a ∷ b ∷ []) = apart_two word a b
apart_in (word ∷ a ∷ b ∷ c ∷ []) = apart_three word a b c
apart_in (word ∷ a ∷ b ∷ c ∷ d ∷ []) = apart_four word a b c d
apart_in (word ∷ a ∷ b ∷ c ∷ d ∷ e ∷ words) = tt

pub are_apart : (words : List (List ℕ)) (command : CommandWords) → command_of words ≡ Some command → AreApart command
are_apart words command is = subst AreApartIn is (apart_in words)
