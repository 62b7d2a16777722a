-- A table's keys, one after another.
use Rattle.std.proofs.Common.{◌≡◌, ◌∙◌, ℕ, Bool, true, false, not, List, [], ◌∷◌, map, Option, Some, None, option_map, String, Global, string_bytes, Bor, refl, ap, cond}
use Rattle.std.specs.List.{find}
use Rattle.toml.specs.declared.value.Value.{Value}
use Rattle.toml.specs.View.{members_view}
use Rattle.plan_reader.specs.declared.keys.Key.{Key}
use Rattle.plan_reader.specs.Fields.{is_key_of, first_other}

bytes_of_ref : (r : Option (Bor (String Global))) → option_map (λ name. string_bytes name.now) r ≡ option_map string_bytes (option_map (λ name. name.now) r)
bytes_of_ref None = refl
bytes_of_ref (Some name) = refl

found_or : (b : Bool) (name : String Global) (rest : Option (String Global)) (others : Option (List ℕ)) → option_map string_bytes rest ≡ others
    → option_map string_bytes (cond (not b) (Some name) rest) ≡ cond b others (Some (string_bytes name))
found_or true name rest others e = e
found_or false name rest others e = refl

find-keys : (known : List Key) (entries : List (String Global × Value)) → option_map string_bytes (find (λ name. not (is_key_of known (string_bytes name))) (map (λ entry. entry.0) entries)) ≡ first_other known (members_view entries)
find-keys known [] = refl
find-keys known (e ∷ entries) = found_or (is_key_of known (string_bytes e.0)) e.0 _ _ (find-keys known entries)

-- the first other key that a search finds
pub first_other-found : (known : List Key) (r : Option (Bor (String Global))) (entries : List (String Global × Value))
    → option_map (λ name. name.now) r ≡ find (λ name. not (is_key_of known (string_bytes name))) (map (λ entry. entry.0) entries)
    → option_map (λ name. string_bytes name.now) r ≡ first_other known (members_view entries)
first_other-found known r entries found = bytes_of_ref r ∙ ap (option_map string_bytes) found ∙ find-keys known entries
