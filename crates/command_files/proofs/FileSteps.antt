-- Steps of reading and writing whole files.
use Rattle.std.proofs.Common.{◌≡◌, ◌≤◌, ◌++◌, ℕ, List, [], Bool, true, false, cond, IsTrue, IsSome, Option, Some, length, refl, sym, ◌∙◌, ap}
use Rattle.std.specs.Ordering.{nat_cmp, eq_by_cmp}
use Rattle.std.specs.Cmp.{tied_itself}
use Rattle.std.specs.Cmp.Lexicographic.{slice_cmp, nat_list_cmp_total}
use Rattle.std.specs.FinMap.{get, insert, get-insert, same_map, slice_cmp-IsAntisymmetric, nat_cmp-IsAntisymmetric}
use Rattle.mr_values.specs.Files.{Files, bytes_of}
use Rattle.mr_values.specs.Host.{HostState, left_of}
use Rattle.command_files.specs.Ends.{AreNoFewer}

again : (b : Bool) (x y : Option (List ℕ)) (rest : Option (List ℕ)) → cond b x (cond b y rest) ≡ cond b x rest
again true x y rest = refl
again false x y rest = refl

-- what is written last counts
pub insert-insert : (files : Files) (name x y : List ℕ) → insert (insert files name x) name y ≡ insert files name y
insert-insert files name x y =
    same_map nat_list_cmp_total (slice_cmp-IsAntisymmetric nat_cmp-IsAntisymmetric) _ _
    (λ q. get-insert nat_list_cmp_total _ _ _ q ∙ ap (cond _ (Some y)) (get-insert nat_list_cmp_total _ _ _ q) ∙ again (eq_by_cmp (slice_cmp nat_cmp) q name) (Some y) (Some x) (get files q) ∙ sym (get-insert nat_list_cmp_total _ _ _ q))

pub bytes_of-insert : (files : Files) (name bytes : List ℕ) → bytes_of (insert files name bytes) name ≡ bytes
bytes_of-insert files name bytes = rw (get-insert nat_list_cmp_total files name bytes name, tied_itself nat_list_cmp_total name)

-- to open an output and append to it is to write the file
pub written : (old opened new : Files) (name output more : List ℕ) → opened ≡ insert old name [] → output ≡ name → new ≡ insert opened output (bytes_of opened output ++ more) → new ≡ insert old name more
written old opened new name output more emptied same grown =
    let there : new ≡ insert (insert old name []) name (bytes_of (insert old name []) name ++ more) = grown ∙ rw (same, emptied) in
    there ∙ rw (bytes_of-insert old name [], insert-insert old name [] more)

-- to write a file and then give it other bytes
pub rewritten : (files : Files) (name x y z : List ℕ) → insert (insert (insert files name x) name y) name z ≡ insert files name z
rewritten files name x y z = insert-insert (insert files name x) name y z ∙ insert-insert files name x z

-- What was read so far, where the host tells its files.
pub record ToldSoFar (name seen : List ℕ) (start now : HostState) : Type 0 where
  pub struck : now.struck ≡ start.struck
  pub files : now.files ≡ start.files
  pub output : now.output ≡ start.output
  pub input : now.input ≡ name
  pub is_there : IsSome (get start.files name)
  pub bytes : bytes_of start.files name ≡ seen ++ left_of now
  pub ends : AreNoFewer start.ends now.ends

pub record ReadSoFar (name seen : List ℕ) (limit : ℕ) (start now : HostState) : Type 0 where
  pub has_input : now.has_input ≡ true
  pub has_output : now.has_output ≡ start.has_output
  pub same_kind : now.tells ≡ start.tells
  pub unmoved : now.faults ≡ start.faults
  pub short : length seen ≤ limit
  pub told : IsTrue start.tells → ToldSoFar name seen start now
