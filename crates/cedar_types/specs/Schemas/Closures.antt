-- Sets of descendants, and whether they contain the descendants of their members.
use Rattle.std.specs.Prelude.{◌≡◌, Bool, ◌&&◌, ◌||◌, List, length, Option, Some, nat_lt, ◌<◌, true}
use Rattle.std.specs.List.{list_any, list_all}
use Rattle.cedar_types.specs.Schemas.Tables.Places.{found_by_name}

-- all members of the other list are among these
abbrev pub has_all : {B : Type 0} → (B → B → Bool) → List B → List B → Bool
has_all same these others = list_all (λ b. list_any (same b) these) others

-- each descendant of a member of ds is among ds
abbrev pub is_closed : {B : Type 0} → (B → B → Bool) → (B → List B) → List B → Bool
is_closed same of ds = list_all (λ b. has_all same ds (of b)) ds

-- the declaration x has fewer descendants than ds has members, all among them, and b is one of them
abbrev pub is_below : {X B : Type 0} → (B → B → Bool) → (X → List B) → List B → B → X → Bool
is_below same own ds b x =
    nat_lt (length (own x)) (length ds) && has_all same ds (own x) && list_any (same b) (own x)

-- the descendants of b are among ds; or b descends from a declaration that has fewer descendants,
-- all among ds
abbrev pub is_kept : {X B : Type 0} → (B → B → Bool) → (X → List B) → (B → List B) → List X
    → List B → B → Bool
is_kept same own of xs ds b = has_all same ds (of b) || list_any (is_below same own ds b) xs

-- each member of ds is kept
abbrev pub are_kept : {X B : Type 0} → (B → B → Bool) → (X → List B) → (B → List B) → List X
    → List B → Bool
are_kept same own of xs ds = list_all (is_kept same own of xs ds) ds

-- the descendants of the declaration of this name; none if there is no such declaration
abbrev pub below_name : {X B : Type 0} → (B → B → Bool) → (X → B) → (Option X → List B) → List X
    → B → List B
below_name same name below xs b = below (found_by_name same name xs b)

-- the descendants of each declaration are closed
abbrev pub all_closed : {X B : Type 0} → (B → B → Bool) → (X → B) → (Option X → List B) → List X
    → Bool
all_closed same name below xs =
    list_all (λ x. is_closed same (below_name same name below xs) (below (Some x))) xs

-- a declaration whose name is among ds, and which has fewer descendants than ds has members
pub record IsBelow {X B : Type 0} (same : B → B → Bool) (name : X → B) (own : X → List B)
    (xs : List X) (ds : List B) (x : X) : Type 0 where
  pub declared : found_by_name same name xs (name x) ≡ Some x
  pub among : list_any (same (name x)) ds ≡ true
  pub fewer : length (own x) < length ds
