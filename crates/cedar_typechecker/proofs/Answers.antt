-- The entity types and actions that a scope admits, from lists with the same members.
use Rattle.std.proofs.Common.{◌≡◌, refl, sym, ap, ◌∙◌, Bool, true, false, not, ◌&&◌, ◌||◌, List, [], ◌∷◌, map, Option, Some, None}
use Rattle.std.specs.List.{list_any}
use Rattle.std.specs.Option.{option_to_list}
use Rattle.std.specs.Prelude.{IsPermutation}
use Rattle.std.proofs.lemmas.List.Sorted.{list_any-IsPermutation}
use Rattle.std.proofs.lemmas.Map.Keys.{IsDistinct-IsPermutation}
use Rattle.cedar_types.specs.declared.base.names.entities.EntityUID.{EntityUID}
use Rattle.cedar_types.specs.Environments.Linking.{type_names}
use Rattle.cedar_types.specs.Schemas.Listings.{ListsTypes}
use Rattle.cedar_types.specs.Names.{Path, Uid, path_eq, uid_eq, uid_of, placed_uid}
use Rattle.cedar_types.specs.Schemas.{Schema, DeclaredType, DeclaredAction, Application, has_fault, has_repeat, is_among, declares_type, uid_is_among, descendants_of}
use Rattle.cedar_types.specs.Schemas.{action_named}
use Rattle.cedar_types.specs.Templates.{Scope}
use Rattle.cedar_types.proofs.Names.Ids.{path_decides, uid_decides, path_symm}
use Rattle.cedar_types.proofs.Schema.Faultless.{faultless}
use Rattle.cedar_types.proofs.Schema.Places.{any_mapped}
use Rattle.cedar_typechecker.specs.declared.rbac.flags.Side.{Side}
use Rattle.cedar_typechecker.specs.Applications.{types_on, equal_type, might_help, in_might_help}
use Rattle.cedar_typechecker.specs.Members.{SameMembers}
use Rattle.cedar_typechecker.specs.Scopes.{declarations, applications}
use Rattle.cedar_typechecker.proofs.Lists.{pass_alike, any_of_all, distinct_from, apart_from, repeat_mapped}

-- ---- entity types

-- the declared types, in any order, each once
pub declared_types : (s : Schema) → has_fault s ≡ false → (listed : List Path)
    → IsPermutation (map (λ t. t.name) s.types) listed → ListsTypes (map (λ t. t.name) s.types) listed
declared_types s faults listed order =
    let names : List Path = map (λ t. t.name) s.types in
    let apart : has_repeat path_eq names ≡ false = repeat_mapped (λ t. t.name) path_eq s.types ∙ (faultless s faults).types_apart in
    record {
      members = λ p. sym (list_any-IsPermutation (path_eq p) names listed order);
      apart = apart_from path_eq listed (IsDistinct-IsPermutation path_eq path_symm names listed order (distinct_from path_eq names apart));
    }

none_passes : {Y : Type 0} (ys : List Y) → list_any (λ y. false) ys ≡ false
none_passes [] = refl
none_passes (y ∷ ys) = none_passes ys

shuffled : (a b c d : Bool) → ((a || b) || (c || d)) ≡ ((a || c) || (b || d))
shuffled true b c d = refl
shuffled false true true d = refl
shuffled false true false d = refl
shuffled false false c d = refl

some_passes_either : {Y : Type 0} (f g : Y → Bool) (ys : List Y)
    → list_any (λ y. f y || g y) ys ≡ (list_any f ys || list_any g ys)
some_passes_either f g [] = refl
some_passes_either f g (y ∷ ys) =
    ap (λ b. (f y || g y) || b) (some_passes_either f g ys) ∙ shuffled (f y) (g y) (list_any f ys) (list_any g ys)

-- a test of pairs holds of some pair, whichever of the two is taken first
pub some_pair : {X Y : Type 0} (r : X → Y → Bool) (xs : List X) (ys : List Y)
    → list_any (λ x. list_any (r x) ys) xs ≡ list_any (λ y. list_any (λ x. r x y) xs) ys
some_pair r [] ys = sym (none_passes ys)
some_pair r (x ∷ xs) ys =
    ap (λ b. list_any (r x) ys || b) (some_pair r xs ys)
    ∙ sym (some_passes_either (r x) (λ y. list_any (λ x. r x y) xs) ys)

-- some of these types is declared if some declared type is one of these
pub declared_among : (ts : List DeclaredType) (ps : List Path)
    → list_any (declares_type ts) ps ≡ list_any (is_among ps) (type_names ts)
declared_among ts ps =
    some_pair (λ p t. path_eq p t.name) ps ts
    ∙ ap (λ f. list_any f ts) (λ i t. list_any (λ p. path_symm p t.name i) ps)
    ∙ any_mapped (λ t. t.name) (is_among ps) ts

-- ---- actions

-- the ids of actions, without their places
pub ids_of : (us : List EntityUID) → map (λ u. u.uid) (map placed_uid us) ≡ map uid_of us
ids_of [] = refl
ids_of (u ∷ us) = ap (λ vs. uid_of u ∷ vs) (ids_of us)

pub same_declarations : (acts : List DeclaredAction) (listed wanted : List Uid)
    → ((u : Uid) → uid_is_among listed u ≡ uid_is_among wanted u)
    → SameMembers (declarations acts listed) (declarations acts wanted)
same_declarations acts listed wanted h p =
    let f : Uid → List DeclaredAction = λ u. option_to_list (action_named acts u) in
    any_of_all p f listed
    ∙ pass_alike uid_eq uid_decides (λ u. list_any p (f u)) listed wanted h
    ∙ sym (any_of_all p f wanted)

pub same_applications : (xs ys : List DeclaredAction) → SameMembers xs ys → SameMembers (applications xs) (applications ys)
same_applications xs ys h p =
    let f : DeclaredAction → List Application = λ a. option_to_list a.applies_to in
    any_of_all p f xs ∙ h (λ a. list_any p (f a)) ∙ sym (any_of_all p f ys)

-- ---- the application

-- a flag, from the applications that were listed
pub flag_listed : (s : Schema) (side : Side) (c : Scope) (apps wanted : List Application) → SameMembers apps wanted
    → in_might_help s side apps c ≡ in_might_help s side wanted c
flag_listed s side c apps wanted same = along (equal_type c)
  where
    along : (o : Option Path) → might_help s side apps o ≡ might_help s side wanted o
    along None = refl
    along (Some p) = λ i.
        not (same (λ a. is_among (types_on side a) p) i)
        && same (λ a. list_any (is_among (descendants_of s.types p)) (types_on side a)) i
