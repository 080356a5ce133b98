-- Request faults: a request has the fault that is found.
use Rattle.std.proofs.Common.{◌≡◌, sym, ap, subst, true, false, not, ◌&&◌, List}
use Rattle.cedar_types.proofs.Tests.{and_both}
use Rattle.cedar_types.specs.Lemmas.Comparisons.{path_same, uid_same}
use Rattle.cedar_types.specs.Names.{Path, Uid, type_of, uid_of, path_eq, uid_eq, placed_type, placed_uid}
use Rattle.cedar_types.specs.Schemas.{Application, is_among}
use Rattle.cedar_types.specs.Values.{Entries}
use Rattle.cedar_types.specs.declared.base.names.entities.EntityType.{EntityType}
use Rattle.cedar_types.specs.declared.base.names.entities.EntityUID.{EntityUID}
use Rattle.cedar_conformance.specs.RequestFaults.{application_has}
use Rattle.cedar_conformance.specs.declared.requests.RequestFault.TheVariants as fault

-- a type that a list lacks equals its copy, and the list lacks it
type_there : (ps : List Path) (s t : EntityType) → placed_type t ≡ placed_type s → is_among ps (type_of s) ≡ false
    → (path_eq (type_of t) (type_of s) && not (is_among ps (type_of s))) ≡ true
type_there ps s t same out =
    and_both (path_eq (type_of t) (type_of s)) (not (is_among ps (type_of s)))
    (subst (λ p. path_eq p (type_of s) ≡ true) (sym (ap (λ p. p.name) same)) (path_same.itself (type_of s)))
    (ap not out)

module _ (a : Application) (context : Entries) where
  pub principal_there : (s t : EntityType) (r : Path) → placed_type t ≡ placed_type s → is_among a.principals (type_of s) ≡ false
      → application_has a (type_of s) r context (fault.PrincipalType t) ≡ true
  principal_there s t r same out = type_there a.principals s t same out

  pub resource_there : (p : Path) (s t : EntityType) → placed_type t ≡ placed_type s → is_among a.principals p ≡ true
      → is_among a.resources (type_of s) ≡ false
      → application_has a p (type_of s) context (fault.ResourceType t) ≡ true
  resource_there p s t same ok out =
      and_both (is_among a.principals p) (path_eq (type_of t) (type_of s) && not (is_among a.resources (type_of s))) ok
      (type_there a.resources s t same out)

-- a copy of an id is the id
pub action_there : (u v : EntityUID) → placed_uid v ≡ placed_uid u → uid_eq (uid_of v) (uid_of u) ≡ true
action_there u v same =
    subst (λ x. uid_eq x (uid_of u) ≡ true) (sym (ap (λ p. p.uid) same)) (uid_same.itself (uid_of u))
