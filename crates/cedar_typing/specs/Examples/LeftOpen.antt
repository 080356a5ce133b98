-- Cases that the premises leave open, of requests, of stores and of scopes. In one world alice
-- visits herself; her request comes with sets; no slot is bound; and the store has two entries for
-- her, of which the second fits nothing. In another the resource is an action, and the principal is
-- not stored. Still all premises of the promises on a policy hold.
use Rattle.std.specs.Prelude.{◌≡◌, true, false, List, [], ◌∷◌, Some, None, codes}
use Rattle.cedar_types.specs.declared.base.names.slots.SlotId.{SlotId}
use Rattle.cedar_types.specs.declared.base.types.BoolType.TheVariants.{AnyBool}
use Rattle.cedar_types.specs.declared.base.types.ValidationMode.{ValidationMode}
use Rattle.cedar_types.specs.declared.base.types.ValidationMode.TheVariants.{Strict, Permissive}
use Rattle.cedar_types.specs.Extensions.Functions.{table_fault}
use Rattle.cedar_types.specs.Schemas.Formed.{has_formed_types}
use Rattle.cedar_types.specs.Names.{Uid, is_action_path}
use Rattle.cedar_types.specs.Schemas.{DeclaredType, DeclaredAction, Schema, has_fault}
use Rattle.cedar_types.specs.Values.Stores.{Entity, Store, entity_at}
use Rattle.cedar_types.specs.Templates.{to_entity, any, equal, typed_within, equal_action, PlainTemplate, condition_of}
use Rattle.cedar_types.specs.Expressions.Tree.{Shape, and}
use Rattle.cedar_types.specs.Types.{Ty, TBool, TString, TSet, TRecord, no_attrs, attr}
use Rattle.cedar_types.specs.Values.{VBool, VEntity, VSet, VRecord, no_entries, more_entries}
use Rattle.cedar_typing.specs.Evaluation.Eval.{eval}
use Rattle.cedar_typing.specs.Evaluation.World.{World, MissingEntity, Gives, Fails}
use Rattle.cedar_typing.specs.Examples.Composition.{template, a_user_type, the_entity}
use Rattle.cedar_typing.specs.Examples.Expressions.{principal, context, text, dot, contains}
use Rattle.cedar_typing.specs.Examples.Greeting.{words, one_value, two_values, stored_action, sample_functions, asks}
use Rattle.cedar_typing.specs.Examples.Permissive.{team, staff}
use Rattle.cedar_typing.specs.Examples.PolicySoundness.{sample_basis, Passes}
use Rattle.cedar_typing.specs.Examples.World.{user, alice, bob, gone, an_action_named, a_user, standard_type, requested, with_action}
use Rattle.cedar_typing.specs.Soundness.Policies.{Basis, IsSoundAndClosed, IsNamedBySchema, IsWellFormed, IsConforming}

-- every premise of the promises on a policy that passes, in a mode
pub record AllHoldIn (m : ValidationMode) (b : Basis) (t : PlainTemplate) (world : World) : Type 0 where
  pub faultless : has_fault b.schema ≡ false
  pub formed : has_formed_types b.schema ≡ true
  pub faultless_functions : table_fault b.table.functions ≡ None
  pub passes : Passes b t
  pub mode : b.mode ≡ m
  pub basis : IsSoundAndClosed b
  pub named : IsNamedBySchema b.schema t
  pub well_formed : IsWellFormed t world.slots
  pub conforming : IsConforming b world

-- ---- the schema

-- `Action::"visit"`
abbrev pub visit : Uid
visit = an_action_named (codes "visit")

-- users are active or not, and may be in teams
abbrev pub declared_visitor : DeclaredType
declared_visitor =
    standard_type user [] (attr (codes "active") (TBool AnyBool) true no_attrs) None

abbrev pub declared_team : DeclaredType
declared_team = standard_type team (user ∷ []) no_attrs None

-- `{by: Set<User>, notes: {labels: Set<String>}}`
abbrev pub visit_context : Ty
visit_context =
    TRecord
    (attr (codes "by") (TSet a_user) true
    (attr (codes "notes") (TRecord (attr (codes "labels") (TSet TString) true no_attrs) false) true
    no_attrs))
    false

-- users visit users, and the action itself
abbrev pub declared_visit : DeclaredAction
declared_visit = requested visit (user ∷ []) (user ∷ visit.entity_type ∷ []) visit_context

abbrev pub visit_schema : Schema
visit_schema = with_action (declared_visitor ∷ declared_team ∷ []) declared_visit

-- the basis of this schema and the sample functions, in a mode
abbrev pub visit_basis : ValidationMode → Basis
visit_basis m = record (sample_basis m) { schema = visit_schema }

-- ---- the worlds

-- an active user, in these entities
abbrev pub active_in : List Uid → Entity
active_in us = record {
  attributes = more_entries (codes "active") (VBool true) no_entries;
  ancestors = us;
  tags = no_entries;
}

-- alice is active, and in the staff
abbrev pub stored_alice : Entity
stored_alice = active_in (staff ∷ [])

-- attributes that no user may have
abbrev pub unread : Entity
unread = record {
  attributes = more_entries (codes "active") (words (codes "yes")) no_entries;
  ancestors = bob ∷ [];
  tags = more_entries (codes "role") (words (codes "admin")) no_entries;
}

abbrev pub stored_bob : Entity
stored_bob = active_in []

abbrev pub visit_store : Store
visit_store =
    (alice, stored_alice)
    ∷ (alice, unread)
    ∷ (bob, stored_bob)
    ∷ (visit, stored_action [])
    ∷ []

-- alice visits herself, by alice and by an entity that is not stored
abbrev pub visiting : World
visiting = record {
  request =
      asks alice visit alice
      (more_entries (codes "by") (VSet (two_values (VEntity alice) (VEntity gone)))
      (more_entries (codes "notes")
      (VRecord
      (more_entries (codes "labels") (VSet (one_value (words (codes "new")))) no_entries))
      no_entries));
  slots = λ x. None;
  store = visit_store;
  functions = sample_functions;
}

-- the entity that is not stored visits the action
abbrev pub visiting_an_action : World
visiting_an_action = record visiting {
  request = record visiting.request { principal = gone; resource = visit };
}

-- ---- policies

-- `context.by.contains(principal) && (context.notes.labels.contains("new") && principal.active)`
abbrev pub is_new : Shape
is_new =
    and tt (contains (dot context (codes "by")) principal)
    (and tt
    (contains (dot (dot context (codes "notes")) (codes "labels")) (text (codes "new")))
    (dot principal (codes "active")))

-- `permit(principal, action == Action::"visit", resource is User in Team::"staff") when { .. }` with
-- this condition
abbrev pub users_visit : PlainTemplate
users_visit =
    record (template any (typed_within a_user_type (to_entity (the_entity staff))) (Some is_new)) {
      action = equal_action (the_entity visit);
    }

-- `permit(principal, action, resource == Action::"visit") when { .. }` with this condition
abbrev pub action_is_visited : PlainTemplate
action_is_visited = template any (equal (to_entity (the_entity visit))) (Some is_new)

-- ---- all premises hold together

pub record PremisesLeaveOpenIn (m : ValidationMode) : Type 0 where
  -- the principal is the resource, no slot is bound, and of two entries the first counts
  pub herself : AllHoldIn m (visit_basis m) users_visit visiting
  pub same : visiting.request.principal ≡ visiting.request.resource
  pub unbound : (x : SlotId) → visiting.slots x ≡ None
  pub first : entity_at visiting.store alice ≡ Some stored_alice
  pub evaluates : eval visiting (condition_of users_visit) ≡ Gives (VBool true)
  -- the resource is an action, and the principal is not stored
  pub an_action : AllHoldIn m (visit_basis m) action_is_visited visiting_an_action
  pub acted_on : is_action_path visiting_an_action.request.resource.entity_type ≡ true
  pub not_stored : entity_at visiting_an_action.store visiting_an_action.request.principal ≡ None
  pub fails : eval visiting_an_action (condition_of action_is_visited) ≡ Fails MissingEntity

pub record PremisesLeaveOpen : Type 0 where
  pub strict : PremisesLeaveOpenIn Strict
  pub permissive : PremisesLeaveOpenIn Permissive
