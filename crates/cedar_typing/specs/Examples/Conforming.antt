-- Cases that conformity leaves open. In this world an entity has an ancestor that is not stored, an
-- entity of an enumerated type is none of its members, an action is the principal, and a slot is
-- bound to an entity of a type that the schema does not know. Still all premises of the promises on
-- a policy hold.
use Rattle.std.specs.Prelude.{◌≡◌, true, false, [], ◌∷◌, Some, None, codes}
use Rattle.cedar_types.specs.declared.base.expressions.operators.UnaryOp.{UnaryOp}
use Rattle.cedar_types.specs.declared.base.expressions.operators.Var.{Var}
use Rattle.cedar_types.specs.declared.base.names.slots.SlotId.{SlotId}
use Rattle.cedar_types.specs.declared.base.types.ValidationMode.{ValidationMode}
use Rattle.cedar_types.specs.declared.base.types.ValidationMode.TheVariants.{Strict, Permissive}
use Rattle.cedar_types.specs.Schemas.Formed.{has_formed_types}
use Rattle.cedar_types.specs.Names.{Path, Uid, is_action_path}
use Rattle.cedar_types.specs.Schemas.{EnumKind, DeclaredType, DeclaredAction, Schema, knows_type, type_named, has_fault}
use Rattle.cedar_types.specs.Values.Stores.{Entity, Store, entity_at, IsStoredAncestor}
use Rattle.cedar_types.specs.Templates.{to_slot, any, within, PlainTemplate, condition_of}
use Rattle.cedar_types.specs.Expressions.Tree.{Shape, var, and, unary}
use Rattle.cedar_types.specs.Types.{TEntity, Attrs, no_attrs, attr}
use Rattle.cedar_types.specs.Values.{VBool, VEntity, no_entries, more_entries}
use Rattle.cedar_typing.specs.Evaluation.Eval.{eval}
use Rattle.cedar_typing.specs.Evaluation.World.{World, Gives}
use Rattle.cedar_typing.specs.Examples.Composition.{template}
use Rattle.cedar_typing.specs.Examples.Expressions.{the, principal, dot, equal, is_in}
use Rattle.cedar_typing.specs.Examples.Greeting.{stored_action, sample_functions, asks}
use Rattle.cedar_typing.specs.Examples.PolicySoundness.{sample_basis, Passes, policy_when}
use Rattle.cedar_typing.specs.Examples.World.{named, an_action_named, standard_type, requested, no_context, declared_group}
use Rattle.cedar_typing.specs.Soundness.Policies.{Basis, IsSoundAndClosed, IsNamedBySchema, IsWellFormed, IsConforming}

-- ---- names

abbrev pub document : Path
document = named (codes "Document")

abbrev pub folder : Path
folder = named (codes "Folder")

abbrev pub status : Path
status = named (codes "Status")

-- `Document::"report"`, which is stored, and `Folder::"attic"`, which is not
abbrev pub report : Uid
report = record { entity_type = document; eid = codes "report" }

abbrev pub attic : Uid
attic = record { entity_type = folder; eid = codes "attic" }

-- `Status::"draft"`, the one member of its type, and `Status::"lost"`, which is no member
abbrev pub draft : Uid
draft = record { entity_type = status; eid = codes "draft" }

abbrev pub lost : Uid
lost = record { entity_type = status; eid = codes "lost" }

-- `Action::"review"`, and `Action::"edit"`, above it
abbrev pub review : Uid
review = an_action_named (codes "review")

abbrev pub edit : Uid
edit = an_action_named (codes "edit")

-- `Ghost::"casper"`, of a type that is not declared
abbrev pub casper : Uid
casper = record { entity_type = named (codes "Ghost"); eid = codes "casper" }

-- ---- the schema

abbrev pub document_attributes : Attrs
document_attributes = attr (codes "status") (TEntity (status ∷ [])) true no_attrs

-- documents may be in folders, and have a status
abbrev pub declared_document : DeclaredType
declared_document = standard_type document [] document_attributes None

abbrev pub declared_folder : DeclaredType
declared_folder = standard_type folder (document ∷ []) no_attrs None

abbrev pub declared_status : DeclaredType
declared_status =
    record { name = status; descendants = []; kind = EnumKind (codes "draft" ∷ []) }

-- actions review documents
abbrev pub declared_review : DeclaredAction
declared_review = requested review (review.entity_type ∷ []) (document ∷ []) no_context

abbrev pub declared_edit : DeclaredAction
declared_edit = declared_group edit (review ∷ [])

abbrev pub review_schema : Schema
review_schema = record {
  types = declared_document ∷ declared_folder ∷ declared_status ∷ [];
  actions = declared_review ∷ declared_edit ∷ [];
}

-- the basis of this schema and the sample functions, in a mode
abbrev pub review_basis : ValidationMode → Basis
review_basis m = record (sample_basis m) { schema = review_schema }

-- ---- the world

-- the report is in the attic, and its status is `Status::"lost"`, which is no member
abbrev pub stored_report : Entity
stored_report = record {
  attributes = more_entries (codes "status") (VEntity lost) no_entries;
  ancestors = attic ∷ [];
  tags = no_entries;
}

abbrev pub stored_lost : Entity
stored_lost = record { attributes = no_entries; ancestors = []; tags = no_entries }

abbrev pub review_store : Store
review_store =
    (report, stored_report)
    ∷ (lost, stored_lost)
    ∷ (review, stored_action (edit ∷ []))
    ∷ (edit, stored_action [])
    ∷ []

-- the action reviews the report, and each slot is bound to the ghost
abbrev pub reviewing : World
reviewing = record {
  request = asks review review report no_entries;
  slots = λ x. Some casper;
  store = review_store;
  functions = sample_functions;
}

-- ---- policies

abbrev pub resource : Shape
resource = var tt Var.Resource

-- `principal in Action::"edit" && (resource in Folder::"attic" && !(resource.status ==
-- Status::"draft"))`
abbrev pub is_reviewed : Shape
is_reviewed =
    and tt (is_in principal (the edit))
    (and tt (is_in resource (the attic))
    (unary tt UnaryOp.Not (equal (dot resource (codes "status")) (the draft))))

-- `permit(principal, action, resource) when { .. }` with this condition
abbrev pub reviewed_policy : PlainTemplate
reviewed_policy = policy_when is_reviewed

-- `permit(principal, action, resource in ?resource)`
abbrev pub linked_policy : PlainTemplate
linked_policy = template any (within to_slot) None

-- ---- all premises hold together

pub record ConformityAllowsIn (m : ValidationMode) : Type 0 where
  pub faultless : has_fault review_schema ≡ false
  pub formed : has_formed_types review_schema ≡ true
  pub basis : IsSoundAndClosed (review_basis m)
  pub conforming : IsConforming (review_basis m) reviewing
  -- the ancestor that is not stored
  pub ancestor : IsStoredAncestor reviewing.store report attic
  pub not_stored : entity_at reviewing.store attic ≡ None
  -- the entity that is no member
  pub enumerated : type_named review_schema.types lost.entity_type ≡ Some declared_status
  pub stored : entity_at reviewing.store lost ≡ Some stored_lost
  -- the action that is the principal
  pub acting : is_action_path reviewing.request.principal.entity_type ≡ true
  -- the slot's entity, of an unknown type
  pub bound : reviewing.slots SlotId.Resource ≡ Some casper
  pub unknown : knows_type review_schema.types casper.entity_type ≡ false
  -- a policy that passes and is true
  pub passes : Passes (review_basis m) reviewed_policy
  pub named : IsNamedBySchema review_schema reviewed_policy
  pub well_formed : IsWellFormed reviewed_policy reviewing.slots
  pub evaluates : eval reviewing (condition_of reviewed_policy) ≡ Gives (VBool true)
  -- a policy with the slot that passes and is false
  pub linked_passes : Passes (review_basis m) linked_policy
  pub linked_named : IsNamedBySchema review_schema linked_policy
  pub linked_well_formed : IsWellFormed linked_policy reviewing.slots
  pub linked_evaluates : eval reviewing (condition_of linked_policy) ≡ Gives (VBool false)

pub record ConformityAllows : Type 0 where
  pub strict : ConformityAllowsIn Strict
  pub permissive : ConformityAllowsIn Permissive
