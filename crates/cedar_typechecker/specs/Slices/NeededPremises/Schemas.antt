-- The premises on the schema and on the table are needed: neither has a fault, nothing in the
-- schema is external, and in Permissive names ascend in its types.
use Rattle.std.specs.Prelude.{◌≡◌, Bool, true, false, [], ◌∷◌, Option, Some, None, codes}
use Rattle.cedar_types.specs.declared.base.expressions.extensions.ExtensionTableError.{ExtensionTableError}
use Rattle.cedar_types.specs.declared.base.expressions.operators.Var.{Var}
use Rattle.cedar_types.specs.declared.base.schema.errors.SchemaError.TheVariants.{DuplicateAction}
use Rattle.cedar_types.specs.declared.base.types.ValidationMode.{ValidationMode}
use Rattle.cedar_types.specs.declared.base.types.ValidationMode.TheVariants.{Permissive}
use Rattle.cedar_types.specs.Extensions.Functions.{ExtensionFunction, table_fault}
use Rattle.cedar_types.specs.Schemas.Formed.{has_formed_types}
use Rattle.cedar_types.specs.Names.{Path}
use Rattle.cedar_types.specs.Schemas.{Schema, first_fault, has_fault}
use Rattle.cedar_types.specs.Templates.{PlainTemplate}
use Rattle.cedar_types.specs.Expressions.Tree.{var, and, if_then_else, ext_has_attr}
use Rattle.cedar_types.specs.Types.{TAnyEntity}
use Rattle.cedar_types.specs.Values.{VBool, VEntity, no_values}
use Rattle.cedar_typing.specs.Evaluation.World.{Interpretation, World, MissingEntity, Gives, Fails}
use Rattle.cedar_typing.specs.Examples.CopyPremises.{twice_function}
use Rattle.cedar_typing.specs.Examples.Expressions.{the, principal, context, dot, has, equal, is_in, call0}
use Rattle.cedar_typing.specs.Examples.Greeting.{stored_action}
use Rattle.cedar_typing.specs.Examples.NeededPremises.{guest, declared_guest, a_guest}
use Rattle.cedar_typing.specs.Examples.Permissive.{twice_context, twice_greeting}
use Rattle.cedar_typing.specs.Examples.PolicySoundness.{Passes, PassesWarned, policy_when}
use Rattle.cedar_typing.specs.Examples.World.{named, alice, bob, meet, declared_group}
use Rattle.cedar_typing.specs.Soundness.Policies.{Basis, IsSoundAndClosed, IsConforming}
use Rattle.cedar_typechecker.specs.Slices.Examples.{active_of, has_guide, guide_of, resource}
use Rattle.cedar_typechecker.specs.Slices.Examples.World.{page, read, wiki_types, read_context, declared_read, wiki_basis}
use Rattle.cedar_typechecker.specs.Slices.Examples.World.{page_guided_by, guided_wiki, wiki_store, reading}
use Rattle.cedar_typechecker.specs.Slices.NeededPremises.Differing.{DiffersInSlice}

-- another schema with the sample functions, in a mode
abbrev pub by_schema : Schema → ValidationMode → Basis
by_schema s m = record (wiki_basis m) { schema = s }

-- the schema has a fault or none, names ascend in its types or not, the table has this fault or
-- none; and the world conforms
pub record ArePremises (b : Basis) (faulty formed : Bool) (fault : Option ExtensionTableError)
    (world : World) : Type 0 where
  pub of_schema : has_fault b.schema ≡ faulty
  pub of_types : has_formed_types b.schema ≡ formed
  pub of_table : table_fault b.table.functions ≡ fault
  pub of_world : IsConforming b world

-- ---- a fault of the schema

-- a schema that declares `Action::"meet"` twice: without descendants, and with `Action::"read"` as
-- one
abbrev pub twice_declared : Schema
twice_declared = record {
  types = wiki_types;
  actions =
      declared_read page read_context
      ∷ declared_group meet []
      ∷ declared_group meet (read ∷ [])
      ∷ [];
}

-- `action in Action::"meet" && resource.getTag("guide").active`, whose left side is False
abbrev pub read_is_meeting : PlainTemplate
read_is_meeting =
    policy_when (and tt (is_in (var tt Var.Action) (the meet)) (active_of (guide_of resource)))

abbrev pub meeting_to_read : World
meeting_to_read = record reading {
  store = (read, stored_action (meet ∷ [])) ∷ (meet, stored_action []) ∷ guided_wiki bob;
}

pub record FaultsGoWrongIn (m : ValidationMode) : Type 0 where
  pub fault : first_fault twice_declared ≡ Some DuplicateAction
  pub premises : ArePremises (by_schema twice_declared m) true true None meeting_to_read
  pub closed : IsSoundAndClosed (by_schema twice_declared m)
  pub goes_wrong : DiffersInSlice PassesWarned (by_schema twice_declared m) read_is_meeting 1
      meeting_to_read (Fails MissingEntity) (Gives (VBool true))

-- ---- a fault of the table

-- `owner`, a function like `twice` that gives any entity, and here gives alice
abbrev pub owner : Path
owner = named (codes "owner")

abbrev pub owner_function : ExtensionFunction
owner_function = record twice_function { name = owner; return_type = TAnyEntity }

abbrev pub alice_owns : Interpretation
alice_owns = record {
  calls = record { function = owner; arguments = no_values; value = VEntity alice } ∷ [];
  overloaded_types = [];
  less = [];
  less_or_equal = [];
}

abbrev pub owned_basis : ValidationMode → Basis
owned_basis m = record (wiki_basis m) {
  table = record { functions = owner_function ∷ []; overloaded_types = [] };
}

-- `owner() has profile`, as an extended `has` of one attribute, which has no level error on any
-- entity
abbrev pub owner_has_profile : PlainTemplate
owner_has_profile = policy_when (ext_has_attr tt (call0 owner) (codes "profile") [])

abbrev pub owned : World
owned = record reading { functions = alice_owns }

pub record TableFaultsGoWrongIn (m : ValidationMode) : Type 0 where
  pub premises :
      ArePremises (owned_basis m) false true (Some ExtensionTableError.BadReturnType) owned
  pub closed : IsSoundAndClosed (owned_basis m)
  pub goes_wrong : DiffersInSlice Passes (owned_basis m) owner_has_profile 0 owned
      (Gives (VBool false)) (Gives (VBool true))

-- ---- an external type

-- users read guests, whose type is external
abbrev pub guests : Schema
guests = record {
  types = declared_guest ∷ wiki_types;
  actions = declared_read guest read_context ∷ [];
}

-- `resource.hasTag("guide") && resource.getTag("guide").active`, whose left side is False
abbrev pub guided_guest : PlainTemplate
guided_guest = policy_when (and tt (has_guide resource) (active_of (guide_of resource)))

-- a world in which a guest has a guide all the same
abbrev pub reading_a_guest : World
reading_a_guest = record reading {
  request = record reading.request { resource = a_guest };
  store = (a_guest, page_guided_by bob) ∷ wiki_store;
}

pub record ExternalTypesGoWrongIn (m : ValidationMode) : Type 0 where
  pub premises : ArePremises (by_schema guests m) false true None reading_a_guest
  pub mode : (by_schema guests m).mode ≡ m
  pub goes_wrong : DiffersInSlice PassesWarned (by_schema guests m) guided_guest 1
      reading_a_guest (Fails MissingEntity) (Gives (VBool true))

pub record SchemasAreNeededIn (m : ValidationMode) : Type 0 where
  pub faults : FaultsGoWrongIn m
  pub table : TableFaultsGoWrongIn m
  pub closed : ExternalTypesGoWrongIn m

-- ---- names that do not ascend

-- the context has a record of two attributes, and one that has one name twice
abbrev pub unformed : Schema
unformed = record { types = wiki_types; actions = declared_read page twice_context ∷ [] }

abbrev pub unformed_basis : Basis
unformed_basis = by_schema unformed Permissive

-- `(if principal == User::"bob" then context.twice else context.both) has b && principal.active`,
-- whose left side is False
abbrev pub active_with_b : PlainTemplate
active_with_b =
    policy_when
    (and tt
    (has
    (if_then_else tt (equal principal (the bob)) (dot context (codes "twice"))
    (dot context (codes "both")))
    (codes "b"))
    (active_of principal))

abbrev pub reading_with_b : World
reading_with_b = record reading {
  request = record reading.request { context = twice_greeting.request.context };
}

pub record FormIsNeeded : Type 0 where
  pub premises : ArePremises unformed_basis false false None reading_with_b
  pub closed : IsSoundAndClosed unformed_basis
  pub goes_wrong : DiffersInSlice PassesWarned unformed_basis active_with_b 0 reading_with_b
      (Fails MissingEntity) (Gives (VBool true))
