-- Each premise on the mode, on the schema and on the table is needed for the types at nodes: if one
-- premise does not hold, and all others do, a node that evaluation reaches evaluates to a value of
-- another type.
use Rattle.std.specs.Prelude.{◌≡◌, true, false, Some, None, codes}
use Rattle.cedar_types.specs.declared.base.expressions.extensions.ExtensionTableError.TheVariants.{BadReturnType}
use Rattle.cedar_types.specs.declared.base.types.ValidationMode.{ValidationMode}
use Rattle.cedar_types.specs.declared.base.types.ValidationMode.TheVariants.{Strict, Permissive, Partial}
use Rattle.cedar_types.specs.Environments.RequestEnvs.{Declared}
use Rattle.cedar_types.specs.Expressions.Tree.{if_then_else}
use Rattle.cedar_types.specs.Extensions.Functions.{table_fault}
use Rattle.cedar_types.specs.Schemas.Formed.{has_formed_types}
use Rattle.cedar_types.specs.Schemas.{has_fault}
use Rattle.cedar_types.specs.Types.{Ty}
use Rattle.cedar_typing.specs.Evaluation.Conformance.{IsEnvironmentOf, has_external}
use Rattle.cedar_typing.specs.Evaluation.World.{World}
use Rattle.cedar_typing.specs.Examples.CopyPremises.{greeting_by, and_false, meet_twice, meet_twice_basis, greeting_at_meet, greet_in_meet}
use Rattle.cedar_typing.specs.Examples.CopyPremises.{faulty_table_basis, without_calls, made_has_b}
use Rattle.cedar_typing.specs.Examples.Expressions.{true_lit, one, two, has_vip, dot, less, record1, numbered}
use Rattle.cedar_typing.specs.Examples.NeededPremises.{guest_basis, guest_greeting, guest_has_role}
use Rattle.cedar_typing.specs.Examples.Permissive.{twice_context, twice_schema, twice_basis, twice_greeting, either_has_b}
use Rattle.cedar_typing.specs.Examples.PolicySoundness.{sample_basis, meeting}
use Rattle.cedar_typing.specs.Examples.World.{a_context, sample_schema, users_greet}
use Rattle.cedar_node_types.specs.NodeTypes.{ReachedFitTypes, OnTypedCondition}
use Rattle.cedar_typing.specs.PolicyCheck.{Verdict, PolicyChecks}
use Rattle.cedar_typing.specs.Soundness.Policies.{Basis}
use Rattle.cedar_typing.specs.Soundness.{IsWorldOf}
use Rattle.cedar_typing.specs.TypedExpr.{Source}

-- in a mode and in a world that fits this context, the typed condition of e has a node that evaluation
-- reaches and whose value is of another type
pub record MisfitsIn (m : ValidationMode) (b : Basis) (t : Ty) (world : World) (e : Source) :
    Type 0 where
  pub mode : b.mode ≡ m
  pub environment : IsEnvironmentOf b.schema (Declared (users_greet t) None None)
  pub fits : IsWorldOf (greeting_by b t) world
  pub verdict : Verdict
  pub checks : PolicyChecks (greeting_by b t) e verdict
  pub misfits : OnTypedCondition (ReachedFitTypes world) verdict → ⊥

-- `Guest::"g".hasTag("role") && false`, of an external type: the left side, which is true, stands for
-- the whole, and has the type False
pub record ClosedSchemaIsNeededForTypes (m : ValidationMode) : Type 0 where
  pub faultless : has_fault (guest_basis m).schema ≡ false
  pub formed : has_formed_types (guest_basis m).schema ≡ true
  pub functions : table_fault (guest_basis m).table.functions ≡ None
  pub misfits : MisfitsIn m (guest_basis m) a_context guest_greeting (and_false guest_has_role)

-- `action in Action::"meet" && false`, by a schema that declares meet twice
pub record FaultlessSchemaIsNeededForTypes (m : ValidationMode) : Type 0 where
  pub closed : has_external meet_twice ≡ false
  pub formed : has_formed_types meet_twice ≡ true
  pub functions : table_fault (meet_twice_basis m).table.functions ≡ None
  pub misfits : MisfitsIn m (meet_twice_basis m) a_context greeting_at_meet (and_false greet_in_meet)

-- `(if resource has vip then context.twice else context.both) has b && false`, by a schema in which
-- names do not ascend
pub record FormIsNeededForTypes : Type 0 where
  pub closed : has_external twice_schema ≡ false
  pub faultless : has_fault twice_schema ≡ false
  pub functions : table_fault twice_basis.table.functions ≡ None
  pub unformed : has_formed_types twice_schema ≡ false
  pub misfits :
      MisfitsIn Permissive twice_basis twice_context twice_greeting (and_false either_has_b)

-- `(if resource has vip then twice() else {a: 1, b: 2}) has b && false`, by a table whose function
-- returns a record with two attributes of one name
pub record FaultlessTableIsNeededForTypes : Type 0 where
  pub closed : has_external sample_schema ≡ false
  pub faultless : has_fault sample_schema ≡ false
  pub formed : has_formed_types sample_schema ≡ true
  pub faulty : table_fault faulty_table_basis.table.functions ≡ Some BadReturnType
  pub misfits :
      MisfitsIn Permissive faulty_table_basis a_context without_calls (and_false made_has_b)

-- `(if principal has vip then {a: 1} else {b: true}).a < 2`, in Partial, where the attribute has the
-- type Never. Alice has the mark, so its value is 1
abbrev pub attribute_of_either : Source
attribute_of_either =
    numbered
    (less
    (dot (if_then_else tt has_vip (record1 (codes "a") one) (record1 (codes "b") true_lit))
    (codes "a"))
    two)

pub record SoundModeIsNeededForTypes : Type 0 where
  pub closed : has_external sample_schema ≡ false
  pub faultless : has_fault sample_schema ≡ false
  pub formed : has_formed_types sample_schema ≡ true
  pub functions : table_fault (sample_basis Partial).table.functions ≡ None
  pub misfits : MisfitsIn Partial (sample_basis Partial) a_context meeting attribute_of_either

-- ---- all of these premises

pub record TypePremisesAreNeededIn (m : ValidationMode) : Type 0 where
  pub closed : ClosedSchemaIsNeededForTypes m
  pub faultless : FaultlessSchemaIsNeededForTypes m

pub record TypePremisesAreNeeded : Type 0 where
  pub strict : TypePremisesAreNeededIn Strict
  pub permissive : TypePremisesAreNeededIn Permissive
  pub formed : FormIsNeededForTypes
  pub table : FaultlessTableIsNeededForTypes
  pub mode : SoundModeIsNeededForTypes
