-- Each premise on the schema and on the table is needed for typed copies too: if one premise does not
-- hold, and all others do, the typed condition of a check evaluates to another outcome than the
-- condition.
use Rattle.std.specs.Prelude.{◌≡◌, true, false, [], ◌∷◌, Some, None, codes}
use Rattle.cedar_types.specs.declared.base.expressions.extensions.ExtensionTableError.TheVariants.{BadReturnType}
use Rattle.cedar_types.specs.declared.base.expressions.operators.Var.{Var}
use Rattle.cedar_types.specs.declared.base.types.ValidationMode.{ValidationMode}
use Rattle.cedar_types.specs.declared.base.types.ValidationMode.TheVariants.{Strict, Permissive}
use Rattle.cedar_types.specs.Environments.RequestEnvs.{Declared}
use Rattle.cedar_types.specs.Expressions.Tree.{Shape, var, and, if_then_else}
use Rattle.cedar_types.specs.Extensions.Functions.{ExtensionFunction, table_fault}
use Rattle.cedar_types.specs.Names.{Path}
use Rattle.cedar_types.specs.Schemas.Formed.{has_formed_types}
use Rattle.cedar_types.specs.Schemas.{Schema, has_fault}
use Rattle.cedar_types.specs.Types.{Ty, TRecord}
use Rattle.cedar_typing.specs.Evaluation.Conformance.{IsEnvironmentOf, has_external}
use Rattle.cedar_typing.specs.Evaluation.World.{World}
use Rattle.cedar_typing.specs.Examples.Expressions.{false_lit, one, two, the, has, is_in, call0, record2, numbered}
use Rattle.cedar_typing.specs.Examples.Greeting.{stored_action}
use Rattle.cedar_typing.specs.Examples.NeededPremises.{guest_basis, guest_greeting, guest_has_role}
use Rattle.cedar_typing.specs.Examples.Permissive.{twice_a, twice_context, twice_schema, twice_basis, twice_greeting, either_has_b}
use Rattle.cedar_typing.specs.Examples.PolicySoundness.{sample_basis, meeting}
use Rattle.cedar_typing.specs.Examples.World.{named, greet, meet, a_context, declared_user, declared_greet, declared_group, sample_schema, unchecked}
use Rattle.cedar_typing.specs.Examples.World.{users_greet}
use Rattle.cedar_typing.specs.PolicyCheck.{Verdict, PolicyChecks}
use Rattle.cedar_typing.specs.Setting.{Setting}
use Rattle.cedar_typing.specs.Soundness.Policies.{Basis, setting_on}
use Rattle.cedar_typing.specs.Soundness.{IsWorldOf}
use Rattle.cedar_typing.specs.TypedCopies.{VerdictMeansTheSame}
use Rattle.cedar_typing.specs.TypedExpr.{Source}

-- the check of e has a typed condition that evaluates to another outcome in the world
abbrev pub MeansAnother : Setting → World → Source → Type 0
MeansAnother s world e =
    (v : Verdict) × PolicyChecks s e v × (VerdictMeansTheSame world e v → ⊥)

-- users greet users in this context, and no slot is linked
abbrev pub greeting_by : Basis → Ty → Setting
greeting_by b t = setting_on b (codes "policy0") (Declared (users_greet t) None None)

abbrev pub and_false : Shape → Source
and_false e = numbered (and tt e false_lit)

-- in a mode and in a world that fits this context, the typed copy of `e && false` evaluates to
-- another outcome
pub record DiffersIn (m : ValidationMode) (b : Basis) (t : Ty) (world : World) (e : Shape) :
    Type 0 where
  pub mode : b.mode ≡ m
  pub environment : IsEnvironmentOf b.schema (Declared (users_greet t) None None)
  pub fits : IsWorldOf (greeting_by b t) world
  pub another : MeansAnother (greeting_by b t) world (and_false e)

-- ---- external types

-- `Guest::"g".hasTag("role") && false`, of an external type. The left side, which is true, stands for
-- the whole
pub record ClosedSchemaIsNeededIn (m : ValidationMode) : Type 0 where
  pub faultless : has_fault (guest_basis m).schema ≡ false
  pub formed : has_formed_types (guest_basis m).schema ≡ true
  pub functions : table_fault (guest_basis m).table.functions ≡ None
  pub differs : DiffersIn m (guest_basis m) a_context guest_greeting guest_has_role

-- ---- a fault of the schema

-- `Action::"meet"`, declared once without descendants, and once more with greet
abbrev pub meet_twice : Schema
meet_twice = record {
  types = declared_user ∷ [];
  actions = declared_greet ∷ declared_group meet [] ∷ declared_group meet (greet ∷ []) ∷ [];
}

abbrev pub meet_twice_basis : ValidationMode → Basis
meet_twice_basis m = record (sample_basis m) { schema = meet_twice }

abbrev pub greeting_at_meet : World
greeting_at_meet = record meeting {
  store = (greet, stored_action (meet ∷ [])) ∷ (meet, stored_action []) ∷ [];
}

-- `action in Action::"meet" && false`
abbrev pub greet_in_meet : Shape
greet_in_meet = is_in (var tt Var.Action) (the meet)

pub record FaultlessSchemaIsNeededIn (m : ValidationMode) : Type 0 where
  pub closed : has_external meet_twice ≡ false
  pub formed : has_formed_types meet_twice ≡ true
  pub functions : table_fault (meet_twice_basis m).table.functions ≡ None
  pub differs : DiffersIn m (meet_twice_basis m) a_context greeting_at_meet greet_in_meet

-- ---- names that do not ascend, in Permissive

-- `(if resource has vip then context.twice else context.both) has b && false`: the bound of both
-- records has no `b`
pub record FormIsNeededForCopies : Type 0 where
  pub closed : has_external twice_schema ≡ false
  pub faultless : has_fault twice_schema ≡ false
  pub functions : table_fault twice_basis.table.functions ≡ None
  pub unformed : has_formed_types twice_schema ≡ false
  pub differs : DiffersIn Permissive twice_basis twice_context twice_greeting either_has_b

-- ---- a fault of the table, in Permissive

-- a function of which the table says that it gives a record with two attributes of one name, and
-- which gives nothing
abbrev pub twice : Path
twice = named (codes "twice")

abbrev pub twice_function : ExtensionFunction
twice_function = unchecked twice [] false (TRecord twice_a false)

abbrev pub faulty_table_basis : Basis
faulty_table_basis = record (sample_basis Permissive) {
  table = record { functions = twice_function ∷ []; overloaded_types = [] };
}

abbrev pub without_calls : World
without_calls = record meeting {
  functions = record { calls = []; overloaded_types = []; less = []; less_or_equal = [] };
}

-- `(if resource has vip then twice() else {a: 1, b: 2}) has b && false`, in a world in which bob has
-- no mark
abbrev pub made_has_b : Shape
made_has_b =
    has
    (if_then_else tt (has (var tt Var.Resource) (codes "vip")) (call0 twice)
    (record2 (codes "a") one (codes "b") two))
    (codes "b")

pub record FaultlessTableIsNeeded : Type 0 where
  pub closed : has_external sample_schema ≡ false
  pub faultless : has_fault sample_schema ≡ false
  pub formed : has_formed_types sample_schema ≡ true
  pub faulty : table_fault faulty_table_basis.table.functions ≡ Some BadReturnType
  pub differs : DiffersIn Permissive faulty_table_basis a_context without_calls made_has_b

-- ---- all of these premises

pub record CopyPremisesAreNeededIn (m : ValidationMode) : Type 0 where
  pub closed : ClosedSchemaIsNeededIn m
  pub faultless : FaultlessSchemaIsNeededIn m

pub record CopyPremisesAreNeeded : Type 0 where
  pub strict : CopyPremisesAreNeededIn Strict
  pub permissive : CopyPremisesAreNeededIn Permissive
  pub formed : FormIsNeededForCopies
  pub table : FaultlessTableIsNeeded
