-- Silence: in Strict and in Permissive, a failure that is not cut has an error, if nothing is
-- unknown. So a condition that passes is derived.
use Rattle.std.specs.Prelude.{◌≡◌, ℕ, Bool, true, false, List, [], None}
use Rattle.std.specs.List.{list_any, flat_map}
use Rattle.cedar_types.specs.declared.base.types.BoolType.TheVariants.{False}
use Rattle.cedar_types.specs.Errors.{Finding, Warning}
use Rattle.cedar_types.specs.Extensions.Functions.{table_fault}
use Rattle.cedar_types.specs.Templates.Findings.{uids_named, types_named, is_unknown_type, is_unknown_action, unknown_types}
use Rattle.cedar_types.specs.Templates.Findings.{unknown_actions}
use Rattle.cedar_types.specs.Environments.Linking.{checked_envs}
use Rattle.cedar_types.specs.Expressions.Parts.{subexpressions}
use Rattle.cedar_types.specs.Environments.RequestEnvs.{Env}
use Rattle.cedar_types.specs.Schemas.{Schema, has_fault}
use Rattle.cedar_types.specs.Templates.{PlainTemplate, condition_of}
use Rattle.cedar_types.specs.Expressions.Tree.{Tree, unknown}
use Rattle.cedar_types.specs.Types.{Ty, TBool}
use Rattle.cedar_typing.specs.Capabilities.{Caps, no_caps}
use Rattle.cedar_typing.specs.Composition.{in_env}
use Rattle.cedar_typing.specs.Evaluation.Conformance.{IsOneOf, IsEnvironmentOf}
use Rattle.cedar_typing.specs.Modes.{IsSoundMode, IsFormedFor}
use Rattle.cedar_typing.specs.PolicyCheck.{Verdict, succeeds, irrelevant, fails, PolicyChecks}
use Rattle.cedar_typing.specs.PolicyCheck.Outcome.{is_silent, passes, PolicyOutcome}
use Rattle.cedar_typing.specs.Rules.Laws.{IsCut}
use Rattle.cedar_typing.specs.Rules.{Derives, Recovers}
use Rattle.cedar_typing.specs.Setting.{Setting}
use Rattle.cedar_typing.specs.TypeTests.{accepts, bool_types, is_false}
use Rattle.cedar_typing.specs.TypedExpr.{Source, TypedTree}

-- ---- the names in an expression

abbrev pub is_unknown : {D : Type 0} → Tree D → Bool
is_unknown (unknown d n) = true
is_unknown e = false

-- neither the expression nor a part of it at any depth is an unknown
abbrev pub HasNoUnknowns : Source → Type 0
HasNoUnknowns e = list_any is_unknown (subexpressions e) ≡ false

-- the schema knows each type that the expression names: those of its entity literals, and those
-- that it tests for
abbrev pub KnowsTypes : Schema → Source → Type 0
KnowsTypes s e =
    list_any (λ n. is_unknown_type s n.name) (flat_map types_named (subexpressions e)) ≡ false

-- the schema declares each action that the expression names
abbrev pub KnowsActions : Schema → Source → Type 0
KnowsActions s e =
    list_any (λ n. is_unknown_action s n.uid) (flat_map uids_named (subexpressions e)) ≡ false

-- nothing in the expression is unknown
pub record IsWellNamed (s : Schema) (e : Source) : Type 0 where
  pub unknowns : HasNoUnknowns e
  pub types : KnowsTypes s e
  pub actions : KnowsActions s e

-- nothing in a template is unknown: its condition has no unknown, and no type and no action of it
-- is found to be unknown
pub record IsWellNamedTemplate (s : Schema) (t : PlainTemplate) : Type 0 where
  pub unknowns : HasNoUnknowns (condition_of t)
  pub types : unknown_types s t ≡ []
  pub actions : unknown_actions s t ≡ []

-- then nothing in its condition is
abbrev pub ConditionIsWellNamed : Type 0
ConditionIsWellNamed =
    (s : Schema) (t : PlainTemplate) → IsWellNamedTemplate s t → IsWellNamed s (condition_of t)

-- ---- a failure has an error

-- in Strict or in Permissive, by a schema and a table without faults
pub record IsWithoutFaults (s : Setting) : Type 0 where
  pub mode : IsSoundMode s.env.mode
  pub schema : has_fault s.env.schema ≡ false
  pub formed : IsFormedFor s.env.mode s.env.schema
  pub functions : table_fault s.functions ≡ None

-- there, in an environment of the schema, linked in any way
pub record IsSettled (s : Setting) : Type 0 where
  pub faultless : IsWithoutFaults s
  pub environment : IsEnvironmentOf s.env.schema s.env.request_env

-- an expression that fails has an error, whatever is known and at any depth. One that is cut need
-- have none: `Cuts` is no failure of this kind
abbrev pub FailuresHaveErrors : Type 0
FailuresHaveErrors =
    (s : Setting) → IsSettled s → (e : Source) → IsWellNamed s.env.schema e
    → (prior : Caps) (d : ℕ) (x : TypedTree) (es : List Finding)
    → Recovers s e prior d x es → is_silent es ≡ false

-- a check that fails without an error is a cut
abbrev pub SilentFailureIsCut : Type 0
SilentFailureIsCut =
    (s : Setting) → IsSettled s → (e : Source) → IsWellNamed s.env.schema e
    → (es : List Finding) → PolicyChecks s e (fails es) → is_silent es ≡ true → IsCut s e no_caps 1

-- ---- a condition that passes is derived

-- the condition has a type, as the verdict says: a Boolean other than False of a success, and False
-- where it is irrelevant
abbrev pub IsDerivedAs : Setting → Source → Verdict → Type 0
IsDerivedAs s e (succeeds x) =
    (t : Ty) × (c : Caps) × Derives s e no_caps 1 t c x
    × (accepts bool_types t ≡ true) × (is_false t ≡ false)
IsDerivedAs s e (irrelevant es x) = (c : Caps) × Derives s e no_caps 1 (TBool False) c x
IsDerivedAs s e (fails es) = ⊥

-- a verdict that passes, a success or irrelevant without errors, is of a condition that is derived.
-- So no part of it that is visited is too deep
abbrev pub PassingIsDerived : Type 0
PassingIsDerived =
    (s : Setting) → IsSettled s → (e : Source) → IsWellNamed s.env.schema e
    → (v : Verdict) → PolicyChecks s e v → passes v ≡ true → IsDerivedAs s e v

-- the verdicts of a template's condition in an environment
abbrev pub ChecksOf : Setting → PlainTemplate → Env → Verdict → Type 0
ChecksOf s t env = PolicyChecks (in_env s env) (condition_of t)

-- the condition is derived in this environment, with a verdict of its own
abbrev pub IsDerivedIn : Setting → PlainTemplate → Env → Type 0
IsDerivedIn s t env =
    (v : Verdict) × ChecksOf s t env v × IsDerivedAs (in_env s env) (condition_of t) v

-- a policy that passes is derived in each of the environments that it is checked in
abbrev pub PassingPolicyIsDerived : Type 0
PassingPolicyIsDerived =
    (s : Setting) (t : PlainTemplate) → IsWithoutFaults s → IsWellNamedTemplate s.env.schema t
    → (errors errors' : List Finding) (warnings warnings' : List Warning)
    → PolicyOutcome (ChecksOf s t) (checked_envs s.env.schema s.env.mode t) t true errors errors'
    warnings warnings'
    → (env : Env) → IsOneOf env (checked_envs s.env.schema s.env.mode t) → IsDerivedIn s t env
