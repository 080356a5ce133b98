-- Strict is a refinement of Permissive: Permissive has each derivation of Strict, and a policy that
-- passes in Strict passes in Permissive.
use Rattle.std.specs.Prelude.{◌≡◌, ◌↔◌, ℕ, Bool, true, List, [], None, Some}
use Rattle.cedar_types.specs.declared.base.types.ValidationMode.{ValidationMode}
use Rattle.cedar_types.specs.declared.base.types.ValidationMode.TheVariants.{Strict, Permissive, Partial}
use Rattle.cedar_types.specs.Errors.{Finding, Warning}
use Rattle.cedar_types.specs.Extensions.Functions.{ExtensionFunction, function_named, table_fault}
use Rattle.cedar_types.specs.Environments.Linking.{checked_envs}
use Rattle.cedar_types.specs.Environments.RequestEnvs.{Env, context_ty}
use Rattle.cedar_types.specs.Names.{Path}
use Rattle.cedar_types.specs.Schemas.{Schema}
use Rattle.cedar_types.specs.Schemas.Formed.{has_formed_types}
use Rattle.cedar_types.specs.Templates.{PlainTemplate, condition_of}
use Rattle.cedar_types.specs.Types.{Ty, is_well_formed}
use Rattle.cedar_types.specs.Types.Bounds.{lub}
use Rattle.cedar_typing.specs.Capabilities.{Caps}
use Rattle.cedar_typing.specs.Evaluation.Conformance.{IsOneOf}
use Rattle.cedar_typing.specs.PolicyCheck.{Verdict, succeeds, PolicyChecks}
use Rattle.cedar_typing.specs.PolicyCheck.Outcome.{passes, Adds}
use Rattle.cedar_typing.specs.Rules.{Derives, Recovers}
use Rattle.cedar_typing.specs.Setting.{Setting}
use Rattle.cedar_typing.specs.Soundness.Policies.{Basis, setting_on, CheckedOn}
use Rattle.cedar_typing.specs.TypedExpr.{Source, TypedTree}

-- ---- bounds

-- a bound in Strict is the bound in Permissive too, where no name comes twice in the second type
abbrev pub StrictBoundIsKept : Type 0
StrictBoundIsKept =
    (s t u : Ty) → is_well_formed t ≡ true
    → lub Strict s t ≡ Some u → lub Permissive s t ≡ Some u

-- ---- expressions

-- the setting in another mode
abbrev pub in_mode : ValidationMode → Setting → Setting
in_mode m s = record s { env = record s.env { mode = m } }

-- names ascend in the types that typing starts from: those of the schema, the context's, and those
-- that functions return
pub record HasFormedTypes (s : Setting) : Type 0 where
  pub schema : has_formed_types s.env.schema ≡ true
  pub context : is_well_formed (context_ty s.env.request_env) ≡ true
  pub functions : (n : Path) (f : ExtensionFunction) → function_named n s.functions ≡ Some f
      → is_well_formed f.return_type ≡ true

-- Permissive gives the expression each answer that Strict gives it without an error
pub record IsKept (s : Setting) (e : Source) (prior : Caps) (d : ℕ) : Type 0 where
  -- a derivation, with its type, capabilities and typed copy
  pub derived : (t : Ty) (c : Caps) (x : TypedTree)
      → Derives (in_mode Strict s) e prior d t c x → Derives (in_mode Permissive s) e prior d t c x
  -- a failure without an error, and the typed copy
  pub silent : (x : TypedTree)
      → Recovers (in_mode Strict s) e prior d x [] → Recovers (in_mode Permissive s) e prior d x []

-- of each expression
abbrev pub StrictIsKept : Type 0
StrictIsKept =
    (s : Setting) → HasFormedTypes s → (e : Source) (prior : Caps) (d : ℕ) → IsKept s e prior d

-- Partial has each derivation of Permissive, in any environment and by any schema. Failures without
-- an error are others there: in Partial an entity that the schema does not know has a type
abbrev pub PermissiveIsKeptInPartial : Type 0
PermissiveIsKeptInPartial =
    (s : Setting) (e : Source) (prior : Caps) (d : ℕ) (t : Ty) (c : Caps) (x : TypedTree)
    → Derives (in_mode Permissive s) e prior d t c x → Derives (in_mode Partial s) e prior d t c x

-- ---- the check of a condition

-- a verdict of Strict that passes, a success or irrelevant without errors, is one of Permissive:
-- with the same typed condition
abbrev pub StrictCheckIsKept : Type 0
StrictCheckIsKept =
    (s : Setting) → HasFormedTypes s → (e : Source) (v : Verdict) → passes v ≡ true
    → PolicyChecks (in_mode Strict s) e v → PolicyChecks (in_mode Permissive s) e v

-- a success of Permissive is one of Partial, in the same environment
abbrev pub SuccessIsKeptInPartial : Type 0
SuccessIsKeptInPartial =
    (s : Setting) (e : Source) (x : TypedTree)
    → PolicyChecks (in_mode Permissive s) e (succeeds x)
    → PolicyChecks (in_mode Partial s) e (succeeds x)

-- ---- policies

-- the same basis in another mode
abbrev pub basis_in_mode : ValidationMode → Basis → Basis
basis_in_mode m b = record b { mode = m }

-- a template is checked in the same environments
abbrev pub EnvironmentsAreKept : Type 0
EnvironmentsAreKept =
    (s : Schema) (t : PlainTemplate) → checked_envs s Strict t ≡ checked_envs s Permissive t

-- a template has the same verdicts in each of its environments, in both modes
abbrev pub HasSameVerdicts : Basis → PlainTemplate → Type 0
HasSameVerdicts b t =
    (env : Env) → IsOneOf env (checked_envs b.schema Strict t) → (v : Verdict)
    → PolicyChecks (setting_on (basis_in_mode Strict b) t.id env) (condition_of t) v
    ↔ PolicyChecks (setting_on (basis_in_mode Permissive b) t.id env) (condition_of t) v

-- Holds for each policy that passes in Strict, by a schema whose types are formed and a table
-- without faults
abbrev pub WhereStrictPasses : (Basis → PlainTemplate → Type 0) → Type 0
WhereStrictPasses Holds =
    (b : Basis) (t : PlainTemplate)
    → has_formed_types b.schema ≡ true → table_fault b.table.functions ≡ None
    → (errors errors' : List Finding) (old new : List Warning)
    → CheckedOn (basis_in_mode Strict b) t true errors errors' old new → Holds b t

-- so it has where it passes in Strict
abbrev pub StrictVerdictsAreKept : Type 0
StrictVerdictsAreKept = WhereStrictPasses HasSameVerdicts

-- and its check results in the same in both modes: the same answer, errors and warnings
abbrev pub StrictPolicyIsKept : Type 0
StrictPolicyIsKept =
    WhereStrictPasses
    (λ b t. (answer : Bool) (found found' : List Finding) (before after : List Warning)
    → CheckedOn (basis_in_mode Strict b) t answer found found' before after
    ↔ CheckedOn (basis_in_mode Permissive b) t answer found found' before after)

-- so it passes in Permissive, and the set of errors gets no other member there
abbrev pub StrictPassesInPermissive : Type 0
StrictPassesInPermissive =
    WhereStrictPasses
    (λ b t. (answer : Bool) (found found' : List Finding) (before after : List Warning)
    → CheckedOn (basis_in_mode Permissive b) t answer found found' before after
    → (answer ≡ true) × Adds found [] found')
