-- The query of a set chooses a row exactly if an authoriser allows the request on the row's resource.
use Rattle.std.specs.Prelude.{◌≡◌, ◌↔◌, Bool, true, false, List, [], ◌∷◌, Option, Some, None, if◌then◌else◌}
use Rattle.cedar_types.specs.declared.base.templates.effects.Effect.{Effect}
use Rattle.cedar_types.specs.declared.base.templates.effects.Effect.TheVariants.{Permit, Forbid}
use Rattle.cedar_types.specs.Environments.RequestEnvs.{Env}
use Rattle.cedar_types.specs.Templates.{condition_of}
use Rattle.cedar_typing.specs.Evaluation.Conformance.{IsOneOf}
use Rattle.cedar_typing.specs.Evaluation.Eval.{eval}
use Rattle.cedar_typing.specs.Evaluation.World.{World, Outcome}
use Rattle.cedar_typing.specs.Soundness.{IsTrueOutcome, IsWorldOf}
use Rattle.cedar_typing.specs.Soundness.Policies.{Basis, setting_on}
use Rattle.cedar_typing.specs.TypedCopies.{EvaluatesAs}
use Rattle.cedar_typing.specs.TypedExpr.{TypedTree}
use Rattle.cedar_where.specs.Meaning.{IsOutcome, MeansTheCondition}
use Rattle.cedar_where.specs.Rows.{IsRowOf}
use Rattle.cedar_where.specs.Sets.{JoinsTheSet}
use Rattle.cedar_where.specs.Sql.{Truth, Data, Sql, value}
use Rattle.cedar_host.specs.Responses.{LinkedPolicy, same_effect, linked_world, Decision, allow, deny, response}

-- ---- a set with the clauses of its policies

-- a policy with the environment in which it was typed, and with its clause there, or without one if it was left out
pub record ClausedPolicy : Type 0 where
  pub policy : LinkedPolicy
  pub env : Env
  pub clause : Option Sql

abbrev pub policies_in : List ClausedPolicy → List LinkedPolicy
policies_in [] = []
policies_in (p ∷ ps) = p.policy ∷ policies_in ps

abbrev pub with_clause : Option Sql → List Sql → List Sql
with_clause None cs = cs
with_clause (Some c) cs = c ∷ cs

-- the clauses of the policies of an effect, in their order
abbrev pub clauses_of : Effect → List ClausedPolicy → List Sql
clauses_of e [] = []
clauses_of e (p ∷ ps) =
    if same_effect e p.policy.effect then with_clause p.clause (clauses_of e ps) else clauses_of e ps

-- ---- over one row

-- the outcome of the policy's condition, with the policy's own slots
abbrev pub outcome_of : World → LinkedPolicy → Outcome
outcome_of world p = eval (linked_world world p) (condition_of p.template)

-- a clause is TRUE, FALSE or NULL as the outcome is true, false or a failure; a policy without one is not true
abbrev pub TellsTheOutcome : Data → Option Sql → Outcome → Type 0
TellsTheOutcome d None o = IsTrueOutcome o → ⊥
TellsTheOutcome d (Some c) o = IsOutcome o (value d c)

abbrev pub is_allow : Decision → Bool
is_allow allow = true
is_allow deny = false

-- the joined query of clauses that tell the outcomes is TRUE if the decision is to allow, else FALSE
abbrev pub QueryTellsTheDecision : Type 0
QueryTellsTheDecision =
    (world : World) (d : Data) (ps : List ClausedPolicy)
    → ((p : ClausedPolicy) → IsOneOf p ps → TellsTheOutcome d p.clause (outcome_of world p.policy))
    → (query : Sql) → JoinsTheSet (clauses_of Permit ps) (clauses_of Forbid ps) query
    → value d query ≡ Truth (is_allow (response world (policies_in ps)).decision)

-- ---- over each row

-- a clause means a typed condition, which evaluates in the environment as the policy's condition does
pub record IsCompiled (b : Basis) (p : LinkedPolicy) (env : Env) (c : Sql) : Type 0 where
  pub condition : TypedTree
  pub typed : (world : World) → IsWorldOf (setting_on b p.template.id env) world
      → EvaluatesAs world condition (condition_of p.template)
  pub means : MeansTheCondition b.schema env condition c

-- a policy is left out only if its condition is true in no world of the environment
abbrev pub IsReady : Basis → LinkedPolicy → Env → Option Sql → Type 0
IsReady b p env (Some c) = IsCompiled b p env c
IsReady b p env None =
    (world : World) → IsWorldOf (setting_on b p.template.id env) world
    → IsTrueOutcome (eval world (condition_of p.template)) → ⊥

-- each policy with its slots is in a world of its environment
abbrev pub FitEach : Basis → World → List ClausedPolicy → Type 0
FitEach b world ps =
    (p : ClausedPolicy) → IsOneOf p ps
    → IsWorldOf (setting_on b p.policy.template.id p.env) (linked_world world p.policy)

-- over each row that holds the resource of a request, the query chooses the row exactly if an authoriser allows the request
abbrev pub ChosenRowsAreAllowed : Type 0
ChosenRowsAreAllowed =
    (b : Basis) (ps : List ClausedPolicy)
    → ((p : ClausedPolicy) → IsOneOf p ps → IsReady b p.policy p.env p.clause)
    → (query : Sql) → JoinsTheSet (clauses_of Permit ps) (clauses_of Forbid ps) query
    → (world : World) → FitEach b world ps → (d : Data) → IsRowOf world d
    → (value d query ≡ Truth true) ↔ ((response world (policies_in ps)).decision ≡ allow)
