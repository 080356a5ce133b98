-- Environments whose action the scope does not admit. One of them stands for all that the scope's first tests do not tell
-- apart.
use Rattle.std.specs.Prelude.{◌≡◌, ◌↔◌, ◌⊎◌, Bool, true, false, ◌&&◌, List, [], ◌∷◌, map}
use Rattle.std.specs.List.{list_all}
use Rattle.cedar_types.specs.declared.base.expressions.operators.BinaryOp.{BinaryOp}
use Rattle.cedar_types.specs.declared.base.expressions.operators.Var.{Var}
use Rattle.cedar_types.specs.declared.base.names.slots.SlotId.{SlotId}
use Rattle.cedar_types.specs.Environments.RequestEnvs.{Env, Declared, Undeclared}
use Rattle.cedar_types.specs.Environments.Representatives.{IsLeftOut, SamePrincipal}
use Rattle.cedar_types.specs.Expressions.Tree.{lit, var, slot, and, binary, is_type, set_of, Trees, no_trees, tree}
use Rattle.cedar_types.specs.Names.{Uid, path_eq}
use Rattle.cedar_types.specs.Schemas.{DeclaredAction, Schema, declares_action}
use Rattle.cedar_types.specs.Templates.{ActionScope, any_action, equal_action, within_actions, PlainTemplate, made, scope_at, action_scope_at, condition_of}
use Rattle.cedar_typing.specs.Composition.{in_env}
use Rattle.cedar_typing.specs.Evaluation.Conformance.{IsOneOf}
use Rattle.cedar_typing.specs.PolicyCheck.{Verdict, irrelevant, PolicyChecks}
use Rattle.cedar_typing.specs.Rules.Membership.{is_action}
use Rattle.cedar_typing.specs.Setting.{Setting}
use Rattle.cedar_typing.specs.TypedExpr.{Source, TypedTree, Mark}

-- ---- the first tests

-- the scope's tests of the principal and of the action: the first part of the condition
abbrev pub first_tests : PlainTemplate → Source
first_tests t =
    and (made t.place)
    (scope_at t.place Var.Principal SlotId.Principal t.principal)
    (action_scope_at t.place t.action)

-- if the first tests alone are irrelevant without an error, so is the whole condition, with the same typed copy, because
-- nothing else of it is visited
abbrev pub FirstTestsDecide : Type 0
FirstTestsDecide =
    (s : Setting) (t : PlainTemplate) (x : TypedTree)
    → PolicyChecks s (first_tests t) (irrelevant [] x)
    → (v : Verdict) → PolicyChecks s (condition_of t) v ↔ (v ≡ irrelevant [] x)

-- the first tests have the same checks in two environments of one principal if the scope admits neither action
abbrev pub FirstTestsAreAlike : Type 0
FirstTestsAreAlike =
    (s : Setting) (t : PlainTemplate) (e e' : Env)
    → IsLeftOut s.env.schema t e → IsLeftOut s.env.schema t e' → SamePrincipal e e'
    → (v : Verdict)
    → PolicyChecks (in_env s e) (first_tests t) v ↔ PolicyChecks (in_env s e') (first_tests t) v

-- the scope lists actions, all of them declared and of one type
abbrev pub are_named_alike : List DeclaredAction → List Uid → Bool
are_named_alike acts [] = false
are_named_alike acts (u ∷ us) =
    is_action u
    && list_all (λ v. declares_action acts v && path_eq v.entity_type u.entity_type) (u ∷ us)

-- the scope names actions so that the schema alone decides which it admits, without an error
abbrev pub names_alike : List DeclaredAction → ActionScope → Bool
names_alike acts any_action = true
names_alike acts (equal_action u) = true
names_alike acts (within_actions us) = are_named_alike acts (map (λ u. u.uid) us)

-- an environment of an action whose type is an action type, as that of each declared action is
abbrev pub IsOfAction : Env → Type 0
IsOfAction (Declared d p r) = is_action d.action ≡ true
IsOfAction Undeclared = ⊥

-- if the whole condition is irrelevant without an error, and the scope does not admit the action, then the first tests are
-- so alone
abbrev pub FirstTestsAreQuiet : Type 0
FirstTestsAreQuiet =
    (s : Setting) (t : PlainTemplate) (e : Env) → IsOfAction e → IsLeftOut s.env.schema t e
    → names_alike s.env.schema.actions t.action ≡ true
    → (x : TypedTree) → PolicyChecks (in_env s e) (condition_of t) (irrelevant [] x)
    → PolicyChecks (in_env s e) (first_tests t) (irrelevant [] x)

-- ---- the typed copies of the first tests

-- a list of literals and slots
abbrev pub are_leaves : Trees Mark → Bool
are_leaves no_trees = true
are_leaves (tree (lit m k) ts) = are_leaves ts
are_leaves (tree e ts) = false

abbrev pub is_reference : TypedTree → Bool
is_reference (lit m k) = true
is_reference (slot m k) = true
is_reference (set_of m ts) = are_leaves ts
is_reference e = false

abbrev pub is_variable : TypedTree → Bool
is_variable (var m k) = true
is_variable e = false

-- `true`, `v is T`, `v == x` and `v in x` for a variable v, and such tests joined by `&&`: they access nothing but
-- variables
abbrev pub tests_variables : TypedTree → Bool
tests_variables (lit m k) = true
tests_variables (is_type m a n) = is_variable a
tests_variables (binary m BinaryOp.Eq a b) = is_variable a && is_reference b
tests_variables (binary m BinaryOp.In a b) = is_variable a && is_reference b
tests_variables (and m a b) = tests_variables a && tests_variables b
tests_variables e = false

abbrev pub FirstTestsTestVariables : Type 0
FirstTestsTestVariables =
    (s : Setting) (t : PlainTemplate) (x : TypedTree)
    → PolicyChecks s (first_tests t) (irrelevant [] x) → tests_variables x ≡ true

-- ---- environments that stand for others

-- the environment is one of a declared action that the scope does not admit. It has one verdict, and an environment of
-- `some` has that verdict too: irrelevant without an error, after only tests of variables were typed
pub record IsStoodFor (Checks : Env → Verdict → Type 0) (s : Schema) (t : PlainTemplate)
    (some : List Env) (e : Env) : Type 0 where
  pub other : Env
  pub among : IsOneOf other some
  pub left_out : IsLeftOut s t e
  pub other_left_out : IsLeftOut s t other
  pub alike : SamePrincipal e other
  pub copy : TypedTree
  pub verdict : (v : Verdict) → Checks e v ↔ (v ≡ irrelevant [] copy)
  pub other_verdict : (v : Verdict) → Checks other v ↔ (v ≡ irrelevant [] copy)
  pub tests : tests_variables copy ≡ true

-- the environments of `some` are among all environments, and stand for the others
pub record Represents (Checks : Env → Verdict → Type 0) (s : Schema) (t : PlainTemplate)
    (all some : List Env) : Type 0 where
  pub of_all : (e : Env) → IsOneOf e some → IsOneOf e all
  pub each : (e : Env) → IsOneOf e all → IsOneOf e some ⊎ IsStoodFor Checks s t some e
