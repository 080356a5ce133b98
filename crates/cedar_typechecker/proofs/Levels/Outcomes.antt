-- The outcome of validation with levels, as the public call puts it together.
use Rattle.std.proofs.Common.{◌≡◌, ◌↔◌, true, false, true≢false, List, [], ◌∷◌, ◌++◌, map, inl, inr, option_map, refl, sym, ap, subst, ◌∙◌, append_assoc}
use Rattle.std.specs.List.{AllByRecursion}
use Rattle.std.specs.List.Sorted.{IsStrictlySortedBy}
use Rattle.std.specs.Ordering.{is_eq}
use Rattle.std.specs.Prelude.{IsPermutation}
use Rattle.std.specs.declared.cmp.Ordering.TheVariants.{Less}
use Rattle.std.proofs.lemmas.List.Sorted.{IsPermutation-append, IsPermutation-refl}
use Rattle.cedar_types.specs.declared.base.errors.validation_errors.ValidationError.{ValidationError}
use Rattle.cedar_types.specs.declared.base.expressions.extensions.ExtensionSchemas.{ExtensionSchemas}
use Rattle.cedar_types.specs.declared.base.schema.ValidatorSchema.{ValidatorSchema}
use Rattle.cedar_types.specs.declared.base.templates.Template.{Template}
use Rattle.cedar_types.specs.declared.base.types.ValidationMode.{ValidationMode}
use Rattle.cedar_types.specs.declared.base.types.ValidationMode.TheVariants.{Strict, Permissive, Partial}
use Rattle.cedar_types.specs.declared.types.request_env.RequestEnv.{RequestEnv}
use Rattle.cedar_types.specs.declared.types.request_env.RequestEnv.TheVariants.{DeclaredAction, UndeclaredAction}
use Rattle.cedar_types.specs.contracts.base.types.ValidationModePartialEq.TheImpl as mode_test
use Rattle.cedar_types.specs.ErrorOrder.{error_cmp}
use Rattle.cedar_types.specs.Errors.{Finding, finding_of}
use Rattle.cedar_types.specs.Extensions.Functions.{Refusals}
use Rattle.cedar_types.specs.Extensions.{functions_of, overloaded_types_of}
use Rattle.cedar_types.specs.Templates.Findings.{unknown_types, unknown_actions, wrong_members}
use Rattle.cedar_types.specs.Environments.Linking.{checked_envs}
use Rattle.cedar_types.specs.Names.{text_of, uid_of}
use Rattle.cedar_types.specs.Environments.RequestEnvs.{Env, env_of, action_in}
use Rattle.cedar_types.specs.Schemas.Contents.{schema_of}
use Rattle.cedar_types.specs.Schemas.{Schema}
use Rattle.cedar_types.specs.Templates.{PlainTemplate, template_of, condition_of}
use Rattle.cedar_typing.specs.declared.typecheck.typechecker.Typechecker.{Typechecker}
use Rattle.cedar_typing.specs.Evaluation.Conformance.{IsOneOf}
use Rattle.cedar_typing.specs.PolicyCheck.{Verdict, PolicyChecks}
use Rattle.cedar_typing.specs.Views.Checks.{schema_by, extensions_by, mode_by}
use Rattle.cedar_typing.specs.Views.EnvironmentChecks.{ChecksIn}
use Rattle.cedar_typing.proofs.Policies.Tallies.{tie_decides}
use Rattle.cedar_typechecker.specs.declared.rbac.validator.Validator.{Validator}
use Rattle.cedar_typechecker.specs.Levels.Outcome.{ChecksOn, AreApart, name_findings}
use Rattle.cedar_typechecker.specs.Levels.Setting.{action_of}
use Rattle.cedar_typechecker.specs.ValidatorViews.{schema_in, extensions_in, basis_in}

-- ---- the passes over names

-- the findings of three passes, one after another
pub three_found : (f0 f1 f2 f3 a b c a' b' c' : List Finding)
    → f0 ≡ [] → f1 ≡ f0 ++ a → f2 ≡ f1 ++ b → f3 ≡ f2 ++ c
    → IsPermutation a a' → IsPermutation b b' → IsPermutation c c'
    → IsPermutation f3 (a' ++ (b' ++ c'))
three_found f0 f1 f2 f3 a b c a' b' c' e0 e1 e2 e3 p q r =
    let first : f1 ≡ a = e1 ∙ ap (λ z. z ++ a) e0 in
    let second : f2 ≡ a ++ b = e2 ∙ ap (λ z. z ++ b) first in
    let third : f3 ≡ a ++ (b ++ c) = e3 ∙ (ap (λ z. z ++ c) second ∙ append_assoc a b c) in
    subst (λ z. IsPermutation z (a' ++ (b' ++ c'))) (sym third)
    (IsPermutation-append a a' (b ++ c) (b' ++ c') p (IsPermutation-append b b' c c' q r))

module _ (s : Schema) (t : PlainTemplate) where
  -- in Strict and in Permissive the passes run
  pub names_found : (m : ValidationMode) → mode_test.ghosts.eq m Partial ≡ false
      → (fs : List Finding)
      → IsPermutation fs (wrong_members s t ++ (unknown_types s t ++ unknown_actions s t))
      → IsPermutation fs (name_findings m s t)
  names_found Strict h fs p = p
  names_found Permissive h fs p = p
  names_found Partial h fs p = absurd (true≢false h)

  -- in Partial the passes do not run
  pub no_names : (m : ValidationMode) → mode_test.ghosts.eq m Partial ≡ true
      → [] ≡ name_findings m s t
  no_names Strict h = absurd (true≢false (sym h))
  no_names Permissive h = absurd (true≢false (sym h))
  no_names Partial h = refl

-- ---- all errors

-- the errors that are added after the findings of the passes
pub all_given : (found new names added : List Finding) → new ≡ found ++ added
    → IsPermutation found names → IsPermutation new (names ++ added)
all_given found new names added e p =
    subst (λ z. IsPermutation z (names ++ added)) (sym e)
    (IsPermutation-append found names added added p (IsPermutation-refl added))

pub both_ways : {A B C : Type 0} → A ↔ B → B ↔ C → A ↔ C
both_ways h k = (λ a. k.0 (h.0 a), λ c. h.1 (k.1 c))

-- ---- one environment after another

-- the environments with which a checker of this schema, in this mode, begins
pub all_left : {C : Type 0} (c : Typechecker C) (s : ValidatorSchema) (m : ValidationMode)
    (t : Template) (left begun : List Env) → left ≡ begun → (schema_by c).now ≡ s → mode_by c ≡ m
    → IsPermutation begun (checked_envs (schema_of (schema_by c).now) (mode_by c) (template_of t))
    → IsPermutation left (checked_envs (schema_of s) m (template_of t))
all_left c s m t left begun e hs hm p =
    let P : ValidatorSchema → Type 0 = λ x.
    IsPermutation begun (checked_envs (schema_of x) (mode_by c) (template_of t)) in
    let Q : ValidationMode → Type 0 = λ k.
    IsPermutation begun (checked_envs (schema_of s) k (template_of t)) in
    let R : List Env → Type 0 = λ xs.
    IsPermutation xs (checked_envs (schema_of s) m (template_of t)) in
    subst R (sym e) (subst Q hm (subst P hs p))

pub action_seen : (e : RequestEnv)
    → option_map (λ u. uid_of u.now) (action_in e) ≡ action_of (env_of e)
action_seen (DeclaredAction p a r c ps rs) = refl
action_seen UndeclaredAction = refl

-- ---- members of a set, each once

not_again : (x : ValidationError) (xs : List ValidationError)
    → AllByRecursion (λ y. error_cmp x y ≡ Less) xs
    → IsOneOf (finding_of x) (map finding_of xs) → ⊥
not_again x [] h i = i
not_again x (y ∷ ys) h (inl e) = true≢false (sym ((tie_decides x y).1 e) ∙ ap is_eq h.0)
not_again x (y ∷ ys) h (inr i) = not_again x ys h.1 i

pub apart : (xs : List ValidationError) → IsStrictlySortedBy error_cmp xs
    → AreApart (map finding_of xs)
unfolding IsStrictlySortedBy
apart [] h = tt
apart (x ∷ xs) h = (not_again x xs h.0, apart xs h.1)

-- ---- the basis of the validator's checker

module _ {C : Type 0} (meaning : C → Refusals) where
  pub checks_on : (v : Validator C) (m : ValidationMode) (c : Typechecker C) (t : Template)
      → (schema_by c).now ≡ schema_in v → (extensions_by c).now ≡ (extensions_in v).now
      → mode_by c ≡ m
      → (e : Env) (w : Verdict) → ChecksIn meaning c t e w
      → ChecksOn (basis_in meaning v m) (template_of t) e w
  checks_on v m c t hs hx hm e w h =
      let P : ValidatorSchema → ValidationMode → ExtensionSchemas C → Type 0 = λ s k x. PolicyChecks
      (record {
        env = record {
          schema = schema_of s;
          mode = k;
          request_env = e;
          overloaded_types = overloaded_types_of x;
          policy = text_of t.id.text;
        };
        functions = functions_of meaning x;
      })
      (condition_of (template_of t)) w in
      let first : P (schema_in v) (mode_by c) (extensions_by c).now =
      subst (λ s. P s (mode_by c) (extensions_by c).now) hs h in
      let second : P (schema_in v) m (extensions_by c).now =
      subst (λ k. P (schema_in v) k (extensions_by c).now) hm first in
      subst (λ x. P (schema_in v) m x) hx second
