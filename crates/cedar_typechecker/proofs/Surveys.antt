-- The facts of a survey, as one environment after another is taken in, and those of all
-- environments.
pub mod Ties
use Rattle.std.proofs.Common.{◌≡◌, ◌↔◌, ℕ, ◌+◌, ◌≤◌, Bool, true, false, ◌&&◌, ◌||◌, not, cond, List, [], ◌∷◌, ◌++◌, map, length, filter, Option, option_map, ap}
use Rattle.std.proofs.Common.{suc, ◌⊎◌, inl, inr, refl, sym, subst, ◌∙◌, arith}
use Rattle.std.specs.Borrow.{Bor}
use Rattle.std.specs.BTreeMap.{get}
use Rattle.std.specs.BTreeSet.{BTreeSet}
use Rattle.cedar_types.specs.declared.base.errors.validation_errors.ValidationError.{ValidationError}
use Rattle.cedar_types.specs.declared.base.names.entities.EntityUID.{EntityUID}
use Rattle.cedar_types.specs.declared.types.request_env.RequestEnv.{RequestEnv}
use Rattle.cedar_types.specs.Environments.RequestEnvs.{Env, env_of, action_in}
use Rattle.cedar_types.specs.ErrorOrder.{error_cmp}
use Rattle.cedar_types.specs.Errors.{Finding, finding_of}
use Rattle.cedar_types.specs.Names.{Text, uid_of}
use Rattle.cedar_types.specs.Schemas.{Schema}
use Rattle.cedar_types.specs.Templates.{PlainTemplate}
use Rattle.cedar_typing.specs.Evaluation.Conformance.{IsOneOf}
use Rattle.cedar_typing.specs.PolicyCheck.{Verdict, succeeds, irrelevant, fails}
use Rattle.cedar_typing.specs.PolicyCheck.Outcome.{VerdictsOf, Adds, is_silent, all_pass}
use Rattle.cedar_typing.specs.Soundness.Policies.{Basis}
use Rattle.cedar_typing.specs.TypedExpr.{TypedTree}
use Rattle.cedar_typing.proofs.Basics.Gains.{in_either}
use Rattle.cedar_typing.proofs.Basics.Members.{in_left, in_right}
use Rattle.cedar_typechecker.specs.declared.level_validate.demands.Demand as code
use Rattle.cedar_typechecker.specs.declared.survey.Survey.{Survey}
use Rattle.cedar_typechecker.specs.Levels.Demands.{Demand, told, told_of, capped, Surroundings, add_demands}
use Rattle.cedar_typechecker.specs.Levels.Laws.{VerdictIsShared}
use Rattle.cedar_typechecker.specs.Levels.Outcome.{ChecksOn, levels_on, IsErrorOfVerdict, IsErrorInSome}
use Rattle.cedar_typechecker.specs.Levels.Views.{demands_of}
use Rattle.cedar_typechecker.specs.SurveyedErrors.{AddsEnvironment}
use Rattle.cedar_typechecker.specs.Surveys.{surroundings_at, IsDemandOfVerdict, IsDemandInSome, may_apply, some_fails_silently, Surveys}
use Rattle.cedar_typechecker.proofs.Levels.Demands.{demands_tell_errors}
use Rattle.cedar_typechecker.proofs.Levels.Outcomes.{action_seen}
use Rattle.cedar_typechecker.proofs.SurveyedErrors.{quiet_errors, quiet_environments, loud_errors, loud_environments}

-- ---- the demands of one more environment

module _ (schema : Schema) (env : Env) (envs : List Env) (vs : List Verdict) where
  -- the demands that are added are those of the environment's verdict
  pub demands_with : (v : Verdict) (old added new : List Demand) → Adds old added new
      → ((d : Demand) → IsOneOf d added ↔ IsDemandOfVerdict (surroundings_at schema env) v d)
      → ((d : Demand) → IsOneOf d old ↔ IsDemandInSome schema envs vs d)
      → (d : Demand) → IsOneOf d new ↔ IsDemandInSome schema (env ∷ envs) (v ∷ vs) d
  demands_with v old added new a h k d =
      (λ i. to (in_either d old added ((a d).0 i)), λ i. (a d).1 (from i))
    where
      to : IsOneOf d old ⊎ IsOneOf d added
          → IsDemandOfVerdict (surroundings_at schema env) v d ⊎ IsDemandInSome schema envs vs d
      to (inl i) = inr ((k d).0 i)
      to (inr i) = inl ((h d).0 i)

      from : IsDemandOfVerdict (surroundings_at schema env) v d ⊎ IsDemandInSome schema envs vs d
          → IsOneOf d (old ++ added)
      from (inl i) = in_right d old added ((h d).1 i)
      from (inr i) = in_left d old added ((k d).1 i)

  -- a failed check adds no demands
  pub no_demands : (es : List Finding) (old : List Demand)
      → ((d : Demand) → IsOneOf d old ↔ IsDemandInSome schema envs vs d)
      → (d : Demand) → IsOneOf d old ↔ IsDemandInSome schema (env ∷ envs) (fails es ∷ vs) d
  no_demands es old k d = (λ i. inr ((k d).0 i), from)
    where
      from : ⊥ ⊎ IsDemandInSome schema envs vs d → IsOneOf d old
      from (inl i) = absurd i
      from (inr i) = (k d).1 i

-- ---- the errors of demands

-- the finding is an error of one of these demands
abbrev ToldOf : Text → ℕ → List Demand → Finding → Type 0
ToldOf p n ds e = (d : Demand) × IsOneOf d ds × IsOneOf e (told_of p n d)

of_either : (p : Text) (n : ℕ) (x : Demand) (ds : List Demand) (e : Finding)
    → (IsOneOf e (told p n ds) → ToldOf p n ds e)
    → IsOneOf e (told_of p n x) ⊎ IsOneOf e (told p n ds) → ToldOf p n (x ∷ ds) e
of_either p n x ds e h (inl k) = (x, inl refl, k)
of_either p n x ds e h (inr k) = let w = h k in (w.0, inr w.1, w.2)

told_from : (p : Text) (n : ℕ) (ds : List Demand) (e : Finding) → IsOneOf e (told p n ds)
    → ToldOf p n ds e
told_from p n [] e i = absurd i
told_from p n (x ∷ ds) e i =
    of_either p n x ds e (told_from p n ds e) (in_either e (told_of p n x) (told p n ds) i)

told_to : (p : Text) (n : ℕ) (ds : List Demand) (e : Finding) (d : Demand) → IsOneOf d ds
    → IsOneOf e (told_of p n d) → IsOneOf e (told p n ds)
told_to p n [] e d i k = absurd i
told_to p n (x ∷ ds) e d (inl q) k =
    let P : Demand → Type 0 = λ z. IsOneOf e (told_of p n z) in
    in_left e (told_of p n x) (told p n ds) (subst P q k)
told_to p n (x ∷ ds) e d (inr i) k =
    in_right e (told_of p n x) (told p n ds) (told_to p n ds e d i k)

module _ (b : Basis) (t : PlainTemplate) (n : ℕ) (bounded : n ≤ 4294967295) where
  -- the finding is an error of a demand that has P
  abbrev Told : (Demand → Type 0) → Finding → Type 0
  Told P e = (d : Demand) × P d × IsOneOf e (told_of t.id n d)

  of_verdict : (env : Env) (v : Verdict) → VerdictIsShared v → (e : Finding)
      → IsErrorOfVerdict (levels_on b t n env) v e
      ↔ Told (IsDemandOfVerdict (surroundings_at b.schema env) v) e
  of_verdict env (succeeds x) h e =
      let c = demands_tell_errors (levels_on b t n env) x e bounded h in
      let ds = add_demands (surroundings_at b.schema env) x 0 [] in
      (λ i. told_from t.id n ds e (c.1 i), λ i. c.0 (told_to t.id n ds e i.0 i.1 i.2))
  of_verdict env (irrelevant es x) h e =
      let c = demands_tell_errors (levels_on b t n env) x e bounded h in
      let ds = add_demands (surroundings_at b.schema env) x 0 [] in
      (λ i. told_from t.id n ds e (c.1 i), λ i. c.0 (told_to t.id n ds e i.0 i.1 i.2))
  of_verdict env (fails es) h e = (λ i. absurd i, λ i. absurd i.1)

  of_more : (env : Env) (envs : List Env) (v : Verdict) (vs : List Verdict) (e : Finding)
      → IsErrorOfVerdict (levels_on b t n env) v e
      ↔ Told (IsDemandOfVerdict (surroundings_at b.schema env) v) e
      → IsErrorInSome (levels_on b t n) envs vs e ↔ Told (IsDemandInSome b.schema envs vs) e
      → IsErrorInSome (levels_on b t n) (env ∷ envs) (v ∷ vs) e
      ↔ Told (IsDemandInSome b.schema (env ∷ envs) (v ∷ vs)) e
  of_more env envs v vs e own others = (to, λ i. from i.0 i.2 i.1)
    where
      to : IsErrorOfVerdict (levels_on b t n env) v e ⊎ IsErrorInSome (levels_on b t n) envs vs e
          → Told (IsDemandInSome b.schema (env ∷ envs) (v ∷ vs)) e
      to (inl i) = let w = own.0 i in (w.0, inl w.1, w.2)
      to (inr i) = let w = others.0 i in (w.0, inr w.1, w.2)

      from : (d : Demand) → IsOneOf e (told_of t.id n d)
          → IsDemandOfVerdict (surroundings_at b.schema env) v d ⊎ IsDemandInSome b.schema envs vs d
          → IsErrorOfVerdict (levels_on b t n env) v e ⊎ IsErrorInSome (levels_on b t n) envs vs e
      from d j (inl i) = inl (own.1 (d, i, j))
      from d j (inr i) = inr (others.1 (d, i, j))

  of_all : (envs : List Env) (vs : List Verdict) → VerdictsOf (ChecksOn b t) envs vs
      → ((v : Verdict) (env : Env) → ChecksOn b t env v → VerdictIsShared v) → (e : Finding)
      → IsErrorInSome (levels_on b t n) envs vs e ↔ Told (IsDemandInSome b.schema envs vs) e
  of_all [] vs h k e = (λ i. absurd i, λ i. absurd i.1)
  of_all (env ∷ envs) [] h k e = absurd h
  of_all (env ∷ envs) (v ∷ vs) h k e =
      of_more env envs v vs e (of_verdict env v (k v env h.0) e) (of_all envs vs h.1 k e)

  -- so the errors of all demands are the level errors of all environments
  pub told_are_level_errors : (envs : List Env) (vs : List Verdict) (ds : List Demand)
      → VerdictsOf (ChecksOn b t) envs vs
      → ((v : Verdict) (env : Env) → ChecksOn b t env v → VerdictIsShared v)
      → ((d : Demand) → IsOneOf d ds ↔ IsDemandInSome b.schema envs vs d)
      → (e : Finding) → IsOneOf e (told t.id n ds) ↔ IsErrorInSome (levels_on b t n) envs vs e
  told_are_level_errors envs vs ds h k same e =
      let c = of_all envs vs h k e in (
        λ i. let w = told_from t.id n ds e i in c.1 (w.0, (same w.0).0 w.1, w.2),
        λ i. let w = c.0 i in told_to t.id n ds e w.0 ((same w.0).1 w.1) w.2,
      )

-- ---- one more environment

more_counted : (old new n : ℕ) → new ≡ capped (old + 1) → old ≡ capped n → new ≡ capped (suc n)
more_counted old new n e f = omega arith

pub no_finding : (es : List Finding) → is_silent es ≡ true → es ≡ []
no_finding [] h = refl
no_finding (e ∷ es) h = cc

or_swapped : (a b : Bool) → (a || b) ≡ (b || a)
or_swapped true true = refl
or_swapped true false = refl
or_swapped false true = refl
or_swapped false false = refl

-- the surroundings on which the demands in an environment depend
pub surroundings_seen : (a : Option (Bor EntityUID)) (s : Schema) (e : RequestEnv) → a ≡ action_in e
    → ◌≡◌ {A = Surroundings} (record { action = option_map (λ u. uid_of u.now) a; schema = s })
    (surroundings_at s (env_of e))
surroundings_seen a s e h =
    let action = ap (option_map (λ u. uid_of u.now)) h ∙ action_seen e in
    λ i. record { action = action i; schema = s }

module _ (schema : Schema) (env : Env) (envs : List Env) (vs : List Verdict) (old new : Survey)
    (h : Surveys schema old envs vs) where
  applicable : ℕ
  applicable = length (filter may_apply vs)

  -- the new survey has the demands of x too
  abbrev pub Demands : TypedTree → Type 0
  Demands x =
      Adds (demands_of old.demands.keys) (add_demands (surroundings_at schema env) x 0 [])
      (demands_of new.demands.keys)

  pub with_success : (x : TypedTree) → new.passes ≡ old.passes → new.is_impossible ≡ false
      → new.fails_without_error ≡ old.fails_without_error
      → new.applicable ≡ capped (old.applicable + 1) → new.errors ≡ old.errors → Demands x
      → Surveys schema new (env ∷ envs) (succeeds x ∷ vs)
  unfolding applicable
  with_success x p i f a e d = record {
    passes = p ∙ h.passes;
    impossible = i;
    silent = f ∙ h.silent;
    applicable = more_counted old.applicable new.applicable applicable a h.applicable;
    errors = quiet_errors env envs (succeeds x) vs old.errors new.errors e (λ k j. j) h.errors;
    environments = quiet_environments env envs (succeeds x) vs old.errors new.errors e (λ k j. j)
        h.environments;
    demands = demands_with schema env envs vs (succeeds x) _ _ _ d (λ k. (λ j. j, λ j. j)) h.demands;
  }

  pub with_irrelevant : (x : TypedTree) → new.passes ≡ old.passes
      → new.is_impossible ≡ old.is_impossible → new.fails_without_error ≡ old.fails_without_error
      → new.applicable ≡ old.applicable → new.errors ≡ old.errors → Demands x
      → Surveys schema new (env ∷ envs) (irrelevant [] x ∷ vs)
  with_irrelevant x p i f a e d = record {
    passes = p ∙ h.passes;
    impossible = i ∙ h.impossible;
    silent = f ∙ h.silent;
    applicable = a ∙ h.applicable;
    errors = quiet_errors env envs (irrelevant [] x) vs old.errors new.errors e (λ k j. j) h.errors;
    environments = quiet_environments env envs (irrelevant [] x) vs old.errors new.errors e
        (λ k j. j) h.environments;
    demands = demands_with schema env envs vs (irrelevant [] x) _ _ _ d (λ k. (λ j. j, λ j. j))
        h.demands;
  }

  module _ (xs : List ValidationError)
      (added : (x : ValidationError) → AddsEnvironment env (map finding_of xs) (finding_of x)
      (get error_cmp old.errors x) (get error_cmp new.errors x)) where
    pub with_refused_irrelevant : (x : TypedTree) → is_silent (map finding_of xs) ≡ false
        → new.passes ≡ false → new.is_impossible ≡ old.is_impossible
        → new.fails_without_error ≡ old.fails_without_error
        → new.applicable ≡ capped (old.applicable + 1) → Demands x
        → Surveys schema new (env ∷ envs) (irrelevant (map finding_of xs) x ∷ vs)
    unfolding applicable
    with_refused_irrelevant x q p i f a d =
        let v = irrelevant (map finding_of xs) x in
        let P : Bool → Type 0 = λ b. new.applicable
        ≡ capped (length (cond (not b) (v ∷ filter may_apply vs) (filter may_apply vs))) in
        record {
          passes = p ∙ (λ j. sym q j && all_pass vs);
          impossible = i ∙ h.impossible;
          silent = f ∙ h.silent;
          applicable = subst P (sym q)
              (more_counted old.applicable new.applicable applicable a h.applicable);
          errors = loud_errors env envs v vs old.errors new.errors xs refl added h.errors;
          environments = loud_environments env envs v vs old.errors new.errors xs refl added
              h.environments;
          demands = demands_with schema env envs vs v _ _ _ d (λ k. (λ j. j, λ j. j)) h.demands;
        }

    pub with_failure : (b : Bool) → b ≡ is_silent (map finding_of xs) → new.passes ≡ false
        → new.is_impossible ≡ false → new.fails_without_error ≡ (old.fails_without_error || b)
        → new.applicable ≡ capped (old.applicable + 1) → new.demands ≡ old.demands
        → Surveys schema new (env ∷ envs) (fails (map finding_of xs) ∷ vs)
    unfolding applicable
    with_failure b q p i f a d =
        let v = fails (map finding_of xs) in
        let P : BTreeSet code.Demand → Type 0 = λ s. (k : Demand) → IsOneOf k (demands_of s.keys)
        ↔ IsDemandInSome schema (env ∷ envs) (v ∷ vs) k in
        record {
          passes = p;
          impossible = i;
          silent = f ∙ ((λ j. h.silent j || q j)
              ∙ or_swapped (some_fails_silently vs) (is_silent (map finding_of xs)));
          applicable = more_counted old.applicable new.applicable applicable a h.applicable;
          errors = loud_errors env envs v vs old.errors new.errors xs refl added h.errors;
          environments = loud_environments env envs v vs old.errors new.errors xs refl added
              h.environments;
          demands = subst P (sym d)
              (no_demands schema env envs vs (map finding_of xs) _ h.demands);
        }
