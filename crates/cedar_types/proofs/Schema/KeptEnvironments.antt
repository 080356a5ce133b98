-- Environments that a schema keeps are those of its actions.
use Rattle.std.proofs.Common.{◌≡◌, refl, sym, ap, subst, ◌∙◌, Bool, true, false, ◌&&◌, true≢false, List, [], ◌∷◌, ◌++◌, map}
use Rattle.std.proofs.lemmas.Grind.{not_there}
use Rattle.cedar_types.specs.Names.{path_eq, uid_eq}
use Rattle.cedar_types.specs.Types.Bounds.{ty_eq}
use Rattle.cedar_types.specs.Lemmas.Comparisons.{Same, and_left, and_right, and_both, list_same, path_same, uid_same}
use Rattle.cedar_types.specs.Environments.{DeclaredEnv, declared_env, environments_of}
use Rattle.cedar_types.specs.Schemas.Contents.{schema_of, kept_environments}
use Rattle.cedar_types.specs.Environments.RequestEnvs.{unlinked, undeclared_envs, is_partial}
use Rattle.cedar_types.specs.declared.base.schema.request_environments.UnlinkedRequestEnv.{UnlinkedRequestEnv}
use Rattle.cedar_types.specs.declared.base.schema.ValidatorSchema.{ValidatorSchema}
use Rattle.cedar_types.specs.contracts.base.types.ValidationModePartialEq.TheImpl as mode_test
use Rattle.cedar_types.specs.declared.base.types.ValidationMode.{ValidationMode}
use Rattle.cedar_types.specs.declared.base.types.ValidationMode.TheVariants.{Strict, Permissive, Partial}
use Rattle.cedar_types.proofs.Comparisons.SameTypes.{ty_same}

-- Truncated equality implies equality if a test decides it
told : {A : Type 0} {E : A → A → Bool} → Same E → (x y : A) → ∥ x ≡ y ∥₁ → x ≡ y
told {A} {E} same x y h = at (E x y) refl
  where
    at : (b : Bool) → E x y ≡ b → x ≡ y
    at true e = same.to x y e
    at false e = absurd (not_there h (λ q. true≢false (sym (subst (λ z. E x z ≡ true) q (same.itself x)) ∙ e)))

abbrev env_eq : DeclaredEnv → DeclaredEnv → Bool
env_eq d e = path_eq d.principal e.principal && (uid_eq d.action e.action && (path_eq d.resource e.resource && ty_eq d.context e.context))

env_same : Same env_eq
env_same = record {
  to = λ d e h.
      let rest = and_right (path_eq d.principal e.principal)
      (uid_eq d.action e.action && (path_eq d.resource e.resource && ty_eq d.context e.context)) h in
      let last = and_right (uid_eq d.action e.action) (path_eq d.resource e.resource && ty_eq d.context e.context) rest in
      λ i. record {
        principal =
            path_same.to d.principal e.principal
            (and_left (path_eq d.principal e.principal)
            (uid_eq d.action e.action && (path_eq d.resource e.resource && ty_eq d.context e.context)) h) i;
        action =
            uid_same.to d.action e.action
            (and_left (uid_eq d.action e.action) (path_eq d.resource e.resource && ty_eq d.context e.context) rest)
            i;
        resource = path_same.to d.resource e.resource (and_left (path_eq d.resource e.resource) (ty_eq d.context e.context) last) i;
        context = ty_same.to d.context e.context (and_right (path_eq d.resource e.resource) (ty_eq d.context e.context) last) i;
      };
  itself = λ d.
      and_both (path_eq d.principal d.principal)
      (uid_eq d.action d.action && (path_eq d.resource d.resource && ty_eq d.context d.context))
      (path_same.itself d.principal)
      (and_both (uid_eq d.action d.action) (path_eq d.resource d.resource && ty_eq d.context d.context) (uid_same.itself d.action)
      (and_both (path_eq d.resource d.resource) (ty_eq d.context d.context) (path_same.itself d.resource) (ty_same.itself d.context)));
}

pub kept : (s : ValidatorSchema) → kept_environments s ≡ environments_of (schema_of s).actions
unfolding schema_of
kept s = told (list_same env_same) (kept_environments s) (environments_of (schema_of s).actions) s.listed

unlinked_each : (es : List UnlinkedRequestEnv) → map (λ e. unlinked (declared_env e)) es ≡ map unlinked (map declared_env es)
unlinked_each [] = refl
unlinked_each (e ∷ es) = ap (λ zs. unlinked (declared_env e) ∷ zs) (unlinked_each es)

-- The environments that remain at the start are all environments of the schema's actions
pub all_left : (s : ValidatorSchema) (us : List UnlinkedRequestEnv) (b c : Bool) → us ≡ s.environments.items → b ≡ c
    → map (λ e. unlinked (declared_env e)) us ++ undeclared_envs b
    ≡ map unlinked (environments_of (schema_of s).actions) ++ undeclared_envs c
all_left s us b c e f =
    λ i. (ap (map (λ e. unlinked (declared_env e))) e ∙ unlinked_each s.environments.items
    ∙ ap (map unlinked) (kept s)) i ++ undeclared_envs (f i)

-- The mode's test for Partial
pub tells_partial : (m : ValidationMode) → mode_test.ghosts.eq m Partial ≡ is_partial m
tells_partial Strict = refl
tells_partial Permissive = refl
tells_partial Partial = refl
