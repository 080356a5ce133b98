-- Meaning of the typed conditions of a policy, from the promises on typed copies.
use Rattle.std.proofs.Common.{◌≡◌, inl, inr, List, [], ◌∷◌, ◌++◌, map, Option, Some, None, refl, sym, ap, subst, ◌∙◌}
use Rattle.std.proofs.lemmas.List.{map_push}
use Rattle.std.specs.Prelude.{IsPermutation}
use Rattle.std.proofs.lemmas.List.Sorted.{IsPermutation-sym}
use Rattle.cedar_types.specs.Environments.Linking.{checked_envs}
use Rattle.cedar_types.specs.Environments.RequestEnvs.{Env}
use Rattle.cedar_types.specs.Errors.{Finding}
use Rattle.cedar_types.specs.Templates.{PlainTemplate, condition_of}
use Rattle.cedar_typing.specs.Composition.{own_env}
use Rattle.cedar_typing.specs.Evaluation.Conformance.{IsOneOf, ConformingRequest}
use Rattle.cedar_typing.specs.Evaluation.World.{World}
use Rattle.cedar_typing.specs.PolicyCheck.{Verdict, succeeds, irrelevant, fails, PolicyChecks}
use Rattle.cedar_typing.specs.Setting.{Setting}
use Rattle.cedar_typing.specs.Soundness.Policies.{Basis, setting_on}
use Rattle.cedar_typing.specs.TypedCopies.{EvaluatesAs, VerdictMeansTheSame}
use Rattle.cedar_typing.specs.TypedCopies.Policies.{PolicyCopiesMeanTheSame}
use Rattle.cedar_typing.specs.TypedExpr.{Source, TypedTree}
use Rattle.cedar_typing.proofs.Basics.{some_is, none_is}
use Rattle.cedar_typing.proofs.Basics.Members.{each_one, in_right, moved}
use Rattle.cedar_typing.proofs.Composition.Links.{own_env_is_checked}
use Rattle.cedar_typechecker.proofs.Levels.Gains.{nil_right}
use Rattle.cedar_host.specs.declared.conditions.TypedCondition.{TypedCondition}
use Rattle.cedar_host.specs.Conditions.{env_in, tree_in, typed_condition_in, IsOfCheck, AreOfAllChecks, AreConditionsOf}
use Rattle.cedar_host.specs.Conditions.{MeansTheCondition, IsOwnOf, CoverRequests, MeanItIfThere}

-- a member of a mapped list comes from a member of the list
mapped_from : {A B : Type 0} (f : A → B) (b : B) (xs : List A) → IsOneOf b (map f xs)
    → (a : A) × IsOneOf a xs × (f a ≡ b)
mapped_from f b [] h = absurd h
mapped_from f b (a ∷ xs) (inl e) = (a, inl refl, sym e)
mapped_from f b (a ∷ xs) (inr h) =
    let r = mapped_from f b xs h in
    (r.0, inr r.1, r.2)

-- the typed condition in a verdict evaluates as the expression, if the verdict means the same
of_verdict : (world : World) (e : Source) (v : Verdict) (x : TypedTree) → typed_condition_in v ≡ Some x
    → VerdictMeansTheSame world e v → EvaluatesAs world x e
of_verdict world e (succeeds y) x q h = subst (λ z. EvaluatesAs world z e) (some_is q) h
of_verdict world e (irrelevant es y) x q h = subst (λ z. EvaluatesAs world z e) (some_is q) h
of_verdict world e (fails es) x q h = absurd (none_is q)

module _ (b : Basis) (t : PlainTemplate) (means : PolicyCopiesMeanTheSame b t)
    (cs : List TypedCondition) (all : AreOfAllChecks b t cs) where
  each_means : (c : TypedCondition) → IsOneOf c cs → MeansTheCondition b t c
  each_means c one closed there world w =
      let k = each_one (IsOfCheck b t) cs all.checked c one in
      of_verdict world (condition_of t) k.0 (tree_in c) k.2
      (means.fitting closed (env_in c) there world w k.0 k.1)

  covered : CoverRequests b t cs
  covered closed alone world i = by i.request
    where
      by : ConformingRequest b.schema world.request
          → (c : TypedCondition) × IsOneOf c cs × IsOwnOf t world c × EvaluatesAs world (tree_in c) (condition_of t)
      by (d, one, fits) =
          let there = own_env_is_checked b.schema b.mode t alone d one in
          let back = IsPermutation-sym (map env_in cs) (checked_envs b.schema b.mode t) all.environments in
          let c = mapped_from env_in (own_env t d) cs (moved _ (map env_in cs) back (own_env t d) there) in
          let k = each_one (IsOfCheck b t) cs all.checked c.0 c.1 in
          let P : Env → Type 0 = λ env. PolicyChecks (setting_on b t.id env) (condition_of t) k.0 in (
            c.0,
            c.1,
            (d, fits, c.2),
            of_verdict world (condition_of t) k.0 (tree_in c.0) k.2
                (means.own closed alone world i d one fits k.0 (subst P c.2 k.1)),
          )

pub mean_it : (b : Basis) (t : PlainTemplate) → PolicyCopiesMeanTheSame b t
    → (found : Option (List TypedCondition)) → AreConditionsOf b t found → MeanItIfThere b t found
mean_it b t means None h = tt
mean_it b t means (Some cs) h =
    record { each = each_means b t means cs h; covered = covered b t means cs h }

-- ---- while they are found

in_one : {A : Type 0} (xs : List A) (x : A) (ys : List A) → xs ++ x ∷ ys ≡ (xs ++ x ∷ []) ++ ys
in_one [] x ys = refl
in_one (z ∷ xs) x ys = ap (λ zs. z ∷ zs) (in_one xs x ys)

-- the first environment that was left has its condition
pub one_more_found : (old new : List TypedCondition) (c : TypedCondition) (left left' all : List Env)
    → new ≡ old ++ c ∷ [] → left ≡ env_in c ∷ left'
    → IsPermutation (map env_in old ++ left) all → IsPermutation (map env_in new ++ left') all
one_more_found old new c left left' all pushed first p =
    subst (λ xs. IsPermutation xs all)
    (ap (λ es. map env_in old ++ es) first
    ∙ in_one (map env_in old) (env_in c) left'
    ∙ ap (λ es. es ++ left') (sym (map_push env_in old c) ∙ sym (ap (map env_in) pushed)))
    p

-- no environment is left
pub all_found : (cs : List TypedCondition) (left all : List Env) → left ≡ []
    → IsPermutation (map env_in cs ++ left) all → IsPermutation (map env_in cs) all
all_found cs left all none p =
    subst (λ xs. IsPermutation xs all)
    (ap (λ es. map env_in cs ++ es) none ∙ nil_right (map env_in cs)) p

-- the first environment that was left is one of all
pub is_one_of_all : (before left left' all : List Env) (e : Env) → left ≡ e ∷ left'
    → IsPermutation (before ++ left) all → IsOneOf e all
is_one_of_all before left left' all e first p =
    moved (before ++ left) all p e (in_right e before left (subst (IsOneOf e) (sym first) (inl refl)))

-- a verdict without a condition is a failure
pub refused : (s : Setting) (e : Source) (v : Verdict) → typed_condition_in v ≡ None → PolicyChecks s e v
    → (es : List Finding) × PolicyChecks s e (fails es)
refused s e (succeeds x) q h = absurd (none_is (sym q))
refused s e (irrelevant es x) q h = absurd (none_is (sym q))
refused s e (fails es) q h = (es, h)
