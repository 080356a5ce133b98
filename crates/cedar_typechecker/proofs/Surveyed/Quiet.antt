-- A survey takes in environments whose checks are irrelevant without an error: all that it may gain
-- is the demand of an `in`.
use Rattle.std.proofs.Common.{◌≡◌, ◌↔◌, Bool, List, [], ◌∷◌, ◌++◌, map, length, filter, ◌⊎◌, inl, inr, refl, sym, ◌∙◌, ap, subst}
use Rattle.std.specs.BTreeMap.{BTreeMap, get, keys}
use Rattle.std.specs.List.{list_any}
use Rattle.std.proofs.lemmas.List.Sorted.{IsPermutation-trans, IsPermutation-append_comm, IsPermutation-append_left}
use Rattle.cedar_types.specs.declared.base.errors.validation_errors.ValidationError.{ValidationError}
use Rattle.cedar_types.specs.Environments.RequestEnvs.{Env, Undeclared}
use Rattle.cedar_types.specs.ErrorOrder.{error_cmp}
use Rattle.cedar_types.specs.Errors.{Finding, finding_of}
use Rattle.cedar_types.specs.Templates.{PlainTemplate}
use Rattle.cedar_typing.specs.Evaluation.Conformance.{IsOneOf}
use Rattle.cedar_typing.specs.PolicyCheck.{Verdict, irrelevant}
use Rattle.cedar_typing.specs.PolicyCheck.Outcome.{VerdictsOf, Adds, all_pass, all_irrelevant, all_errors}
use Rattle.cedar_typing.specs.Setting.{Setting}
use Rattle.cedar_typing.specs.Soundness.Policies.{Basis, setting_on}
use Rattle.cedar_typing.proofs.Basics.Gains.{in_either}
use Rattle.cedar_typing.proofs.Basics.Members.{in_left, in_right}
use Rattle.cedar_typechecker.specs.declared.survey.Survey.{Survey}
use Rattle.cedar_typechecker.specs.declared.survey.environments.Environments.{Environments}
use Rattle.cedar_typechecker.specs.LeftOut.{IsQuiet, demands_if, visits_in_env}
use Rattle.cedar_typechecker.specs.Levels.Demands.{Demand, capped, add_demands}
use Rattle.cedar_typechecker.specs.Levels.Outcome.{ChecksOn}
use Rattle.cedar_typechecker.specs.Levels.Views.{demands_of}
use Rattle.cedar_typechecker.specs.SurveyedErrors.{IsFoundIn, elsewhere, IsListingIfAny}
use Rattle.cedar_typechecker.specs.Surveyed.{TakesIn}
use Rattle.cedar_typechecker.specs.Surveys.{surroundings_at, IsDemandInSome, may_apply, some_fails_silently, Surveys}
use Rattle.cedar_typechecker.proofs.LeftOut.Asked.{of_either, joined}

-- two surveys agree in all fields beside their demands
pub record IsSameBeside (old new : Survey) : Type 0 where
  pub errors : new.errors ≡ old.errors
  pub passes : new.passes ≡ old.passes
  pub impossible : new.is_impossible ≡ old.is_impossible
  pub silent : new.fails_without_error ≡ old.fails_without_error
  pub applicable : new.applicable ≡ old.applicable

module _ (b : Basis) (t : PlainTemplate) where
  abbrev pub s : Setting
  s = setting_on b t.id Undeclared

  abbrev pub AreQuiet : List Env → Type 0
  AreQuiet left = (e : Env) → IsOneOf e left → IsQuiet s t e

  abbrev others : (e : Env) (left : List Env) → AreQuiet (e ∷ left) → AreQuiet left
  others e left f = λ z k. f z (inr k)

  abbrev verdicts : (left : List Env) → AreQuiet left → List Verdict
  verdicts [] f = []
  verdicts (e ∷ left) f = irrelevant [] (f e (inl refl)).copy ∷ verdicts left (others e left f)

  abbrev asks : Env → Bool
  asks = visits_in_env b.schema b.mode t

  module _ (envs : List Env) (vs : List Verdict) where
    checked : (left : List Env) (f : AreQuiet left) → VerdictsOf (ChecksOn b t) envs vs → VerdictsOf (ChecksOn b t) (left ++ envs) (verdicts left f ++ vs)
    checked [] f h = h
    checked (e ∷ left) f h = (((f e (inl refl)).verdict (irrelevant [] (f e (inl refl)).copy)).1 refl, checked left (others e left f) h)

    passes : (left : List Env) (f : AreQuiet left) → all_pass (verdicts left f ++ vs) ≡ all_pass vs
    passes [] f = refl
    passes (e ∷ left) f = passes left (others e left f)

    impossible : (left : List Env) (f : AreQuiet left) → all_irrelevant (verdicts left f ++ vs) ≡ all_irrelevant vs
    impossible [] f = refl
    impossible (e ∷ left) f = impossible left (others e left f)

    silent : (left : List Env) (f : AreQuiet left) → some_fails_silently (verdicts left f ++ vs) ≡ some_fails_silently vs
    silent [] f = refl
    silent (e ∷ left) f = silent left (others e left f)

    applicable : (left : List Env) (f : AreQuiet left) → filter may_apply (verdicts left f ++ vs) ≡ filter may_apply vs
    applicable [] f = refl
    applicable (e ∷ left) f = applicable left (others e left f)

    errors : (left : List Env) (f : AreQuiet left) → all_errors (verdicts left f ++ vs) ≡ all_errors vs
    errors [] f = refl
    errors (e ∷ left) f = errors left (others e left f)

    found : (k : Finding) (left : List Env) (f : AreQuiet left) (own : List Env) → IsFoundIn k envs vs own
        → IsFoundIn k (left ++ envs) (verdicts left f ++ vs) own
    found k [] f own h = h
    found k (e ∷ left) f own h = elsewhere (λ i. i) (found k left (others e left f) own h)

    abbrev IsInOne : List Env → Demand → Type 0
    IsInOne left d = IsOneOf d (demands_if (list_any asks left) t) ⊎ IsDemandInSome b.schema envs vs d

    one_more : (e : Env) (left : List Env) (f : AreQuiet (e ∷ left)) (d : Demand)
        → IsDemandInSome b.schema (left ++ envs) (verdicts left (others e left f) ++ vs) d ↔ IsInOne left d
        → IsDemandInSome b.schema ((e ∷ left) ++ envs) (verdicts (e ∷ left) f ++ vs) d ↔ IsInOne (e ∷ left) d
    one_more e left f d rest = (to, from)
      where
        q : IsQuiet s t e
        q = f e (inl refl)

        later : IsInOne left d → IsInOne (e ∷ left) d
        later (inl i) = inl (joined t.place (asks e) (list_any asks left) d (inr i))
        later (inr i) = inr i

        to : IsOneOf d (add_demands (surroundings_at b.schema e) q.copy 0 []) ⊎ IsDemandInSome b.schema (left ++ envs) (verdicts left (others e left f) ++ vs) d
            → IsInOne (e ∷ left) d
        to (inl i) = inl (joined t.place (asks e) (list_any asks left) d (inl ((q.demanded d).0 i)))
        to (inr i) = later (rest.0 i)

        which : IsOneOf d (demands_if (asks e) t) ⊎ IsOneOf d (demands_if (list_any asks left) t)
            → IsOneOf d (add_demands (surroundings_at b.schema e) q.copy 0 []) ⊎ IsDemandInSome b.schema (left ++ envs) (verdicts left (others e left f) ++ vs) d
        which (inl i) = inl ((q.demanded d).1 i)
        which (inr i) = inr (rest.1 (inl i))

        from : IsInOne (e ∷ left) d
            → IsOneOf d (add_demands (surroundings_at b.schema e) q.copy 0 []) ⊎ IsDemandInSome b.schema (left ++ envs) (verdicts left (others e left f) ++ vs) d
        from (inl i) = which (of_either t.place (asks e) (list_any asks left) d i)
        from (inr i) = inr (rest.1 (inr i))

    none_more : (d : Demand) → IsInOne [] d → IsDemandInSome b.schema envs vs d
    none_more d (inl i) = absurd i
    none_more d (inr i) = i

    -- a demand of one of them is that of an `in`, if one asks it
    demands : (left : List Env) (f : AreQuiet left) (d : Demand)
        → IsDemandInSome b.schema (left ++ envs) (verdicts left f ++ vs) d ↔ IsInOne left d
    demands [] f d = (λ i. inr i, none_more d)
    demands (e ∷ left) f d = one_more e left f d (demands left (others e left f) d)

  module _ (old new : Survey) (same : IsSameBeside old new) (left : List Env) (f : AreQuiet left)
      (adds : Adds (demands_of old.demands.keys) (demands_if (list_any asks left) t) (demands_of new.demands.keys)) where
    surveys : (envs : List Env) (vs : List Verdict) → Surveys b.schema old envs vs → Surveys b.schema new (left ++ envs) (verdicts left f ++ vs)
    surveys envs vs h = record {
      passes = same.passes ∙ h.passes ∙ sym (passes envs vs left f);
      impossible = same.impossible ∙ h.impossible ∙ sym (impossible envs vs left f);
      silent = same.silent ∙ h.silent ∙ sym (silent envs vs left f);
      applicable = same.applicable ∙ h.applicable ∙ ap (λ xs. capped (length xs)) (sym (applicable envs vs left f));
      errors = λ e.
          let P : List Finding → Type 0 = λ es. IsOneOf e (map finding_of (keys new.errors)) ↔ IsOneOf e es in
          let Q : BTreeMap ValidationError Environments → Type 0 = λ m. IsOneOf e (map finding_of (keys m)) ↔ IsOneOf e (all_errors vs) in
          subst P (sym (errors envs vs left f)) (subst Q (sym same.errors) (h.errors e));
      environments = λ x.
          let k = h.environments x in
          let P : BTreeMap ValidationError Environments → Type 0 = λ m. IsListingIfAny k.0 (get error_cmp m x) in
          (k.0, found envs vs (finding_of x) left f k.0 k.1, subst P (sym same.errors) k.2);
      demands = λ d. (
        λ i. (demands envs vs left f d).1 (swapped d (in_either d (demands_of old.demands.keys) (demands_if (list_any asks left) t) ((adds d).0 i))),
        λ i. (adds d).1 (put d ((demands envs vs left f d).0 i)),
      );
    }
      where
        swapped : (d : Demand) → IsOneOf d (demands_of old.demands.keys) ⊎ IsOneOf d (demands_if (list_any asks left) t)
            → IsOneOf d (demands_if (list_any asks left) t) ⊎ IsDemandInSome b.schema envs vs d
        swapped d (inl i) = inr ((h.demands d).0 i)
        swapped d (inr i) = inl i

        put : (d : Demand) → IsOneOf d (demands_if (list_any asks left) t) ⊎ IsDemandInSome b.schema envs vs d
            → IsOneOf d (demands_of old.demands.keys ++ demands_if (list_any asks left) t)
        put d (inl i) = in_right d (demands_of old.demands.keys) (demands_if (list_any asks left) t) i
        put d (inr i) = in_left d (demands_of old.demands.keys) (demands_if (list_any asks left) t) ((h.demands d).1 i)

    pub takes_quiet : TakesIn b t old new left
    takes_quiet all h = record {
      listed = left ++ h.listed;
      verdicts = verdicts left f ++ h.verdicts;
      in_some_order =
          IsPermutation-trans (left ++ h.listed) (h.listed ++ left) (all ++ left) (IsPermutation-append_comm left h.listed)
          (IsPermutation-append_left left h.listed all h.in_some_order);
      checked = checked h.listed h.verdicts left f h.checked;
      surveys = surveys h.listed h.verdicts h.surveys;
    }
