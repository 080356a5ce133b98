-- The examples of the promises to a host.
use Rattle.std.proofs.Common.{◌≡◌, inl, inr, true, false, true≢false, [], ◌∷◌, None, refl, sym, ap, subst, ◌∙◌}
use Rattle.std.proofs.lemmas.List.Elements.{All-head}
use Rattle.std.specs.Prelude.{codes}
use Rattle.cedar_types.specs.declared.base.templates.effects.Effect.TheVariants.{Permit}
use Rattle.cedar_types.specs.declared.base.types.ValidationMode.TheVariants.{Strict}
use Rattle.cedar_types.specs.Environments.{DeclaredEnv}
use Rattle.cedar_types.specs.Environments.RequestEnvs.{Env, Undeclared}
use Rattle.cedar_types.specs.Extensions.{ExtensionTable}
use Rattle.cedar_types.specs.Templates.{PlainTemplate, condition_of}
use Rattle.cedar_typing.specs.Composition.{own_env}
use Rattle.cedar_typing.specs.Evaluation.Conformance.{IsOneOf, IsEnvironmentOf, KeepsTable}
use Rattle.cedar_typing.specs.Evaluation.World.{Interpretation, World}
use Rattle.cedar_typing.specs.Examples.Composition.{greets}
use Rattle.cedar_typing.specs.Examples.PolicySoundness.{sample_basis, meeting_slots, meeting}
use Rattle.cedar_typing.specs.Examples.Promises.{true_policy, wrong_policy}
use Rattle.cedar_typing.specs.Soundness.{IsWorldOf}
use Rattle.cedar_typing.specs.Soundness.Policies.{Basis, IsSoundAndClosed, IsWellFormed, setting_on}
use Rattle.cedar_typing.specs.TypedCopies.{EvaluatesAs}
use Rattle.cedar_typing.specs.TypedExpr.{TypedTree}
use Rattle.cedar_typing.proofs.Basics.{none_is}
use Rattle.cedar_typing.proofs.Examples.PolicySoundness.{strict_sample, meeting_conforms}
use Rattle.cedar_typing.proofs.Examples.TypedCopies.{apart, not_true}
use Rattle.cedar_typing.proofs.Examples.World as world_proofs
use Rattle.cedar_typechecker.specs.Slices.Examples.World.{wiki_basis, staff_slots, reading, slice_of}
use Rattle.cedar_typechecker.proofs.Slices.Examples.World.{wiki_checker, sample_kept, reading_conforms, formed, differs, fails_or_gives, held}
use Rattle.cedar_conformance.specs.declared.entities.Entities.{Entities}
use Rattle.cedar_conformance.specs.declared.requests.Request.{Request}
use Rattle.cedar_conformance.specs.Entities.{store_of}
use Rattle.cedar_conformance.specs.Requests.{request_of}
use Rattle.cedar_host.specs.declared.admission.LinkedTemplate.{LinkedTemplate}
use Rattle.cedar_host.specs.declared.conditions.TypedCondition.{TypedCondition}
use Rattle.cedar_host.specs.Accepted.{template_in, slots_in}
use Rattle.cedar_host.specs.Admission.{IsWorldOfPolicy, EvaluatesSafely}
use Rattle.cedar_host.specs.Conditions.{env_in}
use Rattle.cedar_host.specs.Responses.{LinkedPolicy, PolicyError, Response, IsAcceptedIn}
use Rattle.cedar_host.specs.Safety.{sound_basis}
use Rattle.cedar_examples.specs.Promises.{if_active, unless_active, EvaluationExamples, ResponsePromises, ConditionPromises, FirstUnmetExamples}

-- ---- evaluation

-- a world with this data, these slots and these functions
abbrev over : Request → Entities → World → World
over request entities world =
    record world { request = request_of request; store = store_of entities }

meeting_over : (request : Request) (entities : Entities)
    → IsWorldOfPolicy (sample_basis Strict) request entities meeting_slots (over request entities meeting)
meeting_over request entities = record {
  of_data = record { request = refl; store = refl };
  slots_bound = refl;
  functions = meeting_conforms.functions;
}

-- functions that return nothing, and compare the types that a table compares
abbrev silent : ExtensionTable → Interpretation
silent table = record { calls = []; overloaded_types = table.overloaded_types; less = []; less_or_equal = [] }

silent_keeps : (table : ExtensionTable) → KeepsTable table (silent table)
silent_keeps table = record { returns = λ n f q vs v h. absurd (none_is h); overloaded_types = λ p. refl }

-- a policy that goes wrong breaks the promise by any basis, however its slots are bound
goes_wrong : (b : Basis) (request : Request) (entities : Entities) (p : LinkedTemplate)
    → EvaluatesSafely b request entities wrong_policy (slots_in p) → ⊥
goes_wrong b request entities p promise =
    let world : World = record {
      request = request_of request;
      slots = slots_in p;
      store = store_of entities;
      functions = silent b.table;
    } in
    (promise world (record {
      of_data = record { request = refl; store = refl };
      slots_bound = refl;
      functions = silent_keeps b.table;
    })).0

wiki_closed : IsSoundAndClosed (wiki_basis Strict)
wiki_closed = record { mode = refl; closed = (wiki_checker Strict).closed }

pub evaluation_examples : EvaluationExamples
evaluation_examples = record {
  safe = λ request entities world w. (tt, tt);
  wrong = λ request entities promise. (promise (over request entities meeting) (meeting_over request entities)).0;
  in_slices = λ request entities of_reading promise.
      (differs if_active reading (slice_of reading 0) _ _ refl refl (fails_or_gives _ _)).broken
      ((promise reading (record { of_data = of_reading; slots_bound = refl; functions = sample_kept Strict })).same
      (slice_of reading 0) (held reading 0 tt));
  all = λ meaning v mode steps p request entities same promise.
      let b = sound_basis mode meaning v in
      let Safe : LinkedTemplate → Type 0 = λ q. EvaluatesSafely b request entities (template_in q) (slots_in q) in
      goes_wrong b request entities p
      (subst (λ t. EvaluatesSafely b request entities t (slots_in p)) same (All-head Safe p [] promise));
}

-- ---- responses

-- a permit of a template, under a name
abbrev permit_of : PlainTemplate → LinkedPolicy
permit_of t = record { name = codes "p"; effect = Permit; template = t; slots = staff_slots }

one_or_none : (e : PolicyError) → e ∷ [] ≡ [] → ⊥
one_or_none e h = cc

the_only : {A : Type 0} (P : A → Type 0) (x y : A) → P x → IsOneOf y (x ∷ []) → P y
the_only P x y h (inl q) = subst P (sym q) h
the_only P x y h (inr i) = absurd i

pub response_promises : ResponsePromises
response_promises = record {
  errors = λ r accepted same promise.
      let p = permit_of unless_active in
      let IsAccepted : LinkedPolicy → Type 0 = λ q. IsAcceptedIn (r ∷ []) q in
      let IsFormed : LinkedPolicy → Type 0 = λ q. IsWellFormed q.template q.slots in
      let alike =
      promise (p ∷ []) (λ q i. the_only IsAccepted p q (r, inl refl, accepted, same) i) (wiki_checker Strict).closed reading
      (λ q i. the_only IsFormed p q (formed unless_active refl (λ x. refl)) i) (reading_conforms Strict)
      (slice_of reading 0) (held reading 0 tt) in
      one_or_none _ (ap (λ (s : Response). s.erring) alike);
}

-- ---- typed conditions

meeting_fits : IsWorldOf (setting_on (sample_basis Strict) true_policy.id (greets None None)) meeting
meeting_fits = record {
  environment = (world_proofs.greets, tt, tt);
  store = meeting_conforms.store;
  functions = meeting_conforms.functions;
}

undeclared : (d : DeclaredEnv) → Undeclared ≡ own_env true_policy d → ⊥
undeclared d h = cc

not_covered : (c : TypedCondition) → env_in c ≡ Undeclared → (x : TypedCondition) → IsOneOf x (c ∷ [])
    → (d : DeclaredEnv) → env_in x ≡ own_env true_policy d → ⊥
not_covered c q x (inl same) d own = undeclared d (sym q ∙ (sym (ap env_in same) ∙ own))
not_covered c q x (inr i) d own = i

pub condition_promises : ConditionPromises
condition_promises = record {
  means = λ c env tree promise.
      let b = sample_basis Strict in
      let IsOf : Env → Type 0 = λ e. IsEnvironmentOf b.schema e in
      let IsIn : Env → Type 0 = λ e. IsWorldOf (setting_on b true_policy.id e) meeting in
      let Means : TypedTree → Type 0 = λ x. EvaluatesAs meeting x (condition_of true_policy) in
      let same =
      promise strict_sample (subst IsOf (sym env) (inl refl)) meeting (subst IsIn (sym env) meeting_fits) in
      apart _ _ (sym (subst Means tree same)) refl not_true;
  covers = λ c env promise.
      let it = promise strict_sample (λ x. refl) meeting meeting_conforms in
      not_covered c env it.0 it.1 it.2.0 it.2.2;
}

-- ---- the first premise that is not met

pub first_unmet_examples : FirstUnmetExamples
first_unmet_examples = record {
  policy = λ f schema t values request entities external first. true≢false (sym external ∙ first.0);
  request = λ f schema t values request entities external first. true≢false (sym external ∙ first.0);
  entities = λ fs schema t values request entities external first. true≢false (sym external ∙ first.0);
}
