-- The outcomes of the checks of the example policies, and a proof that the premises of safety hold
-- together.
use Rattle.std.proofs.Common.{◌≡◌, inl, Bool, true, List, [], ◌∷◌, map, refl, sym, ap, subst}
use Rattle.std.proofs.lemmas.List.Sorted.{IsPermutation-refl}
use Rattle.cedar_types.specs.declared.base.names.slots.SlotId.{SlotId}
use Rattle.cedar_types.specs.declared.base.types.ValidationMode.TheVariants.{Strict}
use Rattle.cedar_types.specs.Errors.{Finding, Warning}
use Rattle.cedar_types.specs.Environments.Linking.{checked_envs}
use Rattle.cedar_types.specs.Environments.RequestEnvs.{Env}
use Rattle.cedar_types.specs.Templates.{PlainTemplate, condition_of}
use Rattle.cedar_typing.specs.Composition.{SlotsInScopeAlone}
use Rattle.cedar_typing.specs.Evaluation.Conformance.{IsBound}
use Rattle.cedar_typing.specs.Examples.PolicySoundness.{sample_basis, meeting_template, meeting_slots, meeting, PolicyPremisesAreMet}
use Rattle.cedar_typing.specs.PolicyCheck.{Verdict, PolicyChecks, policy_check}
use Rattle.cedar_typing.specs.PolicyCheck.Outcome.{Adds, VerdictsOf, all_pass, all_errors, warnings_of}
use Rattle.cedar_typing.specs.Soundness.Policies.{Basis, IsSoundAndClosed, IsWellFormed, IsConforming, setting_on, CheckedOn}
use Rattle.cedar_typing.specs.Silence.{HasNoUnknowns}
use Rattle.cedar_typing.proofs.Basics.{first_is, rest_is}
use Rattle.cedar_typing.proofs.Composition.Slots.{slots_bound}
use Rattle.cedar_typing.proofs.Examples.World.{greets, greeting_conforms}
use Rattle.cedar_typing.proofs.Policies.Check.{checked}

-- the members that are added to the empty list are those of the new list
all_new : {A : Type 0} (these new : List A) → these ≡ new → Adds [] these new
all_new {A} these new e = subst (λ xs. Adds [] these xs) e (λ x. (λ h. h, λ h. h))

module _ (b : Basis) (t : PlainTemplate) where
  abbrev verdict_in : Env → Verdict
  verdict_in e = policy_check (setting_on b t.id e) (condition_of t)

  all_checked : (es : List Env) → VerdictsOf (λ e. PolicyChecks (setting_on b t.id e) (condition_of t)) es (map verdict_in es)
  all_checked [] = tt
  all_checked (e ∷ es) = (checked (setting_on b t.id e) (condition_of t), all_checked es)

  -- the check passes and has no errors, and gives these warnings
  pub passing : (ws : List Warning) → all_pass (map verdict_in (checked_envs b.schema b.mode t)) ≡ true
      → all_errors (map verdict_in (checked_envs b.schema b.mode t)) ≡ []
      → warnings_of t (map verdict_in (checked_envs b.schema b.mode t)) ≡ ws → CheckedOn b t true [] [] [] ws
  passing ws p e w = record {
    listed = checked_envs b.schema b.mode t;
    verdicts = map verdict_in (checked_envs b.schema b.mode t);
    in_some_order = IsPermutation-refl _;
    checked = all_checked (checked_envs b.schema b.mode t);
    answered = sym p;
    errors_added = all_new _ _ e;
    warnings_added = all_new _ _ w;
  }

  -- the outcome of the policy's check: whether it passes, its errors and its warnings
  abbrev pub comes_to : Bool × (List Finding × List Warning)
  comes_to =
      let vs : List Verdict = map verdict_in (checked_envs b.schema b.mode t) in
      (all_pass vs, (all_errors vs, warnings_of t vs))

  pub passing_so : (ws : List Warning) → comes_to ≡ (true, ([], ws)) → CheckedOn b t true [] [] [] ws
  passing_so ws h =
      passing ws (ap (λ (x : Bool × (List Finding × List Warning)). x.0) h)
      (ap (λ (x : Bool × (List Finding × List Warning)). x.1.0) h) (ap (λ (x : Bool × (List Finding × List Warning)). x.1.1) h)

-- several policies pass, each with its warnings
module _ (b : Basis) (warnings : PlainTemplate → List Warning) where
  abbrev pub AllPass : List PlainTemplate → Type 0
  AllPass [] = Unit {0}
  AllPass (t ∷ ts) = CheckedOn b t true [] [] [] (warnings t) × AllPass ts

  pub all_passing : (ts : List PlainTemplate) → map (λ t. comes_to b t) ts ≡ map (λ t. (true, ([], warnings t))) ts → AllPass ts
  all_passing [] h = tt
  all_passing (t ∷ ts) h = (passing_so b t (warnings t) (first_is h), all_passing ts (rest_is h))

pub both_bound : (x : SlotId) → IsBound (meeting_slots x)
both_bound x = tt

-- if each slot is bound, a policy is well-formed if its slots stand in the scope alone
pub formed : (t : PlainTemplate) → HasNoUnknowns (condition_of t) → SlotsInScopeAlone t → IsWellFormed t meeting_slots
formed t u a =
    record { no_unknowns = u; slots_in_scope = a; bound = slots_bound meeting_slots both_bound (condition_of t) }

pub strict_sample : IsSoundAndClosed (sample_basis Strict)
strict_sample = record { mode = refl; closed = refl }

pub meeting_conforms : IsConforming (sample_basis Strict) meeting
meeting_conforms = record {
  request = (_, inl refl, greets);
  store = greeting_conforms.store;
  functions = greeting_conforms.functions;
}

pub policy_premises : PolicyPremisesAreMet
policy_premises = record {
  passes = passing _ _ _ refl refl refl;
  basis = strict_sample;
  named = record { types = refl; actions = refl };
  well_formed = formed meeting_template refl (λ x. refl);
  conforming = meeting_conforms;
  evaluates = refl;
}
