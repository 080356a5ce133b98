-- Examples of the promises of the checks of a policy.
use Rattle.std.proofs.Common.{◌≡◌, ◌≤◌, inl, inr, true, false, true≢false, [], ◌∷◌, length, Some, None, refl, ap, subst, arith}
use Rattle.cedar_types.specs.declared.base.names.slots.SlotId.{SlotId}
use Rattle.cedar_types.specs.declared.base.types.ValidationMode.TheVariants.{Strict}
use Rattle.cedar_types.specs.Environments.{DeclaredEnv}
use Rattle.cedar_types.specs.Environments.RequestEnvs.{Env, Declared}
use Rattle.cedar_types.specs.Errors.{Finding}
use Rattle.cedar_types.specs.Templates.{condition_of}
use Rattle.cedar_types.specs.Templates.Findings.{wrong_members}
use Rattle.cedar_types.specs.Values.{VBool}
use Rattle.cedar_typing.specs.Evaluation.Conformance.{IsOneOf, IsBound}
use Rattle.cedar_typing.specs.Evaluation.World.{Gives}
use Rattle.cedar_typing.specs.Examples.Composition.{greets}
use Rattle.cedar_typing.specs.Examples.Conforming.{review_schema, review_basis, reviewing}
use Rattle.cedar_typing.specs.Examples.CopyPremises.{meet_twice_basis, greeting_at_meet}
use Rattle.cedar_typing.specs.Examples.World.{user}
use Rattle.cedar_typing.specs.PolicyCheck.{policy_check}
use Rattle.cedar_typing.specs.Soundness.Policies.{IsWellFormed, IsConforming, IsSoundAndClosed, setting_on}
use Rattle.cedar_typing.specs.TypedCopies.Policies.{MeansTheSameOn}
use Rattle.cedar_typing.proofs.Composition.Slots.{slots_bound}
use Rattle.cedar_typing.proofs.Examples.Conforming.{conformity_allows}
use Rattle.cedar_typing.proofs.Examples.CopyPremises.{copy_premises_needed}
use Rattle.cedar_typing.proofs.Examples.PolicySoundness.{meeting_conforms}
use Rattle.cedar_typing.proofs.Examples.TypedCopies.{apart, not_true}
use Rattle.cedar_typing.proofs.Policies.Check.{checked}
use Rattle.cedar_typechecker.specs.Levels.Errors.{exceeds}
use Rattle.cedar_typechecker.specs.Levels.Required.{IsRequiredLevel}
use Rattle.cedar_typechecker.specs.Slices.Examples.World.{page, read, read_context, wiki_basis, reading, slice_of}
use Rattle.cedar_typechecker.specs.Slices.NeededPremises.Policies.{unguarded_access}
use Rattle.cedar_typechecker.specs.Slices.NeededPremises.Schemas.{by_schema, twice_declared, meeting_to_read}
use Rattle.cedar_typechecker.specs.Slices.Passing.{NoneOfNamesOrLevels, is_of_names_or_levels}
use Rattle.cedar_typechecker.proofs.Slices.Examples.Levels.{within, has_error}
use Rattle.cedar_typechecker.proofs.Slices.Examples.Needed.{slice_premises_needed}
use Rattle.cedar_typechecker.proofs.Slices.Examples.World.{wiki_checker, reads, reading_conforms, formed, differs, fails_or_gives, held}
use Rattle.cedar_typechecker.proofs.Slices.Nesting.{shallow_is_cut_nowhere}
use Rattle.cedar_typechecker.proofs.Slices.Stores.{slices_hold}
use Rattle.cedar_examples.specs.PolicyPromises.{lost_and_wrong, ErrorsOfMembers, ErrorsBesideLevels, never_both, BothHalvesAtItsLevel}
use Rattle.cedar_examples.specs.PolicyPromises.{too_deep, met_and_false, CopiesOfFaultySchemas}

-- ---- errors beside which a promise is made

all_bound : (x : SlotId) → IsBound (reviewing.slots x)
all_bound x = tt

well_formed : IsWellFormed lost_and_wrong reviewing.slots
well_formed = record {
  no_unknowns = refl;
  slots_in_scope = λ x. refl;
  bound = slots_bound reviewing.slots all_bound (condition_of lost_and_wrong);
}

one_member : length (wrong_members review_schema lost_and_wrong) ≡ 1
one_member = refl

pub errors_of_members : ErrorsOfMembers
errors_of_members = record {
  one = λ e promise.
      let all = conformity_allows.strict in
      let few : length (e ∷ []) ≤ length (wrong_members review_schema lost_and_wrong) = omega (arith, one_member) in
      (promise few (shallow_is_cut_nowhere (review_basis Strict) lost_and_wrong (omega arith)) all.basis reviewing well_formed
      all.conforming).0;
  two = λ e f many uncut closed world w i. absurd (omega (arith, many, one_member));
}

wiki_closed : IsSoundAndClosed (wiki_basis Strict)
wiki_closed = record { mode = refl; closed = (wiki_checker Strict).closed }

of_types_alone : NoneOfNamesOrLevels (unguarded_access ∷ [])
of_types_alone e (inl q) = ap (λ (x : Finding). is_of_names_or_levels x.fault) q
of_types_alone e (inr h) = absurd h

pub errors_beside_levels : ErrorsBesideLevels
errors_beside_levels = record {
  of_types = λ promise.
      let less = slice_premises_needed.strict.levels.less in
      less.differs.broken
      ((promise of_types_alone wiki_closed reading less.policy.well_formed less.asked.conforming).same
      (slice_of reading 2) less.held);
  of_levels = λ none closed world w i. absurd (true≢false (none too_deep (inr (inl refl))));
  entity_type = λ p. refl;
  action = λ u. refl;
  invariant = refl;
  level = λ n k. refl;
  literal = refl;
}

-- ---- the required level

needs_none : IsRequiredLevel (wiki_basis Strict) never_both (Some 0)
needs_none = (omega arith, within (wiki_basis Strict) never_both 0 refl, λ m below w. absurd (omega (arith, below)))

pub both_halves_at_its_level : BothHalvesAtItsLevel
both_halves_at_its_level = record {
  required = needs_none;
  broken = λ given.
      (differs never_both reading (slice_of reading 0) _ _ refl refl (fails_or_gives _ _)).broken
      ((given 0 needs_none wiki_closed (record { types = refl; actions = refl }) reading
      (formed never_both refl (λ x. refl)) (reading_conforms Strict)).same (slice_of reading 0) (held reading 0 tt));
}

-- ---- typed conditions

abbrev read_env : DeclaredEnv
read_env = record { principal = user; action = read; resource = page; context = read_context }

meeting_conforms_too : IsConforming (meet_twice_basis Strict) greeting_at_meet
meeting_conforms_too =
    let fits = copy_premises_needed.strict.faultless.differs.fits in
    record { request = meeting_conforms.request; store = fits.store; functions = fits.functions }

-- in the one environment that is checked, the typed condition is true
not_in_the_first : MeansTheSameOn (meet_twice_basis Strict) met_and_false (greets None None) greeting_at_meet → ⊥
not_in_the_first same =
    let s = setting_on (meet_twice_basis Strict) met_and_false.id (greets None None) in
    apart (Gives (VBool true)) (Gives (VBool false))
    (same (policy_check s (condition_of met_and_false)) (checked s (condition_of met_and_false))) refl not_true

not_in_one : (env : Env) → IsOneOf env (greets None None ∷ [])
    → MeansTheSameOn (meet_twice_basis Strict) met_and_false env greeting_at_meet → ⊥
not_in_one env (inl q) same =
    not_in_the_first (subst (λ e. MeansTheSameOn (meet_twice_basis Strict) met_and_false e greeting_at_meet) q same)
not_in_one env (inr h) same = h

pub copies_of_faulty_schemas : CopiesOfFaultySchemas
copies_of_faulty_schemas = record {
  some = λ promise.
      let p = promise (record { mode = refl; closed = refl }) (λ x. refl) greeting_at_meet meeting_conforms_too in
      not_in_one p.0 p.1 p.2;
  beyond = has_error (by_schema twice_declared Strict) met_and_false 0 (exceeds 0 1) _ (inl refl) refl;
  within = within (by_schema twice_declared Strict) met_and_false 1 refl;
  own = λ given.
      let b = by_schema twice_declared Strict in
      let faults = slice_premises_needed.strict.schemas.faults in
      let s = setting_on b met_and_false.id (Declared read_env None None) in
      apart (Gives (VBool true)) (Gives (VBool false))
      (given 1 faults.closed (record { types = refl; actions = refl }) (within b met_and_false 1 refl) meeting_to_read
      (formed met_and_false refl (λ x. refl)) faults.premises.of_world read_env (inl refl) reads meeting_to_read.store
      (slices_hold meeting_to_read.request meeting_to_read.store 1).1 (policy_check s (condition_of met_and_false))
      (checked s (condition_of met_and_false))) refl not_true;
}
