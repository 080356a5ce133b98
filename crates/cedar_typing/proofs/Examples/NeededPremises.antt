-- The policies that go wrong, or are true, because one premise does not hold, computed. Parts that do not depend on the mode are
-- proved once, from the outcomes of the checks, which are computed in each mode.
use Rattle.std.proofs.Common.{◌≡◌, inl, false, List, [], ◌∷◌, refl, sym}
use Rattle.cedar_types.specs.declared.base.names.slots.SlotId.{SlotId}
use Rattle.cedar_types.specs.declared.base.types.ValidationMode.{ValidationMode}
use Rattle.cedar_types.specs.declared.base.types.ValidationMode.TheVariants.{Strict, Permissive, Partial}
use Rattle.cedar_types.specs.Errors.{Warning}
use Rattle.cedar_types.specs.Names.{uid_eq}
use Rattle.cedar_types.specs.Schemas.{Schema}
use Rattle.cedar_types.specs.Values.Stores.{ConformingStore}
use Rattle.cedar_types.specs.Templates.{PlainTemplate, condition_of}
use Rattle.cedar_typing.specs.Evaluation.Conformance.{IsBound}
use Rattle.cedar_typing.specs.Evaluation.Eval.{eval}
use Rattle.cedar_typing.specs.Evaluation.World.{Slots, World, Failure, Fails}
use Rattle.cedar_typing.specs.Examples.Composition.{robots_template, robot_slots}
use Rattle.cedar_typing.specs.Examples.Greeting.{greeting}
use Rattle.cedar_typing.specs.Examples.NeededPremises.{IsAsAskedIn, BreaksPromise, GoesWrongIn, of_unknown_type, of_unknown_action, of_unknown, slot_in_rest}
use Rattle.cedar_typing.specs.Examples.NeededPremises.{equal_to_slot, robots_only, young, decimals_in_order, guest_basis, guest_greeting}
use Rattle.cedar_typing.specs.Examples.NeededPremises.{guest_has_role, guest_goes_wrong, attribute_of_one, NamesMustBeKnownIn}
use Rattle.cedar_typing.specs.Examples.NeededPremises.{UnknownsGoWrongIn, SlotsInTheRestGoWrongIn, UnboundSlotsGoWrongIn}
use Rattle.cedar_typing.specs.Examples.NeededPremises.{RequestsMustConformIn, StoresMustConformIn, FunctionsMustKeepTheTableIn}
use Rattle.cedar_typing.specs.Examples.NeededPremises.{ExternalTypesGoWrongIn, PartialGoesWrong, PremisesAreNeededIn, PremisesAreNeeded}
use Rattle.cedar_typing.specs.Examples.PolicySoundness.{sample_basis, Passes, PassesWarned, policy_when, meeting_slots, meeting}
use Rattle.cedar_typing.specs.Examples.World.{greet, sample_schema}
use Rattle.cedar_typing.specs.Modes.{IsSoundMode}
use Rattle.cedar_typing.specs.PolicyCheck.Outcome.{impossible}
use Rattle.cedar_typing.specs.Soundness.Policies.{Basis, IsSoundAndClosed, IsNamedBySchema, IsWellFormed, IsConforming}
use Rattle.cedar_typing.proofs.Composition.Slots.{slots_bound}
use Rattle.cedar_typing.proofs.Examples.PolicySoundness.{passing, AllPass, all_passing, formed, both_bound, meeting_conforms}
use Rattle.cedar_typing.proofs.Examples.World.{left_out, conforms, greets}

closed : (m : ValidationMode) → IsSoundMode m → IsSoundAndClosed (sample_basis m)
closed m sound = record { mode = sound; closed = refl }

-- conformity depends neither on the mode nor on the slots
conforming : (m : ValidationMode) (slots : Slots) → IsConforming (sample_basis m) (record meeting { slots = slots })
conforming m slots =
    record { request = meeting_conforms.request; store = meeting_conforms.store; functions = meeting_conforms.functions }

as_asked : (m : ValidationMode) → IsSoundMode m → (slots : Slots) → IsAsAskedIn m (record meeting { slots = slots })
as_asked m sound slots = record { basis = closed m sound; conforming = conforming m slots }

goes_wrong : {m : ValidationMode} {Passing : Basis → PlainTemplate → Type 0} {t : PlainTemplate} {world : World} {f : Failure}
    → Passing (sample_basis m) t → IsNamedBySchema sample_schema t → IsWellFormed t world.slots
    → eval world (condition_of t) ≡ Fails f → BreaksPromise world t → GoesWrongIn m Passing t world f
goes_wrong {m} {Passing} {t} {world} {f} p n w e b =
    record { mode = refl; closed = refl; passes = p; named = n; well_formed = w; wrong = e; broken = b }

module _ (m : ValidationMode) (sound : IsSoundMode m) where
  -- ---- names, unknowns and slots

  names : PassesWarned (sample_basis m) of_unknown_type → PassesWarned (sample_basis m) of_unknown_action → NamesMustBeKnownIn m
  names p q = record {
    others = as_asked m sound meeting_slots;
    type_passes = p;
    type_formed = formed of_unknown_type refl (λ x. refl);
    type_actions = refl;
    type_wrong = refl;
    type_broken = λ h. h.0;
    action_passes = q;
    action_formed = formed of_unknown_action refl (λ x. refl);
    action_types = refl;
    action_wrong = refl;
    action_broken = λ h. h.0;
  }

  unknowns : PassesWarned (sample_basis m) of_unknown → UnknownsGoWrongIn m
  unknowns p = record {
    others = as_asked m sound meeting_slots;
    passes = p;
    named = record { types = refl; actions = refl };
    slots_in_scope = λ x. refl;
    bound = slots_bound meeting_slots both_bound (condition_of of_unknown);
    wrong = refl;
    broken = λ h. h.0;
  }

  robots_bound : (x : SlotId) → IsBound (robot_slots x)
  robots_bound SlotId.Principal = tt
  robots_bound SlotId.Resource = tt

  slots_in_rest : PassesWarned (sample_basis m) slot_in_rest → PassesWarned (sample_basis m) robots_template → SlotsInTheRestGoWrongIn m
  slots_in_rest p q = record {
    others = as_asked m sound robot_slots;
    passes = p;
    named = record { types = refl; actions = refl };
    no_unknowns = refl;
    bound = slots_bound robot_slots robots_bound (condition_of slot_in_rest);
    wrong = refl;
    broken = λ h. h.0;
    warned = q;
    is_true = refl;
  }

  unbound : Passes (sample_basis m) equal_to_slot → UnboundSlotsGoWrongIn m
  unbound p = record {
    others = as_asked m sound greeting.slots;
    passes = p;
    named = record { types = refl; actions = refl };
    no_unknowns = refl;
    slots_in_scope = tt;
    wrong = refl;
    broken = λ h. h.0;
  }

  -- ---- requests, stores and functions

  requests : PassesWarned (sample_basis m) robots_only → RequestsMustConformIn m
  requests p = record {
    goes_wrong = goes_wrong p (record { types = refl; actions = refl }) (formed robots_only refl (λ x. refl)) refl (λ h. h.0);
    store = meeting_conforms.store;
    functions = meeting_conforms.functions;
  }

  stores : Passes (sample_basis m) young → StoresMustConformIn m
  stores p = record {
    goes_wrong = goes_wrong p (record { types = refl; actions = refl }) (formed young refl (λ x. refl)) refl (λ h. h.0);
    request = meeting_conforms.request;
    functions = meeting_conforms.functions;
  }

  functions : Passes (sample_basis m) decimals_in_order → FunctionsMustKeepTheTableIn m
  functions p = record {
    goes_wrong = goes_wrong p (record { types = refl; actions = refl }) (formed decimals_in_order refl (λ x. refl)) refl (λ h. h.0);
    request = meeting_conforms.request;
    store = meeting_conforms.store;
  }

-- ---- external types

abbrev guest_schema : Schema
guest_schema = (guest_basis Strict).schema

-- the guest, of whom conformity asks nothing, and greet, which has no ancestors
pub guests_conform : ConformingStore guest_schema guest_greeting.store
guests_conform =
    conforms guest_schema greet (λ v. refl) guest_greeting.store
    (tt, ((refl, record { attributes = refl; ancestors = λ v. sym (left_out (uid_eq v greet) false); tags = refl }), tt)) (_, refl)

external : (m : ValidationMode) → PassesWarned (guest_basis m) guest_goes_wrong
    → PassesWarned (guest_basis m) (policy_when guest_has_role) → ExternalTypesGoWrongIn m
external m p q = record {
  mode = refl;
  faultless = refl;
  formed = refl;
  conforming = record { request = (_, inl refl, greets); store = guests_conform; functions = meeting_conforms.functions };
  passes = p;
  named = record { types = refl; actions = refl };
  well_formed = formed guest_goes_wrong refl (λ x. refl);
  wrong = refl;
  broken = λ h. h.0;
  warned = q;
  is_true = refl;
}

-- ---- in each mode

-- the policies that pass, those that are warned to be impossible, and those of these that are about guests
abbrev plain : List PlainTemplate
plain = equal_to_slot ∷ young ∷ decimals_in_order ∷ []

abbrev warned : List PlainTemplate
warned = of_unknown_type ∷ of_unknown_action ∷ of_unknown ∷ slot_in_rest ∷ robots_template ∷ robots_only ∷ []

abbrev of_guests : List PlainTemplate
of_guests = guest_goes_wrong ∷ policy_when guest_has_role ∷ []

abbrev no_warning : PlainTemplate → List Warning
no_warning t = []

abbrev is_impossible : PlainTemplate → List Warning
is_impossible t = impossible t ∷ []

in_mode : (m : ValidationMode) → IsSoundMode m → AllPass (sample_basis m) no_warning plain → AllPass (sample_basis m) is_impossible warned
    → AllPass (guest_basis m) is_impossible of_guests → PremisesAreNeededIn m
in_mode m sound p w g = record {
  names = names m sound w.0 w.1.0;
  unknowns = unknowns m sound w.1.1.0;
  slots_in_scope = slots_in_rest m sound w.1.1.1.0 w.1.1.1.1.0;
  bound = unbound m sound p.0;
  request = requests m sound w.1.1.1.1.1.0;
  store = stores m sound p.1.0;
  functions = functions m sound p.1.1.0;
  closed = external m g.0 g.1.0;
}

strict : PremisesAreNeededIn Strict
strict =
    in_mode Strict refl (all_passing (sample_basis Strict) no_warning plain refl)
    (all_passing (sample_basis Strict) is_impossible warned refl) (all_passing (guest_basis Strict) is_impossible of_guests refl)

permissive : PremisesAreNeededIn Permissive
permissive =
    in_mode Permissive refl (all_passing (sample_basis Permissive) no_warning plain refl)
    (all_passing (sample_basis Permissive) is_impossible warned refl)
    (all_passing (guest_basis Permissive) is_impossible of_guests refl)

partial : PartialGoesWrong
partial = record {
  goes_wrong =
      goes_wrong (passing _ _ _ refl refl refl)
      (record { types = refl; actions = refl }) (formed attribute_of_one refl (λ x. refl)) refl (λ h. h.0);
  conforming = conforming Partial meeting_slots;
}

pub premises_needed : PremisesAreNeeded
premises_needed = record { strict = strict; permissive = permissive; mode = partial }
