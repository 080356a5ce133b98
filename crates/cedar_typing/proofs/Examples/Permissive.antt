-- In Permissive all premises hold together; a bound of records that keeps an attribute of one side alone as required is wrong; and
-- the premise that names ascend is needed.
use Rattle.std.proofs.Common.{◌≡◌, inl, true, false, refl, sym}
use Rattle.cedar_types.specs.Names.{uid_eq}
use Rattle.cedar_types.specs.Values.{VRecord, HasType}
use Rattle.cedar_types.specs.Values.Stores.{ConformingStore}
use Rattle.cedar_types.specs.Templates.{condition_of}
use Rattle.cedar_typing.specs.Evaluation.Conformance.{FitsRequest}
use Rattle.cedar_typing.specs.Examples.Permissive.{join, team_schema, team_store, owners, twice_context, twice_schema, twice_greeting}
use Rattle.cedar_typing.specs.Examples.Permissive.{has_b_goes_wrong}
use Rattle.cedar_typing.specs.Examples.Permissive.{PermissivePremisesAreMet, WrongBoundIsRefuted, FormIsNeeded}
use Rattle.cedar_typing.specs.Examples.PolicySoundness.{meeting_slots}
use Rattle.cedar_typing.specs.Examples.World.{greet, users_greet}
use Rattle.cedar_typing.proofs.Composition.Slots.{slots_bound}
use Rattle.cedar_typing.proofs.Examples.PolicySoundness.{passing, formed, both_bound}
use Rattle.cedar_typing.proofs.Examples.World.{none_among, left_out, conforms, greeting_conforms}

-- ---- all premises hold

team_conforms : ConformingStore team_schema team_store
team_conforms =
    conforms team_schema join (λ v. refl) team_store (
      record { attributes = ((tt, (refl, (refl, tt))), (refl, (refl, tt))); tagged = (tt, tt); ancestors = λ v h. none_among h },
      (
        record { attributes = ((tt, (refl, (refl, tt))), (refl, (refl, tt))); tagged = tt; ancestors = λ v h. none_among h },
        ((refl, record { attributes = refl; ancestors = λ v. sym (left_out (uid_eq v join) false); tags = refl }), tt),
      ),
    )
    (_, refl)

pub permissive_premises : PermissivePremisesAreMet
permissive_premises = record {
  faultless = refl;
  formed = refl;
  reliable = record { mode = refl; closed = refl; environment = inl refl };
  world = record {
    environment = (record { principal = refl; action = refl; resource = refl; context = (tt, tt) }, tt, tt);
    store = team_conforms;
    functions = greeting_conforms.functions;
  };
  bound = slots_bound meeting_slots both_bound (condition_of owners);
  passes = passing _ _ _ refl refl refl;
  basis = record { mode = refl; closed = refl };
  named = record { types = refl; actions = refl };
  well_formed = formed owners refl (λ x. refl);
  conforming = record {
    request = (_, inl refl, record { principal = refl; action = refl; resource = refl; context = (tt, tt) });
    store = team_conforms;
    functions = greeting_conforms.functions;
  };
  evaluates = refl;
  strict_refuses = refl;
}

-- ---- a wrong bound

no_value : false ≡ true → ⊥
no_value h = cc

pub wrong_bound_refuted : WrongBoundIsRefuted
wrong_bound_refuted = record { has = (tt, tt); lacks = λ h. no_value h.0.0 }

-- ---- names that do not ascend

twice_conforms : ConformingStore twice_schema twice_greeting.store
twice_conforms =
    conforms twice_schema greet (λ v. refl) twice_greeting.store
    ((refl, record { attributes = refl; ancestors = λ v. sym (left_out (uid_eq v greet) false); tags = refl }), tt) (_, refl)

-- the context fits, and so does the request
twice_context_fits : HasType twice_context (VRecord twice_greeting.request.context)
twice_context_fits = (
  (((tt, (tt, tt)), (refl, (refl, tt))), (((tt, (tt, tt)), (refl, tt)), tt)),
  (refl, (refl, tt)),
)

pub twice_fits : FitsRequest (users_greet twice_context) twice_greeting.request
twice_fits = record { principal = refl; action = refl; resource = refl; context = twice_context_fits }

pub form_is_needed : FormIsNeeded
form_is_needed = record {
  faultless = refl;
  unformed = refl;
  basis = record { mode = refl; closed = refl };
  conforming = record { request = (_, inl refl, twice_fits); store = twice_conforms; functions = greeting_conforms.functions };
  passes = passing _ _ _ refl refl refl;
  named = record { types = refl; actions = refl };
  well_formed = formed has_b_goes_wrong refl (λ x. refl);
  wrong = refl;
  broken = λ h. h.0;
}
