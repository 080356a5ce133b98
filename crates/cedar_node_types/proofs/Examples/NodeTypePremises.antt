-- The worlds in which one premise on the mode, the schema or the table does not hold, computed.
use Rattle.std.proofs.Common.{◌≡◌, inl, None, refl}
use Rattle.cedar_types.specs.declared.base.types.ValidationMode.{ValidationMode}
use Rattle.cedar_types.specs.declared.base.types.ValidationMode.TheVariants.{Strict, Permissive}
use Rattle.cedar_types.specs.Environments.RequestEnvs.{Declared}
use Rattle.cedar_types.specs.Types.{Ty}
use Rattle.cedar_types.specs.Values.Stores.{ConformingStore}
use Rattle.cedar_typing.specs.Evaluation.Conformance.{FitsRequest, IsEnvironmentOf, KeepsTable}
use Rattle.cedar_node_types.specs.Reached.{itself, in_left}
use Rattle.cedar_typing.specs.Evaluation.World.{World}
use Rattle.cedar_typing.specs.Examples.CopyPremises.{greeting_by, and_false, meet_twice_basis, greeting_at_meet, greet_in_meet}
use Rattle.cedar_typing.specs.Examples.NeededPremises.{guest_basis, guest_greeting, guest_has_role}
use Rattle.cedar_node_types.specs.Examples.NodeTypePremises.{MisfitsIn, ClosedSchemaIsNeededForTypes, FaultlessSchemaIsNeededForTypes}
use Rattle.cedar_node_types.specs.Examples.NodeTypePremises.{FormIsNeededForTypes, FaultlessTableIsNeededForTypes}
use Rattle.cedar_node_types.specs.Examples.NodeTypePremises.{SoundModeIsNeededForTypes, TypePremisesAreNeeded}
use Rattle.cedar_typing.specs.Examples.World.{a_context, users_greet}
use Rattle.cedar_node_types.specs.NodeTypes.{ReachedFitTypes, OnTypedCondition}
use Rattle.cedar_typing.specs.PolicyCheck.{policy_check}
use Rattle.cedar_typing.specs.Soundness.Policies.{Basis}
use Rattle.cedar_typing.specs.TypedExpr.{Source}
use Rattle.cedar_node_types.proofs.Examples.Meeting.{meeting_is_stored, nothing_given}
use Rattle.cedar_typing.proofs.Examples.NeededPremises.{guests_conform}
use Rattle.cedar_typing.proofs.Examples.Permissive.{twice_fits, form_is_needed}
use Rattle.cedar_typing.proofs.Examples.PolicySoundness.{meeting_conforms}
use Rattle.cedar_typing.proofs.Examples.TypedCopies.{not_true}
use Rattle.cedar_typing.proofs.Examples.World.{greets}
use Rattle.cedar_typing.proofs.Policies.Check.{checked}

-- the verdict of the check as a function is one of the check, and its typed condition misfits
abbrev Misfitting : Basis → Ty → World → Source → Type 0
Misfitting b t world e = OnTypedCondition (ReachedFitTypes world) (policy_check (greeting_by b t) e) → ⊥

misfitting : {m : ValidationMode} {b : Basis} {t : Ty} {world : World} {e : Source} → b.mode ≡ m
    → IsEnvironmentOf b.schema (Declared (users_greet t) None None)
    → FitsRequest (users_greet t) world.request → ConformingStore b.schema world.store → KeepsTable b.table world.functions
    → Misfitting b t world e → MisfitsIn m b t world e
misfitting {m} {b} {t} {world} {e} q i r s k f = record {
  mode = q;
  environment = i;
  fits = record { environment = (r, tt, tt); store = s; functions = k };
  verdict = policy_check (greeting_by b t) e;
  checks = checked (greeting_by b t) e;
  misfits = f;
}

closed : (m : ValidationMode) → Misfitting (guest_basis m) a_context guest_greeting (and_false guest_has_role) → ClosedSchemaIsNeededForTypes m
closed m f = record {
  faultless = refl;
  formed = refl;
  functions = refl;
  misfits = misfitting refl (inl refl) greets guests_conform meeting_conforms.functions f;
}

faultless : (m : ValidationMode) → Misfitting (meet_twice_basis m) a_context greeting_at_meet (and_false greet_in_meet)
    → FaultlessSchemaIsNeededForTypes m
faultless m f = record {
  closed = refl;
  formed = refl;
  functions = refl;
  misfits = misfitting refl (inl refl) greets meeting_is_stored meeting_conforms.functions f;
}

form_needed : FormIsNeededForTypes
form_needed = record {
  closed = refl;
  faultless = refl;
  functions = refl;
  unformed = refl;
  misfits =
      misfitting refl (inl refl) twice_fits form_is_needed.conforming.store form_is_needed.conforming.functions
      (λ h. not_true (h _ itself));
}

table_needed : FaultlessTableIsNeededForTypes
table_needed = record {
  closed = refl;
  faultless = refl;
  formed = refl;
  faulty = refl;
  misfits = misfitting refl (inl refl) greets meeting_conforms.store nothing_given (λ h. not_true (h _ itself));
}

mode_needed : SoundModeIsNeededForTypes
mode_needed = record {
  closed = refl;
  faultless = refl;
  formed = refl;
  functions = refl;
  misfits = misfitting refl (inl refl) greets meeting_conforms.store meeting_conforms.functions (λ h. h _ (in_left itself));
}

pub type_premises_needed : TypePremisesAreNeeded
type_premises_needed = record {
  strict = record {
    closed = closed Strict (λ h. not_true (h _ itself));
    faultless = faultless Strict (λ h. not_true (h _ itself));
  };
  permissive = record {
    closed = closed Permissive (λ h. not_true (h _ itself));
    faultless = faultless Permissive (λ h. not_true (h _ itself));
  };
  formed = form_needed;
  table = table_needed;
  mode = mode_needed;
}
