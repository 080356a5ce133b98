-- The worlds in which one premise does not hold, computed. Parts that do not depend on the mode are
-- proved once, from the results of the checks, which are computed in each mode.
use Rattle.std.proofs.Common.{◌≡◌, inl, Bool, true, false, ◌&&◌, ◌||◌, [], ◌∷◌, None, refl, sym, ◌∙◌}
use Rattle.cedar_types.specs.declared.base.types.ValidationMode.{ValidationMode}
use Rattle.cedar_types.specs.declared.base.types.ValidationMode.TheVariants.{Strict, Permissive}
use Rattle.cedar_types.specs.Environments.RequestEnvs.{Declared}
use Rattle.cedar_types.specs.Expressions.Tree.{Shape}
use Rattle.cedar_types.specs.Names.{Uid, uid_eq}
use Rattle.cedar_types.specs.Schemas.{declares_action}
use Rattle.cedar_types.specs.Types.{Ty}
use Rattle.cedar_types.specs.Values.Stores.{ConformingStore}
use Rattle.cedar_typing.specs.Evaluation.Conformance.{FitsRequest, IsEnvironmentOf, KeepsTable}
use Rattle.cedar_typing.specs.Evaluation.World.{World}
use Rattle.cedar_typing.specs.Examples.CopyPremises.{meet_twice, greeting_at_meet, ClosedSchemaIsNeededIn, FaultlessSchemaIsNeededIn}
use Rattle.cedar_typing.specs.Examples.CopyPremises.{FormIsNeededForCopies, FaultlessTableIsNeeded, faulty_table_basis, without_calls}
use Rattle.cedar_typing.specs.Examples.CopyPremises.{CopyPremisesAreNeeded, DiffersIn, greeting_by, and_false}
use Rattle.cedar_typing.specs.Examples.CopyPremises.{meet_twice_basis, greet_in_meet}
use Rattle.cedar_typing.specs.Examples.NeededPremises.{guest_basis, guest_greeting, guest_has_role}
use Rattle.cedar_typing.specs.Examples.World.{greet, meet, a_context, users_greet}
use Rattle.cedar_typing.specs.PolicyCheck.{policy_check}
use Rattle.cedar_typing.specs.Soundness.Policies.{Basis}
use Rattle.cedar_typing.specs.TypedCopies.{VerdictMeansTheSame}
use Rattle.cedar_typing.proofs.Basics.{none_is}
use Rattle.cedar_typing.proofs.Examples.NeededPremises.{guests_conform}
use Rattle.cedar_typing.proofs.Examples.Permissive.{twice_fits, form_is_needed}
use Rattle.cedar_typing.proofs.Examples.PolicySoundness.{meeting_conforms}
use Rattle.cedar_typing.proofs.Examples.TypedCopies.{not_true, apart}
use Rattle.cedar_typing.proofs.Examples.World.{AllEntities, none_among, Fitting, IsStored, stored_as, all_fit, left_out, counted}
use Rattle.cedar_typing.proofs.Examples.World.{HasDeclaredAncestors, greets}
use Rattle.cedar_typing.proofs.Policies.Check.{checked}

-- the verdict of the check as a function is one of the check, and its typed condition has another
-- outcome
abbrev Refutes : Basis → Ty → World → Shape → Type 0
Refutes b t world e = VerdictMeansTheSame world (and_false e) (policy_check (greeting_by b t) (and_false e)) → ⊥

differing : {m : ValidationMode} {b : Basis} {t : Ty} {world : World} {e : Shape} → b.mode ≡ m
    → IsEnvironmentOf b.schema (Declared (users_greet t) None None)
    → FitsRequest (users_greet t) world.request → ConformingStore b.schema world.store → KeepsTable b.table world.functions
    → Refutes b t world e → DiffersIn m b t world e
differing {m} {b} {t} {world} {e} q i r s k f = record {
  mode = q;
  environment = i;
  fits = record { environment = (r, tt, tt); store = s; functions = k };
  another = (policy_check (greeting_by b t) (and_false e), checked (greeting_by b t) (and_false e), f);
}

-- ---- external types

closed : (m : ValidationMode) → Refutes (guest_basis m) a_context guest_greeting guest_has_role → ClosedSchemaIsNeededIn m
closed m f = record {
  faultless = refl;
  formed = refl;
  functions = refl;
  differs = differing refl (inl refl) greets guests_conform meeting_conforms.functions f;
}

-- ---- an action that is declared twice

-- the ancestors of both actions, by all declarations
meet_alone : HasDeclaredAncestors meet_twice greet (meet ∷ [])
meet_alone v = by (uid_eq v greet) (uid_eq v meet)
  where
    by : (a b : Bool) → (b || false) ≡ ((a && false) || ((b && false) || ((b && true) || false)))
    by a b = sym (left_out a _ ∙ (left_out b _ ∙ counted b false))

no_ancestor : HasDeclaredAncestors meet_twice meet []
no_ancestor v = by (uid_eq v greet) (uid_eq v meet)
  where
    by : (a b : Bool) → false ≡ ((a && false) || ((b && false) || ((b && false) || false)))
    by a b = sym (left_out a _ ∙ (left_out b _ ∙ left_out b false))

both_stored : (u : Uid) → declares_action meet_twice.actions u ≡ true → IsStored greeting_at_meet.store u
both_stored u = by (uid_eq u greet) (uid_eq u meet) refl refl
  where
    by : (a b : Bool) → uid_eq u greet ≡ a → uid_eq u meet ≡ b
        → (a || (b || (b || false))) ≡ true → IsStored greeting_at_meet.store u
    by true b p q h = stored_as greeting_at_meet.store u greet p (_, refl)
    by false true p q h = stored_as greeting_at_meet.store u meet q (_, refl)
    by false false p q h = none_among h

fitting : AllEntities (Fitting meet_twice) greeting_at_meet.store
fitting = (
  (refl, record { attributes = refl; ancestors = λ v. meet_alone v; tags = refl }),
  ((refl, record { attributes = refl; ancestors = λ v. no_ancestor v; tags = refl }), tt),
)

meeting_is_stored : ConformingStore meet_twice greeting_at_meet.store
meeting_is_stored = all_fit meet_twice greeting_at_meet.store fitting (λ u h. both_stored u h)

faultless : (m : ValidationMode) → Refutes (meet_twice_basis m) a_context greeting_at_meet greet_in_meet
    → FaultlessSchemaIsNeededIn m
faultless m f = record {
  closed = refl;
  formed = refl;
  functions = refl;
  differs = differing refl (inl refl) greets meeting_is_stored meeting_conforms.functions f;
}

-- ---- names that do not ascend

form_needed : FormIsNeededForCopies
form_needed = record {
  closed = refl;
  faultless = refl;
  functions = refl;
  unformed = refl;
  differs =
      differing refl (inl refl) twice_fits form_is_needed.conforming.store form_is_needed.conforming.functions
      (λ h. apart _ _ h refl not_true);
}

-- ---- a function that gives nothing

nothing_given : KeepsTable faulty_table_basis.table without_calls.functions
nothing_given = record { returns = λ n f p vs v q. absurd (none_is q); overloaded_types = λ p. refl }

table_needed : FaultlessTableIsNeeded
table_needed = record {
  closed = refl;
  faultless = refl;
  formed = refl;
  faulty = refl;
  differs = differing refl (inl refl) greets meeting_conforms.store nothing_given (λ h. apart _ _ h refl not_true);
}

-- ---- all of these premises

pub copy_premises_needed : CopyPremisesAreNeeded
copy_premises_needed = record {
  strict = record {
    closed = closed Strict (λ h. apart _ _ h refl not_true);
    faultless = faultless Strict (λ h. apart _ _ h refl not_true);
  };
  permissive = record {
    closed = closed Permissive (λ h. apart _ _ h refl not_true);
    faultless = faultless Permissive (λ h. apart _ _ h refl not_true);
  };
  formed = form_needed;
  table = table_needed;
}
