-- Evaluation over the slice differs if the schema or the table has a fault, a type is external, or
-- names in types do not ascend.
use Rattle.std.proofs.Common.{◌≡◌, inl, Bool, true, false, ◌&&◌, ◌||◌, [], ◌∷◌, Option, Some, None, if◌then◌else◌, refl, sym, ◌∙◌, subst}
use Rattle.cedar_types.specs.declared.base.expressions.extensions.ExtensionTableError.{ExtensionTableError}
use Rattle.cedar_types.specs.declared.base.types.ValidationMode.{ValidationMode}
use Rattle.cedar_types.specs.declared.base.types.ValidationMode.TheVariants.{Permissive}
use Rattle.cedar_types.specs.Extensions.Functions.{ExtensionFunction, table_fault}
use Rattle.cedar_types.specs.Names.{Uid, uid_eq, path_eq}
use Rattle.cedar_types.specs.Schemas.Formed.{has_formed_types}
use Rattle.cedar_types.specs.Schemas.{uid_is_among, declares_action, has_fault}
use Rattle.cedar_types.specs.Values.Stores.{declares_ancestor, ConformingStore}
use Rattle.cedar_types.specs.Values.{Value, VEntity, no_values, HasType}
use Rattle.cedar_types.proofs.Entries.Basics.{or_false}
use Rattle.cedar_typing.specs.Evaluation.Conformance.{FitsRequest, KeepsTable}
use Rattle.cedar_typing.specs.Evaluation.Equality.{same_values}
use Rattle.cedar_typing.specs.Evaluation.World.{World}
use Rattle.cedar_typing.specs.Examples.NeededPremises.{guest, declared_guest}
use Rattle.cedar_typing.specs.Examples.Permissive.{twice_context}
use Rattle.cedar_typing.specs.Examples.PolicySoundness.{Passes, PassesWarned}
use Rattle.cedar_typing.specs.Examples.World.{user, alice, meet}
use Rattle.cedar_typing.specs.Soundness.Policies.{Basis, IsConforming}
use Rattle.cedar_typing.proofs.Basics.{some_is, none_is}
use Rattle.cedar_typing.proofs.Examples.PolicySoundness.{passing}
use Rattle.cedar_typing.proofs.Examples.World.{all_found}
use Rattle.cedar_typechecker.specs.Slices.Examples.World.{page, read, read_context, declared_read, wiki_types}
use Rattle.cedar_typechecker.specs.Slices.NeededPremises.Schemas.{ArePremises, by_schema, twice_declared, read_is_meeting, meeting_to_read, owner}
use Rattle.cedar_typechecker.specs.Slices.NeededPremises.Schemas.{owner_function, alice_owns, owned_basis, owner_has_profile, owned, guests}
use Rattle.cedar_typechecker.specs.Slices.NeededPremises.Schemas.{guided_guest, reading_a_guest, unformed_basis, active_with_b, reading_with_b}
use Rattle.cedar_typechecker.specs.Slices.NeededPremises.Schemas.{FaultsGoWrongIn, TableFaultsGoWrongIn, ExternalTypesGoWrongIn}
use Rattle.cedar_typechecker.specs.Slices.NeededPremises.Schemas.{SchemasAreNeededIn, FormIsNeeded}
use Rattle.cedar_typechecker.proofs.Slices.Examples.Levels.{within}
use Rattle.cedar_typechecker.proofs.Slices.Examples.Modes.{IsEither, sound, fine}
use Rattle.cedar_typechecker.proofs.Slices.Examples.World.{Fitting, IsStored, among_stored, wiki_fits, guests_fit, read_fits, conforms}
use Rattle.cedar_typechecker.proofs.Slices.Examples.World.{wiki_conforms, sample_kept, reads, policy_asked, fails_or_gives, false_or_true}
use Rattle.cedar_typechecker.proofs.Slices.Examples.World.{differs_in_slice}

premises : (b : Basis) (faulty formed : Bool) (fault : Option ExtensionTableError) (world : World)
    → has_fault b.schema ≡ faulty → has_formed_types b.schema ≡ formed
    → table_fault b.table.functions ≡ fault → IsConforming b world
    → ArePremises b faulty formed fault world
premises b faulty formed fault world s t f w =
    record { of_schema = s; of_types = t; of_table = f; of_world = w }

-- ---- an action that is declared twice

-- the first two of three declarations have no such descendant
without_first : (a b : Bool) → ((a && false) || b) ≡ b
without_first true b = refl
without_first false b = refl

-- the last declaration alone decides the ancestors of both actions
by_last : (a b c : Bool) → c ≡ ((a && false) || ((b && false) || (c || false)))
by_last a b c =
    sym (without_first a ((b && false) || (c || false)) ∙ without_first b (c || false) ∙ or_false c)

meet_alone : (v : Uid)
    → uid_is_among (meet ∷ []) v ≡ declares_ancestor twice_declared.actions read v
meet_alone v = by (uid_eq v meet) ∙ by_last (uid_eq v read) (uid_eq v meet) (uid_eq v meet && true)
  where
    by : (b : Bool) → (b || false) ≡ (b && true)
    by true = refl
    by false = refl

no_ancestor : (v : Uid) → uid_is_among [] v ≡ declares_ancestor twice_declared.actions meet v
no_ancestor v = by (uid_eq v meet) ∙ by_last (uid_eq v read) (uid_eq v meet) (uid_eq v meet && false)
  where
    by : (b : Bool) → false ≡ (b && false)
    by true = refl
    by false = refl

both_stored : (u : Uid) → declares_action twice_declared.actions u ≡ true
    → IsStored meeting_to_read.store u
both_stored u h =
    among_stored meeting_to_read.store (read ∷ meet ∷ meet ∷ [])
    ((_, refl), ((_, refl), ((_, refl), tt))) u h

meeting_conforms : ConformingStore twice_declared meeting_to_read.store
meeting_conforms = record {
  entities = λ u e h.
      all_found (Fitting twice_declared) meeting_to_read.store (
        (refl, record { attributes = refl; ancestors = λ v. meet_alone v; tags = refl }),
        (
          (refl, record { attributes = refl; ancestors = λ v. no_ancestor v; tags = refl }),
          wiki_fits twice_declared.actions,
        ),
      )
      u e h;
  actions = λ u h. both_stored u h;
}

-- ---- a function that gives any entity

-- the one function gives the one value
owner_gives : (a b : Bool) (f : ExtensionFunction) (v : Value)
    → (if a then Some owner_function else None) ≡ Some f
    → (if a && b then Some (VEntity alice) else None) ≡ Some v → HasType f.return_type v
owner_gives true true f v p q =
    subst (λ g. HasType g.return_type v) (some_is p)
    (subst (λ x. HasType owner_function.return_type x) (some_is q) tt)
owner_gives true false f v p q = absurd (none_is q)
owner_gives false b f v p q = absurd (none_is p)

owner_kept : (m : ValidationMode) → KeepsTable (owned_basis m).table alice_owns
owner_kept m = record {
  returns = λ n f p vs v q.
      owner_gives (path_eq n owner) (same_values vs no_values) f v p q;
  overloaded_types = λ p. refl;
}

-- ---- an external type

reads_a_guest : FitsRequest
    (record { principal = user; action = read; resource = guest; context = read_context })
    reading_a_guest.request
reads_a_guest =
    record { principal = refl; action = refl; resource = refl; context = reads.context }

guests_conform : ConformingStore guests reading_a_guest.store
guests_conform =
    conforms (declared_guest ∷ wiki_types) guest read_context reading_a_guest.store (
      tt,
      ((refl, read_fits guest read_context), guests_fit (declared_read guest read_context ∷ [])),
    )
    (_, refl)

-- ---- in either mode

module _ (m : ValidationMode) (either : IsEither m) where
  faults : FaultsGoWrongIn m
  faults = record {
    fault = refl;
    premises =
        premises _ true true None meeting_to_read refl refl refl
        (record { request = (_, inl refl, reads); store = meeting_conforms; functions = sample_kept m });
    closed = record { mode = sound m either; closed = refl };
    goes_wrong =
        differs_in_slice PassesWarned _ read_is_meeting 1 meeting_to_read _ _
        (policy_asked _ _ _ refl refl refl refl (λ x. refl)) (refl, (refl, (refl, (refl, tt))))
        refl refl (fails_or_gives _ _)
        (fine m either PassesWarned (by_schema twice_declared) read_is_meeting 1
        (passing _ _ _ refl refl refl)
        (passing _ _ _ refl refl refl) refl refl);
  }

  table_faults : TableFaultsGoWrongIn m
  table_faults = record {
    premises =
        premises _ false true _ owned refl refl refl
        (record {
          request = (_, inl refl, reads);
          store = wiki_conforms page read_context;
          functions = owner_kept m;
        });
    closed = record { mode = sound m either; closed = refl };
    goes_wrong =
        differs_in_slice Passes _ owner_has_profile 0 owned _ _
        (policy_asked _ _ _ refl refl refl refl (λ x. refl)) tt refl refl false_or_true
        (fine m either Passes owned_basis owner_has_profile 0 (passing _ _ _ refl refl refl)
        (passing _ _ _ refl refl refl) refl refl);
  }

  external : ExternalTypesGoWrongIn m
  external = record {
    premises =
        premises _ false true None reading_a_guest refl refl refl
        (record { request = (_, inl refl, reads_a_guest); store = guests_conform; functions = sample_kept m });
    mode = refl;
    goes_wrong =
        differs_in_slice PassesWarned _ guided_guest 1 reading_a_guest _ _
        (policy_asked _ _ _ refl refl refl refl (λ x. refl)) (refl, (refl, (refl, (refl, tt))))
        refl refl (fails_or_gives _ _)
        (fine m either PassesWarned (by_schema guests) guided_guest 1 (passing _ _ _ refl refl refl)
        (passing _ _ _ refl refl refl) refl refl);
  }

  pub schemas_needed : SchemasAreNeededIn m
  schemas_needed = record { faults = faults; table = table_faults; closed = external }

-- ---- names that do not ascend

reads_with_b : FitsRequest
    (record { principal = user; action = read; resource = page; context = twice_context })
    reading_with_b.request
reads_with_b = record {
  principal = reads.principal;
  action = reads.action;
  resource = reads.resource;
  context = (
    (((tt, (tt, tt)), (refl, (refl, tt))), (((tt, (tt, tt)), (refl, tt)), tt)),
    (refl, (refl, tt)),
  );
}

unformed_conforms : IsConforming unformed_basis reading_with_b
unformed_conforms = record {
  request = (_, inl refl, reads_with_b);
  store = wiki_conforms page twice_context;
  functions = sample_kept Permissive;
}

pub form_needed : FormIsNeeded
form_needed = record {
  premises =
      premises unformed_basis false false None reading_with_b refl refl refl unformed_conforms;
  closed = record { mode = refl; closed = refl };
  goes_wrong =
      differs_in_slice PassesWarned unformed_basis active_with_b 0 reading_with_b _ _
      (policy_asked _ _ _ refl refl refl refl (λ x. refl)) tt refl refl (fails_or_gives _ _)
      (passing _ _ _ refl refl refl, within unformed_basis active_with_b 0 refl);
}
