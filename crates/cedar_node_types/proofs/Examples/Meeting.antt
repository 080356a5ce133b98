-- The store of a schema that declares one action twice conforms, and a table of functions that give nothing is kept.
use Rattle.std.proofs.Common.{◌≡◌, Bool, true, false, ◌&&◌, ◌||◌, [], ◌∷◌, refl, sym, ◌∙◌}
use Rattle.cedar_types.specs.Names.{Uid, uid_eq}
use Rattle.cedar_types.specs.Schemas.{declares_action}
use Rattle.cedar_types.specs.Values.Stores.{ConformingStore}
use Rattle.cedar_typing.specs.Evaluation.Conformance.{KeepsTable}
use Rattle.cedar_typing.specs.Examples.CopyPremises.{meet_twice, greeting_at_meet, faulty_table_basis, without_calls}
use Rattle.cedar_typing.specs.Examples.World.{greet, meet}
use Rattle.cedar_typing.proofs.Basics.{none_is}
use Rattle.cedar_typing.proofs.Examples.World.{AllEntities, none_among, Fitting, IsStored, stored_as, all_fit, left_out, counted}
use Rattle.cedar_typing.proofs.Examples.World.{HasDeclaredAncestors}

-- the ancestors of both actions, by all declarations
meet_alone : HasDeclaredAncestors meet_twice greet (meet ∷ [])
meet_alone v = by (uid_eq v greet) (uid_eq v meet)
  where
    by : (a b : Bool) → (b || false) ≡ ((a && false) || ((b && false) || ((b && true) || false)))
    by a b = sym (left_out a _ ∙ (left_out b _ ∙ counted b false))

no_ancestor : HasDeclaredAncestors meet_twice meet []
no_ancestor v = by (uid_eq v greet) (uid_eq v meet)
  where
    by : (a b : Bool) → false ≡ ((a && false) || ((b && false) || ((b && false) || false)))
    by a b = sym (left_out a _ ∙ (left_out b _ ∙ left_out b false))

both_stored : (u : Uid) → declares_action meet_twice.actions u ≡ true → IsStored greeting_at_meet.store u
both_stored u = by (uid_eq u greet) (uid_eq u meet) refl refl
  where
    by : (a b : Bool) → uid_eq u greet ≡ a → uid_eq u meet ≡ b
        → (a || (b || (b || false))) ≡ true → IsStored greeting_at_meet.store u
    by true b p q h = stored_as greeting_at_meet.store u greet p (_, refl)
    by false true p q h = stored_as greeting_at_meet.store u meet q (_, refl)
    by false false p q h = none_among h

fitting : AllEntities (Fitting meet_twice) greeting_at_meet.store
fitting = (
  (refl, record { attributes = refl; ancestors = λ v. meet_alone v; tags = refl }),
  ((refl, record { attributes = refl; ancestors = λ v. no_ancestor v; tags = refl }), tt),
)

pub meeting_is_stored : ConformingStore meet_twice greeting_at_meet.store
meeting_is_stored = all_fit meet_twice greeting_at_meet.store fitting (λ u h. both_stored u h)

pub nothing_given : KeepsTable faulty_table_basis.table without_calls.functions
nothing_given = record { returns = λ n f p vs v q. absurd (none_is q); overloaded_types = λ p. refl }
