-- Worlds that conform although much is open in them: all premises hold, and the outcomes of the
-- policies are computed.
use Rattle.std.proofs.Common.{◌≡◌, inl, inr, Bool, true, false, if◌then◌else◌, [], ◌∷◌, Option, Some, refl, sym, ◌∙◌}
use Rattle.cedar_types.specs.declared.base.types.ValidationMode.{ValidationMode}
use Rattle.cedar_types.specs.declared.base.types.ValidationMode.TheVariants.{Strict, Permissive}
use Rattle.cedar_types.specs.Names.{Uid, uid_eq}
use Rattle.cedar_types.specs.Values.Stores.{Entity, Store, entity_at, ConformingStore}
use Rattle.cedar_types.specs.Templates.{PlainTemplate, condition_of}
use Rattle.cedar_typing.specs.Composition.{SlotsInScopeAlone}
use Rattle.cedar_typing.specs.Evaluation.Conformance.{ConformingRequest, SlotsBound}
use Rattle.cedar_typing.specs.Evaluation.World.{Request}
use Rattle.cedar_typing.specs.Examples.Greeting.{stored_action}
use Rattle.cedar_typing.specs.Examples.LeftOpen.{AllHoldIn, visit, visit_schema, visit_basis, stored_alice, unread, stored_bob, visit_store}
use Rattle.cedar_typing.specs.Examples.LeftOpen.{visiting, visiting_an_action, users_visit, action_is_visited, PremisesLeaveOpenIn}
use Rattle.cedar_typing.specs.Examples.LeftOpen.{PremisesLeaveOpen}
use Rattle.cedar_typing.specs.Examples.Permissive.{staff}
use Rattle.cedar_typing.specs.Examples.PolicySoundness.{Passes}
use Rattle.cedar_typing.specs.Examples.World.{user, alice, bob}
use Rattle.cedar_typing.specs.Silence.{HasNoUnknowns}
use Rattle.cedar_typing.specs.Soundness.Policies.{IsNamedBySchema, IsWellFormed}
use Rattle.cedar_typing.specs.Modes.{IsSoundMode}
use Rattle.cedar_typing.proofs.Examples.PolicySoundness.{passing, meeting_conforms}
use Rattle.cedar_typing.proofs.Examples.World.{AllEntities, all_found, none_among, only_one, Fitting, stored_as, in_one, left_out}

-- ---- the store

-- the entries that are read
abbrev read_store : Store
read_store =
    (alice, stored_alice)
    ∷ (bob, stored_bob)
    ∷ (visit, stored_action [])
    ∷ []

fitting : AllEntities (Fitting visit_schema) read_store
fitting = (
  record { attributes = ((tt, tt), (refl, tt)); tagged = refl; ancestors = λ v h. in_one visit_schema user staff v refl h },
  (
    record { attributes = ((tt, tt), (refl, tt)); tagged = refl; ancestors = λ v h. none_among h },
    ((refl, record { attributes = refl; ancestors = λ v. sym (left_out (uid_eq v visit) false); tags = refl }), tt),
  ),
)

-- the second of two entries of one id is never read
second_unread : (v : Uid) (x y : Entity) (es : Store) (u : Uid)
    → entity_at ((v, x) ∷ (v, y) ∷ es) u ≡ entity_at ((v, x) ∷ es) u
second_unread v x y es u = go (uid_eq u v) (entity_at es u)
  where
    go : (b : Bool) (rest : Option Entity)
        → (if b then Some x else (if b then Some y else rest)) ≡ (if b then Some x else rest)
    go true rest = refl
    go false rest = refl

store_conforms : ConformingStore visit_schema visit_store
store_conforms = record {
  entities = λ u e h.
      all_found (Fitting visit_schema) read_store fitting u e
      (sym (second_unread alice stored_alice unread ((bob, stored_bob) ∷ (visit, stored_action []) ∷ []) u) ∙ h);
  actions = λ u h. stored_as visit_store u visit (only_one (uid_eq u visit) h) (_, refl);
}

-- ---- the requests

request_conforms : ConformingRequest visit_schema visiting.request
request_conforms = (
  _,
  inl refl,
  record {
    principal = refl;
    action = refl;
    resource = refl;
    context = (((refl, (refl, tt)), ((((tt, tt), tt), (refl, tt)), tt)), (refl, (refl, tt)));
  },
)

request_of_action_conforms : ConformingRequest visit_schema visiting_an_action.request
request_of_action_conforms = (
  _,
  inr (inl refl),
  record {
    principal = refl;
    action = refl;
    resource = refl;
    context = (((refl, (refl, tt)), ((((tt, tt), tt), (refl, tt)), tt)), (refl, (refl, tt)));
  },
)

-- ---- all premises hold

without_slots : (t : PlainTemplate) → HasNoUnknowns (condition_of t) → SlotsInScopeAlone t
    → SlotsBound visiting.slots (condition_of t) → IsWellFormed t visiting.slots
without_slots t u a b = record { no_unknowns = u; slots_in_scope = a; bound = b }

module _ (m : ValidationMode) (sound : IsSoundMode m) where
  -- all premises hold for a policy and a request
  all_hold : (t : PlainTemplate) (r : Request) → Passes (visit_basis m) t → IsNamedBySchema visit_schema t
      → IsWellFormed t visiting.slots → ConformingRequest visit_schema r
      → AllHoldIn m (visit_basis m) t (record visiting { request = r })
  all_hold t r p n w c = record {
    faultless = refl;
    formed = refl;
    faultless_functions = refl;
    passes = p;
    mode = refl;
    basis = record { mode = sound; closed = refl };
    named = n;
    well_formed = w;
    conforming = record { request = c; store = store_conforms; functions = meeting_conforms.functions };
  }

  leave_open : Passes (visit_basis m) users_visit → Passes (visit_basis m) action_is_visited → PremisesLeaveOpenIn m
  leave_open p q = record {
    herself =
        all_hold users_visit visiting.request p (record { types = refl; actions = refl })
        (without_slots users_visit refl (λ x. refl) (((tt, (tt, tt)), (tt, (tt, tt))), ((tt, tt), ((tt, tt), tt))))
        request_conforms;
    same = refl;
    unbound = λ x. refl;
    first = refl;
    evaluates = refl;
    an_action =
        all_hold action_is_visited visiting_an_action.request q (record { types = refl; actions = refl })
        (without_slots action_is_visited refl (λ x. refl) (((tt, tt), (tt, tt)), ((tt, tt), ((tt, tt), tt))))
        request_of_action_conforms;
    acted_on = refl;
    not_stored = refl;
    fails = refl;
  }

pub premises_leave_open : PremisesLeaveOpen
premises_leave_open = record {
  strict = leave_open Strict refl (passing _ _ _ refl refl refl) (passing _ _ _ refl refl refl);
  permissive = leave_open Permissive refl (passing _ _ _ refl refl refl) (passing _ _ _ refl refl refl);
}

pub strict_herself : AllHoldIn Strict (visit_basis Strict) users_visit visiting
strict_herself = premises_leave_open.strict.herself

pub strict_action : AllHoldIn Strict (visit_basis Strict) action_is_visited visiting_an_action
strict_action = premises_leave_open.strict.an_action

pub permissive_herself : AllHoldIn Permissive (visit_basis Permissive) users_visit visiting
permissive_herself = premises_leave_open.permissive.herself

pub permissive_action : AllHoldIn Permissive (visit_basis Permissive) action_is_visited visiting_an_action
permissive_action = premises_leave_open.permissive.an_action
