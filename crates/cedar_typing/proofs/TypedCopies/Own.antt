-- A typed copy of a policy's condition in the own environment evaluates as the condition does,
-- whatever the slots are bound to.
use Rattle.std.proofs.Common.{◌≡◌, ℕ, ◌+◌, true≢false, Option, Some, None, refl, sym, ◌∙◌, subst}
use Rattle.cedar_types.specs.declared.base.expressions.operators.BinaryOp.{BinaryOp}
use Rattle.cedar_types.specs.declared.base.expressions.operators.Var.{Var}
use Rattle.cedar_types.specs.declared.base.location.Loc.{Loc}
use Rattle.cedar_types.specs.declared.base.names.slots.SlotId.{SlotId}
use Rattle.cedar_types.specs.declared.base.types.BoolType.TheVariants.{False}
use Rattle.cedar_types.specs.Environments.{DeclaredEnv}
use Rattle.cedar_types.specs.Names.{Uid}
use Rattle.cedar_types.specs.Templates.{to_entity, to_slot, Scope, any, equal, within, typed, typed_within, PlainTemplate, typed_at}
use Rattle.cedar_types.specs.Templates.{scope_at, action_scope_at, scope_condition, with_rest, condition_of}
use Rattle.cedar_types.specs.Expressions.Tree.{var, slot, and, binary}
use Rattle.cedar_types.specs.Types.{TBool}
use Rattle.cedar_types.specs.Expressions.View.{Written}
use Rattle.cedar_typing.specs.Capabilities.{Caps, no_caps}
use Rattle.cedar_typing.specs.Composition.{in_env, own_env, MentionsNoSlot, NoSlotIn, SlotsInScopeAlone}
use Rattle.cedar_typing.specs.Evaluation.Conformance.{SlotsBound, AllHold}
use Rattle.cedar_typing.specs.Evaluation.Eval.{eval}
use Rattle.cedar_typing.specs.Evaluation.World.{World, Outcome}
use Rattle.cedar_typing.specs.Judgments.{Judgment}
use Rattle.cedar_typing.specs.Rules.{rules}
use Rattle.cedar_typing.specs.Setting.{Setting}
use Rattle.cedar_typing.specs.Soundness.{HasFound}
use Rattle.cedar_typing.specs.TypedExpr.{Source, place_of}
use Rattle.cedar_typing.proofs.Composition.Links.{no_action}
use Rattle.cedar_typing.proofs.Composition.NeverTrue.{true_most}
use Rattle.cedar_typing.proofs.Composition.OwnBinding.{own_slots, own_world, IsAtMost, itself, is_false, unlinked, and_most, equal_most}
use Rattle.cedar_typing.proofs.Composition.OwnBinding.{within_most, unmentioned}
use Rattle.cedar_typing.proofs.Composition.Slots.{eval_alike}
use Rattle.cedar_typing.proofs.Soundness.Capabilities.{hold_none, hold_either}
use Rattle.cedar_typing.proofs.Soundness.Parts.{Sounds, operand_sound}
use Rattle.cedar_typing.proofs.TypedCopies.Choices.{and_copies}
use Rattle.cedar_typing.proofs.TypedCopies.Induction.{copies, binary_copies}
use Rattle.cedar_typing.proofs.TypedCopies.Leaves.{leaf_copies}
use Rattle.cedar_typing.proofs.TypedCopies.Laws.{Any, any_closed, told_by_soundness}
use Rattle.cedar_typing.proofs.TypedCopies.Same.{Told, ToldLeft, Copies, within_copies}
use Rattle.cedar_typing.proofs.TypedCopies.Unbound.{unbound, free_of, bound_if_free}

-- an outcome that is at most one of the type False has the type False
found_most : (o o' : Outcome) → IsAtMost (Unit {0}) o o' → HasFound (Some (TBool False)) o' → HasFound (Some (TBool False)) o
found_most o o' itself h = h
found_most o o' is_false h = refl
found_most o o' (unlinked u) h = tt

module _ (s : Setting) (t : PlainTemplate) (d : DeclaredEnv) (world : World) where
  abbrev own : Setting
  own = in_env s (own_env t d)

  -- the world with each slot bound to its variable's own entity
  abbrev own_bound : World
  own_bound = own_world world

  abbrev Known : Caps → Type 0
  Known = AllHold own_bound

  abbrev Copied : Outcome → Judgment → Type 0
  Copied = Copies Any (Unit {0}) world

  -- typing in the own environment is sound in the world with own slots
  abbrev pub IsSoundInOwn : Type 0
  IsSoundInOwn = (e : Source) (prior : Caps) (k : ℕ) → AllHold own_bound prior → Sounds own_bound (eval own_bound e) (rules own e prior k)

  module _ (own_sound : IsSoundInOwn) where
    -- ---- expressions that mention no slot

    same_outcome : (e : Source) → MentionsNoSlot e → eval own_bound e ≡ eval world e
    same_outcome e free = eval_alike world (own_slots world.request) world.slots e (λ x m. absurd (true≢false (sym m ∙ free x)))

    free_told : (e : Source) → SlotsBound unbound e → (prior : Caps) (k : ℕ) → Known prior
        → Told Any Known (Unit {0}) (eval world e) (rules own e prior k)
    free_told e b prior k h =
        subst (λ o. Told Any Known (Unit {0}) o (rules own e prior k)) (same_outcome e (free_of e b))
        (told_by_soundness own_bound (eval own_bound e) (rules own e prior k) (own_sound e prior k h))

    free_copies : (e : Source) → MentionsNoSlot e → (prior : Caps) (k : ℕ) → Known prior → Copied (eval world e) (rules own e prior k)
    free_copies e free =
        copies Any Known (Unit {0}) own world unbound any_closed (λ c c' h k. hold_either own_bound c c' h k) free_told e
        (bound_if_free e free)

    -- ---- parts of a condition

    -- a part has at most its outcome with own slots, and its copies evaluate as it does
    record IsGood (e : Source) : Type 0 where
      pub lower : IsAtMost (Unit {0}) (eval world e) (eval own_bound e)
      pub copied : (prior : Caps) (k : ℕ) → Known prior → Copied (eval world e) (rules own e prior k)

    free : (e : Source) → MentionsNoSlot e → IsGood e
    free e h = record { lower = unmentioned (Unit {0}) world e h; copied = free_copies e h }

    left_told : (e : Source) → IsAtMost (Unit {0}) (eval world e) (eval own_bound e) → (prior : Caps) (k : ℕ) → Known prior
        → ToldLeft Any Known (Unit {0}) (eval world e) (rules own e prior k)
    left_told e g prior k h =
        let q = own_sound e prior k h in
        record {
          false_derived = λ c x i w. found_most (eval world e) (eval own_bound e) g (q.derivations (TBool False) c x i).typed;
          known_if_true = λ u c x i w j.
              (q.derivations u c x i).caps_hold_if_true (true_most (Unit {0}) (eval world e) (eval own_bound e) g j);
          false_recovered = λ r env ts l y c x es p n.
              found_most (eval world e) (eval own_bound e) g
              (subst (λ z. HasFound z (eval own_bound e)) n
              (operand_sound own_bound (eval own_bound e) (rules own e prior k) q env ts l y c x es p).typed);
          known_if_recovered = λ r env ts l y c x es p j.
              (operand_sound own_bound (eval own_bound e) (rules own e prior k) q env ts l y c x es p).caps_hold_if_true
              (true_most (Unit {0}) (eval world e) (eval own_bound e) g j);
        }

    both : (m : Written) (e e' : Source) → IsGood e → IsGood e' → IsGood (and m e e')
    both m e e' g g' = record {
      lower = and_most (Unit {0}) (eval world e) (eval own_bound e) (eval world e') (eval own_bound e') g.lower g'.lower;
      copied = λ prior k h.
          within_copies Any (Unit {0}) world k _ _
          (and_copies Any Known (Unit {0}) world any_closed (λ c c' h k. hold_either own_bound c c' h k) own.env m
          (place_of e) (place_of e') _ _ _ _ prior h
          (left_told e g.lower prior (k + 1) h) (g.copied prior (k + 1) h) (λ c i. g'.copied c (k + 1) i));
    }

    -- ---- the tests of slots

    data Own : Var → SlotId → Uid → Type 0 where
      own_principal : Own Var.Principal SlotId.Principal world.request.principal
      own_resource : Own Var.Resource SlotId.Resource world.request.resource

    module _ (m m' m'' : Written) where
      test_copied : (op : BinaryOp) (v : Var) (x : SlotId) (prior : Caps) (k : ℕ)
          → Copied (eval world (binary m op (var m' v) (slot m'' x))) (rules own (binary m op (var m' v) (slot m'' x)) prior k)
      test_copied op v x prior k =
          within_copies Any (Unit {0}) world k _ _
          (binary_copies Any Known (Unit {0}) own world unbound any_closed (λ c c' h k. hold_either own_bound c c' h k) m prior
          (var m' v) (slot m'' x) op (place_of (var m' v)) (place_of (slot m'' x)) _ _ _ _
          (within_copies Any (Unit {0}) world (k + 1) _ _ (leaf_copies Any (Unit {0}) world m' (λ k. var k v) _ (λ k. refl) _))
          (within_copies Any (Unit {0}) world (k + 1) _ _ (leaf_copies Any (Unit {0}) world m'' (λ k. slot k x) _ (λ k. refl) _)))

      test_good : (op : BinaryOp) (v : Var) (x : SlotId)
          → IsAtMost (Unit {0}) (eval world (binary m op (var m' v) (slot m'' x))) (eval own_bound (binary m op (var m' v) (slot m'' x)))
          → IsGood (binary m op (var m' v) (slot m'' x))
      test_good op v x lower = record { lower = lower; copied = λ prior k h. test_copied op v x prior k }

      equal_good : (v : Var) (x : SlotId) (w : Uid) → Own v x w → IsGood (binary m BinaryOp.Eq (var m' v) (slot m'' x))
      equal_good v x w own_principal = test_good BinaryOp.Eq v x (equal_most (Unit {0}) world w (world.slots SlotId.Principal) (λ n. tt))
      equal_good v x w own_resource = test_good BinaryOp.Eq v x (equal_most (Unit {0}) world w (world.slots SlotId.Resource) (λ n. tt))

      in_good : (v : Var) (x : SlotId) (w : Uid) → Own v x w → IsGood (binary m BinaryOp.In (var m' v) (slot m'' x))
      in_good v x w own_principal = test_good BinaryOp.In v x (within_most (Unit {0}) world w (world.slots SlotId.Principal) (λ n. tt))
      in_good v x w own_resource = test_good BinaryOp.In v x (within_most (Unit {0}) world w (world.slots SlotId.Resource) (λ n. tt))

    -- ---- the condition

    scope_good : (l : Option Loc) (v : Var) (x : SlotId) (w : Uid) → Own v x w → (c : Scope) → IsGood (scope_at l v x c)
    scope_good l v x w o any = free _ (λ y. refl)
    scope_good l v x w o (equal (to_entity u)) = free _ (λ y. refl)
    scope_good l v x w o (equal to_slot) = equal_good _ _ _ v x w o
    scope_good l v x w o (within (to_entity u)) = free _ (λ y. refl)
    scope_good l v x w o (within to_slot) = in_good _ _ _ v x w o
    scope_good l v x w o (typed p) = free _ (λ y. refl)
    scope_good l v x w o (typed_within p (to_entity u)) = free _ (λ y. refl)
    scope_good l v x w o (typed_within p to_slot) =
        both _ (typed_at l v p) _ (free _ (λ y. refl)) (in_good _ _ _ v x w o)

    with_rest_good : (l : Option Loc) (e : Source) (rest : Option Source) → NoSlotIn rest → IsGood e → IsGood (with_rest l e rest)
    with_rest_good l e None h g = g
    with_rest_good l e (Some r) h g = both _ e r g (free r h)

    condition_good : SlotsInScopeAlone t → IsGood (condition_of t)
    condition_good h =
        with_rest_good t.place (scope_condition t) t.rest h
        (both _ _ _
        (both _ _ _ (scope_good t.place Var.Principal SlotId.Principal world.request.principal own_principal t.principal)
        (free (action_scope_at t.place t.action) (λ y. no_action t.place y t.action)))
        (scope_good t.place Var.Resource SlotId.Resource world.request.resource own_resource t.resource))

    -- the copies of the condition in the own environment evaluate as it does
    pub condition_copies : SlotsInScopeAlone t → Copied (eval world (condition_of t)) (rules own (condition_of t) no_caps 1)
    condition_copies h = (condition_good h).copied no_caps 1 (hold_none own_bound)
