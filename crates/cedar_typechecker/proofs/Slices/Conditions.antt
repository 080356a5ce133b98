-- A policy's condition and its typed copies over a part of a store, from facts about the
-- environment that links each slot to its variable's own type. The slots may be bound to any
-- entities.
use Rattle.std.proofs.Common.{◌≡◌, inl, ℕ, ◌+◌, true≢false, Option, Some, None, refl, sym, ◌∙◌, subst}
use Rattle.cedar_types.specs.declared.base.expressions.operators.BinaryOp.{BinaryOp}
use Rattle.cedar_types.specs.declared.base.expressions.operators.Var.{Var}
use Rattle.cedar_types.specs.declared.base.location.Loc.{Loc}
use Rattle.cedar_types.specs.declared.base.names.slots.SlotId.{SlotId}
use Rattle.cedar_types.specs.declared.base.types.BoolType.TheVariants.{False}
use Rattle.cedar_types.specs.Environments.{DeclaredEnv}
use Rattle.cedar_types.specs.Names.{Uid}
use Rattle.cedar_types.specs.Environments.RequestEnvs.{Declared}
use Rattle.cedar_types.specs.Values.Stores.{Store}
use Rattle.cedar_types.specs.Templates.{to_entity, to_slot, Scope, any, equal, within, typed, typed_within, PlainTemplate, typed_at}
use Rattle.cedar_types.specs.Templates.{scope_at, action_scope_at, scope_condition, with_rest, condition_of}
use Rattle.cedar_types.specs.Expressions.Tree.{var, slot, and, binary}
use Rattle.cedar_types.specs.Types.{Ty, TBool}
use Rattle.cedar_types.specs.Expressions.View.{Written}
use Rattle.cedar_typing.specs.Capabilities.{Caps, no_caps}
use Rattle.cedar_typing.specs.Composition.{in_env, own_env, MentionsNoSlot, NoSlotIn, SlotsInScopeAlone}
use Rattle.cedar_typing.specs.Evaluation.Conformance.{IsBound, SlotsBound, AllHold}
use Rattle.cedar_typing.specs.Evaluation.Eval.{eval}
use Rattle.cedar_typing.specs.Evaluation.World.{World, Outcome}
use Rattle.cedar_typing.specs.Judgments.{Judgment}
use Rattle.cedar_typing.specs.PolicyCheck.{Verdict, succeeds, irrelevant, fails}
use Rattle.cedar_typing.specs.Rules.{rules, Derives}
use Rattle.cedar_typing.specs.Setting.{Setting}
use Rattle.cedar_typing.specs.Silence.{IsDerivedAs}
use Rattle.cedar_typing.specs.Soundness.{OnValue, HasFound, IsTrueOutcome}
use Rattle.cedar_typing.specs.TypedExpr.{Source, TypedTree, place_of}
use Rattle.cedar_typing.proofs.Composition.Links.{no_action}
use Rattle.cedar_typing.proofs.Composition.NeverTrue.{true_most, found_most}
use Rattle.cedar_typing.proofs.Composition.OwnBinding.{own_slots, own_world, IsAtMost, and_most, equal_most, within_most, unmentioned}
use Rattle.cedar_typing.proofs.Composition.SlotFree.{links_do_not_matter}
use Rattle.cedar_typing.proofs.Composition.Slots.{eval_alike}
use Rattle.cedar_typing.proofs.Soundness.Capabilities.{hold_none, hold_either}
use Rattle.cedar_typing.proofs.Soundness.Parts.{Sounds}
use Rattle.cedar_typechecker.specs.Levels.Setting.{LevelSetting}
use Rattle.cedar_typechecker.specs.Slices.Policies.{VerdictIsWithin}
use Rattle.cedar_typechecker.specs.Slices.Reach.{HoldsSlice}
use Rattle.cedar_typechecker.specs.Slices.Soundness.{with_store, levels_in}
use Rattle.cedar_typechecker.proofs.Levels.Monotone.{silent_of}
use Rattle.cedar_typechecker.proofs.Levels.Silent.{Silent}
use Rattle.cedar_typechecker.proofs.Slices.Binary.{binary_same}
use Rattle.cedar_typechecker.proofs.Slices.Conditional.{and_same}
use Rattle.cedar_typechecker.proofs.Slices.Ids.{Selected}
use Rattle.cedar_typechecker.proofs.Slices.Leaves.{within_same, variable_same, slot_same}
use Rattle.cedar_typechecker.proofs.Slices.Same.{IsSame, IsToldLeft}
use Rattle.cedar_typechecker.proofs.Slices.Stores.{Agrees, Within, agrees as stores_agree}
use Rattle.cedar_typechecker.specs.Slices.TypedCopies.{VerdictMeansTheSameInPart}
use Rattle.cedar_typing.proofs.TypedCopies.Choices.{and_copies}
use Rattle.cedar_typing.proofs.TypedCopies.Induction.{copies, binary_copies}
use Rattle.cedar_typing.proofs.TypedCopies.Leaves.{leaf_copies}
use Rattle.cedar_typechecker.proofs.Slices.Loaded.{Loaded, loaded_closed}
use Rattle.cedar_typing.proofs.TypedCopies.Same.{Told, ToldPart, ToldLeft, Copies, within_copies}
use Rattle.cedar_typechecker.proofs.Slices.TypedCopies.{same_if_loaded}
use Rattle.cedar_typing.proofs.TypedCopies.Unbound.{unbound, free_of, bound_if_free}

module _ (s : Setting) (d : DeclaredEnv) where
  -- the environment with both slots linked
  abbrev pub linked : Setting
  linked = in_env s (Declared d (Some d.principal) (Some d.resource))

module _ (s : Setting) (t : PlainTemplate) (d : DeclaredEnv) (world : World) (n : ℕ) (part : Store)
    (holds : HoldsSlice world.request world.store n part) where
  abbrev own : Setting
  own = in_env s (own_env t d)

  abbrev levels : LevelSetting
  levels = levels_in own n

  -- the world with each slot bound to its variable's own entity
  abbrev own_bound : World
  own_bound = own_world world

  abbrev other : World
  other = with_store world part

  abbrev Reached : ℕ → Uid → Type 0
  Reached = Within world.request world.store part n holds

  abbrev Same : Outcome → Outcome → Judgment → Type 0
  Same = IsSame levels Reached

  -- the copies of an expression that are within the level evaluate over the part as the expression
  -- does there
  abbrev Copied : Outcome → Judgment → Type 0
  Copied = Copies (Loaded levels) ⊥ other

  abbrev Known : Caps → Type 0
  Known = AllHold own_bound

  both_agree : Agrees world.request world.store part n Reached
  both_agree = stores_agree world.request world.store part n holds

  -- the facts about each expression in the world with own slots: it evaluates over the part as over
  -- the store if both slots are linked, and typing can be relied on in the own environment
  abbrev pub IsSameWhereLinked : Type 0
  IsSameWhereLinked =
      (e : Source) (prior : Caps) (k : ℕ) → AllHold own_bound prior
      → Same (eval own_bound e) (eval (with_store own_bound part) e) (rules (linked s d) e prior k)

  abbrev pub IsSoundInOwn : Type 0
  IsSoundInOwn =
      (e : Source) (prior : Caps) (k : ℕ) → AllHold own_bound prior
      → Sounds own_bound (eval own_bound e) (rules own e prior k)

  module _ (linked_same : IsSameWhereLinked) (own_sound : IsSoundInOwn) where
    -- ---- expressions that mention no slot

    module _ (e : Source) (free : MentionsNoSlot e) where
      same_outcome : (w : World) → eval w e ≡ eval (own_world w) e
      same_outcome w = eval_alike w w.slots (own_slots w.request) e (λ x m. absurd (true≢false (sym m ∙ free x)))

      own_links : (prior : Caps) (k : ℕ) (u : Ty) (c : Caps) (x : TypedTree)
          → Derives own e prior k u c x → Derives (linked s d) e prior k u c x
      own_links prior k u c x h = ((links_do_not_matter s d _ _ (Some d.principal) (Some d.resource) e free prior k).derived u c x).0 h

      free_checked : (prior : Caps) (k : ℕ) → AllHold own_bound prior → (u : Ty) (c : Caps) (x : TypedTree)
          → Derives own e prior k u c x → Silent levels x → eval other e ≡ eval world e
      free_checked prior k h u c x i j =
          same_outcome other ∙ (linked_same e prior k h).checked u c x (own_links prior k u c x i) j ∙ sym (same_outcome world)

      free_same : (prior : Caps) (k : ℕ) → AllHold own_bound prior → Same (eval world e) (eval other e) (rules own e prior k)
      free_same prior k h = record {
        checked = free_checked prior k h;
        target = λ u c x i path z le j.
            let r = (linked_same e prior k h).target u c x (own_links prior k u c x i) path z le j in
            record {
              same = same_outcome other ∙ r.same ∙ sym (same_outcome world);
              ids = subst (OnValue (Selected (Reached z) path)) (sym (same_outcome world)) r.ids;
            };
      }

    free_told : (e : Source) → SlotsBound unbound e → (prior : Caps) (k : ℕ) → Known prior
        → Told (Loaded levels) Known ⊥ (eval other e) (rules own e prior k)
    free_told e b prior k h = record {
      derivations = λ u c x i w.
          let r = (own_sound e prior k h).derivations u c x i in
          let q = same_if_loaded levels Reached (eval world e) (eval other e) (rules own e prior k)
          (free_same e (free_of e b) prior k h) u c x i w in
          let p = same_outcome e (free_of e b) world in
          subst (λ z. ToldPart (Loaded levels) Known ⊥ z (Some u) c) (sym (q ∙ p))
          (record { typed = r.typed; known_if_true = r.caps_hold_if_true; known_at_true = r.caps_hold_at_true });
      operands = λ r. absurd r;
    }

    free_copies : (e : Source) → MentionsNoSlot e → (prior : Caps) (k : ℕ) → Known prior → Copied (eval other e) (rules own e prior k)
    free_copies e h =
        copies (Loaded levels) Known ⊥ own other unbound (loaded_closed levels) (λ c c' h k. hold_either own_bound c c' h k)
        free_told e (bound_if_free e h)

    -- ---- parts of a condition

    -- the property that is proved of a part of the condition: its outcome in the world is false, or
    -- that with own slots; and over the part of the store it is that in the world
    record IsGood (e : Source) : Type 0 where
      pub lower : IsAtMost ⊥ (eval world e) (eval own_bound e)
      pub same : (prior : Caps) (k : ℕ) → AllHold own_bound prior → Same (eval world e) (eval other e) (rules own e prior k)
      pub copied : (prior : Caps) (k : ℕ) → Known prior → Copied (eval other e) (rules own e prior k)

    free : (e : Source) → MentionsNoSlot e → IsGood e
    free e h = record { lower = unmentioned ⊥ world e h; same = free_same e h; copied = free_copies e h }

    left_told : (e : Source) → IsAtMost ⊥ (eval world e) (eval own_bound e) → (prior : Caps) (k : ℕ) → AllHold own_bound prior
        → IsToldLeft own_bound (eval world e) (rules own e prior k)
    left_told e g prior k h =
        let q = own_sound e prior k h in
        record {
          is_false = λ c x i.
              found_most (eval world e) (eval own_bound e) g (q.derivations (TBool False) c x i).typed;
          caps_hold_if_true = λ u c x i j.
              (q.derivations u c x i).caps_hold_if_true (true_most ⊥ (eval world e) (eval own_bound e) g j);
        }

    left_in_part : (e : Source) → IsGood e → (prior : Caps) (k : ℕ) → Known prior
        → ToldLeft (Loaded levels) Known ⊥ (eval other e) (rules own e prior k)
    left_in_part e g prior k h =
        let q = left_told e g.lower prior k h in
        let f = λ (u : Ty) (c : Caps) (x : TypedTree) (i : Derives own e prior k u c x) (w : Loaded levels x).
        same_if_loaded levels Reached (eval world e) (eval other e) (rules own e prior k) (g.same prior k h) u c x i w in
        record {
          false_derived = λ c x i w.
              subst (HasFound (Some (TBool False))) (sym (f (TBool False) c x i w)) (q.is_false c x i);
          known_if_true = λ u c x i w j. q.caps_hold_if_true u c x i (subst IsTrueOutcome (f u c x i w) j);
          false_recovered = λ r. absurd r;
          known_if_recovered = λ r. absurd r;
        }

    both : (m : Written) (e e' : Source) → IsGood e → IsGood e' → IsGood (and m e e')
    both m e e' g g' = record {
      lower = and_most ⊥ (eval world e) (eval own_bound e) (eval world e') (eval own_bound e') g.lower g'.lower;
      same = λ prior k h.
          within_same own world part n Reached both_agree k _ _ _
          (and_same levels Reached own_bound own.env m (place_of e) (place_of e') _ _ _ _ _ _ prior h
          (left_told e g.lower prior (k + 1) h) (g.same prior (k + 1) h) (λ c i. g'.same c (k + 1) i));
      copied = λ prior k h.
          within_copies (Loaded levels) ⊥ other k _ _
          (and_copies (Loaded levels) Known ⊥ other (loaded_closed levels) (λ c c' h k. hold_either own_bound c c' h k) own.env m
          (place_of e) (place_of e') _ _ _ _ prior h
          (left_in_part e g prior (k + 1) h) (g.copied prior (k + 1) h) (λ c i. g'.copied c (k + 1) i));
    }

    -- ---- the tests of slots

    data Own : Var → SlotId → Uid → Type 0 where
      own_principal : Own Var.Principal SlotId.Principal world.request.principal
      own_resource : Own Var.Resource SlotId.Resource world.request.resource

    module _ (m m' m'' : Written) where
      test_same : (op : BinaryOp) (v : Var) (x : SlotId) (prior : Caps) (k : ℕ)
          → Same (eval world (binary m op (var m' v) (slot m'' x))) (eval other (binary m op (var m' v) (slot m'' x)))
          (rules own (binary m op (var m' v) (slot m'' x)) prior k)
      test_same op v x prior k =
          within_same own world part n Reached both_agree k _ _ _
          (binary_same world.request world.store part levels Reached both_agree world.functions own.env m prior
          (var m' v) (slot m'' x) (place_of (var m' v)) (place_of (slot m'' x)) _ _ _ _ _ _
          (within_same own world part n Reached both_agree (k + 1) _ _ _ (variable_same own world part n Reached both_agree m' v _))
          (within_same own world part n Reached both_agree (k + 1) _ _ _ (slot_same own world part n Reached both_agree m'' x _ _)) op)

      test_copied : (op : BinaryOp) (v : Var) (x : SlotId) (prior : Caps) (k : ℕ)
          → Copied (eval other (binary m op (var m' v) (slot m'' x))) (rules own (binary m op (var m' v) (slot m'' x)) prior k)
      test_copied op v x prior k =
          within_copies (Loaded levels) ⊥ other k _ _
          (binary_copies (Loaded levels) Known ⊥ own other unbound (loaded_closed levels) (λ c c' h k. hold_either own_bound c c' h k)
          m prior (var m' v) (slot m'' x) op (place_of (var m' v)) (place_of (slot m'' x)) _ _ _ _
          (within_copies (Loaded levels) ⊥ other (k + 1) _ _
          (leaf_copies (Loaded levels) ⊥ other m' (λ k. var k v) _ (λ k. refl) _))
          (within_copies (Loaded levels) ⊥ other (k + 1) _ _
          (leaf_copies (Loaded levels) ⊥ other m'' (λ k. slot k x) _ (λ k. refl) _)))

      test_good : (op : BinaryOp) (v : Var) (x : SlotId)
          → IsAtMost ⊥ (eval world (binary m op (var m' v) (slot m'' x))) (eval own_bound (binary m op (var m' v) (slot m'' x)))
          → IsGood (binary m op (var m' v) (slot m'' x))
      test_good op v x h = record {
        lower = h;
        same = λ prior k i. test_same op v x prior k;
        copied = λ prior k i. test_copied op v x prior k;
      }

      equal_good : (v : Var) (x : SlotId) (w : Uid) → Own v x w → IsBound (world.slots x)
          → IsGood (binary m BinaryOp.Eq (var m' v) (slot m'' x))
      equal_good v x w own_principal b =
          test_good BinaryOp.Eq v x (equal_most ⊥ world w (world.slots SlotId.Principal) (λ n. n b))
      equal_good v x w own_resource b =
          test_good BinaryOp.Eq v x (equal_most ⊥ world w (world.slots SlotId.Resource) (λ n. n b))

      in_good : (v : Var) (x : SlotId) (w : Uid) → Own v x w → IsBound (world.slots x)
          → IsGood (binary m BinaryOp.In (var m' v) (slot m'' x))
      in_good v x w own_principal b =
          test_good BinaryOp.In v x (within_most ⊥ world w (world.slots SlotId.Principal) (λ n. n b))
      in_good v x w own_resource b =
          test_good BinaryOp.In v x (within_most ⊥ world w (world.slots SlotId.Resource) (λ n. n b))

    -- ---- the condition

    scope_good : (l : Option Loc) (v : Var) (x : SlotId) (w : Uid) → Own v x w → (c : Scope)
        → SlotsBound world.slots (scope_at l v x c) → IsGood (scope_at l v x c)
    scope_good l v x w o any b = free _ (λ y. refl)
    scope_good l v x w o (equal (to_entity u)) b = free _ (λ y. refl)
    scope_good l v x w o (equal to_slot) b = equal_good _ _ _ v x w o b.1
    scope_good l v x w o (within (to_entity u)) b = free _ (λ y. refl)
    scope_good l v x w o (within to_slot) b = in_good _ _ _ v x w o b.1
    scope_good l v x w o (typed p) b = free _ (λ y. refl)
    scope_good l v x w o (typed_within p (to_entity u)) b = free _ (λ y. refl)
    scope_good l v x w o (typed_within p to_slot) b =
        both _ (typed_at l v p) _ (free _ (λ y. refl)) (in_good _ _ _ v x w o b.1.1)

    with_rest_good : (l : Option Loc) (e : Source) (rest : Option Source) → NoSlotIn rest
        → SlotsBound world.slots (with_rest l e rest) → (SlotsBound world.slots e → IsGood e) → IsGood (with_rest l e rest)
    with_rest_good l e None h b g = g b
    with_rest_good l e (Some r) h b g = both _ e r (g b.0) (free r h)

    condition_good : SlotsInScopeAlone t → SlotsBound world.slots (condition_of t) → IsGood (condition_of t)
    condition_good h b =
        with_rest_good t.place (scope_condition t) t.rest h b
        (λ z. both _ _ _
        (both _ _ _ (scope_good t.place Var.Principal SlotId.Principal world.request.principal own_principal t.principal z.0.0)
        (free (action_scope_at t.place t.action) (λ y. no_action t.place y t.action)))
        (scope_good t.place Var.Resource SlotId.Resource world.request.resource own_resource t.resource z.1))

    -- a condition that is derived in the own environment, and is within the level there, evaluates
    -- over the part as over the store, and so does its copy
    module _ (h : SlotsInScopeAlone t) (b : SlotsBound world.slots (condition_of t)) where
      same_derived : (u : Ty) (c : Caps) (x : TypedTree) → Derives own (condition_of t) no_caps 1 u c x → Silent levels x
          → eval other (condition_of t) ≡ eval world (condition_of t)
      same_derived u c x i w = ((condition_good h b).same no_caps 1 (hold_none own_bound)).checked u c x i w

      copy_derived : (u : Ty) (c : Caps) (x : TypedTree) → Derives own (condition_of t) no_caps 1 u c x → Silent levels x
          → eval other x ≡ eval world (condition_of t)
      copy_derived u c x i w =
          ((condition_good h b).copied no_caps 1 (hold_none own_bound)).derivations u c x i (inl w) ∙ same_derived u c x i w

      pub derived_same : (v : Verdict) → IsDerivedAs own (condition_of t) v → VerdictIsWithin levels v
          → eval other (condition_of t) ≡ eval world (condition_of t)
      derived_same (succeeds x) k w = same_derived k.0 k.1 x k.2 (silent_of levels x w)
      derived_same (irrelevant es x) k w = same_derived (TBool False) k.0 x k.1 (silent_of levels x w)
      derived_same (fails es) k w = absurd k

      pub derived_copies : (v : Verdict) → IsDerivedAs own (condition_of t) v → VerdictIsWithin levels v
          → VerdictMeansTheSameInPart world part (condition_of t) v
      derived_copies (succeeds x) k w = copy_derived k.0 k.1 x k.2 (silent_of levels x w)
      derived_copies (irrelevant es x) k w = copy_derived (TBool False) k.0 x k.1 (silent_of levels x w)
      derived_copies (fails es) k w = absurd k
