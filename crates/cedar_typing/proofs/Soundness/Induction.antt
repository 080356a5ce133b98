-- Type soundness: the induction over expressions.
use Rattle.std.proofs.Common.{◌≡◌, ℕ, ◌+◌, Bool, true, false, true≢false, ◌||◌, List, [], ◌∷◌, None, refl, subst, sym}
use Rattle.std.specs.Prelude.{◌+ℤ◌, ◌-ℤ◌, ◌*ℤ◌, int_lt, int_le}
use Rattle.cedar_types.specs.declared.base.expressions.operators.BinaryOp.{BinaryOp}
use Rattle.cedar_types.specs.declared.base.expressions.operators.UnaryOp.{UnaryOp}
use Rattle.cedar_types.specs.declared.base.types.BoolType.TheVariants.{True}
use Rattle.cedar_types.specs.Names.{Path}
use Rattle.cedar_types.specs.Types.{Ty, TEntity, TBool, TNever, TLong, TString, TSet, TAnySet, TRecord, TAnyEntity, TExtension}
use Rattle.cedar_types.specs.Expressions.Tree.{lit, var, slot, unknown, if_then_else, and, or, unary, binary, call, get_attr, has_attr}
use Rattle.cedar_types.specs.Expressions.Tree.{ext_has_attr, like, is_type, set_of, record_of, Trees, no_trees, tree, Fields, no_fields}
use Rattle.cedar_types.specs.Expressions.Tree.{field}
use Rattle.cedar_types.specs.Expressions.View.{Written}
use Rattle.cedar_types.specs.Types.Bounds.{is_strict}
use Rattle.cedar_types.specs.Schemas.{Schema, has_fault}
use Rattle.cedar_types.specs.Environments.RequestEnvs.{is_partial}
use Rattle.cedar_types.specs.Errors.{Finding}
use Rattle.cedar_types.specs.Extensions.Functions.{table_fault}
use Rattle.cedar_types.specs.Values.Stores.{ConformingStore}
use Rattle.cedar_typing.specs.Capabilities.{Caps, no_caps}
use Rattle.cedar_types.specs.Schemas.Formed.{has_formed_types}
use Rattle.cedar_typing.specs.Eager.{Expectation, later_expectations}
use Rattle.cedar_typing.specs.Evaluation.Conformance.{Fits, IsEnvironmentOf, SlotsBound, AllSlotsBound, FieldSlotsBound, has_external}
use Rattle.cedar_typing.specs.Evaluation.Conformance.{KeepsTable, AllHold}
use Rattle.cedar_typing.specs.Evaluation.Eval.{unary_outcome, eval}
use Rattle.cedar_typing.specs.Evaluation.World.{World, Outcome}
use Rattle.cedar_typing.specs.Judgments.{Judgment, visited}
use Rattle.cedar_typing.specs.Modes.{IsFormedFor}
use Rattle.cedar_typing.specs.Rules.{rules, rules_within, rules_all, rules_fields}
use Rattle.cedar_typing.specs.Rules.Attributes.{has_form, get_form}
use Rattle.cedar_typing.specs.Rules.Binary.{binary_form}
use Rattle.cedar_typing.specs.Rules.Calls.{arguments, call_form}
use Rattle.cedar_typing.specs.Rules.Chains.{chain_form}
use Rattle.cedar_typing.specs.Rules.Leaves.{UnknownRecovery, unknown_fails, unknown_rules}
use Rattle.cedar_typing.specs.Rules.Unary.{unary_form, like_form, is_form}
use Rattle.cedar_typing.specs.Setting.{Setting, table}
use Rattle.cedar_typing.specs.Soundness.{HasFound, IsSoundAt, IsReliable, IsWorldOf, TypeSoundness}
use Rattle.cedar_typing.specs.TypedExpr.{Source, TypedTree, annotation, place_of}
use Rattle.cedar_typing.proofs.Agreement.Operators.{unary_marked, binary_marked}
use Rattle.cedar_typing.proofs.Bounds.Attributes.{AttributesFormed, Joins}
use Rattle.cedar_typing.proofs.KeptTypes.Attributes.{declared_formed}
use Rattle.cedar_typing.proofs.KeptTypes.Induction.{types_are_kept}
use Rattle.cedar_typing.proofs.KeptTypes.Modes.{keeps_in_mode}
use Rattle.cedar_typing.proofs.KeptTypes.Rules.{KeepsTypes}
use Rattle.cedar_typing.proofs.KeptTypes.Types.{KeptIn}
use Rattle.cedar_typing.proofs.Soundness.Attributes.{has_sound, get_sound}
use Rattle.cedar_typing.proofs.Soundness.Calls.{call_sounds}
use Rattle.cedar_typing.proofs.Soundness.Chains.{chain_sound}
use Rattle.cedar_typing.proofs.Soundness.Comparison.{comparison_sound}
use Rattle.cedar_typing.proofs.Soundness.Conditional.{if_sounds}
use Rattle.cedar_typing.proofs.Soundness.ShortCircuit.Conjunction.{and_sounds}
use Rattle.cedar_typing.proofs.Soundness.ShortCircuit.Disjunction.{or_sounds}
use Rattle.cedar_typing.proofs.Soundness.Eager.{SoundForm, SoundKeptForm, SoundsAll, of_any, none_sounds, more_sounds, one_operand_sounds}
use Rattle.cedar_typing.proofs.Soundness.Eager.{two_operands_sound}
use Rattle.cedar_typing.proofs.Soundness.Equality.{literal_outcome, equality_sound, contains_sound, contains_all_sound, contains_any_sound}
use Rattle.cedar_typing.proofs.Soundness.Kinds.{is_empty_sound, like_sound, is_sound}
use Rattle.cedar_typing.proofs.Soundness.Leaves.{literal_has, variable_has, slot_sound, leaf_sounds, always_sounds}
use Rattle.cedar_typing.proofs.Soundness.Membership.{in_sound}
use Rattle.cedar_typing.proofs.Soundness.Numbers.{negation_sound, operator_sound}
use Rattle.cedar_typing.proofs.Soundness.Parts.{Sound, Sounds, nothing_sound}
use Rattle.cedar_typing.proofs.Soundness.Records.{field_outcomes, record_sounds}
use Rattle.cedar_typing.proofs.Soundness.Sets.{outcomes, set_sounds}
use Rattle.cedar_typing.proofs.Soundness.Tags.{has_tag_sound, get_tag_sound}
use Rattle.cedar_typing.proofs.Soundness.Unary.{not_sound}

-- ---- unknowns, and the limit

module _ (world : World) (o : Outcome) where
  unknown_recovered : (n : Path) (m : Written) (x : TypedTree) (es : List Finding) → UnknownRecovery n m x es
      → Sound world o false (annotation x) no_caps
  unknown_recovered n m x es unknown_fails = nothing_sound world o

  unknown_sounds : (n : Path) (m : Written) → Sounds world o (unknown_rules n m)
  unknown_sounds n m = record { derivations = λ t c x h. absurd h; recoveries = unknown_recovered n m; marks = λ t c x h. absurd h }

  within_sounds : (d : ℕ) (J : Judgment) → Sounds world o J → Sounds world o (visited d J)
  within_sounds d J s = record {
    derivations = λ t c x h. s.derivations t c x h.1;
    recoveries = λ x es h. s.recoveries x es h.1;
    marks = λ t c x h. s.marks t c x h.1;
  }

-- several entity types can be joined: in Strict there is no choice of them, in Permissive all their
-- types are formed
choice_joins : (strictly : Bool) (s : Schema) → has_fault s ≡ false → (strictly || has_formed_types s) ≡ true
    → (p q : Path) (ps : List Path) → KeptIn strictly (TEntity (p ∷ q ∷ ps)) → AttributesFormed s
choice_joins true s f w p q ps n = absurd (true≢false (sym n.0))
choice_joins false s f w p q ps n = declared_formed s f w

module _ (strictly : Bool) (s : Schema) (f : has_fault s ≡ false) (w : (strictly || has_formed_types s) ≡ true) where
  pub kept_joins : (t : Ty) → KeptIn strictly t → Joins s t
  kept_joins (TEntity []) n h = cc
  kept_joins (TEntity (p ∷ [])) n h = cc
  kept_joins (TEntity (p ∷ q ∷ ps)) n h = choice_joins strictly s f w p q ps n
  kept_joins TNever n h = cc
  kept_joins (TBool k) n h = cc
  kept_joins TLong n h = cc
  kept_joins TString n h = cc
  kept_joins (TSet t) n h = cc
  kept_joins TAnySet n h = cc
  kept_joins (TRecord xs o) n h = cc
  kept_joins TAnyEntity n h = cc
  kept_joins (TExtension m) n h = cc

-- ---- all expressions

unary_sound : (world : World) (o : Outcome) (m : Written) (op : UnaryOp) → SoundForm world (unary_form m op) (o ∷ []) (unary_outcome op o)
unary_sound world o m UnaryOp.Not = not_sound world o m
unary_sound world o m UnaryOp.Neg = negation_sound world m o
unary_sound world o m UnaryOp.IsEmpty = is_empty_sound world m o

module _ (strictly : Bool) (s : Setting) (world : World) (strict : is_strict s.env.mode ≡ strictly)
    (partial : is_partial s.env.mode ≡ false) (formed : (strictly || has_formed_types s.env.schema) ≡ true)
    (faults : has_fault s.env.schema ≡ false) (table_faults : table_fault s.functions ≡ None)
    (closed : has_external s.env.schema ≡ false) (environment : IsEnvironmentOf s.env.schema s.env.request_env)
    (fits : Fits s.env.request_env world.request world.slots) (store : ConformingStore s.env.schema world.store)
    (keeps : KeepsTable (table s) world.functions) where
  kept_at : (e : Source) (prior : Caps) (d : ℕ) → KeepsTypes (KeptIn strictly) (rules s e prior d)
  kept_at = types_are_kept (KeptIn strictly) s (keeps_in_mode strictly s.env strict partial faults formed) table_faults environment

  joins : (t : Ty) → KeptIn strictly t → Joins s.env.schema t
  joins = kept_joins strictly s.env.schema faults formed

  -- the promise on an operator on two operands
  abbrev OperatorIsSound : Written → Caps → Source → Source → BinaryOp → Type 0
  OperatorIsSound m prior x y o =
      SoundKeptForm strictly world (binary_form s.env m prior x y o) (eval world x ∷ eval world y ∷ [])
      (eval world (binary m o x y))

  any_operator : (m : Written) (prior : Caps) (x y : Source) (o : BinaryOp)
      → SoundForm world (binary_form s.env m prior x y o) (eval world x ∷ eval world y ∷ [])
      (eval world (binary m o x y)) → OperatorIsSound m prior x y o
  any_operator m prior x y o f =
      of_any strictly world (binary_form s.env m prior x y o) (eval world x ∷ eval world y ∷ [])
      (eval world (binary m o x y)) f

  binary_sound : (m : Written) (prior : Caps) (x y : Source) (o : BinaryOp) → AllHold world prior → OperatorIsSound m prior x y o
  binary_sound m prior x y BinaryOp.Eq h =
      any_operator m prior x y BinaryOp.Eq
      (equality_sound world s.env m x y (eval world x) (eval world y)
      (literal_outcome world s.env.request_env fits x) (literal_outcome world s.env.request_env fits y))
  binary_sound m prior x y BinaryOp.Less h =
      any_operator m prior x y BinaryOp.Less
      (comparison_sound world world.functions.overloaded_types int_lt world.functions.less (eval world x)
      (eval world y) s.env keeps.overloaded_types (place_of x) (place_of y) m BinaryOp.Less)
  binary_sound m prior x y BinaryOp.LessEq h =
      any_operator m prior x y BinaryOp.LessEq
      (comparison_sound world world.functions.overloaded_types int_le world.functions.less_or_equal (eval world x)
      (eval world y) s.env keeps.overloaded_types (place_of x) (place_of y) m BinaryOp.LessEq)
  binary_sound m prior x y BinaryOp.Add h =
      any_operator m prior x y BinaryOp.Add
      (operator_sound (λ a b. a +ℤ b) world m BinaryOp.Add (eval world x) (eval world y))
  binary_sound m prior x y BinaryOp.Sub h =
      any_operator m prior x y BinaryOp.Sub
      (operator_sound (λ a b. a -ℤ b) world m BinaryOp.Sub (eval world x) (eval world y))
  binary_sound m prior x y BinaryOp.Mul h =
      any_operator m prior x y BinaryOp.Mul
      (operator_sound (λ a b. a *ℤ b) world m BinaryOp.Mul (eval world x) (eval world y))
  binary_sound m prior x y BinaryOp.In h = any_operator m prior x y BinaryOp.In (in_sound s.env world faults fits store m x y)
  binary_sound m prior x y BinaryOp.Contains h =
      any_operator m prior x y BinaryOp.Contains (contains_sound world s.env m (eval world x) (eval world y))
  binary_sound m prior x y BinaryOp.ContainsAll h =
      any_operator m prior x y BinaryOp.ContainsAll (contains_all_sound world s.env m (eval world x) (eval world y))
  binary_sound m prior x y BinaryOp.ContainsAny h =
      any_operator m prior x y BinaryOp.ContainsAny (contains_any_sound world s.env m (eval world x) (eval world y))
  binary_sound m prior x y BinaryOp.GetTag h =
      any_operator m prior x y BinaryOp.GetTag
      (get_tag_sound strictly s.env world strict faults formed closed store m prior h x y)
  binary_sound m prior x y BinaryOp.HasTag h =
      any_operator m prior x y BinaryOp.HasTag (has_tag_sound s.env world closed store m prior h x y)

  mutual
    sounds_within : (e : Source) → SlotsBound world.slots e → (prior : Caps) (d : ℕ) → AllHold world prior
        → Sounds world (eval world e) (rules_within s e prior d)
    sounds_within (lit m x) b prior d h = leaf_sounds world m (λ k. lit k x) (λ k. refl) _ _ (literal_has s.env x)
    sounds_within (var m x) b prior d h =
        leaf_sounds world m (λ k. var k x) (λ k. refl)
        _ _ (variable_has s.env.schema s.env.mode s.env.request_env s.env.overloaded_types s.env.policy
        world.request world.slots fits x)
    sounds_within (slot m x) b prior d h =
        always_sounds world m (λ k. slot k x) (λ k. refl)
        _ _ (slot_sound world s.env.request_env world.request world.slots fits x b)
    sounds_within (unknown m n) b prior d h = unknown_sounds world _ n m
    sounds_within (if_then_else m x y z) b prior d h =
        if_sounds strictly world s.env strict m (place_of x) _ _ _ _ _ _ prior h
        (within_sounds world _ (d + 1) _ (sounds_within x b.0 prior (d + 1) h))
        (λ p k. within_sounds world _ (d + 1) _ (sounds_within y b.1 p (d + 1) k))
        (within_sounds world _ (d + 1) _ (sounds_within z b.2 prior (d + 1) h)) (λ p. kept_at y p (d + 1))
        (kept_at z prior (d + 1))
    sounds_within (and m x y) b prior d h =
        and_sounds world s.env m (place_of x) (place_of y) _ _ _ _ prior h
        (within_sounds world _ (d + 1) _ (sounds_within x b.0 prior (d + 1) h))
        (λ p k. within_sounds world _ (d + 1) _ (sounds_within y b.1 p (d + 1) k))
    sounds_within (or m x y) b prior d h =
        or_sounds world s.env m (place_of x) (place_of y) _ _ _ _ prior
        (within_sounds world _ (d + 1) _ (sounds_within x b.0 prior (d + 1) h))
        (within_sounds world _ (d + 1) _ (sounds_within y b.1 prior (d + 1) h))
    sounds_within (unary m o x) b prior d h =
        one_operand_sounds strictly world s.env (unary_form m o) (unary_marked m o) (place_of x) (eval world x)
        _ _ (of_any strictly world (unary_form m o) (eval world x ∷ [])
        _ (unary_sound world (eval world x) m o))
        (within_sounds world _ (d + 1) _ (sounds_within x b prior (d + 1) h)) (kept_at x prior (d + 1))
    sounds_within (binary m o x y) b prior d h =
        two_operands_sound strictly world s.env (binary_form s.env m prior x y o)
        (binary_marked s.env m prior x y o) (place_of x) (place_of y) (eval world x) (eval world y)
        _ _ _ (binary_sound m prior x y o h)
        (within_sounds world _ (d + 1) _ (sounds_within x b.0 prior (d + 1) h)) (kept_at x prior (d + 1))
        (within_sounds world _ (d + 1) _ (sounds_within y b.1 prior (d + 1) h)) (kept_at y prior (d + 1))
    sounds_within (call m n ts) b prior d h =
        let f = call_form s.env s.functions m n (arguments ts) in
        call_sounds s world keeps n strictly m ts _ (all_sound f.goes_on f.expects ts b prior (d + 1) h)
    sounds_within (get_attr m x a) b prior d h =
        one_operand_sounds strictly world s.env (get_form s.env m prior x a) (λ k xs. refl) (place_of x)
        (eval world x) _ _ (get_sound s.env world store m prior h x a strictly partial joins)
        (within_sounds world _ (d + 1) _ (sounds_within x b prior (d + 1) h)) (kept_at x prior (d + 1))
    sounds_within (has_attr m x a) b prior d h =
        one_operand_sounds strictly world s.env (has_form s.env m prior x a) (λ k xs. refl) (place_of x)
        (eval world x) _ _ (of_any strictly world (has_form s.env m prior x a) (eval world x ∷ [])
        _ (has_sound s.env world store m prior h x a))
        (within_sounds world _ (d + 1) _ (sounds_within x b prior (d + 1) h)) (kept_at x prior (d + 1))
    sounds_within (ext_has_attr m x a xs) b prior d h =
        one_operand_sounds strictly world s.env (chain_form s.env m prior x a xs) (λ k ys. refl) (place_of x)
        (eval world x) _ _ (chain_sound s.env world store m prior h x a xs strictly faults formed partial joins)
        (within_sounds world _ (d + 1) _ (sounds_within x b prior (d + 1) h)) (kept_at x prior (d + 1))
    sounds_within (like m x p) b prior d h =
        one_operand_sounds strictly world s.env (like_form m p) (λ k xs. refl) (place_of x) (eval world x)
        _ _ (of_any strictly world (like_form m p) (eval world x ∷ []) _ (like_sound world m p (eval world x)))
        (within_sounds world _ (d + 1) _ (sounds_within x b prior (d + 1) h)) (kept_at x prior (d + 1))
    sounds_within (is_type m x n) b prior d h =
        one_operand_sounds strictly world s.env (is_form m n) (λ k xs. refl) (place_of x) (eval world x)
        _ _ (of_any strictly world (is_form m n) (eval world x ∷ []) _ (is_sound world m n (eval world x)))
        (within_sounds world _ (d + 1) _ (sounds_within x b prior (d + 1) h)) (kept_at x prior (d + 1))
    sounds_within (set_of m ts) b prior d h = set_sounds strictly world s.env strict m ts _ (all_sound true [] ts b prior (d + 1) h)
    sounds_within (record_of m fs) b prior d h = record_sounds strictly world s.env m fs _ (fields_sound fs b prior (d + 1) h)

    -- expressions one after another
    all_sound : (goes_on : Bool) (qs : List Expectation) (ts : Trees Written) → AllSlotsBound world.slots ts
        → (prior : Caps) (d : ℕ) → AllHold world prior
        → SoundsAll strictly world qs (outcomes world ts) (rules_all s goes_on qs ts prior d)
    all_sound goes_on qs no_trees b prior d h = none_sounds strictly world qs
    all_sound goes_on qs (tree e ts) b prior d h =
        more_sounds strictly world s.env goes_on qs (place_of e) (eval world e)
        _ (within_sounds world _ d _ (sounds_within e b.0 prior d h)) (kept_at e prior d) (outcomes world ts)
        _ (all_sound goes_on (later_expectations qs) ts b.1 prior d h)

    -- the values of fields
    fields_sound : (fs : Fields Written) → FieldSlotsBound world.slots fs → (prior : Caps) (d : ℕ)
        → AllHold world prior → SoundsAll strictly world [] (field_outcomes world fs) (rules_fields s fs prior d)
    fields_sound no_fields b prior d h = none_sounds strictly world []
    fields_sound (field k e fs) b prior d h =
        more_sounds strictly world s.env false [] (place_of e) (eval world e)
        _ (within_sounds world _ d _ (sounds_within e b.0 prior d h)) (kept_at e prior d)
        (field_outcomes world fs) _ (fields_sound fs b.1 prior d h)

  pub sounds : (e : Source) → SlotsBound world.slots e → (prior : Caps) (d : ℕ) → AllHold world prior
      → Sounds world (eval world e) (rules s e prior d)
  sounds e b prior d h = within_sounds world _ d _ (sounds_within e b prior d h)

-- type soundness in a reliable setting and one of its worlds
module _ (s : Setting) (world : World) (faults : has_fault s.env.schema ≡ false)
    (formed : IsFormedFor s.env.mode s.env.schema) (table_faults : table_fault s.functions ≡ None) (r : IsReliable s)
    (i : IsWorldOf s world) where
  pub sounds_in : (e : Source) → SlotsBound world.slots e → (prior : Caps) (d : ℕ) → AllHold world prior
      → Sounds world (eval world e) (rules s e prior d)
  sounds_in =
      sounds (is_strict s.env.mode) s world refl r.mode formed faults table_faults r.closed
      r.environment i.environment i.store i.functions

  sound_at : (e : Source) → SlotsBound world.slots e → (prior : Caps) (d : ℕ) → AllHold world prior → IsSoundAt s world e prior d
  sound_at e b prior d h =
      let q = sounds_in e b prior d h in
      record {
        typed = λ t c x k. subst (λ a. HasFound a (eval world e)) (sym (q.marks t c x k)) (q.derivations t c x k).typed;
        recovered = λ x es k. (q.recoveries x es k).typed;
        safe = λ t c x k. (q.derivations t c x k).safe refl;
        caps_hold_if_true = λ t c x k. (q.derivations t c x k).caps_hold_if_true;
        caps_hold_at_true = λ c x k. (q.derivations (TBool True) c x k).caps_hold_at_true tt;
      }

pub type_soundness : TypeSoundness
type_soundness s world f w t r i = sound_at s world f w t r i
