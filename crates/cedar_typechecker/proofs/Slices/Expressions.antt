-- Slice soundness of expressions, if both slots are linked.
use Rattle.std.proofs.Common.{◌≡◌, ℕ, ◌≤◌, Bool, ◌||◌, true, false, None, refl, sym, subst, arith}
use Rattle.cedar_types.specs.declared.base.types.BoolType.TheVariants.{True}
use Rattle.cedar_types.specs.Types.Bounds.{is_strict}
use Rattle.cedar_types.specs.Extensions.Functions.{table_fault}
use Rattle.cedar_types.specs.Schemas.Formed.{has_formed_types}
use Rattle.cedar_types.specs.Names.{Uid}
use Rattle.cedar_types.specs.Environments.RequestEnvs.{is_partial}
use Rattle.cedar_types.specs.Schemas.{has_fault}
use Rattle.cedar_types.specs.Values.Stores.{Store, ConformingStore}
use Rattle.cedar_types.specs.Types.{Ty, TBool}
use Rattle.cedar_typing.specs.Capabilities.{Caps}
use Rattle.cedar_typing.specs.Evaluation.Conformance.{Fits, IsEnvironmentOf, SlotsBound, has_external, KeepsTable, AllHold}
use Rattle.cedar_typing.specs.Evaluation.Eval.{eval}
use Rattle.cedar_typing.specs.Evaluation.World.{World}
use Rattle.cedar_typing.specs.Rules.{rules, Derives}
use Rattle.cedar_typing.specs.Setting.LinkedSlots.{LinksBothSlots}
use Rattle.cedar_typing.specs.Setting.{Setting, table}
use Rattle.cedar_typing.specs.Soundness.{HasFound}
use Rattle.cedar_typing.specs.TypedExpr.{Source, TypedTree, annotation, place_of}
use Rattle.cedar_typing.proofs.KeptTypes.Induction.{types_are_kept}
use Rattle.cedar_typing.proofs.KeptTypes.Keeping.{IsKeeping}
use Rattle.cedar_typing.proofs.KeptTypes.Modes.{keeps, keeps_in_mode}
use Rattle.cedar_typing.proofs.KeptTypes.Rules.{KeepsTypes}
use Rattle.cedar_typing.proofs.KeptTypes.Types.{no_any_entity, IsKept, KeptIn, any_entity_not_kept}
use Rattle.cedar_typing.proofs.Soundness.Chains.Steps.{object_accepted}
use Rattle.cedar_typing.proofs.Soundness.Induction.{kept_joins, sounds}
use Rattle.cedar_typing.proofs.Values.Attributes.{get_typed, has_not}
use Rattle.cedar_typechecker.specs.Levels.Chains.{level}
use Rattle.cedar_typechecker.specs.Slices.Reach.{HoldsSlice}
use Rattle.cedar_typechecker.specs.Slices.Soundness.{with_store, levels_in, IsSliced, IsReachedIn, EvaluatesAlike, TargetsReach}
use Rattle.cedar_typechecker.specs.Slices.Soundness.{SliceSoundness, TargetsAreReached}
use Rattle.cedar_typechecker.proofs.Levels.Monotone.{silent_of}
use Rattle.cedar_typechecker.proofs.Slices.Chains.{IsKeptType, chain_same}
use Rattle.cedar_typechecker.proofs.Slices.ChainValues.{AreKept}
use Rattle.cedar_typechecker.proofs.Slices.Induction.{all_same}
use Rattle.cedar_typechecker.proofs.Slices.Same.{IsTold, IsSame}
use Rattle.cedar_typechecker.proofs.Slices.Stores.{Agrees, Within, agrees as stores_agree}
use Rattle.cedar_typechecker.proofs.Slices.TargetLevels.{target_level, targeted_of}

-- the schema's types must be formed in Permissive, and may be any in Strict
module _ (strictly : Bool) (s : Setting) (world : World) (n : ℕ) (part : Store)
    (strict : is_strict s.env.mode ≡ strictly) (total : is_partial s.env.mode ≡ false)
    (formed : (strictly || has_formed_types s.env.schema) ≡ true)
    (schema : has_fault s.env.schema ≡ false) (functions : table_fault s.functions ≡ None)
    (closed : has_external s.env.schema ≡ false)
    (environment : IsEnvironmentOf s.env.schema s.env.request_env)
    (links : LinksBothSlots s.env.request_env)
    (fits : Fits s.env.request_env world.request world.slots)
    (store : ConformingStore s.env.schema world.store)
    (keeps_table : KeepsTable (table s) world.functions)
    (holds : HoldsSlice world.request world.store n part) where
  abbrev Reached : ℕ → Uid → Type 0
  Reached = Within world.request world.store part n holds

  abbrev both_agree : Agrees world.request world.store part n Reached
  both_agree = stores_agree world.request world.store part n holds

  -- ---- the types that are found

  -- the type any entity is nowhere in such a type, and the values of its attributes have their
  -- types
  abbrev IsFound : Ty → Type 0
  IsFound t = IsKept no_any_entity t × KeptIn strictly t

  never_any : IsKeeping (IsKept no_any_entity) s.env
  never_any = keeps no_any_entity s.env schema links

  in_this_mode : IsKeeping (KeptIn strictly) s.env
  in_this_mode = keeps_in_mode strictly s.env strict total schema formed

  kept : AreKept s.env world.store IsFound
  kept = record {
    no_any_entity = λ h. any_entity_not_kept h.0;
    attribute = λ b u r x k f. (
      never_any.attributes b x u r k.0 f,
      in_this_mode.attributes b x u r k.1 f,
    );
    typed = λ b u r x v k h f.
        get_typed s.env.schema x world.store store b u r v
        (kept_joins strictly s.env.schema schema formed b k.1) h f;
    absent = λ b x v k o h f.
        has_not s.env.schema x world.store store b v (object_accepted b o) h f;
  }

  kept_types : (e : Source) (prior : Caps) (d : ℕ)
      → KeepsTypes (KeptIn strictly) (rules s e prior d)
  kept_types = types_are_kept (KeptIn strictly) s in_this_mode functions environment

  is_found : (e : Source) (prior : Caps) (d : ℕ) (t : Ty) (c : Caps) (x : TypedTree)
      → Derives s e prior d t c x → IsFound t
  is_found e prior d t c x h = (
    (types_are_kept (IsKept no_any_entity) s never_any functions environment e prior d).derivations
        t c x h,
    (kept_types e prior d).derivations t c x h,
  )

  -- ---- all expressions

  module _ (e : Source) (b : SlotsBound world.slots e) (prior : Caps) (d : ℕ)
      (h : AllHold world prior) where
    told : IsTold world (eval world e) (rules s e prior d)
    told =
        let r = sounds strictly s world strict total formed schema functions closed environment
        fits store keeps_table e b prior d h in
        record {
          typed = λ t c x k. (r.derivations t c x k).typed;
          found = λ t c x k.
              subst (λ a. HasFound a (eval world e)) (sym (r.marks t c x k))
              (r.derivations t c x k).typed;
          caps_hold_if_true = λ t c x k. (r.derivations t c x k).caps_hold_if_true;
          caps_hold_at_true = λ c x k. (r.derivations (TBool True) c x k).caps_hold_at_true tt;
        }

    found_type : (t : Ty) (c : Caps) (x : TypedTree) → Derives s e prior d t c x
        → IsKeptType IsFound (annotation x)
    found_type t c x k =
        subst (IsKeptType IsFound) (sym ((kept_types e prior d).marks t c x k))
        (is_found e prior d t c x k)

  pub same_at : (e : Source) → SlotsBound world.slots e → (prior : Caps) (d : ℕ)
      → AllHold world prior
      → IsSame (levels_in s n) Reached (eval world e) (eval (with_store world part) e)
      (rules s e prior d)
  same_at =
      all_same s world part n Reached both_agree fits told
      (λ m prior e x xs d b h k.
      chain_same world.request world.store part s n Reached both_agree IsFound kept total m prior
      e x xs (place_of e) _ _ _ (told e b prior d h).found (found_type e b prior d h) k)

-- ---- the promises

-- each expression evaluates over the part as over the store, if typing can be relied on
abbrev AllSame : Setting → World → ℕ → Store → Type 0
AllSame s world n part =
    (e : Source) → SlotsBound world.slots e → (prior : Caps) (d : ℕ) → AllHold world prior
    → IsSame (levels_in s n) (IsReachedIn world) (eval world e) (eval (with_store world part) e)
    (rules s e prior d)

evaluates_alike : (s : Setting) (world : World) (n : ℕ) (part : Store)
    → AllSame s world n part → EvaluatesAlike s world n part
evaluates_alike s world n part same e b prior d h t c x k w =
    (same e b prior d h).checked t c x k (silent_of (levels_in s n) x w)

targets_reach : (s : Setting) (world : World) (n : ℕ) (part : Store)
    → AllSame s world n part → TargetsReach s world n
targets_reach s world n part same e b prior d h t c x k root w path g =
    let a = (levels_in s n).action in
    let le : level a x path ≤ n = target_level (levels_in s n) root w g in
    let z = targeted_of (levels_in s n) root w g (level a x path) (omega arith) in
    ((same e b prior d h).target t c x k path (level a x path) le z).ids

same_in : (s : Setting) (world : World) (n : ℕ) (part : Store) → IsSliced s world n part → AllSame s world n part
same_in s world n part i =
    same_at (is_strict s.env.mode) s world n part refl i.setting.mode i.formed i.schema i.functions i.setting.closed
    i.setting.environment i.links i.reliable.environment i.reliable.store i.reliable.functions i.slice

pub slice_soundness : SliceSoundness
slice_soundness s world n part i = evaluates_alike s world n part (same_in s world n part i)

pub targets_are_reached : TargetsAreReached
targets_are_reached s world n part i = targets_reach s world n part (same_in s world n part i)
