-- A typed copy without level errors evaluates over a part of the store that holds the slice as the
-- expression does over the whole store.
use Rattle.std.proofs.Common.{◌≡◌, inl, inr, ℕ, Some, refl, sym, ◌∙◌, subst}
use Rattle.cedar_types.specs.Names.{Uid}
use Rattle.cedar_types.specs.Types.{Ty}
use Rattle.cedar_types.specs.Types.Bounds.{is_strict}
use Rattle.cedar_types.specs.Values.Stores.{Store}
use Rattle.cedar_typing.specs.Capabilities.{Caps}
use Rattle.cedar_typing.specs.Evaluation.Conformance.{SlotsBound, AllHold}
use Rattle.cedar_typing.specs.Evaluation.Eval.{eval}
use Rattle.cedar_typing.specs.Evaluation.World.{World, Outcome}
use Rattle.cedar_typing.specs.Judgments.{Judgment}
use Rattle.cedar_typing.specs.Rules.{rules}
use Rattle.cedar_typing.specs.Setting.{Setting}
use Rattle.cedar_typing.specs.TypedExpr.{Source, TypedTree}
use Rattle.cedar_typing.proofs.Soundness.Capabilities.{hold_either}
use Rattle.cedar_typing.proofs.Soundness.Induction.{sounds}
use Rattle.cedar_typing.proofs.Soundness.Parts.{Sounds}
use Rattle.cedar_typechecker.specs.Levels.Setting.{LevelSetting}
use Rattle.cedar_typechecker.specs.Slices.Soundness.{with_store, levels_in, IsSliced}
use Rattle.cedar_typechecker.proofs.Levels.Monotone.{silent_of}
use Rattle.cedar_typechecker.proofs.Slices.Expressions.{same_at}
use Rattle.cedar_typechecker.proofs.Slices.Same.{IsSame}
use Rattle.cedar_typechecker.specs.Slices.TypedCopies.{CopiesMeanTheSameInPart, CopiesNeedSliceAlone}
use Rattle.cedar_typing.proofs.TypedCopies.Induction.{copies}
use Rattle.cedar_typechecker.proofs.Slices.Loaded.{Loaded, loaded_closed}
use Rattle.cedar_typing.proofs.TypedCopies.Same.{Told, ToldPart}

-- ---- type soundness over the store is type soundness over the part

module _ (levels : LevelSetting) (P : ℕ → Uid → Type 0) (o o' : Outcome) (J : Judgment) (i : IsSame levels P o o' J) where
  pub same_if_loaded : (t : Ty) (c : Caps) (x : TypedTree) → J.derives t c x → Loaded levels x → o' ≡ o
  same_if_loaded t c x d (inl h) = i.checked t c x d h
  same_if_loaded t c x d (inr (path, k, le, h)) = (i.target t c x d path k le h).same

  pub told_in_part : (world : World) → Sounds world o J → Told (Loaded levels) (AllHold world) ⊥ o' J
  told_in_part world q = record {
    derivations = λ t c x d h.
        let r = q.derivations t c x d in
        subst (λ z. ToldPart (Loaded levels) (AllHold world) ⊥ z (Some t) c) (sym (same_if_loaded t c x d h))
        (record { typed = r.typed; known_if_true = r.caps_hold_if_true; known_at_true = r.caps_hold_at_true });
    operands = λ r. absurd r;
  }

-- ---- all expressions

module _ (s : Setting) (world : World) (n : ℕ) (part : Store) (i : IsSliced s world n part) where
  abbrev other : World
  other = with_store world part

  abbrev levels : LevelSetting
  levels = levels_in s n

  in_part : CopiesMeanTheSameInPart s world n part
  in_part e b prior d h t c x k w =
      let r = i.reliable in
      let same = λ (e : Source) (b : SlotsBound world.slots e) (prior : Caps) (d : ℕ) (h : AllHold world prior).
      same_at (is_strict s.env.mode) s world n part refl i.setting.mode i.formed i.schema i.functions i.setting.closed
      i.setting.environment i.links r.environment r.store r.functions i.slice e b prior d h in
      let told = λ (e : Source) (b : SlotsBound world.slots e) (prior : Caps) (d : ℕ) (h : AllHold world prior).
      told_in_part levels _ (eval world e) (eval other e) (rules s e prior d) (same e b prior d h) world
      (sounds (is_strict s.env.mode) s world refl i.setting.mode i.formed i.schema i.functions i.setting.closed
      i.setting.environment r.environment r.store r.functions e b prior d h) in
      let q = copies (Loaded levels) (AllHold world) ⊥ s other world.slots (loaded_closed levels)
      (λ c c' h k. hold_either world c c' h k) told e b prior d h in
      q.derivations t c x k (inl (silent_of levels x w)) ∙ (same e b prior d h).checked t c x k (silent_of levels x w)

pub copies_need_slice_alone : CopiesNeedSliceAlone
copies_need_slice_alone s world n part i = in_part s world n part i
