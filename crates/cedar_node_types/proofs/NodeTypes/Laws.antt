-- The laws of the types at the nodes of typed copies.
use Rattle.std.proofs.Common.{◌≡◌, ℕ, false, List, Option, Some, None, sym, subst}
use Rattle.cedar_types.specs.declared.base.types.BoolType.TheVariants.{False}
use Rattle.cedar_types.specs.Errors.{Finding}
use Rattle.cedar_types.specs.Extensions.Functions.{table_fault}
use Rattle.cedar_types.specs.Schemas.{has_fault}
use Rattle.cedar_types.specs.Types.{Ty, TBool}
use Rattle.cedar_typing.specs.Capabilities.{Caps, no_caps}
use Rattle.cedar_typing.specs.Evaluation.Conformance.{SlotsBound, AllHold}
use Rattle.cedar_typing.specs.Evaluation.Eval.{eval}
use Rattle.cedar_typing.specs.Evaluation.World.{World, Outcome, UnlinkedSlot}
use Rattle.cedar_typing.specs.Judgments.{Judgment}
use Rattle.cedar_typing.specs.Modes.{IsFormedFor}
use Rattle.cedar_node_types.specs.NodeTypes.{CopiesHaveTypes, HasTypes, ReachedFitTypes, ReachedFitInCopies, CopiesFitTypes, OnTypedCondition}
use Rattle.cedar_node_types.specs.NodeTypes.{SuccessesHaveTypes, PassingHaveTypes, ChecksFitTypes}
use Rattle.cedar_typing.specs.PolicyCheck.{Verdict, succeeds, irrelevant, PolicyChecks, check_true, check_false, check_refused_false}
use Rattle.cedar_typing.specs.PolicyCheck.{check_refused, check_cut}
use Rattle.cedar_typing.specs.Rules.{rules}
use Rattle.cedar_typing.specs.Setting.{Setting}
use Rattle.cedar_typing.specs.Silence.{IsDerivedAs}
use Rattle.cedar_typing.specs.Soundness.{HasFound, IsTrueOutcome, IsReliable, IsWorldOf}
use Rattle.cedar_typing.specs.TypeTests.{bool_types}
use Rattle.cedar_typing.specs.TypedExpr.{Source, TypedTree, annotation, place_of}
use Rattle.cedar_typing.proofs.Agreement.Induction.{agrees}
use Rattle.cedar_typing.proofs.Agreement.Parts.{Marks}
use Rattle.cedar_typing.proofs.Composition.Slots.{slots_bound}
use Rattle.cedar_node_types.proofs.NodeTypes.Induction.{copies_fit}
use Rattle.cedar_node_types.proofs.NodeTypes.Parts.{Roots, Fits, operand_fits}
use Rattle.cedar_node_types.proofs.NodeTypes.TypedInduction.{copies_typed}
use Rattle.cedar_typing.proofs.Silence.Checks.{passing_derived}
use Rattle.cedar_typing.proofs.Soundness.Capabilities.{hold_none, hold_either}
use Rattle.cedar_typing.proofs.Soundness.Induction.{sounds_in}
use Rattle.cedar_typing.proofs.TypedCopies.Filled.{IsBelow, itself, unlinked, filled_world, all_filled, eval_below}
use Rattle.cedar_typing.proofs.TypedCopies.Induction.{copies}
use Rattle.cedar_typing.proofs.TypedCopies.Laws.{Any, any_closed, told_by_soundness}
use Rattle.cedar_node_types.proofs.NodeTypes.Unbound.{failed_has, filled_is_world, told_unbound, any_copies}
use Rattle.cedar_typing.proofs.TypedCopies.Same.{Told, Copies}

-- ---- each node has a type

pub copies_have_types : CopiesHaveTypes
copies_have_types s e prior d t c x h = ((copies_typed s e prior d).nodes t c x h).all

pub successes_have_types : SuccessesHaveTypes
successes_have_types s e x (check_true t c d a n) = ((copies_typed s e no_caps 1).nodes t c x d).all

-- the condition of a verdict that passes is derived
pub derived_typed : (s : Setting) (e : Source) (v : Verdict) → IsDerivedAs s e v → OnTypedCondition HasTypes v
derived_typed s e (succeeds x) (t, c, d, a, n) = ((copies_typed s e no_caps 1).nodes t c x d).all
derived_typed s e (irrelevant es x) (c, d) = ((copies_typed s e no_caps 1).nodes (TBool False) c x d).all
derived_typed s e v h = absurd h

pub passing_have_types : PassingHaveTypes
passing_have_types s ok e named v c p = derived_typed s e v (passing_derived s ok e named v c p)

-- ---- the roots of copies, by their soundness and by their meaning

module _ (Known : Caps → Type 0) (world : World) (o : Outcome) (J : Judgment) (told : Told Any Known (Unit {0}) o J)
    (same : Copies Any (Unit {0}) world o J) (marks : Marks J.derives)
    (found : (x : TypedTree) (es : List Finding) → J.recovers x es → HasFound (annotation x) o) where
  roots_of : Roots Known world J
  roots_of = record {
    derivations = λ t c x d.
        let r = told.derivations t c x d tt in
        let e : eval world x ≡ o = same.derivations t c x d tt in
        record {
          fits = subst (λ z. HasFound z (eval world x)) (sym (marks t c x d)) (subst (HasFound (Some t)) (sym e) r.typed);
          known_if_true = λ h. r.known_if_true (subst IsTrueOutcome e h);
        };
    recoveries = λ x es d. subst (HasFound (annotation x)) (sym (same.recoveries tt x es d tt)) (found x es d);
  }

has_below : (found : Option Ty) (o o' : Outcome) → IsBelow o o' → HasFound found o' → HasFound found o
has_below found o o' itself h = h
has_below found o o' unlinked h = failed_has found UnlinkedSlot

-- ---- the values of reached nodes

module _ (s : Setting) (world : World) (faults : has_fault s.env.schema ≡ false)
    (formed : IsFormedFor s.env.mode s.env.schema) (table_faults : table_fault s.functions ≡ None) (r : IsReliable s)
    (i : IsWorldOf s world) where
  told : (e : Source) → SlotsBound world.slots e → (prior : Caps) (d : ℕ) → AllHold world prior
      → Told Any (AllHold world) (Unit {0}) (eval world e) (rules s e prior d)
  told e b prior d h =
      told_by_soundness world (eval world e) (rules s e prior d) (sounds_in s world faults formed table_faults r i e b prior d h)

  bound_roots : (e : Source) → SlotsBound world.slots e → (prior : Caps) (d : ℕ) → AllHold world prior
      → Roots (AllHold world) world (rules s e prior d)
  bound_roots e b prior d h =
      let q = sounds_in s world faults formed table_faults r i e b prior d h in
      roots_of (AllHold world) world (eval world e) (rules s e prior d) (told e b prior d h)
      (copies Any (AllHold world) (Unit {0}) s world world.slots any_closed (λ c c' h k. hold_either world c c' h k) told e b prior d h)
      (agrees s e prior d).marks (λ x es k. (q.recoveries x es k).typed)

  fitting : (e : Source) → SlotsBound world.slots e → (prior : Caps) (d : ℕ) → AllHold world prior
      → ReachedFitInCopies s world e prior d
  fitting e b prior d h =
      let q = copies_fit (AllHold world) (hold_none world) (λ c c' h k. hold_either world c c' h k) s world world.slots bound_roots
      e b prior d h in
      record { derived = q.derivations; recovered = q.recoveries }

  -- ---- where some slots are bound to nothing

  abbrev filled : World
  filled = filled_world world

  unbound_roots : (e : Source) → SlotsBound filled.slots e → (prior : Caps) (d : ℕ) → AllHold filled prior
      → Roots (AllHold filled) world (rules s e prior d)
  unbound_roots e b prior d h =
      let q = sounds_in s filled faults formed table_faults r (filled_is_world s world faults formed table_faults r i) e b prior d h in
      roots_of (AllHold filled) world (eval world e) (rules s e prior d)
      (told_unbound s world faults formed table_faults r i e prior d h) (any_copies s world faults formed table_faults r i e prior d h)
      (agrees s e prior d).marks (λ x es k. has_below (annotation x) _ _ (eval_below world e) (q.recoveries x es k).typed)

  any_fit : (e : Source) (prior : Caps) (d : ℕ) → AllHold filled prior → Fits world (rules s e prior d)
  any_fit e prior d h =
      copies_fit (AllHold filled) (hold_none filled) (λ c c' h k. hold_either filled c c' h k) s world filled.slots unbound_roots
      e (slots_bound filled.slots (all_filled world) e) prior d h

pub copies_fit_types : CopiesFitTypes
copies_fit_types s world f w t r i = fitting s world f w t r i

-- ---- the check of a condition

module _ (s : Setting) (e : Source) (world : World) (i : Fits world (rules s e no_caps 1)) where
  pub verdict_fits : (v : Verdict) → PolicyChecks s e v → OnTypedCondition (ReachedFitTypes world) v
  verdict_fits v (check_true t c {e' = x} d a n) = i.derivations t c x d
  verdict_fits v (check_false c {e' = x} d) = i.derivations (TBool False) c x d
  verdict_fits v (check_refused_false {e' = x} {es = es} (c, o) n p) =
      operand_fits world (rules s e no_caps 1) i s.env bool_types (place_of e) false c x es o
  verdict_fits v (check_refused o n p) = tt
  verdict_fits v (check_cut c p) = tt

pub checks_fit_types : ChecksFitTypes
checks_fit_types s e v f w t c r world i =
    verdict_fits s e world (any_fit s world f w t r i e no_caps 1 (hold_none (filled_world world))) v c
