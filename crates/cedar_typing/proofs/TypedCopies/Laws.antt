-- The laws of typed copies.
use Rattle.std.proofs.Common.{◌≡◌, ℕ, false, None, sym}
use Rattle.cedar_types.specs.declared.base.types.BoolType.TheVariants.{False}
use Rattle.cedar_types.specs.Expressions.Tree.{Trees, no_trees, tree, Fields, no_fields, field}
use Rattle.cedar_types.specs.Extensions.Functions.{table_fault}
use Rattle.cedar_types.specs.Schemas.{has_fault}
use Rattle.cedar_types.specs.Types.{TBool}
use Rattle.cedar_typing.specs.Capabilities.{Caps, no_caps}
use Rattle.cedar_typing.specs.Evaluation.Conformance.{SlotsBound, AllHold}
use Rattle.cedar_typing.specs.Evaluation.Eval.{eval}
use Rattle.cedar_typing.specs.Evaluation.World.{World, Outcome}
use Rattle.cedar_typing.specs.Judgments.{Judgment}
use Rattle.cedar_typing.specs.Modes.{IsFormedFor}
use Rattle.cedar_typing.specs.PolicyCheck.{Verdict, PolicyChecks, check_true, check_false, check_refused_false, check_refused, check_cut}
use Rattle.cedar_typing.specs.Rules.{rules}
use Rattle.cedar_typing.specs.Setting.{Setting}
use Rattle.cedar_typing.specs.Soundness.{IsReliable, IsWorldOf}
use Rattle.cedar_typing.specs.TypeTests.{bool_types}
use Rattle.cedar_typing.specs.TypedExpr.{Source, TypedTree, Mark, place_of}
use Rattle.cedar_typing.proofs.Soundness.Capabilities.{eval_mapped, hold_none, hold_either}
use Rattle.cedar_typing.proofs.Soundness.Induction.{sounds_in}
use Rattle.cedar_typing.proofs.Soundness.Parts.{Sounds, operand_sound}
use Rattle.cedar_typing.specs.TypedCopies.{MeansTheSame, CopiesMeanTheSame, VerdictMeansTheSame}
use Rattle.cedar_typing.specs.TypedCopies.{TypesDoNotMatter, ChecksMeanTheSame}
use Rattle.cedar_typing.proofs.TypedCopies.Induction.{copies}
use Rattle.cedar_typing.proofs.Composition.Slots.{slots_bound}
use Rattle.cedar_typing.proofs.TypedCopies.Filled.{filled_world, all_filled, filled_fits, eval_below, told_below}
use Rattle.cedar_typing.proofs.TypedCopies.Same.{AllOf, FieldsOf, IsClosed, Told, Copies, operand_copied}

-- the predicate that holds of every copy
abbrev pub Any : TypedTree → Type 0
Any x = Unit {0}

any_all : (ts : Trees Mark) → AllOf Any ts
any_all no_trees = tt
any_all (tree t ts) = (tt, any_all ts)

any_fields : (fs : Fields Mark) → FieldsOf Any fs
any_fields no_fields = tt
any_fields (field k t fs) = (tt, any_fields fs)

pub any_closed : IsClosed Any
any_closed = record {
  marked = λ k x h. tt;
  choice = λ k a b e h. (tt, tt, tt);
  both = λ k a b h. (tt, tt);
  either = λ k a b h. (tt, tt);
  one = λ k o a h. tt;
  two = λ k o a b h. (tt, tt);
  arguments = λ k n ts h. any_all ts;
  base = λ k a x h. tt;
  tested = λ k a x h. tt;
  chained = λ k a x xs h. tt;
  matched = λ k a p h. tt;
  sorted = λ k a n h. tt;
  members = λ k ts h. any_all ts;
  values = λ k fs h. any_fields fs;
}

-- type soundness gives the facts that the induction needs about an outcome
pub told_by_soundness : (world : World) (o : Outcome) (J : Judgment) → Sounds world o J → Told Any (AllHold world) (Unit {0}) o J
told_by_soundness world o J i = record {
  derivations = λ t c x d h.
      let r = i.derivations t c x d in
      record { typed = r.typed; known_if_true = r.caps_hold_if_true; known_at_true = r.caps_hold_at_true };
  operands = λ u env ts l succeeded c x es p.
      let r = operand_sound world o J i env ts l succeeded c x es p in
      record { typed = r.typed; known_if_true = r.caps_hold_if_true; known_at_true = r.caps_hold_at_true };
}

module _ (s : Setting) (world : World) (faults : has_fault s.env.schema ≡ false)
    (formed : IsFormedFor s.env.mode s.env.schema) (table_faults : table_fault s.functions ≡ None) (r : IsReliable s)
    (i : IsWorldOf s world) where
  means_the_same : (e : Source) → SlotsBound world.slots e → (prior : Caps) (d : ℕ) → AllHold world prior
      → MeansTheSame s world e prior d
  means_the_same e b prior d h =
      let q = copies Any (AllHold world) (Unit {0}) s world world.slots any_closed (λ c c' h k. hold_either world c c' h k)
      (λ e b prior d h.
      told_by_soundness world (eval world e) (rules s e prior d) (sounds_in s world faults formed table_faults r i e b prior d h))
      e b prior d h in
      record { derived = λ t c x k. q.derivations t c x k tt; recovered = λ x es k. q.recoveries tt x es k tt }

  -- ---- worlds in which some slots are unbound

  -- the world in which these slots are bound too
  abbrev filled : World
  filled = filled_world world

  filled_is_world : IsWorldOf s filled
  filled_is_world = record {
    environment = filled_fits s.env.request_env world i.environment;
    store = i.store;
    functions = i.functions;
  }

  told_unbound : (e : Source) (prior : Caps) (d : ℕ) → AllHold filled prior
      → Told Any (AllHold filled) (Unit {0}) (eval world e) (rules s e prior d)
  told_unbound e prior d h =
      told_below Any (AllHold filled) (Unit {0}) (eval world e) (eval filled e) (rules s e prior d) (eval_below world e)
      (told_by_soundness filled (eval filled e) (rules s e prior d)
      (sounds_in s filled faults formed table_faults r filled_is_world e (slots_bound filled.slots (all_filled world) e) prior d h))

  any_copies : (e : Source) (prior : Caps) (d : ℕ) → AllHold filled prior
      → Copies Any (Unit {0}) world (eval world e) (rules s e prior d)
  any_copies e prior d h =
      copies Any (AllHold filled) (Unit {0}) s world filled.slots any_closed (λ c c' h k. hold_either filled c c' h k)
      (λ e b prior d h. told_unbound e prior d h) e (slots_bound filled.slots (all_filled world) e) prior d h

-- ---- the check of a condition

module _ (s : Setting) (e : Source) (world : World) (i : Copies Any (Unit {0}) world (eval world e) (rules s e no_caps 1)) where
  pub verdict_means_the_same : (v : Verdict) → PolicyChecks s e v → VerdictMeansTheSame world e v
  verdict_means_the_same v (check_true t c {e' = x} d a n) = i.derivations t c x d tt
  verdict_means_the_same v (check_false c {e' = x} d) = i.derivations (TBool False) c x d tt
  verdict_means_the_same v (check_refused_false {e' = x} {es = es} (c, o) n p) =
      operand_copied Any (Unit {0}) world any_closed.marked tt (eval world e) _ i s.env bool_types (place_of e) false c x es o tt
  verdict_means_the_same v (check_refused o n p) = tt
  verdict_means_the_same v (check_cut c p) = tt

-- ---- the laws

-- evaluation looks at the form alone
pub types_do_not_matter : TypesDoNotMatter
types_do_not_matter world x = sym (eval_mapped world (λ (m : Mark). m.at) x)

pub copies_mean_the_same : CopiesMeanTheSame
copies_mean_the_same s world f w t r i = means_the_same s world f w t r i

pub checks_mean_the_same : ChecksMeanTheSame
checks_mean_the_same s e v f w t c r world i =
    verdict_means_the_same s e world (any_copies s world f w t r i e no_caps 1 (hold_none (filled_world world))) v c
