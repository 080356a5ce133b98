-- Two worlds, of which the second binds slots that the first leaves unbound: an expression has one
-- outcome in both, or fails in the first because of an unbound slot.
use Rattle.std.proofs.Common.{◌≡◌, true, false, Option, Some, None, refl, sym, subst}
use Rattle.cedar_types.specs.declared.base.names.slots.SlotId.{SlotId}
use Rattle.cedar_types.specs.declared.base.expressions.operators.UnaryOp.{UnaryOp}
use Rattle.cedar_types.specs.Environments.RequestEnvs.{Env, Declared, Undeclared}
use Rattle.cedar_types.specs.Names.{Text, Path, Uid}
use Rattle.cedar_types.specs.Types.{Ty}
use Rattle.cedar_types.specs.Expressions.Tree.{lit, var, slot, unknown, if_then_else, and, or, unary, binary, call, get_attr, has_attr}
use Rattle.cedar_types.specs.Expressions.Tree.{ext_has_attr, like, is_type, set_of, record_of, Trees, no_trees, tree, Fields, no_fields}
use Rattle.cedar_types.specs.Expressions.Tree.{field}
use Rattle.cedar_types.specs.Expressions.View.{Written}
use Rattle.cedar_types.specs.Values.{Value, VSet, Values}
use Rattle.cedar_typing.specs.Capabilities.{Caps}
use Rattle.cedar_typing.specs.Evaluation.Conformance.{FitsSlot, Fits, IsBound}
use Rattle.cedar_typing.specs.Evaluation.Eval.{bound_outcome, unary_outcome, binary_outcome, get, has_test, path_test, like_outcome, is_of}
use Rattle.cedar_typing.specs.Evaluation.Eval.{called, eval, eval_all, eval_fields}
use Rattle.cedar_typing.specs.Evaluation.Outcomes.{Test, Says, Stops, test_of, of_test, and_test, or_test, choose, on_value}
use Rattle.cedar_typing.specs.Evaluation.Outcomes.{then_test, Outcomes, FailAt, more_outcomes, on_values, EntryOutcomes}
use Rattle.cedar_typing.specs.Evaluation.Outcomes.{FailEntry, more_entry_outcomes, record_outcome}
use Rattle.cedar_typing.specs.Evaluation.World.{World, call_value, UnlinkedSlot, Outcome, Gives, Fails, Failure}
use Rattle.cedar_typing.specs.Judgments.{Judgment}
use Rattle.cedar_typing.specs.Soundness.{HasFound}
use Rattle.cedar_typing.specs.TypedExpr.{Source, TypedTree, annotation}
use Rattle.cedar_typing.proofs.Composition.OwnBinding.{own_slots}
use Rattle.cedar_typing.proofs.Composition.Slots.{with_slots}
use Rattle.cedar_typing.proofs.TypedCopies.Same.{ToldPart, Told}

-- ---- slots that are bound too: to the variable's own entity

abbrev or_else : Option Uid → Option Uid → Option Uid
or_else None u = u
or_else (Some v) u = Some v

abbrev pub filled_world : World → World
filled_world world = with_slots world (λ x. or_else (world.slots x) (own_slots world.request x))

some_bound : (o : Option Uid) (u : Uid) → IsBound (or_else o (Some u))
some_bound None u = tt
some_bound (Some v) u = tt

pub all_filled : (world : World) (x : SlotId) → IsBound ((filled_world world).slots x)
all_filled world SlotId.Principal = some_bound (world.slots SlotId.Principal) world.request.principal
all_filled world SlotId.Resource = some_bound (world.slots SlotId.Resource) world.request.resource

filled_slot : (p : Option Path) (o u : Option Uid) → FitsSlot p o → FitsSlot p (or_else o u)
filled_slot None o u h = tt
filled_slot (Some p) None u h = absurd h
filled_slot (Some p) (Some v) u h = h

pub filled_fits : (env : Env) (world : World) → Fits env world.request world.slots
    → Fits env (filled_world world).request (filled_world world).slots
filled_fits (Declared d ps rs) world h =
    (h.0, filled_slot ps (world.slots SlotId.Principal) _ h.1, filled_slot rs (world.slots SlotId.Resource) _ h.2)
filled_fits Undeclared world h = absurd h

-- ---- outcomes that are equal, or of which the first is an unbound slot

pub data IsBelow : Outcome → Outcome → Type 0 where
  itself : {o : Outcome} → IsBelow o o
  unlinked : {o : Outcome} → IsBelow (Fails UnlinkedSlot) o

data AreBelow : Outcomes → Outcomes → Type 0 where
  themselves : {o : Outcomes} → AreBelow o o
  unlinked_one : {o : Outcomes} → AreBelow (FailAt UnlinkedSlot) o

data EntriesBelow : EntryOutcomes → EntryOutcomes → Type 0 where
  same_entries : {o : EntryOutcomes} → EntriesBelow o o
  unlinked_entry : {o : EntryOutcomes} → EntriesBelow (FailEntry UnlinkedSlot) o

-- a function that keeps the failure of an unbound slot keeps the relation
below_by : (g : Outcome → Outcome) → g (Fails UnlinkedSlot) ≡ Fails UnlinkedSlot → (o o' : Outcome) → IsBelow o o' → IsBelow (g o) (g o')
below_by g e o o' itself = itself
below_by g e o o' unlinked = subst (λ z. IsBelow z (g o')) (sym e) unlinked

on_both : (f : Value → Value → Outcome) (o o' p p' : Outcome) → IsBelow o o' → IsBelow p p'
    → IsBelow (on_value o (λ v. on_value p (f v))) (on_value o' (λ v. on_value p' (f v)))
on_both f o o' p p' itself h = go o
  where
    go : (o : Outcome) → IsBelow (on_value o (λ v. on_value p (f v))) (on_value o (λ v. on_value p' (f v)))
    go (Gives v) = below_by (λ z. on_value z (f v)) refl p p' h
    go (Fails g) = itself
on_both f o o' p p' unlinked h = unlinked

choose_below : (o o' p p' q q' : Outcome) → IsBelow o o' → IsBelow p p' → IsBelow q q'
    → IsBelow (choose (test_of o) p q) (choose (test_of o') p' q')
choose_below o o' p p' q q' itself h k = go (test_of o)
  where
    go : (t : Test) → IsBelow (choose t p q) (choose t p' q')
    go (Says true) = h
    go (Says false) = k
    go (Stops f) = itself
choose_below o o' p p' q q' unlinked h k = unlinked

and_below : (o o' p p' : Outcome) → IsBelow o o' → IsBelow p p'
    → IsBelow (of_test (and_test (test_of o) (test_of p))) (of_test (and_test (test_of o') (test_of p')))
and_below o o' p p' itself h = go (test_of o)
  where
    go : (t : Test) → IsBelow (of_test (and_test t (test_of p))) (of_test (and_test t (test_of p')))
    go (Says true) = below_by (λ z. of_test (test_of z)) refl p p' h
    go (Says false) = itself
    go (Stops f) = itself
and_below o o' p p' unlinked h = unlinked

or_below : (o o' p p' : Outcome) → IsBelow o o' → IsBelow p p'
    → IsBelow (of_test (or_test (test_of o) (test_of p))) (of_test (or_test (test_of o') (test_of p')))
or_below o o' p p' itself h = go (test_of o)
  where
    go : (t : Test) → IsBelow (of_test (or_test t (test_of p))) (of_test (or_test t (test_of p')))
    go (Says true) = itself
    go (Says false) = below_by (λ z. of_test (test_of z)) refl p p' h
    go (Stops f) = itself
or_below o o' p p' unlinked h = unlinked

one_more : (o : Outcome) (os os' : Outcomes) → AreBelow os os' → AreBelow (more_outcomes o os) (more_outcomes o os')
one_more (Fails f) os os' h = themselves
one_more (Gives v) os os' themselves = themselves
one_more (Gives v) os os' unlinked_one = unlinked_one

more_below : (o o' : Outcome) (os os' : Outcomes) → IsBelow o o' → AreBelow os os' → AreBelow (more_outcomes o os) (more_outcomes o' os')
more_below o o' os os' itself h = one_more o os os' h
more_below o o' os os' unlinked h = unlinked_one

one_entry_more : (k : Text) (o : Outcome) (os os' : EntryOutcomes) → EntriesBelow os os'
    → EntriesBelow (more_entry_outcomes k o os) (more_entry_outcomes k o os')
one_entry_more k (Fails f) os os' h = same_entries
one_entry_more k (Gives v) os os' same_entries = same_entries
one_entry_more k (Gives v) os os' unlinked_entry = unlinked_entry

more_entries_below : (k : Text) (o o' : Outcome) (os os' : EntryOutcomes) → IsBelow o o' → EntriesBelow os os'
    → EntriesBelow (more_entry_outcomes k o os) (more_entry_outcomes k o' os')
more_entries_below k o o' os os' itself h = one_entry_more k o os os' h
more_entries_below k o o' os os' unlinked h = unlinked_entry

on_all : (f : Values → Outcome) (os os' : Outcomes) → AreBelow os os' → IsBelow (on_values os f) (on_values os' f)
on_all f os os' themselves = itself
on_all f os os' unlinked_one = unlinked

record_below : (os os' : EntryOutcomes) → EntriesBelow os os' → IsBelow (record_outcome os) (record_outcome os')
record_below os os' same_entries = itself
record_below os os' unlinked_entry = unlinked

unary_below : (op : UnaryOp) (o o' : Outcome) → IsBelow o o' → IsBelow (unary_outcome op o) (unary_outcome op o')
unary_below UnaryOp.Not o o' h = below_by (unary_outcome UnaryOp.Not) refl o o' h
unary_below UnaryOp.Neg o o' h = below_by (unary_outcome UnaryOp.Neg) refl o o' h
unary_below UnaryOp.IsEmpty o o' h = below_by (unary_outcome UnaryOp.IsEmpty) refl o o' h

slot_below : (o u : Option Uid) → IsBelow (bound_outcome o) (bound_outcome (or_else o u))
slot_below None u = unlinked
slot_below (Some v) u = itself

-- ---- all expressions

module _ (world : World) where
  abbrev filled : World
  filled = filled_world world

  mutual
    pub eval_below : (e : Source) → IsBelow (eval world e) (eval filled e)
    eval_below (lit m x) = itself
    eval_below (var m x) = itself
    eval_below (slot m x) = slot_below (world.slots x) (own_slots world.request x)
    eval_below (unknown m n) = itself
    eval_below (if_then_else m x y z) = choose_below _ _ _ _ _ _ (eval_below x) (eval_below y) (eval_below z)
    eval_below (and m x y) = and_below _ _ _ _ (eval_below x) (eval_below y)
    eval_below (or m x y) = or_below _ _ _ _ (eval_below x) (eval_below y)
    eval_below (unary m o x) = unary_below o _ _ (eval_below x)
    eval_below (binary m o x y) = on_both (binary_outcome world.store world.functions o) _ _ _ _ (eval_below x) (eval_below y)
    eval_below (call m f ts) = on_all (λ vs. called (call_value world.functions.calls f vs)) _ _ (all_below ts)
    eval_below (get_attr m x a) = below_by (λ o. on_value o (get world.store a)) refl _ _ (eval_below x)
    eval_below (has_attr m x a) = below_by (λ o. of_test (then_test o (has_test world.store a))) refl _ _ (eval_below x)
    eval_below (ext_has_attr m x a xs) = below_by (λ o. of_test (then_test o (path_test world.store a xs))) refl _ _ (eval_below x)
    eval_below (like m x p) = below_by (λ o. on_value o (like_outcome p)) refl _ _ (eval_below x)
    eval_below (is_type m x n) = below_by (λ o. on_value o (is_of n)) refl _ _ (eval_below x)
    eval_below (set_of m ts) = on_all (λ vs. Gives (VSet vs)) _ _ (all_below ts)
    eval_below (record_of m fs) = record_below _ _ (fields_below fs)

    all_below : (ts : Trees Written) → AreBelow (eval_all world ts) (eval_all filled ts)
    all_below no_trees = themselves
    all_below (tree t ts) = more_below _ _ _ _ (eval_below t) (all_below ts)

    fields_below : (fs : Fields Written) → EntriesBelow (eval_fields world fs) (eval_fields filled fs)
    fields_below no_fields = same_entries
    fields_below (field k t fs) = more_entries_below k _ _ _ _ (eval_below t) (fields_below fs)

-- ---- the facts about the second outcome hold of the first

failed_has : (found : Option Ty) (f : Failure) → HasFound found (Fails f)
failed_has None f = tt
failed_has (Some t) f = tt

module _ (S : TypedTree → Type 0) (Known : Caps → Type 0) (R : Type 0) where
  part_below : (o o' : Outcome) (found : Option Ty) (c : Caps) → IsBelow o o' → ToldPart S Known R o' found c → ToldPart S Known R o found c
  part_below o o' found c itself h = h
  part_below o o' found c unlinked h = record {
    typed = failed_has found UnlinkedSlot;
    known_if_true = λ n. absurd n;
    known_at_true = h.known_at_true;
  }

  pub told_below : (o o' : Outcome) (J : Judgment) → IsBelow o o' → Told S Known R o' J → Told S Known R o J
  told_below o o' J b i = record {
    derivations = λ t c x d s. part_below o o' (Some t) c b (i.derivations t c x d s);
    operands = λ r env ts l g c x es p. part_below o o' (annotation x) c b (i.operands r env ts l g c x es p);
  }
