-- Sets do not go wrong.
use Rattle.std.proofs.Common.{◌≡◌, inl, inr, Bool, true, false, List, [], ◌∷◌, Option, Some, None, if◌then◌else◌, refl, sym, ap, subst}
use Rattle.cedar_types.specs.declared.base.types.ValidationMode.{ValidationMode}
use Rattle.cedar_types.specs.Types.{Ty, TSet}
use Rattle.cedar_types.specs.Expressions.Tree.{set_of, Trees, no_trees, tree}
use Rattle.cedar_types.specs.Expressions.View.{Written}
use Rattle.cedar_types.specs.Types.Bounds.{is_strict, list_lub}
use Rattle.cedar_types.specs.Errors.{empty_set_forbidden}
use Rattle.cedar_types.specs.Values.{Value, VSet, no_values, AllValues, HasType}
use Rattle.cedar_typing.specs.Eager.{Decision, refuses}
use Rattle.cedar_typing.specs.Evaluation.Conformance.{IsOneOf}
use Rattle.cedar_typing.specs.Evaluation.Eval.{eval, eval_all}
use Rattle.cedar_typing.specs.Evaluation.Outcomes.{Outcomes, GiveAll, FailAt, more_outcomes, on_values}
use Rattle.cedar_typing.specs.Evaluation.World.{World, Outcome, Gives, Fails}
use Rattle.cedar_typing.specs.Rules.Sets.{with_type, all_types, set_by_bound, set_of_types, set_decides, set_form}
use Rattle.cedar_typing.specs.Rules.Eager.{Judgments, eager_rules}
use Rattle.cedar_typing.specs.Soundness.{HasFound, IsAllowed, IsSafe}
use Rattle.cedar_typing.specs.TypeEnv.{TypeEnv, finding}
use Rattle.cedar_typing.proofs.Basics.{some_is}
use Rattle.cedar_typing.proofs.Bounds.Lists.{bound_has}
use Rattle.cedar_typing.proofs.KeptTypes.Sets.{found_kept}
use Rattle.cedar_typing.proofs.KeptTypes.Eager.{decided_type}
use Rattle.cedar_typing.proofs.KeptTypes.Keeping.{AreKept, AllKept}
use Rattle.cedar_typing.proofs.KeptTypes.Types.{KeptIn}
use Rattle.cedar_typing.proofs.Basics.Members.{AreAll}
use Rattle.cedar_typing.proofs.Soundness.Capabilities.{hold_none}
use Rattle.cedar_typing.proofs.Soundness.Eager.{AllHave, AllSafe, GiftIsSound, SoundKeptForm, SoundsAll, form_sounds}
use Rattle.cedar_typing.proofs.Soundness.Parts.{Sounds}

-- ---- the types that were found

-- each outcome's value, if there is one, has the type at its place
abbrev pub AllTyped : List Ty → List Outcome → Type 0
AllTyped [] [] = Unit {0}
AllTyped [] (o ∷ os) = ⊥
AllTyped (t ∷ ts) [] = ⊥
AllTyped (t ∷ ts) (o ∷ os) = HasFound (Some t) o × AllTyped ts os

next_typed : (t : Option Ty) (found : Option (List Ty)) (us : List Ty) (o : Outcome) (os : List Outcome) → HasFound t o
    → ((vs : List Ty) → found ≡ Some vs → AllTyped vs os) → with_type t found ≡ Some us → AllTyped us (o ∷ os)
next_typed None None us o os h f e = cc
next_typed None (Some vs) us o os h f e = cc
next_typed (Some t) None us o os h f e = cc
next_typed (Some t) (Some vs) us o os h f e = subst (λ y. AllTyped y (o ∷ os)) (some_is e) (h, f vs refl)

pub found_typed : (ts : List (Option Ty)) (us : List Ty) (os : List Outcome) → AllHave ts os → all_types ts ≡ Some us → AllTyped us os
found_typed [] us [] h e = subst (λ y. AllTyped y []) (some_is e) tt
found_typed [] us (o ∷ os) h e = absurd h
found_typed (t ∷ ts) us [] h e = absurd h
found_typed (t ∷ ts) us (o ∷ os) h e = next_typed t (all_types ts) us o os h.0 (λ vs. found_typed ts vs os h.1) e

-- ---- bounds of several types

-- all values have the type u
abbrev AllOf : Ty → List Outcome → Type 0
AllOf u [] = Unit {0}
AllOf u (o ∷ os) = HasFound (Some u) o × AllOf u os

has_also : (s u : Ty) → ((v : Value) → HasType s v → HasType u v) → (o : Outcome) → HasFound (Some s) o → HasFound (Some u) o
has_also s u f (Gives v) h = f v h
has_also s u f (Fails g) h = tt

each_has : (u : Ty) (ts : List Ty) → ((s : Ty) → IsOneOf s ts → (v : Value) → HasType s v → HasType u v)
    → (os : List Outcome) → AllTyped ts os → AllOf u os
each_has u [] f [] h = tt
each_has u [] f (o ∷ os) h = absurd h
each_has u (t ∷ ts) f [] h = absurd h
each_has u (t ∷ ts) f (o ∷ os) h = (has_also t u (f t (inl refl)) o h.0, each_has u ts (λ s i. f s (inr i)) os h.1)

each_kept : (strictly : Bool) (ts : List Ty) → AreKept (KeptIn strictly) ts → AreAll (KeptIn strictly) ts
each_kept strictly [] n s i = absurd i
each_kept strictly (t ∷ ts) n s (inl e) = subst (KeptIn strictly) (sym e) n.0
each_kept strictly (t ∷ ts) n s (inr i) = each_kept strictly ts n.1 s i

all_have : (strictly : Bool) (m : ValidationMode) → is_strict m ≡ strictly → (u : Ty) (ts : List Ty)
    → list_lub m ts ≡ Some u → AreKept (KeptIn strictly) ts → (os : List Outcome) → AllTyped ts os → AllOf u os
all_have strictly m strict u ts e n os h = each_has u ts (λ s i v. bound_has strictly m strict v ts u s e (each_kept strictly ts n) i) os h

-- ---- the outcomes of the elements

abbrev pub outcomes : World → Trees Written → List Outcome
outcomes world no_trees = []
outcomes world (tree t ts) = eval world t ∷ outcomes world ts

-- the outcomes together: all their values, or the first failure
abbrev pub together : List Outcome → Outcomes
together [] = GiveAll no_values
together (o ∷ os) = more_outcomes o (together os)

pub evaluated_together : (world : World) (ts : Trees Written) → together (outcomes world ts) ≡ eval_all world ts
evaluated_together world no_trees = refl
evaluated_together world (tree t ts) = ap (more_outcomes (eval world t)) (evaluated_together world ts)

-- the outcomes together fail in an allowed way, if they fail
abbrev pub AreSafe : Outcomes → Type 0
AreSafe (GiveAll vs) = Unit {0}
AreSafe (FailAt f) = IsAllowed f

next_safe : (o : Outcome) (os : Outcomes) → IsSafe o → AreSafe os → AreSafe (more_outcomes o os)
next_safe (Gives v) (GiveAll vs) g k = tt
next_safe (Gives v) (FailAt f) g k = k
next_safe (Fails f) os g k = g

pub together_safe : (os : List Outcome) → AllSafe os → AreSafe (together os)
together_safe [] h = tt
together_safe (o ∷ os) h = next_safe o (together os) h.0 (together_safe os h.1)

-- ---- the set of their values

abbrev set_from : Outcomes → Outcome
set_from os = on_values os (λ vs. Gives (VSet vs))

-- each value has the type
abbrev EachHas : Ty → Outcomes → Type 0
EachHas u (GiveAll vs) = AllValues (HasType u) vs
EachHas u (FailAt f) = Unit {0}

next_each : (u : Ty) (o : Outcome) (os : Outcomes) → HasFound (Some u) o → EachHas u os → EachHas u (more_outcomes o os)
next_each u (Gives v) (GiveAll vs) g k = (g, k)
next_each u (Gives v) (FailAt f) g k = tt
next_each u (Fails f) os g k = tt

together_has : (u : Ty) (os : List Outcome) → AllOf u os → EachHas u (together os)
together_has u [] h = tt
together_has u (o ∷ os) h = next_each u o (together os) h.0 (together_has u os h.1)

set_has : (u : Ty) (os : Outcomes) → EachHas u os → HasFound (Some (TSet u)) (set_from os)
set_has u (GiveAll vs) h = h
set_has u (FailAt f) h = tt

set_safe : (os : Outcomes) → AreSafe os → IsSafe (set_from os)
set_safe (GiveAll vs) h = tt
set_safe (FailAt f) h = h

-- ---- the form

module _ (strictly : Bool) (world : World) (env : TypeEnv) (strict : is_strict env.mode ≡ strictly) (m : Written) (os : List Outcome) where
  abbrev whole : Outcome
  whole = set_from (together os)

  -- the table's decision on a set without elements
  abbrev without_elements : Bool → Decision
  without_elements b = if b then refuses None (finding env m.place empty_set_forbidden ∷ []) else set_of_types env m.place (Some [])

  bound_typed : (us : List Ty) (bound : Option Ty) → AllTyped us os → AreKept (KeptIn strictly) us → list_lub env.mode us ≡ bound
      → HasFound (decided_type (set_by_bound env m.place us bound)) whole
  bound_typed us (Some u) h n e = set_has u (together os) (together_has u os (all_have strictly env.mode strict u us e n os h))
  bound_typed us None h n e = tt

  types_typed : (ts : List (Option Ty)) (found : Option (List Ty)) → AllHave ts os → AllKept (KeptIn strictly) ts → all_types ts ≡ found
      → HasFound (decided_type (set_of_types env m.place found)) whole
  types_typed ts None h n e = tt
  types_typed ts (Some us) h n e =
      bound_typed us (list_lub env.mode us) (found_typed ts us os h e) (found_kept (KeptIn strictly) ts us n e) refl

  empty_typed : (b : Bool) → AllHave [] os → HasFound (decided_type (without_elements b)) whole
  empty_typed true h = tt
  empty_typed false h = types_typed [] (Some []) h tt refl

  decided_typed : (ts : List (Option Ty)) → AllHave ts os → AllKept (KeptIn strictly) ts
      → HasFound (decided_type (set_decides env m.place ts)) whole
  decided_typed [] h n = empty_typed (is_strict env.mode) h
  decided_typed (t ∷ ts) h n = types_typed (t ∷ ts) (all_types (t ∷ ts)) h n refl

  bound_gift : (us : List Ty) (bound : Option Ty) → GiftIsSound world os whole (set_by_bound env m.place us bound)
  bound_gift us (Some u) = record {
    safe = λ h. set_safe (together os) (together_safe os h);
    caps_hold_if_true = λ n. hold_none world;
    caps_hold_at_true = λ n. hold_none world;
  }
  bound_gift us None = tt

  types_gift : (found : Option (List Ty)) → GiftIsSound world os whole (set_of_types env m.place found)
  types_gift None = tt
  types_gift (Some us) = bound_gift us (list_lub env.mode us)

  empty_gift : (b : Bool) → GiftIsSound world os whole (without_elements b)
  empty_gift true = tt
  empty_gift false = types_gift (Some [])

  decided_gift : (ts : List (Option Ty)) → GiftIsSound world os whole (set_decides env m.place ts)
  decided_gift [] = empty_gift (is_strict env.mode)
  decided_gift (t ∷ ts) = types_gift (all_types (t ∷ ts))

  set_sound : SoundKeptForm strictly world (set_form env m) os whole
  set_sound = record { typed = λ ts a n. decided_typed ts a.have n; succeeds = λ ts a n f. decided_gift ts; failed = λ t h. h }

-- ---- evaluation

pub set_sounds : (strictly : Bool) (world : World) (env : TypeEnv) → is_strict env.mode ≡ strictly → (m : Written)
    (ts : Trees Written) (Js : Judgments)
    → SoundsAll strictly world [] (outcomes world ts) Js → Sounds world (eval world (set_of m ts)) (eager_rules (set_form env m) Js)
set_sounds strictly world env strict m ts Js operands =
    let os = outcomes world ts in
    subst (λ z. Sounds world (set_from z) (eager_rules (set_form env m) Js)) (evaluated_together world ts)
    (form_sounds strictly world (set_form env m) (λ k xs. refl) os (set_from (together os))
    (set_sound strictly world env strict m os) Js operands)
