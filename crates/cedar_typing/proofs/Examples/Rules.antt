-- The examples of the rules of typing compute to the results that are stated.
pub mod Entities
pub mod Calls
pub mod Nesting
pub mod Operators
use Rattle.std.proofs.Common.{◌≡◌, ℕ, Bool, false, List, [], ◌∷◌, map, Option, Some, refl, sym, ◌∙◌, ap, subst}
use Rattle.std.specs.Prelude.{codes}
use Rattle.cedar_types.specs.declared.base.types.BoolType.TheVariants.{AnyBool}
use Rattle.cedar_types.specs.declared.base.types.ValidationMode.TheVariants.{Strict}
use Rattle.cedar_types.specs.Expressions.Tree.{Shape}
use Rattle.cedar_types.specs.Capability.{attribute}
use Rattle.cedar_types.specs.Types.{Ty, TBool}
use Rattle.cedar_types.specs.Errors.{Finding}
use Rattle.cedar_typing.specs.Capabilities.{Caps, no_caps}
use Rattle.cedar_typing.specs.Examples.Expressions.{principal, numbered}
use Rattle.cedar_typing.specs.Examples.Rules.{TypesAsIn, FailsWithIn, Failing, EachFails, AllFail, IsTypedIn, IsRefusedKnowingIn, CutsAt, ChecksAs, HandsOnNeither, typed_false}
use Rattle.cedar_typing.specs.Examples.Rules.Records.{RecordTyping}
use Rattle.cedar_typing.specs.Examples.Rules.Sets.{SetTyping}
use Rattle.cedar_typing.specs.Examples.Rules.Conditional.{ConditionalTyping}
use Rattle.cedar_typing.specs.Examples.Rules.Leaves.{LeafTyping}
use Rattle.cedar_typing.specs.Examples.Rules.ShortCircuit.{AndTyping, OrTyping}
use Rattle.cedar_typing.specs.Examples.Rules.Unary.{UnaryTyping}
use Rattle.cedar_typing.specs.Examples.World.{sample}
use Rattle.cedar_typing.specs.Infer.{infer}
use Rattle.cedar_typing.specs.Infer.Parts.{success, failure, limit, Answer, AnswerAndErrors}
use Rattle.cedar_typing.specs.PolicyCheck.{Verdict, PolicyChecks, policy_check}
use Rattle.cedar_typing.specs.Rules.{rules, Derives, Recovers, Cuts}
use Rattle.cedar_typing.specs.Setting.{Setting}
use Rattle.cedar_typing.specs.TypedExpr.{Source, TypedTree, annotation}
use Rattle.cedar_typing.proofs.Agreement.Induction.{agrees}
use Rattle.cedar_typing.proofs.Agreement.Parts.{Answers, a_derived, a_recovered, a_cut}
use Rattle.cedar_typing.proofs.Basics.{some_is, first_is, rest_is}
use Rattle.cedar_typing.proofs.Policies.Check.{checked}

module _ (s : Setting) (e : Source) (p : Caps) (d : ℕ) where
  abbrev Rules : Answer → List Finding → Type 0
  Rules = Answers (rules s e p d)

  by_judge : (a : Answer) (es : List Finding) → infer s e p d [] ≡ (a, es) → Rules a es
  by_judge a es h =
      let f = (agrees s e p d).found [] in
      let q : ◌≡◌ {A = AnswerAndErrors} (f.answer, f.added) (a, es) = sym f.is ∙ h in
      let P : AnswerAndErrors → Type 0 = λ o. Rules o.0 o.1 in
      subst P q f.rules

  of_success : (t : Ty) (c : Caps) (x : TypedTree) (es : List Finding) → annotation x ≡ Some t → Rules (success x c) es → Derives s e p d t c x
  of_success t c x es m (a_derived {t = u} h) =
      let same : u ≡ t = some_is (sym ((agrees s e p d).marks u c x h) ∙ m) in
      let P : Ty → Type 0 = λ u. Derives s e p d u c x in
      subst P same h

  of_failure : (x : TypedTree) (es : List Finding) → Rules (failure x) es → Recovers s e p d x es
  of_failure x es (a_recovered h) = h

  of_limit : (es : List Finding) → Rules limit es → Cuts s e p d es
  of_limit es (a_cut h) = h

  pub has : (t : Ty) (c : Caps) (x : TypedTree) → annotation x ≡ Some t → infer s e p d [] ≡ (success x c, []) → Derives s e p d t c x
  has t c x m h = of_success t c x [] m (by_judge (success x c) [] h)

  pub recovers : (x : TypedTree) (es : List Finding) → infer s e p d [] ≡ (failure x, es) → Recovers s e p d x es
  recovers x es h = of_failure x es (by_judge (failure x) es h)

  pub cuts : (es : List Finding) → infer s e p d [] ≡ (limit, es) → Cuts s e p d es
  cuts es h = of_limit es (by_judge limit es h)

-- the type that a typed expression has, beside the result of typing
abbrev Outcome : Type 0
Outcome = Option Ty × AnswerAndErrors

pub types_as : {s : Setting} {p : Caps} {e : Shape} {t : Ty} {c : Caps} {x : TypedTree}
    → ◌≡◌ {A = Outcome} (annotation x, infer s (numbered e) p 1 []) (Some t, (success x c, [])) → TypesAsIn s p e t c x
types_as {s} {p} {e} {t} {c} {x} h =
    record { has = has s (numbered e) p 1 t c x (ap (λ (o : Outcome). o.0) h) (ap (λ (o : Outcome). o.1) h) }

pub fails_with : {s : Setting} {e : Shape} {x : TypedTree} {es : List Finding} → infer s (numbered e) no_caps 1 [] ≡ (failure x, es) → FailsWithIn s e x es
fails_with {s} {e} {x} {es} h = record { recovers = recovers s (numbered e) no_caps 1 x es h }

-- the result of typing an expression that fails
abbrev typing_of : Failing → AnswerAndErrors
typing_of x = infer (sample Strict) (numbered x.0) no_caps 1 []

abbrev failing : Failing → AnswerAndErrors
failing x = (failure x.1.0, x.1.1)

each_fails : (xs : List Failing) → map typing_of xs ≡ map failing xs → EachFails xs
each_fails [] h = tt
each_fails (x ∷ xs) h = (fails_with (first_is h), each_fails xs (rest_is h))

pub all_fail : {xs : List Failing} → map typing_of xs ≡ map failing xs → AllFail xs
all_fail {xs} h = record { each = each_fails xs h }

pub cuts_at : {d : ℕ} {e : Shape} {es : List Finding} → infer (sample Strict) (numbered e) no_caps d [] ≡ (limit, es) → CutsAt d e es
cuts_at {d} {e} {es} h = record { cuts = cuts (sample Strict) (numbered e) no_caps d es h }

-- the typed copy of an expression, whatever its answer
abbrev copy_of : Answer → TypedTree
copy_of (success x c) = x
copy_of (failure x) = x
copy_of limit = typed_false 1

abbrev copy_in : Setting → Caps → Shape → TypedTree
copy_in s p e = copy_of (infer s (numbered e) p 1 []).0

abbrev outcome : Setting → Caps → Shape → Outcome
outcome s p e = (annotation (copy_in s p e), infer s (numbered e) p 1 [])

pub is_typed : {s : Setting} {e : Shape} {t : Ty} → outcome s no_caps e ≡ (Some t, (success (copy_in s no_caps e) no_caps, []))
    → IsTypedIn s e t
is_typed {s} {e} {t} h = record {
  copy = copy_in s no_caps e;
  has = has s (numbered e) no_caps 1 t no_caps (copy_in s no_caps e) (ap (λ (o : Outcome). o.0) h) (ap (λ (o : Outcome). o.1) h);
}

pub is_refused : {s : Setting} {p : Caps} {e : Shape} {t : Option Ty} {es : List Finding}
    → outcome s p e ≡ (t, (failure (copy_in s p e), es)) → IsRefusedKnowingIn s p e t es
is_refused {s} {p} {e} {t} {es} h = record {
  copy = copy_in s p e;
  stays = ap (λ (o : Outcome). o.0) h;
  recovers = recovers s (numbered e) p 1 (copy_in s p e) es (ap (λ (o : Outcome). o.1) h);
}

pub checks_as : {e : Shape} {v : Verdict} → policy_check (sample Strict) (numbered e) ≡ v → ChecksAs e v
checks_as {e} {v} h = record { checks = subst (PolicyChecks (sample Strict) (numbered e)) h (checked (sample Strict) (numbered e)) }

-- the capabilities that a success produces, and its typed copy
abbrev handed : Answer → Caps
handed (success x c) = c
handed (failure x) = no_caps
handed limit = no_caps

abbrev answer : Shape → Answer
answer e = (infer (sample Strict) (numbered e) no_caps 1 []).0

-- whether it is produced that the principal has the mark, and that it has an age
abbrev Told : Type 0
Told = Bool × Bool

abbrev told : Shape → Told
told e = (handed (answer e) (attribute principal (codes "vip")), handed (answer e) (attribute principal (codes "age")))

neither : {e : Shape} → ◌≡◌ {A = Outcome × Told} (outcome (sample Strict) no_caps e, told e)
    ((Some (TBool AnyBool), (success (copy_of (answer e)) (handed (answer e)), [])), (false, false)) → HandsOnNeither e
neither {e} h = record {
  caps = handed (answer e);
  typed = copy_of (answer e);
  has =
      has (sample Strict) (numbered e) no_caps 1 (TBool AnyBool) (handed (answer e)) (copy_of (answer e))
      (ap (λ (o : Outcome × Told). o.0.0) h) (ap (λ (o : Outcome × Told). o.0.1) h);
  no_mark = ap (λ (o : Outcome × Told). o.1.0) h;
  no_age = ap (λ (o : Outcome × Told). o.1.1) h;
}

pub leaf_typing : LeafTyping
leaf_typing = record {
  literal_bool = types_as refl;
  literal_long = types_as refl;
  literal_string = types_as refl;
  literal_entity = types_as refl;
  unknown_entity = fails_with refl;
  unknown_entity_partial = types_as refl;
  variable_principal = types_as refl;
  variable_action = types_as refl;
  variable_hidden = types_as refl;
  variable_missing = fails_with refl;
  slot_linked = types_as refl;
  slot_free = types_as refl;
  unknown_value = fails_with refl;
}

pub and_typing : AndTyping
and_typing = record {
  and_left = types_as refl;
  and_left_drops = types_as refl;
  and_guarded = types_as refl;
  and_right = types_as refl;
  and_true = types_as refl;
  and_right_true = types_as refl;
  and_hands_on_left = types_as refl;
  and_hands_on_right = types_as refl;
  and_fails = all_fail refl;
}

pub or_typing : OrTyping
or_typing = record {
  or_left = types_as refl;
  or_open = types_as refl;
  or_hands_on = types_as refl;
  or_neither = neither refl;
  or_right_true = types_as refl;
  or_right_known = types_as refl;
  or_right_false = types_as refl;
  or_left_false = types_as refl;
  or_both_false = types_as refl;
  or_both_false_right = types_as refl;
  or_unguarded = fails_with refl;
  or_fails = all_fail refl;
}

pub unary_typing : UnaryTyping
unary_typing = record {
  not_true = types_as refl;
  not_false = types_as refl;
  not_open = types_as refl;
  not_refused = fails_with refl;
  not_failed = fails_with refl;
  not_missing = fails_with refl;
}

pub conditional_typing : ConditionalTyping
conditional_typing = record {
  if_true = types_as refl;
  if_false = types_as refl;
  if_false_drops = types_as refl;
  if_open = types_as refl;
  if_neither = neither refl;
  if_known = types_as refl;
  if_unbound = fails_with refl;
  if_missing = fails_with refl;
  if_test_missing = fails_with refl;
  if_failed_branch = fails_with refl;
  if_refused = fails_with refl;
  if_true_failed = fails_with refl;
  if_false_failed = fails_with refl;
}

pub set_typing : SetTyping
set_typing = record {
  of_one_type = is_typed refl;
  of_their_bound = is_typed refl;
  unbound = is_refused refl;
  without_elements = is_refused refl;
  without_elements_permissive = is_typed refl;
  element_missing = is_refused refl;
  element_failed = is_refused refl;
}

pub record_typing : RecordTyping
record_typing = record {
  of_both = is_typed refl;
  value_missing = is_refused refl;
  value_failed = is_refused refl;
  keys_descend = is_refused refl;
  key_twice = is_refused refl;
}
