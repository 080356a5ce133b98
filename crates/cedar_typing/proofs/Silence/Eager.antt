-- Each failure has an error: forms whose operands are all typed first.
use Rattle.std.proofs.Common.{◌≡◌, ℕ, zero, suc, Bool, true, false, List, [], ◌∷◌, ◌++◌, Option, Some, None, refl, subst}
use Rattle.cedar_types.specs.declared.base.location.Loc.{Loc}
use Rattle.cedar_types.specs.Types.{Ty}
use Rattle.cedar_types.specs.Errors.{Finding}
use Rattle.cedar_types.specs.Lemmas.Comparisons.{and_left, and_right}
use Rattle.cedar_typing.specs.Capabilities.{Caps}
use Rattle.cedar_typing.specs.Eager.{Expectation, Decision, gives, refuses, Form, first_expectation, later_expectations, types_found}
use Rattle.cedar_typing.specs.Judgments.{Judgment}
use Rattle.cedar_typing.specs.Rules.Eager.{Judgments, NoneGiven, none_given, no_operands, ExpectedOperand, also_given, one_more}
use Rattle.cedar_typing.specs.Rules.Eager.{operand_failed, table_refused, eager_rules, one_operand_rules, two_operand_rules}
use Rattle.cedar_typing.specs.TypeEnv.{TypeEnv}
use Rattle.cedar_typing.specs.TypedExpr.{TypedTree, annotation}
use Rattle.cedar_typing.proofs.Silence.Parts.{IsLoud, loud_before, loud_after, loud_of_two_back, IsKnown, Knows, Loud, part_loud}
use Rattle.cedar_typing.proofs.Silence.Parts.{part_known, operand_loud, operand_known}

-- ---- tables

-- the decision gives a type, or refuses with an error
abbrev pub IsLoudDecision : Decision → Type 0
IsLoudDecision (gives t c) = Unit {0}
IsLoudDecision (refuses t fs) = IsLoud fs

-- all types were found, they are n or more, and none is Never
abbrev pub AreKnown : ℕ → List (Option Ty) → Type 0
AreKnown zero [] = Unit {0}
AreKnown (suc n) [] = ⊥
AreKnown zero (t ∷ ts) = IsKnown t × AreKnown zero ts
AreKnown (suc n) (t ∷ ts) = IsKnown t × AreKnown n ts

-- the table gives a type for n or more known types, or refuses them with an error
abbrev pub LoudForm : ℕ → Form → Type 0
LoudForm n f = (ts : List (Option Ty)) → AreKnown n ts → IsLoudDecision (f.decides ts)

-- ---- operands, one after another

module _ (J : Judgment) (loud : Loud J) (env : TypeEnv) where
  expected_loud : (q : Expectation) (l : Option Loc) (b : Bool) (c : Caps) (x : TypedTree) (es : List Finding)
      → ExpectedOperand env q l J b c x es → b ≡ false → IsLoud es
  expected_loud None l b c x es p h = part_loud J loud b c x es p h
  expected_loud (Some ts) l b c x es p h = operand_loud J loud env ts l b c x es p h

  expected_known : (q : Expectation) (l : Option Loc) (b : Bool) (c : Caps) (x : TypedTree) (es : List Finding)
      → ExpectedOperand env q l J b c x es → b ≡ true → IsKnown (annotation x)
  expected_known None l b c x es p h = part_known J loud b c x es p h
  expected_known (Some ts) l b c x es p h = operand_known J loud env ts l b c x es p h

-- operands have an error if one of them failed; else their types, n or more, are known
pub record LoudAll (n : ℕ) (Js : Judgments) : Type 0 where
  pub failures : (b : Bool) (xs : List TypedTree) (es : List Finding) → Js.give b xs es → b ≡ false → IsLoud es
  pub known : (b : Bool) (xs : List TypedTree) (es : List Finding) → Js.give b xs es → b ≡ true → AreKnown n (types_found xs)

no_failures : (b : Bool) (xs : List TypedTree) (es : List Finding) → NoneGiven b xs es → b ≡ false → IsLoud es
no_failures b xs es none_given h = cc

none_known : (b : Bool) (xs : List TypedTree) (es : List Finding) → NoneGiven b xs es → b ≡ true → AreKnown zero (types_found xs)
none_known b xs es none_given h = tt

pub none_loud : LoudAll zero no_operands
none_loud = record { failures = no_failures; known = none_known }

-- the number of operands after the first of n, if there are any
abbrev pub others_of : ℕ → ℕ
others_of zero = zero
others_of (suc n) = n

first_known : (n : ℕ) (t : Option Ty) (ts : List (Option Ty)) → IsKnown t → AreKnown (others_of n) ts → AreKnown n (t ∷ ts)
first_known zero t ts h k = (h, k)
first_known (suc n) t ts h k = (h, k)

module _ (env : TypeEnv) (goes_on : Bool) (q : Expectation) (l : Option Loc) (J : Judgment) (operand : Loud J)
    (n : ℕ) (Js : Judgments) (others : LoudAll (others_of n) Js) where
  abbrev More : Judgments
  More = one_more env goes_on q l J Js

  more_failures : (b : Bool) (xs : List TypedTree) (es : List Finding) → More.give b xs es → b ≡ false → IsLoud es
  more_failures b xs es (also_given {succeeded = s} {later = s'} {c = c} {x = x} {xs = ys} {es = before} {es' = after} p hs) h =
      loud_of_two_back s s' before after (expected_loud J operand env q l s c x before p) (others.failures s' ys after hs) h

  more_known : (b : Bool) (xs : List TypedTree) (es : List Finding) → More.give b xs es → b ≡ true → AreKnown n (types_found xs)
  more_known b xs es (also_given {succeeded = s} {later = s'} {c = c} {x = x} {xs = ys} {es = before} {es' = after} p hs) h =
      first_known n (annotation x) (types_found ys)
      (expected_known J operand env q l s c x before p (and_right s' s h))
      (others.known s' ys after hs (and_left s' s h))

  pub more_loud : LoudAll n More
  more_loud = record { failures = more_failures; known = more_known }

-- ---- a form

module _ (f : Form) (n : ℕ) (form : LoudForm n f) (Js : Judgments) (operands : LoudAll n Js) where
  abbrev Whole : Judgment
  Whole = eager_rules f Js

  refused_loud : (b : Bool) (xs : List TypedTree) (es : List Finding) (t : Option Ty) (fs : List Finding)
      → Js.give b xs es → f.decides (types_found xs) ≡ refuses t fs → IsLoud (es ++ fs)
  refused_loud false xs es t fs h e = loud_before es fs (operands.failures false xs es h refl)
  refused_loud true xs es t fs h e = loud_after es fs (subst IsLoudDecision e (form (types_found xs) (operands.known true xs es h refl)))

  form_failures : (x : TypedTree) (es : List Finding) → Whole.recovers x es → IsLoud es
  form_failures x es (operand_failed {xs = xs} h e) = operands.failures false xs es h refl
  form_failures x es (table_refused {succeeded = s} {t = t} {fs = fs} {xs = xs} {es = before} h e) = refused_loud s xs before t fs h e

  pub form_loud : Knows Whole → Loud Whole
  form_loud s = record { failures = form_failures; single = s }

-- a form with one operand
pub one_operand_loud : (env : TypeEnv) (f : Form) → LoudForm 1 f → (l : Option Loc) (J : Judgment) → Loud J
    → Knows (one_operand_rules env f l J) → Loud (one_operand_rules env f l J)
one_operand_loud env f form l J a s =
    form_loud f 1 form _ (more_loud env f.goes_on (first_expectation f.expects) l J a 1 no_operands none_loud) s

-- a form with two operands
pub two_operands_loud : (env : TypeEnv) (f : Form) → LoudForm 2 f → (l l' : Option Loc) (J J' : Judgment) → Loud J
    → Loud J' → Knows (two_operand_rules env f l l' J J') → Loud (two_operand_rules env f l l' J J')
two_operands_loud env f form l l' J J' a b s =
    let right = more_loud env f.goes_on (first_expectation (later_expectations f.expects)) l' J' b 1 no_operands none_loud in
    form_loud f 2 form _ (more_loud env f.goes_on (first_expectation f.expects) l J a 2 _ right) s
