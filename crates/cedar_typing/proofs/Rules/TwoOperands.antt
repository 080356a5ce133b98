-- Forms with two operands in the program: the steps of typing the operands are those of inference.
use Rattle.std.proofs.Common.{◌≡◌, Bool, true, false, ◌&&◌, not, List, [], ◌∷◌, ◌++◌, Option, Some, None, option_map, refl, sym, ◌∙◌, ap}
use Rattle.std.proofs.Common.{subst, append-nil}
use Rattle.std.specs.Prelude.{is_some}
use Rattle.cedar_types.specs.declared.base.location.Loc.{Loc}
use Rattle.cedar_types.specs.Types.{Ty}
use Rattle.cedar_types.specs.Expressions.View.{Written}
use Rattle.cedar_types.specs.Errors.{Finding}
use Rattle.cedar_typing.specs.Capabilities.{Caps}
use Rattle.cedar_typing.specs.Eager.{Expectation, Form, first_expectation, later_expectations}
use Rattle.cedar_typing.specs.Infer.Eager.{Operands, all_typed, cut_after, OperandsAndErrors, infer_none, expect_operand, with_operand}
use Rattle.cedar_typing.specs.Infer.Eager.{infer_rest, infer_one_more, infer_form, infer_two_operands}
use Rattle.cedar_typing.specs.Infer.Parts.{limit, Part, AnswerAndErrors}
use Rattle.cedar_typing.specs.TypeEnv.{TypeEnv}
use Rattle.cedar_typing.specs.TypedExpr.{Source}
use Rattle.cedar_typing.specs.Views.{part_of, form_of_two, two_parts}
use Rattle.cedar_typing.specs.declared.typecheck.answer.Part.{Part as TypedPart}
use Rattle.cedar_typing.specs.declared.typecheck.rules.two_operands.TwoOperands.{TwoOperands}
use Rattle.cedar_typing.specs.declared.typecheck.rules.two_operands.TwoOperands.TheVariants.{Equality, Comparison, Arithmetic, Membership}
use Rattle.cedar_typing.specs.declared.typecheck.rules.two_operands.TwoOperands.TheVariants.{Contains, ContainsSeveral, HasTag, GetTag}

-- ---- facts about all of these forms

pub form_at : (env : TypeEnv) (m : Written) (prior : Caps) (a b : Source) (form : TwoOperands) → (form_of_two env m prior a b form).at ≡ m
form_at env m prior a b Equality = refl
form_at env m prior a b (Comparison o) = refl
form_at env m prior a b (Arithmetic o) = refl
form_at env m prior a b Membership = refl
form_at env m prior a b Contains = refl
form_at env m prior a b (ContainsSeveral o) = refl
form_at env m prior a b HasTag = refl
form_at env m prior a b GetTag = refl

no_errors_at_limit : (env : TypeEnv) (m : Written) (prior : Caps) (a b : Source) (form : TwoOperands)
    (ts : List (Option Ty)) → (form_of_two env m prior a b form).at_limit ts ≡ []
no_errors_at_limit env m prior a b Equality ts = refl
no_errors_at_limit env m prior a b (Comparison o) ts = refl
no_errors_at_limit env m prior a b (Arithmetic o) ts = refl
no_errors_at_limit env m prior a b Membership ts = refl
no_errors_at_limit env m prior a b Contains ts = refl
no_errors_at_limit env m prior a b (ContainsSeveral o) ts = refl
no_errors_at_limit env m prior a b HasTag ts = refl
no_errors_at_limit env m prior a b GetTag ts = refl

pub is_limit : (env : TypeEnv) (m : Written) (prior : Caps) (a b : Source) (form : TwoOperands)
    (ts : List (Option Ty)) (es : List Finding)
    → ◌≡◌ {A = AnswerAndErrors} (limit, es ++ (form_of_two env m prior a b form).at_limit ts) (limit, es)
is_limit env m prior a b form ts es =
    ap (λ fs. (limit, fs)) (ap (λ fs. es ++ fs) (no_errors_at_limit env m prior a b form ts) ∙ append-nil es)

-- ---- the operands, from left to right

-- the result of the right operand alone
abbrev right_part : Option Part → Operands
right_part None = cut_after []
right_part (Some q) = all_typed q.succeeded (q.tree ∷ [])

right_is : (goes_on : Bool) (q : Option Part) (es : List Finding) → infer_rest goes_on q es infer_none ≡ (right_part q, es)
right_is goes_on (Some q) es = refl
right_is true None es = refl
right_is false None es = refl

-- if the left operand is too deep, the form must go on
abbrev IsTypedOn : Bool → Option Part → Type 0
IsTypedOn goes_on (Some p) = Unit {0}
IsTypedOn true None = Unit {0}
IsTypedOn false None = ⊥

both_are : (goes_on : Bool) (p q : Option Part) (es es' : List Finding) (later : List Finding → OperandsAndErrors)
    → IsTypedOn goes_on p → later es ≡ (right_part q, es') → infer_rest goes_on p es later ≡ (two_parts p q, es')
both_are goes_on (Some p) (Some q) es es' later n h = ap (λ (o : OperandsAndErrors). (with_operand p o.0, o.1)) h
both_are goes_on (Some p) None es es' later n h = ap (λ (o : OperandsAndErrors). (with_operand p o.0, o.1)) h
both_are true None q es es' later n h = ap (λ (o : OperandsAndErrors). (cut_after [], o.1)) h
both_are false None q es es' later n h = absurd n

-- the test of the program: b tells whether the left operand is too deep, and g whether the form
-- goes on
pub typed_on : (b g goes_on : Bool) (o : Option TypedPart) → is_some o ≡ not b → goes_on ≡ g → (b && not g) ≡ false
    → IsTypedOn goes_on (option_map part_of o)
typed_on b g goes_on (Some p) e h k = tt
typed_on b true goes_on None e h k = subst (λ z. IsTypedOn z None) (sym h) tt
typed_on true false goes_on None e h k = cc
typed_on false false goes_on None e h k = cc

pub stops : (b g goes_on : Bool) (o : Option TypedPart) → is_some o ≡ not b → goes_on ≡ g → (b && not g) ≡ true
    → (goes_on ≡ false) × (option_map part_of o ≡ None)
stops false g goes_on o e h k = cc
stops true true goes_on o e h k = cc
stops true false goes_on (Some p) e h k = cc
stops true false goes_on None e h k = (h, refl)

module _ (env : TypeEnv) (f : Form) (l l' : Option Loc) (left right : List Finding → AnswerAndErrors)
    (q q' : Expectation) (first : first_expectation f.expects ≡ q)
    (second : first_expectation (later_expectations f.expects) ≡ q') where
  abbrev later : List Finding → OperandsAndErrors
  later = infer_one_more env f.goes_on (first_expectation (later_expectations f.expects)) l' right infer_none

  -- both operands are typed, or too deep
  pub two_typed : (p p' : Option Part) (es es' es'' : List Finding) → IsTypedOn f.goes_on p
      → expect_operand env q l (left es) ≡ (p, es') → expect_operand env q' l' (right es') ≡ (p', es'')
      → infer_two_operands env f l l' left right es ≡ infer_form f (two_parts p p') es''
  two_typed p p' es es' es'' n h h' =
      let right_typed : later es' ≡ (right_part p', es'') =
      (λ i. infer_rest f.goes_on ((ap (λ z. expect_operand env z l' (right es')) second ∙ h') i).0
      ((ap (λ z. expect_operand env z l' (right es')) second ∙ h') i).1 infer_none)
      ∙ right_is f.goes_on p' es'' in
      ap (λ (o : OperandsAndErrors). infer_form f o.0 o.1)
      ((λ i. infer_rest f.goes_on ((ap (λ z. expect_operand env z l (left es)) first ∙ h) i).0
      ((ap (λ z. expect_operand env z l (left es)) first ∙ h) i).1 later)
      ∙ both_are f.goes_on p p' es' es'' later n right_typed)

  -- the left operand is too deep, and the right one is not typed
  pub two_stopped : (p : Option Part) (es es' : List Finding) → (f.goes_on ≡ false) × (p ≡ None)
      → expect_operand env q l (left es) ≡ (p, es')
      → infer_two_operands env f l l' left right es ≡ (limit, es' ++ f.at_limit [])
  two_stopped p es es' n h =
      ap (λ (o : OperandsAndErrors). infer_form f o.0 o.1)
      ((λ i. infer_rest (n.0 i) ((ap (λ z. expect_operand env z l (left es)) first ∙ h ∙ (λ j. (n.1 j, es'))) i).0
      ((ap (λ z. expect_operand env z l (left es)) first ∙ h ∙ (λ j. (n.1 j, es'))) i).1 later))
