-- Refinement of judgments for forms whose operands are all typed first: an answer without an error
-- in one is an answer in the other.
use Rattle.std.proofs.Common.{◌≡◌, Bool, false, List, [], Option, Some, None, refl, ◌∙◌, ap}
use Rattle.cedar_types.specs.declared.base.location.Loc.{Loc}
use Rattle.cedar_types.specs.declared.base.expressions.operators.BinaryOp.{BinaryOp}
use Rattle.cedar_types.specs.Expressions.View.{Written}
use Rattle.cedar_types.specs.Types.{Ty}
use Rattle.cedar_types.specs.Errors.{Finding}
use Rattle.cedar_typing.specs.Capabilities.{Caps}
use Rattle.cedar_typing.specs.Eager.{Expectation, Decision, Form, first_expectation, later_expectations, types_found}
use Rattle.cedar_typing.specs.Judgments.{Judgment}
use Rattle.cedar_typing.specs.Rules.Eager.{Judgments, no_operands, ExpectedOperand, also_derived, also_given}
use Rattle.cedar_typing.specs.Rules.Eager.{one_more, eager_typed, operand_failed, table_refused, eager_rules, one_operand_rules}
use Rattle.cedar_typing.specs.Rules.Eager.{two_operand_rules}
use Rattle.cedar_typing.specs.Rules.Binary.{binary_form}
use Rattle.cedar_typing.specs.Rules.Sets.{errors_of}
use Rattle.cedar_typing.specs.TypeEnv.{TypeEnv}
use Rattle.cedar_typing.specs.TypedExpr.{Source, TypedTree}
use Rattle.cedar_typing.proofs.KeptTypes.Eager.{KeepsAll, none_kept, more_kept}
use Rattle.cedar_typing.proofs.KeptTypes.Keeping.{AllKept}
use Rattle.cedar_typing.proofs.KeptTypes.Rules.{KeepsTypes}
use Rattle.cedar_typing.proofs.Refinement.Parts.{nil_left, nil_right, Refines, part_refines, operand_refines}

-- ---- operands, one after another

pub record RefinesAll (Js Js' : Judgments) : Type 0 where
  pub derivations : (xs : List TypedTree) → Js.derive xs → Js'.derive xs
  pub givings : (b : Bool) (xs : List TypedTree) (es : List Finding) → Js.give b xs es → es ≡ [] → Js'.give b xs es

pub none_refine : RefinesAll no_operands no_operands
none_refine = record { derivations = λ xs h. h; givings = λ b xs es h q. h }

module _ (env env' : TypeEnv) (goes_on goes_on' : Bool) (q : Expectation) (l : Option Loc) (J J' : Judgment)
    (operand : Refines J J') (Js Js' : Judgments) (others : RefinesAll Js Js') where
  expected_refines : (q : Expectation) (b : Bool) (c : Caps) (x : TypedTree) (es : List Finding)
      → ExpectedOperand env q l J b c x es → es ≡ [] → ExpectedOperand env' q l J' b c x es
  expected_refines None b c x es p n = part_refines J J' operand b c x es p n
  expected_refines (Some ts) b c x es p n = operand_refines J J' operand env env' ts l b c x es p n

  abbrev More : Judgments
  More = one_more env goes_on q l J Js

  abbrev OtherMore : Judgments
  OtherMore = one_more env' goes_on' q l J' Js'

  more_derivations : (xs : List TypedTree) → More.derive xs → OtherMore.derive xs
  more_derivations xs (also_derived {t = t} {c = c} {x = x} {xs = ys} d h ds) =
      also_derived (operand.derivations t c x d) h (others.derivations ys ds)

  more_givings : (b : Bool) (xs : List TypedTree) (es : List Finding) → More.give b xs es → es ≡ [] → OtherMore.give b xs es
  more_givings b xs es
      (also_given {succeeded = s} {later = s'} {c = c} {x = x} {xs = ys} {es = before} {es' = after} p hs) n =
      also_given (expected_refines q s c x before p (nil_left before after n))
      (others.givings s' ys after hs (nil_right before after n))

  pub more_refine : RefinesAll More OtherMore
  more_refine = record { derivations = more_derivations; givings = more_givings }

-- ---- a form

-- the table agrees with that of f on kept types, wherever that of f has no error
abbrev pub SaysTheSame : (Ty → Type 0) → Form → (List (Option Ty) → Decision) → Type 0
SaysTheSame Kept f table = (ts : List (Option Ty)) → AllKept Kept ts → errors_of (f.decides ts) ≡ [] → table ts ≡ f.decides ts

-- the form with another table
abbrev pub with_table : Form → (List (Option Ty) → Decision) → (List (Option Ty) → List Finding) → Form
with_table f table limit = record f { decides = table; at_limit = limit }

-- the forms of an operator in two environments differ only in their table
pub operator_is : (env env' : TypeEnv) (m : Written) (prior : Caps) (a b : Source) (o : BinaryOp)
    → with_table (binary_form env m prior a b o) (binary_form env' m prior a b o).decides (binary_form env' m prior a b o).at_limit
    ≡ binary_form env' m prior a b o
operator_is env env' m prior a b BinaryOp.Eq = refl
operator_is env env' m prior a b o = refl

module _ (Kept : Ty → Type 0) (f : Form) (table : List (Option Ty) → Decision) (limit : List (Option Ty) → List Finding)
    (same : SaysTheSame Kept f table) where
  module _ (Js Js' : Judgments) (kept : KeepsAll Kept Js) (operands : RefinesAll Js Js') where
    abbrev Whole : Judgment
    Whole = eager_rules f Js

    abbrev OtherWhole : Judgment
    OtherWhole = eager_rules (with_table f table limit) Js'

    form_derived : (t : Ty) (c : Caps) (x : TypedTree) → Whole.derives t c x → OtherWhole.derives t c x
    form_derived t c x (eager_typed {xs = xs} ds e) =
        eager_typed (operands.derivations xs ds) (same (types_found xs) (kept.derivations xs ds) (ap errors_of e) ∙ e)

    form_silent : (x : TypedTree) (es : List Finding) → Whole.recovers x es → es ≡ [] → OtherWhole.recovers x es
    form_silent x es (operand_failed {xs = xs} h e) q =
        operand_failed (operands.givings false xs es h q) (same (types_found xs) (kept.givings false xs es h) (ap errors_of e) ∙ e)
    form_silent x es (table_refused {succeeded = s} {fs = fs} {xs = xs} {es = before} h e) q =
        table_refused (operands.givings s xs before h (nil_left before fs q))
        (same (types_found xs) (kept.givings s xs before h) (ap errors_of e ∙ nil_right before fs q) ∙ e)

    pub form_refines : Refines Whole OtherWhole
    form_refines = record { derivations = form_derived; silences = form_silent }

  -- a form with one operand
  pub one_operand_refines : (env env' : TypeEnv) (l : Option Loc) (J J' : Judgment) → KeepsTypes Kept J → Refines J J'
      → Refines (one_operand_rules env f l J) (one_operand_rules env' (with_table f table limit) l J')
  one_operand_refines env env' l J J' k r =
      let q = first_expectation f.expects in
      form_refines _ _ (more_kept Kept env f.goes_on q l J k no_operands (none_kept Kept))
      (more_refine env env' f.goes_on f.goes_on q l J J' r no_operands no_operands none_refine)

  -- a form with two operands
  pub two_operands_refine : (env env' : TypeEnv) (l l' : Option Loc) (J J' I I' : Judgment)
      → KeepsTypes Kept J → Refines J J' → KeepsTypes Kept I → Refines I I'
      → Refines (two_operand_rules env f l l' J I) (two_operand_rules env' (with_table f table limit) l l' J' I')
  two_operands_refine env env' l l' J J' I I' k r k' r' =
      let q = first_expectation f.expects in
      let q' = first_expectation (later_expectations f.expects) in
      form_refines _ _
      (more_kept Kept env f.goes_on q l J k _ (more_kept Kept env f.goes_on q' l' I k' no_operands (none_kept Kept)))
      (more_refine env env' f.goes_on f.goes_on q l J J' r _ _
      (more_refine env env' f.goes_on f.goes_on q' l' I I' r' no_operands no_operands none_refine))

-- a form whose table always has an error is refined by anything
module _ (f : Form) (loud : (ts : List (Option Ty)) → errors_of (f.decides ts) ≡ [] → ⊥) (Js : Judgments) (J' : Judgment) where
  loud_derived : (t : Ty) (c : Caps) (x : TypedTree) → (eager_rules f Js).derives t c x → J'.derives t c x
  loud_derived t c x (eager_typed {xs = xs} ds e) = absurd (loud (types_found xs) (ap errors_of e))

  loud_silent : (x : TypedTree) (es : List Finding) → (eager_rules f Js).recovers x es → es ≡ [] → J'.recovers x es
  loud_silent x es (operand_failed {xs = xs} h e) q = absurd (loud (types_found xs) (ap errors_of e))
  loud_silent x es (table_refused {fs = fs} {xs = xs} {es = before} h e) q =
      absurd (loud (types_found xs) (ap errors_of e ∙ nil_right before fs q))

  pub loud_refines : Refines (eager_rules f Js) J'
  loud_refines = record { derivations = loud_derived; silences = loud_silent }
