-- Forms whose operands are all typed first find kept types.
use Rattle.std.proofs.Common.{◌≡◌, Bool, false, List, Option, Some, None, sym, ap, subst}
use Rattle.cedar_types.specs.declared.base.location.Loc.{Loc}
use Rattle.cedar_types.specs.Types.{Ty}
use Rattle.cedar_types.specs.Errors.{Finding}
use Rattle.cedar_typing.specs.Capabilities.{Caps}
use Rattle.cedar_typing.specs.Eager.{Expectation, Decision, gives, refuses, Form, first_expectation, later_expectations, types_found}
use Rattle.cedar_typing.specs.Judgments.{Judgment}
use Rattle.cedar_typing.specs.Rules.Eager.{Judgments, NoneDerived, none_derived, NoneGiven, none_given, no_operands, ExpectedOperand}
use Rattle.cedar_typing.specs.Rules.Eager.{also_derived, also_given, one_more, eager_typed, operand_failed, table_refused, eager_rules}
use Rattle.cedar_typing.specs.Rules.Eager.{one_operand_rules, two_operand_rules}
use Rattle.cedar_typing.specs.TypeEnv.{TypeEnv}
use Rattle.cedar_typing.specs.TypedExpr.{TypedTree, Mark, mark_of, typed, typed_as, annotation}
use Rattle.cedar_typing.proofs.Agreement.Parts.{Marks}
use Rattle.cedar_typing.proofs.KeptTypes.Keeping.{HasKept, AllKept}
use Rattle.cedar_typing.proofs.KeptTypes.Rules.{KeepsTypes, part_kept, operand_kept}

-- the type of a table's decision, of a success or of a failure
abbrev pub decided_type : Decision → Option Ty
decided_type (gives t c) = Some t
decided_type (refuses t fs) = t

module _ (Kept : Ty → Type 0) where
  pub expected_kept : (J : Judgment) → KeepsTypes Kept J → (env : TypeEnv) (q : Expectation) (l : Option Loc)
      (succeeded : Bool) (c : Caps) (x : TypedTree) (es : List Finding)
      → ExpectedOperand env q l J succeeded c x es → HasKept Kept (annotation x)
  expected_kept J n env None l succeeded c x es p = part_kept Kept J n succeeded c x es p
  expected_kept J n env (Some ts) l succeeded c x es p = operand_kept Kept J n env ts l succeeded c x es p

  -- ---- operands, one after another

  pub record KeepsAll (Js : Judgments) : Type 0 where
    pub derivations : (xs : List TypedTree) → Js.derive xs → AllKept Kept (types_found xs)
    pub givings : (b : Bool) (xs : List TypedTree) (es : List Finding) → Js.give b xs es → AllKept Kept (types_found xs)

  no_derivations : (xs : List TypedTree) → NoneDerived xs → AllKept Kept (types_found xs)
  no_derivations xs none_derived = tt

  no_givings : (b : Bool) (xs : List TypedTree) (es : List Finding) → NoneGiven b xs es → AllKept Kept (types_found xs)
  no_givings b xs es none_given = tt

  pub none_kept : KeepsAll no_operands
  none_kept = record { derivations = no_derivations; givings = no_givings }

  module _ (env : TypeEnv) (goes_on : Bool) (q : Expectation) (l : Option Loc) (J : Judgment)
      (operand : KeepsTypes Kept J) (Js : Judgments) (others : KeepsAll Js) where
    abbrev More : Judgments
    More = one_more env goes_on q l J Js

    more_derivations : (xs : List TypedTree) → More.derive xs → AllKept Kept (types_found xs)
    more_derivations xs (also_derived {t = t} {c = c} {x = x} {xs = ys} d h ds) =
        (subst (HasKept Kept) (sym (operand.marks t c x d)) (operand.derivations t c x d), others.derivations ys ds)

    more_givings : (b : Bool) (xs : List TypedTree) (es : List Finding) → More.give b xs es → AllKept Kept (types_found xs)
    more_givings b xs es
        (also_given {succeeded = s} {later = s'} {c = c} {x = x} {xs = ys} {es = before} {es' = after} p hs) =
        (expected_kept J operand env q l s c x before p, others.givings s' ys after hs)

    pub more_kept : KeepsAll More
    more_kept = record { derivations = more_derivations; givings = more_givings }

  -- ---- a form

  -- a table gives kept types if its operands have kept types
  abbrev pub KeptForm : Form → Type 0
  KeptForm f = (ts : List (Option Ty)) → AllKept Kept ts → HasKept Kept (decided_type (f.decides ts))

  -- the type of the whole is kept if an operand failed
  abbrev pub KeptIfFailed : Form → Type 0
  KeptIfFailed f = (t : Ty) → Kept t → Kept (f.type_if_failed t)

  module _ (f : Form) (node_mark : (k : Mark) (xs : List TypedTree) → mark_of (f.node k xs) ≡ k) (form : KeptForm f)
      (failed : KeptIfFailed f) where
    module _ (Js : Judgments) (operands : KeepsAll Js) where
      abbrev Whole : Judgment
      Whole = eager_rules f Js

      by_decision : (xs : List TypedTree) (z : Decision) → AllKept Kept (types_found xs)
          → f.decides (types_found xs) ≡ z → HasKept Kept (decided_type z)
      by_decision xs z h e = subst (λ y. HasKept Kept (decided_type y)) e (form (types_found xs) h)

      form_derived : (t : Ty) (c : Caps) (x : TypedTree) → Whole.derives t c x → Kept t
      form_derived t c x (eager_typed {xs = xs} ds e) = by_decision xs (gives t c) (operands.derivations xs ds) e

      at_root : (k : Mark) (xs : List TypedTree) → HasKept Kept k.ty → HasKept Kept (annotation (f.node k xs))
      at_root k xs h = subst (HasKept Kept) (sym (ap (λ (z : Mark). z.ty) (node_mark k xs))) h

      form_recovered : (x : TypedTree) (es : List Finding) → Whole.recovers x es → HasKept Kept (annotation x)
      form_recovered x es (operand_failed {t = t} {c = c} {xs = xs} h e) =
          at_root (typed (f.type_if_failed t) f.at) xs
          (failed t (by_decision xs (gives t c) (operands.givings false xs es h) e))
      form_recovered x es (table_refused {succeeded = s} {t = t} {fs = fs} {xs = xs} {es = before} h e) =
          at_root (typed_as t f.at) xs (by_decision xs (refuses t fs) (operands.givings s xs before h) e)

      pub form_kept : Marks Whole.derives → KeepsTypes Kept Whole
      form_kept h = record { derivations = form_derived; recoveries = form_recovered; marks = h }

    -- a form with one operand finds kept types
    pub one_operand_kept : (env : TypeEnv) (l : Option Loc) (J : Judgment) → KeepsTypes Kept J
        → Marks (one_operand_rules env f l J).derives → KeepsTypes Kept (one_operand_rules env f l J)
    one_operand_kept env l J s h = form_kept _ (more_kept env f.goes_on (first_expectation f.expects) l J s no_operands none_kept) h

    -- a form with two operands finds kept types
    pub two_operands_kept : (env : TypeEnv) (l l' : Option Loc) (J J' : Judgment) → KeepsTypes Kept J
        → KeepsTypes Kept J' → Marks (two_operand_rules env f l l' J J').derives
        → KeepsTypes Kept (two_operand_rules env f l l' J J')
    two_operands_kept env l l' J J' s s' h =
        let right = more_kept env f.goes_on (first_expectation (later_expectations f.expects)) l' J' s' no_operands none_kept in
        form_kept _ (more_kept env f.goes_on (first_expectation f.expects) l J s _ right) h
