-- Answers with a Boolean type: of parts, of operands, and of forms whose table gives Booleans.
use Rattle.std.proofs.Common.{◌≡◌, Bool, true, false, ◌&&◌, if◌then◌else◌, List, [], ◌∷◌, ◌++◌, Option, Some, None, refl, sym, ◌∙◌, ap, subst}
use Rattle.cedar_types.specs.declared.base.location.Loc.{Loc}
use Rattle.cedar_types.specs.declared.base.types.BoolType.{BoolType}
use Rattle.cedar_types.specs.declared.base.types.BoolType.TheVariants.{AnyBool, False, True}
use Rattle.cedar_types.specs.Errors.{Finding, unexpected_type}
use Rattle.cedar_types.specs.Expressions.View.{Written}
use Rattle.cedar_types.specs.Types.{Ty, TBool}
use Rattle.cedar_types.specs.Types.Order.{in_order}
use Rattle.cedar_typing.specs.Capabilities.{Caps, no_caps}
use Rattle.cedar_typing.specs.Eager.{Expectation, Decision, gives, refuses, Form, first_expectation, later_expectations}
use Rattle.cedar_typing.specs.Infer.Eager.{all_typed, infer_none, expect_operand, with_operand, infer_rest, infer_one_more, infer_form, infer_decided, infer_one_operand, infer_two_operands}
use Rattle.cedar_typing.specs.Infer.Leaves.{infer_leaf}
use Rattle.cedar_typing.specs.Infer.Parts.{Answer, success, failure, limit, Part, AnswerAndErrors, PartAndErrors, part_with, answer_if}
use Rattle.cedar_typing.specs.Infer.Parts.{as_failed, as_failed_untyped, expect_type, expect}
use Rattle.cedar_typing.specs.TypeEnv.{TypeEnv, finding}
use Rattle.cedar_typing.specs.TypeTests.{accepts, bool_types}
use Rattle.cedar_typing.specs.TypedExpr.{TypedTree, Mark, annotation}

-- ---- Booleans

abbrev pub IsBool : Option Ty → Type 0
IsBool o = (k : BoolType) × (o ≡ Some (TBool k))

-- an answer with a Boolean type, whether it is a success or not
abbrev pub IsBoolAnswer : Answer → Type 0
IsBoolAnswer (success x c) = IsBool (annotation x)
IsBoolAnswer (failure x) = IsBool (annotation x)
IsBoolAnswer limit = ⊥

-- a part with a Boolean type
pub record IsBoolPart (r : PartAndErrors) : Type 0 where
  pub part : Part
  pub errors : List Finding
  pub is : r ≡ (Some part, errors)
  pub kind : BoolType
  pub kind_of : annotation part.tree ≡ Some (TBool kind)

pub bool_accepted : (env : TypeEnv) (l : Option Loc) (p : Part) (es : List Finding) (o : Option Ty) (k : BoolType)
    → o ≡ Some (TBool k) → expect_type env bool_types l p es o ≡ (Some p, es)
bool_accepted env l p es o k e = ap (expect_type env bool_types l p es) e ∙ by_kind k
  where
    by_kind : (j : BoolType) → expect_type env bool_types l p es (Some (TBool j)) ≡ (Some p, es)
    by_kind AnyBool = refl
    by_kind False = refl
    by_kind True = refl

pub bool_part : (env : TypeEnv) (l : Option Loc) (a : Answer) (es : List Finding) → IsBoolAnswer a
    → IsBoolPart (expect env bool_types l (a, es))
bool_part env l (success x c) es h = record {
  part = part_with true c x;
  errors = es;
  is = bool_accepted env l (part_with true c x) es (annotation x) h.0 h.1;
  kind = h.0;
  kind_of = h.1;
}
bool_part env l (failure x) es h = record {
  part = part_with false no_caps x;
  errors = es;
  is = bool_accepted env l (part_with false no_caps x) es (annotation x) h.0 h.1;
  kind = h.0;
  kind_of = h.1;
}
bool_part env l limit es h = absurd h

pub answer_bool : (b : Bool) (x : TypedTree) (c : Caps) → IsBool (annotation x) → IsBoolAnswer (answer_if b x c)
answer_bool true x c h = h
answer_bool false x c h = h

-- ---- operands

-- the answer is not the limit
abbrev pub IsThere : Answer → Type 0
IsThere (success x c) = Unit {0}
IsThere (failure x) = Unit {0}
IsThere limit = ⊥

pub leaf_there : (o : Option Ty) (m : Written) (node : Mark → TypedTree) → IsThere (infer_leaf o m node)
leaf_there None m node = tt
leaf_there (Some t) m node = tt

record HasPart (r : PartAndErrors) : Type 0 where
  part : Part
  errors : List Finding
  is : r ≡ (Some part, errors)

typed_there : (env : TypeEnv) (ts : List Ty) (l : Option Loc) (p : Part) (es : List Finding) (o : Option Ty)
    → HasPart (expect_type env ts l p es o)
typed_there env ts l p es None = record { part = as_failed p; errors = es; is = refl }
typed_there env ts l p es (Some t) = go (accepts ts t)
  where
    go : (b : Bool) → HasPart (if b then (Some p, es) else (Some (as_failed_untyped p), es ++ finding env l (unexpected_type (in_order ts) t) ∷ []))
    go true = record { part = p; errors = es; is = refl }
    go false = record { part = as_failed_untyped p; errors = es ++ finding env l (unexpected_type (in_order ts) t) ∷ []; is = refl }

operand_there : (env : TypeEnv) (q : Expectation) (l : Option Loc) (a : Answer) (es : List Finding) → IsThere a
    → HasPart (expect_operand env q l (a, es))
operand_there env None l (success x c) es h = record { part = part_with true c x; errors = es; is = refl }
operand_there env None l (failure x) es h = record { part = part_with false no_caps x; errors = es; is = refl }
operand_there env (Some ts) l (success x c) es h = typed_there env ts l (part_with true c x) es (annotation x)
operand_there env (Some ts) l (failure x) es h = typed_there env ts l (part_with false no_caps x) es (annotation x)
operand_there env q l limit es h = absurd h

-- ---- forms

abbrev pub IsBoolDecision : Decision → Type 0
IsBoolDecision (gives t c) = (k : BoolType) × (t ≡ TBool k)
IsBoolDecision (refuses o fs) = IsBool o

pub record IsBoolForm (f : Form) : Type 0 where
  pub decided : (ts : List (Option Ty)) → IsBoolDecision (f.decides ts)
  pub failed : (k : BoolType) → (j : BoolType) × (f.type_if_failed (TBool k) ≡ TBool j)
  pub marked : (m : Mark) (xs : List TypedTree) → annotation (f.node m xs) ≡ m.ty

decided_bool : (f : Form) → IsBoolForm f → (b : Bool) (xs : List TypedTree) (es : List Finding) (d : Decision) → IsBoolDecision d
    → IsBoolAnswer (infer_decided f b xs es d).0
decided_bool f h true xs es (gives t c) k = (k.0, h.marked _ xs ∙ ap Some k.1)
decided_bool f h false xs es (gives t c) k =
    let j = h.failed k.0 in
    (j.0, h.marked _ xs ∙ ap Some (ap f.type_if_failed k.1 ∙ j.1))
decided_bool f h b xs es (refuses o fs) k = (k.0, h.marked _ xs ∙ k.1)

module _ (env : TypeEnv) (f : Form) (h : IsBoolForm f) where
  pub one_bool : (l : Option Loc) (operand : List Finding → AnswerAndErrors) (es : List Finding) → IsThere (operand es).0
      → IsBoolAnswer (infer_one_operand env f l operand es).0
  one_bool l operand es there =
      let q = first_expectation f.expects in
      let a = operand_there env q l (operand es).0 (operand es).1 there in
      let e : infer_one_more env f.goes_on q l operand infer_none es ≡ (all_typed (true && a.part.succeeded) (a.part.tree ∷ []), a.errors) =
      ap (λ z. infer_rest f.goes_on z.0 z.1 infer_none) a.is in
      subst (λ o. IsBoolAnswer (infer_form f o.0 o.1).0) (sym e)
      (decided_bool f h (true && a.part.succeeded) (a.part.tree ∷ []) a.errors _ (h.decided (annotation a.part.tree ∷ [])))

  pub two_bool : (l l' : Option Loc) (left right : List Finding → AnswerAndErrors) (es : List Finding)
      → ((es' : List Finding) → IsThere (left es').0) → ((es' : List Finding) → IsThere (right es').0)
      → IsBoolAnswer (infer_two_operands env f l l' left right es).0
  two_bool l l' left right es there there' =
      let q = first_expectation f.expects in
      let q' = first_expectation (later_expectations f.expects) in
      let rest = infer_one_more env f.goes_on q' l' right infer_none in
      let a = operand_there env q l (left es).0 (left es).1 (there es) in
      let b = operand_there env q' l' (right a.errors).0 (right a.errors).1 (there' a.errors) in
      let later : rest a.errors ≡ (all_typed (true && b.part.succeeded) (b.part.tree ∷ []), b.errors) =
      ap (λ z. infer_rest f.goes_on z.0 z.1 infer_none) b.is in
      let e : infer_one_more env f.goes_on q l left rest es
      ≡ (all_typed ((true && b.part.succeeded) && a.part.succeeded) (a.part.tree ∷ b.part.tree ∷ []), b.errors) =
      ap (λ z. infer_rest f.goes_on z.0 z.1 rest) a.is ∙ ap (λ z. (with_operand a.part z.0, z.1)) later in
      subst (λ o. IsBoolAnswer (infer_form f o.0 o.1).0) (sym e)
      (decided_bool f h ((true && b.part.succeeded) && a.part.succeeded) (a.part.tree ∷ b.part.tree ∷ []) b.errors _
      (h.decided (annotation a.part.tree ∷ annotation b.part.tree ∷ [])))
