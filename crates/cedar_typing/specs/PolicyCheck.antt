-- The check of a policy's condition in one environment.
use Rattle.std.specs.Prelude.{◌≡◌, Bool, true, false, List, [], Option, Some, None, IsPermutation, if◌then◌else◌}
use Rattle.cedar_types.specs.declared.base.types.BoolType.TheVariants.{False}
use Rattle.cedar_types.specs.Types.{Ty, TBool}
use Rattle.cedar_types.specs.Errors.{Finding}
use Rattle.cedar_typing.specs.Capabilities.{Caps, no_caps}
use Rattle.cedar_typing.specs.Infer.{infer}
use Rattle.cedar_typing.specs.Infer.Parts.{Part, PartAndErrors, expect}
use Rattle.cedar_typing.specs.Judgments.{Operand}
use Rattle.cedar_typing.specs.Rules.{rules, Derives, Cuts}
use Rattle.cedar_typing.specs.Setting.{Setting}
use Rattle.cedar_typing.specs.TypeTests.{accepts, bool_types, is_false, annotation_passes}
use Rattle.cedar_typing.specs.TypedExpr.{Source, TypedTree, annotation, place_of}
pub mod Outcome
pub mod Trees

-- the verdict of a check: a success with the typed condition; a condition that is never true, with its errors; or errors
-- alone
pub data Verdict : Type 0 where
  succeeds : TypedTree → Verdict
  irrelevant : List Finding → TypedTree → Verdict
  fails : List Finding → Verdict

-- a failed condition with the results that the check uses: a condition must be a Boolean
abbrev pub RefusedCondition : Setting → Source → TypedTree → List Finding → Type 0
RefusedCondition s e e' es =
    (c : Caps) × Operand s.env bool_types (place_of e) (rules s e no_caps 1) false c e' es

-- the check of a condition, at depth 1 and without prior capabilities. Each error counts as often as it is found; the order
-- of errors does not count
pub data PolicyChecks (s : Setting) (e : Source) : Verdict → Type 0 where
  -- the condition has a Boolean type other than False
  check_true : (t : Ty) (c : Caps) {e' : TypedTree}
      → Derives s e no_caps 1 t c e' → accepts bool_types t ≡ true → is_false t ≡ false
      → PolicyChecks s e (succeeds e')
  -- the condition has the type False
  check_false : (c : Caps) {e' : TypedTree}
      → Derives s e no_caps 1 (TBool False) c e' → PolicyChecks s e (irrelevant [] e')
  -- the condition has failed, and is False all the same
  check_refused_false : {e' : TypedTree} {es es' : List Finding}
      → RefusedCondition s e e' es → annotation_passes is_false (annotation e') ≡ true
      → IsPermutation es es' → PolicyChecks s e (irrelevant es' e')
  -- the condition has failed, with another type or with none
  check_refused : {e' : TypedTree} {es es' : List Finding}
      → RefusedCondition s e e' es → annotation_passes is_false (annotation e') ≡ false
      → IsPermutation es es' → PolicyChecks s e (fails es')
  -- a part of the condition is too deep
  check_cut : {es es' : List Finding}
      → Cuts s e no_caps 1 es → IsPermutation es es' → PolicyChecks s e (fails es')

-- two verdicts are the same: of one kind, with the same typed condition, and with the same errors in any order
pub data SameVerdict : Verdict → Verdict → Type 0 where
  same_success : {e' : TypedTree} → SameVerdict (succeeds e') (succeeds e')
  same_irrelevant : {e' : TypedTree} {es es' : List Finding}
      → IsPermutation es es' → SameVerdict (irrelevant es e') (irrelevant es' e')
  same_failure : {es es' : List Finding} → IsPermutation es es' → SameVerdict (fails es) (fails es')

-- ---- the check as a function

abbrev pub verdict_if : Bool → TypedTree → List Finding → Verdict
verdict_if succeeded e es = if succeeded then succeeds e else fails es

abbrev pub part_verdict : Option Part → List Finding → Verdict
part_verdict None es = fails es
part_verdict (Some p) es =
    if annotation_passes is_false (annotation p.tree) then irrelevant es p.tree
    else verdict_if p.succeeded p.tree es

abbrev pub out_verdict : PartAndErrors → Verdict
out_verdict o = part_verdict o.0 o.1

abbrev pub policy_check : Setting → Source → Verdict
policy_check s e = out_verdict (expect s.env bool_types (place_of e) (infer s e no_caps 1 []))
