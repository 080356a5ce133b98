-- The check as a function follows the rules.
use Rattle.std.proofs.Common.{◌≡◌, Bool, true, false, List, Option, refl, sym, subst}
use Rattle.std.specs.Prelude.{if◌then◌else◌, IsPermutation}
use Rattle.std.proofs.lemmas.List.Sorted.{IsPermutation-refl}
use Rattle.cedar_types.specs.declared.base.types.BoolType.TheVariants.{False}
use Rattle.cedar_types.specs.Types.{Ty, TBool}
use Rattle.cedar_types.specs.Errors.{Finding}
use Rattle.cedar_typing.specs.Capabilities.{Caps, no_caps}
use Rattle.cedar_typing.specs.Infer.Parts.{Part}
use Rattle.cedar_typing.specs.Judgments.{Operand}
use Rattle.cedar_typing.specs.PolicyCheck.{irrelevant, PolicyChecks, verdict_if, part_verdict, out_verdict, policy_check, check_true}
use Rattle.cedar_typing.specs.PolicyCheck.{check_false, check_refused_false, check_refused, check_cut}
use Rattle.cedar_typing.specs.Rules.{rules, Derives}
use Rattle.cedar_typing.specs.Setting.{Setting}
use Rattle.cedar_typing.specs.TypeTests.{bool_types, is_false, annotation_passes}
use Rattle.cedar_typing.specs.TypedExpr.{Source, TypedTree, annotation, place_of}
use Rattle.cedar_typing.proofs.Agreement.Induction.{agrees}
use Rattle.cedar_typing.proofs.Agreement.Parts.{is_given, is_cut, OperandAnswer, good_operand, says_at}
use Rattle.cedar_typing.proofs.Policies.Trees.{of_inferred}
use Rattle.cedar_typing.proofs.TypeTests.{false_type}

module _ (s : Setting) (e : Source) where
  abbrev Condition : Bool → Caps → TypedTree → List Finding → Type 0
  Condition = Operand s.env bool_types (place_of e) (rules s e no_caps 1)

  same : (es : List Finding) → IsPermutation es es
  same es = IsPermutation-refl es

  false_checked : (succeeded : Bool) (c : Caps) (e' : TypedTree) (es : List Finding) → Condition succeeded c e' es
      → annotation_passes is_false (annotation e') ≡ true → PolicyChecks s e (irrelevant es e')
  false_checked false c e' es o n = check_refused_false (c, o) n (same es)
  false_checked true c e' es o n =
      let g = good_operand s.env bool_types (place_of e) (rules s e no_caps 1) c e' es (agrees s e no_caps 1).marks o in
      let q : g.ty ≡ TBool False = false_type g.ty (says_at is_false _ _ _ g.mark n) in
      let Q : Ty → Type 0 = λ t. Derives s e no_caps 1 t c e' in
      let P : List Finding → Type 0 = λ l. PolicyChecks s e (irrelevant l e') in
      subst P (sym g.silent) (check_false c (subst Q q g.derived))

  true_checked : (succeeded : Bool) (c : Caps) (e' : TypedTree) (es : List Finding) → Condition succeeded c e' es
      → annotation_passes is_false (annotation e') ≡ false → PolicyChecks s e (verdict_if succeeded e' es)
  true_checked false c e' es o n = check_refused (c, o) n (same es)
  true_checked true c e' es o n =
      let g = good_operand s.env bool_types (place_of e) (rules s e no_caps 1) c e' es (agrees s e no_caps 1).marks o in
      check_true g.ty c g.derived g.passes (says_at is_false _ _ _ g.mark n)

  by_mark : (succeeded : Bool) (c : Caps) (e' : TypedTree) (es : List Finding) (b : Bool)
      → Condition succeeded c e' es → annotation_passes is_false (annotation e') ≡ b
      → PolicyChecks s e (if b then irrelevant es e' else verdict_if succeeded e' es)
  by_mark succeeded c e' es true o n = false_checked succeeded c e' es o n
  by_mark succeeded c e' es false o n = true_checked succeeded c e' es o n

  by_answer : (g : Option Part) (es : List Finding)
      → OperandAnswer s.env bool_types (place_of e) (rules s e no_caps 1) g es
      → PolicyChecks s e (part_verdict g es)
  by_answer g es (is_cut h) = check_cut h (same es)
  by_answer g es (is_given {succeeded = succeeded} {c = c} {e = e'} o) =
      by_mark succeeded c e' es (annotation_passes is_false (annotation e')) o refl

  pub checked : PolicyChecks s e (policy_check s e)
  checked = of_inferred s e (λ o. PolicyChecks s e (out_verdict o)) by_answer
