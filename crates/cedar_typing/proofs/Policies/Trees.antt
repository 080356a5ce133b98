-- The typed condition as a function follows the rules.
use Rattle.std.proofs.Common.{Bool, true, false, List, [], Option, Some, sym, subst}
use Rattle.std.specs.Prelude.{option_map}
use Rattle.cedar_types.specs.Errors.{Finding}
use Rattle.cedar_typing.specs.Capabilities.{Caps, no_caps}
use Rattle.cedar_typing.specs.Infer.{infer}
use Rattle.cedar_typing.specs.Infer.Parts.{Part, PartAndErrors, expect}
use Rattle.cedar_typing.specs.PolicyCheck.Trees.{HasTypedCondition, typed_condition, refused_condition, cut_condition, part_tree, out_tree, condition_tree}
use Rattle.cedar_typing.specs.Judgments.{Operand}
use Rattle.cedar_typing.specs.Rules.{rules}
use Rattle.cedar_typing.specs.Setting.{Setting}
use Rattle.cedar_typing.specs.TypeTests.{bool_types}
use Rattle.cedar_typing.specs.TypedExpr.{Source, TypedTree, place_of}
use Rattle.cedar_typing.proofs.Agreement.Induction.{agrees}
use Rattle.cedar_typing.proofs.Agreement.Parts.{is_given, is_cut, OperandAnswer, operand_found, good_operand}

module _ (s : Setting) (e : Source) where
  -- a statement on every operand that the rules allow holds of the one that is inferred
  pub of_inferred : (P : PartAndErrors → Type 0)
      → ((g : Option Part) (es : List Finding) → OperandAnswer s.env bool_types (place_of e) (rules s e no_caps 1) g es → P (g, es))
      → P (expect s.env bool_types (place_of e) (infer s e no_caps 1 []))
  of_inferred P by =
      let f = operand_found s.env bool_types (place_of e) (rules s e no_caps 1) (infer s e no_caps 1 []) []
      ((agrees s e no_caps 1).found []) in
      subst P (sym f.is) (by f.operand f.added f.rules)

  given : (succeeded : Bool) (c : Caps) (x : TypedTree) (es : List Finding)
      → Operand s.env bool_types (place_of e) (rules s e no_caps 1) succeeded c x es
      → HasTypedCondition s e (Some x)
  given false c x es o = refused_condition (c, o)
  given true c x es o =
      let g = good_operand s.env bool_types (place_of e) (rules s e no_caps 1) c x es (agrees s e no_caps 1).marks o in
      typed_condition g.ty c g.derived g.passes

  by_answer : (g : Option Part) (es : List Finding)
      → OperandAnswer s.env bool_types (place_of e) (rules s e no_caps 1) g es
      → HasTypedCondition s e (option_map part_tree g)
  by_answer g es (is_cut h) = cut_condition es h
  by_answer g es (is_given {succeeded = succeeded} {c = c} {e = x} o) = given succeeded c x es o

  pub has_typed_condition : HasTypedCondition s e (condition_tree s e)
  has_typed_condition = of_inferred (λ o. HasTypedCondition s e (out_tree o)) by_answer
