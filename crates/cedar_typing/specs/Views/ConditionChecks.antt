-- Views of the check of a condition: its verdict, and its typed condition, even if it fails.
use Rattle.std.specs.Prelude.{Option, Some, option_map, map}
use Rattle.cedar_types.specs.Errors.{finding_of}
use Rattle.cedar_typing.specs.declared.typecheck.condition_checks.ConditionCheck.{ConditionCheck}
use Rattle.cedar_typing.specs.declared.typecheck.condition_checks.ConditionCheck.TheVariants.{Success, Irrelevant, Fail}
use Rattle.cedar_typing.specs.PolicyCheck.{Verdict, succeeds, irrelevant, fails}
use Rattle.cedar_typing.specs.TypedExpr.{TypedTree, typed_tree}

abbrev pub verdict_seen : ConditionCheck → Verdict
verdict_seen (Success e) = succeeds (typed_tree e)
verdict_seen (Irrelevant es e) = irrelevant (map finding_of es.items) (typed_tree e)
verdict_seen (Fail es e) = fails (map finding_of es.items)

abbrev pub tree_seen : ConditionCheck → Option TypedTree
tree_seen (Success e) = Some (typed_tree e)
tree_seen (Irrelevant es e) = Some (typed_tree e)
tree_seen (Fail es e) = option_map typed_tree e
