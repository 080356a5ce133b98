-- The typed condition of a check, even of one that fails.
use Rattle.std.specs.Prelude.{◌≡◌, true, List, [], Option, Some, None, option_map}
use Rattle.cedar_types.specs.Types.{Ty}
use Rattle.cedar_types.specs.Errors.{Finding}
use Rattle.cedar_typing.specs.Capabilities.{Caps, no_caps}
use Rattle.cedar_typing.specs.Infer.{infer}
use Rattle.cedar_typing.specs.Infer.Parts.{Part, PartAndErrors, expect}
use Rattle.cedar_typing.specs.PolicyCheck.{RefusedCondition}
use Rattle.cedar_typing.specs.Rules.{Derives, Cuts}
use Rattle.cedar_typing.specs.Setting.{Setting}
use Rattle.cedar_typing.specs.TypeTests.{accepts, bool_types}
use Rattle.cedar_typing.specs.TypedExpr.{Source, TypedTree, place_of}

-- the typed copy of a condition, by the same rules as its verdict in `PolicyChecks`
pub data HasTypedCondition (s : Setting) (e : Source) : Option TypedTree → Type 0 where
  -- the condition has a Boolean type
  typed_condition : (t : Ty) (c : Caps) {x : TypedTree}
      → Derives s e no_caps 1 t c x → accepts bool_types t ≡ true → HasTypedCondition s e (Some x)
  -- the condition has failed, but is typed all the same
  refused_condition : {x : TypedTree} {es : List Finding}
      → RefusedCondition s e x es → HasTypedCondition s e (Some x)
  -- a part of the condition is too deep
  cut_condition : (es : List Finding) → Cuts s e no_caps 1 es → HasTypedCondition s e None

-- ---- the typed condition as a function

abbrev pub part_tree : Part → TypedTree
part_tree p = p.tree

abbrev pub out_tree : PartAndErrors → Option TypedTree
out_tree o = option_map part_tree o.0

abbrev pub condition_tree : Setting → Source → Option TypedTree
condition_tree s e = out_tree (expect s.env bool_types (place_of e) (infer s e no_caps 1 []))
