use Rattle.std.proofs.Common.{◌≡◌, option_map}
use Rattle.std.specs.List.{list_any}
use Rattle.cedar_types.specs.Expressions.Parts.{expressions_left}
use Rattle.cedar_types.specs.Expressions.View.{written}
use Rattle.cedar_typing.specs.Silence.{is_unknown}
use Rattle.cedar_conformance.specs.PolicyTests.{rest_has_unknown}
use Rattle.cedar_conformance.proofs.policies.rest_has_unknown.Given as goal

-- the parts that are left decide
abbrev pub invariant-loop-part : goal.invariant-loop-part
invariant-loop-part l = list_any is_unknown (expressions_left l.part-iterator) ≡ rest_has_unknown (option_map written l.fn.rest)
