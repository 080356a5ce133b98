use Rattle.std.proofs.Common.{◌≡◌}
use Rattle.cedar_types.specs.Names.{text_of}
use Rattle.cedar_typechecker.specs.Levels.Demands.{has_key}
use Rattle.cedar_typechecker.specs.Levels.Views.{typed_fields}
use Rattle.cedar_typechecker.proofs.level_validate.targets.has_key.Given as goal

abbrev pub invariant-loop-own : goal.invariant-loop-own
invariant-loop-own l =
    has_key (text_of l.key) (typed_fields l.own-iterator) ≡ has_key (text_of l.key)
    (typed_fields l.fn.fields.entries)
