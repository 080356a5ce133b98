-- The steps of an extended `has`.
use Rattle.std.specs.Prelude.{List, map, drop, None}
use Rattle.std.specs.List.{fold}
use Rattle.cedar_types.specs.declared.types.capability.chain_steps.ChainStep.{ChainStep}
use Rattle.cedar_types.specs.Accesses.{shape_at, texts_at}
use Rattle.cedar_types.specs.Names.{Text, text_of}
use Rattle.cedar_types.specs.Expressions.Tree.{Tree, get_attr, Shape}
use Rattle.cedar_types.specs.Expressions.View.{Written, no_name, written}

-- the expression `e.x`, which no policy has to hold
abbrev pub made_up : Tree Written → Text → Tree Written
made_up e x = get_attr (record { place = None; names = no_name }) e x

-- a step's expression, its attribute, and the attributes of the later steps
unfoldable pub step_written : ChainStep → Tree Written
step_written s = fold made_up (written s.on.base.now) (texts_at s.on)

unfoldable pub step_shape : ChainStep → Shape
step_shape s = shape_at s.on

unfoldable pub step_attr : ChainStep → Text
step_attr s = text_of s.attr.now

unfoldable pub steps_left : ChainStep → List Text
steps_left s = map text_of (drop s.taken s.attrs.now.rest.items)
