use Rattle.std.proofs.Common.{ap, sym, ◌∙◌}
use Rattle.cedar_types.specs.Capability.{tag, known_of}
use Rattle.cedar_types.proofs.Expressions.Marks.{one_shape}
use Rattle.cedar_types.specs.Expressions.ShapeOnly.{expr_of}
use Rattle.cedar_types.proofs.types.capability.digested.Known.try_clone.Goals as goal

pub returns-in_ok-try_clone-in-Tag : goal.returns-in_ok-try_clone-in-Tag
returns-in_ok-try_clone-in-Tag c = λ s.
    ap (tag s) (one_shape (expr_of c.in_ok-try_clone-in-Tag.field-0) (expr_of c.in-Tag.name) c.in_ok-try_clone-in-Tag.ensures)
    ∙ ap (known_of s) (sym c.in-Tag.is)
