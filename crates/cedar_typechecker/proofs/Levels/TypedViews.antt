-- The type at the root of a typed expression of the program.
use Rattle.std.proofs.Common.{◌≡◌, Option, option_map}
use Rattle.cedar_types.specs.declared.base.expressions.Expr.{Expr}
use Rattle.cedar_types.specs.declared.base.types.CedarType.{CedarType}
use Rattle.cedar_types.specs.Types.{ty_of}
use Rattle.cedar_typing.specs.TypedExpr.{annotation, typed_tree}
use Rattle.cedar_typing.proofs.Views.Typed as typed_views

pub annotation_is : (e : Expr (Option CedarType))
    → annotation (typed_tree e) ≡ option_map ty_of e.annotation
annotation_is e = typed_views.annotation_is e
