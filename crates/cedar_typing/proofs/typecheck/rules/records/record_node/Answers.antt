use Rattle.std.proofs.Common.{rules, option_map, ap, ◌∙◌}
use Rattle.cedar_types.specs.declared.base.expressions.ExprKind.{the_lemmas}
use Rattle.cedar_types.specs.Expressions.Tree.{record_of}
use Rattle.cedar_types.specs.Types.{ty_of}
use Rattle.cedar_typing.specs.TypedExpr.{typed_as, typed_tree}
use Rattle.cedar_typing.specs.Views.{at}
use Rattle.cedar_typing.proofs.Rules.Records.{fields_are}
use Rattle.cedar_typing.proofs.typecheck.rules.records.record_node.Goals as goal

pub returns : goal.returns
returns c =
    ap typed_tree c.in_ok-typed.ensures
    ∙ search (rules, the_lemmas)
    ∙ ap (record_of (typed_as (option_map ty_of c.args.ty) (at c.args.loc))) (fields_are c.args.fields.entries)
