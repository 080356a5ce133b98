use Rattle.std.proofs.Common.{◌∙◌, sym}
use Rattle.cedar_types.specs.Expressions.View.{written}
use Rattle.cedar_typing.specs.Rules.Calls.{is_literal}
use Rattle.std.proofs.lemmas.List.Folds.{list_all-map}
use Rattle.cedar_typing.proofs.typecheck.rules.literals.all_literals.Goals as goal

pub returns : goal.returns
returns c = c.each_is_literal.ensures ∙ sym (list_all-map is_literal written c.args.arguments.now)
