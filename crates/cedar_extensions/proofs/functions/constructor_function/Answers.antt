use Rattle.std.proofs.Common.{◌∙◌, [], ◌∷◌, Some}
use Rattle.std.proofs.lemmas.Result.{IfOk-weaker}
use Rattle.cedar_extensions.specs.declared.types.ValueType.{ValueType}
use Rattle.cedar_extensions.specs.Functions.{checked, signature}
use Rattle.cedar_extensions.proofs.functions.constructor_function.Goals as goal

pub returns : goal.returns
returns g c =
    IfOk-weaker c.function.result _ _
    (λ f h meaning.
    h meaning
    ∙ (λ i. checked (signature (c.name.ensures i) (ValueType.String ∷ []) (c.makes.ensures i)) (Some (meaning c.args.check))))
    c.function.ensures
