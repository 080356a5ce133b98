use Rattle.std.proofs.Common.{◌∙◌, ap, [], ◌∷◌, ◌++◌, map}
use Rattle.cedar_types.specs.Extensions.Functions.{function_of}
use Rattle.cedar_extensions.specs.Functions.{all_methods}
use Rattle.cedar_extensions.proofs.functions.functions.Goals as goal

pub returns : goal.returns
returns g c = λ meaning.
    let ip = c.in_ok-constructor_function.field-0 in
    let decimal = c.in_ok-constructor_function-2.field-0 in
    let datetime = c.in_ok-constructor_function-3.field-0 in
    let duration = c.in_ok-constructor_function-4.field-0 in
    let one = c.in_ok-push.ensures.items ∙ ap (λ xs. xs ++ ip ∷ []) c.new-functions.ensures.items in
    let two = c.in_ok-push-2.ensures.items ∙ ap (λ xs. xs ++ decimal ∷ []) one in
    let three = c.in_ok-push-3.ensures.items ∙ ap (λ xs. xs ++ datetime ∷ []) two in
    let four = c.in_ok-push-4.ensures.items ∙ ap (λ xs. xs ++ duration ∷ []) three in
    c.in_ok-add_methods.ensures meaning
    ∙ ap (λ xs. map (function_of meaning) xs ++ all_methods) four
    ∙ (λ i.
    (c.in_ok-constructor_function.ensures meaning i ∷ c.in_ok-constructor_function-2.ensures meaning i
    ∷ c.in_ok-constructor_function-3.ensures meaning i ∷ c.in_ok-constructor_function-4.ensures meaning i ∷ [])
    ++ all_methods)
