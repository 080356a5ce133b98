-- The errors of a call, one after another.
use Rattle.std.proofs.Common.{◌≡◌, ℕ, Bool, length, List, [], ◌∷◌, ◌++◌, sym, ap, ◌∙◌}
use Rattle.std.proofs.lemmas.List.{map-append, length-map}
use Rattle.cedar_types.specs.declared.base.location.Loc.{Loc}
use Rattle.cedar_types.specs.Errors.{Fault, Finding, wrong_number_arguments}
use Rattle.cedar_types.specs.Extensions.Functions.{Refusals, function_of}
use Rattle.cedar_types.specs.Types.{ty_of}
use Rattle.cedar_types.specs.declared.base.expressions.extensions.ExtensionFunctionType.{ExtensionFunctionType}
use Rattle.std.specs.Prelude.{Option, if◌then◌else◌}
use Rattle.cedar_typing.specs.Views.Calls.{added_at}
use Rattle.cedar_typing.specs.Rules.Calls.{takes, number_faults}
use Rattle.cedar_typing.specs.TypeEnv.{TypeEnv, finding}
use Rattle.cedar_typing.specs.TypedExpr.{Source}

-- three kinds of errors, each added to those before
pub three_added : (env : TypeEnv) (l : Option Loc) (xs ys zs : List Fault) (es fs gs hs : List Finding)
    → es ≡ [] → fs ≡ es ++ added_at env l xs → gs ≡ fs ++ added_at env l ys → hs ≡ gs ++ added_at env l zs
    → hs ≡ added_at env l ((xs ++ ys) ++ zs)
three_added env l xs ys zs es fs gs hs none one two three =
    three
    ∙ ap (λ w. w ++ added_at env l zs) (two ∙ ap (λ w. w ++ added_at env l ys) (one ∙ ap (λ w. w ++ added_at env l xs) none))
    ∙ ap (λ w. w ++ added_at env l zs) (sym (map-append (finding env l) xs ys))
    ∙ sym (map-append (finding env l) (xs ++ ys) zs)

-- the fault of a number of arguments, by whether the function takes it
abbrev by_number : Bool → ℕ → ℕ → List Fault
by_number b m n = if b then [] else wrong_number_arguments m n ∷ []

-- if the function takes this number, no error is added, else one
pub number_added : {C : Type 0} (env : TypeEnv) (l : Option Loc) (meaning : C → Refusals)
    (f : ExtensionFunctionType C) (xs : List Source) (n : ℕ) (b : Bool)
    → length xs ≡ n → b ≡ takes (function_of meaning f) n
    → number_faults (function_of meaning f) xs ≡ by_number b (length f.argument_types.items) n
number_added env l meaning f xs n b count taken =
    (λ i. if takes (function_of meaning f) (count i) then []
    else wrong_number_arguments (length-map f.argument_types.items ty_of i) (count i) ∷ [])
    ∙ ap (λ c. by_number c (length f.argument_types.items) n) (sym taken)
