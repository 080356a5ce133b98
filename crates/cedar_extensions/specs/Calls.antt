-- Calls that make extension values, on texts that stand for no value.
use Rattle.std.specs.Prelude.{List, [], ◌∷◌, Option, Some, None, option_map, option_and_then}
use Rattle.std.specs.List.{filter_map}
use Rattle.cedar_types.specs.Errors.{Finding, function_argument_validation}
use Rattle.cedar_types.specs.Expressions.Parts.{subexpressions, listed}
use Rattle.cedar_types.specs.Expressions.Tree.{Tree, call}
use Rattle.cedar_types.specs.Expressions.View.{Written}
use Rattle.cedar_types.specs.Names.{Text, Path}
use Rattle.cedar_types.specs.Templates.{PlainTemplate}
use Rattle.cedar_extensions.specs.declared.checks.Constructor.{Constructor}
use Rattle.cedar_extensions.specs.Functions.{constructor_named}
use Rattle.cedar_extensions.specs.Texts.{refusal_of_unread}

-- the constructor of a name, which has no path
abbrev pub constructor_in : List Text → Text → Option Constructor
constructor_in [] s = constructor_named s
constructor_in (t ∷ ts) s = None

abbrev pub constructor_at : Path → Option Constructor
constructor_at p = constructor_in p.path p.basename

-- the finding at a node that calls a constructor on one string literal that it does not read; its place is that of the call
abbrev pub unread_call : Text → Tree Written → Option Finding
unread_call policy (call d name arguments) =
    option_map
    (λ why. record { place = d.place; policy = policy; fault = function_argument_validation why })
    (option_and_then (λ c. refusal_of_unread c (listed arguments)) (constructor_at name))
unread_call policy e = None

-- the findings of a condition
abbrev pub unread_calls : Text → Option (Tree Written) → List Finding
unread_calls policy None = []
unread_calls policy (Some e) = filter_map (unread_call policy) (subexpressions e)

-- the findings of a policy: those of each part of its condition, at any depth
abbrev pub unread_in : PlainTemplate → List Finding
unread_in t = unread_calls t.id t.rest
