-- The rule of calls of extension functions.
use Rattle.std.specs.Prelude.{ℕ, Bool, true, false, not, ◌&&◌, nat_eq, nat_lt, length, List, [], ◌∷◌, ◌++◌, map, Option, Some, None}
use Rattle.std.specs.Prelude.{is_some, if◌then◌else◌}
use Rattle.std.specs.List.{list_all}
use Rattle.cedar_types.specs.declared.base.types.ValidationMode.{ValidationMode}
use Rattle.cedar_types.specs.declared.base.location.Loc.{Loc}
use Rattle.cedar_types.specs.Names.{Text, Path}
use Rattle.cedar_types.specs.Types.{Ty}
use Rattle.cedar_types.specs.Expressions.Tree.{lit, call, Trees, no_trees, tree}
use Rattle.cedar_types.specs.Expressions.View.{Written, trees_of}
use Rattle.cedar_types.specs.Types.Bounds.{is_strict}
use Rattle.cedar_types.specs.Errors.{Fault, Finding, undefined_function, wrong_number_arguments, function_argument_validation}
use Rattle.cedar_types.specs.Errors.{non_lit_ext_constructor}
use Rattle.cedar_types.specs.Extensions.Functions.{Refusals, ExtensionFunction, function_named}
use Rattle.cedar_typing.specs.Eager.{Expectation, Decision, refuses, gives_unless, Form}
use Rattle.cedar_typing.specs.TypeEnv.{TypeEnv, finding}
use Rattle.cedar_typing.specs.TypedExpr.{Source}

-- the arguments of a call
abbrev pub arguments : Trees Written → List Source
arguments no_trees = []
arguments (tree x xs) = x ∷ arguments xs

-- ---- the errors of a call itself, before its arguments are typed

-- a function takes as many arguments as it has argument types; a variadic function takes more too
abbrev pub takes : ExtensionFunction → ℕ → Bool
takes f n =
    if f.is_variadic then not (nat_lt n (length f.argument_types))
    else nat_eq n (length f.argument_types)

abbrev pub number_faults : ExtensionFunction → List Source → List Fault
number_faults f xs =
    if takes f (length xs) then []
    else wrong_number_arguments (length f.argument_types) (length xs) ∷ []

-- the refusal by the function's own check, with its message
abbrev pub refusal_faults : Option Text → List Fault
refusal_faults None = []
refusal_faults (Some message) = function_argument_validation message ∷ []

abbrev pub check_faults : Option Refusals → List Source → List Fault
check_faults None xs = []
check_faults (Some refusal) xs = refusal_faults (refusal xs)

abbrev pub is_literal : Source → Bool
is_literal (lit m x) = true
is_literal e = false

-- in Strict the arguments of a function with a check must be literals, because the check can read
-- only those
abbrev pub literal_faults : ValidationMode → Option Refusals → List Source → List Fault
literal_faults mode check xs =
    if is_strict mode && is_some check && not (list_all is_literal xs)
    then non_lit_ext_constructor ∷ []
    else []

-- the errors of a call of f, each that applies, or that of a name without a function
abbrev pub call_errors : TypeEnv → Option Loc → Option ExtensionFunction → Path → List Source
    → List Finding
call_errors env l None n xs = finding env l (undefined_function n) ∷ []
call_errors env l (Some f) n xs =
    map (finding env l)
    (number_faults f xs ++ check_faults f.check xs ++ literal_faults env.mode f.check xs)

-- ---- the arguments, and the call

-- each argument must be of its type, and those beyond the last type of the last one. Without types
-- the arguments may be anything
abbrev pub expected_arguments : List Ty → List Source → List Expectation
expected_arguments [] xs = []
expected_arguments (t ∷ ts) [] = []
expected_arguments (t ∷ []) (x ∷ xs) = Some (t ∷ []) ∷ expected_arguments (t ∷ []) xs
expected_arguments (t ∷ u ∷ ts) (x ∷ xs) = Some (t ∷ []) ∷ expected_arguments (u ∷ ts) xs

-- the types that the arguments must have. Beside an error of the call they may be anything, so that
-- one mistake is one error
abbrev pub types_wanted : Option ExtensionFunction → List Finding → List Ty
types_wanted (Some f) [] = f.argument_types
types_wanted f es = []

abbrev pub return_type : Option ExtensionFunction → Option Ty
return_type None = None
return_type (Some f) = Some f.return_type

-- the function's return type, which the call keeps beside its errors
abbrev pub call_decides : Option Ty → List Finding → Decision
call_decides None es = refuses None es
call_decides (Some t) es = gives_unless es t

-- a call with this return type, these expected types and these errors of its own, which are kept
-- beside an argument that is too deep, because they are found before the arguments are typed
abbrev pub form_of_call : Written → Path → Option Ty → List Expectation → List Finding → Form
form_of_call m n t qs es = record {
  at = m;
  expects = qs;
  goes_on = false;
  decides = λ ts. call_decides t es;
  type_if_failed = λ t. t;
  at_limit = λ ts. es;
  node = λ k xs. call k n (trees_of xs);
}

-- the form of a call of f, or of a name without a function
abbrev pub form_of_function : TypeEnv → Written → Path → Option ExtensionFunction → List Source
    → Form
form_of_function env m n f xs =
    form_of_call m n (return_type f)
    (expected_arguments (types_wanted f (call_errors env m.place f n xs)) xs)
    (call_errors env m.place f n xs)

-- `n(a, b)`, with the extension functions fs
abbrev pub call_form : TypeEnv → List ExtensionFunction → Written → Path → List Source → Form
call_form env fs m n xs = form_of_function env m n (function_named n fs) xs
