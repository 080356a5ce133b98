-- Views of a call of the program before its arguments are typed.
use Rattle.std.specs.Prelude.{◌≡◌, List, map, Option, option_map}
use Rattle.cedar_types.specs.declared.base.location.Loc.{Loc}
use Rattle.cedar_types.specs.Errors.{Fault, Finding}
use Rattle.cedar_types.specs.Extensions.Functions.{function_named}
use Rattle.cedar_types.specs.Names.{Path}
use Rattle.cedar_types.specs.Types.{ty_of}
use Rattle.cedar_types.specs.Expressions.View.{Written}
use Rattle.cedar_typing.specs.Eager.{Expectation, Form}
use Rattle.cedar_typing.specs.Rules.Calls.{call_errors, form_of_call, return_type, types_wanted}
use Rattle.cedar_typing.specs.Setting.{Setting}
use Rattle.cedar_typing.specs.TypeEnv.{TypeEnv, finding}
use Rattle.cedar_typing.specs.TypedExpr.{Source}
use Rattle.cedar_typing.specs.Views.{findings}
use Rattle.cedar_typing.specs.declared.typecheck.rules.calls.Call.{Call}

-- faults as errors at a place
abbrev pub added_at : TypeEnv → Option Loc → List Fault → List Finding
added_at env l fs = map (finding env l) fs

-- a call of this name with these arguments: its return type, its expected types and its errors
pub record IsCallOf (s : Setting) (l : Option Loc) (n : Path) (xs : List Source)
    (c : Call) : Type 0 where
  pub returns : option_map (λ t. ty_of t.now) c.return_type
      ≡ return_type (function_named n s.functions)
  pub wanted : map ty_of c.argument_types.now
      ≡ types_wanted (function_named n s.functions)
      (call_errors s.env l (function_named n s.functions) n xs)
  pub errors : findings c.errors.items ≡ call_errors s.env l (function_named n s.functions) n xs

-- the form of a call with these expectations
abbrev pub shape_of : Written → Path → List Expectation → Call → Form
shape_of m n qs c =
    form_of_call m n (option_map (λ t. ty_of t.now) c.return_type) qs (findings c.errors.items)
