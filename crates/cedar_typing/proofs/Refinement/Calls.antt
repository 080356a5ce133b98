-- A call that has no error of its own in Strict has none in Permissive.
use Rattle.std.proofs.Common.{◌≡◌, List, [], ◌∷◌, ◌++◌, Option, Some, None, map, refl, sym, ◌∙◌}
use Rattle.cedar_types.specs.declared.base.types.ValidationMode.TheVariants.{Strict}
use Rattle.cedar_types.specs.declared.base.location.Loc.{Loc}
use Rattle.cedar_types.specs.Names.{Path}
use Rattle.cedar_types.specs.Types.{Ty}
use Rattle.cedar_types.specs.Expressions.View.{Written}
use Rattle.cedar_types.specs.Errors.{Fault, Finding}
use Rattle.cedar_types.specs.Extensions.Functions.{ExtensionFunction, function_named}
use Rattle.cedar_typing.specs.Rules.Calls.{number_faults, check_faults, literal_faults, call_errors, expected_arguments, types_wanted}
use Rattle.cedar_typing.specs.Rules.Calls.{return_type, call_decides, form_of_call, call_form}
use Rattle.cedar_typing.specs.Rules.Sets.{errors_of}
use Rattle.cedar_typing.specs.Setting.{Setting}
use Rattle.cedar_typing.specs.TypeEnv.{finding}
use Rattle.cedar_typing.specs.TypedExpr.{Source}
use Rattle.cedar_typing.proofs.Refinement.Parts.{not_nil}
use Rattle.cedar_typing.proofs.Refinement.Tables.{strict_env, permissive_env}

-- the errors of a call are kept beside its return type
pub says_errors : (t : Option Ty) (es : List Finding) → errors_of (call_decides t es) ≡ es
says_errors None es = refl
says_errors (Some t) [] = refl
says_errors (Some t) (e ∷ es) = refl

none_of : (f : Fault → Finding) (xs ys : List Fault) → map f (xs ++ ys) ≡ [] → map f (xs ++ []) ≡ []
none_of f [] ys q = refl
none_of f (x ∷ xs) ys q = absurd (not_nil _ _ q)

module _ (s : Setting) (l : Option Loc) (n : Path) (xs : List Source) where
  function_silent : (f : Option ExtensionFunction) → call_errors (strict_env s) l f n xs ≡ [] → call_errors (permissive_env s) l f n xs ≡ []
  function_silent None q = absurd (not_nil _ _ q)
  function_silent (Some f) q =
      none_of (finding (strict_env s) l) (number_faults f xs ++ check_faults f.check xs) (literal_faults Strict f.check xs) q

pub call_is : (s : Setting) (m : Written) (n : Path) (xs : List Source)
    → call_errors (strict_env s) m.place (function_named n s.functions) n xs ≡ []
    → call_form (permissive_env s) s.functions m n xs ≡ call_form (strict_env s) s.functions m n xs
call_is s m n xs q =
    let f = function_named n s.functions in
    λ i. form_of_call m n (return_type f) (expected_arguments (types_wanted f (both i)) xs) (both i)
  where
    both : call_errors (permissive_env s) m.place (function_named n s.functions) n xs ≡ call_errors (strict_env s) m.place (function_named n s.functions) n xs
    both = function_silent s m.place n xs (function_named n s.functions) q ∙ sym q
