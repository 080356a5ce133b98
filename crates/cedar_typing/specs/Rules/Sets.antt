-- The rule of sets.
use Rattle.std.specs.Prelude.{true, List, [], ◌∷◌, Option, Some, None, if◌then◌else◌}
use Rattle.cedar_types.specs.declared.base.location.Loc.{Loc}
use Rattle.cedar_types.specs.declared.base.errors.type_errors.LubContext.TheVariants.{Set}
use Rattle.cedar_types.specs.Types.{Ty, TSet}
use Rattle.cedar_types.specs.Expressions.Tree.{set_of}
use Rattle.cedar_types.specs.Expressions.View.{Written, trees_of}
use Rattle.cedar_types.specs.Types.Order.{in_order}
use Rattle.cedar_types.specs.Types.Bounds.{is_strict, list_lub}
use Rattle.cedar_types.specs.Errors.{Finding, incompatible_types, empty_set_forbidden}
use Rattle.cedar_typing.specs.Capabilities.{no_caps}
use Rattle.cedar_typing.specs.Eager.{Decision, gives, refuses, Form}
use Rattle.cedar_typing.specs.TypeEnv.{TypeEnv, finding}

-- the list of all types, if none is missing
abbrev pub with_type : Option Ty → Option (List Ty) → Option (List Ty)
with_type (Some t) (Some ts) = Some (t ∷ ts)
with_type t ts = None

abbrev pub all_types : List (Option Ty) → Option (List Ty)
all_types [] = Some []
all_types (t ∷ ts) = with_type t (all_types ts)

-- the set of the bound of the types of the elements. If they have none, that is an error at the
-- whole
abbrev pub set_by_bound : TypeEnv → Option Loc → List Ty → Option Ty → Decision
set_by_bound env l ts (Some u) = gives (TSet u) no_caps
set_by_bound env l ts None =
    refuses None (finding env l (incompatible_types (in_order ts) Set) ∷ [])

-- the bound is folded from the first element on. An element without a type adds no error, because
-- it has failed already
abbrev pub set_of_types : TypeEnv → Option Loc → Option (List Ty) → Decision
set_of_types env l None = refuses None []
set_of_types env l (Some ts) = set_by_bound env l ts (list_lub env.mode ts)

-- in Strict a set without elements is an error, because nothing tells the type of its members
abbrev pub set_decides : TypeEnv → Option Loc → List (Option Ty) → Decision
set_decides env l [] =
    if is_strict env.mode then refuses None (finding env l empty_set_forbidden ∷ [])
    else set_of_types env l (Some [])
set_decides env l (t ∷ ts) = set_of_types env l (all_types (t ∷ ts))

abbrev pub errors_of : Decision → List Finding
errors_of (gives t c) = []
errors_of (refuses t es) = es

-- `[a, b]`: a set of the bound of the types of its elements. All elements are typed in any case,
-- and beside one that is too deep, those before it must still have a bound
abbrev pub set_form : TypeEnv → Written → Form
set_form env m = record {
  at = m;
  expects = [];
  goes_on = true;
  decides = set_decides env m.place;
  type_if_failed = λ t. t;
  at_limit = λ ts. errors_of (set_of_types env m.place (all_types ts));
  node = λ k xs. set_of k (trees_of xs);
}
