-- The types of calls are kept, because no function of a table without faults returns an entity or a
-- record.
use Rattle.std.proofs.Common.{◌≡◌, Bool, true, false, true≢false, not, List, [], ◌∷◌, Option, Some, None, if◌then◌else◌, refl, sym, subst}
use Rattle.std.specs.List.{list_any}
use Rattle.cedar_types.specs.declared.base.expressions.extensions.ExtensionTableError.{ExtensionTableError}
use Rattle.cedar_types.specs.declared.base.types.BoolType.TheVariants.{AnyBool}
use Rattle.cedar_types.specs.Names.{Path, path_eq}
use Rattle.cedar_types.specs.Types.{Ty, TNever, TBool, TLong, TString, TSet, TAnySet, TRecord, TEntity, TAnyEntity, TExtension}
use Rattle.cedar_types.specs.Expressions.View.{Written}
use Rattle.cedar_types.specs.Errors.{Finding}
use Rattle.cedar_types.specs.Extensions.Functions.{ExtensionFunction, function_named, is_plain_type, may_be_returned, has_bad_return}
use Rattle.cedar_types.specs.Extensions.Functions.{table_fault}
use Rattle.cedar_typing.specs.Rules.Calls.{return_type, call_decides, call_errors, call_form}
use Rattle.cedar_typing.specs.TypeEnv.{TypeEnv}
use Rattle.cedar_typing.specs.TypedExpr.{Source}
use Rattle.cedar_typing.proofs.Basics.{some_is, neither_left, neither_right}
use Rattle.cedar_typing.proofs.KeptTypes.Eager.{decided_type, KeptForm}
use Rattle.cedar_typing.proofs.KeptTypes.Keeping.{HasKept, IsKeeping}

-- ---- return types of a table without faults

not_bad : (f : ExtensionFunction) → has_bad_return f ≡ false → may_be_returned f.return_type ≡ true
not_bad f h = settle (may_be_returned f.return_type) h
  where
    settle : (b : Bool) → not b ≡ false → b ≡ true
    settle true h = refl
    settle false h = cc

named_returns : (n : Path) (fs : List ExtensionFunction) (f : ExtensionFunction)
    → list_any has_bad_return fs ≡ false → function_named n fs ≡ Some f → may_be_returned f.return_type ≡ true
named_returns n [] f h e = cc
named_returns n (g ∷ gs) f h e =
    by_name (path_eq n g.name) e
    (named_returns n gs f (neither_right (has_bad_return g) (list_any has_bad_return gs) h))
  where
    by_name : (b : Bool) → (if b then Some g else function_named n gs) ≡ Some f
        → (function_named n gs ≡ Some f → may_be_returned f.return_type ≡ true)
        → may_be_returned f.return_type ≡ true
    by_name true e k =
        subst (λ z. may_be_returned z.return_type ≡ true) (some_is e)
        (not_bad g (neither_left (has_bad_return g) (list_any has_bad_return gs) h))
    by_name false e k = k e

no_fault : (b : Bool) (x : ExtensionTableError) (r : Option ExtensionTableError) → (if b then Some x else r) ≡ None → b ≡ false
no_fault true x r h = cc
no_fault false x r h = refl

pub function_returns : (n : Path) (fs : List ExtensionFunction) (f : ExtensionFunction)
    → function_named n fs ≡ Some f → table_fault fs ≡ None → may_be_returned f.return_type ≡ true
function_returns n fs f e h = named_returns n fs f (no_fault (list_any has_bad_return fs) _ _ h) e

-- ---- calls

-- a call keeps its return type, whatever its errors
pub call_type : (t : Option Ty) (es : List Finding) → decided_type (call_decides t es) ≡ t
call_type None es = refl
call_type (Some t) [] = refl
call_type (Some t) (e ∷ es) = refl

module _ (Kept : Ty → Type 0) (env : TypeEnv) (keeps : IsKeeping Kept env) where
  plain_kept : (t : Ty) → is_plain_type t ≡ true → Kept t
  plain_kept TNever h = absurd (true≢false (sym h))
  plain_kept (TBool AnyBool) h = keeps.booleans AnyBool
  plain_kept (TBool k) h = absurd (true≢false (sym h))
  plain_kept TLong h = keeps.longs
  plain_kept TString h = keeps.strings
  plain_kept (TSet t) h = absurd (true≢false (sym h))
  plain_kept TAnySet h = absurd (true≢false (sym h))
  plain_kept (TRecord xs o) h = absurd (true≢false (sym h))
  plain_kept (TEntity ps) h = absurd (true≢false (sym h))
  plain_kept TAnyEntity h = absurd (true≢false (sym h))
  plain_kept (TExtension n) h = keeps.extensions n

  returned_kept : (t : Ty) → may_be_returned t ≡ true → Kept t
  returned_kept (TSet t) h = keeps.sets t (plain_kept t h)
  returned_kept t h = plain_kept t h

  module _ (fs : List ExtensionFunction) where
    function_kept : table_fault fs ≡ None → (n : Path) (f : Option ExtensionFunction) → function_named n fs ≡ f → HasKept Kept (return_type f)
    function_kept faults n None e = tt
    function_kept faults n (Some f) e = returned_kept f.return_type (function_returns n fs f e faults)

    -- the functions of a table without faults return kept types
    pub returns_kept : table_fault fs ≡ None → (n : Path) → HasKept Kept (return_type (function_named n fs))
    returns_kept faults n = function_kept faults n (function_named n fs) refl

    pub call_kept : (m : Written) (n : Path) (xs : List Source) → HasKept Kept (return_type (function_named n fs))
        → KeptForm Kept (call_form env fs m n xs)
    call_kept m n xs k ts h =
        let f = function_named n fs in
        subst (HasKept Kept) (sym (call_type (return_type f) (call_errors env m.place f n xs))) k
