-- Each failure has an error: operators on one operand, numbers, sets, records and calls.
use Rattle.std.proofs.Common.{◌≡◌, zero, Bool, true, false, ◌&&◌, List, [], ◌∷◌, Option, Some, None, if◌then◌else◌, refl}
use Rattle.cedar_types.specs.declared.base.expressions.operators.BinaryOp.{BinaryOp}
use Rattle.cedar_types.specs.declared.base.expressions.operators.UnaryOp.{UnaryOp}
use Rattle.cedar_types.specs.declared.base.expressions.patterns.PatternElem.{PatternElem}
use Rattle.cedar_types.specs.declared.base.location.Loc.{Loc}
use Rattle.cedar_types.specs.Names.Ascending.{texts_ascending}
use Rattle.cedar_types.specs.Types.Bounds.{is_strict, is_never, ty_eq, list_lub}
use Rattle.cedar_types.specs.Errors.{Finding}
use Rattle.cedar_types.specs.Extensions.Functions.{ExtensionFunction, function_named}
use Rattle.cedar_types.specs.Names.{Text, Path}
use Rattle.cedar_types.specs.Types.{Ty, TNever, TLong}
use Rattle.cedar_types.specs.Expressions.View.{Written}
use Rattle.cedar_typing.specs.Eager.{Decision, refuses, gives_unless}
use Rattle.cedar_typing.specs.Rules.Calls.{call_decides, call_errors, return_type, call_form}
use Rattle.cedar_typing.specs.Rules.Records.{record_of_types, record_form}
use Rattle.cedar_typing.specs.Rules.Sets.{with_type, all_types, set_by_bound, set_of_types, set_form}
use Rattle.cedar_typing.specs.Rules.Numbers.{is_comparable, beside_never, incomparable, compares, arithmetic_form, comparison_form}
use Rattle.cedar_typing.specs.Rules.Unary.{unary_form, like_form, is_form}
use Rattle.cedar_typing.specs.TypeEnv.{TypeEnv}
use Rattle.cedar_typing.specs.TypedExpr.{Source}
use Rattle.cedar_typing.proofs.Silence.Eager.{IsLoudDecision, AreKnown, LoudForm}
use Rattle.cedar_typing.proofs.Silence.Parts.{IsLoud}

-- ---- decisions

pub loud_if : (b : Bool) (d d' : Decision) → IsLoudDecision d → IsLoudDecision d' → IsLoudDecision (if b then d else d')
loud_if true d d' h k = h
loud_if false d d' h k = k

-- a table that gives its type unless there are errors is never refused without an error
pub loud_unless : (es : List Finding) (t : Ty) → IsLoudDecision (gives_unless es t)
loud_unless [] t = tt
loud_unless (e ∷ es) t = refl

loud_list : (b : Bool) (es fs : List Finding) → IsLoud es → IsLoud fs → IsLoud (if b then es else fs)
loud_list true es fs h k = h
loud_list false es fs h k = k

-- ---- one operand

pub unary_loud : (m : Written) (o : UnaryOp) → LoudForm 1 (unary_form m o)
unary_loud m UnaryOp.Not [] h = absurd h
unary_loud m UnaryOp.Not (None ∷ ts) h = tt
unary_loud m UnaryOp.Not (Some t ∷ ts) h = tt
unary_loud m UnaryOp.Neg ts h = tt
unary_loud m UnaryOp.IsEmpty ts h = tt

pub like_loud : (m : Written) (p : List PatternElem) → LoudForm 1 (like_form m p)
like_loud m p ts h = tt

pub is_loud : (m : Written) (n : Path) → LoudForm 1 (is_form m n)
is_loud m n [] h = absurd h
is_loud m n (None ∷ ts) h = absurd h.0
is_loud m n (Some TNever ∷ ts) h = cc
is_loud m n (Some t ∷ ts) h = tt

-- ---- numbers

pub arithmetic_loud : (m : Written) (o : BinaryOp) → LoudForm 2 (arithmetic_form m o)
arithmetic_loud m o ts h = tt

-- two types, of which the first is not Never, give a type or an error
apart_loud : (b b' same : Bool) (d d' e : Decision) (es : List Finding) (t : Ty) → b ≡ false → IsLoudDecision d'
    → IsLoudDecision e → IsLoud es
    → IsLoudDecision (if b && b' then refuses (Some t) [] else if b then d else if b' then d' else if same then e else refuses (Some t) es)
apart_loud true b' same d d' e es t n h k l = cc
apart_loud false true same d d' e es t n h k l = h
apart_loud false false true d d' e es t n h k l = k
apart_loud false false false d d' e es t n h k l = l

module _ (env : TypeEnv) (m : Written) (l l' : Option Loc) where
  incomparable_loud : (s t : Ty) → IsLoud (incomparable env l l' s t)
  incomparable_loud s t =
      loud_list (ty_eq s TLong) _ _ refl
      (loud_list (ty_eq t TLong) _ _ refl
      (loud_list (is_comparable env s) _ _ refl
      (loud_list (is_comparable env t) _ _ refl refl)))

  compared_loud : (s t : Ty) → is_never s ≡ false → IsLoudDecision (compares env l l' s t)
  compared_loud s t h =
      apart_loud (is_never s) (is_never t) (is_comparable env s && ty_eq s t) _ _ _ (incomparable env l l' s t) _ h
      (loud_unless (beside_never env l s) _) tt (incomparable_loud s t)

  pub comparison_loud : (o : BinaryOp) → LoudForm 2 (comparison_form env m l l' o)
  comparison_loud o [] h = absurd h
  comparison_loud o (t ∷ []) h = absurd h.1
  comparison_loud o (None ∷ u ∷ ts) h = absurd h.0
  comparison_loud o (Some t ∷ None ∷ ts) h = absurd h.1.0
  comparison_loud o (Some t ∷ Some u ∷ ts) h = compared_loud t u h.0

-- ---- sets

none_missing : (t : Ty) (found : Option (List Ty)) → with_type (Some t) found ≡ None → found ≡ None
none_missing t None e = refl
none_missing t (Some ts) e = cc

-- no type is missing if all are known
all_found : (ts : List (Option Ty)) → AreKnown zero ts → all_types ts ≡ None → ⊥
all_found [] h e = cc
all_found (None ∷ ts) h e = h.0
all_found (Some t ∷ ts) h e = all_found ts h.1 (none_missing t (all_types ts) e)

module _ (env : TypeEnv) (m : Written) where
  by_bound_loud : (us : List Ty) (bound : Option Ty) → IsLoudDecision (set_by_bound env m.place us bound)
  by_bound_loud us (Some u) = tt
  by_bound_loud us None = refl

  types_loud : (found : Option (List Ty)) → (found ≡ None → ⊥) → IsLoudDecision (set_of_types env m.place found)
  types_loud None h = absurd (h refl)
  types_loud (Some us) h = by_bound_loud us (list_lub env.mode us)

  pub set_loud : LoudForm zero (set_form env m)
  set_loud [] h = loud_if (is_strict env.mode) _ _ refl (types_loud (Some []) (λ e. cc))
  set_loud (t ∷ ts) h = types_loud (all_types (t ∷ ts)) (all_found (t ∷ ts) h)

  -- ---- records

  fields_loud : (ks : List Text) (found : Option (List Ty)) → (found ≡ None → ⊥) → IsLoudDecision (record_of_types env m.place ks found)
  fields_loud ks None h = absurd (h refl)
  fields_loud ks (Some us) h = loud_if (texts_ascending ks) _ _ tt refl

  pub record_loud : (ks : List Text) → LoudForm zero (record_form env m ks)
  record_loud ks ts h = fields_loud ks (all_types ts) (all_found ts h)

  -- ---- calls

  function_loud : (f : Option ExtensionFunction) (n : Path) (xs : List Source)
      → IsLoudDecision (call_decides (return_type f) (call_errors env m.place f n xs))
  function_loud None n xs = refl
  function_loud (Some f) n xs = loud_unless (call_errors env m.place (Some f) n xs) f.return_type

  pub call_loud : (fs : List ExtensionFunction) (n : Path) (xs : List Source) → LoudForm zero (call_form env fs m n xs)
  call_loud fs n xs ts h = function_loud (function_named n fs) n xs
