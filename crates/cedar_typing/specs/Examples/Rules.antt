-- Computed examples of the rules of typing, form by form: one for each rule, and one for each way
-- to fail. Beside them stand short names for typed expressions and for errors.
pub mod Leaves
pub mod ShortCircuit
pub mod Unary
pub mod Conditional
pub mod Attributes
pub mod Numbers
pub mod Equality
pub mod Membership
pub mod Tags
pub mod Chains
pub mod Calls
pub mod Nesting
pub mod Check
pub mod Sets
pub mod Records
use Rattle.std.specs.Prelude.{◌≡◌, ℕ, pos, true, false, List, [], ◌∷◌, Option, codes}
use Rattle.cedar_types.specs.declared.base.expressions.operators.Var.{Var}
use Rattle.cedar_types.specs.declared.base.types.BoolType.TheVariants.{AnyBool, True, False}
use Rattle.cedar_types.specs.declared.base.types.ValidationMode.TheVariants.{Strict}
use Rattle.cedar_types.specs.Names.{Text}
use Rattle.cedar_types.specs.Types.{Ty, TBool, TLong, TRecord, TAnyEntity, no_attrs}
use Rattle.cedar_types.specs.Expressions.Tree.{bool, long, Shape, lit, var, if_then_else, get_attr, has_attr}
use Rattle.cedar_types.specs.Capability.{attribute}
use Rattle.cedar_types.specs.Errors.{Finding, Fault, unexpected_type, unsafe_attribute_access, unsafe_optional_attribute_access}
use Rattle.cedar_typing.specs.Capabilities.{Caps, no_caps, single}
use Rattle.cedar_typing.specs.Examples.Expressions.{principal, context, node, numbered}
use Rattle.cedar_typing.specs.Examples.World.{a_user, a_context, sample_env, sample}
use Rattle.cedar_typing.specs.PolicyCheck.{Verdict, PolicyChecks}
use Rattle.cedar_typing.specs.Rules.{Derives, Recovers, Cuts}
use Rattle.cedar_typing.specs.Setting.{Setting}
use Rattle.cedar_typing.specs.TypeEnv.{finding}
use Rattle.cedar_typing.specs.TypedExpr.{TypedTree, Mark, typed, untyped, annotation}

-- ---- the statements of examples

-- with the prior capabilities p, e has the type t, produces c, and has the typed copy x
pub record TypesAsIn (s : Setting) (p : Caps) (e : Shape) (t : Ty) (c : Caps) (x : TypedTree) :
    Type 0 where
  pub has : Derives s (numbered e) p 1 t c x

-- in Strict, without prior capabilities, e has the type t, produces c, and has the typed copy x
abbrev pub TypesAs : Shape → Ty → Caps → TypedTree → Type 0
TypesAs = TypesAsIn (sample Strict) no_caps

-- e fails by the rules, with the typed copy x and these errors
pub record FailsWithIn (s : Setting) (e : Shape) (x : TypedTree) (es : List Finding) :
    Type 0 where
  pub recovers : Recovers s (numbered e) no_caps 1 x es

-- in Strict e fails with the typed copy x and these errors
abbrev pub FailsWith : Shape → TypedTree → List Finding → Type 0
FailsWith = FailsWithIn (sample Strict)

-- an expression that fails, its typed copy, and its errors
abbrev pub Failing : Type 0
Failing = Shape × (TypedTree × List Finding)

abbrev pub EachFails : List Failing → Type 0
EachFails [] = Unit {0}
EachFails (x ∷ xs) = FailsWith x.0 x.1.0 x.1.1 × EachFails xs

-- each of these fails so
pub record AllFail (xs : List Failing) : Type 0 where
  pub each : EachFails xs

-- e has the type t, and produces no capabilities
pub record IsTypedIn (s : Setting) (e : Shape) (t : Ty) : Type 0 where
  pub copy : TypedTree
  pub has : Derives s (numbered e) no_caps 1 t no_caps copy

abbrev pub IsTyped : Shape → Ty → Type 0
IsTyped = IsTypedIn (sample Strict)

-- with the prior capabilities p, e fails with these errors, and keeps this type, if any
pub record IsRefusedKnowingIn (s : Setting) (p : Caps) (e : Shape) (t : Option Ty)
    (es : List Finding) : Type 0 where
  pub copy : TypedTree
  pub stays : annotation copy ≡ t
  pub recovers : Recovers s (numbered e) p 1 copy es

abbrev pub IsRefusedKnowing : Caps → Shape → Option Ty → List Finding → Type 0
IsRefusedKnowing = IsRefusedKnowingIn (sample Strict)

-- without prior capabilities, e fails with these errors, and keeps this type, if any
abbrev pub IsRefusedIn : Setting → Shape → Option Ty → List Finding → Type 0
IsRefusedIn s = IsRefusedKnowingIn s no_caps

abbrev pub IsRefused : Shape → Option Ty → List Finding → Type 0
IsRefused = IsRefusedIn (sample Strict)

-- at the depth d a part of e is too deep, and these errors were found before
pub record CutsAt (d : ℕ) (e : Shape) (es : List Finding) : Type 0 where
  pub cuts : Cuts (sample Strict) (numbered e) no_caps d es

-- the check of the condition e has this verdict
pub record ChecksAs (e : Shape) (v : Verdict) : Type 0 where
  pub checks : PolicyChecks (sample Strict) (numbered e) v

-- e is a Boolean that produces neither that the principal has the mark nor that it has an age
pub record HandsOnNeither (e : Shape) : Type 0 where
  pub caps : Caps
  pub typed : TypedTree
  pub has : Derives (sample Strict) (numbered e) no_caps 1 (TBool AnyBool) caps typed
  pub no_mark : caps (attribute principal (codes "vip")) ≡ false
  pub no_age : caps (attribute principal (codes "age")) ≡ false

-- ---- capabilities

-- the capabilities that the principal has the mark, or an age; and that there is a friend
abbrev pub marked_principal : Caps
marked_principal = single (attribute principal (codes "vip"))

abbrev pub aged_principal : Caps
aged_principal = single (attribute principal (codes "age"))

abbrev pub with_friend : Caps
with_friend = single (attribute context (codes "friend"))

-- ---- nodes of typed expressions, by their types and places

abbrev pub bool_at : ℕ → Mark
bool_at n = typed (TBool AnyBool) (node n)

abbrev pub true_at : ℕ → Mark
true_at n = typed (TBool True) (node n)

abbrev pub false_at : ℕ → Mark
false_at n = typed (TBool False) (node n)

abbrev pub long_at : ℕ → Mark
long_at n = typed TLong (node n)

abbrev pub user_at : ℕ → Mark
user_at n = typed a_user (node n)

abbrev pub no_type_at : ℕ → Mark
no_type_at n = untyped (node n)

-- ---- typed expressions, by the places of their nodes

-- `true`, `false`, `1`, and a `1` that lost its type
abbrev pub typed_true : ℕ → TypedTree
typed_true n = lit (true_at n) (bool true)

abbrev pub typed_false : ℕ → TypedTree
typed_false n = lit (false_at n) (bool false)

abbrev pub typed_one : ℕ → TypedTree
typed_one n = lit (long_at n) (long (pos 1))

abbrev pub refused_one : ℕ → TypedTree
refused_one n = lit (no_type_at n) (long (pos 1))

abbrev pub typed_principal : ℕ → TypedTree
typed_principal n = var (user_at n) Var.Principal

-- `principal has vip`, `principal has age`, `principal.vip`, `principal.boss`
abbrev pub typed_has_vip : ℕ → ℕ → TypedTree
typed_has_vip n k = has_attr (bool_at n) (typed_principal k) (codes "vip")

abbrev pub typed_has_age : ℕ → ℕ → TypedTree
typed_has_age n k = has_attr (bool_at n) (typed_principal k) (codes "age")

abbrev pub typed_get_vip : ℕ → ℕ → TypedTree
typed_get_vip n k = get_attr (bool_at n) (typed_principal k) (codes "vip")

abbrev pub typed_get_boss : ℕ → ℕ → TypedTree
typed_get_boss n k = get_attr (user_at n) (typed_principal k) (codes "boss")

-- `principal.rank`, which has no type
abbrev pub untyped_get_rank : ℕ → ℕ → TypedTree
untyped_get_rank n k = get_attr (no_type_at n) (typed_principal k) (codes "rank")

-- `context has friend`
abbrev pub typed_has_friend : ℕ → ℕ → TypedTree
typed_has_friend n k =
    has_attr (true_at n) (var (typed a_context (node k)) Var.Context) (codes "friend")

-- `if context has friend then false else true`: the first branch stands for both
abbrev pub typed_false_with_friend : ℕ → ℕ → ℕ → ℕ → TypedTree
typed_false_with_friend n k l m =
    if_then_else (false_at n) (typed_has_friend k l) (typed_false m) (typed_false m)

-- ---- types

abbrev pub bool_type : Ty
bool_type = TBool AnyBool

-- ---- errors

abbrev pub error_at : ℕ → Fault → Finding
error_at n f = finding (sample_env Strict) (node n).place f

-- a Boolean, or any record or any entity, is expected, and a Long is there
abbrev pub not_a_bool : ℕ → Finding
not_a_bool n = error_at n (unexpected_type (TBool AnyBool ∷ []) TLong)

abbrev pub not_an_object : ℕ → Finding
not_an_object n = error_at n (unexpected_type (TRecord no_attrs true ∷ TAnyEntity ∷ []) TLong)

-- a Long is expected, and a type t is there
abbrev pub not_a_long : ℕ → Ty → Finding
not_a_long n t = error_at n (unexpected_type (TLong ∷ []) t)

-- an access to an optional attribute of a user that is not known to be there
abbrev pub unguarded : ℕ → Text → Finding
unguarded n x = error_at n (unsafe_optional_attribute_access a_user x)

abbrev pub unguarded_vip : ℕ → Finding
unguarded_vip n = unguarded n (codes "vip")

abbrev pub unguarded_boss : ℕ → Finding
unguarded_boss n = unguarded n (codes "boss")

-- an access to `rank`, an attribute that no user has
abbrev pub unknown_rank : ℕ → Finding
unknown_rank n = error_at n (unsafe_attribute_access a_user (codes "rank") false)
