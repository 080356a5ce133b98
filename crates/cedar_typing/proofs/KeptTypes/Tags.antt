-- The types of `hasTag` and `getTag` are kept if those of tags are.
use Rattle.std.proofs.Common.{◌≡◌, Bool, true, false, List, [], ◌∷◌, Option, Some, None, if◌then◌else◌, refl, subst}
use Rattle.cedar_types.specs.declared.base.types.BoolType.TheVariants.{AnyBool, True, False}
use Rattle.cedar_types.specs.Types.{Ty, TNever, TBool}
use Rattle.cedar_types.specs.Expressions.View.{Written}
use Rattle.cedar_types.specs.Types.Bounds.{lub, list_lub}
use Rattle.cedar_types.specs.Types.Lookups.{tag_types}
use Rattle.cedar_types.specs.Errors.{Finding}
use Rattle.cedar_typing.specs.Capabilities.{Caps}
use Rattle.cedar_typing.specs.Eager.{refuses}
use Rattle.cedar_typing.specs.Rules.Tags.{tag_of, has_tag_type, has_tag_table, has_tag_form, tag_by_bound, get_known_tag, get_tag_table}
use Rattle.cedar_typing.specs.Rules.Tags.{get_tag_form}
use Rattle.cedar_typing.specs.TypeEnv.{TypeEnv}
use Rattle.cedar_typing.specs.TypedExpr.{Source}
use Rattle.cedar_typing.proofs.Bounds.Lists.{bound_keeps}
use Rattle.cedar_typing.proofs.Basics.Members.{AreAll}
use Rattle.cedar_typing.proofs.KeptTypes.Eager.{decided_type, KeptForm}
use Rattle.cedar_typing.proofs.KeptTypes.Keeping.{HasKept, IsKeeping, pick}

module _ (Kept : Ty → Type 0) (env : TypeEnv) (keeps : IsKeeping Kept env) (m : Written) (prior : Caps) (a b : Source) where
  -- ---- `hasTag`

  test_kept : (ts : List Ty) (known : Bool) → Kept (has_tag_type ts known)
  test_kept [] known = keeps.booleans False
  test_kept (t ∷ ts) known = pick Kept known (TBool True) (TBool AnyBool) (keeps.booleans True) (keeps.booleans AnyBool)

  test_decided : (s : Ty) → HasKept Kept (decided_type (has_tag_table env m.place (tag_of a b) (prior (tag_of a b)) (Some s)))
  test_decided TNever = tt
  test_decided s = test_kept (tag_types env.schema s) (prior (tag_of a b))

  pub has_tag_kept : KeptForm Kept (has_tag_form env m prior a b)
  has_tag_kept [] h = tt
  has_tag_kept (None ∷ ts) h = tt
  has_tag_kept (Some s ∷ ts) h = test_decided s

  -- ---- `getTag`

  pair_kept : (s t u : Ty) → lub env.mode s t ≡ Some u → Kept s → Kept t → Kept u
  pair_kept s t u e n k = subst (HasKept Kept) e (keeps.bounds s t n k)

  bound_kept : (t : Ty) (ts : List Ty) (bound : Option Ty) → list_lub env.mode (t ∷ ts) ≡ bound → AreAll Kept (t ∷ ts) → HasKept Kept bound
  bound_kept t ts None e n = tt
  bound_kept t ts (Some u) e n = bound_keeps env.mode Kept pair_kept t u ts e n

  by_bound_kept : (ts : List Ty) (bound : Option Ty) → HasKept Kept bound → HasKept Kept (decided_type (tag_by_bound env m.place ts bound))
  by_bound_kept ts None h = tt
  by_bound_kept ts (Some u) h = h

  types_decided : (s : Ty) (ts : List Ty) → AreAll Kept ts → HasKept Kept (decided_type (get_known_tag env m.place s ts))
  types_decided s [] n = tt
  types_decided s (t ∷ ts) n = by_bound_kept (t ∷ ts) (list_lub env.mode (t ∷ ts)) (bound_kept t ts (list_lub env.mode (t ∷ ts)) refl n)

  known_decided : (known : Bool) (s : Ty) (fs : List Finding)
      → HasKept Kept (decided_type (if known then get_known_tag env m.place s (tag_types env.schema s) else refuses None fs))
  known_decided true s fs = types_decided s (tag_types env.schema s) (keeps.tags s)
  known_decided false s fs = tt

  tag_decided : (s : Ty) → HasKept Kept (decided_type (get_tag_table env m.place (prior (tag_of a b)) (Some s)))
  tag_decided TNever = tt
  tag_decided s = known_decided (prior (tag_of a b)) s _

  pub get_tag_kept : KeptForm Kept (get_tag_form env m prior a b)
  get_tag_kept [] h = tt
  get_tag_kept (None ∷ ts) h = tt
  get_tag_kept (Some s ∷ ts) h = tag_decided s
