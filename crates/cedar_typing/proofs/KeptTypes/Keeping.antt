-- The demands on a property of types that make each type that typing finds have it.
use Rattle.std.proofs.Common.{◌≡◌, Bool, true, false, List, [], ◌∷◌, Option, Some, None, if◌then◌else◌}
use Rattle.cedar_types.specs.declared.base.names.slots.SlotId.{SlotId}
use Rattle.cedar_types.specs.declared.base.types.BoolType.{BoolType}
use Rattle.cedar_types.specs.declared.base.types.BoolType.TheVariants.{True, False}
use Rattle.cedar_types.specs.Names.Ascending.{texts_ascending}
use Rattle.cedar_types.specs.Types.Bounds.{is_strict, lub}
use Rattle.cedar_types.specs.Environments.{DeclaredEnv, environments_of}
use Rattle.cedar_types.specs.Types.Lookups.{attribute_type, tag_types}
use Rattle.cedar_types.specs.Names.{Text, Path}
use Rattle.cedar_types.specs.Environments.RequestEnvs.{is_partial}
use Rattle.cedar_types.specs.Types.{Ty, TNever, TBool, TLong, TString, TSet, TRecord, TEntity, TExtension}
use Rattle.cedar_typing.specs.Rules.Records.{required_attrs}
use Rattle.cedar_typing.specs.Rules.Leaves.{slot_ty, bool_ty}
use Rattle.cedar_typing.specs.TypeEnv.{TypeEnv}
use Rattle.cedar_typing.proofs.Basics.Members.{AreAll}

module _ (Kept : Ty → Type 0) where
  -- the type has the property, if one was found
  abbrev pub HasKept : Option Ty → Type 0
  HasKept None = Unit {0}
  HasKept (Some t) = Kept t

  abbrev pub AreKept : List Ty → Type 0
  AreKept [] = Unit {0}
  AreKept (t ∷ ts) = Kept t × AreKept ts

  -- each type that was found has the property
  abbrev pub AllKept : List (Option Ty) → Type 0
  AllKept [] = Unit {0}
  AllKept (t ∷ ts) = HasKept t × AllKept ts

  pub pick : (b : Bool) (s t : Ty) → Kept s → Kept t → Kept (if b then s else t)
  pick true s t h k = h
  pick false s t h k = k

  pub either_kept : (b : Bool) (s t : Option Ty) → HasKept s → HasKept t → HasKept (if b then s else t)
  either_kept true s t h k = h
  either_kept false s t h k = k

pub record IsKeeping (Kept : Ty → Type 0) (env : TypeEnv) : Type 0 where
  pub booleans : (b : BoolType) → Kept (TBool b)
  pub longs : Kept TLong
  pub strings : Kept TString
  pub extensions : (n : Path) → Kept (TExtension n)
  pub entities : (p : Path) → Kept (TEntity (p ∷ []))
  pub sets : (t : Ty) → Kept t → Kept (TSet t)
  -- `[]`, which is an error in Strict
  pub empty_sets : is_strict env.mode ≡ false → Kept (TSet TNever)
  pub records : (ks : List Text) (ts : List Ty) → texts_ascending ks ≡ true → AreKept Kept ts → Kept (TRecord (required_attrs ks ts) false)
  pub bounds : (s t : Ty) → Kept s → Kept t → HasKept Kept (lub env.mode s t)
  pub attributes : (b : Ty) (x : Text) (t : Ty) (r : Bool) → Kept b
      → ◌≡◌ {A = Option (Ty × Bool)} (attribute_type env.schema b x) (Some (t, r)) → Kept t
  -- an attribute that a Partial schema may have left out
  pub hidden : is_partial env.mode ≡ true → Kept TNever
  pub tags : (b : Ty) → AreAll Kept (tag_types env.schema b)
  pub contexts : AreAll (λ (d : DeclaredEnv). Kept d.context) (environments_of env.schema.actions)
  pub slots : (s : SlotId) → Kept (slot_ty env.request_env s)

pub truth_value_kept : (Kept : Ty → Type 0) (env : TypeEnv) → IsKeeping Kept env → (b : Bool) → Kept (bool_ty b)
truth_value_kept Kept env keeps true = keeps.booleans True
truth_value_kept Kept env keeps false = keeps.booleans False
