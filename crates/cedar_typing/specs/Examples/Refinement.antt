-- Types in which a name comes twice, as in no type of the program: for them the answers of Strict are not kept in Permissive.
-- Permissive says beyond.
use Rattle.std.specs.Prelude.{◌≡◌, true, false, Some, codes}
use Rattle.cedar_types.specs.declared.base.types.BoolType.{BoolType}
use Rattle.cedar_types.specs.declared.base.types.BoolType.TheVariants.{AnyBool, True, False}
use Rattle.cedar_types.specs.declared.base.types.ValidationMode.{ValidationMode}
use Rattle.cedar_types.specs.declared.base.types.ValidationMode.TheVariants.{Strict, Permissive}
use Rattle.cedar_types.specs.Types.{Ty, TLong, TBool, TSet, TRecord, attr, no_attrs}
use Rattle.cedar_types.specs.Types.Bounds.{lub}
use Rattle.cedar_types.specs.Expressions.Tree.{Shape}
use Rattle.cedar_typing.specs.Capabilities.{no_caps}
use Rattle.cedar_typing.specs.Examples.Expressions.{context, dot, set2, numbered}
use Rattle.cedar_typing.specs.Examples.Rules.{IsTypedIn}
use Rattle.cedar_typing.specs.Examples.World.{in_context}
use Rattle.cedar_typing.specs.Refinement.{IsKept}
use Rattle.cedar_typing.specs.Setting.{Setting}

-- a name that comes twice
abbrev pub twice : BoolType → Ty
twice k = TRecord (attr (codes "a") TLong true (attr (codes "a") (TBool k) true no_attrs)) false

-- the bound of two such records in Permissive: an open record
abbrev pub one_a : Ty
one_a = TRecord (attr (codes "a") TLong true no_attrs) true

-- a context with two such records, in an environment that a host makes
abbrev pub with_twice : ValidationMode → Setting
with_twice m =
    in_context m
    (TRecord
    (attr (codes "one") (twice True) true (attr (codes "other") (twice False) true no_attrs)) false)

-- `[context.one, context.other]`
abbrev pub both_records : Shape
both_records = set2 (dot context (codes "one")) (dot context (codes "other"))

pub record FormIsNeededInStrict : Type 0 where
  -- the bound in Strict is not that in Permissive
  pub strict_bound : lub Strict (twice True) (twice False) ≡ Some (twice AnyBool)
  pub permissive_bound : lub Permissive (twice True) (twice False) ≡ Some one_a
  -- so a set has another type in Permissive
  pub strict_set : IsTypedIn (with_twice Strict) both_records (TSet (twice AnyBool))
  pub permissive_set : IsTypedIn (with_twice Permissive) both_records (TSet one_a)
  -- so the laws are false there
  pub bound_breaks : ((s t u : Ty) → lub Strict s t ≡ Some u → lub Permissive s t ≡ Some u) → ⊥
  pub breaks : IsKept (with_twice Strict) (numbered both_records) no_caps 1 → ⊥
