-- Computed examples of the rule of extended `has`.
use Rattle.std.specs.Prelude.{ℕ, true, false, [], ◌∷◌, Some, codes}
use Rattle.cedar_types.specs.declared.base.expressions.operators.Var.{Var}
use Rattle.cedar_types.specs.declared.base.types.BoolType.TheVariants.{True, False}
use Rattle.cedar_types.specs.declared.base.types.ValidationMode.TheVariants.{Strict}
use Rattle.cedar_types.specs.Names.{Text}
use Rattle.cedar_types.specs.Types.{Ty, TNever, TBool, TRecord, TEntity, TAnyEntity, no_attrs, attr}
use Rattle.cedar_types.specs.Expressions.Tree.{Shape, var, and, get_attr, ext_has_attr}
use Rattle.cedar_types.specs.Capability.{attribute}
use Rattle.cedar_types.specs.Errors.{Fault, unexpected_type, unsafe_attribute_access}
use Rattle.cedar_typing.specs.Capabilities.{Caps, no_caps, single, union}
use Rattle.cedar_typing.specs.Examples.Expressions.{one, principal, context, dot, has2, record1, get_boss, get_rank, node}
use Rattle.cedar_typing.specs.Examples.Rules.{TypesAs, TypesAsIn, IsTyped, IsTypedIn, IsRefused, IsRefusedIn, bool_type, bool_at, true_at}
use Rattle.cedar_typing.specs.Examples.Rules.{typed_principal, typed_get_boss, error_at, not_an_object, unguarded_boss, unknown_rank}
use Rattle.cedar_typing.specs.Examples.Rules.Equality.{friend}
use Rattle.cedar_typing.specs.Examples.Rules.Numbers.{nope}
use Rattle.cedar_typing.specs.Examples.Rules.Tags.{anyone}
use Rattle.cedar_typing.specs.Examples.World.{group, a_context, sample, in_context, hidden}
use Rattle.cedar_typing.specs.Setting.{Setting}
use Rattle.cedar_typing.specs.TypeTests.{object_types}
use Rattle.cedar_typing.specs.TypedExpr.{TypedTree, typed}

-- names of attributes
abbrev pub age : Text
age = codes "age"

abbrev pub boss : Text
boss = codes "boss"

abbrev pub home : Text
home = codes "home"

abbrev pub city : Text
city = codes "city"

abbrev pub vip : Text
vip = codes "vip"

abbrev pub rank : Text
rank = codes "rank"

-- `a has x.y.z`
abbrev pub has3 : Shape → Text → Text → Text → Shape
has3 a x y z = ext_has_attr tt a x (y ∷ z ∷ [])

-- the typed copy of `principal has boss.vip` at the place n, of type Bool
abbrev pub typed_boss_vip : ℕ → ℕ → TypedTree
typed_boss_vip n k = ext_has_attr (bool_at n) (typed_principal k) boss (vip ∷ [])

-- the capabilities that a chain on `principal` produces: the principal has a boss, and the boss has
-- the mark
abbrev pub with_boss : Caps
with_boss = single (attribute principal boss)

abbrev pub marked_boss : Caps
marked_boss = single (attribute get_boss vip)

-- `context` at the place n
abbrev pub typed_context : ℕ → TypedTree
typed_context n = var (typed a_context (node n)) Var.Context

-- a context with a team, of a type of which the schema knows nothing
abbrev pub in_team : Setting
in_team =
    in_context Strict (TRecord (attr (codes "team") (TEntity (group ∷ [])) true no_attrs) false)

-- the error of an attribute that the schema does not declare, and that may be there
abbrev pub unknown_attribute : Ty → Text → Fault
unknown_attribute t x = unsafe_attribute_access t x true

pub record ChainTyping : Type 0 where
  -- `principal has home.city`: Bool. The home earns a capability, and the city is required of a
  -- home
  pub of_record : TypesAs (has2 principal home city) bool_type
      (union (single (attribute principal home)) no_caps)
      (ext_has_attr (bool_at 1) (typed_principal 2) home (city ∷ []))
  -- `principal has boss.boss.vip`: each step produces that its attribute is there
  pub each_step : TypesAs (has3 principal boss boss vip) bool_type
      (union (union with_boss (single (attribute get_boss boss)))
      (single (attribute (dot get_boss boss) vip)))
      (ext_has_attr (bool_at 1) (typed_principal 2) boss (boss ∷ vip ∷ []))
  -- `principal has boss.vip && principal.boss.vip`: the chain makes both accesses known
  pub guards : TypesAs (and tt (has2 principal boss vip) (dot get_boss vip)) bool_type
      (union (union with_boss marked_boss) no_caps)
      (and (bool_at 1) (typed_boss_vip 2 3)
      (get_attr (bool_at 4) (typed_get_boss 5 6) vip))
  -- `principal has boss.vip` with the mark of `principal.boss` known: the second step is True, and
  -- produces nothing. The first is True if the boss is known, and the whole if both are
  pub second_known : TypesAsIn (sample Strict) marked_boss (has2 principal boss vip) bool_type
      (union with_boss no_caps) (typed_boss_vip 1 2)
  pub first_known : TypesAsIn (sample Strict) with_boss (has2 principal boss vip) bool_type
      marked_boss (typed_boss_vip 1 2)
  pub all_known : TypesAsIn (sample Strict) (union with_boss marked_boss)
      (has2 principal boss vip) (TBool True) no_caps
      (ext_has_attr (true_at 1) (typed_principal 2) boss (vip ∷ []))
  -- `{x: {y: 1}} has x.y`: True, because the records require both; `context has friend.vip`: only
  -- the first is required
  pub of_records : IsTyped
      (has2 (record1 (codes "x") (record1 (codes "y") one)) (codes "x") (codes "y")) (TBool True)
  pub first_required : TypesAs (has2 context (codes "friend") vip) bool_type
      (single (attribute friend vip))
      (ext_has_attr (bool_at 1) (typed_context 2) (codes "friend") (vip ∷ []))
  -- `principal has boss.rank`, `principal has rank.vip.age`: a False step ends the chain, which is
  -- False and produces nothing
  pub last_false : IsTyped (has2 principal boss rank) (TBool False)
  pub first_false : IsTyped (has3 principal rank vip age) (TBool False)
  -- `principal has age.city`: a Long has no attributes, which is an error at the whole, and Bool
  pub of_long : IsRefused (has2 principal age city) (Some bool_type) (not_an_object 1 ∷ [])
  -- `?principal has vip.age`, on any entity: the first access fails, an error at the base; a later
  -- one, in `context has team.vip.age`, is an error at the whole. As the last step each would be
  -- Bool
  pub first_access : IsRefused (has2 anyone vip age) (Some bool_type)
      (error_at 2 (unknown_attribute TAnyEntity vip) ∷ [])
  pub later_access : IsRefusedIn in_team (has3 context (codes "team") vip age) (Some bool_type)
      (error_at 1 (unknown_attribute (TEntity (group ∷ [])) vip) ∷ [])
  pub last_possible : IsTypedIn in_team (has2 context (codes "team") vip) bool_type
  -- `principal has vip.age`, on any entity in Partial: the first access has the type Never, which
  -- is neither a record nor an entity, so that is an error at the whole
  pub access_of_never : IsRefusedIn hidden (has2 principal vip age) (Some bool_type)
      (error_at 1 (unexpected_type object_types TNever) ∷ [])
  -- `principal.nope has vip.age`, on Never, in Partial: an error at the base
  pub of_never : IsRefusedIn hidden (has2 nope vip age) (Some bool_type)
      (error_at 2 (unexpected_type object_types TNever) ∷ [])
  -- `1 has vip.age`, `principal.rank has vip.age`: a base without a type adds no error, and the
  -- whole is Bool
  pub base_refused : IsRefused (has2 one vip age) (Some bool_type) (not_an_object 2 ∷ [])
  pub base_missing : IsRefused (has2 get_rank vip age) (Some bool_type) (unknown_rank 2 ∷ [])
  -- `principal.boss has home.city`, `principal.boss has boss.rank`: on a failed base with a type,
  -- the type of the rule, and no further error; `principal.boss has age.city`: the errors of both
  pub base_failed : IsRefused (has2 get_boss home city) (Some bool_type) (unguarded_boss 2 ∷ [])
  pub base_failed_false : IsRefused (has2 get_boss boss rank) (Some (TBool False))
      (unguarded_boss 2 ∷ [])
  pub both_refused : IsRefused (has2 get_boss age city) (Some bool_type)
      (unguarded_boss 2 ∷ not_an_object 1 ∷ [])
