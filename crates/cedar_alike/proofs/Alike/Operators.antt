-- Operators on two operands have one form in two environments in which the operands stand for the same
-- literals.
use Rattle.std.proofs.Common.{◌≡◌, if◌then◌else◌, List, [], ◌∷◌, Option, Some, None, refl, ap}
use Rattle.cedar_types.specs.declared.base.errors.type_errors.LubContext.{LubContext}
use Rattle.cedar_types.specs.declared.base.errors.type_errors.LubContext.TheVariants.{Contains, ContainsAnyAll}
use Rattle.cedar_types.specs.declared.base.expressions.operators.BinaryOp.{BinaryOp}
use Rattle.cedar_types.specs.declared.base.location.Loc.{Loc}
use Rattle.cedar_types.specs.declared.base.types.BoolType.TheVariants.{AnyBool}
use Rattle.cedar_types.specs.Environments.RequestEnvs.{Env}
use Rattle.cedar_types.specs.Expressions.Tree.{binary}
use Rattle.cedar_types.specs.Expressions.View.{Written}
use Rattle.cedar_types.specs.Types.{Ty, TBool}
use Rattle.cedar_types.specs.Types.Bounds.{is_strict, lub, list_lub}
use Rattle.cedar_typing.specs.Capabilities.{Caps}
use Rattle.cedar_typing.specs.Composition.{in_env}
use Rattle.cedar_typing.specs.Eager.{gives_unless, on_two}
use Rattle.cedar_typing.specs.Rules.Binary.{binary_form}
use Rattle.cedar_typing.specs.Rules.Equality.{literal_of, member_type}
use Rattle.cedar_typing.specs.Rules.Membership.{literal_entity, ancestors_of}
use Rattle.cedar_typing.specs.Rules.Tags.{tag_of, get_known_tag, get_tag_table}
use Rattle.cedar_typing.specs.Setting.{Setting}
use Rattle.cedar_typing.specs.TypeEnv.{TypeEnv}
use Rattle.cedar_typing.specs.TypeTests.{string_types, set_types, entity_types}
use Rattle.cedar_typing.specs.TypeTests.Joins.{bound_errors, join_errors, strict_errors}
use Rattle.cedar_typing.specs.TypedExpr.{Source, place_of}
use Rattle.cedar_typing.proofs.Composition.SameForms.{in_same, equal_same}
use Rattle.cedar_typing.proofs.Rules.SameTables as same

module _ (s : Setting) (here elsewhere : Env) where
  abbrev e1 : TypeEnv
  e1 = (in_env s here).env

  abbrev e2 : TypeEnv
  e2 = (in_env s elsewhere).env

  -- ---- bounds

  bound_same : (l : Option Loc) (x : LubContext) (t u : Ty) (v : Option Ty) → bound_errors e1 l x t u v ≡ bound_errors e2 l x t u v
  bound_same l x t u None = refl
  bound_same l x t u (Some v) = refl

  join_same : (l : Option Loc) (x : LubContext) (t u : Option Ty) → join_errors e1 l x t u ≡ join_errors e2 l x t u
  join_same l x None u = refl
  join_same l x (Some t) None = refl
  join_same l x (Some t) (Some u) = bound_same l x t u (lub s.env.mode t u)

  strict_same : (l : Option Loc) (x : LubContext) (t u : Option Ty) → strict_errors e1 l x t u ≡ strict_errors e2 l x t u
  strict_same l x t u = λ i. if is_strict s.env.mode then join_same l x t u i else []

  -- ---- tags

  tag_known : (l : Option Loc) (t : Ty) (ts : List Ty) → get_known_tag e1 l t ts ≡ get_known_tag e2 l t ts
  tag_known l t [] = refl
  tag_known l t (u ∷ ts) = same.tag_bounded s.env s.env.mode s.env.mode here elsewhere l (u ∷ ts) (list_lub s.env.mode (u ∷ ts))

  get_tagged : (l : Option Loc) (known : _) (t : Option Ty) → get_tag_table e1 l known t ≡ get_tag_table e2 l known t
  get_tagged l = same.get_tagged s.env s.env.mode s.env.mode here elsewhere l (tag_known l)

  -- ---- all operators

  pub binary_same : (m : Written) (prior : Caps) (a b : Source) (o : BinaryOp)
      → literal_of here a ≡ literal_of elsewhere a → literal_of here b ≡ literal_of elsewhere b
      → ancestors_of here b ≡ ancestors_of elsewhere b
      → binary_form e1 m prior a b o ≡ binary_form e2 m prior a b o
  binary_same m prior a b BinaryOp.Eq h k j = equal_same s here elsewhere m a b h k
  binary_same m prior a b BinaryOp.Less h k j =
      λ i. on_two m None None
      (λ t u. same.compared s.env s.env.mode s.env.mode here elsewhere (place_of a) (place_of b) t u i)
      (λ k x y. binary k BinaryOp.Less x y)
  binary_same m prior a b BinaryOp.LessEq h k j =
      λ i. on_two m None None
      (λ t u. same.compared s.env s.env.mode s.env.mode here elsewhere (place_of a) (place_of b) t u i)
      (λ k x y. binary k BinaryOp.LessEq x y)
  binary_same m prior a b BinaryOp.Add h k j = refl
  binary_same m prior a b BinaryOp.Sub h k j = refl
  binary_same m prior a b BinaryOp.Mul h k j = refl
  binary_same m prior a b BinaryOp.In h k j = in_same s here elsewhere m a b (ap literal_entity h) j
  binary_same m prior a b BinaryOp.Contains h k j =
      λ i. on_two m (Some set_types) None
      (λ t u. gives_unless (strict_same m.place Contains (member_type t) u i) (TBool AnyBool))
      (λ k x y. binary k BinaryOp.Contains x y)
  binary_same m prior a b BinaryOp.ContainsAll h k j =
      λ i. on_two m (Some set_types) (Some set_types)
      (λ t u. gives_unless (strict_same m.place ContainsAnyAll t u i) (TBool AnyBool))
      (λ k x y. binary k BinaryOp.ContainsAll x y)
  binary_same m prior a b BinaryOp.ContainsAny h k j =
      λ i. on_two m (Some set_types) (Some set_types)
      (λ t u. gives_unless (strict_same m.place ContainsAnyAll t u i) (TBool AnyBool))
      (λ k x y. binary k BinaryOp.ContainsAny x y)
  binary_same m prior a b BinaryOp.GetTag h k j =
      λ i. on_two m (Some entity_types) (Some string_types)
      (λ t u. get_tagged m.place (prior (tag_of a b)) t i) (λ k x y. binary k BinaryOp.GetTag x y)
  binary_same m prior a b BinaryOp.HasTag h k j =
      λ i. on_two m (Some entity_types) (Some string_types)
      (λ t u. same.has_tagged s.env s.env.mode s.env.mode here elsewhere m.place (tag_of a b) (prior (tag_of a b)) t i)
      (λ k x y. binary k BinaryOp.HasTag x y)
