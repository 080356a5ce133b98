-- Computed examples of the rules of `==`, `contains`, `containsAll` and `containsAny`.
use Rattle.std.specs.Prelude.{[], ◌∷◌, Some, codes}
use Rattle.cedar_types.specs.declared.base.expressions.operators.Var.{Var}
use Rattle.cedar_types.specs.declared.base.errors.type_errors.LubContext.TheVariants.{Equality, Contains, ContainsAnyAll}
use Rattle.cedar_types.specs.declared.base.types.BoolType.TheVariants.{True, False}
use Rattle.cedar_types.specs.declared.base.types.ValidationMode.TheVariants.{Permissive}
use Rattle.cedar_types.specs.Types.{TBool, TLong, TString, TSet, TAnySet}
use Rattle.cedar_types.specs.Expressions.Tree.{Shape, var}
use Rattle.cedar_types.specs.Errors.{incompatible_types, unexpected_type}
use Rattle.cedar_typing.specs.Examples.Expressions.{one, two, text, the, principal, context, dot, equal, contains, contains_all}
use Rattle.cedar_typing.specs.Examples.Expressions.{contains_any, set1, get_rank}
use Rattle.cedar_typing.specs.Examples.Rules.{IsTyped, IsTypedIn, IsRefused, IsRefusedIn, bool_type, error_at, unknown_rank}
use Rattle.cedar_typing.specs.Examples.World.{sample, unknown_action, greet, wave}

-- `action`; `principal.age`, a Long; `context.friend`, a user; `"a"`
abbrev pub action : Shape
action = var tt Var.Action

abbrev pub age : Shape
age = dot principal (codes "age")

abbrev pub friend : Shape
friend = dot context (codes "friend")

abbrev pub a_text : Shape
a_text = text (codes "a")

pub record EqualityTyping : Type 0 where
  -- two literals are compared, whatever their types: `1 == 1`, `1 == 2`, `1 == "a"`
  pub same_literals : IsTyped (equal one one) (TBool True)
  pub other_literals : IsTyped (equal one two) (TBool False)
  pub mixed_literals : IsTyped (equal one a_text) (TBool False)
  -- `action` counts as the environment's action, even if the schema does not declare it; then
  -- `action` fails
  pub action_is : IsTyped (equal action (the greet)) (TBool True)
  pub action_is_itself : IsTyped (equal action action) (TBool True)
  pub undeclared_action : IsRefusedIn unknown_action (equal action (the wave))
      (Some (TBool True)) []
  -- `principal == action`, of disjoint types: False; `principal == context.friend`: Bool
  pub disjoint : IsTyped (equal principal action) (TBool False)
  pub of_one_type : IsTyped (equal principal friend) bool_type
  -- `principal.age == "a"`: no bound, an error in Strict alone. The type is still Bool
  pub unbound : IsRefused (equal age a_text) (Some bool_type)
      (error_at 1 (incompatible_types (TLong ∷ TString ∷ []) Equality) ∷ [])
  pub unbound_permissive : IsTypedIn (sample Permissive) (equal age a_text) bool_type
  -- `principal.rank == "a"`: a side without a type adds no error
  pub side_missing : IsRefused (equal get_rank a_text) (Some bool_type) (unknown_rank 2 ∷ [])

pub record MemberTyping : Type 0 where
  -- `[1].contains(2)`; `[1].contains("a")`: no bound, an error in Strict alone
  pub has_member : IsTyped (contains (set1 one) two) bool_type
  pub no_member : IsRefused (contains (set1 one) a_text) (Some bool_type)
      (error_at 1 (incompatible_types (TLong ∷ TString ∷ []) Contains) ∷ [])
  pub no_member_permissive : IsTypedIn (sample Permissive) (contains (set1 one) a_text) bool_type
  -- `(1).contains("a")`: an error at the left side alone
  pub no_set : IsRefused (contains one a_text) (Some bool_type)
      (error_at 2 (unexpected_type (TAnySet ∷ []) TLong) ∷ [])
  -- `[1].containsAll([2])`, `[1].containsAny([2])`; `[1].containsAny(["a"])`: no bound, an error in
  -- Strict
  pub has_members : IsTyped (contains_all (set1 one) (set1 two)) bool_type
  pub has_some_members : IsTyped (contains_any (set1 one) (set1 two)) bool_type
  pub no_members : IsRefused (contains_any (set1 one) (set1 a_text)) (Some bool_type)
      (error_at 1 (incompatible_types (TSet TLong ∷ TSet TString ∷ []) ContainsAnyAll) ∷ [])
  -- `[1].containsAll(2)`: an error at the right side
  pub no_right_set : IsRefused (contains_all (set1 one) two) (Some bool_type)
      (error_at 4 (unexpected_type (TAnySet ∷ []) TLong) ∷ [])
