-- A copy from which a part was dropped, and worlds in which a copy has another outcome, because one premise of the laws
-- fails.
use Rattle.std.specs.Prelude.{◌≡◌, true, ◌∷◌, codes}
use Rattle.cedar_types.specs.declared.base.expressions.operators.Var.{Var}
use Rattle.cedar_types.specs.declared.base.types.BoolType.TheVariants.{True, False}
use Rattle.cedar_types.specs.declared.base.types.ValidationMode.TheVariants.{Strict}
use Rattle.cedar_types.specs.Capability.{attribute}
use Rattle.cedar_types.specs.Expressions.Tree.{Shape, var, and, or, has_attr, is_type}
use Rattle.cedar_types.specs.Types.{Ty, TBool}
use Rattle.cedar_types.specs.Values.{VBool, more_entries}
use Rattle.cedar_types.specs.Values.Stores.{ConformingStore}
use Rattle.cedar_typing.specs.Capabilities.{Caps, no_caps, single}
use Rattle.cedar_typing.specs.Evaluation.Conformance.{Fits, AllHold}
use Rattle.cedar_typing.specs.Evaluation.Eval.{eval}
use Rattle.cedar_typing.specs.Evaluation.World.{World, Gives}
use Rattle.cedar_typing.specs.Examples.Expressions.{true_lit, false_lit, one, principal, has, has_friend, numbered}
use Rattle.cedar_typing.specs.Examples.Greeting.{stored_alice, sample_store, greeting}
use Rattle.cedar_typing.specs.Examples.Rules.{with_friend, user_at, true_at, false_at, typed_principal, typed_has_friend}
use Rattle.cedar_typing.specs.Examples.World.{user, robot, alice, sample_schema, sample}
use Rattle.cedar_typing.specs.Rules.{Derives}
use Rattle.cedar_typing.specs.TypedExpr.{TypedTree}

-- with the prior capabilities p, e has the type t and produces c, and x is its typed copy
abbrev pub IsTypedAs : Caps → Shape → Ty → Caps → TypedTree → Type 0
IsTypedAs p e t c x = Derives (sample Strict) (numbered e) p 1 t c x

-- in the world the copy has another outcome
abbrev pub Differs : World → Shape → TypedTree → Type 0
Differs world e x = eval world x ≡ eval world (numbered e) → ⊥

-- `context has friend || 1`: the left side stands for the whole, and has its outcome
pub record CopiesMayBeShorter : Type 0 where
  pub typed : IsTypedAs no_caps (or tt has_friend one) (TBool True) with_friend (typed_has_friend 1 3)
  pub copy : eval greeting (typed_has_friend 1 3) ≡ Gives (VBool true)
  pub whole : eval greeting (numbered (or tt has_friend one)) ≡ Gives (VBool true)

-- `resource has vip || true`, with the prior capability that the resource has the mark, which is false
abbrev pub marked_resource : Caps
marked_resource = single (attribute (var tt Var.Resource) (codes "vip"))

abbrev pub marked_or_true : Shape
marked_or_true = or tt (has (var tt Var.Resource) (codes "vip")) true_lit

abbrev pub marked_alone : TypedTree
marked_alone = has_attr (true_at 1) (var (user_at 3) Var.Resource) (codes "vip")

pub record WhatIsKnownMustHold : Type 0 where
  pub not_held : AllHold greeting marked_resource → ⊥
  pub typed : IsTypedAs marked_resource marked_or_true (TBool True) marked_resource marked_alone
  pub differs : Differs greeting marked_or_true marked_alone

-- `principal has rank && false`, in a store with an attribute of alice that the schema does not declare
abbrev pub ranked : World
ranked = record greeting {
  store =
      (alice, record stored_alice { attributes = more_entries (codes "rank") (VBool true) stored_alice.attributes })
      ∷ sample_store;
}

abbrev pub ranked_and_false : Shape
ranked_and_false = and tt (has principal (codes "rank")) false_lit

abbrev pub ranked_alone : TypedTree
ranked_alone = has_attr (false_at 1) (typed_principal 3) (codes "rank")

pub record StoreMustConform : Type 0 where
  pub not_conforming : ConformingStore sample_schema ranked.store → ⊥
  pub typed : IsTypedAs no_caps ranked_and_false (TBool False) no_caps ranked_alone
  pub differs : Differs ranked ranked_and_false ranked_alone

-- `principal is User || true`, in a world in which the principal is a robot
abbrev pub robots : World
robots = record greeting { request = record greeting.request { principal = record { entity_type = robot; eid = codes "r2" } } }

abbrev pub user_or_true : Shape
user_or_true = or tt (is_type tt principal user) true_lit

abbrev pub user_alone : TypedTree
user_alone = is_type (true_at 1) (typed_principal 3) user

pub record RequestMustFit : Type 0 where
  pub not_fitting : Fits (sample Strict).env.request_env robots.request robots.slots → ⊥
  pub typed : IsTypedAs no_caps user_or_true (TBool True) no_caps user_alone
  pub differs : Differs robots user_or_true user_alone

pub record CopyExamples : Type 0 where
  pub shorter : CopiesMayBeShorter
  pub known : WhatIsKnownMustHold
  pub store : StoreMustConform
  pub request : RequestMustFit
