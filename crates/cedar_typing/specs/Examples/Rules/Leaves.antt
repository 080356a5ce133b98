-- Computed examples of the rules of literals, variables, slots and unknowns.
use Rattle.std.specs.Prelude.{[], ◌∷◌, None, codes}
use Rattle.cedar_types.specs.declared.base.expressions.operators.Var.{Var}
use Rattle.cedar_types.specs.declared.base.names.slots.SlotId.{SlotId}
use Rattle.cedar_types.specs.declared.base.types.BoolType.TheVariants.{False}
use Rattle.cedar_types.specs.declared.base.types.ValidationMode.TheVariants.{Partial}
use Rattle.cedar_types.specs.Names.{Uid}
use Rattle.cedar_types.specs.Types.{Ty, TBool, TLong, TString, TEntity, TAnyEntity}
use Rattle.cedar_types.specs.Expressions.Tree.{string, entity, lit, var, slot, unknown}
use Rattle.cedar_types.specs.Expressions.View.{no_name}
use Rattle.cedar_typing.specs.Capabilities.{no_caps}
use Rattle.cedar_typing.specs.Examples.Expressions.{false_lit, one, text, the, principal, node}
use Rattle.cedar_typing.specs.Examples.Rules.{TypesAs, TypesAsIn, FailsWith, FailsWithIn, user_at, no_type_at, typed_false, typed_one}
use Rattle.cedar_typing.specs.Examples.Rules.{typed_principal}
use Rattle.cedar_typing.specs.Examples.World.{named, group, alice, a_user, an_action, sample, unknown_action, hidden}
use Rattle.cedar_typing.specs.TypedExpr.{typed, untyped}

-- `Group::"staff"`, whose type the schema does not know
abbrev pub staff : Uid
staff = record { entity_type = group; eid = codes "staff" }

abbrev pub a_group : Ty
a_group = TEntity (group ∷ [])

pub record LeafTyping : Type 0 where
  -- `false`, `1`, `"a"`, `User::"alice"`
  pub literal_bool : TypesAs false_lit (TBool False) no_caps (typed_false 1)
  pub literal_long : TypesAs one TLong no_caps (typed_one 1)
  pub literal_string : TypesAs (text (codes "a")) TString no_caps
      (lit (typed TString (node 1)) (string (codes "a")))
  pub literal_entity : TypesAs (the alice) a_user no_caps (lit (user_at 1) (entity alice))
  -- `Group::"staff"`: in Strict it fails, without an error; in Partial it has its type
  pub unknown_entity : FailsWith (the staff) (lit (no_type_at 1) (entity staff)) []
  pub unknown_entity_partial : TypesAsIn (sample Partial) no_caps (the staff) a_group no_caps
      (lit (typed a_group (node 1)) (entity staff))
  -- `principal`, `action`, and the principal in the environment of undeclared actions
  pub variable_principal : TypesAs principal a_user no_caps (typed_principal 1)
  pub variable_action : TypesAs (var tt Var.Action) an_action no_caps
      (var (typed an_action (node 1)) Var.Action)
  pub variable_hidden : TypesAsIn hidden no_caps principal TAnyEntity no_caps
      (var (typed TAnyEntity (node 1)) Var.Principal)
  -- `action`, which the schema does not declare: it fails, without an error
  pub variable_missing : FailsWithIn unknown_action (var tt Var.Action)
      (var (no_type_at 1) Var.Action) []
  -- `?resource`, which is linked to users, and `?principal`, which is not linked
  pub slot_linked : TypesAs (slot tt SlotId.Resource) a_user no_caps
      (slot (user_at 1) SlotId.Resource)
  pub slot_free : TypesAs (slot tt SlotId.Principal) TAnyEntity no_caps
      (slot (typed TAnyEntity (node 1)) SlotId.Principal)
  -- `unknown(u)`: it fails, and has no place
  pub unknown_value : FailsWith (unknown tt (named (codes "u")))
      (unknown (untyped (record { place = None; names = no_name })) (named (codes "u"))) []
