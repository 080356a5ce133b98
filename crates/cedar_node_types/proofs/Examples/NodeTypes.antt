-- The examples of nodes without a type, and of nodes whose value is not of their type.
use Rattle.std.proofs.Common.{◌≡◌, inl, inr, Bool, refl, sym, ◌∙◌, ap, arith}
use Rattle.std.specs.Prelude.{codes, pos}
use Rattle.cedar_types.specs.declared.base.names.slots.SlotId.{SlotId}
use Rattle.cedar_types.specs.declared.base.types.BoolType.TheVariants.{AnyBool}
use Rattle.cedar_types.specs.declared.base.types.ValidationMode.TheVariants.{Strict}
use Rattle.cedar_types.specs.Expressions.Tree.{slot}
use Rattle.cedar_types.specs.Environments.{DeclaredEnv}
use Rattle.cedar_types.specs.Names.{path_eq, uid_eq}
use Rattle.cedar_types.specs.Lemmas.Comparisons.{path_same}
use Rattle.cedar_types.specs.Types.{TBool}
use Rattle.cedar_typing.specs.Capabilities.{no_caps, union}
use Rattle.cedar_typing.specs.Eager.{no_tree}
use Rattle.cedar_typing.specs.Evaluation.Conformance.{IsEnvironmentOf}
use Rattle.cedar_node_types.specs.Reached.{Reaches, itself, left_of_and, right_of_and, base_of_has}
use Rattle.cedar_typing.specs.Examples.Expressions.{decimal_one, numbered}
use Rattle.cedar_typing.specs.Examples.Greeting.{number, words, one_value, greeting}
use Rattle.cedar_node_types.specs.Examples.NodeTypes.{LacksTypes}
use Rattle.cedar_node_types.specs.Examples.NodeTypes.{ConditionsMayLackTypes, has_mark_twice, mark_right, typed_mark_twice}
use Rattle.cedar_node_types.specs.Examples.NodeTypes.{UnreachedNeedNotFit, typed_slot, typed_decimal, WorldMustFit, NodeTypeExamples}
use Rattle.cedar_typing.specs.Examples.TypedCopies.{marked_resource}
use Rattle.cedar_typing.specs.Examples.World.{user, greet, decimal, decimal_function, a_user, decimal_type, unknown_action, sample}
use Rattle.cedar_node_types.specs.NodeTypes.{HasTypes, OnTypedCondition}
use Rattle.cedar_typing.specs.PolicyCheck.{policy_check}
use Rattle.cedar_typing.specs.PolicyCheck.Outcome.{passes}
use Rattle.cedar_typing.specs.Setting.{Setting}
use Rattle.cedar_typing.specs.TypedExpr.{Source}
use Rattle.cedar_typing.proofs.Basics.{none_is}
use Rattle.cedar_typing.proofs.Examples.Rules.{has}
use Rattle.cedar_typing.proofs.Examples.TypedCopies.{not_true}
use Rattle.cedar_typing.proofs.Policies.Check.{checked}

-- ---- nodes without a type

-- the verdict of the check as a function is one of the check
lacking : {s : Setting} {e : Source} {b : Bool} → passes (policy_check s e) ≡ b → (OnTypedCondition HasTypes (policy_check s e) → ⊥)
    → LacksTypes s e b
lacking {s} {e} {b} p f = record { verdict = policy_check s e; checks = checked s e; outcome = p; lacks = f }

no_environment : IsEnvironmentOf unknown_action.env.schema unknown_action.env.request_env → ⊥
no_environment (inl e) = not_true (ap (λ (d : DeclaredEnv). uid_eq d.action greet) e)
no_environment (inr h) = h

untyped : ConditionsMayLackTypes
untyped = record {
  of_error = lacking refl (λ h. none_is (h 5 no_tree (omega arith)).1);
  of_type = lacking refl (λ h. none_is (h 4 no_tree (omega arith)).1);
  type_unknowns = refl;
  of_action = lacking refl (λ h. none_is (h 4 no_tree (omega arith)).1);
  action_types = refl;
  of_unknown = lacking refl (λ h. none_is (h 4 no_tree (omega arith)).1);
  unknown_types = refl;
  unknown_actions = refl;
  of_environment = lacking refl (λ h. none_is (h 4 no_tree (omega arith)).1);
  environment_named = record { unknowns = refl; types = refl; actions = refl };
  not_environment = no_environment;
}

-- ---- a node that evaluation does not reach

not_reached : Reaches greeting typed_mark_twice mark_right → ⊥
not_reached (left_of_and (base_of_has r)) = elim r [ ]
not_reached (right_of_and e r) = cc

unreached : UnreachedNeedNotFit
unreached = record {
  typed = has (sample Strict) (numbered has_mark_twice) no_caps 1 (TBool AnyBool) (union marked_resource marked_resource)
      typed_mark_twice refl refl;
  left_is_false = refl;
  not_reached = not_reached;
  misfits = λ h. not_true (h mark_right itself);
}

-- ---- premises on the world

worlds : WorldMustFit
worlds = record {
  known = λ h. not_true (h _ itself);
  store = λ h. not_true (h _ itself);
  request = λ h. not_true (h _ itself);
  slot_typed = has (sample Strict) (numbered (slot tt SlotId.Resource)) no_caps 1 a_user no_caps typed_slot refl refl;
  slots = λ h. not_true (h _ itself);
  slots_unfit = λ h. not_true (sym (ap (path_eq user) (sym h.2)) ∙ path_same.itself user);
  call_typed = has (sample Strict) (numbered decimal_one) no_caps 1 decimal_type no_caps typed_decimal refl refl;
  functions = λ h. h _ itself;
  table_not_kept = λ k. k.returns decimal decimal_function refl (one_value (words (codes "1.0"))) (number (pos 1)) refl;
}

pub node_type_examples : NodeTypeExamples
node_type_examples = record { untyped = untyped; unreached = unreached; worlds = worlds }
