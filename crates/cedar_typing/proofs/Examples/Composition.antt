-- The environments of the example templates, and the premises of the theorems on them.
use Rattle.std.proofs.Common.{◌≡◌, inl, inr, Bool, false, true≢false, Some, None, refl, sym, ◌∙◌, ap, subst}
use Rattle.cedar_types.specs.Names.{is_action_path}
use Rattle.cedar_types.specs.declared.base.types.ValidationMode.TheVariants.{Strict}
use Rattle.cedar_types.specs.Environments.RequestEnvs.{Env, Declared, Undeclared}
use Rattle.cedar_types.specs.declared.base.names.slots.SlotId.{SlotId}
use Rattle.cedar_types.specs.Templates.{any, PlainTemplate, condition_of}
use Rattle.cedar_types.specs.Environments.Linking.{checked_envs}
use Rattle.cedar_typing.specs.Evaluation.Conformance.{IsOneOf}
use Rattle.cedar_typing.specs.Composition.{in_env, own_env, IsIrrelevant, IsIrrelevantInAll}
use Rattle.cedar_typing.specs.Examples.Composition.{template, slot_is_robot, acting_schema, acting_env, greets, robots_template}
use Rattle.cedar_typing.specs.Examples.Composition.{EnvironmentsAre, SlotsInTheRestAreNot, OwnEnvMayBeMissing}
use Rattle.cedar_typing.specs.Examples.World.{user, sample}
use Rattle.cedar_typing.specs.PolicyCheck.{Verdict, PolicyChecks, policy_check, SameVerdict, same_success, same_irrelevant, same_failure}
use Rattle.cedar_typing.specs.Setting.{Setting}
use Rattle.cedar_typing.specs.TypedExpr.{Source}
use Rattle.cedar_typing.proofs.Examples.World.{greets as greets_fit, greeting_conforms}
use Rattle.cedar_typing.proofs.Policies.Check.{checked}
use Rattle.cedar_typing.proofs.Policies.Verdicts.{verdict_at_most}

pub environments : EnvironmentsAre
environments = record {
  no_slot = refl;
  equal_to = refl;
  within_it = refl;
  typed_within_it = refl;
  anywhere = refl;
  anywhere_typed = refl;
  both = refl;
  undeclared = refl;
  idle = refl;
}

-- ---- verdicts that agree

still_irrelevant : (u v : Verdict) → SameVerdict u v → IsIrrelevant u → IsIrrelevant v
still_irrelevant u v same_success h = absurd h
still_irrelevant u v (same_irrelevant p) h = tt
still_irrelevant u v (same_failure p) h = absurd h

by_function : (s : Setting) (e : Source) → IsIrrelevant (policy_check s e) → (v : Verdict) → PolicyChecks s e v → IsIrrelevant v
by_function s e h v c = still_irrelevant (policy_check s e) v (verdict_at_most s e (policy_check s e) v (checked s e) c) h

abbrev AreAllIrrelevant : Env → Type 0
AreAllIrrelevant e = (v : Verdict) → PolicyChecks (in_env (sample Strict) e) (condition_of robots_template) v → IsIrrelevant v

robots_irrelevant : IsIrrelevantInAll (sample Strict) robots_template
robots_irrelevant e (inl q) =
    subst AreAllIrrelevant (sym q) (by_function (in_env (sample Strict) (greets (Some user) (Some user)))
    (condition_of robots_template) tt)
robots_irrelevant e (inr h) = absurd h

pub slots_in_the_rest : SlotsInTheRestAreNot
slots_in_the_rest = record {
  faultless = record { mode = refl; schema = refl; formed = refl; functions = refl; closed = refl };
  environments = refl;
  irrelevant = robots_irrelevant;
  request = (_, inl refl, greets_fit);
  store = greeting_conforms.store;
  functions = greeting_conforms.functions;
  is_true = refl;
}

-- ---- the request's own environment

-- the principal's slot is linked to a type that actions have
abbrev linked_to_action : Env → Bool
linked_to_action (Declared d None r) = false
linked_to_action (Declared d (Some p) r) = is_action_path p
linked_to_action Undeclared = false

abbrev acting_template : PlainTemplate
acting_template = template any any (Some (slot_is_robot SlotId.Principal))

abbrev acting_own : Env
acting_own = own_env acting_template acting_env

not_linked : (e : Env) → linked_to_action e ≡ false → acting_own ≡ e → ⊥
not_linked e n q = true≢false (ap linked_to_action q ∙ n)

missing : IsOneOf acting_own (checked_envs acting_schema Strict acting_template) → ⊥
missing (inl q) = not_linked _ refl q
missing (inr (inl q)) = not_linked _ refl q
missing (inr (inr h)) = h

pub own_env_missing : OwnEnvMayBeMissing
own_env_missing = record {
  faultless = refl;
  declared = inl refl;
  missing = missing;
}
