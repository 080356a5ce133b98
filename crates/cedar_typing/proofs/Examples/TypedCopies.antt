-- The examples of typed copies compute to the results that are stated.
use Rattle.std.proofs.Common.{◌≡◌, true, false, true≢false, refl, sym, ◌∙◌, ap, subst}
use Rattle.std.specs.Prelude.{codes}
use Rattle.cedar_types.specs.declared.base.expressions.operators.Var.{Var}
use Rattle.cedar_types.specs.declared.base.types.BoolType.TheVariants.{True, False}
use Rattle.cedar_types.specs.declared.base.types.ValidationMode.TheVariants.{Strict}
use Rattle.cedar_types.specs.Capability.{attribute}
use Rattle.cedar_types.specs.Expressions.Tree.{var, or}
use Rattle.cedar_types.specs.Names.{path_eq}
use Rattle.cedar_types.specs.Lemmas.Comparisons.{path_same}
use Rattle.cedar_types.specs.Types.{TBool}
use Rattle.cedar_typing.specs.Capabilities.{no_caps}
use Rattle.cedar_typing.specs.Evaluation.World.{Outcome}
use Rattle.cedar_typing.specs.Soundness.{IsTrueOutcome}
use Rattle.cedar_typing.specs.Examples.Expressions.{one, has_friend, numbered}
use Rattle.cedar_typing.specs.Examples.Rules.{with_friend, typed_has_friend}
use Rattle.cedar_typing.specs.Examples.World.{user, alice, sample}
use Rattle.cedar_typing.proofs.Examples.Rules.{has}
use Rattle.cedar_typing.specs.Examples.TypedCopies.{CopiesMayBeShorter, marked_resource, marked_or_true, marked_alone}
use Rattle.cedar_typing.specs.Examples.TypedCopies.{WhatIsKnownMustHold, ranked_and_false, ranked_alone, StoreMustConform, user_or_true}
use Rattle.cedar_typing.specs.Examples.TypedCopies.{user_alone, RequestMustFit, CopyExamples}

pub not_true : false ≡ true → ⊥
not_true h = true≢false (sym h)

-- an outcome that is true is not one that is not true
pub apart : (o o' : Outcome) → o ≡ o' → IsTrueOutcome o → (IsTrueOutcome o' → ⊥) → ⊥
apart o o' e h f = f (subst IsTrueOutcome e h)

shorter : CopiesMayBeShorter
shorter = record {
  typed = has (sample Strict) (numbered (or tt has_friend one)) no_caps 1 (TBool True) with_friend (typed_has_friend 1 3) refl refl;
  copy = refl;
  whole = refl;
}

known : WhatIsKnownMustHold
known = record {
  not_held = λ h. not_true (h (attribute (var tt Var.Resource) (codes "vip")) refl);
  typed = has (sample Strict) (numbered marked_or_true) marked_resource 1 (TBool True) marked_resource marked_alone refl refl;
  differs = λ e. apart _ _ (sym e) refl not_true;
}

store : StoreMustConform
store = record {
  not_conforming = λ h. not_true ((h.entities alice _ refl).attributes.1.0);
  typed = has (sample Strict) (numbered ranked_and_false) no_caps 1 (TBool False) no_caps ranked_alone refl refl;
  differs = λ e. apart _ _ e refl not_true;
}

request : RequestMustFit
request = record {
  not_fitting = λ h. not_true (ap (path_eq user) h.0.principal ∙ path_same.itself user);
  typed = has (sample Strict) (numbered user_or_true) no_caps 1 (TBool True) no_caps user_alone refl refl;
  differs = λ e. apart _ _ (sym e) refl not_true;
}

pub copy_examples : CopyExamples
copy_examples = record { shorter = shorter; known = known; store = store; request = request }
