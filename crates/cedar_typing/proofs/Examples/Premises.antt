-- The premises of type soundness hold for the world of the examples, and some fail for other data.
use Rattle.std.proofs.Common.{◌≡◌, inl, true, false, refl, sym, ◌∙◌, ap}
use Rattle.std.specs.Prelude.{pos, codes}
use Rattle.cedar_types.specs.declared.base.types.ValidationMode.TheVariants.{Strict}
use Rattle.cedar_types.specs.Names.{path_eq}
use Rattle.cedar_types.specs.Lemmas.Comparisons.{path_same}
use Rattle.cedar_types.specs.Capability.{attribute}
use Rattle.cedar_typing.specs.Examples.Expressions.{principal}
use Rattle.cedar_typing.specs.Examples.Greeting.{number, words, one_value, greeting}
use Rattle.cedar_typing.specs.Examples.Premises.{guarded_condition, PremisesAreMet, PremisesCanFail}
use Rattle.cedar_typing.specs.Examples.World.{user, decimal, duration, ip_address, decimal_function, sample}
use Rattle.cedar_typing.proofs.Basics.{none_is}
use Rattle.cedar_typing.proofs.Examples.World.{greets, sample_reliable, greeting_conforms}
use Rattle.cedar_typing.proofs.Policies.Check.{checked}
use Rattle.cedar_typing.proofs.Soundness.Capabilities.{hold_just}

pub premises : PremisesAreMet
premises = record {
  faultless = refl;
  faultless_functions = refl;
  reliable = sample_reliable;
  request = (_, inl refl, greets);
  world = greeting_conforms;
  bound = (((tt, tt), tt), (tt, ((tt, (tt, ((tt, tt), ((tt, tt), tt)))), tt), tt));
  held = hold_just greeting (attribute principal (codes "vip")) refl;
  checks = (_, checked (sample Strict) guarded_condition);
  evaluates = refl;
  fails = refl;
}

false_is_not_true : false ≡ true → ⊥
false_is_not_true h = cc

pub failures : PremisesCanFail
failures = record {
  held = λ h. false_is_not_true h;
  slots = λ h. false_is_not_true (sym (ap (path_eq user) h) ∙ path_same.itself user);
  bound = λ h. h;
  functions = λ h. none_is (sym h);
  returns = λ k. k.returns decimal decimal_function refl (one_value (words (codes "1.0"))) (number (pos 1)) refl;
  compares_more = λ k. false_is_not_true (sym (k.overloaded_types ip_address));
  compares_fewer = λ k. false_is_not_true (k.overloaded_types duration);
}
