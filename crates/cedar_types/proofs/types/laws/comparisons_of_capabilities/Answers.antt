use Rattle.std.proofs.Common.{◌≡◌, ◌∙◌, sym}
use Rattle.cedar_types.specs.declared.types.capability.digested.Capability.{Capability}
use Rattle.cedar_types.specs.contracts.types.capability.digested.CapabilityOrd.TheImpl.Laws as ord_laws
use Rattle.cedar_types.specs.Capability.{cap_eq, cap_of, capability_eq}
use Rattle.cedar_types.proofs.Digests.{one_cap, cap_same, by_digest}
use Rattle.cedar_types.proofs.types.laws.comparisons_of_capabilities.Goals as goal

-- The derived `==` compares the plain views of capabilities
compared : (c d : Capability) → capability_eq c d ≡ cap_eq (cap_of c) (cap_of d)
compared = by_digest

pub returns : goal.returns
returns a = record {
  equality = λ c d. (
    λ h. one_cap (cap_of c) (cap_of d) (sym (compared c d) ∙ h),
    λ e. compared c d ∙ cap_same (cap_of c) (cap_of d) e,
  );
  order = λ c d. sym (ord_laws.matches_eq-law c d);
}
