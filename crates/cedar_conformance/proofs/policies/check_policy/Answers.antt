use Rattle.std.proofs.Common.{◌∙◌, ap}
use Rattle.cedar_types.specs.Templates.{template_of}
use Rattle.cedar_conformance.specs.Answers.{finds_none}
use Rattle.cedar_conformance.specs.PolicyTests.{slots_of}
use Rattle.cedar_conformance.proofs.Outcomes.{decided}
use Rattle.cedar_conformance.proofs.PolicyFaults.{none_where_fits}
use Rattle.cedar_conformance.proofs.Slots.{policy_decides}
use Rattle.cedar_conformance.proofs.policies.check_policy.Goals as goal

pub returns : goal.returns
returns c =
    let t = template_of c.args.template.now in
    let b = slots_of c.args.values.now in
    record {
      exact = decided _ _ (c.answer.ensures.ok ∙ ap finds_none c.in_ok-found.ensures ∙ none_where_fits t b) (policy_decides t b);
      fault = c.answer.ensures.fault ∙ c.in_ok-found.ensures;
    }
