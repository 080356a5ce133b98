use Rattle.std.proofs.Common.{[], ◌∷◌, ◌++◌, fold, sym, ap, ◌∙◌}
use Rattle.cedar_types.specs.ChainSteps.{step_written, made_up}
use Rattle.cedar_types.specs.Capability.Digest.{with_text, shape_digest}
use Rattle.cedar_types.specs.Names.{text_of}
use Rattle.cedar_types.specs.Expressions.View.{written}
use Rattle.cedar_types.proofs.types.capability.chain_steps.ChainStep.first.Goals as goal

pub invariant_of-result : goal.invariant_of-result
invariant_of-result c =
    let x = text_of c.args.attrs.now.first in
    record {
      of_its_shape =
          c.with_text.ensures
          ∙ ap (λ d. with_text d x) (c.shape_digest.ensures ∙ ap shape_digest (sym c.none.ensures.shape));
      in_row = ap (λ xs. xs ++ (x ∷ [])) c.none.ensures.texts;
    }

pub returns-clause-of_base : goal.returns-clause-of_base
unfolding step_written
returns-clause-of_base c =
    (λ i. fold made_up (written (c.none.ensures.base i)) (c.none.ensures.texts i))
