use Rattle.std.proofs.Common.{◌≡◌, [], ◌∷◌, ◌++◌, ◌<◌, length, get_or, map, take, subst, sym, ap, ◌∙◌}
use Rattle.cedar_types.specs.Accesses.{got, texts_at}
use Rattle.cedar_types.specs.ChainSteps.{step_written, step_attr, steps_left, made_up}
use Rattle.cedar_types.specs.Capability.Digest.{with_text, shape_digest}
use Rattle.cedar_types.specs.Names.{text_of}
use Rattle.cedar_types.specs.Expressions.View.{shape, written}
use Rattle.cedar_types.proofs.ChainSteps.{accessed_last, left_more}
use Rattle.cedar_types.proofs.Schema.Places.{next_mapped}
use Rattle.cedar_types.proofs.types.capability.chain_steps.ChainStep.next.Goals as goal

pub invariant_of-result : goal.invariant_of-result
invariant_of-result c =
    let s = c.args.self.now in
    let n = s.taken in
    let xs = s.attrs.now.rest.items in
    let first = text_of s.attrs.now.first in
    let x = c.in_ok-attr.attr.now in
    let row = s.in_row ∙ ap (λ ys. first ∷ map text_of (take n ys)) (sym c.deref-2.ensures.value) in
    let below : n < length xs = subst (λ ys. n < length ys) c.deref.ensures.value c.in_ok-attr.ensures.lookup.3.0 in
    let is : x ≡ get_or xs n x = c.in_ok-attr.ensures.lookup.1 ∙ ap (λ ys. get_or ys n x) c.deref.ensures.value in
    record {
      of_its_shape =
          c.with_text.ensures
          ∙ ap (λ d. with_text d (text_of x))
          (s.of_its_shape ∙ ap shape_digest (accessed_last got (shape s.on.base.now) (texts_at s.on) _ (text_of s.attr.now) row));
      in_row =
          ap (λ ys. first ∷ (map text_of (take n ys) ++ (text_of x ∷ []))) c.deref-2.ensures.value
          ∙ ap (λ ts. first ∷ ts) (sym (next_mapped text_of xs n x below is));
    }

pub returns : goal.returns
unfolding step_written step_attr steps_left
returns c =
    let s = c.args.self.now in
    let n = s.taken in
    let xs = s.attrs.now.rest.items in
    let first = text_of s.attrs.now.first in
    let x = c.in_ok-attr.attr.now in
    let row = s.in_row ∙ ap (λ ys. first ∷ map text_of (take n ys)) (sym c.deref-2.ensures.value) in
    let below : n < length xs = subst (λ ys. n < length ys) c.deref.ensures.value c.in_ok-attr.ensures.lookup.3.0 in
    let is : x ≡ get_or xs n x = c.in_ok-attr.ensures.lookup.1 ∙ ap (λ ys. get_or ys n x) c.deref.ensures.value in (
      left_more text_of xs n x below is,
      sym (accessed_last made_up (written s.on.base.now) (texts_at s.on) _ (text_of s.attr.now) row),
    )
