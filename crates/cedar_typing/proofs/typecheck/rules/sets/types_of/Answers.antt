use Rattle.std.proofs.Common.{◌<◌, ◌+◌, length, map, drop, arith, ap, sym, ◌∙◌}
use Rattle.cedar_types.specs.Types.{ty_of}
use Rattle.cedar_typing.proofs.Rules.Sets.{types_in, after, next_item, one_type, no_type, map_end}
use Rattle.cedar_typing.proofs.typecheck.rules.sets.types_of.Goals as goal

pub returns-in_default : goal.returns-in_default
returns-in_default c =
    let ts = map (λ t. ty_of t.now) c.loop-element.types.items in
    let here : c.loop-element.element-index < length c.args.elements.now = omega arith in
    no_type ts c.element-item.result (drop (c.loop-element.element-index + 1) c.args.elements.now) c.in_default.is
    ∙ ap (λ es. after ts (types_in es))
    (sym (next_item c.args.elements.now c.loop-element.element-index c.element-item.result
    here c.element-item.is))
    ∙ c.loop-element.invariant

pub loop-element-preserved : goal.loop-element-preserved
loop-element-preserved c =
    let ts = map (λ t. ty_of t.now) c.loop-element.types.items in
    let here : c.loop-element.element-index < length c.args.elements.now = omega arith in
    let left = drop (c.loop-element.element-index + 1) c.args.elements.now in
    ap (λ vs. after (map (λ t. ty_of t.now) vs) (types_in left)) c.in_ok-push.ensures.items
    ∙ ap (λ us. after us (types_in left)) (map_end (λ t. ty_of t.now) c.loop-element.types.items _)
    ∙ one_type ts c.element-item.result left c.in-Some.ty c.in-Some.is
    ∙ ap (λ es. after ts (types_in es))
    (sym (next_item c.args.elements.now c.loop-element.element-index c.element-item.result
    here c.element-item.is))
    ∙ c.loop-element.invariant
