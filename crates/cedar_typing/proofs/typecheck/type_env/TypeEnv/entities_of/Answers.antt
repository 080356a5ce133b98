use Rattle.std.proofs.Common.{◌<◌, ◌+◌, length, map, drop, arith, ap, sym, ◌∙◌}
use Rattle.cedar_types.specs.Names.{uid_of}
use Rattle.cedar_typing.specs.Views.{env_at}
use Rattle.cedar_typing.proofs.Rules.Membership.{entities_in, after, one_entity, no_entity}
use Rattle.cedar_typing.proofs.Rules.Sets.{next_item, map_end}
use Rattle.cedar_typing.proofs.typecheck.type_env.TypeEnv.entities_of.Goals as goal

pub returns-in_default : goal.returns-in_default
returns-in_default c =
    let r = (env_at c.args.self.now).request_env in
    let us = map uid_of c.loop-element.all.items in
    let here : c.loop-element.element-index < length c.args.elements.now = omega arith in
    no_entity r us c.element-item.result (drop (c.loop-element.element-index + 1) c.args.elements.now)
    _ c.in_ok-entity.ensures c.in_default.is
    ∙ ap (λ es. after us (entities_in r es))
    (sym (next_item c.args.elements.now c.loop-element.element-index c.element-item.result
    here c.element-item.is))
    ∙ c.loop-element.invariant

pub loop-element-preserved : goal.loop-element-preserved
loop-element-preserved c =
    let r = (env_at c.args.self.now).request_env in
    let us = map uid_of c.loop-element.all.items in
    let here : c.loop-element.element-index < length c.args.elements.now = omega arith in
    let left = drop (c.loop-element.element-index + 1) c.args.elements.now in
    ap (λ vs. after (map uid_of vs) (entities_in r left)) c.in_ok-push.ensures.items
    ∙ ap (λ us. after us (entities_in r left)) (map_end uid_of c.loop-element.all.items _)
    ∙ one_entity r us c.element-item.result left _ c.in_ok-entity.ensures c.in-Some.entity c.in-Some.is
    ∙ ap (λ es. after us (entities_in r es))
    (sym (next_item c.args.elements.now c.loop-element.element-index c.element-item.result
    here c.element-item.is))
    ∙ c.loop-element.invariant
