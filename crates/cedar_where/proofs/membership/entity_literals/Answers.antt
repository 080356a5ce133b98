use Rattle.std.proofs.Common.{◌<◌, ◌+◌, length, map, drop, arith, ap, sym, ◌∙◌}
use Rattle.cedar_types.specs.Names.{uid_of}
use Rattle.cedar_typing.proofs.Rules.Sets.{next_item, map_end}
use Rattle.cedar_where.specs.Compiled.{entity_literal}
use Rattle.cedar_where.proofs.Literals.{literals_in, after, one_literal, no_literal}
use Rattle.cedar_where.proofs.membership.entity_literals.Goals as goal

pub returns-in_default : goal.returns-in_default
returns-in_default c =
    let us = map uid_of c.loop-member.all.items in
    let here : c.loop-member.member-index < length c.args.members.now = omega arith in
    no_literal uid_of entity_literal us c.member-item.result (drop (c.loop-member.member-index + 1) c.args.members.now)
    _ c.in_ok-entity.ensures c.in_default.is
    ∙ ap (λ es. after us (literals_in entity_literal es))
    (sym (next_item c.args.members.now c.loop-member.member-index c.member-item.result here c.member-item.is))
    ∙ c.loop-member.invariant

pub loop-member-preserved : goal.loop-member-preserved
loop-member-preserved c =
    let us = map uid_of c.loop-member.all.items in
    let here : c.loop-member.member-index < length c.args.members.now = omega arith in
    let left = drop (c.loop-member.member-index + 1) c.args.members.now in
    ap (λ vs. after (map uid_of vs) (literals_in entity_literal left)) c.in_ok-push.ensures.items
    ∙ ap (λ us. after us (literals_in entity_literal left)) (map_end uid_of c.loop-member.all.items _)
    ∙ one_literal uid_of entity_literal us c.member-item.result left _ c.in_ok-entity.ensures c.in-Some.entity c.in-Some.is
    ∙ ap (λ es. after us (literals_in entity_literal es))
    (sym (next_item c.args.members.now c.loop-member.member-index c.member-item.result here c.member-item.is))
    ∙ c.loop-member.invariant
