use Rattle.std.proofs.Common.{◌≡◌, ◌++◌, map, subst, rules, sym, ◌∙◌}
use Rattle.std.proofs.lemmas.Iterator.Adapters.{YieldsList-from_vec}
use Rattle.std.proofs.lemmas.Iterator.Consumers.{YieldsList-end}
use Rattle.std.proofs.lemmas.List.{map-id}
use Rattle.cedar_where.specs.Sets.{KeepsAny}
use Rattle.cedar_where.specs.Views.{sql_held, sql_of}
use Rattle.cedar_where.proofs.Held.{held_more, held_joined}
use Rattle.cedar_where.proofs.sets.pairs_and_rest.Goals as goal

pub loop-test-preserved-in-None-held : goal.loop-test-preserved-in-None-held
loop-test-preserved-in-None-held c =
    let ps = c.loop-test.pairs.items in
    held_more c.loop-test.yielded ps c.in-Some.test
    (subst (λ o. KeepsAny (map sql_of c.loop-test.yielded) (map sql_of ps ++ sql_held o)) c.in-None-held.is c.loop-test.invariant)

pub loop-test-preserved : goal.loop-test-preserved
loop-test-preserved c =
    let ps = c.loop-test.pairs.items in
    held_joined c.loop-test.yielded ps c.in-Some.test c.in-Some-held.before c.in_ok-either-in-Some-held.field-0
    c.push.new.self.items c.in_ok-either-in-Some-held.ensures c.in_ok-push-in-Some-held.ensures.items
    (subst (λ o. KeepsAny (map sql_of c.loop-test.yielded) (map sql_of ps ++ sql_held o)) c.in-Some-held.is c.loop-test.invariant)

pub returns : goal.returns
returns c =
    let all = c.into_iter-test-iterator.ensures.into_iter_gives in
    let items = YieldsList-from_vec {s = c.into_iter-test-iterator.result} c.args.tests.items all.0 (search rules) in
    let seen = YieldsList-end items c.loop-test.yielded c.loop-test.test-iterator c.loop-test.yielded_by c.next.result
    c.next.new.self c.in-None.is c.next.ensures.steps in
    subst (λ ys. KeepsAny (map sql_of ys) (map sql_of c.loop-test.pairs.items ++ sql_held c.loop-test.held))
    (sym (map-id c.loop-test.yielded) ∙ seen.0) c.loop-test.invariant
