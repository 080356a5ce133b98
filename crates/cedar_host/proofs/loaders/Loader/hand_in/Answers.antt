use Rattle.std.proofs.Common.{[], ◌∙◌, ap, map, subst}
use Rattle.std.specs.List.{flat_map}
use Rattle.cedar_types.specs.Names.{uid_of}
use Rattle.cedar_typechecker.specs.Slices.Reach.{reach}
use Rattle.cedar_typing.specs.Evaluation.Conformance.{IsOneOf}
use Rattle.cedar_conformance.specs.Entities.{store_of}
use Rattle.cedar_conformance.specs.Requests.{request_of}
use Rattle.cedar_host.specs.Loaders.{held_in}
use Rattle.cedar_host.proofs.LoadedParts.{goes_on}
use Rattle.cedar_host.proofs.loaders.Loader.hand_in.Goals as goal

pub returns-clause-goes_on : goal.returns-clause-goes_on
returns-clause-goes_on c =
    let next = c.in_ok-rounds.ensures in
    let told =
    ap (map uid_of) c.deref.ensures.value
    ∙ c.in_ok-held.ensures
    ∙ ap (flat_map (held_in (store_of c.add_in_order.new.entities))) c.wanted-2.ensures in
    λ request steps.
    goes_on (reach (request_of request) [] 0) steps c.args.self _ (map uid_of c.deref.result.now)
    (λ done. next.after (reach (request_of request) [] 0) steps done)
    next.fresh next.found next.kept
    (λ u h. c.in_ok-add_in_order.ensures u (λ i. h (subst (IsOneOf u) c.wanted.ensures i))) told
