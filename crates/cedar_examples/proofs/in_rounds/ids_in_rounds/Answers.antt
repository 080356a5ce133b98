use Rattle.std.proofs.Common.{◌≡◌, ℕ, ◌+◌, ◌-◌, ◌≤◌, List, [], map, ap, sym, subst, ◌∙◌, arith}
use Rattle.std.specs.List.{flat_map}
use Rattle.cedar_types.specs.Names.{Uid, uid_of}
use Rattle.cedar_types.specs.Values.Stores.{entity_at}
use Rattle.cedar_typechecker.specs.Slices.Reach.{ids_of}
use Rattle.cedar_typing.specs.Evaluation.Conformance.{IsOneOf}
use Rattle.cedar_typing.proofs.Basics.Members.{in_flat}
use Rattle.cedar_host.specs.Loading.{AreAmong}
use Rattle.cedar_host.specs.Rounds.{AreAfter, with_round, left_in, wanted_in}
use Rattle.cedar_host.proofs.HandedIn.{answered_too}
use Rattle.cedar_examples.proofs.in_rounds.ids_in_rounds.Goals as goal

pub loop-round-init : goal.loop-round-init
loop-round-init g c =
    let begun = c.in_ok-rounds.ensures in (
      [],
      begun.after,
      λ d i. absurd i,
      omega (arith, begun.left),
      λ none. begun.none (omega arith),
    )

-- no round is left after the last one
none_left : (left steps i : ℕ) → left ≡ steps - 1 - i → steps ≤ i + 1 → left ≡ 0
none_left left steps i e le = omega arith

pub loop-round-preserved : goal.loop-round-preserved
loop-round-preserved g c =
    let answered : Uid → List Uid = g.E.Entities.answered c.args.entities.now in
    let store = g.E.Entities.store c.args.entities.now in
    let complete = g.met.E.Entities.complete c.args.entities.now in
    let before = c.loop-round.invariant in
    let done = before.0 in
    let r = c.loop-round.rounds in
    let held = map uid_of c.in_ok-held.held.items in
    let read = c.deref.ensures.value in
    let next = c.in_ok-rounds-2.ensures in
    let told : (u : Uid) → IsOneOf u (wanted_in r) → AreAmong (ids_of (entity_at store u)) held =
    λ u i v k.
    subst (IsOneOf v) (sym (c.in_ok-held.ensures ∙ ap (flat_map answered) c.wanted.ensures))
    (in_flat answered v u (wanted_in r) i (complete u v k)) in (
      with_round r held done,
      subst (λ us. AreAfter (map uid_of c.args.start.now) c.args.steps (with_round r us done) c.in_ok-rounds-2.rounds)
          (ap (map uid_of) read) (next.after (map uid_of c.args.start.now) c.args.steps done before.1),
      answered_too (λ u. ids_of (entity_at store u)) (left_in r) (record { asked = wanted_in r; held = held }) done before.2 told,
      omega (arith, before.3, next.left),
      λ le. next.ends (none_left (left_in r) c.args.steps c.loop-round._round before.3 le),
    )

pub returns : goal.returns
returns g c =
    let before = c.loop-round.invariant in
    let over : c.args.steps ≤ c.loop-round._round = omega (arith, c.loop-round-test.false) in
    c.into_ids.ensures.slices (before.4 over) (map uid_of c.args.start.now) c.args.steps before.0 before.1
    (g.E.Entities.store c.args.entities.now) before.2
