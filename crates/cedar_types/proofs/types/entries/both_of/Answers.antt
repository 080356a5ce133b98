use Rattle.std.proofs.Common.{sym, subst, ◌∙◌}
use Rattle.cedar_types.proofs.Entries.Basics.{both_smaller, left_smaller, right_smaller, empty}
use Rattle.cedar_types.proofs.Entries.Intersections.{Meeting, meeting_begins, less_step, equal_step, greater_step, meeting_ends_left}
use Rattle.cedar_types.proofs.Entries.Intersections.{meeting_ends_right}
use Rattle.cedar_types.proofs.types.entries.both_of.Goals.{in_default, in_default-2}
use Rattle.cedar_types.proofs.types.entries.both_of.Goals as goal

pub loop-x-init : goal.loop-x-init
loop-x-init g c =
    subst (λ zs. Meeting g.T.Ord.cmp c.args.left.now c.args.right.now zs c.args.left.now c.args.right.now)
    (sym c.in_ok-common.ensures.items)
    (meeting_begins g.met.T.Ord.total c.args.left.now c.args.right.now c.requires.left c.requires.right)

pub loop-x-smaller-in-Less : goal.loop-x-smaller-in-Less
loop-x-smaller-in-Less g c =
    left_smaller c.loop-x.xs.now c.loop-x.ys.now c.in-Some-Some.x.now c.in-Some-Some.more_xs.now
    c.in-Some-Some.ensures.cases.0

pub loop-x-preserved-in-Less : goal.loop-x-preserved-in-Less
loop-x-preserved-in-Less g c =
    less_step g.met.T.Ord.total c.args.left.now c.args.right.now c.loop-x.common.items c.loop-x.xs.now
    c.loop-x.ys.now c.in-Some-Some.x.now c.in-Some-Some.more_xs.now c.in-Some-Some.y.now
    c.in-Some-Some.more_ys.now
    c.in-Some-Some.ensures.cases.0 c.in-Some-Some.ensures'.cases.0 c.loop-x.invariant (sym c.cmp.ensures ∙ c.in-Less.is)

pub loop-x-smaller-in_ok-push-in-Equal : goal.loop-x-smaller-in_ok-push-in-Equal
loop-x-smaller-in_ok-push-in-Equal g c =
    both_smaller c.loop-x.xs.now c.loop-x.ys.now c.in-Some-Some.x.now c.in-Some-Some.y.now
    c.in-Some-Some.more_xs.now c.in-Some-Some.more_ys.now c.in-Some-Some.ensures.cases.0
    c.in-Some-Some.ensures'.cases.0

pub loop-x-preserved-in_ok-push-in-Equal : goal.loop-x-preserved-in_ok-push-in-Equal
loop-x-preserved-in_ok-push-in-Equal g c =
    subst (λ zs. Meeting g.T.Ord.cmp c.args.left.now c.args.right.now zs c.in-Some-Some.more_xs.now
    c.in-Some-Some.more_ys.now) (sym c.in_ok-push-in-Equal.ensures.items)
    (equal_step g.met.T.Ord.total c.args.left.now c.args.right.now c.loop-x.common.items c.loop-x.xs.now
    c.loop-x.ys.now c.in-Some-Some.x.now c.in-Some-Some.more_xs.now c.in-Some-Some.y.now
    c.in-Some-Some.more_ys.now
    c.in-Some-Some.ensures.cases.0 c.in-Some-Some.ensures'.cases.0 c.loop-x.invariant c.in_ok-copy-in-Equal.field-0
    c.in_ok-copy-in-Equal.ensures (sym c.cmp.ensures ∙ c.in-Equal.is))

pub loop-x-smaller : goal.loop-x-smaller
loop-x-smaller g c =
    right_smaller c.loop-x.xs.now c.loop-x.ys.now c.in-Some-Some.y.now c.in-Some-Some.more_ys.now
    c.in-Some-Some.ensures'.cases.0

pub loop-x-preserved : goal.loop-x-preserved
loop-x-preserved g c =
    greater_step g.met.T.Ord.total c.args.left.now c.args.right.now c.loop-x.common.items c.loop-x.xs.now
    c.loop-x.ys.now c.in-Some-Some.x.now c.in-Some-Some.more_xs.now c.in-Some-Some.y.now
    c.in-Some-Some.more_ys.now
    c.in-Some-Some.ensures.cases.0 c.in-Some-Some.ensures'.cases.0 c.loop-x.invariant (sym c.cmp.ensures ∙ c.in-Greater.is)

pub returns-clause-ascending : goal.returns-clause-ascending
returns-clause-ascending g c = c.loop-x.invariant.sorted

pub returns-clause-has : goal.returns-clause-has
returns-clause-has g c = elim c.match-split_first.branch [
  | in_default w ↦
      meeting_ends_right g.met.T.Ord.total c.args.left.now c.args.right.now c.loop-x.common.items c.loop-x.xs.now
      (subst (Meeting g.T.Ord.cmp c.args.left.now c.args.right.now c.loop-x.common.items c.loop-x.xs.now)
      (empty c.loop-x.ys.now w.in_default.ensures'.cases) c.loop-x.invariant)
  | in_default-2 w ↦
      meeting_ends_left g.met.T.Ord.total c.args.left.now c.args.right.now c.loop-x.common.items c.loop-x.ys.now
      (subst (λ l. Meeting g.T.Ord.cmp c.args.left.now c.args.right.now c.loop-x.common.items l c.loop-x.ys.now)
      (empty c.loop-x.xs.now w.in_default.ensures.cases) c.loop-x.invariant)
]
