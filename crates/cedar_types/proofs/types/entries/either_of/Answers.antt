use Rattle.std.proofs.Common.{sym, subst, []}
use Rattle.cedar_types.proofs.Entries.Unions.{Merging, merging_begins, merging_step, merging_ends, first_smaller}
use Rattle.cedar_types.proofs.types.entries.either_of.Goals as goal

pub loop-entry-init : goal.loop-entry-init
loop-entry-init g c =
    subst (λ zs. Merging g.T.Ord.cmp c.args.left.now c.args.right.now zs c.args.left.now c.args.right.now) (sym c.in_ok-all.ensures.items)
    (merging_begins g.met.T.Ord.total c.args.left.now c.args.right.now c.requires.left c.requires.right)

pub loop-entry-smaller : goal.loop-entry-smaller
loop-entry-smaller g c =
    first_smaller g.T.Ord.cmp c.loop-entry.xs.now c.loop-entry.ys.now c.in-Some.entry.now c.in-Some.more_xs.now
    c.in-Some.more_ys.now c.in-Some.ensures

pub loop-entry-preserved : goal.loop-entry-preserved
loop-entry-preserved g c =
    subst (λ zs. Merging g.T.Ord.cmp c.args.left.now c.args.right.now zs c.in-Some.more_xs.now
    c.in-Some.more_ys.now) (sym c.in_ok-push.ensures.items)
    (merging_step g.met.T.Ord.total c.args.left.now c.args.right.now c.loop-entry.all.items c.in_ok-copy.field-0
    c.in-Some.entry.now c.in_ok-copy.ensures
    c.loop-entry.xs.now c.loop-entry.ys.now c.in-Some.more_xs.now c.in-Some.more_ys.now c.in-Some.ensures c.loop-entry.invariant)

pub returns-clause-ascending : goal.returns-clause-ascending
returns-clause-ascending g c = c.loop-entry.invariant.sorted

pub returns-clause-has : goal.returns-clause-has
returns-clause-has g c =
    merging_ends g.met.T.Ord.total c.args.left.now c.args.right.now c.loop-entry.all.items
    (subst (λ l. Merging g.T.Ord.cmp c.args.left.now c.args.right.now c.loop-entry.all.items l []) c.in_default.ensures.0
    (subst (Merging g.T.Ord.cmp c.args.left.now c.args.right.now c.loop-entry.all.items c.loop-entry.xs.now)
    c.in_default.ensures.1 c.loop-entry.invariant))
