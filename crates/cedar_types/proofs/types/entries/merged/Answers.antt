use Rattle.std.proofs.Common.{sym, subst, []}
use Rattle.std.proofs.lemmas.Cmp.{tied_itself}
use Rattle.cedar_types.proofs.Entries.Unions.{Merging, merging_begins, merging_step, merging_ends, first_smaller}
use Rattle.cedar_types.proofs.types.entries.merged.Goals as goal

pub loop-entry-init : goal.loop-entry-init
loop-entry-init g c =
    subst (λ zs. Merging g.T.Ord.cmp c.args.left.items c.args.right.items zs c.from_vec-xs.result.items c.from_vec-ys.result.items)
    (sym c.in_ok-all.ensures.items)
    (subst (λ ls. Merging g.T.Ord.cmp c.args.left.items c.args.right.items [] ls c.from_vec-ys.result.items) (sym c.from_vec-xs.ensures.items)
    (subst (λ rs. Merging g.T.Ord.cmp c.args.left.items c.args.right.items [] c.args.left.items rs) (sym c.from_vec-ys.ensures.items)
    (merging_begins g.met.T.Ord.total c.args.left.items c.args.right.items c.requires.left c.requires.right)))

pub loop-entry-smaller : goal.loop-entry-smaller
loop-entry-smaller g c =
    first_smaller g.T.Ord.cmp c.loop-entry.xs.items c.loop-entry.ys.items c.in-Some.entry
    c.take_first.new.left.items c.take_first.new.right.items c.in-Some.ensures

pub loop-entry-preserved : goal.loop-entry-preserved
loop-entry-preserved g c =
    subst (λ zs. Merging g.T.Ord.cmp c.args.left.items c.args.right.items zs c.take_first.new.left.items
    c.take_first.new.right.items) (sym c.in_ok-push.ensures.items)
    (merging_step g.met.T.Ord.total c.args.left.items c.args.right.items c.loop-entry.all.items c.in-Some.entry
    c.in-Some.entry (tied_itself g.met.T.Ord.total c.in-Some.entry)
    c.loop-entry.xs.items c.loop-entry.ys.items c.take_first.new.left.items c.take_first.new.right.items c.in-Some.ensures c.loop-entry.invariant)

pub returns-clause-ascending : goal.returns-clause-ascending
returns-clause-ascending g c = c.loop-entry.invariant.sorted

pub returns-clause-has : goal.returns-clause-has
returns-clause-has g c =
    merging_ends g.met.T.Ord.total c.args.left.items c.args.right.items c.loop-entry.all.items
    (subst (λ l. Merging g.T.Ord.cmp c.args.left.items c.args.right.items c.loop-entry.all.items l []) c.in_default.ensures.0
    (subst (Merging g.T.Ord.cmp c.args.left.items c.args.right.items c.loop-entry.all.items c.loop-entry.xs.items)
    c.in_default.ensures.1 c.loop-entry.invariant))
