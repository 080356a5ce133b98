use Rattle.std.proofs.Common.{Some, refl, sym, ap, ◌∙◌}
use Rattle.cedar_types.proofs.Entries.Unions.{both_taken}
use Rattle.cedar_types.proofs.types.entries.take_first.Goals as goal

pub returns-in-Equal : goal.returns-in-Equal
returns-in-Equal g c =
    let x = c.in-Some-Some.x.now in
    let y = c.in-Some-Some.y.now in
    both_taken g.T.Ord.cmp c.args.left.now.items c.args.right.now.items c.pop_front-in-Equal-2.new.self.items
    c.pop_front-in-Equal.new.self.items c.pop_front-in-Equal-2.result c.pop_front-in-Equal.result x y
    (c.pop_front-in-Equal-2.ensures.value x (c.in-Some-Some.ensures.variant.0 refl) ∙ ap Some (sym c.in-Some-Some.ensures.lookup))
    (c.pop_front-in-Equal.ensures.value y (c.in-Some-Some.ensures'.variant.0 refl) ∙ ap Some (sym c.in-Some-Some.ensures'.lookup))
    c.pop_front-in-Equal-2.ensures.items c.pop_front-in-Equal.ensures.items (sym c.cmp.ensures ∙ c.in-Equal.is)
