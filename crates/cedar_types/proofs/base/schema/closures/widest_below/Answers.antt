use Rattle.std.proofs.Common.{◌≡◌, ◌∷◌, ◌∙◌, ap, sym, true, map, length, Some, arith}
use Rattle.std.specs.List.{list_any}
use Rattle.std.proofs.lemmas.List.{length-map}
use Rattle.cedar_types.specs.Schemas.Closures.{has_all}
use Rattle.cedar_types.proofs.Tests.{and_left, and_right}
use Rattle.cedar_types.proofs.Schema.Closures.{all_among, found_named}
use Rattle.cedar_types.proofs.base.schema.closures.widest_below.Goals as goal

pub loop-name-init : goal.loop-name-init
loop-name-init g c =
    let d = g.D.Declared in
    let names = d.below (Some (d.plain c.args.above.now)) in
    record {
      found = tt;
      left =
          ap (λ ks. has_all d.same names (map d.key ks))
          (c.into_iter-name-iterator.ensures.into_iter_gives ∙ c.iter-name-items.ensures.rest)
          ∙ ap (has_all d.same names) c.descendants-names.ensures
          ∙ all_among d.same g.met.D.Declared.decides names;
    }

pub loop-name-preserved-then-is_wider : goal.loop-name-preserved-then-is_wider
loop-name-preserved-then-is_wider g c =
    let d = g.D.Declared in
    let names = d.below (Some (d.plain c.args.above.now)) in
    let name = d.key c.in-Some.name.now in
    let found = d.plain c.in-Some-get.found.now in
    let next = map d.key c.next.new.self in
    let left : has_all d.same names (name ∷ next) ≡ true =
    ap (λ ks. has_all d.same names (map d.key ks)) (sym c.in-Some.ensures.steps) ∙ c.loop-name.invariant.left in
    let named = found_named d.same g.met.D.Declared.decides d.called (map d.plain c.args.table.now.declared.items) name found
    (sym c.in-Some-get.ensures) in
    record {
      found = record {
        declared = named.1;
        among = ap (λ k. list_any (d.same k) names) (sym named.0)
            ∙ and_left (list_any (d.same name) names) (has_all d.same names next) left;
        fewer =
            omega (
              arith,
              c.if-len.true,
              c.len.ensures.len,
              c.len-in-Some-get.ensures.len,
              length-map c.descendants-names.result.now.keys d.key,
              length-map c.descendants.result.now.keys d.key,
              ap length c.descendants-names.ensures,
              ap length c.descendants.ensures,
            );
      };
      left = and_right (list_any (d.same name) names) (has_all d.same names next) left;
    }
