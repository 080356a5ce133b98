use Rattle.std.proofs.Common.{◌≡◌, ◌∙◌, ap, sym, subst, false, ◌∷◌, ◌++◌, map, List, option_map, append-nil}
use Rattle.cedar_types.specs.Names.{Path, type_of, path_eq, path_cmp}
use Rattle.cedar_types.specs.Types.{types_of}
use Rattle.cedar_types.specs.Schemas.Declarations.{declared_type}
use Rattle.cedar_types.specs.Schemas.{has_repeat, type_descendants}
use Rattle.cedar_types.specs.Schemas.Listings.{ListsTypes, types_within}
use Rattle.cedar_types.specs.Schemas.Contents.{schema_of}
use Rattle.cedar_types.specs.Schemas.Tables.{types_in}
use Rattle.cedar_types.proofs.Names.Paths.{names_cmp, path_ties}
use Rattle.cedar_types.proofs.Schema.Listings.{others, lists_within, apart_sorted, less_apart}
use Rattle.cedar_types.proofs.base.schema.ValidatorSchema.get_entity_types_in.Goals as goal

pub returns : goal.returns
unfolding schema_of
returns c =
    let p = type_of c.args.entity_type.now in
    let ds = types_of c.in-Some.declared.now.descendants in
    let there = map (λ t. type_of t.now) c.loop-descendant.within.items in
    let apart : has_repeat path_eq ds
    ≡ false = apart_sorted _ type_of path_eq (λ a b l. less_apart (path_cmp (type_of a) (type_of b))
    (path_eq (type_of a) (type_of b)) (sym (names_cmp a.name b.name) ∙ l) (path_ties (type_of a) (type_of b)))
    c.in-Some.declared.now.descendants.keys c.iter-descendant-items.ensures.ordered in
    let listed : p ∷ others p ds ≡ there =
    ap (λ es. p ∷ others p (map type_of es))
    (sym (c.into_iter-descendant-iterator.ensures.into_iter_gives ∙ c.iter-descendant-items.ensures.rest))
    ∙ sym c.loop-descendant.invariant
    ∙ ap (λ es. there ++ others p (map type_of es)) c.in-None.ensures.steps.0
    ∙ append-nil there in
    let wanted : p ∷ ds ≡ types_within (types_in c.args.self.now.types) p = ap (λ o. p
    ∷ type_descendants o) (ap (option_map (λ t. declared_type t.now)) (sym c.in-Some.is) ∙ c.get.ensures) in
    subst (λ (ws : List Path). ListsTypes ws there) wanted
    (subst (λ (ls : List Path). ListsTypes (p ∷ ds) ls) listed (lists_within p ds apart))
