use Rattle.std.proofs.Common.{◌≡◌, [], ◌∷◌, cond, Some, sym, ap, ◌∙◌}
use Rattle.std.specs.Ordering.{is_eq}
use Rattle.cedar_types.specs.Names.{type_of, path_eq}
use Rattle.cedar_types.specs.Types.{lub_of}
use Rattle.cedar_types.specs.Schemas.References.{is_own, set_named}
use Rattle.cedar_types.proofs.Names.Ids.{type_lookup, path_decides}
use Rattle.cedar_types.proofs.Names.Paths.{names_cmp, path_ties}
use Rattle.cedar_types.proofs.Schema.References.{own_next}
use Rattle.cedar_types.proofs.base.schema.references.add_set.Goals as goal

pub returns : goal.returns
returns c = λ q.
    let name = c.in_ok-key.key.name in
    let key = type_of c.in_ok-key.key in
    let set = c.in_ok-set.set in
    let old = c.args.sets.now.entries in
    let is : lub_of set ≡ key ∷ [] =
    c.in_ok-set.ensures ∙ ap (λ t. t.name ∷ []) (c.in_ok-clone.ensures.cases ∙ sym c.in_ok-key.ensures.cases) in
    let found : set_named c.insert.new.self.entries (type_of q)
    ≡ cond (path_eq key (type_of q)) (Some set) (set_named old (type_of q)) =
    sym (type_lookup _ (type_of q) (λ k. names_cmp q.name k.name) c.insert.new.self.entries)
    ∙ c.in_ok-insert.ensures.updates.0 q
    ∙ (λ j. cond ((ap is_eq (names_cmp name q.name) ∙ sym (path_ties key (type_of q))) j) (Some set)
    (type_lookup _ (type_of q) (λ k. names_cmp q.name k.name) old j)) in
    ap (is_own (type_of q)) found
    ∙ own_next (path_eq key (type_of q)) set (set_named old (type_of q)) key (type_of q)
    (path_decides key (type_of q)) is (c.requires q)
