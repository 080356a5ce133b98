use Rattle.std.proofs.Common.{◌∙◌, ap, sym}
use Rattle.cedar_types.specs.Accesses.{got}
use Rattle.cedar_types.specs.Expressions.Tree.{map_tree}
use Rattle.cedar_types.specs.Names.{text_of}
use Rattle.cedar_types.proofs.Expressions.Marks.{shape-written}
use Rattle.cedar_tests.proofs.types_tests.digested_bases.an_access_is_asked_by_what_was_asked_of_its_base.Goals as goal

pub is_asked_alike-requires : goal.is_asked_alike-requires
is_asked_alike-requires g c =
    shape-written c.in_ok-whole.whole
    ∙ ap (map_tree (λ _. tt)) c.in_ok-whole.ensures
    ∙ (λ i. got (map_tree (λ _. tt) (c.var.ensures i)) (sym c.in_ok-attr.ensures.ok i))
    ∙ (λ i. got (map_tree (λ _. tt) (sym c.var-base.ensures i)) (text_of c.in_ok-attr.attr))
    ∙ (λ i. got (sym (shape-written c.var-base.result) i) (text_of c.in_ok-attr.attr))
