use Rattle.std.proofs.Common.{◌∙◌, sym}
use Rattle.cedar_types.specs.Accesses.{got}
use Rattle.cedar_types.specs.Expressions.View.{shape}
use Rattle.cedar_types.specs.Names.{text_of}
use Rattle.cedar_tests.proofs.types_tests.digested_bases.is_asked_alike.Goals as goal

pub access-after-requires : goal.access-after-requires
access-after-requires c =
    c.requires
    ∙ (λ i. got (shape (sym (c.has_as_new.ensures ∙ c.new-asked.ensures) i)) (text_of c.args.attr.now))
