use Rattle.std.proofs.Common.{◌∙◌, ap, sym}
use Rattle.std.specs.List.{list_all}
use Rattle.cedar_types.specs.Types.{types_of, lub_of, kind_of}
use Rattle.cedar_types.specs.Schemas.Tables.{types_in}
use Rattle.cedar_types.specs.Schemas.{names_pass, knows_type}
use Rattle.cedar_types.proofs.base.schema.type_faults.kind_names_known.Goals as goal

pub returns-in-Entity : goal.returns-in-Entity
unfolding lub_of
returns-in-Entity c =
    c.all_known.ensures
    ∙ ap (λ s. list_all (knows_type (types_in c.args.types.now)) (types_of s)) c.deref.ensures
    ∙ ap (λ k. names_pass (knows_type (types_in c.args.types.now)) (kind_of k)) (sym c.in-Entity.is)
