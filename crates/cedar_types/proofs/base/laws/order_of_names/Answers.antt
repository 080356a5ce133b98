use Rattle.cedar_types.specs.Lemmas.Comparisons.{name_cmp_is, entity_type_cmp_is, uid_cmp_is}
use Rattle.cedar_types.proofs.base.laws.order_of_names.Goals as goal

pub returns : goal.returns
returns c = record { names = name_cmp_is; types = entity_type_cmp_is; ids = uid_cmp_is }
