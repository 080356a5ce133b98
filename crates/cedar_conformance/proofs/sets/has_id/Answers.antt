use Rattle.std.proofs.Common.{◌∙◌}
use Rattle.cedar_types.specs.Names.{uid_of}
use Rattle.cedar_types.proofs.Names.Ids.{contained_id, uids_cmp}
use Rattle.cedar_conformance.proofs.sets.has_id.Goals as goal

pub returns : goal.returns
returns c = c.contains.ensures ∙ contained_id _ (uid_of c.args.id.now) (λ k. uids_cmp c.args.id.now k) c.args.ids.now.keys
