use Rattle.cedar_types.proofs.Schema.Memberships.{memberships_allowed}
use Rattle.cedar_types.proofs.base.schema.memberships.memberships_are_allowed.Goals as goal

pub returns : goal.returns
returns c = memberships_allowed
