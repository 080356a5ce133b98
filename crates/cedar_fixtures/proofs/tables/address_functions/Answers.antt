use Rattle.cedar_fixtures.proofs.Faultless.{two_listed}
use Rattle.cedar_fixtures.proofs.tables.address_functions.Goals as goal

pub returns : goal.returns
returns g c meaning =
    two_listed _ c.in_ok-vec.ensures.items (c.in_ok-ip.ensures meaning) (c.in_ok-is_in_range.ensures meaning)
