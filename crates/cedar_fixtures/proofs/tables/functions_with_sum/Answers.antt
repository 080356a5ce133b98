use Rattle.cedar_fixtures.proofs.Faultless.{three_listed}
use Rattle.cedar_fixtures.proofs.tables.functions_with_sum.Goals as goal

pub returns : goal.returns
returns g c meaning =
    three_listed _ c.in_ok-vec.ensures.items (c.in_ok-ip.ensures meaning) (c.in_ok-is_in_range.ensures meaning)
    (c.in_ok-sum.ensures meaning)
