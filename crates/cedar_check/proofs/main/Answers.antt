use Rattle.std.proofs.Common.{None}
use Rattle.cedar_fixtures.proofs.Faultless.{no_fault_of_addresses, no_fault_with_sum, none_refused}
use Rattle.cedar_check.proofs.main.Goals as goal

-- neither table has a fault, whatever its check means
pub unreachable-requires : goal.unreachable-requires
unreachable-requires c =
    none_refused (no_fault_of_addresses (λ args. None)) (c.in-Ok-address_functions.ensures (λ check args. None))
    (c.in_default-new-2.ensures.refused (λ check args. None))

pub unreachable-requires-in_default-new-4 : goal.unreachable-requires-in_default-new-4
unreachable-requires-in_default-new-4 c =
    none_refused (no_fault_with_sum (λ args. None)) (c.in-Ok-Ok.ensures (λ check args. None))
    (c.in_default-new-4.ensures.refused (λ check args. None))
