-- The derived order of errors.
use Rattle.std.specs.declared.cmp.Ordering.{Ordering}
use Rattle.cedar_types.specs.declared.base.errors.validation_errors.ValidationError.{ValidationError}
use Rattle.cedar_types.specs.contracts.base.errors.validation_errors.ValidationErrorOrd.TheImpl as error_ord_impl

abbrev pub error_cmp : ValidationError → ValidationError → Ordering
error_cmp = error_ord_impl.ghosts.cmp
