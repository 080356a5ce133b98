-- Views of the answer of the validation of a policy with levels.
use Rattle.std.specs.Prelude.{List, map}
use Rattle.std.specs.Vec.Iter.{into_iter_items}
use Rattle.cedar_types.specs.Errors.{Finding, Warning, finding_of, warning_of}
use Rattle.cedar_typechecker.specs.declared.level_validate.answers.LevelErrors.{LevelErrors}
use Rattle.cedar_typechecker.specs.declared.level_validate.answers.LevelWarnings.{LevelWarnings}

-- the errors that the iterator has still to give
unfoldable pub level_errors_left : LevelErrors → List Finding
level_errors_left s = map finding_of (into_iter_items s.errors)

-- the warnings that the iterator has still to give
unfoldable pub level_warnings_left : LevelWarnings → List Warning
level_warnings_left s = map warning_of (into_iter_items s.warnings)
