-- Single codes, errors, causes and files, and what the definitions say of them.
use Rattle.std.specs.Borrow.{Bor}
use Rattle.std.specs.Prelude.{◌≡◌, true, false, Some, None}
use Rattle.cedar_types.specs.declared.base.errors.validation_warnings.ValidationWarning.{ValidationWarning}
use Rattle.cedar_types.specs.Errors.{unrecognized_entity_type, unrecognized_action_id, invalid_enum_entity, empty_set_forbidden}
use Rattle.cedar_types.specs.Names.{Path, Uid}
use Rattle.cedar_findings.specs.declared.codes.Code.{Code}
use Rattle.cedar_findings.specs.declared.codes.Code.TheVariants as Code
use Rattle.cedar_verdicts.specs.declared.causes.Cause.TheVariants as Cause
use Rattle.cedar_verdicts.specs.declared.impossible.FalsePart.{FalsePart}
use Rattle.cedar_verdicts.specs.CallIds.{first_of, is_other}
use Rattle.cedar_verdicts.specs.Impossible.{is_impossible_code}
use Rattle.cedar_verdicts.specs.Mistakes.{is_of_error, is_that_impossible, may_be_that_impossible}
use Rattle.cedar_verdicts.specs.Verdicts.{is_unknown}

-- the code of an impossible policy is one alone
pub record ImpossibleCodes : Type 0 where
  pub one : is_impossible_code Code.Impossible ≡ true
  pub alone : (c : Code) → is_impossible_code c ≡ true → c ≡ Code.Impossible

-- types and actions can be unknown, and nothing else
pub record UnknownNames : Type 0 where
  pub types : (p : Path) → is_unknown (unrecognized_entity_type p) ≡ true
  pub actions : (u : Uid) → is_unknown (unrecognized_action_id u) ≡ true
  pub ids : (u : Uid) → is_unknown (invalid_enum_entity u) ≡ false
  pub sets : is_unknown empty_set_forbidden ≡ false

-- a false part makes a policy impossible, and so may a policy that has none; a scope that no action fits does not say so
pub record ImpossibleCauses : Type 0 where
  pub part : (w : Bor ValidationWarning) (p : Bor FalsePart) → is_that_impossible (Cause.Impossible w (Some p)) ≡ true
  pub policy : (w : Bor ValidationWarning) → is_that_impossible (Cause.Impossible w None) ≡ true
  pub scope : (w : Bor ValidationWarning) → is_that_impossible (Cause.NoAction w) ≡ false
  pub never : (w : Bor ValidationWarning) → may_be_that_impossible (Cause.NoAction w) ≡ false
  pub warning : (w : Bor ValidationWarning) → is_of_error (Cause.NoAction w) ≡ false

-- an id is another file's if that came first
pub record FilesOfIds : Type 0 where
  pub new : is_other 2 None ≡ false
  pub own : is_other 2 (Some 2) ≡ false
  pub other : is_other 2 (Some 1) ≡ true
  pub first : first_of 2 true None ≡ Some 2
  pub later : first_of 2 true (Some 1) ≡ Some 1
  pub unmet : first_of 2 false None ≡ None

pub record VerdictExamples : Type 0 where
  pub codes : ImpossibleCodes
  pub names : UnknownNames
  pub causes : ImpossibleCauses
  pub files : FilesOfIds
