-- Outcomes of parts, and their combination to the outcome of the whole.
use Rattle.std.specs.Prelude.{Bool, true, false, not}
use Rattle.cedar_types.specs.Names.{Text}
use Rattle.cedar_types.specs.Values.{Value, VBool, VRecord, Values, more_values, Entries, more_entries}
use Rattle.cedar_typing.specs.Evaluation.World.{Failure, TypeFailure, Outcome, Gives, Fails}

-- ---- outcomes that must be booleans

-- a boolean, or the failure in its place
pub data Test : Type 0 where
  Says : Bool → Test
  Stops : Failure → Test

abbrev pub value_test : Value → Test
value_test (VBool b) = Says b
value_test v = Stops TypeFailure

abbrev pub test_of : Outcome → Test
test_of (Gives v) = value_test v
test_of (Fails f) = Stops f

abbrev pub of_test : Test → Outcome
of_test (Says b) = Gives (VBool b)
of_test (Stops f) = Fails f

-- `&&`: the right side counts if the left one is true
abbrev pub and_test : Test → Test → Test
and_test (Says true) t = t
and_test (Says false) t = Says false
and_test (Stops f) t = Stops f

-- `||`: the right side counts if the left one is false
abbrev pub or_test : Test → Test → Test
or_test (Says true) t = Says true
or_test (Says false) t = t
or_test (Stops f) t = Stops f

abbrev pub not_test : Test → Test
not_test (Says b) = Says (not b)
not_test (Stops f) = Stops f

-- `if`: only the branch that is taken counts
abbrev pub choose : Test → Outcome → Outcome → Outcome
choose (Says true) a b = a
choose (Says false) a b = b
choose (Stops f) a b = Fails f

-- ---- going on with values

-- the next outcome, from a value. A failure stays
abbrev pub on_value : Outcome → (Value → Outcome) → Outcome
on_value (Gives v) next = next v
on_value (Fails f) next = Fails f

abbrev pub then_test : Outcome → (Value → Test) → Test
then_test (Gives v) next = next v
then_test (Fails f) next = Stops f

-- the values of a list, or its first failure
pub data Outcomes : Type 0 where
  GiveAll : Values → Outcomes
  FailAt : Failure → Outcomes

abbrev pub more_outcomes : Outcome → Outcomes → Outcomes
more_outcomes (Fails f) os = FailAt f
more_outcomes (Gives v) (FailAt f) = FailAt f
more_outcomes (Gives v) (GiveAll vs) = GiveAll (more_values v vs)

abbrev pub on_values : Outcomes → (Values → Outcome) → Outcome
on_values (GiveAll vs) next = next vs
on_values (FailAt f) next = Fails f

-- the entries of a record, or its first failure
pub data EntryOutcomes : Type 0 where
  GiveEntries : Entries → EntryOutcomes
  FailEntry : Failure → EntryOutcomes

abbrev pub more_entry_outcomes : Text → Outcome → EntryOutcomes → EntryOutcomes
more_entry_outcomes k (Fails f) os = FailEntry f
more_entry_outcomes k (Gives v) (FailEntry f) = FailEntry f
more_entry_outcomes k (Gives v) (GiveEntries es) = GiveEntries (more_entries k v es)

abbrev pub record_outcome : EntryOutcomes → Outcome
record_outcome (GiveEntries es) = Gives (VRecord es)
record_outcome (FailEntry f) = Fails f
