-- NULL in each operator.
use Rattle.std.proofs.Common.{List, refl}
use Rattle.cedar_types.specs.Names.{Text, Path, Uid}
use Rattle.cedar_where.specs.NullExamples.{NullExamples}
use Rattle.cedar_where.specs.Sql.{Data}

pub null_examples : (d : Data) (p : Path) (u : Uid) (xs : List Text) → NullExamples d p u xs
null_examples d p u xs = record {
  negated = refl;
  and_true = refl;
  and_false = refl;
  false_and = refl;
  true_and = refl;
  or_true = refl;
  or_false = refl;
  true_or = refl;
  false_or = refl;
  case_of_null = refl;
  case_of_true = refl;
  case_of_false = refl;
  equal = refl;
  equal_left = refl;
  equal_right = refl;
  less = refl;
  less_equal = refl;
  matched = refl;
  null_among = refl;
  in_null = refl;
  null_in = refl;
  null_in_any = refl;
  of_null = refl;
  is_not_null = refl;
  is_true = refl;
}
