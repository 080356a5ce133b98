-- Examples of NULL in each operator, on which a clause rests.
use Rattle.std.specs.Prelude.{◌≡◌, pos, true, false, List, [], ◌∷◌}
use Rattle.cedar_types.specs.Names.{Text, Path, Uid}
use Rattle.cedar_where.specs.Sql.{Null, Truth, Data, sql_null, sql_truth, sql_number, sql_attribute, sql_not, sql_and, sql_or, sql_case}
use Rattle.cedar_where.specs.Sql.{sql_equal, sql_less, sql_less_equal, sql_is_not_null, sql_is_true, sql_matches, sql_is_among, sql_is_in, sql_is_in_any}
use Rattle.cedar_where.specs.Sql.{sql_own_id, value}

pub record NullExamples (d : Data) (p : Path) (u : Uid) (xs : List Text) : Type 0 where
  pub negated : value d (sql_not sql_null) ≡ Null
  -- AND is FALSE beside FALSE, and OR is TRUE beside TRUE, on both sides: Cedar fails if the left side does
  pub and_true : value d (sql_and sql_null (sql_truth true)) ≡ Null
  pub and_false : value d (sql_and sql_null (sql_truth false)) ≡ Truth false
  pub false_and : value d (sql_and (sql_truth false) sql_null) ≡ Truth false
  pub true_and : value d (sql_and (sql_truth true) sql_null) ≡ Null
  pub or_true : value d (sql_or sql_null (sql_truth true)) ≡ Truth true
  pub or_false : value d (sql_or sql_null (sql_truth false)) ≡ Null
  pub true_or : value d (sql_or (sql_truth true) sql_null) ≡ Truth true
  pub false_or : value d (sql_or (sql_truth false) sql_null) ≡ Null
  -- a case is NULL if its test is, whatever its branches are; a NULL in the other branch does not matter
  pub case_of_null : value d (sql_case sql_null (sql_truth true) (sql_truth false)) ≡ Null
  pub case_of_true : value d (sql_case (sql_truth true) (sql_truth true) sql_null) ≡ Truth true
  pub case_of_false : value d (sql_case (sql_truth false) (sql_truth true) sql_null) ≡ Null
  -- a comparison with NULL is NULL, also of NULL with itself
  pub equal : value d (sql_equal sql_null sql_null) ≡ Null
  pub equal_left : value d (sql_equal sql_null (sql_number (pos 1))) ≡ Null
  pub equal_right : value d (sql_equal (sql_number (pos 1)) sql_null) ≡ Null
  pub less : value d (sql_less sql_null (sql_number (pos 1))) ≡ Null
  pub less_equal : value d (sql_less_equal (sql_number (pos 1)) sql_null) ≡ Null
  pub matched : value d (sql_matches sql_null []) ≡ Null
  pub null_among : value d (sql_is_among sql_null []) ≡ Null
  pub in_null : value d (sql_is_in p sql_own_id p sql_null) ≡ Null
  pub null_in : value d (sql_is_in p sql_null p sql_own_id) ≡ Null
  pub null_in_any : value d (sql_is_in_any p sql_null (u ∷ [])) ≡ Null
  -- no row has the id NULL
  pub of_null : value d (sql_attribute p sql_null xs) ≡ Null
  -- two tests are never NULL
  pub is_not_null : value d (sql_is_not_null sql_null) ≡ Truth false
  pub is_true : value d (sql_is_true sql_null) ≡ Truth false
