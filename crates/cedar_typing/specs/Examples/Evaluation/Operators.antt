-- Computed outcomes of operators on numbers, on any values and on sets.
use Rattle.std.specs.Prelude.{pos, neg_ℤ, [], codes}
use Rattle.cedar_types.specs.declared.base.expressions.operators.UnaryOp.{UnaryOp}
use Rattle.cedar_types.specs.declared.base.expressions.operators.BinaryOp.{BinaryOp}
use Rattle.cedar_types.specs.Expressions.Tree.{unary, binary, record_of, no_fields}
use Rattle.cedar_typing.specs.Evaluation.World.{TypeFailure, MissingEntity, Overflow}
use Rattle.cedar_typing.specs.Examples.Evaluation.{Yields, YieldsTrue, YieldsFalse, FailsAs}
use Rattle.cedar_typing.specs.Examples.Expressions.{true_lit, false_lit, num, one, two, three, least, greatest, text, the, principal}
use Rattle.cedar_typing.specs.Examples.Expressions.{context, dot, set0, set1, set2, set3, record1, record2, decimal_one, decimal_two}
use Rattle.cedar_typing.specs.Examples.Expressions.{a_duration, missing, too_great}
use Rattle.cedar_typing.specs.Examples.Greeting.{number}
use Rattle.cedar_typing.specs.Examples.World.{group, alice, bob}

pub record NumberExamples : Type 0 where
  -- `-(1)`
  pub negated : Yields (unary tt UnaryOp.Neg one) (number (neg_ℤ (pos 1)))
  -- `-(9223372036854775807)`
  pub negated_greatest : Yields (unary tt UnaryOp.Neg (num greatest)) (number (neg_ℤ greatest))
  -- `-(-9223372036854775808)`: the result is one too great
  pub negated_least : FailsAs (unary tt UnaryOp.Neg (num least)) Overflow
  -- `-("a")`
  pub negated_text : FailsAs (unary tt UnaryOp.Neg (text (codes "a"))) TypeFailure
  -- `1 + 2`
  pub added : Yields (binary tt BinaryOp.Add one two) (number (pos 3))
  -- `9223372036854775806 + 1`: the greatest number is a value
  pub added_greatest : Yields (binary tt BinaryOp.Add (num (pos 9223372036854775806)) one)
      (number greatest)
  -- `9223372036854775807 + 1`
  pub added_overflow : FailsAs too_great Overflow
  -- `-9223372036854775808 + -1`
  pub added_underflow : FailsAs (binary tt BinaryOp.Add (num least) (num (neg_ℤ (pos 1)))) Overflow
  -- `1 + "a"`, `"a" + 1`
  pub added_right_text : FailsAs (binary tt BinaryOp.Add one (text (codes "a"))) TypeFailure
  pub added_left_text : FailsAs (binary tt BinaryOp.Add (text (codes "a")) one) TypeFailure
  -- `1 - 3`
  pub subtracted : Yields (binary tt BinaryOp.Sub one three) (number (neg_ℤ (pos 2)))
  -- `-9223372036854775807 - 1`: the least number is a value
  pub subtracted_least : Yields (binary tt BinaryOp.Sub (num (neg_ℤ greatest)) one) (number least)
  -- `-9223372036854775808 - 1`
  pub subtracted_overflow : FailsAs (binary tt BinaryOp.Sub (num least) one) Overflow
  -- `1 - true`, `true - 1`
  pub subtracted_right_bool : FailsAs (binary tt BinaryOp.Sub one true_lit) TypeFailure
  pub subtracted_left_bool : FailsAs (binary tt BinaryOp.Sub true_lit one) TypeFailure
  -- `-2 * 3`
  pub multiplied : Yields (binary tt BinaryOp.Mul (num (neg_ℤ (pos 2))) three)
      (number (neg_ℤ (pos 6)))
  -- `4611686018427387904 * -2`: the least number is a value
  pub multiplied_least : Yields
      (binary tt BinaryOp.Mul (num (pos 4611686018427387904)) (num (neg_ℤ (pos 2)))) (number least)
  -- `4611686018427387904 * 2`
  pub multiplied_overflow : FailsAs (binary tt BinaryOp.Mul (num (pos 4611686018427387904)) two)
      Overflow
  -- `2 * User::"bob"`, `User::"bob" * 2`
  pub multiplied_right_entity : FailsAs (binary tt BinaryOp.Mul two (the bob)) TypeFailure
  pub multiplied_left_entity : FailsAs (binary tt BinaryOp.Mul (the bob) two) TypeFailure
  -- `-1 < 1`
  pub less : YieldsTrue (binary tt BinaryOp.Less (num (neg_ℤ (pos 1))) one)
  -- `1 < 1`
  pub less_itself : YieldsFalse (binary tt BinaryOp.Less one one)
  -- `2 < 1`
  pub less_greater : YieldsFalse (binary tt BinaryOp.Less two one)
  -- `1 <= 1`
  pub at_most_itself : YieldsTrue (binary tt BinaryOp.LessEq one one)
  -- `1 <= 2`
  pub at_most_greater : YieldsTrue (binary tt BinaryOp.LessEq one two)
  -- `2 <= 1`
  pub at_most_smaller : YieldsFalse (binary tt BinaryOp.LessEq two one)
  -- `decimal("1.0") < decimal("2.0")`, and the other way round
  pub less_decimal : YieldsTrue (binary tt BinaryOp.Less decimal_one decimal_two)
  pub less_decimal_back : YieldsFalse (binary tt BinaryOp.Less decimal_two decimal_one)
  -- `decimal("1.0") < decimal("1.0")`: the pairs of `<` count
  pub less_decimal_itself : YieldsFalse (binary tt BinaryOp.Less decimal_one decimal_one)
  -- `decimal("1.0") <= decimal("1.0")`: the pairs of `<=` count
  pub at_most_decimal : YieldsTrue (binary tt BinaryOp.LessEq decimal_one decimal_one)
  -- `decimal("2.0") <= decimal("1.0")`
  pub at_most_decimal_back : YieldsFalse (binary tt BinaryOp.LessEq decimal_two decimal_one)
  -- `duration(decimal("1.0"), 1) <= duration(decimal("1.0"), 1)`: durations are compared, and no
  -- pair of them is listed
  pub at_most_duration : YieldsFalse (binary tt BinaryOp.LessEq a_duration a_duration)
  -- `context.address < context.address`: addresses are not compared
  pub less_address : FailsAs
      (binary tt BinaryOp.Less (dot context (codes "address")) (dot context (codes "address")))
      TypeFailure
  -- `decimal("1.0") <= context.address`, `decimal("1.0") < duration(decimal("1.0"), 1)`: two types
  -- are not compared with one another
  pub at_most_two_types : FailsAs
      (binary tt BinaryOp.LessEq decimal_one (dot context (codes "address"))) TypeFailure
  pub less_two_types : FailsAs (binary tt BinaryOp.Less decimal_one a_duration) TypeFailure
  -- `1 < decimal("2.0")`, `decimal("1.0") <= 2`
  pub less_long_decimal : FailsAs (binary tt BinaryOp.Less one decimal_two) TypeFailure
  pub at_most_decimal_long : FailsAs (binary tt BinaryOp.LessEq decimal_one two) TypeFailure
  -- `"a" < "b"`, `1 <= "b"`
  pub less_texts : FailsAs (binary tt BinaryOp.Less (text (codes "a")) (text (codes "b")))
      TypeFailure
  pub at_most_text : FailsAs (binary tt BinaryOp.LessEq one (text (codes "b"))) TypeFailure

pub record EqualityExamples : Type 0 where
  -- `true == true`, `true == false`
  pub bool_equal : YieldsTrue (binary tt BinaryOp.Eq true_lit true_lit)
  pub bool_other : YieldsFalse (binary tt BinaryOp.Eq true_lit false_lit)
  -- `1 == 1`, `1 == -1`
  pub long_equal : YieldsTrue (binary tt BinaryOp.Eq one one)
  pub long_other : YieldsFalse (binary tt BinaryOp.Eq one (num (neg_ℤ (pos 1))))
  -- `"a" == "a"`, `"a" == "ab"`
  pub text_equal : YieldsTrue (binary tt BinaryOp.Eq (text (codes "a")) (text (codes "a")))
  pub text_other : YieldsFalse (binary tt BinaryOp.Eq (text (codes "a")) (text (codes "ab")))
  -- `principal == User::"alice"`, `principal == User::"bob"`
  pub entity_equal : YieldsTrue (binary tt BinaryOp.Eq principal (the alice))
  pub entity_other : YieldsFalse (binary tt BinaryOp.Eq principal (the bob))
  -- `User::"bob" == Group::"bob"`: the types differ
  pub entity_other_type : YieldsFalse
      (binary tt BinaryOp.Eq (the bob) (the (record { entity_type = group; eid = codes "bob" })))
  -- `[1, 2] == [2, 1, 1]`: neither order nor repeats count
  pub set_equal : YieldsTrue (binary tt BinaryOp.Eq (set2 one two) (set3 two one one))
  -- `[1] == [1, 2]`, `[1, 2] == [1]`
  pub set_fewer : YieldsFalse (binary tt BinaryOp.Eq (set1 one) (set2 one two))
  pub set_more : YieldsFalse (binary tt BinaryOp.Eq (set2 one two) (set1 one))
  -- `[[1, 2], [3]] == [[3, 3], [2, 1]]`: members are compared as sets too
  pub set_of_sets : YieldsTrue
      (binary tt BinaryOp.Eq (set2 (set2 one two) (set1 three))
      (set2 (set2 three three) (set2 two one)))
  -- `{a: 1, b: [1, 2]} == {a: 1, b: [2, 1]}`
  pub record_equal : YieldsTrue
      (binary tt BinaryOp.Eq (record2 (codes "a") one (codes "b") (set2 one two))
      (record2 (codes "a") one (codes "b") (set2 two one)))
  -- `{a: 1, b: 2} == {b: 2, a: 1}`: the order of keys does not count
  pub record_order : YieldsTrue
      (binary tt BinaryOp.Eq (record2 (codes "a") one (codes "b") two)
      (record2 (codes "b") two (codes "a") one))
  -- `{a: 1} == {a: 2}`, `{a: 1} == {b: 1}`
  pub record_other_value : YieldsFalse
      (binary tt BinaryOp.Eq (record1 (codes "a") one) (record1 (codes "a") two))
  pub record_other_key : YieldsFalse
      (binary tt BinaryOp.Eq (record1 (codes "a") one) (record1 (codes "b") one))
  -- `{a: 1} == {a: 1, b: 2}`, `{a: 1, b: 2} == {a: 1}`
  pub record_fewer : YieldsFalse
      (binary tt BinaryOp.Eq (record1 (codes "a") one) (record2 (codes "a") one (codes "b") two))
  pub record_more : YieldsFalse
      (binary tt BinaryOp.Eq (record2 (codes "a") one (codes "b") two) (record1 (codes "a") one))
  -- `decimal("1.0") == decimal("1.0")`, `decimal("1.0") == decimal("2.0")`
  pub extension_equal : YieldsTrue (binary tt BinaryOp.Eq decimal_one decimal_one)
  pub extension_other : YieldsFalse (binary tt BinaryOp.Eq decimal_one decimal_two)
  -- `decimal("1.0") == context.address`, `decimal("1.0") == "1.0"`
  pub extension_other_type : YieldsFalse
      (binary tt BinaryOp.Eq decimal_one (dot context (codes "address")))
  pub extension_and_text : YieldsFalse (binary tt BinaryOp.Eq decimal_one (text (codes "1.0")))
  -- `decimal("2.0") == duration(decimal("1.0"), 1)`: the types differ, though both have the text
  -- `2.0`
  pub extension_same_text : YieldsFalse (binary tt BinaryOp.Eq decimal_two a_duration)
  -- `1 == "1"`, `[] == {}`, `[1] == 1`: values of different kinds are unequal, which is no failure
  pub other_kind : YieldsFalse (binary tt BinaryOp.Eq one (text (codes "1")))
  pub set_and_record : YieldsFalse (binary tt BinaryOp.Eq set0 (record_of tt no_fields))
  pub set_and_member : YieldsFalse (binary tt BinaryOp.Eq (set1 one) one)
  -- `User::"gone".age == 1`, `1 == User::"gone".age`
  pub equal_left_fails : FailsAs (binary tt BinaryOp.Eq missing one) MissingEntity
  pub equal_right_fails : FailsAs (binary tt BinaryOp.Eq one missing) MissingEntity

pub record SetExamples : Type 0 where
  -- `[].isEmpty()`
  pub empty : YieldsTrue (unary tt UnaryOp.IsEmpty set0)
  -- `[1].isEmpty()`
  pub not_empty : YieldsFalse (unary tt UnaryOp.IsEmpty (set1 one))
  -- `{}.isEmpty()`
  pub empty_of_record : FailsAs (unary tt UnaryOp.IsEmpty (record_of tt no_fields)) TypeFailure
  -- `"".isEmpty()`
  pub empty_of_text : FailsAs (unary tt UnaryOp.IsEmpty (text [])) TypeFailure
  -- `[1, 2].contains(2)`, `[1, 2].contains(3)`
  pub contains : YieldsTrue (binary tt BinaryOp.Contains (set2 one two) two)
  pub contains_not : YieldsFalse (binary tt BinaryOp.Contains (set2 one two) three)
  -- `[[1, 2]].contains([2, 1])`: a set may be a member
  pub contains_set : YieldsTrue (binary tt BinaryOp.Contains (set1 (set2 one two)) (set2 two one))
  -- `[1, 2].contains([1])`: a part of a set is no member of it
  pub contains_part : YieldsFalse (binary tt BinaryOp.Contains (set2 one two) (set1 one))
  -- `1.contains(1)`
  pub contains_of_long : FailsAs (binary tt BinaryOp.Contains one one) TypeFailure
  -- `[1, 2].containsAll([2, 1, 2])`, `[1].containsAll([1, 2])`
  pub contains_all : YieldsTrue (binary tt BinaryOp.ContainsAll (set2 one two) (set3 two one two))
  pub contains_all_not : YieldsFalse (binary tt BinaryOp.ContainsAll (set1 one) (set2 one two))
  -- `[1].containsAll([])`
  pub contains_all_none : YieldsTrue (binary tt BinaryOp.ContainsAll (set1 one) set0)
  -- `1.containsAll([1])`, `[1].containsAll(1)`
  pub contains_all_left : FailsAs (binary tt BinaryOp.ContainsAll one (set1 one)) TypeFailure
  pub contains_all_right : FailsAs (binary tt BinaryOp.ContainsAll (set1 one) one) TypeFailure
  -- `[1, 2].containsAny([2, 3])`, `[1].containsAny([2])`
  pub contains_any : YieldsTrue (binary tt BinaryOp.ContainsAny (set2 one two) (set2 two three))
  pub contains_any_not : YieldsFalse (binary tt BinaryOp.ContainsAny (set1 one) (set1 two))
  -- `[1].containsAny([])`
  pub contains_any_none : YieldsFalse (binary tt BinaryOp.ContainsAny (set1 one) set0)
  -- `1.containsAny([1])`, `[1].containsAny(1)`
  pub contains_any_left : FailsAs (binary tt BinaryOp.ContainsAny one (set1 one)) TypeFailure
  pub contains_any_right : FailsAs (binary tt BinaryOp.ContainsAny (set1 one) one) TypeFailure
