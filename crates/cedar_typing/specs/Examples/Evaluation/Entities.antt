-- Computed outcomes of `in`, of `is`, and of tests and accesses of attributes and tags.
use Rattle.std.specs.Prelude.{pos, [], ◌∷◌, codes}
use Rattle.cedar_types.specs.declared.base.expressions.operators.BinaryOp.{BinaryOp}
use Rattle.cedar_types.specs.Expressions.Tree.{binary, ext_has_attr}
use Rattle.cedar_types.specs.Values.{VEntity}
use Rattle.cedar_typing.specs.Evaluation.World.{TypeFailure, AbsentAttribute, AbsentTag, MissingEntity}
use Rattle.cedar_typing.specs.Examples.Evaluation.{Yields, YieldsTrue, YieldsFalse, FailsAs}
use Rattle.cedar_typing.specs.Examples.Expressions.{one, text, the, principal, context, dot, has, has2, set0, set2, record1, is, missing}
use Rattle.cedar_typing.specs.Examples.Expressions.{mistyped}
use Rattle.cedar_typing.specs.Examples.Greeting.{number, words}
use Rattle.cedar_typing.specs.Examples.World.{user, group, alice, bob, gone}

pub record MembershipExamples : Type 0 where
  -- `User::"alice" in User::"alice"`: an entity is in itself
  pub in_itself : YieldsTrue (binary tt BinaryOp.In (the alice) (the alice))
  -- `User::"gone" in User::"gone"`: even if it is not in the store
  pub in_itself_missing : YieldsTrue (binary tt BinaryOp.In (the gone) (the gone))
  -- `User::"alice" in User::"bob"`: bob is an ancestor
  pub in_ancestor : YieldsTrue (binary tt BinaryOp.In (the alice) (the bob))
  -- `User::"bob" in User::"alice"`: not the other way round
  pub in_child : YieldsFalse (binary tt BinaryOp.In (the bob) (the alice))
  -- `User::"gone" in User::"bob"`: an entity that is not in the store has no ancestors
  pub in_of_missing : YieldsFalse (binary tt BinaryOp.In (the gone) (the bob))
  -- `User::"alice" in [User::"gone", User::"bob"]`: one member of the set is enough
  pub in_set : YieldsTrue (binary tt BinaryOp.In (the alice) (set2 (the gone) (the bob)))
  -- `User::"bob" in [User::"alice", User::"gone"]`: no member of the set is above bob
  pub in_no_member : YieldsFalse (binary tt BinaryOp.In (the bob) (set2 (the alice) (the gone)))
  -- `User::"alice" in []`
  pub in_empty : YieldsFalse (binary tt BinaryOp.In (the alice) set0)
  -- `1 in User::"alice"`, `User::"alice" in 1`
  pub in_of_long : FailsAs (binary tt BinaryOp.In one (the alice)) TypeFailure
  pub in_long : FailsAs (binary tt BinaryOp.In (the alice) one) TypeFailure
  -- `User::"alice" in [User::"bob", 1]`: each member must be an entity
  pub in_mixed_set : FailsAs (binary tt BinaryOp.In (the alice) (set2 (the bob) one)) TypeFailure
  -- `1 in []`
  pub in_of_long_empty : FailsAs (binary tt BinaryOp.In one set0) TypeFailure
  -- `User::"alice" is User`, `User::"alice" is Group`
  pub is_user : YieldsTrue (is (the alice) user)
  pub is_group : YieldsFalse (is (the alice) group)
  -- `User::"gone" is User`: the entity need not be in the store
  pub is_of_missing : YieldsTrue (is (the gone) user)
  -- `1 is User`
  pub is_of_long : FailsAs (is one user) TypeFailure
  -- `User::"gone".age is User`
  pub is_fails : FailsAs (is missing user) MissingEntity

pub record AttributeExamples : Type 0 where
  -- `principal.age`, `principal.boss`
  pub get : Yields (dot principal (codes "age")) (number (pos 30))
  pub get_entity : Yields (dot principal (codes "boss")) (VEntity bob)
  -- `principal.home.city`: an attribute of a record
  pub get_of_record : Yields (dot (dot principal (codes "home")) (codes "city"))
      (words (codes "Bern"))
  -- `principal.rank`, `{a: 1}.b`
  pub get_absent : FailsAs (dot principal (codes "rank")) AbsentAttribute
  pub get_absent_of_record : FailsAs (dot (record1 (codes "a") one) (codes "b")) AbsentAttribute
  -- `principal.role`: a tag is no attribute
  pub get_tag_name : FailsAs (dot principal (codes "role")) AbsentAttribute
  -- `User::"gone".age`
  pub get_of_missing : FailsAs (dot (the gone) (codes "age")) MissingEntity
  -- `1.age`, `"a".age`
  pub get_of_long : FailsAs (dot one (codes "age")) TypeFailure
  pub get_of_text : FailsAs (dot (text (codes "a")) (codes "age")) TypeFailure
  -- `(1 + true).age`
  pub get_fails : FailsAs (dot mistyped (codes "age")) TypeFailure
  -- `principal has age`, `principal has rank`
  pub has_it : YieldsTrue (has principal (codes "age"))
  pub has_not : YieldsFalse (has principal (codes "rank"))
  -- `User::"gone" has age`: false, and no failure
  pub has_of_missing : YieldsFalse (has (the gone) (codes "age"))
  -- `{a: 1} has a`, `{a: 1} has b`
  pub has_of_record : YieldsTrue (has (record1 (codes "a") one) (codes "a"))
  pub has_not_of_record : YieldsFalse (has (record1 (codes "a") one) (codes "b"))
  -- `1 has age`
  pub has_of_long : FailsAs (has one (codes "age")) TypeFailure
  -- `User::"gone".age has city`
  pub has_fails : FailsAs (has missing (codes "city")) MissingEntity
  -- `principal has home.city`: both attributes are there
  pub has_all : YieldsTrue (has2 principal (codes "home") (codes "city"))
  -- `principal has flat.city`: the first attribute is not there
  pub has_first_absent : YieldsFalse (has2 principal (codes "flat") (codes "city"))
  -- `principal has home.street`: a later attribute is not there
  pub has_later_absent : YieldsFalse (has2 principal (codes "home") (codes "street"))
  -- `principal has boss.home.city`: the second of three is not there
  pub has_middle_absent : YieldsFalse
      (ext_has_attr tt principal (codes "boss") (codes "home" ∷ codes "city" ∷ []))
  -- `{a: principal} has a.home.city`: all three attributes are there
  pub has_three : YieldsTrue
      (ext_has_attr tt (record1 (codes "a") principal) (codes "a")
      (codes "home" ∷ codes "city" ∷ []))
  -- `User::"gone" has home.city`, `context has friend.age`: an entity that is not in the store, at
  -- first and later
  pub has_all_of_missing : YieldsFalse (has2 (the gone) (codes "home") (codes "city"))
  pub has_later_missing : YieldsFalse (has2 context (codes "friend") (codes "age"))
  -- `principal has age.years`: the value of `age` is a long
  pub has_later_long : FailsAs (has2 principal (codes "age") (codes "years")) TypeFailure
  -- `1 has home.city`
  pub has_all_of_long : FailsAs (has2 one (codes "home") (codes "city")) TypeFailure
  -- `User::"gone".age has home.city`
  pub has_all_fails : FailsAs (has2 missing (codes "home") (codes "city")) MissingEntity

pub record TagExamples : Type 0 where
  -- `principal.hasTag("role")`, `principal.hasTag("rank")`
  pub has_tag : YieldsTrue (binary tt BinaryOp.HasTag principal (text (codes "role")))
  pub has_no_tag : YieldsFalse (binary tt BinaryOp.HasTag principal (text (codes "rank")))
  -- `principal.hasTag("age")`: an attribute is no tag
  pub has_tag_attribute : YieldsFalse (binary tt BinaryOp.HasTag principal (text (codes "age")))
  -- `User::"gone".hasTag("role")`: false, and no failure
  pub has_tag_of_missing : YieldsFalse (binary tt BinaryOp.HasTag (the gone) (text (codes "role")))
  -- `{role: 1}.hasTag("role")`, `principal.hasTag(1)`
  pub has_tag_of_record : FailsAs
      (binary tt BinaryOp.HasTag (record1 (codes "role") one) (text (codes "role"))) TypeFailure
  pub has_tag_long : FailsAs (binary tt BinaryOp.HasTag principal one) TypeFailure
  -- `User::"gone".hasTag(1)`: the operands' kinds are tested before the store is asked
  pub has_tag_long_of_missing : FailsAs (binary tt BinaryOp.HasTag (the gone) one) TypeFailure
  -- `principal.getTag("role")`
  pub get_tag : Yields (binary tt BinaryOp.GetTag principal (text (codes "role")))
      (words (codes "admin"))
  -- `principal.getTag("rank")`
  pub get_absent_tag : FailsAs (binary tt BinaryOp.GetTag principal (text (codes "rank"))) AbsentTag
  -- `User::"gone".getTag("role")`
  pub get_tag_of_missing : FailsAs (binary tt BinaryOp.GetTag (the gone) (text (codes "role")))
      MissingEntity
  -- `1.getTag("role")`, `principal.getTag(1)`
  pub get_tag_of_long : FailsAs (binary tt BinaryOp.GetTag one (text (codes "role"))) TypeFailure
  pub get_tag_long : FailsAs (binary tt BinaryOp.GetTag principal one) TypeFailure
  -- `User::"gone".getTag(1)`: the operands' kinds are tested before the store is asked
  pub get_tag_long_of_missing : FailsAs (binary tt BinaryOp.GetTag (the gone) one) TypeFailure
