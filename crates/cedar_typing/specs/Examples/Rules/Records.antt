-- Computed examples of the rule of records.
use Rattle.std.specs.Prelude.{true, false, [], ◌∷◌, Some, None, codes}
use Rattle.cedar_types.specs.declared.base.types.BoolType.TheVariants.{AnyBool, True}
use Rattle.cedar_types.specs.Types.{TBool, TLong, TRecord, no_attrs, attr}
use Rattle.cedar_types.specs.Errors.{internal_invariant_violation}
use Rattle.cedar_typing.specs.Examples.Expressions.{true_lit, one, record1, record2, get_rank, get_vip}
use Rattle.cedar_typing.specs.Examples.Rules.{IsTyped, IsRefused, error_at, unknown_rank, unguarded_vip}

pub record RecordTyping : Type 0 where
  -- `{x: 1, y: true}`: closed, and both attributes are required
  pub of_both : IsTyped (record2 (codes "x") one (codes "y") true_lit)
      (TRecord (attr (codes "x") TLong true (attr (codes "y") (TBool True) true no_attrs)) false)
  -- `{x: principal.rank}`: a value without a type adds no error
  pub value_missing : IsRefused (record1 (codes "x") get_rank) None (unknown_rank 2 ∷ [])
  -- `{x: principal.vip}`: a value that failed, but has a type
  pub value_failed : IsRefused (record1 (codes "x") get_vip)
      (Some (TRecord (attr (codes "x") (TBool AnyBool) true no_attrs) false)) (unguarded_vip 2 ∷ [])
  -- keys that do not ascend, as in no record of the program, are an error at the whole
  pub keys_descend : IsRefused (record2 (codes "y") one (codes "x") true_lit) None
      (error_at 1 internal_invariant_violation ∷ [])
  pub key_twice : IsRefused (record2 (codes "x") one (codes "x") true_lit) None
      (error_at 1 internal_invariant_violation ∷ [])
