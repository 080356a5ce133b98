-- Computed examples of the rule of sets.
use Rattle.std.specs.Prelude.{[], ◌∷◌, Some, None, codes}
use Rattle.cedar_types.specs.declared.base.errors.type_errors.LubContext.TheVariants.{Set}
use Rattle.cedar_types.specs.declared.base.types.BoolType.TheVariants.{AnyBool}
use Rattle.cedar_types.specs.declared.base.types.ValidationMode.TheVariants.{Permissive}
use Rattle.cedar_types.specs.Types.{TNever, TBool, TLong, TString, TSet}
use Rattle.cedar_types.specs.Errors.{incompatible_types, empty_set_forbidden}
use Rattle.cedar_typing.specs.Examples.Expressions.{true_lit, false_lit, one, text, set0, set1, set2, get_rank, get_vip}
use Rattle.cedar_typing.specs.Examples.Rules.{IsTyped, IsTypedIn, IsRefused, error_at, unknown_rank, unguarded_vip}
use Rattle.cedar_typing.specs.Examples.World.{sample}

pub record SetTyping : Type 0 where
  -- `[1, 1]`; `[true, false]`: the bound of True and False is Bool
  pub of_one_type : IsTyped (set2 one one) (TSet TLong)
  pub of_their_bound : IsTyped (set2 true_lit false_lit) (TSet (TBool AnyBool))
  -- `[1, "a"]`: the elements have no bound
  pub unbound : IsRefused (set2 one (text (codes "a"))) None
      (error_at 1 (incompatible_types (TLong ∷ TString ∷ []) Set) ∷ [])
  -- `[]`: an error in Strict alone
  pub without_elements : IsRefused set0 None (error_at 1 empty_set_forbidden ∷ [])
  pub without_elements_permissive : IsTypedIn (sample Permissive) set0 (TSet TNever)
  -- `[principal.rank, 1]`: an element without a type adds no error
  pub element_missing : IsRefused (set2 get_rank one) None (unknown_rank 2 ∷ [])
  -- `[principal.vip]`: an element that failed, but has a type
  pub element_failed : IsRefused (set1 get_vip) (Some (TSet (TBool AnyBool))) (unguarded_vip 2 ∷ [])
