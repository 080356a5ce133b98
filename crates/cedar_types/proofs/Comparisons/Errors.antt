-- The derived `==` of errors and of warnings, and ties of errors: each holds exactly if the
-- plain views are equal.
use Rattle.std.proofs.Common.{◌≡◌, refl, sym, ◌∙◌, Bool, true, false, ◌&&◌, List, [], ◌∷◌, Option, Some, None, map, option_map}
use Rattle.std.specs.Option.{option_eq}
use Rattle.std.specs.Ordering.{is_eq}
use Rattle.std.specs.Cmp.Lexicographic.{pointwise}
use Rattle.cedar_types.specs.declared.base.names.entities.EntityType.{EntityType}
use Rattle.cedar_types.specs.declared.base.types.entity_sets.EntityLUB.{EntityLUB}
use Rattle.cedar_types.specs.declared.base.types.CedarType.{CedarType}
use Rattle.cedar_types.specs.declared.base.errors.validation_errors.ValidationError.{ValidationError}
use Rattle.cedar_types.specs.declared.base.errors.validation_errors.ValidationError.TheVariants as error
use Rattle.cedar_types.specs.declared.base.errors.validation_warnings.ValidationWarning.{ValidationWarning}
use Rattle.cedar_types.specs.declared.base.errors.validation_warnings.ValidationWarning.TheVariants as warning
use Rattle.cedar_types.specs.contracts.base.names.entities.EntityTypePartialEq.TheImpl as entity_type_impl
use Rattle.cedar_types.specs.contracts.base.types.entity_sets.EntityLUBPartialEq.TheImpl as lub_impl
use Rattle.cedar_types.specs.contracts.base.types.CedarTypePartialEq.TheImpl as type_impl
use Rattle.cedar_types.specs.contracts.base.errors.validation_errors.ValidationErrorPartialEq.TheImpl as error_impl
use Rattle.cedar_types.specs.contracts.base.errors.validation_errors.ValidationErrorOrd.TheImpl.Laws as error_ord_laws
use Rattle.cedar_types.specs.contracts.base.errors.validation_warnings.ValidationWarningPartialEq.TheImpl as warning_impl
use Rattle.cedar_types.specs.Names.{text_of, type_of, text_eq, path_eq}
use Rattle.cedar_types.specs.Types.{ty_of, lub_of}
use Rattle.cedar_types.specs.Names.Comparisons.{bool_eq}
use Rattle.cedar_types.specs.ErrorOrder.{error_cmp}
use Rattle.cedar_types.specs.Lemmas.Comparisons.{name_is, entity_type_is, uid_is}
use Rattle.cedar_types.specs.Errors.{finding_of, warning_of}
use Rattle.cedar_types.proofs.Comparisons.Types.{types_same}
use Rattle.cedar_types.proofs.Comparisons.ErrorsDecided.{loc_eq, context_eq, tys_eq, paths_eq, finding_eq, warning_eq}

types_are : (xs ys : List CedarType) → pointwise type_impl.ghosts.eq xs ys ≡ tys_eq (map ty_of xs) (map ty_of ys)
types_are [] [] = refl
types_are [] (y ∷ ys) = refl
types_are (x ∷ xs) [] = refl
types_are (x ∷ xs) (y ∷ ys) = λ i. types_same x y i && types_are xs ys i

names_are : (xs ys : List EntityType) → pointwise entity_type_impl.ghosts.eq xs ys ≡ paths_eq (map type_of xs) (map type_of ys)
names_are [] [] = refl
names_are [] (y ∷ ys) = refl
names_are (x ∷ xs) [] = refl
names_are (x ∷ xs) (y ∷ ys) = λ i. entity_type_is x y i && names_are xs ys i

lub_is : (x y : Option EntityLUB) → option_eq lub_impl.ghosts.eq x y ≡ option_eq paths_eq (option_map lub_of x) (option_map lub_of y)
unfolding lub_of
lub_is None None = refl
lub_is None (Some y) = refl
lub_is (Some x) None = refl
lub_is (Some x) (Some y) = names_are x.lub_elements.value.keys y.lub_elements.value.keys

single_is : (x y : Option EntityType) → option_eq entity_type_impl.ghosts.eq x y
    ≡ option_eq path_eq (option_map type_of x) (option_map type_of y)
single_is None None = refl
single_is None (Some y) = refl
single_is (Some x) None = refl
single_is (Some x) (Some y) = entity_type_is x y

and_true : (b : Bool) → b ≡ (b && true)
and_true true = refl
and_true false = refl

and_false : (a b : Bool) → false ≡ (a && (b && false))
and_false true true = refl
and_false true false = refl
and_false false b = refl

pub error_is : (x y : ValidationError) → error_impl.ghosts.eq x y ≡ finding_eq (finding_of x) (finding_of y)
error_is (error.UnrecognizedEntityType x) (error.UnrecognizedEntityType y) =
    λ i. option_eq loc_eq x.source_loc y.source_loc
    && (text_eq (text_of x.policy_id.text) (text_of y.policy_id.text)
    && entity_type_is x.actual_entity_type y.actual_entity_type i)
error_is (error.UnrecognizedActionId x) (error.UnrecognizedActionId y) =
    λ i. option_eq loc_eq x.source_loc y.source_loc
    && (text_eq (text_of x.policy_id.text) (text_of y.policy_id.text)
    && uid_is x.actual_action_id y.actual_action_id i)
error_is (error.InvalidEnumEntity x) (error.InvalidEnumEntity y) =
    λ i. option_eq loc_eq x.source_loc y.source_loc
    && (text_eq (text_of x.policy_id.text) (text_of y.policy_id.text) && uid_is x.uid y.uid i)
error_is (error.UnexpectedType x) (error.UnexpectedType y) =
    λ i. option_eq loc_eq x.source_loc y.source_loc
    && (text_eq (text_of x.policy_id.text) (text_of y.policy_id.text)
    && (types_are x.expected.keys y.expected.keys i && types_same x.actual y.actual i))
error_is (error.IncompatibleTypes x) (error.IncompatibleTypes y) =
    λ i. option_eq loc_eq x.source_loc y.source_loc
    && (text_eq (text_of x.policy_id.text) (text_of y.policy_id.text)
    && (types_are x.types.keys y.types.keys i && context_eq x.context y.context))
error_is (error.UnsafeAttributeAccess x) (error.UnsafeAttributeAccess y) =
    λ i. option_eq loc_eq x.source_loc y.source_loc
    && (text_eq (text_of x.policy_id.text) (text_of y.policy_id.text)
    && (types_same x.accessed_type y.accessed_type i
    && (text_eq (text_of x.attr) (text_of y.attr) && bool_eq x.may_exist y.may_exist)))
error_is (error.UnsafeOptionalAttributeAccess x) (error.UnsafeOptionalAttributeAccess y) =
    λ i. option_eq loc_eq x.source_loc y.source_loc
    && (text_eq (text_of x.policy_id.text) (text_of y.policy_id.text)
    && (types_same x.accessed_type y.accessed_type i && text_eq (text_of x.attr) (text_of y.attr)))
error_is (error.UnsafeTagAccess x) (error.UnsafeTagAccess y) =
    λ i. option_eq loc_eq x.source_loc y.source_loc
    && (text_eq (text_of x.policy_id.text) (text_of y.policy_id.text) && lub_is x.entity_ty y.entity_ty i)
error_is (error.NoTagsAllowed x) (error.NoTagsAllowed y) =
    λ i. option_eq loc_eq x.source_loc y.source_loc
    && (text_eq (text_of x.policy_id.text) (text_of y.policy_id.text) && single_is x.entity_ty y.entity_ty i)
error_is (error.UndefinedFunction x) (error.UndefinedFunction y) =
    λ i. option_eq loc_eq x.source_loc y.source_loc
    && (text_eq (text_of x.policy_id.text) (text_of y.policy_id.text) && name_is x.name y.name i)
error_is (error.WrongNumberArguments x) (error.WrongNumberArguments y) = refl
error_is (error.FunctionArgumentValidation x) (error.FunctionArgumentValidation y) = refl
error_is (error.EmptySetForbidden x) (error.EmptySetForbidden y) =
    λ i. option_eq loc_eq x.source_loc y.source_loc
    && and_true (text_eq (text_of x.policy_id.text) (text_of y.policy_id.text)) i
error_is (error.NonLitExtConstructor x) (error.NonLitExtConstructor y) =
    λ i. option_eq loc_eq x.source_loc y.source_loc
    && and_true (text_eq (text_of x.policy_id.text) (text_of y.policy_id.text)) i
error_is (error.InternalInvariantViolation x) (error.InternalInvariantViolation y) =
    λ i. option_eq loc_eq x.source_loc y.source_loc
    && and_true (text_eq (text_of x.policy_id.text) (text_of y.policy_id.text)) i
error_is (error.MaximumLevelExceeded x) (error.MaximumLevelExceeded y) = refl
error_is (error.LiteralDereferenceTarget x) (error.LiteralDereferenceTarget y) =
    λ i. option_eq loc_eq x.source_loc y.source_loc
    && and_true (text_eq (text_of x.policy_id.text) (text_of y.policy_id.text)) i
error_is x y = and_false (option_eq loc_eq (finding_of x).place (finding_of y).place) (text_eq (finding_of x).policy (finding_of y).policy)

pub tie_is : (x y : ValidationError) → is_eq (error_cmp x y) ≡ finding_eq (finding_of x) (finding_of y)
tie_is x y = sym (error_ord_laws.matches_eq-law x y) ∙ error_is x y

pub warning_is : (x y : ValidationWarning) → warning_impl.ghosts.eq x y ≡ warning_eq (warning_of x) (warning_of y)
warning_is (warning.ImpossiblePolicy x) (warning.ImpossiblePolicy y) =
    λ i. option_eq loc_eq x.source_loc y.source_loc
    && and_true (text_eq (text_of x.policy_id.text) (text_of y.policy_id.text)) i
warning_is (warning.InvalidActionApplication x) (warning.InvalidActionApplication y) = refl
warning_is x y =
    and_false (option_eq loc_eq (warning_of x).place (warning_of y).place)
    (text_eq (warning_of x).policy (warning_of y).policy)
