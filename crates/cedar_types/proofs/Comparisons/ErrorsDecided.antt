-- Tests of equality of plain errors and warnings decide equality.
use Rattle.std.proofs.Common.{◌≡◌, refl, sym, ap, arith, Bool, true, false, ◌&&◌, true≢false, List, Option, Some, None, nat_eq}
use Rattle.std.specs.Bool.{Decides}
use Rattle.std.specs.Option.{option_eq}
use Rattle.std.specs.Cmp.Lexicographic.{pointwise}
use Rattle.cedar_types.specs.declared.base.location.Loc.{Loc}
use Rattle.cedar_types.specs.declared.base.errors.type_errors.LubContext.{LubContext}
use Rattle.cedar_types.specs.contracts.base.errors.type_errors.LubContextPartialEq.TheImpl as context_impl
use Rattle.cedar_types.specs.Names.{Text, Path, text_eq, path_eq, uid_eq}
use Rattle.cedar_types.specs.Types.{Ty}
use Rattle.cedar_types.specs.Types.Bounds.{ty_eq}
use Rattle.cedar_types.specs.Names.Comparisons.{bool_eq}
use Rattle.cedar_types.specs.Lemmas.Comparisons.{Same, and_left, and_right, and_both, list_same, nat_same, text_same, path_same, uid_same}
use Rattle.cedar_types.specs.Lemmas.Comparisons.{bool_same}
use Rattle.cedar_types.specs.Lemmas.Decided.{decides, of_two, of_three}
use Rattle.cedar_types.specs.Errors.{Fault, unrecognized_entity_type, unrecognized_action_id, invalid_enum_entity, unexpected_type}
use Rattle.cedar_types.specs.Errors.{incompatible_types, unsafe_attribute_access, unsafe_optional_attribute_access, unsafe_tag_access}
use Rattle.cedar_types.specs.Errors.{no_tags_allowed, undefined_function, wrong_number_arguments, function_argument_validation}
use Rattle.cedar_types.specs.Errors.{empty_set_forbidden, non_lit_ext_constructor, internal_invariant_violation, maximum_level_exceeded}
use Rattle.cedar_types.specs.Errors.{literal_dereference_target, Finding, Slip, impossible_policy, invalid_action_application, Warning}
use Rattle.cedar_types.proofs.Comparisons.SameTypes.{ty_same}

-- ---- the parts of errors

opt_to : {A : Type 0} {E : A → A → Bool} → Same E → (x y : Option A) → option_eq E x y ≡ true → x ≡ y
opt_to s None None h = refl
opt_to s None (Some y) h = absurd (true≢false (sym h))
opt_to s (Some x) None h = absurd (true≢false (sym h))
opt_to s (Some x) (Some y) h = ap Some (s.to x y h)

opt_itself : {A : Type 0} {E : A → A → Bool} → Same E → (x : Option A) → option_eq E x x ≡ true
opt_itself s None = refl
opt_itself s (Some x) = s.itself x

opt_same : {A : Type 0} {E : A → A → Bool} → Same E → Same (option_eq E)
opt_same s = record { to = opt_to s; itself = opt_itself s }

abbrev pub loc_eq : Loc → Loc → Bool
loc_eq l m = nat_eq l.start m.start && nat_eq l.end m.end

loc_same : Same loc_eq
loc_same = record {
  to = λ l m h. λ i. record {
    start = nat_same.to l.start m.start (and_left (nat_eq l.start m.start) (nat_eq l.end m.end) h) i;
    end = nat_same.to l.end m.end (and_right (nat_eq l.start m.start) (nat_eq l.end m.end) h) i;
  };
  itself = λ l. and_both (nat_eq l.start l.start) (nat_eq l.end l.end) (nat_same.itself l.start) (nat_same.itself l.end);
}

abbrev pub context_eq : LubContext → LubContext → Bool
context_eq = context_impl.ghosts.eq

context_same : Same context_eq
context_same = record { to = λ x y h. grind arith; itself = λ x. grind arith }

abbrev pub tys_eq : List Ty → List Ty → Bool
tys_eq = pointwise ty_eq

abbrev pub paths_eq : List Path → List Path → Bool
paths_eq = pointwise path_eq

-- ---- tests of equality of two plain errors

abbrev pub fault_eq : Fault → Fault → Bool
fault_eq (unrecognized_entity_type t) (unrecognized_entity_type u) = path_eq t u
fault_eq (unrecognized_action_id t) (unrecognized_action_id u) = uid_eq t u
fault_eq (invalid_enum_entity t) (invalid_enum_entity u) = uid_eq t u
fault_eq (unexpected_type ts a) (unexpected_type us b) = tys_eq ts us && ty_eq a b
fault_eq (incompatible_types ts c) (incompatible_types us d) = tys_eq ts us && context_eq c d
fault_eq (unsafe_attribute_access t a m) (unsafe_attribute_access u b n) = ty_eq t u && (text_eq a b && bool_eq m n)
fault_eq (unsafe_optional_attribute_access t a) (unsafe_optional_attribute_access u b) = ty_eq t u && text_eq a b
fault_eq (unsafe_tag_access t) (unsafe_tag_access u) = option_eq paths_eq t u
fault_eq (no_tags_allowed t) (no_tags_allowed u) = option_eq path_eq t u
fault_eq (undefined_function m) (undefined_function n) = path_eq m n
fault_eq (wrong_number_arguments k m) (wrong_number_arguments l n) = nat_eq k l && nat_eq m n
fault_eq (function_argument_validation m) (function_argument_validation n) = text_eq m n
fault_eq empty_set_forbidden empty_set_forbidden = true
fault_eq non_lit_ext_constructor non_lit_ext_constructor = true
fault_eq internal_invariant_violation internal_invariant_violation = true
fault_eq (maximum_level_exceeded k m) (maximum_level_exceeded l n) = nat_eq k l && nat_eq m n
fault_eq literal_dereference_target literal_dereference_target = true
fault_eq f g = false

abbrev pub finding_eq : Finding → Finding → Bool
finding_eq f g = option_eq loc_eq f.place g.place && (text_eq f.policy g.policy && fault_eq f.fault g.fault)

abbrev pub slip_eq : Slip → Slip → Bool
slip_eq impossible_policy impossible_policy = true
slip_eq (invalid_action_application p r) (invalid_action_application q s) = bool_eq p q && bool_eq r s
slip_eq s t = false

abbrev pub warning_eq : Warning → Warning → Bool
warning_eq v w = option_eq loc_eq v.place w.place && (text_eq v.policy w.policy && slip_eq v.slip w.slip)

-- ---- the tests decide equality

fault_to : (f g : Fault) → fault_eq f g ≡ true → f ≡ g
fault_to (unrecognized_entity_type t) (unrecognized_entity_type u) h = ap unrecognized_entity_type (path_same.to t u h)
fault_to (unrecognized_action_id t) (unrecognized_action_id u) h = ap unrecognized_action_id (uid_same.to t u h)
fault_to (invalid_enum_entity t) (invalid_enum_entity u) h = ap invalid_enum_entity (uid_same.to t u h)
fault_to (unexpected_type ts a) (unexpected_type us b) h = of_two unexpected_type ((list_same ty_same).to ts us) (ty_same.to a b) h
fault_to (incompatible_types ts c) (incompatible_types us d) h =
    of_two incompatible_types ((list_same ty_same).to ts us) (context_same.to c d) h
fault_to (unsafe_attribute_access t a m) (unsafe_attribute_access u b n) h =
    of_three unsafe_attribute_access (ty_same.to t u) (text_same.to a b) (bool_same.to m n) h
fault_to (unsafe_optional_attribute_access t a) (unsafe_optional_attribute_access u b) h =
    of_two unsafe_optional_attribute_access (ty_same.to t u) (text_same.to a b) h
fault_to (unsafe_tag_access t) (unsafe_tag_access u) h = ap unsafe_tag_access ((opt_same (list_same path_same)).to t u h)
fault_to (no_tags_allowed t) (no_tags_allowed u) h = ap no_tags_allowed ((opt_same path_same).to t u h)
fault_to (undefined_function m) (undefined_function n) h = ap undefined_function (path_same.to m n h)
fault_to (wrong_number_arguments k m) (wrong_number_arguments l n) h = of_two wrong_number_arguments (nat_same.to k l) (nat_same.to m n) h
fault_to (function_argument_validation m) (function_argument_validation n) h = ap function_argument_validation (text_same.to m n h)
fault_to empty_set_forbidden empty_set_forbidden h = refl
fault_to non_lit_ext_constructor non_lit_ext_constructor h = refl
fault_to internal_invariant_violation internal_invariant_violation h = refl
fault_to (maximum_level_exceeded k m) (maximum_level_exceeded l n) h = of_two maximum_level_exceeded (nat_same.to k l) (nat_same.to m n) h
fault_to literal_dereference_target literal_dereference_target h = refl
fault_to f g h = absurd (true≢false (sym h))

fault_itself : (f : Fault) → fault_eq f f ≡ true
fault_itself (unrecognized_entity_type t) = path_same.itself t
fault_itself (unrecognized_action_id t) = uid_same.itself t
fault_itself (invalid_enum_entity t) = uid_same.itself t
fault_itself (unexpected_type ts a) = and_both (tys_eq ts ts) (ty_eq a a) ((list_same ty_same).itself ts) (ty_same.itself a)
fault_itself (incompatible_types ts c) = and_both (tys_eq ts ts) (context_eq c c) ((list_same ty_same).itself ts) (context_same.itself c)
fault_itself (unsafe_attribute_access t a m) =
    and_both (ty_eq t t) (text_eq a a && bool_eq m m) (ty_same.itself t)
    (and_both (text_eq a a) (bool_eq m m) (text_same.itself a) (bool_same.itself m))
fault_itself (unsafe_optional_attribute_access t a) = and_both (ty_eq t t) (text_eq a a) (ty_same.itself t) (text_same.itself a)
fault_itself (unsafe_tag_access t) = (opt_same (list_same path_same)).itself t
fault_itself (no_tags_allowed t) = (opt_same path_same).itself t
fault_itself (undefined_function m) = path_same.itself m
fault_itself (wrong_number_arguments k m) = and_both (nat_eq k k) (nat_eq m m) (nat_same.itself k) (nat_same.itself m)
fault_itself (function_argument_validation m) = text_same.itself m
fault_itself empty_set_forbidden = refl
fault_itself non_lit_ext_constructor = refl
fault_itself internal_invariant_violation = refl
fault_itself (maximum_level_exceeded k m) = and_both (nat_eq k k) (nat_eq m m) (nat_same.itself k) (nat_same.itself m)
fault_itself literal_dereference_target = refl

fault_same : Same fault_eq
fault_same = record { to = fault_to; itself = fault_itself }

place_same : Same (option_eq loc_eq)
place_same = opt_same loc_same

abbrev finding_at : Option Loc → Text → Fault → Finding
finding_at place policy fault = record { place = place; policy = policy; fault = fault }

pub finding_same : Same finding_eq
finding_same = record {
  to = λ f g. of_three finding_at (place_same.to f.place g.place) (text_same.to f.policy g.policy) (fault_same.to f.fault g.fault);
  itself = λ f i. place_same.itself f.place i && (text_same.itself f.policy i && fault_same.itself f.fault i);
}

slip_to : (s t : Slip) → slip_eq s t ≡ true → s ≡ t
slip_to impossible_policy impossible_policy h = refl
slip_to (invalid_action_application p r) (invalid_action_application q s) h =
    of_two invalid_action_application (bool_same.to p q) (bool_same.to r s) h
slip_to s t h = absurd (true≢false (sym h))

slip_itself : (s : Slip) → slip_eq s s ≡ true
slip_itself impossible_policy = refl
slip_itself (invalid_action_application p r) = and_both (bool_eq p p) (bool_eq r r) (bool_same.itself p) (bool_same.itself r)

abbrev warning_at : Option Loc → Text → Slip → Warning
warning_at place policy slip = record { place = place; policy = policy; slip = slip }

pub warning_same : Same warning_eq
warning_same = record {
  to = λ v w. of_three warning_at (place_same.to v.place w.place) (text_same.to v.policy w.policy) (slip_to v.slip w.slip);
  itself = λ v i. place_same.itself v.place i && (text_same.itself v.policy i && slip_itself v.slip i);
}

pub finding_eq-Decides : (f g : Finding) → Decides (finding_eq f g) (f ≡ g)
finding_eq-Decides = decides finding_same

pub warning_eq-Decides : (v w : Warning) → Decides (warning_eq v w) (v ≡ w)
warning_eq-Decides = decides warning_same
