-- The fields of a record: their keys ascend, and their typed values make the whole.
use Rattle.std.proofs.Common.{◌≡◌, refl, sym, ap, ◌∙◌, ◌&&◌, true, false, List, [], ◌∷◌, ◌++◌, map, Option, Some, None, option_map, Global}
use Rattle.std.proofs.Common.{subst}
use Rattle.std.specs.Prelude.{if◌then◌else◌}
use Rattle.std.specs.List.{AllByRecursion, list_all}
use Rattle.std.specs.List.Sorted.{IsStrictlySortedBy}
use Rattle.std.specs.Map.{keys_of}
use Rattle.std.specs.Ordering.{match_ordering, is_lt, ordering_reverse}
use Rattle.std.specs.Cmp.Lexicographic.{nat_list_cmp_total}
use Rattle.std.specs.BTreeMap.{insert_entry}
use Rattle.std.specs.declared.cmp.Ordering.TheVariants.{Less}
use Rattle.std.specs.declared.rc.RcStr.{RcStr}
use Rattle.std.proofs.lemmas.Map.Keys.{sorted_head, sorted_tail}
use Rattle.cedar_types.specs.declared.base.expressions.Expr.{Expr}
use Rattle.cedar_types.specs.declared.base.types.CedarType.{CedarType}
use Rattle.cedar_types.specs.declared.base.location.Loc.{Loc}
use Rattle.cedar_types.specs.Names.Ascending.{texts_ascending}
use Rattle.cedar_types.specs.Errors.{internal_invariant_violation}
use Rattle.cedar_types.specs.Names.{Text, text_of, text_cmp}
use Rattle.cedar_types.specs.Types.{Ty, TRecord, Attrs, no_attrs, attr, join_attrs}
use Rattle.cedar_types.specs.Expressions.Tree.{field}
use Rattle.cedar_types.specs.Expressions.View.{fields_of, fields_written}
use Rattle.cedar_types.proofs.Attributes.Records.{key_cmp, Ascends, below_next}
use Rattle.cedar_typing.specs.Capabilities.{no_caps}
use Rattle.cedar_typing.specs.Eager.{gives, refuses, types_found}
use Rattle.cedar_typing.specs.Rules.Records.{field_keys, fields_from, required_attrs, record_of_types}
use Rattle.cedar_typing.specs.Rules.Sets.{all_types, with_type}
use Rattle.cedar_typing.specs.TypeEnv.{TypeEnv, finding}
use Rattle.cedar_typing.specs.TypedExpr.{annotation, typed_tree}
use Rattle.cedar_typing.specs.Views.{keys_in, trees_in, decision_without_errors}
use Rattle.cedar_typing.proofs.Basics.{some_is, none_is}

abbrev pub TypedField : Type 0
TypedField = RcStr Global × Expr (Option CedarType)

-- ---- keys

-- the keys of a map ascend
pub keys_ascend : {A : Type 0} (es : List (RcStr Global × A)) → IsStrictlySortedBy key_cmp (keys_of es) → Ascends (keys_in es)
keys_ascend [] h = tt
keys_ascend {A} (e ∷ es) h = (at_head es (sorted_head key_cmp e.0 (keys_of es) h), keys_ascend es (sorted_tail key_cmp e.0 (keys_of es) h))
  where
    at_head : (fs : List (RcStr Global × A)) → AllByRecursion (λ l. key_cmp e.0 l ≡ Less) (keys_of fs)
        → AllByRecursion (λ l. text_cmp (text_of e.0) l ≡ Less) (keys_in fs)
    at_head [] h = tt
    at_head (f ∷ fs) h = (h.0, at_head fs h.1)

-- ascending keys pass the test of ascending
pub is_ascending : (ks : List Text) → Ascends ks → texts_ascending ks ≡ true
is_ascending [] h = refl
is_ascending (k ∷ ks) h = λ i. above ks h.0 i && is_ascending ks h.1 i
  where
    above : (ls : List Text) → AllByRecursion (λ l. text_cmp k l ≡ Less) ls → list_all (λ l. is_lt (text_cmp k l)) ls ≡ true
    above [] g = refl
    above (l ∷ ls) g = λ i. is_lt (g.0 i) && above ls g.1 i

pub keys_append : {A : Type 0} (es fs : List (RcStr Global × A)) → keys_in (es ++ fs) ≡ keys_in es ++ keys_in fs
keys_append [] fs = refl
keys_append (e ∷ es) fs = ap (λ ks. text_of e.0 ∷ ks) (keys_append es fs)

-- a key above those before it goes last
pub goes_last : {A : Type 0} (es : List (RcStr Global × A)) (k : RcStr Global) (v : A)
    → AllByRecursion (λ l. text_cmp l (text_of k) ≡ Less) (keys_in es)
    → insert_entry key_cmp es k v ≡ es ++ (k, v) ∷ []
goes_last [] k v h = refl
goes_last (e ∷ es) k v h =
    ap (λ o. match_ordering o ((k, v) ∷ e ∷ es) ((e.0, v) ∷ es) (e ∷ insert_entry key_cmp es k v))
    (nat_list_cmp_total.antisymm (text_of k) (text_of e.0) ∙ ap ordering_reverse h.0)
    ∙ ap (λ r. e ∷ r) (goes_last es k v h.1)

-- the key that comes next is above those before it
pub key_is_last : {A B : Type 0} (news : List (RcStr Global × A)) (done : List (RcStr Global × B))
    (e : RcStr Global × B) (left : List (RcStr Global × B)) (k : RcStr Global)
    → keys_in news ≡ keys_in done → text_of k ≡ text_of e.0 → IsStrictlySortedBy key_cmp (keys_of (done ++ e ∷ left))
    → AllByRecursion (λ l. text_cmp l (text_of k) ≡ Less) (keys_in news)
key_is_last news done e left k same named h =
    let ordered : Ascends (keys_in done ++ text_of e.0 ∷ keys_in left) = subst Ascends (keys_append done (e ∷ left))
    (keys_ascend (done ++ e ∷ left) h) in
    let below = below_next (keys_in done) (text_of e.0) (keys_in left) ordered in
    subst (λ ks. AllByRecursion (λ l. text_cmp l (text_of k) ≡ Less) ks) (sym same)
    (subst (λ t. AllByRecursion (λ l. text_cmp l t ≡ Less) (keys_in done)) (sym named) below)

pub keys_with_last : {A B : Type 0} (news : List (RcStr Global × A)) (done : List (RcStr Global × B))
    (e : RcStr Global × B) (k : RcStr Global) (v : A)
    → keys_in news ≡ keys_in done → text_of k ≡ text_of e.0
    → keys_in (news ++ (k, v) ∷ []) ≡ keys_in (done ++ e ∷ [])
keys_with_last news done e k v same named =
    keys_append news ((k, v) ∷ [])
    ∙ (λ i. same i ++ named i ∷ [])
    ∙ sym (keys_append done (e ∷ []))

pub trees_append : (es fs : List TypedField) → trees_in (es ++ fs) ≡ trees_in es ++ trees_in fs
trees_append [] fs = refl
trees_append (e ∷ es) fs = ap (λ xs. typed_tree e.1 ∷ xs) (trees_append es fs)

pub keys_written : (es : List (RcStr Global × Expr (Unit {0}))) → field_keys (fields_written es) ≡ keys_in es
keys_written [] = refl
keys_written (e ∷ es) = ap (λ ks. text_of e.0 ∷ ks) (keys_written es)

pub fields_are : (es : List TypedField) → fields_of (map (λ e. (e.0, typed_tree e.1)) es) ≡ fields_from (keys_in es) (trees_in es)
fields_are [] = refl
fields_are (e ∷ es) = ap (field (text_of e.0) (typed_tree e.1)) (fields_are es)

-- ---- the type of the whole

abbrev with_attr : Text → Option Ty → Option Attrs → Option Attrs
with_attr k (Some t) (Some xs) = Some (attr k t true xs)
with_attr k t xs = None

-- the attributes that typed fields make, if none lacks a type
abbrev pub attrs_typed : List TypedField → Option Attrs
attrs_typed [] = Some no_attrs
attrs_typed (e ∷ es) = with_attr (text_of e.0) (annotation (typed_tree e.1)) (attrs_typed es)

with_required : (k : Text) (ks : List Text) (t : Option Ty) (ts : Option (List Ty))
    → with_attr k t (option_map (required_attrs ks) ts) ≡ option_map (required_attrs (k ∷ ks)) (with_type t ts)
with_required k ks None ts = refl
with_required k ks (Some t) None = refl
with_required k ks (Some t) (Some ts) = refl

required_by : (es : List TypedField) → attrs_typed es ≡ option_map (required_attrs (keys_in es)) (all_types (types_found (trees_in es)))
required_by [] = refl
required_by (e ∷ es) =
    ap (with_attr (text_of e.0) (annotation (typed_tree e.1))) (required_by es)
    ∙ with_required (text_of e.0) (keys_in es) (annotation (typed_tree e.1)) (all_types (types_found (trees_in es)))

-- one more field, with a type
with_last : (k : Text) (t : Option Ty) (ys : Attrs) (xs : Option Attrs)
    → with_attr k t (option_map (λ zs. join_attrs zs ys) xs)
    ≡ option_map (λ zs. join_attrs zs ys) (with_attr k t xs)
with_last k None ys xs = refl
with_last k (Some t) ys None = refl
with_last k (Some t) ys (Some xs) = refl

pub one_more_attr : (es : List TypedField) (e : TypedField) (t : Ty) → annotation (typed_tree e.1) ≡ Some t
    → attrs_typed (es ++ e ∷ [])
    ≡ option_map (λ xs. join_attrs xs (attr (text_of e.0) t true no_attrs)) (attrs_typed es)
one_more_attr [] e t h = ap (λ o. with_attr (text_of e.0) o (Some no_attrs)) h
one_more_attr (f ∷ es) e t h =
    ap (with_attr (text_of f.0) (annotation (typed_tree f.1))) (one_more_attr es e t h)
    ∙ with_last (text_of f.0) (annotation (typed_tree f.1)) (attr (text_of e.0) t true no_attrs) (attrs_typed es)

without_type : (k : Text) (t : Option Ty) → with_attr k t None ≡ None
without_type k None = refl
without_type k (Some t) = refl

-- a field without a type
lacks_type : (es : List TypedField) (e : TypedField) (more : List TypedField) → annotation (typed_tree e.1) ≡ None
    → attrs_typed (es ++ e ∷ more) ≡ None
lacks_type [] e more h = ap (λ o. with_attr (text_of e.0) o (attrs_typed more)) h
lacks_type (f ∷ es) e more h =
    ap (with_attr (text_of f.0) (annotation (typed_tree f.1))) (lacks_type es e more h)
    ∙ without_type (text_of f.0) (annotation (typed_tree f.1))

module _ (env : TypeEnv) (l : Option Loc) where
  decides_typed : (ks : List Text) (ts : Option (List Ty)) (xs : Attrs) → texts_ascending ks ≡ true
      → option_map (required_attrs ks) ts ≡ Some xs → record_of_types env l ks ts ≡ gives (TRecord xs false) no_caps
  decides_typed ks None xs h g = absurd (none_is g)
  decides_typed ks (Some ts) xs h g =
      ap (λ b. if b then gives (TRecord (required_attrs ks ts) false) no_caps
      else refuses None (finding env l internal_invariant_violation ∷ [])) h
      ∙ ap (λ zs. gives (TRecord zs false) no_caps) (some_is g)

  decides_untyped : (ks : List Text) (ts : Option (List Ty)) → option_map (required_attrs ks) ts ≡ None
      → record_of_types env l ks ts ≡ refuses None []
  decides_untyped ks None g = refl
  decides_untyped ks (Some ts) g = absurd (none_is (sym g))

  pub typed_fields_decide : (es : List TypedField) (xs : Attrs) → IsStrictlySortedBy key_cmp (keys_of es) → attrs_typed es ≡ Some xs
      → record_of_types env l (keys_in es) (all_types (types_found (trees_in es))) ≡ decision_without_errors (Some (TRecord xs false))
  typed_fields_decide es xs s h = decides_typed (keys_in es) _ xs (is_ascending (keys_in es) (keys_ascend es s)) (sym (required_by es) ∙ h)

  pub untyped_field_decides : (es : List TypedField) (e : TypedField) (more : List TypedField) → annotation (typed_tree e.1) ≡ None
      → record_of_types env l (keys_in (es ++ e ∷ more)) (all_types (types_found (trees_in (es ++ e ∷ more))))
      ≡ decision_without_errors None
  untyped_field_decides es e more h =
      decides_untyped (keys_in (es ++ e ∷ more)) _ (sym (required_by (es ++ e ∷ more)) ∙ lacks_type es e more h)
