-- The order of types in the program is the order of plain types.
use Rattle.std.proofs.Common.{◌≡◌, refl, sym, ◌∙◌, subst, arith, Bool, List, [], ◌∷◌, map}
use Rattle.std.specs.declared.cmp.Ordering.{Ordering}
use Rattle.std.specs.declared.cmp.Ordering.TheVariants.{Less, Equal, Greater}
use Rattle.std.specs.Ordering.{nat_cmp, bool_cmp, ordering_then, match_ordering}
use Rattle.std.specs.BTreeSet.{insert_key}
use Rattle.std.specs.Cmp.Lexicographic.{slice_cmp}
use Rattle.std.specs.Map.{values_of}
use Rattle.std.specs.declared.alloc.Global.{Global}
use Rattle.std.specs.declared.rc.RcStr.{RcStr}
use denote.Hole.Carrier.{out}
use Rattle.cedar_types.specs.declared.base.names.entities.EntityType.{EntityType}
use Rattle.cedar_types.specs.declared.base.types.BoolType.{BoolType}
use Rattle.cedar_types.specs.declared.base.types.OpenTag.{OpenTag}
use Rattle.cedar_types.specs.declared.base.types.EntityKind.{EntityKind}
use Rattle.cedar_types.specs.declared.base.types.EntityKind.TheVariants as kind
use Rattle.cedar_types.specs.declared.base.types.AttributeType.{AttributeType}
use Rattle.cedar_types.specs.declared.base.types.Attributes.{Attributes}
use Rattle.cedar_types.specs.declared.base.types.CedarType.{CedarType, fold_out-CedarType, map-CedarType}
use Rattle.cedar_types.specs.declared.base.types.CedarType.TheViews.{out-CedarType, out-Attributes}
use Rattle.cedar_types.specs.declared.base.types.CedarType.TheBlock.{struct-Attributes, Row_of-AttributeType, end_of-AttributeType}
use Rattle.cedar_types.specs.declared.base.types.CedarType.TheBlock.{more_of-AttributeType, items-the_row-AttributeType}
use Rattle.cedar_types.specs.declared.base.types.CedarType.TheBlock.{shown-the_row-AttributeType-0, items_shown-the_row-AttributeType-0}
use Rattle.cedar_types.specs.declared.base.types.CedarType.TheVariants as T
use Rattle.cedar_types.specs.contracts.base.names.entities.EntityTypeOrd.TheImpl as entity_type_impl
use Rattle.cedar_types.specs.contracts.base.types.BoolTypeOrd.TheImpl as bool_impl
use Rattle.cedar_types.specs.contracts.base.types.OpenTagOrd.TheImpl as tag_impl
use Rattle.cedar_types.specs.contracts.base.types.EntityKindOrd.TheImpl as kind_impl
use Rattle.cedar_types.specs.contracts.base.types.CedarTypeOrd.TheImpl as type_impl
use Rattle.cedar_types.specs.contracts.base.types.CedarTypeOrd.TheImpl.Laws as type_laws
use Rattle.cedar_types.specs.contracts.base.types.AttributesOrd.TheImpl as attributes_impl
use Rattle.cedar_types.specs.contracts.base.types.AttributesOrd.TheImpl.Laws as attributes_laws
use Rattle.cedar_types.specs.contracts.base.types.AttributeTypeOrd.TheImpl as attribute_impl
use Rattle.cedar_types.specs.contracts.base.types.AttributeTypeOrd.TheImpl.Laws as attribute_laws
use Rattle.cedar_types.specs.Names.{path_of, text_of, type_of, text_cmp, path_cmp}
use Rattle.cedar_types.specs.Types.{Ty, TNever, TBool, TLong, TString, TSet, TAnySet, TRecord, TExtension, Attrs, is_open_tag, lub_of}
use Rattle.cedar_types.specs.Types.{kind_of, ty_step, attribute_step, attributes_step, ty_of, attribute_of, attributes_of, entries_of}
use Rattle.cedar_types.specs.Types.Order.{bool_rank, open_rank, required_rank, ty_cmp, attrs_cmp, insert_ty}
use Rattle.cedar_types.proofs.Names.Paths.{names_cmp}
use Rattle.cedar_types.proofs.Attributes.{attributes_are}

abbrev order : CedarType → CedarType → Ordering
order = type_impl.ghosts.cmp

abbrev attributes_order : Attributes → Attributes → Ordering
attributes_order = attributes_impl.ghosts.cmp

abbrev attribute_order : AttributeType → AttributeType → Ordering
attribute_order = attribute_impl.ghosts.cmp

types_are : (xs ys : List EntityType) → slice_cmp entity_type_impl.ghosts.cmp xs ys ≡ slice_cmp path_cmp (map type_of xs) (map type_of ys)
types_are [] [] = refl
types_are [] (y ∷ ys) = refl
types_are (x ∷ xs) [] = refl
types_are (x ∷ xs) (y ∷ ys) = λ i. ordering_then (names_cmp x.name y.name i) (types_are xs ys i)

kind_is : (j k : EntityKind) → kind_impl.ghosts.cmp j k ≡ ty_cmp (kind_of j) (kind_of k)
unfolding lub_of
kind_is (kind.Entity s) (kind.Entity t) = types_are s.lub_elements.value.keys t.lub_elements.value.keys
kind_is (kind.Entity s) kind.AnyEntity = refl
kind_is kind.AnyEntity (kind.Entity t) = refl
kind_is kind.AnyEntity kind.AnyEntity = refl

tag_is : (o p : OpenTag) → tag_impl.ghosts.cmp o p ≡ nat_cmp (open_rank (is_open_tag o)) (open_rank (is_open_tag p))
tag_is o p = grind arith

bool_is : (j k : BoolType) → bool_impl.ghosts.cmp j k ≡ nat_cmp (bool_rank j) (bool_rank k)
bool_is j k = grind arith

mark_is : (a b : Bool) → bool_cmp a b ≡ nat_cmp (required_rank a) (required_rank b)
mark_is a b = grind arith

-- The plain view of a type, one level deep
abbrev tview : CedarType → Ty
tview T.Never = TNever
tview (T.Bool k) = TBool k
tview T.Long = TLong
tview T.String = TString
tview (T.Set' p t) = TSet (ty_of t)
tview T.AnySet = TAnySet
tview (T.Record a o) = TRecord (attributes_of a) (is_open_tag o)
tview (T.Entity k) = kind_of k
tview (T.Extension n) = TExtension (path_of n.value)

opened : (x : CedarType)
    → ty_of x ≡ ty_step (map-CedarType CedarType AttributeType Attributes Ty (Ty × Bool)
    Attrs ty_of attribute_of attributes_of (out-CedarType x))
opened x = fold_out-CedarType Ty (Ty × Bool) Attrs ty_step attribute_step attributes_step x

is_view : (x : CedarType) → ty_of x ≡ tview x
unfolding out-CedarType out
is_view T.Never = opened T.Never
is_view (T.Bool k) = opened (T.Bool k)
is_view T.Long = opened T.Long
is_view T.String = opened T.String
is_view (T.Set' p t) = opened (T.Set' p t)
is_view T.AnySet = opened T.AnySet
is_view (T.Record a o) = opened (T.Record a o)
is_view (T.Entity k) = opened (T.Entity k)
is_view (T.Extension n) = opened (T.Extension n)

-- The two orders agree at x
abbrev Agrees : AttributeType → Type 0
Agrees x =
    (y : AttributeType) → attribute_order x y ≡ ordering_then (ty_cmp (ty_of x.attr_type) (ty_of y.attr_type))
    (nat_cmp (required_rank x.is_required) (required_rank y.is_required))

abbrev AllAgree : List AttributeType → Type 0
AllAgree [] = Unit {0}
AllAgree (x ∷ xs) = Agrees x × AllAgree xs

entries_is : (xs ys : List (RcStr Global × AttributeType)) → AllAgree (values_of xs)
    → slice_cmp (λ p q. ordering_then (text_cmp (text_of p.0) (text_of q.0)) (attribute_order p.1 q.1)) xs ys
    ≡ attrs_cmp (entries_of xs) (entries_of ys)
entries_is [] [] h = refl
entries_is [] (y ∷ ys) h = refl
entries_is (x ∷ xs) [] h = refl
entries_is (x ∷ xs) (y ∷ ys) h =
    λ i. ordering_then (ordering_then (text_cmp (text_of x.0) (text_of y.0)) (h.0 y.1 i)) (entries_is xs ys h.1 i)

-- The orders agree at x if one step of the derived order agrees
agrees : (x : CedarType) → ((y : CedarType) → type_laws.unfolded x y ≡ ty_cmp (tview x) (tview y)) → (y : CedarType)
    → order x y ≡ ty_cmp (ty_of x) (ty_of y)
agrees x h y = type_laws.is x y ∙ h y ∙ sym (λ i. ty_cmp (is_view x i) (is_view y i))

mutual
  unfolding out-CedarType out-Attributes out

  step_is : (x y : CedarType) → type_laws.unfolded x y ≡ ty_cmp (tview x) (tview y)
  step_is T.Never T.Never = refl
  step_is (T.Bool j) (T.Bool k) = λ i. bool_is j k i
  step_is T.Long T.Long = refl
  step_is T.String T.String = refl
  step_is (T.Set' p s) (T.Set' q t) = λ i. agrees s (step_is s) t i
  step_is T.AnySet T.AnySet = refl
  step_is (T.Record a o) (T.Record b p) = λ i. ordering_then (attributes_agree a b i) (tag_is o p i)
  step_is (T.Entity j) (T.Entity k) = λ i. kind_is j k i
  step_is (T.Extension m) (T.Extension n) = λ i. names_cmp m.value n.value i
  step_is (T.Entity (kind.Entity s)) y = refl
  step_is (T.Entity kind.AnyEntity) y = refl
  step_is x (T.Entity (kind.Entity t)) = refl
  step_is x (T.Entity kind.AnyEntity) = refl
  step_is x y = refl

  attributes_agree : (a b : Attributes) → attributes_order a b ≡ attrs_cmp (attributes_of a) (attributes_of b)
  attributes_agree (struct-Attributes p h r) (struct-Attributes q k l) =
      attributes_laws.is (struct-Attributes p h r) (struct-Attributes q k l)
      ∙ entries_is (shown-the_row-AttributeType-0 h r).entries (shown-the_row-AttributeType-0 k l).entries
      (subst AllAgree (sym (items_shown-the_row-AttributeType-0 h r)) (row_agrees r))
      ∙ sym (λ i. attrs_cmp (attributes_are (struct-Attributes p h r) i) (attributes_are (struct-Attributes q k l) i))

  row_agrees : {n : _} → (r : Row_of-AttributeType n) → AllAgree (items-the_row-AttributeType n r)
  row_agrees end_of-AttributeType = tt
  row_agrees (more_of-AttributeType t r rest) = (
    λ y. attribute_laws.is (record { attr_type = t; is_required = r }) y
        ∙ (λ i. ordering_then (agrees t (step_is t) y.attr_type i) (mark_is r y.is_required i)),
    row_agrees rest,
  )

-- Types have the order of their plain types
pub types_order : (x y : CedarType) → order x y ≡ ty_cmp (ty_of x) (ty_of y)
types_order x = agrees x (step_is x)

map_match : (o : Ordering) (a b c : List CedarType) → map ty_of (match_ordering o a b c)
    ≡ match_ordering o (map ty_of a) (map ty_of b) (map ty_of c)
map_match Less a b c = refl
map_match Equal a b c = refl
map_match Greater a b c = refl

-- A type put into a set of types, as a plain type put into the plain types
pub type_inserted : (ks : List CedarType) (k : CedarType) → map ty_of (insert_key order ks k) ≡ insert_ty (map ty_of ks) (ty_of k)
type_inserted [] k = refl
type_inserted (x ∷ xs) k =
    map_match (order k x) (k ∷ x ∷ xs) (x ∷ xs) (x ∷ insert_key order xs k)
    ∙ (λ i. match_ordering (types_order k x i) (ty_of k ∷ ty_of x ∷ map ty_of xs) (ty_of x ∷ map ty_of xs) (ty_of x ∷ type_inserted xs k i))
