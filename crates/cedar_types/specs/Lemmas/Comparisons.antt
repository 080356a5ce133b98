-- The derived equality and order of names and ids are tests of their texts.
use Rattle.std.specs.Prelude.{nat_eq}
use Rattle.std.specs.Bool.{Decides}
use Rattle.std.proofs.Common.{◌≡◌, subst, Bool, true, false, ◌&&◌, List, [], ◌∷◌, true≢false, refl, sym}
use Rattle.std.specs.Cmp.Lexicographic.{pointwise}
use Rattle.std.specs.Ordering.{int_eq, ordering_then}
use Rattle.std.specs.Cmp.{signed_Decides}
use Rattle.std.below.core.specs.Cmp.Derive.Mapped.{pointwise-map, lex_map}
use borrow.Author.Tests.{eqb-true, eq-eqb}
use Rattle.cedar_types.specs.declared.base.names.Name.{Name}
use Rattle.cedar_types.specs.declared.base.names.entities.EntityType.{EntityType}
use Rattle.cedar_types.specs.declared.base.names.entities.EntityUID.{EntityUID}
use Rattle.cedar_types.specs.Names.{Path, Uid, text_of, path_of, type_of, uid_of, text_eq, texts_eq, path_eq, uid_eq, text_cmp, path_cmp}
use Rattle.cedar_types.specs.Names.{uid_cmp}
use Rattle.cedar_types.specs.Names.Comparisons.{bool_eq, name_eq, entity_type_eq, entity_uid_eq, name_cmp, entity_type_cmp, entity_uid_cmp}

pub and_left : (a b : Bool) → (a && b) ≡ true → a ≡ true
and_left true b h = refl
and_left false b h = h

pub and_right : (a b : Bool) → (a && b) ≡ true → b ≡ true
and_right true b h = h
and_right false b h = absurd (true≢false (sym h))

pub and_both : (a b : Bool) → a ≡ true → b ≡ true → (a && b) ≡ true
and_both a b p q = λ i. p i && q i

-- E answers true exactly at equal values
pub record Same {A : Type 0} (E : A → A → Bool) : Type 0 where
  pub to : (x y : A) → E x y ≡ true → x ≡ y
  pub itself : (x : A) → E x x ≡ true

list_to : {A : Type 0} {E : A → A → Bool} → Same E → (xs ys : List A) → pointwise E xs ys ≡ true → xs ≡ ys
list_to s [] [] h = refl
list_to s [] (y ∷ ys) h = absurd (true≢false (sym h))
list_to s (x ∷ xs) [] h = absurd (true≢false (sym h))
list_to {A} {E} s (x ∷ xs) (y ∷ ys) h =
    λ i. s.to x y (and_left (E x y) (pointwise E xs ys) h) i
    ∷ list_to s xs ys (and_right (E x y) (pointwise E xs ys) h) i

list_itself : {A : Type 0} {E : A → A → Bool} → Same E → (xs : List A) → pointwise E xs xs ≡ true
list_itself s [] = refl
list_itself {A} {E} s (x ∷ xs) = and_both (E x x) (pointwise E xs xs) (s.itself x) (list_itself s xs)

pub list_same : {A : Type 0} {E : A → A → Bool} → Same E → Same (pointwise E)
list_same s = record { to = list_to s; itself = list_itself s }

pub nat_same : Same nat_eq
nat_same = record { to = λ x y h. eqb-true x y h; itself = λ x. eq-eqb x x refl }

pub text_same : Same text_eq
text_same = list_same nat_same

pub texts_same : Same texts_eq
texts_same = list_same text_same

pub path_same : Same path_eq
path_same = record {
  to = λ x y h. λ i. record {
    path = texts_same.to x.path y.path (and_left (texts_eq x.path y.path) (text_eq x.basename y.basename) h) i;
    basename = text_same.to x.basename y.basename (and_right (texts_eq x.path y.path) (text_eq x.basename y.basename) h) i;
  };
  itself = λ x. and_both (texts_eq x.path x.path) (text_eq x.basename x.basename) (texts_same.itself x.path) (text_same.itself x.basename);
}

pub uid_same : Same uid_eq
uid_same = record {
  to = λ x y h. λ i. record {
    entity_type = path_same.to x.entity_type y.entity_type (and_left (path_eq x.entity_type y.entity_type) (text_eq x.eid y.eid) h) i;
    eid = text_same.to x.eid y.eid (and_right (path_eq x.entity_type y.entity_type) (text_eq x.eid y.eid) h) i;
  };
  itself =
      λ x. and_both (path_eq x.entity_type x.entity_type) (text_eq x.eid x.eid) (path_same.itself x.entity_type)
      (text_same.itself x.eid);
}

bool_to : (x y : Bool) → bool_eq x y ≡ true → x ≡ y
bool_to true true h = refl
bool_to false false h = refl
bool_to x y h = absurd (true≢false (sym h))

bool_itself : (x : Bool) → bool_eq x x ≡ true
bool_itself true = refl
bool_itself false = refl

pub bool_same : Same bool_eq
bool_same = record { to = bool_to; itself = bool_itself }

pub int_same : Same int_eq
int_same = record { to = λ x y. (signed_Decides x y).0; itself = λ x. (signed_Decides x x).1 refl }

-- the derived `==` and order are those of the texts, wherever the names stand
pub name_is : (x y : Name) → name_eq x y ≡ path_eq (path_of x) (path_of y)
name_is x y = λ i. sym (pointwise-map text_of text_eq x.path.items y.path.items) i && text_eq (text_of x.basename) (text_of y.basename)

pub entity_type_is : (x y : EntityType) → entity_type_eq x y ≡ path_eq (type_of x) (type_of y)
entity_type_is x y = name_is x.name y.name

pub uid_is : (x y : EntityUID) → entity_uid_eq x y ≡ uid_eq (uid_of x) (uid_of y)
uid_is x y = λ i. name_is x.entity_type.name y.entity_type.name i && text_eq (text_of x.eid) (text_of y.eid)

pub name_cmp_is : (x y : Name) → name_cmp x y ≡ path_cmp (path_of x) (path_of y)
name_cmp_is x y =
    λ i. ordering_then (sym (lex_map text_of text_cmp x.path.items y.path.items) i)
    (text_cmp (text_of x.basename) (text_of y.basename))

pub entity_type_cmp_is : (x y : EntityType) → entity_type_cmp x y ≡ path_cmp (type_of x) (type_of y)
entity_type_cmp_is x y = name_cmp_is x.name y.name

pub uid_cmp_is : (x y : EntityUID) → entity_uid_cmp x y ≡ uid_cmp (uid_of x) (uid_of y)
uid_cmp_is x y = λ i. ordering_then (name_cmp_is x.entity_type.name y.entity_type.name i) (text_cmp (text_of x.eid) (text_of y.eid))

pub path_eq-Decides : (p q : Path) → Decides (path_eq p q) (p ≡ q)
path_eq-Decides p q = (path_same.to p q, λ e. subst (λ r. path_eq p r ≡ true) e (path_same.itself p))

pub uid_eq-Decides : (u v : Uid) → Decides (uid_eq u v) (u ≡ v)
uid_eq-Decides u v = (uid_same.to u v, λ e. subst (λ r. uid_eq u r ≡ true) e (uid_same.itself u))
