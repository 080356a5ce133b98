-- The types of the elements of a set: those found so far, and those that are left.
use Rattle.std.proofs.Common.{◌≡◌, ℕ, suc, ◌+◌, ◌<◌, length, get_or, drop, add-one, drop-cons, List, [], ◌∷◌, ◌++◌, map, Option, Some, None}
use Rattle.std.proofs.Common.{option_map, refl, sym, ◌∙◌, ap, append_assoc}
use Rattle.cedar_types.specs.declared.base.expressions.Expr.{Expr}
use Rattle.cedar_types.specs.declared.base.types.CedarType.{CedarType}
use Rattle.cedar_types.specs.Types.{Ty, ty_of}
use Rattle.cedar_typing.specs.Eager.{types_found}
use Rattle.cedar_typing.specs.Rules.Sets.{with_type, all_types}
use Rattle.cedar_typing.specs.TypedExpr.{typed_tree}
use Rattle.cedar_typing.proofs.Views.Typed.{annotation_is}

pub next_item : {A : Type 0} (xs : List A) (i : ℕ) (x : A) → i < length xs → x ≡ get_or xs i x → drop i xs ≡ x ∷ drop (i + 1) xs
next_item xs i x h k = rw (add-one, drop-cons xs i x) (ap (λ y. y ∷ drop (suc i) xs) (sym k))

abbrev Typed : Type 0
Typed = Expr (Option CedarType)

abbrev pub types_in : List Typed → Option (List Ty)
types_in xs = all_types (types_found (map typed_tree xs))

abbrev pub after : List Ty → Option (List Ty) → Option (List Ty)
after ts o = option_map (λ (us : List Ty). ts ++ us) o

joined : (ts : List Ty) (t : Ty) (o : Option (List Ty)) → after (ts ++ t ∷ []) o ≡ after ts (with_type (Some t) o)
joined ts t None = refl
joined ts t (Some us) = ap Some (append_assoc ts (t ∷ []) us)

pub one_type : (ts : List Ty) (x : Typed) (xs : List Typed) (t : CedarType) → x.annotation ≡ Some t
    → after (ts ++ ty_of t ∷ []) (types_in xs) ≡ after ts (types_in (x ∷ xs))
one_type ts x xs t h =
    joined ts (ty_of t) (types_in xs)
    ∙ ap (λ z. after ts (with_type z (types_in xs))) (sym (annotation_is x ∙ ap (option_map ty_of) h))

pub no_type : (ts : List Ty) (x : Typed) (xs : List Typed) → x.annotation ≡ None → None ≡ after ts (types_in (x ∷ xs))
no_type ts x xs h = ap (λ z. after ts (with_type z (types_in xs))) (sym (annotation_is x ∙ ap (option_map ty_of) h))

pub map_end : {A B : Type 0} (f : A → B) (xs : List A) (x : A) → map f (xs ++ x ∷ []) ≡ map f xs ++ f x ∷ []
map_end f [] x = refl
map_end f (y ∷ xs) x = ap (λ l. f y ∷ l) (map_end f xs x)
