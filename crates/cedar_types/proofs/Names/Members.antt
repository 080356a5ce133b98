-- A union with a set that has members has members.
use Rattle.std.proofs.Common.{◌≡◌, refl, true, List, [], ◌∷◌, map}
use Rattle.std.specs.declared.cmp.Ordering.{Ordering}
use Rattle.std.specs.declared.cmp.Ordering.TheVariants.{Less, Equal, Greater}
use Rattle.std.specs.Ordering.{match_ordering}
use Rattle.cedar_types.specs.Names.{Path, path_cmp}
use Rattle.cedar_types.specs.Names.Ascending.{has_members}
use Rattle.cedar_types.specs.Types.Bounds.{union, insert_path}

either : {A : Type 0} (o : Ordering) (xs ys zs : List A) → has_members xs ≡ true → has_members ys ≡ true
    → has_members zs ≡ true → has_members (match_ordering o xs ys zs) ≡ true
either Less xs ys zs f g h = f
either Equal xs ys zs f g h = g
either Greater xs ys zs f g h = h

inserted_has : (q : Path) (ps : List Path) → has_members (insert_path q ps) ≡ true
inserted_has q [] = refl
inserted_has q (p ∷ ps) = either (path_cmp q p) _ _ _ refl refl refl

pub union_has : (ps qs : List Path) → has_members ps ≡ true → has_members (union ps qs) ≡ true
union_has ps [] h = h
union_has ps (q ∷ qs) h = union_has (insert_path q ps) qs (inserted_has q ps)

pub mapped_has : {A B : Type 0} (f : A → B) (xs : List A) → has_members (map f xs) ≡ has_members xs
mapped_has f [] = refl
mapped_has f (x ∷ xs) = refl
