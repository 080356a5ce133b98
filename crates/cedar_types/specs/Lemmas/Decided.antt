-- Tests of equality that decide it, and the equality of a value from tests of its parts.
use Rattle.std.proofs.Common.{◌≡◌, subst, Bool, true, ◌&&◌}
use Rattle.std.specs.Bool.{Decides}
use Rattle.cedar_types.specs.Lemmas.Comparisons.{Same, and_left, and_right}

pub decides : {A : Type 0} {E : A → A → Bool} → Same E → (x y : A) → Decides (E x y) (x ≡ y)
decides {E = E} s x y = (s.to x y, λ e. subst (λ z. E x z ≡ true) e (s.itself x))

-- two tests together give the equality of a value made of two parts
pub of_two : {A B C : Type 0} {p q : Bool} {a b : A} {x y : B} (f : A → B → C)
    → (p ≡ true → a ≡ b) → (q ≡ true → x ≡ y) → (p && q) ≡ true → f a x ≡ f b y
of_two {p = p} {q = q} f s t h = λ i. f (s (and_left p q h) i) (t (and_right p q h) i)

-- three tests together give the equality of a value made of three parts
pub of_three : {A B C D : Type 0} {p q r : Bool} {a b : A} {x y : B} {v w : C} (f : A → B → C → D)
    → (p ≡ true → a ≡ b) → (q ≡ true → x ≡ y) → (r ≡ true → v ≡ w) → (p && (q && r)) ≡ true → f a x v ≡ f b y w
of_three {p = p} {q = q} {r = r} f s t u h =
    let rest = and_right p (q && r) h in
    λ i. f (s (and_left p (q && r) h) i) (t (and_left q r rest) i) (u (and_right q r rest) i)
