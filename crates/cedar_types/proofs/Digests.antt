-- Digests of capabilities: capabilities of one shape have one digest.
use Rattle.std.proofs.Common.{◌≡◌, ℕ, Bool, true, false, ◌&&◌, nat_eq, refl, sym, ap, subst, ◌∙◌, true≢false}
use borrow.Author.Tests.{eq-eqb}
use Rattle.cedar_types.specs.Capability.Digest.{digest_of, with_text, with_digest, shape_digest}
use Rattle.cedar_types.specs.declared.types.capability.digested.Capability.{Capability}
use Rattle.cedar_types.specs.declared.types.capability.digested.Known.{Known}
use Rattle.cedar_types.specs.contracts.types.capability.digested.KnownPartialEq.TheImpl as known_eq
use Rattle.cedar_types.specs.Expressions.TreeEq.{tree_eq}
use Rattle.cedar_types.specs.Lemmas.Comparisons.{text_same, and_left, and_right, and_both}
use Rattle.cedar_types.specs.Names.{text_eq, text_of}
use Rattle.cedar_types.specs.Lemmas.TreeSame.{tree_same}
use Rattle.cedar_types.specs.Expressions.Tree.{Shape}
use Rattle.cedar_types.specs.Accesses.{shape_on}
use Rattle.cedar_types.specs.Expressions.ShapeOnly.{shape_of}
use Rattle.cedar_types.specs.Capability.{Cap, attribute, tag, cap_eq, cap_of, known_of}

and_false : (b : Bool) → (b && false) ≡ false
and_false true = refl
and_false false = refl

-- A test of shapes and a test of names or tags are together the test of capabilities
known_is : (a : Bool) (s t : Shape) (x y : Known) → tree_eq s t ≡ a → (a && known_eq.ghosts.eq x y) ≡ cap_eq (known_of s x) (known_of t y)
known_is a s t (Known.Attribute x) (Known.Attribute y) e = λ i. sym e i && text_eq (text_of x) (text_of y)
known_is a s t (Known.Tag x) (Known.Tag y) e = λ i. sym e i && tree_eq (shape_of x) (shape_of y)
known_is a s t x y e = and_false a

-- Two capabilities are equal if the test of equality says so
pub one_cap : (c d : Cap) → cap_eq c d ≡ true → c ≡ d
one_cap (attribute s x) (attribute t y) h =
    λ i. attribute (tree_same.to s t (and_left (tree_eq s t) (text_eq x y) h) i)
    (text_same.to x y (and_right (tree_eq s t) (text_eq x y) h) i)
one_cap (tag s x) (tag t y) h =
    λ i. tag (tree_same.to s t (and_left (tree_eq s t) (tree_eq x y) h) i)
    (tree_same.to x y (and_right (tree_eq s t) (tree_eq x y) h) i)
one_cap c d h = absurd (true≢false (sym h))

pub cap_itself : (c : Cap) → cap_eq c c ≡ true
cap_itself (attribute s x) = and_both (tree_eq s s) (text_eq x x) (tree_same.itself s) (text_same.itself x)
cap_itself (tag s x) = and_both (tree_eq s s) (tree_eq x x) (tree_same.itself s) (tree_same.itself x)

pub cap_same : (c d : Cap) → c ≡ d → cap_eq c d ≡ true
cap_same c d e = subst (λ q. cap_eq c q ≡ true) e (cap_itself c)

-- The digest of a plain capability
abbrev cap_digest : Cap → ℕ
cap_digest (attribute s x) = with_text (shape_digest s) x
cap_digest (tag s t) = with_digest (shape_digest s) (shape_digest t)

digest_is : (s : Shape) (k : Known) → digest_of s k ≡ cap_digest (known_of s k)
digest_is s (Known.Attribute x) = refl
digest_is s (Known.Tag t) = refl

pub digests_same : (s t : Shape) (k l : Known) → known_of s k ≡ known_of t l → digest_of s k ≡ digest_of t l
digests_same s t k l same = digest_is s k ∙ ap cap_digest same ∙ sym (digest_is t l)

-- Two capabilities of one shape have one digest
pub one_digest : (c d : Capability) → cap_of c ≡ cap_of d → c.digest ≡ d.digest
unfolding cap_of
one_digest c d e = c.of_its_shape ∙ digests_same (shape_on c.on_expr) (shape_on d.on_expr) c.known d.known e ∙ sym d.of_its_shape

and_in : (a b : Bool) → (b ≡ true → a ≡ true) → (a && b) ≡ b
and_in true b h = refl
and_in false true h = h refl
and_in false false h = refl

-- A comparison of digests, then expressions, then names or tags compares the plain capabilities
pub by_digest : (c d : Capability)
    → (nat_eq c.digest d.digest && (tree_eq (shape_on c.on_expr) (shape_on d.on_expr) && known_eq.ghosts.eq c.known d.known))
    ≡ cap_eq (cap_of c) (cap_of d)
unfolding cap_of
by_digest c d =
    let s = shape_on c.on_expr in
    let t = shape_on d.on_expr in
    let rest : (tree_eq s t && known_eq.ghosts.eq c.known d.known)
    ≡ cap_eq (known_of s c.known) (known_of t d.known) = known_is (tree_eq s t) s t c.known d.known refl in
    and_in (nat_eq c.digest d.digest) (tree_eq s t && known_eq.ghosts.eq c.known d.known)
    (λ h. eq-eqb c.digest d.digest
    (one_digest c d (one_cap (known_of s c.known) (known_of t d.known) (sym rest ∙ h))))
    ∙ rest
