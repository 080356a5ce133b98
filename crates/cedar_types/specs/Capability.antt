-- Capabilities, and sets of them, as plain data.
use Rattle.std.specs.Prelude.{◌≡◌, Bool, false, ◌&&◌, ◌||◌, List}
use Rattle.std.specs.List.{list_any}
use Rattle.std.specs.declared.cmp.Ordering.{Ordering}
use Rattle.cedar_types.specs.declared.base.expressions.Expr.{Expr}
use Rattle.cedar_types.specs.declared.types.capability.digested.Capability.{Capability}
use Rattle.cedar_types.specs.declared.types.capability.CapabilitySet.{CapabilitySet}
use Rattle.cedar_types.specs.declared.types.capability.digested.Known.{Known}
use Rattle.cedar_types.specs.declared.types.capability.bases.DigestedBase.{DigestedBase}
use Rattle.cedar_types.specs.declared.types.capability.builder.CapabilitySetBuilder.{CapabilitySetBuilder}
use Rattle.cedar_types.specs.contracts.types.capability.digested.CapabilityPartialEq.TheImpl as eq_impl
use Rattle.cedar_types.specs.contracts.types.capability.digested.CapabilityOrd.TheImpl as ord_impl
use Rattle.cedar_types.specs.Names.{Text, text_of, text_eq}
use Rattle.cedar_types.specs.Expressions.Tree.{Shape}
use Rattle.cedar_types.specs.Expressions.TreeEq.{tree_eq}
use Rattle.cedar_types.specs.Accesses.{shape_on}
use Rattle.cedar_types.specs.Expressions.ShapeOnly.{shape_of}
pub mod Entries
pub mod Digest

-- a capability: an expression has an attribute of that name, or a tag of the name that an
-- expression gives
pub data Cap : Type 0 where
  attribute : Shape → Text → Cap
  tag : Shape → Shape → Cap

abbrev pub cap_eq : Cap → Cap → Bool
cap_eq (attribute s x) (attribute t y) = tree_eq s t && text_eq x y
cap_eq (tag s x) (tag t y) = tree_eq s t && tree_eq x y
cap_eq _ _ = false

abbrev pub known_of : Shape → Known → Cap
known_of s (Known.Attribute x) = attribute s (text_of x)
known_of s (Known.Tag x) = tag s (shape_of x)

unfoldable pub cap_of : Capability → Cap
cap_of c = known_of (shape_on c.on_expr) c.known

-- the expression that typing asks for attributes
unfoldable pub expr_in : DigestedBase → Expr (Unit {0})
expr_in b = b.base.now

-- the derived `==` and the derived order
abbrev pub capability_eq : Capability → Capability → Bool
capability_eq = eq_impl.ghosts.eq

abbrev pub capability_cmp : Capability → Capability → Ordering
capability_cmp = ord_impl.ghosts.cmp

-- whether a capability is among those of a list
abbrev pub among : List Capability → Cap → Bool
among cs q = list_any (λ c. cap_eq q (cap_of c)) cs

-- the set, as the test of its members
unfoldable pub caps : CapabilitySet → Cap → Bool
caps s = among s.set

-- the capabilities that a builder has so far, as the test of its members
unfoldable pub caps_so_far : CapabilitySetBuilder → Cap → Bool
caps_so_far b = among b.set.keys

-- the set has no members
abbrev pub HasNone : (Cap → Bool) → Type 0
HasNone f = (q : Cap) → f q ≡ false

-- the set has c alone
abbrev pub HasJust : Cap → (Cap → Bool) → Type 0
HasJust c f = (q : Cap) → f q ≡ cap_eq q c

-- h has the members of f, and c
abbrev pub AddsJust : Cap → (Cap → Bool) → (Cap → Bool) → Type 0
AddsJust c f h = (q : Cap) → h q ≡ (f q || cap_eq q c)

-- h has the members of either set, or those of both, or those of f
abbrev pub IsUnionOf : (Cap → Bool) → (Cap → Bool) → (Cap → Bool) → Type 0
IsUnionOf f g h = (q : Cap) → h q ≡ (f q || g q)

abbrev pub IsIntersectionOf : (Cap → Bool) → (Cap → Bool) → (Cap → Bool) → Type 0
IsIntersectionOf f g h = (q : Cap) → h q ≡ (f q && g q)

abbrev pub IsSame : (Cap → Bool) → (Cap → Bool) → Type 0
IsSame f h = (q : Cap) → h q ≡ f q
