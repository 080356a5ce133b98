-- The tables of these functions have no fault.
use Rattle.std.proofs.Common.{◌≡◌, refl, ap, ◌∙◌, List, [], ◌∷◌, Some, None, map}
use Rattle.cedar_types.specs.declared.base.expressions.extensions.ExtensionTableError.{ExtensionTableError}
use Rattle.cedar_types.specs.Extensions.Functions.{ExtensionFunction, Refusals, table_fault}
use Rattle.cedar_fixtures.specs.Tables.{ip, is_in_range, sum}

pub no_fault_of_addresses : (r : Refusals) → table_fault (ip r ∷ is_in_range ∷ []) ≡ None
no_fault_of_addresses r = refl

pub no_fault_with_sum : (r : Refusals) → table_fault (ip r ∷ is_in_range ∷ sum ∷ []) ≡ None
no_fault_with_sum r = refl

pub none_refused : {fs gs : List ExtensionFunction} {e : ExtensionTableError} → table_fault gs ≡ None → fs ≡ gs
    → table_fault fs ≡ Some e → ⊥
none_refused faultless same refused = cc

-- the list of two values, and of three
pub two_listed : {A B : Type 0} (h : A → B) {x y : A} {xs : List A} {a b : B} → xs ≡ x ∷ y ∷ [] → h x ≡ a → h y ≡ b → map h xs ≡ a ∷ b ∷ []
two_listed h items first second = ap (map h) items ∙ cc

pub three_listed : {A B : Type 0} (h : A → B) {x y z : A} {xs : List A} {a b d : B} → xs ≡ x ∷ y ∷ z ∷ [] → h x ≡ a
    → h y ≡ b → h z ≡ d → map h xs ≡ a ∷ b ∷ d ∷ []
three_listed h items first second third = ap (map h) items ∙ cc
