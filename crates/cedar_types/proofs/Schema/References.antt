-- Sets of one entity type alone, by name.
use Rattle.std.proofs.Common.{◌≡◌, Bool, true, false, cond, Option, Some, [], ◌∷◌, refl, ap, ◌∙◌}
use Rattle.std.specs.Bool.{Decides}
use Rattle.cedar_types.specs.Names.{Path}
use Rattle.cedar_types.specs.Types.{lub_of}
use Rattle.cedar_types.specs.Schemas.References.{is_own}
use Rattle.cedar_types.specs.declared.base.types.entity_sets.EntityLUB.{EntityLUB}
use Rattle.cedar_types.proofs.Comparisons.SameTypes.{paths_decide}

-- Any set found for q is that of q alone, also after the set of p is put in
pub own_next : (b : Bool) (s : EntityLUB) (o : Option EntityLUB) (p q : Path) → Decides b (p ≡ q) → lub_of s ≡ p ∷ []
    → is_own q o ≡ true → is_own q (cond b (Some s) o) ≡ true
own_next true s o p q d h k = (paths_decide (lub_of s) (q ∷ [])).1 (h ∙ ap (λ r. r ∷ []) (d.0 refl))
own_next false s o p q d h k = k

-- The set that a look-up by name finds contains the name alone
pub found_is : (p : Path) (s : EntityLUB) (o : Option EntityLUB) → Some s ≡ o → is_own p o ≡ true → lub_of s ≡ p ∷ []
found_is p s o e h = (paths_decide (lub_of s) (p ∷ [])).0 (ap (is_own p) e ∙ h)
