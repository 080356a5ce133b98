use Rattle.std.proofs.Common.{◌≡◌, ◌⊎◌, inl, inr, Bool, option_map, Some, ap, sym, ◌∙◌}
use Rattle.std.specs.declared.alloc.Global.{Global}
use Rattle.std.specs.declared.rc.Rc.{Rc}
use Rattle.cedar_types.specs.declared.base.types.CedarType.{CedarType, fold-roll-CedarType}
use Rattle.cedar_types.specs.declared.base.types.CedarType.TheOpen as layer
use Rattle.cedar_types.specs.declared.base.types.CedarType.TheVariants.{Set, rolls-Set}
use Rattle.cedar_types.specs.Types.{Ty, Attrs, ty_of, TSet, ty_step, attribute_step, attributes_step}
use Rattle.cedar_types.specs.Types.Bounds.{lub}
use Rattle.cedar_types.specs.declared.base.types.ValidationMode.{ValidationMode}
use Rattle.cedar_types.proofs.Bounds.Steps.{set_is}
use Rattle.cedar_types.proofs.base.types.subtypes.+bound_with.Goals as goal

-- An owned or copied type has the plain type of its original
owned_type : (s t : CedarType) → (t ≡ s) ⊎ (ty_of t ≡ ty_of s) → ty_of t ≡ ty_of s
owned_type s t (inl e) = ap ty_of e
owned_type s t (inr e) = e

-- The type of a set, by the type of its members
set_type : (t : CedarType) (e : Rc CedarType Global) → t ≡ Set e → ty_of t ≡ TSet (ty_of e.value)
set_type t e h =
    ap ty_of (h ∙ sym (rolls-Set e))
    ∙ fold-roll-CedarType Ty (Ty × Bool) Attrs ty_step attribute_step attributes_step (layer.Set e)

-- The bound of two sets, by the bound of their members
by_members : (m : ValidationMode) (s t s1 t1 u v : Ty) → s ≡ TSet s1 → t ≡ TSet t1 → u ≡ s1 → v ≡ t1
    → option_map TSet (lub m u v) ≡ lub m s t
by_members m s t s1 t1 u v e f g h =
    sym (set_is m u v) ∙ (λ i. lub m ((ap TSet g ∙ sym e) i) ((ap TSet h ∙ sym f) i))

pub returns-in_ok-set-in-Some : goal.returns-in_ok-set-in-Some
returns-in_ok-set-in-Some t c =
    ap Some c.in_ok-set-in-Some.ensures
    ∙ ap (option_map TSet) (sym (ap (option_map ty_of) c.in-Some.is) ∙ c.in_ok-both-in-Ok.ensures)
    ∙ by_members c.args.mode (ty_of c.args.bound) (ty_of c.args.ty.now) (ty_of c.in-Ok.element.value)
    (ty_of c.in-Set.other.value) (ty_of c.in_ok-mine-in-Ok.mine) (ty_of c.deref.result.now)
    c.in-Ok.ensures.element (set_type c.args.ty.now c.in-Set.other c.in-Set.is)
    (owned_type c.in-Ok.element.value c.in_ok-mine-in-Ok.mine c.in_ok-mine-in-Ok.ensures.ok) (ap ty_of c.deref.ensures)

pub returns-in-None : goal.returns-in-None
returns-in-None t c =
    ap (option_map TSet) (sym (ap (option_map ty_of) c.in-None.is) ∙ c.in_ok-both-in-Ok.ensures)
    ∙ by_members c.args.mode (ty_of c.args.bound) (ty_of c.args.ty.now) (ty_of c.in-Ok.element.value)
    (ty_of c.in-Set.other.value) (ty_of c.in_ok-mine-in-Ok.mine) (ty_of c.deref.result.now)
    c.in-Ok.ensures.element (set_type c.args.ty.now c.in-Set.other c.in-Set.is)
    (owned_type c.in-Ok.element.value c.in_ok-mine-in-Ok.mine c.in_ok-mine-in-Ok.ensures.ok) (ap ty_of c.deref.ensures)
