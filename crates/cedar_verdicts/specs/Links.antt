-- Templates with their slots bound.
use Rattle.std.specs.Prelude.{Bool, true, false, Option, Some, None, is_none}
use Rattle.cedar_types.specs.declared.base.names.entities.EntityUID.{EntityUID}
use Rattle.cedar_types.specs.Names.{Text, placed_uid}
use Rattle.cedar_types.specs.Templates.{Reference, to_entity, to_slot, Scope, any, equal, within, typed, typed_within, PlainTemplate}

-- a reference, its slot filled with the bound entity, if there is one
abbrev pub filled : Option EntityUID → Reference → Reference
filled u (to_entity v) = to_entity v
filled (Some u) to_slot = to_entity (placed_uid u)
filled None to_slot = to_slot

abbrev pub bound : Option EntityUID → Scope → Scope
bound u any = any
bound u (equal r) = equal (filled u r)
bound u (within r) = within (filled u r)
bound u (typed t) = typed t
bound u (typed_within t r) = typed_within t (filled u r)

-- an entity is bound exactly if there is a slot
abbrev pub fits : Option EntityUID → Reference → Bool
fits None (to_entity v) = true
fits None to_slot = false
fits (Some u) (to_entity v) = false
fits (Some u) to_slot = true

abbrev pub fits_in : Option EntityUID → Scope → Bool
fits_in u any = is_none u
fits_in u (equal r) = fits u r
fits_in u (within r) = fits u r
fits_in u (typed t) = is_none u
fits_in u (typed_within t r) = fits u r

-- the template under another id, its slots bound to these entities
abbrev pub linked : Text → Option EntityUID → Option EntityUID → PlainTemplate → PlainTemplate
linked id p r t = record {
  id = id;
  place = t.place;
  principal = bound p t.principal;
  action = t.action;
  resource = bound r t.resource;
  rest = t.rest;
}
