-- The derived equality and order of names and ids.
use Rattle.std.proofs.Common.{Bool}
use Rattle.std.specs.declared.cmp.Ordering.{Ordering}
use mathlib.Core.Bool.{beq}
use Rattle.cedar_types.specs.declared.base.names.Name.{Name}
use Rattle.cedar_types.specs.declared.base.names.entities.EntityType.{EntityType}
use Rattle.cedar_types.specs.declared.base.names.entities.EntityUID.{EntityUID}
use Rattle.cedar_types.specs.contracts.base.names.NamePartialEq.TheImpl as name_eq_impl
use Rattle.cedar_types.specs.contracts.base.names.NameOrd.TheImpl as name_ord_impl
use Rattle.cedar_types.specs.contracts.base.names.entities.EntityTypePartialEq.TheImpl as entity_type_eq_impl
use Rattle.cedar_types.specs.contracts.base.names.entities.EntityTypeOrd.TheImpl as entity_type_ord_impl
use Rattle.cedar_types.specs.contracts.base.names.entities.EntityUIDPartialEq.TheImpl as uid_eq_impl
use Rattle.cedar_types.specs.contracts.base.names.entities.EntityUIDOrd.TheImpl as uid_ord_impl

abbrev pub bool_eq : Bool → Bool → Bool
bool_eq = beq

-- the derived `==` and the derived order
abbrev pub name_eq : Name → Name → Bool
name_eq = name_eq_impl.ghosts.eq

abbrev pub entity_type_eq : EntityType → EntityType → Bool
entity_type_eq = entity_type_eq_impl.ghosts.eq

abbrev pub entity_uid_eq : EntityUID → EntityUID → Bool
entity_uid_eq = uid_eq_impl.ghosts.eq

abbrev pub name_cmp : Name → Name → Ordering
name_cmp = name_ord_impl.ghosts.cmp

abbrev pub entity_type_cmp : EntityType → EntityType → Ordering
entity_type_cmp = entity_type_ord_impl.ghosts.cmp

abbrev pub entity_uid_cmp : EntityUID → EntityUID → Ordering
entity_uid_cmp = uid_ord_impl.ghosts.cmp
