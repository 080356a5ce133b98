-- Schemas whose types are well-formed, as are those of every schema of the program.
use Rattle.std.specs.Prelude.{Bool, true, false, ◌&&◌, Option, Some, None}
use Rattle.std.specs.List.{list_all}
use Rattle.cedar_types.specs.Types.{TRecord, is_well_formed}
use Rattle.cedar_types.specs.Schemas.{TypeKind, StandardKind, EnumKind, ExternalKind, DeclaredType, Application, DeclaredAction, Schema}
use Rattle.cedar_types.specs.Schemas.{tags_pass}

abbrev pub kind_is_formed : TypeKind → Bool
kind_is_formed (StandardKind attrs tags) =
    is_well_formed (TRecord attrs false) && tags_pass is_well_formed tags
kind_is_formed (EnumKind ids) = true
kind_is_formed ExternalKind = true

abbrev pub application_is_formed : Option Application → Bool
application_is_formed None = true
application_is_formed (Some a) = is_well_formed a.context

-- names ascend, each once, and an entity set has a member, at every depth in attributes, tags and
-- contexts
abbrev pub has_formed_types : Schema → Bool
has_formed_types s =
    list_all (λ (t : DeclaredType). kind_is_formed t.kind) s.types
    && list_all (λ (a : DeclaredAction). application_is_formed a.applies_to) s.actions
