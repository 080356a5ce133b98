-- The state of the iterator over the environments of a template, as plain data.
use Rattle.std.specs.Prelude.{◌≡◌, ℕ, ◌≤◌, Bool, List, [], ◌++◌, map, drop, cond, Option, Some, None, option_map}
use Rattle.std.specs.List.{flat_map}
use Rattle.std.specs.Borrow.{Bor}
use Rattle.cedar_types.specs.declared.base.names.entities.EntityType.{EntityType}
use Rattle.cedar_types.specs.declared.types.link_pairs.Place.{Place}
use Rattle.cedar_types.specs.declared.types.link_pairs.LinkPairs.{LinkPairs}
use Rattle.cedar_types.specs.declared.types.linked_envs.LinkedRequestEnvs.{LinkedRequestEnvs}
use Rattle.cedar_types.specs.Names.{Path, type_of, uid_of}
use Rattle.cedar_types.specs.Types.{ty_of}
use Rattle.cedar_types.specs.Templates.{template_of}
use Rattle.cedar_types.specs.Environments.{DeclaredEnv}
use Rattle.cedar_types.specs.Environments.Linking.{in_all_ways, linked_by}
use Rattle.cedar_types.specs.Environments.RequestEnvs.{Env, envs_left}
use Rattle.cedar_types.specs.Schemas.Contents.{schema_of}
use Rattle.cedar_types.specs.Environments.SlotLinks.{links_held, most_links}

-- a slot's link, by the name of the type
abbrev pub link_of : Option (Bor EntityType) → Option Path
link_of = option_map (λ t. type_of t.now)

-- the links that were there, followed by one to each of these types
abbrev pub AddsLinks : List (Option (Bor EntityType)) → List Path → List (Option (Bor EntityType)) → Type 0
AddsLinks before ps after = map link_of after ≡ map link_of before ++ map (λ p. Some p) ps

abbrev pub place_env : Place → DeclaredEnv
place_env p = record {
  principal = type_of p.principal.now;
  action = uid_of p.action.now;
  resource = type_of p.resource.now;
  context = ty_of p.context.now;
}

-- the pairs from those of the principal's link at hand on, without its pairs that are gone
abbrev pub pairs_from : Place → List (Option (Bor EntityType)) → List (Option (Bor EntityType))
    → ℕ → ℕ → List Env
pairs_from p ps rs i j =
    drop j (in_all_ways (place_env p) (map link_of (drop i ps)) (map link_of rs))

abbrev pub pairs_left : LinkPairs → List Env
pairs_left l =
    pairs_from l.place l.principals.items l.resources.items l.principal_at l.resource_at

abbrev pub held_left : Option LinkPairs → List Env
held_left None = []
held_left (Some l) = pairs_left l

-- the environments that are still to come, if the walk has not ended
abbrev pub linked_to_come : LinkedRequestEnvs → List Env
linked_to_come s =
    held_left s.links
    ++ flat_map
    (linked_by s.has_principal_slot s.has_resource_slot
    (schema_of s.schema.now) (template_of s.template.now))
    (envs_left s.unlinked)

-- the environments that are still to come
unfoldable pub linked_left : LinkedRequestEnvs → List Env
linked_left s = cond s.ended [] (linked_to_come s)

-- whether the walk has ended
unfoldable pub linked_is_over : LinkedRequestEnvs → Bool
linked_is_over s = s.ended

-- the iterator holds the slot links of one environment at a time
abbrev pub HoldsFewLinks : LinkedRequestEnvs → Type 0
HoldsFewLinks s = links_held s.links ≤ most_links s.schema.now
