-- The number of slot links that the iterator holds for one environment.
use Rattle.std.specs.Prelude.{ℕ, ◌+◌, ◌*◌, length, Option, Some, None}
use Rattle.cedar_types.specs.declared.base.schema.ValidatorSchema.{ValidatorSchema}
use Rattle.cedar_types.specs.declared.types.link_pairs.LinkPairs.{LinkPairs}
use Rattle.cedar_types.specs.Schemas.Contents.{schema_of}

-- the number of links of both slots together
abbrev pub links_held : Option LinkPairs → ℕ
links_held None = 0
links_held (Some l) = length l.principals.items + length l.resources.items

-- the largest number of links: twice the number of declared entity types and one
abbrev pub most_links : ValidatorSchema → ℕ
most_links s = 2 * (length (schema_of s).types + 1)
