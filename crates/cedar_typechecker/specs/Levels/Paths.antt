-- Views of the program's paths: the keys along a path.
use Rattle.std.specs.Prelude.{List, [], ◌∷◌, Option, Some, None, map}
use Rattle.cedar_types.specs.Names.{text_of, Text}
use Rattle.cedar_typechecker.specs.declared.level_validate.paths.Path.{Path, fold-Path}
use Rattle.cedar_typechecker.specs.declared.level_validate.paths.Path.TheOpen.{Path-F}

abbrev pub path_step : Path-F (List Text) → List Text
path_step (Path-F.Keys ks) = map text_of ks.now
path_step (Path-F.Then k r) = text_of k.now ∷ r.now

abbrev pub keys_along : Path → List Text
keys_along = fold-Path (List Text) path_step

-- the first key and the others, if there is a key
abbrev pub split_keys : List Text → Option (Text × List Text)
split_keys [] = None
split_keys (k ∷ ks) = Some (k, ks)
