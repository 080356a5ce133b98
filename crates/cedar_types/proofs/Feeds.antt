-- Texts that feed a hasher.
use Rattle.std.proofs.Common.{◌≡◌, List, ◌++◌, map, sym}
use Rattle.std.specs.Hash as fed
use Rattle.std.proofs.lemmas.List.Folds.{flat_map-map}
use Rattle.std.proofs.lemmas.List.{length-map}
use Rattle.cedar_types.specs.Names.{Text}

-- A list of values feeds its texts to a hasher as the list of those texts does
pub texts_fed : {X : Type 0} (f : X → Text) (xs : List X) → fed.slice (λ x. fed.str (f x)) xs ≡ fed.slice fed.str (map f xs)
texts_fed f xs = λ i. fed.usize (sym (length-map xs f) i) ++ sym (flat_map-map fed.str f xs) i
