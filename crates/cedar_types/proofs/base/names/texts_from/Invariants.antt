use Rattle.std.proofs.Common.{◌≡◌, take, map}
use Rattle.cedar_types.specs.Names.{text_of}
use Rattle.cedar_types.proofs.base.names.texts_from.Given as goal

abbrev pub invariant-loop-text : goal.invariant-loop-text
invariant-loop-text l = map text_of l.owned.items ≡ map (λ s. s.now) (take l.text-index l.fn.texts)
