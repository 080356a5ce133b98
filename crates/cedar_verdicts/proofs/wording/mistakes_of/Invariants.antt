use Rattle.std.proofs.Common.{◌≡◌, ◌++◌, ◌∷◌, true, take}
use Rattle.std.specs.List.{flat_map, list_all}
use Rattle.cedar_verdicts.specs.Mistakes.{causes_in, is_one_mistake}
use Rattle.cedar_verdicts.proofs.wording.mistakes_of.Given as goal

-- the causes so far are those of the mistakes, and of the last one
abbrev pub invariant-loop-cause : goal.invariant-loop-cause
invariant-loop-cause l = record {
  all : flat_map causes_in l.mistakes.items ++ causes_in l.mistake ≡ l.initial.mistake.first ∷ take l.cause-index l.rest;
  each : list_all is_one_mistake l.mistakes.items ≡ true;
  last : is_one_mistake l.mistake ≡ true;
}
