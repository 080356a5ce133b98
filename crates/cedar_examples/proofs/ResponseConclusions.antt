-- The conclusions follow from the laws.
use Rattle.std.proofs.Common.{◌≡◌, Bool, true, false, ◌&&◌, true≢false, [], ◌∷◌, if◌then◌else◌, refl, sym, ◌∙◌}
use Rattle.cedar_types.specs.declared.base.templates.effects.Effect.TheVariants.{Forbid}
use Rattle.cedar_types.specs.Names.{Text}
use Rattle.cedar_typing.specs.Evaluation.World.{TypeFailure}
use Rattle.cedar_host.specs.LoadedOutcomes.{LoadedGiveTheSame, LoadedRespondTheSame}
use Rattle.cedar_host.specs.Responses.{same_effect, answer, says_true, ErrorsAreAllowed, ImpossibleIsNeverSatisfied}
use Rattle.cedar_examples.specs.ResponseConclusions.{NoTypeFailures, ImpossibleForbidsAreNotSatisfied, LoadedPartsAgree, LoadedPartsRespondAlike}

pub no_type_failures : ErrorsAreAllowed → NoTypeFailures
no_type_failures law b n ps need closed world formed conforming name one =
    law b n ps need closed world formed conforming (record { policy = name; failure = TypeFailure }) one

none_satisfied : (a b : Bool) (name : Text) → b ≡ false → (if a && b then name ∷ [] else []) ≡ []
none_satisfied true true name h = absurd (true≢false h)
none_satisfied true false name h = refl
none_satisfied false b name h = refl

pub impossible_forbids_are_not_satisfied : ImpossibleIsNeverSatisfied → ImpossibleForbidsAreNotSatisfied
impossible_forbids_are_not_satisfied law b p forbids never closed world formed conforming =
    none_satisfied (same_effect Forbid p.effect) (says_true (answer world p).test) p.name
    (law b p never closed world formed conforming)

pub loaded_parts_agree : LoadedGiveTheSame → LoadedPartsAgree
loaded_parts_agree law b t steps need closed world formed conforming one other l k =
    law b t steps need closed world formed conforming one l
    ∙ sym (law b t steps need closed world formed conforming other k)

pub loaded_parts_respond_alike : LoadedRespondTheSame → LoadedPartsRespondAlike
loaded_parts_respond_alike law b steps ps need closed world formed conforming one other l k =
    law b steps ps need closed world formed conforming one l
    ∙ sym (law b steps ps need closed world formed conforming other k)
