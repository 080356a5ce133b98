-- Answers, one after another: each is on its policy.
use Rattle.std.proofs.Common.{◌≡◌, ℕ, ◌+◌, ◌<◌, List, [], ◌∷◌, ◌++◌, map, take, length, All, get_or, sym, ap, subst, ◌∙◌}
use Rattle.std.proofs.lemmas.List.{map_push, take_more}
use Rattle.std.proofs.lemmas.List.Elements.{All-push}

-- one more answer is on one more policy
pub one_more_each : {A P : Type 0} (about : A → P) (policies : List P) (i : ℕ) (policy : P) (old new : List A) (answer : A)
    → new ≡ old ++ answer ∷ [] → map about old ≡ take i policies → about answer ≡ policy
    → i < length policies → policy ≡ get_or policies i policy → map about new ≡ take (i + 1) policies
one_more_each about policies i policy old new answer pushed each on_policy below is =
    ap (map about) pushed
    ∙ map_push about old answer
    ∙ (λ j. each j ++ on_policy j ∷ [])
    ∙ ap (λ p. take i policies ++ p ∷ []) is
    ∙ sym (take_more policies i policy below)

-- a property of all answers and of one more is a property of each in the longer list
pub one_more_right : {A : Type 0} (P : A → Type 0) (old new : List A) (answer : A)
    → new ≡ old ++ answer ∷ [] → All P old → P answer → All P new
one_more_right P old new answer pushed all right =
    subst (All P) (sym pushed) (All-push P old answer all right)
