-- Answers as tests: the findings of a search.
use Rattle.std.specs.Prelude.{◌≡◌, Bool, true, false, ◌&&◌, List, [], ◌∷◌, Option, Some, None, Result, Ok, Err, IfOk}

-- the search finds nothing
abbrev pub finds_none : {A : Type 0} → Option A → Bool
finds_none None = true
finds_none (Some x) = false

-- the finding, if there is one, passes
abbrev pub passes_if_any : {A : Type 0} → (A → Bool) → Option A → Bool
passes_if_any p None = true
passes_if_any p (Some x) = p x

-- the fault that a check answers, if it answers one
abbrev pub fault_in : {F : Type 0} → Result (Unit {0}) F → Option F
fault_in (Ok u) = None
fault_in (Err f) = Some f

-- the list of findings is empty
abbrev pub lists_none : {A : Type 0} → List A → Bool
lists_none [] = true
lists_none (x ∷ xs) = false

-- a search that ends finds nothing exactly if this holds
abbrev pub FindsNoneWhere : {A E : Type 0} → Result (Option A) E → Bool → Type 0
FindsNoneWhere found holds = IfOk found (λ o. finds_none o ≡ holds)

-- the finding of a search passes
abbrev pub FindsWhat : {A E : Type 0} → Result (Option A) E → (A → Bool) → Type 0
FindsWhat found p = IfOk found (λ o. passes_if_any p o ≡ true)

-- the list stays empty exactly if it was empty and this holds
abbrev pub AddsNoneWhere : {A : Type 0} → Bool → List A → List A → Type 0
AddsNoneWhere holds before after = lists_none after ≡ (lists_none before && holds)
