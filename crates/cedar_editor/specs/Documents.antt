-- Policies of a document, and the verdicts on them.
use Rattle.std.specs.Prelude.{◌≡◌, ℕ, ◌+◌, ◌<◌, ◌≤◌, List, All, true, false, length, slice_range, string_bytes}
use Rattle.cedar_types.specs.Extensions.Functions.{Refusals}
use Rattle.cedar_types.specs.Templates.{template_of}
use Rattle.cedar_typechecker.specs.ValidatorViews.{basis_in}
use Rattle.cedar_typing.specs.Soundness.Policies.{Basis}
use Rattle.cedar_verdicts.specs.Verdicts.{IsPromised}
use Rattle.cedar_editor.specs.Checks.{has_shown_error, IsRightlySaid}
use Rattle.cedar_editor.specs.Lines.{moved_byte}
use Rattle.cedar_editor.specs.declared.checks.CheckedPolicy.{CheckedPolicy}
use Rattle.cedar_editor.specs.declared.documents.PlacedPolicy.{PlacedPolicy}
use Rattle.cedar_editor.specs.declared.judges.Judge.{Judge}
use Rattle.cedar_editor.specs.declared.judges.SharedSettings.{SharedSettings}

-- the basis of judgment by shared settings: the validator's schema and extension functions, and the mode
abbrev pub shared_basis : {C : Type 0} → (C → Refusals) → SharedSettings C → Basis
shared_basis meaning s = basis_in meaning s.validator.value s.mode

-- the verdict on a policy is right by these settings, wherever the policy stands; a judge without a schema gives no verdict, so
-- nothing is claimed of it
abbrev pub is_said_by : {C : Type 0} → (C → Refusals) → Judge C → CheckedPolicy → Type 0
is_said_by meaning (Judge.Reading functions) p = Unit {0}
is_said_by meaning (Judge.Settings s) p = IsRightlySaid (shared_basis meaning s) s.level p

-- the verdict on a placed policy is right by this judge
abbrev pub IsSaidBy : {C : Type 0} → (C → Refusals) → Judge C → PlacedPolicy → Type 0
IsSaidBy meaning judge p = is_said_by meaning judge p.policy.value

-- the verdicts on all of these policies are right by this judge
abbrev pub AreRightlySaidBy : {C : Type 0} → (C → Refusals) → Judge C → List PlacedPolicy → Type 0
AreRightlySaidBy meaning judge ps = All (IsSaidBy meaning judge) ps

-- the byte at which a policy begins, and the policy
abbrev pub placed_policy : PlacedPolicy → ℕ × CheckedPolicy
placed_policy p = (p.start, p.policy.value)

-- the byte at which a policy behind a change begins once the change is made, and the policy
abbrev pub moved_policy : ℕ → ℕ → PlacedPolicy → ℕ × CheckedPolicy
moved_policy old new p = (moved_byte old new p.start, p.policy.value)

-- the text of a policy stands in a text at a byte
abbrev pub stands_at : List ℕ → ℕ → CheckedPolicy → Type 0
stands_at text start p = slice_range text start (start + length (string_bytes p.text)) ≡ string_bytes p.text

-- the text of a policy stands in a text where the policy begins
abbrev pub StandsIn : List ℕ → PlacedPolicy → Type 0
StandsIn text p = stands_at text p.start p.policy.value

-- the texts of all of these policies stand in a text, each where its policy begins
abbrev pub AllStandIn : List ℕ → List PlacedPolicy → Type 0
AllStandIn text ps = All (StandsIn text) ps

-- a policy ends at a byte or before it
abbrev pub EndsBy : ℕ → PlacedPolicy → Type 0
EndsBy byte p = p.start + length (string_bytes p.policy.value.text) ≤ byte

-- a policy begins behind a byte
abbrev pub BeginsBehind : ℕ → PlacedPolicy → Type 0
BeginsBehind byte p = byte < p.start

-- no error of a policy is shown
abbrev pub ShowsNoError : PlacedPolicy → Type 0
ShowsNoError p = has_shown_error p.policy.value ≡ false

-- validation by these settings promises of a policy all that it promises of an accepted policy
abbrev pub IsPromisedBy : {C : Type 0} → (C → Refusals) → SharedSettings C → PlacedPolicy → Type 0
IsPromisedBy meaning s p = IsPromised (shared_basis meaning s) s.level (template_of p.policy.value.template) true

-- policies of which no error is shown have the promise of accepted policies; a judge without a schema promises nothing
abbrev pub KeepThePromise : {C : Type 0} → (C → Refusals) → Judge C → List PlacedPolicy → Type 0
KeepThePromise meaning (Judge.Reading functions) ps = Unit {0}
KeepThePromise meaning (Judge.Settings s) ps = All ShowsNoError ps → ∥ All (IsPromisedBy meaning s) ps ∥₁
