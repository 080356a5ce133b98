-- Findings on a policy, in the terms of a verdict.
use Rattle.std.proofs.Common.{◌≡◌, ◌∙◌, ℕ, ◌+◌, ◌-◌, ◌^◌, ◌<◌, min, arith, Bool, true, false, ◌&&◌, ◌||◌, not, true≢false, List, [], ◌++◌, append-nil, map, length, Option, Some, None, refl, sym, ap, subst}
use Rattle.std.specs.BTreeMap.{BTreeMap}
use Rattle.std.specs.List.{list_any}
use Rattle.std.specs.Bool.{◌==◌}
use Rattle.cedar_types.specs.declared.base.errors.validation_errors.ValidationError.{ValidationError}
use Rattle.cedar_types.specs.declared.base.types.ValidationMode.{ValidationMode}
use Rattle.cedar_types.specs.declared.base.types.ValidationMode.TheVariants.{Strict, Permissive, Partial}
use Rattle.cedar_types.specs.Errors.{Finding, finding_of}
use Rattle.cedar_types.specs.Extensions.Functions.{Refusals}
use Rattle.cedar_types.specs.Lemmas.Comparisons.{and_left}
use Rattle.cedar_types.specs.Templates.{PlainTemplate}
use Rattle.cedar_extensions.specs.Calls.{unread_in}
use Rattle.cedar_typing.specs.PolicyCheck.Outcome.{is_silent}
use Rattle.cedar_typing.specs.Soundness.Policies.{Basis}
use Rattle.cedar_typing.proofs.Policies.Tallies.{silent}
use Rattle.cedar_typechecker.specs.declared.rbac.validator.Validator.{Validator}
use Rattle.cedar_typechecker.specs.declared.survey.Survey.{Survey}
use Rattle.cedar_typechecker.specs.Levels.Outcome.{name_findings}
use Rattle.cedar_typechecker.specs.Levels.Required.{IsRequiredLevel}
use Rattle.cedar_typechecker.specs.Surveys.{IsSurveyOf, passes_of, impossible_of, errors_of, level_errors_of}
use Rattle.cedar_typechecker.specs.ValidatorViews.{basis_in}
use Rattle.cedar_host.specs.declared.policy_sets.Findings.{Findings}
use Rattle.cedar_host.specs.declared.safety.SoundMode.{SoundMode}
use Rattle.cedar_host.specs.Found.{AreFindingsOn, AreFindingsWithin, AreFoundBy, listed}
use Rattle.cedar_host.specs.Safety.{DoesNotGoWrong, validation_mode}
use Rattle.cedar_host.specs.Slices.{NeedsSliceAlone}
use Rattle.cedar_verdicts.specs.Found.{AreFoundAgainst, AreFoundByChecks, AreFoundIn}
use Rattle.cedar_verdicts.specs.Verdicts.{is_sound, levels_against, passes_all, finds_nothing, found_by_checks, IsPromised, PassesWithoutLevel}
use Rattle.cedar_verdicts.proofs.Members.{same_members}
use Rattle.cedar_verdicts.proofs.Warned.{warned_by}

module _ {C : Type 0} (meaning : C → Refusals) (v : Validator C) (t : PlainTemplate) where
  abbrev pub by : ValidationMode → Basis
  by m = basis_in meaning v m

  found_in : (s : Survey) (levels : List Finding) (f : Findings) → AreFoundBy (by Strict).schema t s levels f
      → AreFoundIn s (is_silent levels && (is_silent (name_findings Strict (by Strict).schema t) && passes_of s))
      (levels ++ (errors_of s ++ name_findings Strict (by Strict).schema t)) f
  found_in s levels f found = record {
    accepted = found.accepted;
    impossible = found.impossible;
    warned = warned_by (by Strict).schema t (impossible_of s) f.warnings.items found.warnings;
    errors = same_members (listed f.errors) (levels ++ (errors_of s ++ name_findings Strict (by Strict).schema t)) found.errors;
  }

  pub without_level : (m : SoundMode) (f : Findings) → AreFindingsOn (by (validation_mode m)) t f
      → AreFoundByChecks (by (validation_mode m)) None t f
  without_level SoundMode.Strict f (s, surveyed, found) = (s, surveyed, found_in s [] f found)
  without_level SoundMode.Permissive f (s, surveyed, found) = (s, surveyed, found_in s [] f found)

  pub with_level : (m : SoundMode) (n : ℕ) (f : Findings) → AreFindingsWithin n (by (validation_mode m)) t f
      → AreFoundByChecks (by (validation_mode m)) (Some n) t f
  with_level SoundMode.Strict n f (s, surveyed, found) = (s, surveyed, found_in s (level_errors_of s n) f found)
  with_level SoundMode.Permissive n f (s, surveyed, found) = (s, surveyed, found_in s (level_errors_of s n) f found)

  nothing_more : (s : Survey) (f : Findings) → AreFoundIn s (passes_of s) (errors_of s) f
      → AreFoundIn s (passes_of s) (errors_of s ++ []) f
  nothing_more s f h = record {
    accepted = h.accepted;
    impossible = h.impossible;
    warned = h.warned;
    errors = λ p. h.errors p ∙ ap (list_any p) (sym (append-nil (errors_of s)));
  }

  pub in_partial : (level : Option ℕ) (s : Survey) (f : Findings) → IsSurveyOf (by Partial) t s
      → AreFoundIn s (passes_of s) (errors_of s) f → AreFoundByChecks (by Partial) level t f
  in_partial None s f surveyed h = (s, surveyed, nothing_more s f h)
  in_partial (Some n) s f surveyed h = (s, surveyed, nothing_more s f h)

  -- Partial promises nothing of evaluation
  pub unpromised : (level : Option ℕ) (accepted : Bool) → IsPromised (by Partial) level t accepted
  unpromised level accepted = record {
    safe = λ sound. absurd (true≢false (sym sound));
    sliced = λ n is sound. absurd (true≢false (sym sound));
  }

  pub promised_without : (m : ValidationMode) (accepted : Bool)
      → (accepted ≡ true → DoesNotGoWrong (by m) t) → IsPromised (by m) None t accepted
  promised_without m accepted safe = record {
    safe = λ sound h. safe h;
    sliced = λ n is. cc;
  }

  pub promised_within : (m : ValidationMode) (k : ℕ) (accepted : Bool)
      → (accepted ≡ true → DoesNotGoWrong (by m) t) → (accepted ≡ true → NeedsSliceAlone (by m) t k)
      → IsPromised (by m) (Some k) t accepted
  promised_within m k accepted safe sliced = record {
    safe = λ sound h. safe h;
    sliced = λ n is sound h. subst (NeedsSliceAlone (by m) t) (same_number k n is) (sliced h);
  }
    where
      same_number : (k n : ℕ) → Some k ≡ Some n → k ≡ n
      same_number k n is = cc

-- a further condition keeps the promise
pub promised_still : (b : Basis) (level : Option ℕ) (t : PlainTemplate) (one other : Bool)
    → IsPromised b level t one → IsPromised b level t (one && other)
promised_still b level t one other h = record {
  safe = λ sound e. h.safe sound (and_left _ _ e);
  sliced = λ n is sound e. h.sliced n is sound (and_left _ _ e);
}

-- a test that the texts of calls make values
pub all_read : (found : List ValidationError) (all : List Finding) (n : ℕ) (b : Bool)
    → map finding_of found ≡ all → n ≡ length found → b ≡ (n == 0) → b ≡ is_silent all
all_read found all n b same counted tested = silent found n b counted tested ∙ ap is_silent same

-- ---- a verdict, by the findings and by whether an id is repeated

pub twice_not : (a b : Bool) → a ≡ not b → b ≡ not a
twice_not a true e = ap not (sym e)
twice_not a false e = ap not (sym e)

-- a policy that is refused, by validation or for its id, has a cause
pub some_cause : (accepted new repeated : Bool) (size : ℕ) → repeated ≡ not new
    → (accepted ≡ false → 0 < size) → (repeated ≡ true → 0 < size) → (accepted && new) ≡ false → 0 < size
some_cause false new repeated size is refused shared h = refused refl
some_cause true true repeated size is refused shared h = absurd (true≢false h)
some_cause true false repeated size is refused shared h = shared is

-- a policy that both accept has no cause
pub no_cause : (accepted new repeated : Bool) (size : ℕ) → new ≡ not repeated
    → (accepted ≡ true → repeated ≡ false → size ≡ 0) → (accepted && new) ≡ true → size ≡ 0
no_cause true new false size is none h = none refl refl
no_cause true new true size is none h = absurd (true≢false (sym h ∙ is))
no_cause false new repeated size is none h = absurd (true≢false (sym h))

-- ---- findings without a level

no_levels : (m : ValidationMode) (s : Survey) → is_silent (levels_against m None s) ≡ true
no_levels Strict s = refl
no_levels Permissive s = refl
no_levels Partial s = refl

with_silent : (l k r u : Bool) → k ≡ true → ((l && r) && u) ≡ true → ((k && r) && u) ≡ true
with_silent true k r u silent h = (λ i. (silent i && r) && u) ∙ h
with_silent false k r u silent h = absurd (true≢false (sym h))

-- a policy passes without a level if it is accepted at one, or if it is judged again without one
pub passes_without : (b : Basis) (level : Option ℕ) (t : PlainTemplate) (s : Survey) (accepted : Bool) → IsSurveyOf b t s
    → accepted ≡ finds_nothing b level t s → (accepted ≡ false → PassesWithoutLevel b t) → PassesWithoutLevel b t
passes_without b level t s true surveyed is h = (
  s,
  surveyed,
  with_silent (is_silent (levels_against b.mode level s)) (is_silent (levels_against b.mode None s))
      (is_silent (name_findings b.mode b.schema t) && passes_of s) (is_silent (unread_in t)) (no_levels b.mode s) (sym is),
)
passes_without b level t s false surveyed is h = h refl

-- ---- findings that are not listed

pub none_more : (a b sum : ℕ) → sum ≡ min (a + b) (2 ^ 64 - 1) → sum ≡ 0 → b ≡ 0
none_more a b sum is none = omega arith
