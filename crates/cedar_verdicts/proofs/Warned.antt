-- Warnings that a policy is impossible, and the causes that say so.
use Rattle.std.proofs.Common.{◌≡◌, ◌∙◌, ◌&&◌, ◌||◌, Bool, true, false, not, List, [], ◌∷◌, ◌++◌, map, cond, refl, sym, ap}
use Rattle.std.specs.BTreeMap.{keys}
use Rattle.std.specs.List.{list_any}
use Rattle.std.proofs.lemmas.List.Folds.{list_any-append}
use Rattle.cedar_types.specs.declared.base.errors.validation_warnings.ValidationWarning.{ValidationWarning}
use Rattle.cedar_types.specs.declared.base.errors.validation_warnings.ValidationWarning.TheVariants as warning
use Rattle.cedar_types.specs.declared.base.types.ValidationMode.TheVariants.{Strict}
use Rattle.cedar_types.specs.Errors.{Finding, finding_of, Slip, impossible_policy, invalid_action_application, Warning, warning_of}
use Rattle.cedar_types.specs.Lemmas.Comparisons.{and_left}
use Rattle.cedar_types.specs.Schemas.{Schema}
use Rattle.cedar_types.specs.Templates.{PlainTemplate}
use Rattle.cedar_typing.specs.PolicyCheck.Outcome.{impossible}
use Rattle.cedar_typechecker.specs.Applications.{application_warning, has_fitting_action}
use Rattle.cedar_typechecker.specs.Levels.Outcome.{application_warnings}
use Rattle.cedar_typechecker.specs.declared.survey.Survey.{Survey}
use Rattle.cedar_typechecker.specs.Surveys.{impossible_of}
use Rattle.cedar_host.specs.declared.policy_sets.Findings.{Findings}
use Rattle.cedar_verdicts.specs.declared.causes.Found.{Found}
use Rattle.cedar_verdicts.specs.Found.{AreFoundIn, is_unknown_error, warns_of_impossible}
use Rattle.cedar_verdicts.specs.Mistakes.{may_say_impossible, says_impossible}
use Rattle.cedar_verdicts.specs.Verdicts.{is_unknown_name}
use Rattle.cedar_verdicts.specs.Warnings.{Gain, warns_that_impossible}
use Rattle.cedar_verdicts.proofs.Members.{or_false, or_true}

-- ---- warnings of a policy

abbrev pub is_slip : Slip → Bool
is_slip impossible_policy = true
is_slip (invalid_action_application p r) = false

abbrev pub slips_so : Warning → Bool
slips_so w = is_slip w.slip

pub one_slip : (w : ValidationWarning) (x : Warning) → warning_of w ≡ x → warns_of_impossible w ≡ slips_so x
one_slip (warning.ImpossiblePolicy w) x is = ap slips_so is
one_slip (warning.InvalidActionApplication w) x is = ap slips_so is

slips : (ws : List ValidationWarning) → list_any warns_of_impossible ws ≡ list_any slips_so (map warning_of ws)
slips [] = refl
slips (warning.ImpossiblePolicy w ∷ ws) = refl
slips (warning.InvalidActionApplication w ∷ ws) = slips ws

-- one warning, and it says so
pub warned_once : (none ws : List ValidationWarning) (w : ValidationWarning) (x : Warning) → none ≡ [] → ws ≡ none ++ w ∷ []
    → warning_of w ≡ x → slips_so x ≡ true → list_any warns_of_impossible ws ≡ true
warned_once none ws w x empty pushed is h =
    ap (list_any warns_of_impossible) pushed ∙ ap (λ ns. list_any warns_of_impossible (ns ++ w ∷ [])) empty
    ∙ (λ i. (one_slip w x is ∙ h) i || false)

by_parts : (s : Schema) (t : PlainTemplate) (fits i : Bool)
    → list_any slips_so (cond fits [] (application_warning s t ∷ []) ++ cond i (impossible t ∷ []) []) ≡ i
by_parts s t true true = refl
by_parts s t true false = refl
by_parts s t false true = refl
by_parts s t false false = refl

-- the warning is there exactly if the policy is impossible
pub warned_by : (s : Schema) (t : PlainTemplate) (i : Bool) (ws : List ValidationWarning)
    → map warning_of ws ≡ application_warnings Strict s t ++ cond i (impossible t ∷ []) []
    → list_any warns_of_impossible ws ≡ i
warned_by s t i ws is = slips ws ∙ ap (list_any slips_so) is ∙ by_parts s t (has_fitting_action s t) i

-- ---- causes that are added

or_or : (a b c : Bool) → ((a || b) || c) ≡ (a || (b || c))
or_or true b c = refl
or_or false b c = refl

shared : (a b c : Bool) → ((a && c) || (b && c)) ≡ ((a || b) && c)
shared true true true = refl
shared true true false = refl
shared true false true = refl
shared true false false = refl
shared false b c = refl

-- what is added in two steps
pub then_gain : (a b : Bool) (old mid new : List Found) → Gain a old mid → Gain b mid new → Gain (a || b) old new
then_gain a b old mid new first second = record {
  says =
      second.says ∙ ap (λ x. x || b) first.says ∙ or_or (list_any says_impossible old) a b;
  may_say =
      second.may_say ∙ ap (λ x. x || b) first.may_say ∙ or_or (list_any may_say_impossible old) a b;
}

pub gain_by : (a b : Bool) (old new : List Found) → a ≡ b → Gain a old new → Gain b old new
gain_by a b old new e h = record {
  says = h.says ∙ ap (λ x. list_any says_impossible old || x) e;
  may_say = h.may_say ∙ ap (λ x. list_any may_say_impossible old || x) e;
}

pub no_gain : (cs : List Found) → Gain false cs cs
no_gain cs = record {
  says = sym (or_false (list_any says_impossible cs));
  may_say = sym (or_false (list_any may_say_impossible cs));
}

pub nothing_told : (a : Bool) → (a || false) ≡ a
nothing_told a = or_false a

-- one more cause, of a kind that says so or that does not
pub gain_one : (b : Bool) (cs new : List Found) (c : Found) → new ≡ cs ++ c ∷ [] → says_impossible c ≡ b
    → may_say_impossible c ≡ b → Gain b cs new
gain_one b cs new c pushed says may_say = record {
  says =
      ap (list_any says_impossible) pushed ∙ list_any-append says_impossible cs (c ∷ [])
      ∙ ap (λ x. list_any says_impossible cs || x) (or_false (says_impossible c) ∙ says);
  may_say =
      ap (list_any may_say_impossible) pushed ∙ list_any-append may_say_impossible cs (c ∷ [])
      ∙ ap (λ x. list_any may_say_impossible cs || x) (or_false (may_say_impossible c) ∙ may_say);
}

-- the warnings so far, and one more, while the names decide for all
pub one_more_warning : (ws next : List ValidationWarning) (w : ValidationWarning) (known : Bool) → next ≡ ws ++ w ∷ []
    → ((list_any warns_of_impossible ws && known) || (warns_of_impossible w && known)) ≡ (list_any warns_of_impossible next && known)
one_more_warning ws next w known is =
    shared (list_any warns_of_impossible ws) (warns_of_impossible w) known
    ∙ ap (λ x. x && known)
    (sym (ap (list_any warns_of_impossible) is ∙ list_any-append warns_of_impossible ws (w ∷ [])
    ∙ ap (λ x. list_any warns_of_impossible ws || x) (or_false (warns_of_impossible w))))

-- ---- findings on a policy

mapped_any : {A B : Type 0} (p : B → Bool) (f : A → B) (xs : List A) → list_any p (map f xs) ≡ list_any (λ x. p (f x)) xs
mapped_any p f [] = refl
mapped_any p f (x ∷ xs) = ap (λ b. p (f x) || b) (mapped_any p f xs)

-- a cause says so only if the policy is impossible
pub told_by : (s : Survey) (f : Findings) (passes : Bool) (errors : List Finding) (causes : List Found)
    → AreFoundIn s passes errors f → Gain (warns_that_impossible f) [] causes
    → list_any may_say_impossible causes ≡ true → f.is_impossible ≡ true
told_by s f passes errors causes found gained h =
    found.impossible ∙ sym found.warned
    ∙ and_left (list_any warns_of_impossible f.warnings.items) (not (list_any is_unknown_error (keys f.errors)))
    (sym gained.may_say ∙ h)

-- a cause says so if the policy is impossible, and no error is an unknown name
pub told_of : (s : Survey) (f : Findings) (passes : Bool) (errors : List Finding) (causes : List Found)
    → AreFoundIn s passes errors f → Gain (warns_that_impossible f) [] causes → impossible_of s ≡ true
    → list_any is_unknown_name errors ≡ false → list_any says_impossible causes ≡ true
told_of s f passes errors causes found gained is known =
    let none = sym (mapped_any is_unknown_name finding_of (keys f.errors)) ∙ (found.errors is_unknown_name ∙ known) in
    gained.says ∙ (λ i. (found.warned ∙ is) i && not (none i))
