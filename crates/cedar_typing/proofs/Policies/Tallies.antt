-- The findings of a policy's checks, one verdict after another.
use Rattle.std.proofs.Common.{◌≡◌, ◌↔◌, ℕ, Bool, true, false, ◌&&◌, cond, ne_eqb, List, [], ◌∷◌, ◌++◌, map, length, ◌⊎◌, inl, inr, refl}
use Rattle.std.proofs.Common.{sym, ap, subst, ◌∙◌, arith}
use Rattle.std.specs.Bool.{Decides, ◌==◌}
use Rattle.std.specs.Ordering.{eq_by_cmp}
use Rattle.cedar_types.specs.declared.base.errors.validation_errors.ValidationError.{ValidationError}
use Rattle.cedar_types.specs.declared.base.errors.validation_warnings.ValidationWarning.{ValidationWarning}
use Rattle.cedar_types.specs.contracts.base.errors.validation_errors.ValidationErrorPartialEq.TheImpl as error_impl
use Rattle.cedar_types.specs.contracts.base.errors.validation_warnings.ValidationWarningPartialEq.TheImpl as warning_impl
use Rattle.cedar_types.specs.ErrorOrder.{error_cmp}
use Rattle.cedar_types.specs.Errors.{Finding, Warning, finding_of, warning_of}
use Rattle.cedar_types.specs.Templates.{PlainTemplate}
use Rattle.cedar_types.proofs.Comparisons.Errors.{error_is, tie_is, warning_is}
use Rattle.cedar_types.proofs.Comparisons.ErrorsDecided.{finding_eq-Decides, warning_eq-Decides}
use Rattle.cedar_typing.specs.Evaluation.Conformance.{IsOneOf}
use Rattle.cedar_typing.specs.PolicyCheck.{Verdict}
use Rattle.cedar_typing.specs.PolicyCheck.Outcome.{Adds, is_silent, errors_in, all_errors, all_irrelevant, warnings_of, impossible}
use Rattle.cedar_typing.proofs.Basics.Gains.{in_either, adds_nothing}
use Rattle.cedar_typing.proofs.Basics.Members.{in_left, in_right}

-- ---- equality of errors and of warnings, and ties in the order of errors, are equality of their views

pub error_decides : (x y : ValidationError) → Decides (error_impl.ghosts.eq x y) (finding_of x ≡ finding_of y)
error_decides x y =
    let d = finding_eq-Decides (finding_of x) (finding_of y) in
    (λ h. d.0 (sym (error_is x y) ∙ h), λ h. error_is x y ∙ d.1 h)

-- whether two errors are tied in the order of errors
abbrev pub is_tied : ValidationError → ValidationError → Bool
is_tied = eq_by_cmp error_cmp

pub tie_decides : (x y : ValidationError) → Decides (is_tied x y) (finding_of x ≡ finding_of y)
tie_decides x y =
    let d = finding_eq-Decides (finding_of x) (finding_of y) in
    (λ h. d.0 (sym (tie_is x y) ∙ h), λ h. tie_is x y ∙ d.1 h)

pub warning_decides : (x y : ValidationWarning) → Decides (warning_impl.ghosts.eq x y) (warning_of x ≡ warning_of y)
warning_decides x y =
    let d = warning_eq-Decides (warning_of x) (warning_of y) in
    (λ h. d.0 (sym (warning_is x y) ∙ h), λ h. warning_is x y ∙ d.1 h)

-- ---- one more verdict

-- two lists have the same members
abbrev pub SameMembers : {A : Type 0} → List A → List A → Type 0
SameMembers {A} xs ys = (x : A) → IsOneOf x xs ↔ IsOneOf x ys

pub one_more : (v : Verdict) (vs : List Verdict) (before after : List Finding) → Adds before (errors_in v) after
    → SameMembers before (all_errors vs) → SameMembers after (all_errors (v ∷ vs))
one_more v vs before after a h f = (
  λ k. to (in_either f before (errors_in v) ((a f).0 k)),
  λ k. from
      (in_either f (errors_in v) (all_errors vs) k),
)
  where
    to : IsOneOf f before ⊎ IsOneOf f (errors_in v) → IsOneOf f (all_errors (v ∷ vs))
    to (inl m) = in_right f (errors_in v) (all_errors vs) ((h f).0 m)
    to (inr m) = in_left f (errors_in v) (all_errors vs) m

    from : IsOneOf f (errors_in v) ⊎ IsOneOf f (all_errors vs) → IsOneOf f after
    from (inl m) = (a f).1 (in_right f before (errors_in v) m)
    from (inr m) = (a f).1 (in_left f before (errors_in v) ((h f).1 m))

pub silent : (es : List ValidationError) (n : ℕ) (b : Bool) → n ≡ length es → b ≡ (n == 0) → b ≡ is_silent (map finding_of es)
silent [] n b e k = k ∙ ap (λ m. m == 0) e
silent (x ∷ es) n b e k = k ∙ ne_eqb n 0 (omega (arith, e))

pub in_other_order : (a b c d : Bool) → a ≡ c → b ≡ d → (a && b) ≡ (d && c)
in_other_order a b c d h k = (λ i. h i && k i) ∙ swapped c d
  where
    swapped : (x y : Bool) → (x && y) ≡ (y && x)
    swapped true true = refl
    swapped true false = refl
    swapped false true = refl
    swapped false false = refl

-- ---- the findings that are added in the end

-- the added members may be replaced by a list with the same members
pub adds_same : {A : Type 0} (old these those new : List A) → Adds old these new → SameMembers these those → Adds old those new
adds_same old these those new a h x = (λ k. to (in_either x old these ((a x).0 k)), λ k. (a x).1 (from (in_either x old those k)))
  where
    to : IsOneOf x old ⊎ IsOneOf x these → IsOneOf x (old ++ those)
    to (inl m) = in_left x old those m
    to (inr m) = in_right x old those ((h x).0 m)

    from : IsOneOf x old ⊎ IsOneOf x those → IsOneOf x (old ++ these)
    from (inl m) = in_left x old these m
    from (inr m) = in_right x old these ((h x).1 m)

pub warned : (t : PlainTemplate) (vs : List Verdict) (old new : List Warning) (w : Warning)
    → all_irrelevant vs ≡ true → w ≡ impossible t → Adds old (w ∷ []) new → Adds old (warnings_of t vs) new
warned t vs old new w i e a =
    subst (λ b. Adds old (cond b (impossible t ∷ []) []) new) (sym i) (subst (λ x. Adds old (x ∷ []) new) e a)

pub not_warned : (t : PlainTemplate) (vs : List Verdict) (old new : List Warning) → all_irrelevant vs ≡ false
    → new ≡ old → Adds old (warnings_of t vs) new
not_warned t vs old new i e =
    subst (λ b. Adds old (cond b (impossible t ∷ []) []) new) (sym i)
    (adds_nothing old new (λ x h. subst (λ xs. IsOneOf x xs) e h) (λ x h. subst (λ xs. IsOneOf x xs) (sym e) h))
