-- Neither the order of the policies nor an impossible policy decides a response.
use Rattle.std.proofs.Common.{◌≡◌, ℕ, ◌⊎◌, inl, inr, Bool, true, false, ◌&&◌, true≢false, List, [], ◌∷◌, ◌++◌, if◌then◌else◌, All, refl, sym, ap, subst}
use Rattle.std.specs.Prelude.{IsPermutation}
use Rattle.std.proofs.lemmas.List.Elements.{All-weaker}
use Rattle.std.proofs.lemmas.List.Sorted.{IsPermutation-sym}
use Rattle.cedar_types.specs.declared.base.templates.effects.Effect.{Effect}
use Rattle.cedar_types.specs.declared.base.templates.effects.Effect.TheVariants.{Permit, Forbid}
use Rattle.cedar_types.specs.Names.{Text}
use Rattle.cedar_types.specs.Templates.{condition_of}
use Rattle.cedar_typing.specs.Evaluation.Conformance.{IsOneOf}
use Rattle.cedar_typing.specs.Evaluation.Eval.{eval}
use Rattle.cedar_typing.specs.Evaluation.Outcomes.{Test, Says, Stops}
use Rattle.cedar_typing.specs.Evaluation.World.{World}
use Rattle.cedar_typing.specs.Soundness.Policies.{Basis}
use Rattle.cedar_typing.proofs.Basics.Members.{moved}
use Rattle.cedar_host.specs.declared.reports.PolicyReport.{PolicyReport}
use Rattle.cedar_host.specs.declared.slices.SliceReport.{SliceReport}
use Rattle.cedar_host.specs.ResponseLaws.{HaveSameMembers, OrderDecidesNothing, ImpossibleDecidesNothing, IsUnneeded}
use Rattle.cedar_host.specs.Responses.{same_effect, LinkedPolicy, linked_world, answer, answers, says_true, satisfied, PolicyError}
use Rattle.cedar_host.specs.Responses.{with_error, erring, decision, determining}
use Rattle.cedar_host.specs.Safety.{IsRight, IsNeverTrue}
use Rattle.cedar_host.specs.Slices.{IsRightForSlices}
use Rattle.cedar_host.proofs.SameResponses.{linked_conforms, never_says}

-- ---- lists with the same members

same_decision : (ps qs fs gs : List Text) → HaveSameMembers ps qs → HaveSameMembers fs gs → decision ps fs ≡ decision qs gs
same_decision [] [] fs gs h k = refl
same_decision [] (q ∷ qs) fs gs h k = absurd ((h q).1 (inl refl))
same_decision (p ∷ ps) [] fs gs h k = absurd ((h p).0 (inl refl))
same_decision (p ∷ ps) (q ∷ qs) [] [] h k = refl
same_decision (p ∷ ps) (q ∷ qs) [] (g ∷ gs) h k = absurd ((k g).1 (inl refl))
same_decision (p ∷ ps) (q ∷ qs) (f ∷ fs) [] h k = absurd ((k f).0 (inl refl))
same_decision (p ∷ ps) (q ∷ qs) (f ∷ fs) (g ∷ gs) h k = refl

same_determining : (ps qs fs gs : List Text) → HaveSameMembers ps qs → HaveSameMembers fs gs
    → HaveSameMembers (determining ps fs) (determining qs gs)
same_determining ps qs [] [] h k = h
same_determining ps qs [] (g ∷ gs) h k = absurd ((k g).1 (inl refl))
same_determining ps qs (f ∷ fs) [] h k = absurd ((k f).0 (inl refl))
same_determining ps qs (f ∷ fs) (g ∷ gs) h k = k

-- ---- the members of a response's lists

in_whole : {A : Type 0} (b : Bool) (x y : A) (rest : List A) → IsOneOf y rest → IsOneOf y (if b then x ∷ rest else rest)
in_whole true x y rest i = inr i
in_whole false x y rest i = i

in_front : {A : Type 0} (b : Bool) (x y : A) (rest : List A) → b ≡ true → y ≡ x → IsOneOf y (if b then x ∷ rest else rest)
in_front true x y rest k q = inl q
in_front false x y rest k q = absurd (true≢false (sym k))

in_rest : (name : Text) (o : Test) (es : List PolicyError) (e : PolicyError) → IsOneOf e es → IsOneOf e (with_error name o es)
in_rest name (Says b) es e i = i
in_rest name (Stops f) es e i = inr i

of_own : (name : Text) (o : Test) (es : List PolicyError) (e : PolicyError) → IsOneOf e (with_error name o [])
    → IsOneOf e (with_error name o es)
of_own name (Says b) es e i = absurd i
of_own name (Stops f) es e (inl q) = inl q
of_own name (Stops f) es e (inr i) = absurd i

own_or_rest : (name : Text) (o : Test) (es : List PolicyError) (e : PolicyError) → IsOneOf e (with_error name o es)
    → IsOneOf e (with_error name o []) ⊎ IsOneOf e es
own_or_rest name (Says b) es e i = inr i
own_or_rest name (Stops f) es e (inl q) = inl (inl q)
own_or_rest name (Stops f) es e (inr i) = inr i

module _ (world : World) where
  -- whether a policy of this effect is satisfied
  abbrev is_satisfied : Effect → LinkedPolicy → Bool
  is_satisfied e p = same_effect e p.effect && says_true (answer world p).test

  -- it is, under this name
  record IsSatisfiedAs (e : Effect) (t : Text) (p : LinkedPolicy) : Type 0 where
    is : is_satisfied e p ≡ true
    named : t ≡ p.name

  -- the errors of a policy
  abbrev own_errors : LinkedPolicy → List PolicyError
  own_errors p = with_error p.name (answer world p).test []

  abbrev SomeOf : (LinkedPolicy → Type 0) → List LinkedPolicy → Type 0
  SomeOf P ps = (p : LinkedPolicy) × IsOneOf p ps × P p

  someone_later : (P : LinkedPolicy → Type 0) (q : LinkedPolicy) (ps : List LinkedPolicy) → SomeOf P ps → SomeOf P (q ∷ ps)
  someone_later P q ps s = (s.0, inr s.1, s.2)

  satisfied_by : (e : Effect) (t : Text) (ps : List LinkedPolicy) → IsOneOf t (satisfied e (answers world ps))
      → SomeOf (IsSatisfiedAs e t) ps
  satisfied_by e t [] h = absurd h
  satisfied_by e t (p ∷ ps) h = by (is_satisfied e p) refl h (satisfied_by e t ps)
    where
      by : (b : Bool) → is_satisfied e p ≡ b
          → IsOneOf t (if b then p.name ∷ satisfied e (answers world ps) else satisfied e (answers world ps))
          → (IsOneOf t (satisfied e (answers world ps)) → SomeOf (IsSatisfiedAs e t) ps)
          → SomeOf (IsSatisfiedAs e t) (p ∷ ps)
      by true k (inl q) later = (p, inl refl, record { is = k; named = q })
      by true k (inr i) later = someone_later (IsSatisfiedAs e t) p ps (later i)
      by false k i later = someone_later (IsSatisfiedAs e t) p ps (later i)

  is_listed : (e : Effect) (t : Text) (ps : List LinkedPolicy) (p : LinkedPolicy) → IsOneOf p ps → IsSatisfiedAs e t p
      → IsOneOf t (satisfied e (answers world ps))
  is_listed e t [] p i s = absurd i
  is_listed e t (q ∷ ps) p (inl r) s =
      let here : IsSatisfiedAs e t q = subst (IsSatisfiedAs e t) r s in
      in_front (is_satisfied e q) q.name t (satisfied e (answers world ps)) here.is here.named
  is_listed e t (q ∷ ps) p (inr i) s =
      in_whole (is_satisfied e q) q.name t (satisfied e (answers world ps)) (is_listed e t ps p i s)

  erring_by : (x : PolicyError) (ps : List LinkedPolicy) → IsOneOf x (erring (answers world ps))
      → SomeOf (λ p. IsOneOf x (own_errors p)) ps
  erring_by x [] h = absurd h
  erring_by x (p ∷ ps) h =
      by (own_or_rest p.name (answer world p).test (erring (answers world ps)) x h) (erring_by x ps)
    where
      by : IsOneOf x (own_errors p) ⊎ IsOneOf x (erring (answers world ps))
          → (IsOneOf x (erring (answers world ps)) → SomeOf (λ q. IsOneOf x (own_errors q)) ps)
          → SomeOf (λ q. IsOneOf x (own_errors q)) (p ∷ ps)
      by (inl i) later = (p, inl refl, i)
      by (inr i) later = someone_later (λ q. IsOneOf x (own_errors q)) p ps (later i)

  errs : (x : PolicyError) (ps : List LinkedPolicy) (p : LinkedPolicy) → IsOneOf p ps → IsOneOf x (own_errors p)
      → IsOneOf x (erring (answers world ps))
  errs x [] p i s = absurd i
  errs x (q ∷ ps) p (inl r) s =
      of_own q.name (answer world q).test (erring (answers world ps)) x (subst (λ z. IsOneOf x (own_errors z)) r s)
  errs x (q ∷ ps) p (inr i) s = in_rest q.name (answer world q).test (erring (answers world ps)) x (errs x ps p i s)

  -- ---- in another order

  satisfied_too : (e : Effect) (ps qs : List LinkedPolicy) → IsPermutation ps qs → (t : Text)
      → IsOneOf t (satisfied e (answers world ps)) → IsOneOf t (satisfied e (answers world qs))
  satisfied_too e ps qs m t h = let s = satisfied_by e t ps h in is_listed e t qs s.0 (moved ps qs m s.0 s.1) s.2

  errs_too : (ps qs : List LinkedPolicy) → IsPermutation ps qs → (x : PolicyError)
      → IsOneOf x (erring (answers world ps)) → IsOneOf x (erring (answers world qs))
  errs_too ps qs m x h = let s = erring_by x ps h in errs x qs s.0 (moved ps qs m s.0 s.1) s.2

  same_satisfied : (e : Effect) (ps qs : List LinkedPolicy) → IsPermutation ps qs
      → HaveSameMembers (satisfied e (answers world ps)) (satisfied e (answers world qs))
  same_satisfied e ps qs m t =
      (satisfied_too e ps qs m t, satisfied_too e qs ps (IsPermutation-sym ps qs m) t)

pub order_decides_nothing : OrderDecidesNothing
order_decides_nothing world ps qs m =
    let permits = same_satisfied world Permit ps qs m in
    let forbids = same_satisfied world Forbid ps qs m in
    let permitted : List LinkedPolicy → List Text = λ rs. satisfied Permit (answers world rs) in
    let forbidden : List LinkedPolicy → List Text = λ rs. satisfied Forbid (answers world rs) in
    record {
      decision = same_decision (permitted ps) (permitted qs) (forbidden ps) (forbidden qs) permits forbids;
      determining = same_determining (permitted ps) (permitted qs) (forbidden ps) (forbidden qs) permits forbids;
      erring = λ x. (errs_too world ps qs m x, errs_too world qs ps (IsPermutation-sym ps qs m) x);
    }

-- ---- without one that is not satisfied

passed_over : {A : Type 0} (a b : Bool) (x : A) (rest : List A) → b ≡ false → (if a && b then x ∷ rest else rest) ≡ rest
passed_over true true x rest k = absurd (true≢false k)
passed_over true false x rest k = refl
passed_over false b x rest k = refl

module _ (world : World) (p : LinkedPolicy) (never : says_true (answer world p).test ≡ false) (after : List LinkedPolicy) where
  same_without : (e : Effect) (before : List LinkedPolicy)
      → satisfied e (answers world (before ++ p ∷ after)) ≡ satisfied e (answers world (before ++ after))
  same_without e [] =
      passed_over (same_effect e p.effect) (says_true (answer world p).test) p.name (satisfied e (answers world after)) never
  same_without e (q ∷ before) =
      ap (λ (rest : List Text). if is_satisfied world e q then q.name ∷ rest else rest) (same_without e before)

pub impossible_decides_nothing : ImpossibleDecidesNothing
impossible_decides_nothing b p impossible closed slots world conforming before after =
    let never =
    never_says (eval (linked_world world p) (condition_of p.template))
    (impossible closed slots (linked_world world p) (linked_conforms b world p conforming)) in
    let permits = same_without world p never after Permit before in
    let forbids = same_without world p never after Forbid before in
    record {
      decision = λ i. decision (permits i) (forbids i);
      determining = λ i. determining (permits i) (forbids i);
    }

-- ---- by reports

pub is_unneeded : (b : Basis) (r : PolicyReport) → IsRight b r → IsUnneeded b r
is_unneeded b r right impossible p same =
    impossible_decides_nothing b p (subst (IsNeverTrue b) same (right.never_true impossible))

pub all_unneeded : (b : Basis) (rs : List PolicyReport) → All (IsRight b) rs → All (IsUnneeded b) rs
all_unneeded b rs right = All-weaker (IsRight b) (IsUnneeded b) (is_unneeded b) rs right

pub all_unneeded_in_slices : (b : Basis) (n : ℕ) (rs : List SliceReport) → All (IsRightForSlices b n) rs
    → All (λ r. IsUnneeded b r.report) rs
all_unneeded_in_slices b n rs right =
    All-weaker (IsRightForSlices b n) (λ r. IsUnneeded b r.report) (λ r h. is_unneeded b r.report h.right) rs right
