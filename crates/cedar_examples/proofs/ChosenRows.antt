-- The query of a set chooses the rows whose requests an authoriser allows.
use Rattle.std.proofs.Common.{◌≡◌, ◌↔◌, inl, inr, Bool, true, false, ◌&&◌, ◌||◌, not, List, [], ◌∷◌, Option, Some, None, if◌then◌else◌, refl, sym, ap, subst, ◌∙◌}
use Rattle.cedar_types.specs.declared.base.templates.effects.Effect.{Effect}
use Rattle.cedar_types.specs.declared.base.templates.effects.Effect.TheVariants.{Permit, Forbid}
use Rattle.cedar_types.specs.Names.{Text}
use Rattle.cedar_types.specs.Environments.RequestEnvs.{Env}
use Rattle.cedar_types.specs.Values.{VBool}
use Rattle.cedar_typing.specs.Evaluation.Conformance.{IsOneOf}
use Rattle.cedar_typing.specs.Evaluation.Outcomes.{test_of}
use Rattle.cedar_typing.specs.Evaluation.World.{World, Outcome, Gives, Fails}
use Rattle.cedar_typing.specs.Soundness.{IsTrueOutcome, IsWorldOf}
use Rattle.cedar_typing.specs.Soundness.Policies.{Basis, setting_on}
use Rattle.cedar_where.specs.Meaning.{IsOutcome}
use Rattle.cedar_where.specs.Rows.{IsRowOf}
use Rattle.cedar_where.specs.Sets.{IsTruthOrNull, AreTruthsOrNull, is_true, some_is_true, JoinsTheSet}
use Rattle.cedar_where.specs.Sql.{Cell, Null, Truth, Data, Sql, value}
use Rattle.cedar_host.specs.Responses.{LinkedPolicy, same_effect, linked_world, answers, says_true, satisfied, Decision, allow, deny, decision, response}
use Rattle.cedar_examples.specs.ChosenRows.{ClausedPolicy, policies_in, with_clause, clauses_of, outcome_of, TellsTheOutcome, is_allow}
use Rattle.cedar_examples.specs.ChosenRows.{QueryTellsTheDecision, IsReady, FitEach, ChosenRowsAreAllowed}

-- ---- the clauses of an effect tell whether a policy of the effect is satisfied

abbrev has_some : List Text → Bool
has_some [] = false
has_some (x ∷ xs) = true

-- the clauses are truth values or NULL, and one is TRUE exactly if there are names
abbrev TellsSome : Data → List Sql → List Text → Type 0
TellsSome d cs names = AreTruthsOrNull d cs × (some_is_true d cs ≡ has_some names)

abbrev named_if : Bool → Text → List Text → List Text
named_if b name names = if b then name ∷ names else names

not_true : (o : Outcome) → (IsTrueOutcome o → ⊥) → says_true (test_of o) ≡ false
not_true (Gives (VBool true)) h = absurd (h refl)
not_true (Gives v) h = refl
not_true (Fails f) h = refl

module _ (d : Data) (name : Text) where
  one_truth : (b : Bool) (c : Sql) (cs : List Sql) (names : List Text) → value d c ≡ Truth b → TellsSome d cs names
      → TellsSome d (c ∷ cs) (named_if b name names)
  one_truth true c cs names e h =
      ((subst IsTruthOrNull (sym e) tt, h.0), ap (λ z. is_true z || some_is_true d cs) e)
  one_truth false c cs names e h =
      ((subst IsTruthOrNull (sym e) tt, h.0), ap (λ z. is_true z || some_is_true d cs) e ∙ h.1)

  one_null : (c : Sql) (cs : List Sql) (names : List Text) → value d c ≡ Null → TellsSome d cs names
      → TellsSome d (c ∷ cs) names
  one_null c cs names e h =
      ((subst IsTruthOrNull (sym e) tt, h.0), ap (λ z. is_true z || some_is_true d cs) e ∙ h.1)

  one_clause : (o : Outcome) (c : Sql) (cs : List Sql) (names : List Text) → IsOutcome o (value d c) → TellsSome d cs names
      → TellsSome d (c ∷ cs) (named_if (says_true (test_of o)) name names)
  one_clause (Gives (VBool b)) c cs names e h = one_truth b c cs names e h
  one_clause (Gives v) c cs names e h = absurd e
  one_clause (Fails f) c cs names e h = one_null c cs names e h

  one_policy : (o : Outcome) (c : Option Sql) (cs : List Sql) (names : List Text) → TellsTheOutcome d c o → TellsSome d cs names
      → TellsSome d (with_clause c cs) (named_if (says_true (test_of o)) name names)
  one_policy o None cs names t h =
      subst (λ b. TellsSome d cs (named_if b name names)) (sym (not_true o t)) h
  one_policy o (Some c) cs names t h = one_clause o c cs names t h

  -- a policy of the effect, or of the other
  of_effect : (s : Bool) (o : Outcome) (c : Option Sql) (cs : List Sql) (names : List Text) → TellsTheOutcome d c o
      → TellsSome d cs names
      → TellsSome d (if s then with_clause c cs else cs) (named_if (s && says_true (test_of o)) name names)
  of_effect true o c cs names t h = one_policy o c cs names t h
  of_effect false o c cs names t h = h

module _ (world : World) (d : Data) (e : Effect) where
  tells_some : (ps : List ClausedPolicy)
      → ((p : ClausedPolicy) → IsOneOf p ps → TellsTheOutcome d p.clause (outcome_of world p.policy))
      → TellsSome d (clauses_of e ps) (satisfied e (answers world (policies_in ps)))
  tells_some [] t = (tt, refl)
  tells_some (p ∷ ps) t =
      of_effect d p.policy.name (same_effect e p.policy.effect) (outcome_of world p.policy) p.clause (clauses_of e ps)
      (satisfied e (answers world (policies_in ps))) (t p (inl refl)) (tells_some ps (λ q i. t q (inr i)))

-- ---- the decision

allow_is : (ps fs : List Text) → is_allow (decision ps fs) ≡ (has_some ps && not (has_some fs))
allow_is [] fs = refl
allow_is (p ∷ ps) [] = refl
allow_is (p ∷ ps) (f ∷ fs) = refl

pub query_tells_the_decision : QueryTellsTheDecision
query_tells_the_decision world d ps t query joins =
    let permits = tells_some world d Permit ps t in
    let forbids = tells_some world d Forbid ps t in
    let all = answers world (policies_in ps) in
    joins d permits.0 forbids.0
    ∙ (λ i. Truth (permits.1 i && not (forbids.1 i)))
    ∙ ap Truth (sym (allow_is (satisfied Permit all) (satisfied Forbid all)))

-- ---- over each row

module _ (b : Basis) (world : World) (d : Data) (row : IsRowOf world d) (p : LinkedPolicy) where
  row_of_link : IsRowOf (linked_world world p) d
  row_of_link = record {
    entity = row.entity;
    stored = row.stored;
    columns = row.columns;
    tables = row.tables;
    own_id = row.own_id;
    principal = row.principal;
    parameters = row.parameters;
    ancestors = row.ancestors;
  }

  tells : (env : Env) (c : Option Sql) → IsReady b p env c → IsWorldOf (setting_on b p.template.id env) (linked_world world p)
      → TellsTheOutcome d c (outcome_of world p)
  tells env None never fits = never (linked_world world p) fits
  tells env (Some c) ready fits =
      subst (λ o. IsOutcome o (value d c)) (ready.typed (linked_world world p) fits)
      (ready.means (linked_world world p) fits.environment fits.store d row_of_link)

allowed : (q : Cell) (r : Decision) → q ≡ Truth (is_allow r) → (q ≡ Truth true) ↔ (r ≡ allow)
allowed q allow e = (λ f. refl, λ f. e)
allowed q deny e = (λ f. cc, λ f. cc)

pub chosen_rows_are_allowed : ChosenRowsAreAllowed
chosen_rows_are_allowed b ps ready query joins world fits d row =
    allowed (value d query) (response world (policies_in ps)).decision
    (query_tells_the_decision world d ps
    (λ p one. tells b world d row p.policy p.env p.clause (ready p one) (fits p one)) query joins)
