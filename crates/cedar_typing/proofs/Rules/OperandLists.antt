-- Operands one after another: those typed so far, and those that are left.
use Rattle.std.proofs.Common.{◌≡◌, ℕ, not, true≢false, Bool, true, false, ◌&&◌, List, [], ◌∷◌, ◌++◌, map, Option, Some, None, is_some}
use Rattle.std.proofs.Common.{option_map, refl, sym, ◌∙◌, ap, append_assoc, append-nil}
use Rattle.std.proofs.lemmas.Bool.{false≢true}
use Rattle.cedar_types.specs.declared.base.expressions.Expr.{Expr}
use Rattle.cedar_types.specs.Types.{Ty}
use Rattle.cedar_types.specs.Expressions.View.{trees_of, written}
use Rattle.cedar_types.specs.Errors.{Finding}
use Rattle.cedar_typing.specs.Capabilities.{Caps}
use Rattle.cedar_typing.specs.Eager.{Expectation, first_expectation, later_expectations}
use Rattle.cedar_typing.specs.Infer.{infer, infer_all}
use Rattle.cedar_typing.specs.Infer.Eager.{Operands, all_typed, cut_after, OperandsAndErrors, expect_operand, with_operand, infer_rest}
use Rattle.cedar_typing.specs.Infer.Parts.{Part, AnswerAndErrors, PartAndErrors}
use Rattle.cedar_typing.specs.Rules.Calls.{expected_arguments}
use Rattle.cedar_typing.specs.Setting.{Setting}
use Rattle.cedar_typing.specs.TypeEnv.{TypeEnv}
use Rattle.cedar_typing.specs.TypedExpr.{Source, TypedTree, place_of}
use Rattle.cedar_typing.specs.Views.{first_wanted, later_types, part_of, with_element}
use Rattle.cedar_typing.specs.declared.typecheck.answer.Part.{Part as TypedPart}
use Rattle.cedar_typing.proofs.Views.Typed.{place_is}

-- ---- operands so far, before those that are left

abbrev prepended : Bool → List TypedTree → Operands → Operands
prepended succeeded xs (all_typed later ys) = all_typed (later && succeeded) (xs ++ ys)
prepended succeeded xs (cut_after ys) = cut_after (xs ++ ys)

abbrev pub resumed : Operands → OperandsAndErrors → OperandsAndErrors
resumed (all_typed succeeded xs) o = (prepended succeeded xs o.0, o.1)
resumed (cut_after xs) o = (cut_after xs, o.1)

and_true : (b : Bool) → (b && true) ≡ b
and_true true = refl
and_true false = refl

and_joins : (a b c : Bool) → (a && (b && c)) ≡ ((a && b) && c)
and_joins true b c = refl
and_joins false b c = refl

none_before : (r : Operands) → prepended true [] r ≡ r
none_before (all_typed later ys) = ap (λ b. all_typed b ys) (and_true later)
none_before (cut_after ys) = refl

-- at first no operand is typed
pub resumed_first : (o : OperandsAndErrors) → resumed (all_typed true []) o ≡ o
resumed_first o = ap (λ r. (r, o.1)) (none_before o.0)

-- at the end no operand is left
pub resumed_last : (r : Operands) (es : List Finding) → ◌≡◌ {A = OperandsAndErrors} (resumed r (all_typed true [], es)) (r, es)
resumed_last (all_typed succeeded xs) es = ap (λ ys. (all_typed succeeded ys, es)) (append-nil xs)
resumed_last (cut_after xs) es = refl

one_typed : (succeeded : Bool) (xs : List TypedTree) (p : Part) (r : Operands)
    → prepended (p.succeeded && succeeded) (xs ++ p.tree ∷ []) r ≡ prepended succeeded xs (with_operand p r)
one_typed succeeded xs p (all_typed later ys) =
    λ i. all_typed (and_joins later p.succeeded succeeded i) (append_assoc xs (p.tree ∷ []) ys i)
one_typed succeeded xs p (cut_after ys) = ap cut_after (append_assoc xs (p.tree ∷ []) ys)

-- one more operand, if typing goes on
resumed_next : (b : Bool) (r : Operands) (g : Option Part) (es : List Finding)
    (rest : List Finding → OperandsAndErrors) → (not (is_some g) && not b) ≡ false
    → resumed (with_element r g) (rest es) ≡ resumed r (infer_rest b g es rest)
resumed_next b (all_typed succeeded xs) (Some p) es rest on = ap (λ z. (z, (rest es).1)) (one_typed succeeded xs p (rest es).0)
resumed_next true (all_typed succeeded xs) None es rest on = ap (λ ys. (cut_after ys, (rest es).1)) (sym (append-nil xs))
resumed_next b (cut_after xs) (Some p) es rest on = refl
resumed_next true (cut_after xs) None es rest on = refl
resumed_next false r None es rest on = absurd (true≢false on)

-- the last operand, if typing ends
resumed_end : (b : Bool) (r : Operands) (g : Option Part) (es : List Finding)
    (rest : List Finding → OperandsAndErrors) → (not (is_some g) && not b) ≡ true
    → ◌≡◌ {A = OperandsAndErrors} (with_element r g, es) (resumed r (infer_rest b g es rest))
resumed_end b r (Some p) es rest off = absurd (false≢true off)
resumed_end true r None es rest off = absurd (false≢true off)
resumed_end false (all_typed succeeded xs) None es rest off = ap (λ ys. (cut_after ys, es)) (sym (append-nil xs))
resumed_end false (cut_after xs) None es rest off = refl

-- ---- the expectation of the first operand, and those of the operands after it

first_is : (ts : List Ty) (a : Source) (bs : List Source) → first_expectation (expected_arguments ts (a ∷ bs)) ≡ first_wanted ts
first_is [] a bs = refl
first_is (t ∷ []) a bs = refl
first_is (t ∷ u ∷ ts) a bs = refl

later_are : (ts : List Ty) (a : Source) (bs : List Source) → later_expectations (expected_arguments ts (a ∷ bs))
    ≡ expected_arguments (later_types ts) bs
later_are [] a bs = refl
later_are (t ∷ []) a bs = refl
later_are (t ∷ u ∷ ts) a bs = refl

-- ---- operands of the program

abbrev Untyped : Type 0
Untyped = Expr (Unit {0})

abbrev pub all_inferred : Setting → Bool → List Ty → Caps → ℕ → List Untyped → List Finding → OperandsAndErrors
all_inferred s b ts prior d xs es =
    infer_all s b (expected_arguments ts (map written xs)) (trees_of (map written xs)) prior d es

-- the part of an operand, from its inference and its expectation
pub operand_found : (env : TypeEnv) (x : Untyped) {q q' : Expectation} {o o' : AnswerAndErrors} {found : PartAndErrors}
    → q' ≡ q → o ≡ o' → expect_operand env q' x.loc o' ≡ found → expect_operand env q (place_of (written x)) o ≡ found
operand_found env x wanted inferred expected = (λ i. expect_operand env (sym wanted i) (place_is x i) (inferred i)) ∙ expected

-- the result of the first operand and of the others, from its expectation and their inference
abbrev by_first : Setting → Bool → Untyped → Caps → ℕ → List Finding → Expectation → (List Finding → OperandsAndErrors) → OperandsAndErrors
by_first s b x prior d es q rest =
    infer_rest b (expect_operand s.env q (place_of (written x)) (infer s (written x) prior d es)).0
    (expect_operand s.env q (place_of (written x)) (infer s (written x) prior d es)).1 rest

-- the result of all operands, from that of the first
by_the_first : (s : Setting) (b : Bool) (ts : List Ty) (prior : Caps) (d : ℕ) (x : Untyped) (xs : List Untyped)
    (es es' : List Finding) (g : Option Part)
    → ◌≡◌ {A = PartAndErrors} (expect_operand s.env (first_wanted ts) (place_of (written x)) (infer s (written x) prior d es)) (g, es')
    → all_inferred s b ts prior d (x ∷ xs) es ≡ infer_rest b g es' (all_inferred s b (later_types ts) prior d xs)
by_the_first s b ts prior d x xs es es' g typed =
    ap (λ q. by_first s b x prior d es q
    (infer_all s b (later_expectations (expected_arguments ts (written x ∷ map written xs)))
    (trees_of (map written xs)) prior d)) (first_is ts (written x) (map written xs))
    ∙ ap (λ qs. by_first s b x prior d es (first_wanted ts) (infer_all s b qs (trees_of (map written xs)) prior d))
    (later_are ts (written x) (map written xs))
    ∙ ap (λ (o : PartAndErrors). infer_rest b o.0 o.1 (all_inferred s b (later_types ts) prior d xs)) typed

-- one more operand is typed
pub one_operand : (s : Setting) (b : Bool) (ts us : List Ty) (prior : Caps) (d : ℕ) (r r' : Operands) (x : Untyped)
    (xs left : List Untyped) (es es' : List Finding) (g : Option Part) {q : Expectation} {o : AnswerAndErrors} → left ≡ x ∷ xs
    → q ≡ first_wanted ts → infer s (written x) prior d es ≡ o → ◌≡◌ {A = PartAndErrors} (expect_operand s.env q x.loc o) (g, es')
    → (not (is_some g) && not b) ≡ false → r' ≡ with_element r g → us ≡ later_types ts
    → resumed r' (all_inferred s b us prior d xs es') ≡ resumed r (all_inferred s b ts prior d left es)
one_operand s b ts us prior d r r' x xs left es es' g are wanted inferred expected on more later =
    (λ i. resumed (more i) (all_inferred s b (later i) prior d xs es'))
    ∙ resumed_next b r g es' (all_inferred s b (later_types ts) prior d xs) on
    ∙ ap (resumed r) (sym (by_the_first s b ts prior d x xs es es' g (operand_found s.env x wanted inferred expected)))
    ∙ ap (λ ys. resumed r (all_inferred s b ts prior d ys es)) (sym are)

-- none is typed after one that is too deep
pub last_operand : (s : Setting) (b : Bool) (ts : List Ty) (prior : Caps) (d : ℕ) (r r' : Operands) (x : Untyped)
    (xs left : List Untyped) (es es' : List Finding) (g : Option Part) {q : Expectation} {o : AnswerAndErrors} → left ≡ x ∷ xs
    → q ≡ first_wanted ts → infer s (written x) prior d es ≡ o → ◌≡◌ {A = PartAndErrors} (expect_operand s.env q x.loc o) (g, es')
    → (not (is_some g) && not b) ≡ true → r' ≡ with_element r g
    → resumed r (all_inferred s b ts prior d left es) ≡ (r', es')
last_operand s b ts prior d r r' x xs left es es' g are wanted inferred expected off more =
    ap (λ ys. resumed r (all_inferred s b ts prior d ys es)) are
    ∙ ap (resumed r) (by_the_first s b ts prior d x xs es es' g (operand_found s.env x wanted inferred expected))
    ∙ sym (resumed_end b r g es' (all_inferred s b (later_types ts) prior d xs) off)
    ∙ ap (λ z. (z, es')) (sym more)

-- whether typing goes on, in the program
pub goes_further : (none b : Bool) (o : Option TypedPart) → is_some o ≡ not none → (none && not b) ≡ false
    → (not (is_some (option_map part_of o)) && not b) ≡ false
goes_further none b (Some p) e h = refl
goes_further true b None e h = h
goes_further false b None e h = cc

pub goes_no_further : (none b : Bool) (o : Option TypedPart) → is_some o ≡ not none → (none && not b) ≡ true
    → (not (is_some (option_map part_of o)) && not b) ≡ true
goes_no_further true b (Some p) e h = cc
goes_no_further false b (Some p) e h = cc
goes_no_further true b None e h = h
goes_no_further false b None e h = cc
