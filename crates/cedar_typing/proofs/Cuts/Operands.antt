-- Operands, one after another, are cut if one that is visited is cut.
use Rattle.std.proofs.Common.{◌≡◌, Bool, true, false, List, [], Option, Some, None, refl, sym, subst}
use Rattle.cedar_types.specs.declared.base.location.Loc.{Loc}
use Rattle.cedar_types.specs.Types.{Ty}
use Rattle.cedar_types.specs.Errors.{Finding}
use Rattle.cedar_typing.specs.Capabilities.{Caps}
use Rattle.cedar_typing.specs.Eager.{Expectation, Form, first_expectation, later_expectations}
use Rattle.cedar_typing.specs.Infer.Eager.{Operands, OperandsAndErrors, infer_none}
use Rattle.cedar_typing.specs.Infer.Parts.{AnswerAndErrors, Part}
use Rattle.cedar_typing.specs.Judgments.{Judgment, PartResult, accepted, refused, missing}
use Rattle.cedar_typing.specs.Rules.Laws.{IsPassed, in_any_case, not_cut}
use Rattle.cedar_typing.specs.Rules.Eager.{Judgments, no_operands, ExpectedOperand, AfterCut, not_visited, all_given, also_cut, broken_here}
use Rattle.cedar_typing.specs.Rules.Eager.{broken_later, one_more, operand_cut, one_operand_rules, two_operand_rules}
use Rattle.cedar_typing.specs.TypeEnv.{TypeEnv}
use Rattle.cedar_typing.specs.TypedExpr.{TypedTree, annotation}
use Rattle.cedar_typing.specs.TypeTests.{accepts}
use Rattle.cedar_typing.proofs.Agreement.Eager.{OperandsAnswer, are_given, one_is_cut as one_breaks, AllAgree, none_agrees}
use Rattle.cedar_typing.proofs.Agreement.Parts.{Agrees, PartAnswer, is_given, is_cut, part_found}

-- an operand that is not cut, whatever its expectation
record Passes (env : TypeEnv) (q : Expectation) (l : Option Loc) (J : Judgment) : Type 0 where
  succeeded : Bool
  capabilities : Caps
  copy : TypedTree
  errors : List Finding
  given : ExpectedOperand env q l J succeeded capabilities copy errors

module _ (env : TypeEnv) (l : Option Loc) (J : Judgment) where
  by_acceptance : (ts : List Ty) (s : Bool) (c : Caps) (x : TypedTree) (es : List Finding) (t : Ty) (b : Bool)
      → PartResult J s c x es → annotation x ≡ Some t → accepts ts t ≡ b → Passes env (Some ts) l J
  by_acceptance ts s c x es t true p e h = record { succeeded = s; capabilities = c; copy = x; errors = es; given = accepted t p e h }
  by_acceptance ts s c x es t false p e h = record { succeeded = _; capabilities = _; copy = _; errors = _; given = refused t p e h }

  by_annotation : (ts : List Ty) (s : Bool) (c : Caps) (x : TypedTree) (es : List Finding) (o : Option Ty)
      → PartResult J s c x es → annotation x ≡ o → Passes env (Some ts) l J
  by_annotation ts s c x es None p e = record { succeeded = _; capabilities = _; copy = _; errors = _; given = missing p e }
  by_annotation ts s c x es (Some t) p e = by_acceptance ts s c x es t (accepts ts t) p e refl

  passes : (q : Expectation) (s : Bool) (c : Caps) (x : TypedTree) (es : List Finding) → PartResult J s c x es → Passes env q l J
  passes None s c x es p = record { succeeded = s; capabilities = c; copy = x; errors = es; given = p }
  passes (Some ts) s c x es p = by_annotation ts s c x es (annotation x) p refl

  -- an operand that has a result is passed
  passed_part : (q : Expectation) (b : Bool) (s : Bool) (c : Caps) (x : TypedTree) (es : List Finding)
      → ExpectedOperand env q l J s c x es → IsPassed b J
  passed_part None b s c x es p = not_cut p
  passed_part (Some ts) b s c x es (accepted t p e h) = not_cut p
  passed_part (Some ts) b s c x es (refused t p e h) = not_cut p
  passed_part (Some ts) b s c x es (missing p e) = not_cut p

-- some operand is cut
abbrev pub IsBroken : Judgments → Type 0
IsBroken Js = (xs : List TypedTree) × (es : List Finding) × Js.break xs es

module _ (env : TypeEnv) (goes_on : Bool) (q : Expectation) (l : Option Loc) (J : Judgment) (Js : Judgments) where
  abbrev More : Judgments
  More = one_more env goes_on q l J Js

  -- P holds if it follows from the cut of this operand, and from that of a later one
  pub one_is_cut : (P : Type 0) → ((es : List Finding) → J.cuts es → P) → (IsPassed goes_on J → IsBroken Js → P)
      → (xs : List TypedTree) (es : List Finding) → More.break xs es → P
  one_is_cut P here later xs es (broken_here {es = fs} h k) = here fs h
  one_is_cut P here later xs es (broken_later {succeeded = s} {c = c} {x = x} {xs = ys} {es = es'} {es' = fs} p b) =
      later (passed_part env l J q goes_on s c x es' p) (ys, fs, b)

  module _ (rest : List Finding → OperandsAndErrors) (others : AllAgree rest Js) where
    left_by : (r : Operands) (added : List Finding) → OperandsAnswer Js r added → AfterCut Js true added
    left_by r added (are_given h) = all_given h
    left_by r added (one_breaks b) = also_cut b

    -- the result of the operands after one that is cut
    after_cut : (b : Bool) → (es : List Finding) × AfterCut Js b es
    after_cut false = ([], not_visited)
    after_cut true = let r = others.found [] in (r.added, left_by r.results r.added r.rules)

    pub this_is_cut : (es : List Finding) → J.cuts es → IsBroken More
    this_is_cut es h = let r = after_cut goes_on in (_, _, broken_here h r.1)

  module _ (j : List Finding → AnswerAndErrors) (base : Agrees j J) where
    after_part : (s : Bool) (c : Caps) (x : TypedTree) (es : List Finding) → PartResult J s c x es → IsBroken Js → IsBroken More
    after_part s c x es p b = let r = passes env l J q s c x es p in (_, _, broken_later r.given b.2)

    whatever_comes : (g : Option Part) (es : List Finding) → PartAnswer (PartResult J) J.cuts g es → goes_on ≡ true
        → IsBroken Js → IsBroken More
    whatever_comes g es (is_given p) e b = after_part _ _ _ es p b
    whatever_comes g es (is_cut h) e b = (_, _, broken_here h (subst (λ z. AfterCut Js z b.1) (sym e) (also_cut b.2)))

    pub later_is_cut : IsPassed goes_on J → IsBroken Js → IsBroken More
    later_is_cut (not_cut p) b = after_part _ _ _ _ p b
    later_is_cut (in_any_case e) b = let r = part_found J (j []) [] (base.found []) in whatever_comes r.operand r.added r.rules e b

-- ---- forms by the number of their operands

module _ (env : TypeEnv) (f : Form) (l : Option Loc) (J : Judgment) where
  pub operand_deep : (P : Type 0) → ((es : List Finding) → J.cuts es → P) → (es : List Finding) → (one_operand_rules env f l J).cuts es → P
  operand_deep P here es (operand_cut {xs = xs} {es = fs} b) =
      one_is_cut env f.goes_on (first_expectation f.expects) l J no_operands P here (λ p b. absurd b.2) xs fs b

  pub operand_breaks : (es : List Finding) → J.cuts es → (es : List Finding) × (one_operand_rules env f l J).cuts es
  operand_breaks es h =
      let b = this_is_cut env f.goes_on (first_expectation f.expects) l J no_operands infer_none none_agrees es h in
      (_, operand_cut b.2)

module _ (env : TypeEnv) (f : Form) (l l' : Option Loc) (J J' : Judgment) where
  pub operands_deep : (P : Type 0) → ((es : List Finding) → J.cuts es → P)
      → (IsPassed f.goes_on J → (es : List Finding) → J'.cuts es → P) → (es : List Finding)
      → (two_operand_rules env f l l' J J').cuts es → P
  operands_deep P left right es (operand_cut {xs = xs} {es = fs} b) =
      let q = first_expectation (later_expectations f.expects) in
      one_is_cut env f.goes_on (first_expectation f.expects) l J (one_more env f.goes_on q l' J' no_operands) P left
      (λ p b. one_is_cut env f.goes_on q l' J' no_operands P (right p) (λ p b. absurd b.2) b.0 b.1 b.2) xs fs b
