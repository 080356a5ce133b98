-- Clauses of conditions: each means its condition.
use Rattle.std.proofs.Common.{◌≡◌, Bool, true, ◌↔◌, [], Option, Some, None, if◌then◌else◌, refl, sym, ap, subst}
use Rattle.cedar_types.specs.declared.base.expressions.operators.Var.{Var}
use Rattle.cedar_types.specs.Environments.{DeclaredEnv}
use Rattle.cedar_types.specs.Environments.RequestEnvs.{Env, Declared, Undeclared}
use Rattle.cedar_types.specs.Expressions.Tree.{bool, long, string, entity, lit, var, slot, unknown, if_then_else, and, or, unary, binary}
use Rattle.cedar_types.specs.Expressions.Tree.{call, get_attr, has_attr, ext_has_attr, like, is_type, set_of, record_of}
use Rattle.cedar_types.specs.Names.{Uid}
use Rattle.cedar_types.specs.Schemas.{Schema}
use Rattle.cedar_types.specs.Values.{VBool, VEntity}
use Rattle.cedar_types.specs.Values.Stores.{ConformingStore}
use Rattle.cedar_typing.proofs.Basics.{some_is, none_is}
use Rattle.cedar_typing.specs.Evaluation.Conformance.{FitsRequest}
use Rattle.cedar_typing.specs.Evaluation.Eval.{eval}
use Rattle.cedar_typing.specs.Evaluation.World.{World, Outcome, Gives, Fails}
use Rattle.cedar_typing.specs.Soundness.{IsTrueOutcome}
use Rattle.cedar_typing.specs.TypedExpr.{Mark, TypedTree}
use Rattle.cedar_where.specs.Compiled.{Kind, KBool, KText, KEntity, Term, term, is_bool, entity_term}
use Rattle.cedar_where.specs.Compiled.{variable_term, compiled, clause_of, clause_at}
use Rattle.cedar_where.specs.Meaning.{IsOutcome, MeansTheCondition, ChoosesTheTrue}
use Rattle.cedar_where.specs.Routes.{is_plain}
use Rattle.cedar_where.specs.Rows.{IsRowOf}
use Rattle.cedar_where.specs.Scopes.{scope_at}
use Rattle.cedar_where.specs.Sql.{Cell, Truth, Words, Data, Sql, sql_text, value, uid}
use Rattle.cedar_where.proofs.OperatorsAgree.{and_right, or_right, if_right, unary_right, operands_right, like_right, is_right}
use Rattle.cedar_where.proofs.RoutesAgree.{attribute_right, has_term_right}
use Rattle.cedar_where.proofs.Parts.{there, gone, Agree, OnTerm, IsRight, if_plain}

module _ (s : Schema) (env : DeclaredEnv) (world : World) (fits : FitsRequest env world.request)
    (conforms : ConformingStore s world.store) (d : Data) (row : IsRowOf world d) where
  -- an entity, by its id
  entity_right : (u : Uid) → OnTerm (IsRight d (Gives (VEntity u))) (entity_term u)
  entity_right u =
      if_plain (IsRight d (Gives (VEntity u))) (is_plain u.eid) (term (sql_text u.eid) (KEntity u.entity_type) true)
      (there u.eid, refl, refl)

  variable_right : (x : Var) (m : Mark) → OnTerm (IsRight d (eval world (var m x))) (variable_term (scope_at s env) x)
  variable_right Var.Principal m = (
    there world.request.principal.eid,
    λ i. Gives (VEntity (uid (fits.principal i) world.request.principal.eid)),
    ap Words row.principal,
  )
  variable_right Var.Action m =
      subst (λ u. OnTerm (IsRight d (Gives (VEntity u))) (entity_term env.action)) (sym fits.action)
      (entity_right env.action)
  variable_right Var.Resource m = (
    there world.request.resource.eid,
    λ i. Gives (VEntity (uid (fits.resource i) world.request.resource.eid)),
    ap Words row.own_id,
  )
  variable_right Var.Context m = tt

  part_right : (e : TypedTree) → OnTerm (IsRight d (eval world e)) (compiled (scope_at s env) e)
  part_right (lit m (bool b)) = (there b, refl, refl)
  part_right (lit m (long n)) = (there n, refl, refl)
  part_right (lit m (string t)) =
      if_plain (IsRight d (eval world (lit m (string t)))) (is_plain t) (term (sql_text t) KText true)
      (there t, refl, refl)
  part_right (lit m (entity u)) = entity_right u
  part_right (var m x) = variable_right x m
  part_right (slot m x) = tt
  part_right (unknown m n) = tt
  part_right (if_then_else m a b c) =
      if_right d (compiled (scope_at s env) a) (compiled (scope_at s env) b) (compiled (scope_at s env) c) (eval world a) (eval world b)
      (eval world c) (part_right a) (part_right b) (part_right c)
  part_right (and m a b) =
      and_right d (compiled (scope_at s env) a) (compiled (scope_at s env) b) (eval world a) (eval world b)
      (part_right a) (part_right b)
  part_right (or m a b) =
      or_right d (compiled (scope_at s env) a) (compiled (scope_at s env) b) (eval world a) (eval world b)
      (part_right a) (part_right b)
  part_right (unary m o a) = unary_right d o (compiled (scope_at s env) a) (eval world a) (part_right a)
  part_right (binary m o a b) =
      operands_right d world row.ancestors o a b (compiled (scope_at s env) a) (compiled (scope_at s env) b)
      (part_right a) (part_right b)
  part_right (call m n ts) = tt
  part_right (get_attr m a x) = attribute_right s env world fits conforms d row a x
  part_right (has_attr m a x) = has_term_right s env world fits conforms d row a x []
  part_right (ext_has_attr m a x xs) = has_term_right s env world fits conforms d row a x xs
  part_right (like m a p) = like_right d (compiled (scope_at s env) a) p (eval world a) (part_right a)
  part_right (is_type m a p) = is_right d (compiled (scope_at s env) a) p (eval world a) (part_right a)
  part_right (set_of m ts) = tt
  part_right (record_of m fs) = tt

-- ---- the whole condition

truth_outcome : (r : Bool) (o : Outcome) (c : Cell) → Agree KBool r o c → IsOutcome o c
truth_outcome r o c (there b, p, q) = subst (λ z. IsOutcome z c) (sym p) q
truth_outcome r o c (gone f e, p, q) = subst (λ z. IsOutcome z c) (sym p) q

clause_right : (d : Data) (o : Outcome) (x : Option Term) → OnTerm (IsRight d o) x
    → (sql : Sql) → clause_of x ≡ Some sql → IsOutcome o (value d sql)
clause_right d o None h sql e = absurd (none_is e)
clause_right d o (Some a) h sql e = by a.kind h e
  where
    by : (k : Kind) → Agree k a.is_total o (value d a.sql)
        → (if is_bool k then Some a.sql else None) ≡ Some sql → IsOutcome o (value d sql)
    by KBool g f =
        subst (λ z. IsOutcome o (value d z)) (some_is f) (truth_outcome a.is_total o (value d a.sql) g)
    by k g f = absurd (none_is f)

pub means_it : (s : Schema) (env : Env) (e : TypedTree) (sql : Sql) → clause_at s env e ≡ Some sql
    → MeansTheCondition s env e sql
means_it s (Declared env ps rs) e sql h world fits conforms d row =
    clause_right d (eval world e) (compiled (scope_at s env) e) (part_right s env world fits.0 conforms d row e) sql h
means_it s Undeclared e sql h world fits conforms d row = absurd fits

-- ---- the rows that are chosen

true_outcome : (o : Outcome) (c : Cell) → IsOutcome o c → (c ≡ Truth true) ↔ IsTrueOutcome o
true_outcome (Gives (VBool b)) c h = (λ e. cc, λ e. cc)
true_outcome (Gives v) c h = absurd h
true_outcome (Fails f) c h = (λ e. cc, λ e. absurd e)

pub chooses_it : (s : Schema) (env : Env) (e : TypedTree) (sql : Sql) → MeansTheCondition s env e sql
    → ChoosesTheTrue s env e sql
chooses_it s env e sql h world fits conforms d row =
    true_outcome (eval world e) (value d sql) (h world fits conforms d row)
