-- The promise on a clause, if there is one.
use Rattle.std.proofs.Common.{◌≡◌}
use Rattle.std.specs.Prelude.{IfOk, Result, Ok, Err}
use Rattle.std.specs.declared.alloc.AllocError.{AllocError}
use Rattle.cedar_types.specs.Environments.RequestEnvs.{Env}
use Rattle.cedar_types.specs.Schemas.{Schema}
use Rattle.cedar_typing.specs.TypedExpr.{TypedTree}
use Rattle.cedar_where.specs.Compiled.{clause_at}
use Rattle.cedar_where.specs.Meaning.{MeansTheCondition, ChoosesTheTrue}
use Rattle.cedar_where.specs.Views.{clause_in, sql_of}
use Rattle.cedar_where.specs.declared.refusals.Refusal.{Refusal}
use Rattle.cedar_where.specs.declared.sql.SqlExpr.{SqlExpr}
use Rattle.cedar_where.proofs.ConditionsAgree.{means_it, chooses_it}

module _ (s : Schema) (env : Env) (e : TypedTree) where
  pub means : (r : Result (Result SqlExpr Refusal) AllocError) → IfOk r (λ c. clause_at s env e ≡ clause_in c)
      → IfOk r (λ c. IfOk c (λ sql. MeansTheCondition s env e (sql_of sql)))
  means (Ok (Ok sql)) h = means_it s env e (sql_of sql) h
  means (Ok (Err r)) h = tt
  means (Err r) h = tt

  pub chooses : (r : Result (Result SqlExpr Refusal) AllocError) → IfOk r (λ c. clause_at s env e ≡ clause_in c)
      → IfOk r (λ c. IfOk c (λ sql. ChoosesTheTrue s env e (sql_of sql)))
  chooses (Ok (Ok sql)) h = chooses_it s env e (sql_of sql) (means_it s env e (sql_of sql) h)
  chooses (Ok (Err r)) h = tt
  chooses (Err r) h = tt
