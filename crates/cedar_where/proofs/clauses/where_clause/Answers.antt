use Rattle.cedar_types.specs.Environments.RequestEnvs.{env_of}
use Rattle.cedar_types.specs.Schemas.Contents.{schema_of}
use Rattle.cedar_typing.specs.TypedExpr.{typed_tree}
use Rattle.cedar_where.proofs.Answered.{means, chooses}
use Rattle.cedar_where.proofs.clauses.where_clause.Goals as goal

pub returns-clause-means : goal.returns-clause-means
returns-clause-means c =
    means (schema_of c.args.schema.now) (env_of c.args.env.now) (typed_tree c.args.condition.now) _
    c.clause_in_env.ensures

pub returns-clause-chosen : goal.returns-clause-chosen
returns-clause-chosen c =
    chooses (schema_of c.args.schema.now) (env_of c.args.env.now) (typed_tree c.args.condition.now) _
    c.clause_in_env.ensures
