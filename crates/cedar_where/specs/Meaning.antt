-- The promise of a where-clause.
use Rattle.std.specs.Prelude.{◌≡◌, true, ◌↔◌}
use Rattle.cedar_types.specs.Environments.RequestEnvs.{Env}
use Rattle.cedar_types.specs.Schemas.{Schema}
use Rattle.cedar_types.specs.Values.{Value, VBool, VLong, VString, VEntity, VSet, VRecord, VExtension}
use Rattle.cedar_types.specs.Values.Stores.{ConformingStore}
use Rattle.cedar_typing.specs.Evaluation.Conformance.{Fits}
use Rattle.cedar_typing.specs.Evaluation.Eval.{eval}
use Rattle.cedar_typing.specs.Evaluation.World.{World, Outcome, Gives, Fails}
use Rattle.cedar_typing.specs.Soundness.{IsTrueOutcome}
use Rattle.cedar_typing.specs.TypedExpr.{TypedTree}
use Rattle.cedar_where.specs.Rows.{IsRowOf}
use Rattle.cedar_where.specs.Sql.{Cell, Null, Truth, Data, Sql, value}

-- the cell is the truth value, and no other value has a cell here
abbrev pub IsTruthOf : Value → Cell → Type 0
IsTruthOf (VBool b) c = c ≡ Truth b
IsTruthOf (VLong n) c = ⊥
IsTruthOf (VString t) c = ⊥
IsTruthOf (VEntity u) c = ⊥
IsTruthOf (VSet vs) c = ⊥
IsTruthOf (VRecord es) c = ⊥
IsTruthOf (VExtension n t) c = ⊥

-- TRUE for true, FALSE for false, and NULL if evaluation fails
abbrev pub IsOutcome : Outcome → Cell → Type 0
IsOutcome (Gives v) c = IsTruthOf v c
IsOutcome (Fails f) c = c ≡ Null

-- a property of each request of the environment, over each store that conforms to the schema, and each row that holds the
-- request's resource
abbrev pub OverRows : Schema → Env → (World → Data → Type 0) → Type 0
OverRows s env P =
    (world : World) → Fits env world.request world.slots → ConformingStore s world.store
    → (d : Data) → IsRowOf world d → P world d

-- a clause is TRUE, FALSE or NULL over the row as the condition is true, false or fails
abbrev pub MeansTheCondition : Schema → Env → TypedTree → Sql → Type 0
MeansTheCondition s env e sql = OverRows s env (λ world d. IsOutcome (eval world e) (value d sql))

-- a row is chosen exactly if the condition is true
abbrev pub ChoosesTheTrue : Schema → Env → TypedTree → Sql → Type 0
ChoosesTheTrue s env e sql =
    OverRows s env (λ world d. (value d sql ≡ Truth true) ↔ IsTrueOutcome (eval world e))
