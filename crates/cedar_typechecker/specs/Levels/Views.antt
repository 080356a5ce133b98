-- Views of the level pass's values as plain data.
use Rattle.std.specs.Prelude.{List, [], ◌∷◌, Option, Some, None, map, option_map}
use Rattle.std.specs.declared.alloc.Global.{Global}
use Rattle.std.specs.declared.rc.RcStr.{RcStr}
use Rattle.cedar_types.specs.declared.base.errors.validation_errors.ValidationError.{ValidationError}
use Rattle.cedar_types.specs.declared.base.expressions.Expr.{Expr}
use Rattle.cedar_types.specs.declared.base.types.CedarType.{CedarType}
use Rattle.cedar_types.specs.Errors.{Finding, finding_of}
use Rattle.cedar_types.specs.Names.{uid_of}
use Rattle.cedar_types.specs.Schemas.Contents.{schema_of}
use Rattle.cedar_types.specs.Expressions.Tree.{Fields}
use Rattle.cedar_types.specs.Expressions.View.{fields_of}
use Rattle.cedar_typing.specs.TypedExpr.{Mark, typed_tree}
use Rattle.cedar_typechecker.specs.declared.level_validate.bases.Base as kind
use Rattle.cedar_typechecker.specs.declared.level_validate.demands.Demand as found
use Rattle.cedar_typechecker.specs.declared.level_validate.demands.Need as need
use Rattle.cedar_typechecker.specs.declared.level_validate.walk.LevelWalk.{LevelWalk}
use Rattle.cedar_typechecker.specs.Levels.Chains.{Base, an_entity, a_record, neither}
use Rattle.cedar_typechecker.specs.Levels.Demands.{Need, this_level, no_literal, a_rule, Demand, Surroundings}

abbrev pub surroundings_of : LevelWalk → Surroundings
surroundings_of w = record {
  action = option_map (λ u. uid_of u.now) w.action;
  schema = schema_of w.schema.now;
}

abbrev pub need_of : need.Need → Need
need_of (need.TheVariants.Level k) = this_level k
need_of need.TheVariants.NoLiteral = no_literal
need_of need.TheVariants.Rule = a_rule

abbrev pub demand_of : found.Demand → Demand
demand_of d = record {
  place = d.loc;
  need = need_of d.need;
  hidden_below = d.hidden_below;
}

abbrev pub demands_of : List found.Demand → List Demand
demands_of ds = map demand_of ds

abbrev pub findings : List ValidationError → List Finding
findings es = map finding_of es

abbrev pub findings_if_any : Option ValidationError → List Finding
findings_if_any None = []
findings_if_any (Some e) = finding_of e ∷ []

-- the fields of a typed record literal
abbrev pub typed_fields : List (RcStr Global × Expr (Option CedarType)) → Fields Mark
typed_fields es = fields_of (map (λ e. (e.0, typed_tree e.1)) es)

abbrev pub base_seen : kind.Base → Base
base_seen kind.Base.Entity = an_entity
base_seen kind.Base.Record = a_record
base_seen kind.Base.Other = neither
