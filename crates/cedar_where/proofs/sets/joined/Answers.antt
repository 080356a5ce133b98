use Rattle.std.proofs.Common.{◌≡◌, map, ap, sym, subst, ◌∙◌}
use Rattle.cedar_where.specs.Sets.{JoinsTheSet, TellsAnyTrue}
use Rattle.cedar_where.specs.Sql.{Sql, sql_not, sql_and}
use Rattle.cedar_where.specs.Views.{sql_of, sql_step}
use Rattle.cedar_where.specs.declared.sql.SqlExpr.{fold-roll-SqlExpr}
use Rattle.cedar_where.specs.declared.sql.SqlExpr.TheOpen as layer
use Rattle.cedar_where.proofs.SetsAgree.{joins_it}
use Rattle.cedar_where.proofs.sets.joined.Goals as goal

pub returns : goal.returns
unfolding Rattle.cedar_where.specs.declared.sql.SqlExpr.TheViews.roll-SqlExpr denote.Hole.Carrier.roll
returns c =
    let permits = map sql_of c.args.permits.items in
    let forbids = map sql_of c.args.forbids.items in
    let permitted = sql_of c.in_ok-permitted.permitted.value in
    let forbidden = sql_of c.in_ok-forbidden.forbidden.value in
    let p : TellsAnyTrue permits permitted =
    subst (TellsAnyTrue permits) (sym (ap sql_of c.in_ok-permitted.ensures.ok)) c.in_ok-any_true.ensures in
    let f : TellsAnyTrue forbids forbidden =
    subst (TellsAnyTrue forbids) (sym (ap sql_of c.in_ok-forbidden.ensures.ok)) c.in_ok-any_true-2.ensures in
    let n : sql_of c.in_ok-not_forbidden.not_forbidden.value ≡ sql_not forbidden =
    ap sql_of c.in_ok-not_forbidden.ensures.ok
    ∙ fold-roll-SqlExpr Sql sql_step (layer.Not c.in_ok-forbidden.forbidden) in
    let q = fold-roll-SqlExpr Sql sql_step
    (layer.And c.in_ok-permitted.permitted c.in_ok-not_forbidden.not_forbidden) in
    subst (JoinsTheSet permits forbids) (sym (q ∙ ap (sql_and permitted) n))
    (joins_it permits forbids permitted forbidden p f)
