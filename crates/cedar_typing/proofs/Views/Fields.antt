-- A record of the program as a tree.
use Rattle.std.proofs.Common.{◌≡◌, ap, ◌∙◌, rules}
use Rattle.std.specs.BTreeMap.{BTreeMap}
use Rattle.std.specs.declared.alloc.Global.{Global}
use Rattle.std.specs.declared.rc.RcStr.{RcStr}
use Rattle.cedar_types.specs.declared.base.expressions.Expr.{Expr}
use Rattle.cedar_types.specs.declared.base.expressions.ExprKind.{the_lemmas}
use Rattle.cedar_types.specs.declared.base.expressions.ExprKind.TheVariants as K
use Rattle.cedar_types.specs.Expressions.Tree.{record_of}
use Rattle.cedar_types.specs.Expressions.View.{kind_written, fields_written, written}
use Rattle.cedar_typing.specs.Views.{at}

written_by_kind : (e : Expr (Unit {0})) → written e ≡ kind_written e.loc e.kind
written_by_kind e = search (rules, the_lemmas)

kind_record : (m : BTreeMap (RcStr Global) (Expr (Unit {0}))) (e : Expr (Unit {0}))
    → kind_written e.loc (K.Record m) ≡ record_of (at e.loc) (fields_written m.entries)
kind_record m e = search (rules, the_lemmas)

pub written_record : (e : Expr (Unit {0})) (m : BTreeMap (RcStr Global) (Expr (Unit {0}))) → e.kind ≡ K.Record m
    → written e ≡ record_of (at e.loc) (fields_written m.entries)
written_record e m h = written_by_kind e ∙ ap (kind_written e.loc) h ∙ kind_record m e
