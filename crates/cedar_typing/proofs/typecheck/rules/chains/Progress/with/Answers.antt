use Rattle.std.proofs.Common.{◌&&◌, ◌∙◌, not, sym}
use Rattle.cedar_types.specs.Capability.{cap_of, caps_so_far}
use Rattle.cedar_types.specs.Types.{ty_of}
use Rattle.cedar_typing.specs.Rules.Chains.{step_earns}
use Rattle.cedar_typing.specs.Views.{progress_of}
use Rattle.cedar_typing.proofs.Rules.Chains.{earned, is_new, is_there, not_earned, with_step_is}
use Rattle.cedar_typing.proofs.typecheck.rules.chains.Progress.with.Goals as goal

pub returns-then-is_declared-is_true : goal.returns-then-is_declared-is_true
returns-then-is_declared-is_true c a h =
    let u = ty_of c.args.ty.now in
    let q = cap_of c.args.there in
    let old = progress_of c.args.self in
    let new = caps_so_far c.insert.new.self in
    let b = c.is_true_type-is_true.result in
    let both = c.if-is_declared-is_true.true in
    with_step_is old new b u (step_earns u q a)
    (earned old.earned new u q a (h ∙ is_there c.args.is_declared b both)
    (sym c.is_true_type-is_true.ensures ∙ is_new c.args.is_declared b both) c.in_ok-insert.ensures.added)
    c.is_true_type-is_true.ensures

pub returns : goal.returns
returns c a h =
    let u = ty_of c.args.ty.now in
    let q = cap_of c.args.there in
    let old = progress_of c.args.self in
    with_step_is old old.earned c.is_true_type-is_true.result u (step_earns u q a)
    (not_earned old.earned u q a ((λ i. h i && not (sym c.is_true_type-is_true.ensures i)) ∙ c.if-is_declared-is_true.false))
    c.is_true_type-is_true.ensures
