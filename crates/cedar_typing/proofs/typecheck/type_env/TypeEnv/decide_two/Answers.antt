use Rattle.std.proofs.Common.{◌≡◌, [], ◌∷◌, Option, sym, subst, option_map}
use Rattle.std.specs.Prelude.{IfOk}
use Rattle.cedar_types.specs.declared.base.location.Loc.{Loc}
use Rattle.cedar_types.specs.Types.{ty_of}
use Rattle.cedar_types.specs.Expressions.View.{written}
use Rattle.cedar_typing.specs.Capabilities.Priors.{known_in}
use Rattle.cedar_typing.specs.Rules.Numbers.{compare_decides}
use Rattle.cedar_typing.specs.TypedExpr.{place_of}
use Rattle.cedar_typing.specs.Views.{env_at, at, decision_of, form_of_two}
use Rattle.cedar_typing.specs.declared.typecheck.rules.two_operands.TwoOperands.{TwoOperands}
use Rattle.cedar_typing.proofs.Views.Typed.{place_is}
use Rattle.cedar_typing.proofs.typecheck.type_env.TypeEnv.decide_two.Goals as goal

pub returns-in-Comparison : goal.returns-in-Comparison
returns-in-Comparison c =
    let env = env_at c.args.self.now in
    let prior = known_in c.args.prior.now in
    let a = c.args.operands.left.now in
    let b = c.args.operands.right.now in
    let s = option_map ty_of c.args.found.now in
    let t = option_map ty_of c.args.other.now in
    let ByForm : TwoOperands → Type 0 = λ f. IfOk c.decide_comparison.result (λ d. decision_of d
    ≡ (form_of_two env (at c.args.loc) prior (written a) (written b) f).decides (s ∷ t ∷ [])) in
    let ByPlaces : Option Loc → Option Loc → Type 0 = λ l l'. IfOk c.decide_comparison.result (λ d. decision_of d
    ≡ compare_decides env l l' s t) in
    subst ByForm (sym c.in-Comparison.is)
    (subst (λ l. ByPlaces l (place_of (written b))) (sym (place_is a))
    (subst (ByPlaces a.loc) (sym (place_is b)) c.decide_comparison.ensures))
