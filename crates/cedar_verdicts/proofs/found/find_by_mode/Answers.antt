use Rattle.std.proofs.Common.{ℕ, Option, Some, None, sym, subst}
use Rattle.cedar_types.specs.declared.base.types.ValidationMode.{ValidationMode}
use Rattle.cedar_types.specs.Templates.{template_of}
use Rattle.cedar_typechecker.specs.ValidatorViews.{basis_in}
use Rattle.cedar_verdicts.specs.Found.{AreFoundByChecks}
use Rattle.cedar_verdicts.proofs.Decided.{in_partial, with_level, without_level}
use Rattle.cedar_verdicts.proofs.found.find_by_mode.Goals as goal

pub returns-in_default-clause-exact : goal.returns-in_default-clause-exact
returns-in_default-clause-exact g c =
    let meaning = g.C.ArgumentCheck.refusal in
    let s = c.args.settings.now in
    let t = template_of c.args.policy.now in
    let found = c.in_ok-found.found in
    let said = c.in_ok-found.ensures in
    let P : ValidationMode → Type 0 = λ m. AreFoundByChecks (basis_in meaning s.validator.now m) s.level t found in
    subst P (sym (c.sound_mode.ensures.none c.in_default.is))
    (in_partial meaning s.validator.now t s.level said.0 found said.1 said.2)

pub returns-in_ok-found-in-None-clause-exact : goal.returns-in_ok-found-in-None-clause-exact
returns-in_ok-found-in-None-clause-exact g c =
    let meaning = g.C.ArgumentCheck.refusal in
    let s = c.args.settings.now in
    let t = template_of c.args.policy.now in
    let found = c.in_ok-found-in-None.found in
    let Q : Option ℕ → Type 0 = λ l. AreFoundByChecks (basis_in meaning s.validator.now s.mode) l t found in
    let R : ValidationMode → Type 0 = λ m. AreFoundByChecks (basis_in meaning s.validator.now m) None t found in
    subst Q (sym c.in-None.is)
    (subst R (sym c.in-Some.ensures.some)
    (without_level meaning s.validator.now t c.in-Some.mode found c.in_ok-found-in-None.ensures.exact))

pub returns-in_ok-found-in-Some-level-clause-exact : goal.returns-in_ok-found-in-Some-level-clause-exact
returns-in_ok-found-in-Some-level-clause-exact g c =
    let meaning = g.C.ArgumentCheck.refusal in
    let s = c.args.settings.now in
    let t = template_of c.args.policy.now in
    let n = c.in-Some-level.steps in
    let found = c.in_ok-found-in-Some-level.found in
    let Q : Option ℕ → Type 0 = λ l. AreFoundByChecks (basis_in meaning s.validator.now s.mode) l t found in
    let R : ValidationMode → Type 0 = λ m. AreFoundByChecks (basis_in meaning s.validator.now m) (Some n) t found in
    subst Q (sym c.in-Some-level.is)
    (subst R (sym c.in-Some.ensures.some)
    (with_level meaning s.validator.now t c.in-Some.mode n found c.in_ok-found-in-Some-level.ensures.exact))
