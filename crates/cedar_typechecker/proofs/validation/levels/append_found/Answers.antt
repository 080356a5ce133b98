use Rattle.std.proofs.Common.{◌∙◌, ◌++◌, ap, subst, append_assoc}
use Rattle.std.specs.BTreeMap.{keys}
use Rattle.cedar_typechecker.specs.Levels.Outcome.{AreApart}
use Rattle.cedar_typechecker.specs.Levels.Views.{findings}
use Rattle.cedar_typechecker.proofs.validation.levels.append_found.Goals as goal

pub returns : goal.returns
returns c =
    let types = c.into_errors.ensures.errors in
    let levels = findings c.in_ok-level_errors.level_errors.keys in
    let before = findings c.args.found.now.items in
    let own = findings (keys c.into_errors.result) in
    record {
      level_errors = levels;
      added = c.in_ok-append.ensures.all
          ∙ (ap (λ es. es ++ levels) c.in_ok-append_keys.ensures.all
          ∙ (append_assoc before own levels ∙ ap (λ es. before ++ (es ++ levels)) types));
      types_once = subst AreApart types c.in_ok-append_keys.ensures.once;
      levels = c.in_ok-level_errors.ensures;
      levels_once = c.in_ok-append.ensures.once;
    }
