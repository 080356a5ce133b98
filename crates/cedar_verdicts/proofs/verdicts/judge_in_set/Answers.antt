use Rattle.std.proofs.Common.{◌∙◌, ◌&&◌, is_some, length, sym, subst, arith}
use Rattle.cedar_types.specs.Templates.{template_of}
use Rattle.cedar_typechecker.specs.Levels.Required.{IsRequiredLevel}
use Rattle.cedar_verdicts.specs.Verdicts.{basis_of}
use Rattle.cedar_verdicts.proofs.Decided.{no_cause, none_more, passes_without, promised_still, some_cause, twice_not}
use Rattle.cedar_verdicts.proofs.Warned.{told_by, told_of}
use Rattle.cedar_verdicts.proofs.verdicts.judge_in_set.Goals as goal

pub returns-clause-right : goal.returns-clause-right
returns-clause-right g c =
    let b = basis_of g.C.ArgumentCheck.refusal c.args.settings.now in
    let t = template_of c.args.policy.now in
    let found = c.in_ok-found.ensures in
    let said = c.in_ok-requirement.ensures in
    let exact = found.exact in
    record {
      promised =
          promised_still b c.args.settings.now.level t c.in_ok-found.found.is_accepted c.is_none.result found.promised;
      required = λ h. subst (IsRequiredLevel b t) (sym (said.level h)) (found.level (said.sound h));
      only = λ h.
          passes_without b c.args.settings.now.level t exact.0 c.in_ok-found.found.is_accepted exact.1 exact.2.accepted
          (said.only h);
      never_true = λ sound h.
          found.never_true sound
          (told_by exact.0 c.in_ok-found.found _ _ c.in_ok-slips.slips.items exact.2 c.in_ok-slips.ensures
          (c.in_ok-warnings.ensures.only h));
    }

pub returns-clause-whole : goal.returns-clause-whole
returns-clause-whole g c =
    let found = c.in_ok-found.ensures.exact in
    let new = twice_not (is_some c.args.same_id) c.is_none.result c.is_none.ensures in
    let causes = c.in_ok-causes.ensures in
    record {
      survey = found.0;
      surveyed = found.1;
      accepted = λ i. found.2.accepted i && new i;
      refused = λ h.
          c.in_ok-errors.ensures.some (omega arith)
          (some_cause c.in_ok-found.found.is_accepted c.is_none.result (is_some c.args.same_id)
          (length c.in_ok-causes.causes.items) c.is_none.ensures causes.refused causes.repeated h);
      clean = λ h.
          c.in_ok-errors.ensures.none
          (no_cause c.in_ok-found.found.is_accepted c.is_none.result (is_some c.args.same_id)
          (length c.in_ok-causes.causes.items) new causes.none h);
      said = λ nothing sound. c.in_ok-requirement.ensures.said sound (found.2.accepted ∙ nothing);
      impossible = λ is known all.
          c.in_ok-warnings.ensures.told (none_more _ _ _ c.saturating_add-others.ensures all)
          (told_of found.0 c.in_ok-found.found _ _ c.in_ok-slips.slips.items found.2 c.in_ok-slips.ensures is known);
    }
