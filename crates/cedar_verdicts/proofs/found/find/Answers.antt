use Rattle.std.proofs.Common.{◌≡◌, ◌∙◌, ◌&&◌, ◌||◌, Bool, List, sym, ap}
use Rattle.std.specs.List.{list_any}
use Rattle.std.proofs.lemmas.List.Folds.{list_any-append}
use Rattle.cedar_types.specs.Errors.{Finding}
use Rattle.cedar_types.specs.Templates.{template_of}
use Rattle.cedar_extensions.specs.Calls.{unread_in}
use Rattle.cedar_host.specs.Found.{listed}
use Rattle.cedar_verdicts.specs.Found.{AreAdded, HaveSameMembers}
use Rattle.cedar_verdicts.specs.Verdicts.{basis_of, found_by_checks}
use Rattle.cedar_verdicts.proofs.Decided.{all_read, promised_still}
use Rattle.cedar_verdicts.proofs.Members.{added_behind}
use Rattle.cedar_verdicts.proofs.found.find.Goals as goal

pub returns-clause-promised : goal.returns-clause-promised
returns-clause-promised g c =
    promised_still (basis_of g.C.ArgumentCheck.refusal c.args.settings.now) c.args.settings.now.level
    (template_of c.args.policy.now) c.in_ok-found.found.is_accepted c.is_empty-is_read.result c.in_ok-found.ensures.promised

pub returns-clause-exact : goal.returns-clause-exact
returns-clause-exact g c =
    let b = basis_of g.C.ArgumentCheck.refusal c.args.settings.now in
    let t = template_of c.args.policy.now in
    let unread = c.in_ok-unread.unread in
    let before = c.in_ok-found.ensures.exact in
    let read =
    all_read unread.items (unread_in t) unread.len c.is_empty-is_read.result
    c.in_ok-unread.ensures unread.ok.0 c.is_empty-is_read.ensures in (
      before.0,
      before.1,
      record {
        accepted = λ i. before.2.accepted i && read i;
        impossible = before.2.impossible;
        warned = before.2.warned;
        errors =
            added_behind (listed c.in_ok-found.found.errors) (listed c.add_unread.new.errors)
            (found_by_checks b c.args.settings.now.level t before.0) (unread_in t) _ c.in_ok-unread.ensures
            before.2.errors c.in_ok-add_unread.ensures;
      },
    )
