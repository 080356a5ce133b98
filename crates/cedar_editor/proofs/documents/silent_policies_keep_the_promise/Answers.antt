use Rattle.cedar_editor.proofs.Shown.{keep}
use Rattle.cedar_editor.proofs.documents.silent_policies_keep_the_promise.Goals as goal

pub returns : goal.returns
returns g c =
    keep g.C.ArgumentCheck.refusal c.args.document.now.judge c.args.document.now.policies.items c.args.document.now.rightly_said
