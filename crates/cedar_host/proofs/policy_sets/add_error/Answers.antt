use Rattle.cedar_host.proofs.Found.{error_added}
use Rattle.cedar_host.proofs.policy_sets.add_error.Goals as goal

pub returns : goal.returns
returns c =
    error_added c.args.error c.none.result c.args.errors.now.entries c.insert.new.self.entries
    c.in_ok-insert.ensures.entries
