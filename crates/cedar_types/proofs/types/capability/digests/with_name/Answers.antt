use Rattle.std.proofs.Common.{◌++◌, ap, ◌∙◌}
use Rattle.std.specs.Hash as fed
use Rattle.cedar_types.specs.Capability.Digest.{joined}
use Rattle.cedar_types.specs.Names.{text_of}
use Rattle.cedar_types.proofs.Feeds.{texts_fed}
use Rattle.cedar_types.proofs.types.capability.digests.with_name.Goals as goal

pub returns : goal.returns
returns c =
    let name = c.args.name.now in
    c.joined.ensures
    ∙ ap (joined c.args.digest) (ap (λ ws. ws ++ fed.str (text_of name.basename)) (texts_fed text_of name.path.items))
