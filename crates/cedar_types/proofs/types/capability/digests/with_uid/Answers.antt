use Rattle.std.proofs.Common.{◌++◌, ap, ◌∙◌}
use Rattle.std.specs.Hash as fed
use Rattle.cedar_types.specs.Capability.Digest.{joined}
use Rattle.cedar_types.specs.Names.{text_of}
use Rattle.cedar_types.proofs.Feeds.{texts_fed}
use Rattle.cedar_types.proofs.types.capability.digests.with_uid.Goals as goal

pub returns : goal.returns
returns c =
    let uid = c.args.uid.now in
    let name = uid.entity_type.name in
    c.joined.ensures
    ∙ ap (joined c.args.digest)
    (ap (λ ws. (ws ++ fed.str (text_of name.basename)) ++ fed.str (text_of uid.eid)) (texts_fed text_of name.path.items))
