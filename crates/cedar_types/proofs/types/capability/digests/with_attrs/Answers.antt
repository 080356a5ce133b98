use Rattle.std.proofs.Common.{map, ap, ◌∙◌}
use Rattle.cedar_types.specs.Capability.Digest.{joined, with_texts}
use Rattle.cedar_types.specs.Names.{text_of}
use Rattle.cedar_types.proofs.Feeds.{texts_fed}
use Rattle.cedar_types.proofs.types.capability.digests.with_attrs.Goals as goal

pub returns : goal.returns
returns c =
    let rest = c.args.attrs.now.rest.items in
    c.joined.ensures
    ∙ ap (joined c.with_text.result) (texts_fed text_of rest)
    ∙ ap (λ d. with_texts d (map text_of rest)) c.with_text.ensures
