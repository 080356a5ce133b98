use Rattle.std.proofs.Common.{refl}
use Rattle.cedar_host.proofs.LoadedParts.{holds_slice}
use Rattle.cedar_host.proofs.loaders.Loader.finish.Goals as goal

pub returns : goal.returns
returns c = record {
  slices = λ none request steps b.
      holds_slice request steps c.args.self _ b c.into_ids.ensures.ids refl c.into_ids.ensures.slices none;
}
