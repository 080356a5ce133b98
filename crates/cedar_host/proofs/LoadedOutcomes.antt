-- The loaded store has the slice, so it gives the same outcomes and responses.
use Rattle.std.proofs.Common.{ℕ, sym, subst}
use Rattle.cedar_types.specs.Values.Stores.{Store}
use Rattle.cedar_typechecker.specs.Slices.Reach.{HoldsSlice}
use Rattle.cedar_typechecker.specs.Slices.Soundness.{with_store}
use Rattle.cedar_typing.specs.Evaluation.World.{World}
use Rattle.cedar_typing.specs.Soundness.PolicyCheck.{IsBooleanOrAllowed}
use Rattle.cedar_host.specs.LoadedOutcomes.{IsLoadedFor, LoadedGiveTheSame, LoadedRespondTheSame, OnlyLoadedNeedConform}
use Rattle.cedar_host.proofs.SameResponses.{responses_need_slice_alone}
use Rattle.cedar_host.proofs.SmallerStores.{holds_slice_too}

has_slice : (world : World) (steps : ℕ) (part : Store) → IsLoadedFor world steps part
    → HoldsSlice world.request world.store steps part
has_slice world steps part l = l.found world.request l.own part l.loaded

pub loaded_give_the_same : LoadedGiveTheSame
loaded_give_the_same b t steps need closed world w i part l =
    (need closed world w i).same part (has_slice world steps part l)

pub loaded_respond_the_same : LoadedRespondTheSame
loaded_respond_the_same b steps ps need closed world formed i part l =
    responses_need_slice_alone b steps ps need closed world formed i part (has_slice world steps part l)

-- the part holds the slice of the entries that conform, over which the policy does not go wrong
pub only_loaded_need_conform : OnlyLoadedNeedConform
only_loaded_need_conform b t steps need closed world formed part h c =
    let kept = need closed (with_store world c.kept) formed c.conforming in
    let holds = holds_slice_too world.request c.kept world.store c.stored steps part h c.loaded in
    subst IsBooleanOrAllowed (sym (kept.same part holds)) kept.safe
