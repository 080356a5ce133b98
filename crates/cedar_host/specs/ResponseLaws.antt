-- The response depends neither on the order of the policies nor on a policy that is impossible.
use Rattle.std.specs.Prelude.{◌≡◌, ◌↔◌, true, false, List, ◌∷◌, ◌++◌, IsPermutation}
use Rattle.cedar_types.specs.Templates.{template_of}
use Rattle.cedar_typing.specs.Composition.{SlotsInScopeAlone}
use Rattle.cedar_typing.specs.Evaluation.Conformance.{IsOneOf, has_external}
use Rattle.cedar_typing.specs.Evaluation.World.{World}
use Rattle.cedar_typing.specs.Soundness.Policies.{Basis, IsConforming}
use Rattle.cedar_host.specs.declared.reports.PolicyReport.{PolicyReport}
use Rattle.cedar_host.specs.Responses.{LinkedPolicy, Response, response}
use Rattle.cedar_host.specs.Safety.{IsNeverTrue}

-- ---- the order

-- the two lists have the same members
abbrev pub HaveSameMembers : {A : Type 0} → List A → List A → Type 0
HaveSameMembers {A} xs ys = (x : A) → IsOneOf x xs ↔ IsOneOf x ys

-- the same decision, by the same policies, while the same policies err alike: each in some order
pub record IsReordered (r s : Response) : Type 0 where
  pub decision : r.decision ≡ s.decision
  pub determining : HaveSameMembers r.determining s.determining
  pub erring : HaveSameMembers r.erring s.erring

abbrev pub OrderDecidesNothing : Type 0
OrderDecidesNothing =
    (world : World) (ps qs : List LinkedPolicy) → IsPermutation ps qs → IsReordered (response world ps) (response world qs)

-- ---- impossible policies

-- the same decision, by the same policies in the same order. Errors may differ
pub record DecidesAlike (r s : Response) : Type 0 where
  pub decision : r.decision ≡ s.decision
  pub determining : r.determining ≡ s.determining

-- a policy may be left out among others: in each world that conforms, whether it permits or
-- forbids, and whether or not its slots are bound
abbrev pub MayBeLeftOut : Basis → LinkedPolicy → Type 0
MayBeLeftOut b p =
    (world : World) → IsConforming b world
    → (before after : List LinkedPolicy)
    → DecidesAlike (response world (before ++ p ∷ after)) (response world (before ++ after))

-- so may one that is never true, whose slots stand in its scope alone, by a schema without external
-- declarations
abbrev pub ImpossibleDecidesNothing : Type 0
ImpossibleDecidesNothing =
    (b : Basis) (p : LinkedPolicy) → IsNeverTrue b p.template
    → has_external b.schema ≡ false → SlotsInScopeAlone p.template → MayBeLeftOut b p

-- and so may each link of a policy that a report calls impossible
abbrev pub IsUnneeded : Basis → PolicyReport → Type 0
IsUnneeded b r =
    r.is_impossible ≡ true → (p : LinkedPolicy) → template_of r.policy.now.template ≡ p.template
    → has_external b.schema ≡ false → SlotsInScopeAlone p.template → MayBeLeftOut b p
