-- The premises on the world are needed: the request and the store conform. (It is not needed here
-- that the extension functions keep their table, because no value of theirs is looked up in the
-- store.)
use Rattle.std.specs.Prelude.{ℕ, true, [], ◌∷◌, codes}
use Rattle.cedar_types.specs.declared.base.types.ValidationMode.{ValidationMode}
use Rattle.cedar_types.specs.Values.Stores.{ConformingStore}
use Rattle.cedar_types.specs.Templates.{PlainTemplate}
use Rattle.cedar_types.specs.Expressions.Tree.{Shape, and, is_type}
use Rattle.cedar_types.specs.Values.{VBool}
use Rattle.cedar_typing.specs.Evaluation.Conformance.{ConformingRequest, KeepsTable}
use Rattle.cedar_typing.specs.Evaluation.World.{World, MissingEntity, Gives, Fails}
use Rattle.cedar_typing.specs.Examples.Expressions.{principal, dot}
use Rattle.cedar_typing.specs.Examples.Greeting.{stored_action}
use Rattle.cedar_typing.specs.Examples.Permissive.{team, staff}
use Rattle.cedar_typing.specs.Examples.PolicySoundness.{PassesWarned, policy_when}
use Rattle.cedar_typechecker.specs.Slices.Examples.{active_of, has_guide, guide_of, resource}
use Rattle.cedar_typechecker.specs.Slices.Examples.World.{read, wiki_schema, wiki_basis, guided_wiki, reading}
use Rattle.cedar_typechecker.specs.Slices.NeededPremises.Differing.{IsAskedCheckerIn, DiffersInSlice}

-- the checker and the functions meet the premises, and yet the outcomes differ
pub record WikiGoesWrongIn (m : ValidationMode) (t : PlainTemplate) (n : ℕ) (world : World) :
    Type 0 where
  pub checker : IsAskedCheckerIn m (wiki_basis m)
  pub functions : KeepsTable (wiki_basis m).table world.functions
  pub goes_wrong : DiffersInSlice PassesWarned (wiki_basis m) t n world
      (Fails MissingEntity) (Gives (VBool true))

-- `a is Team && a.lead.active`
abbrev pub is_led : Shape → Shape
is_led a = and tt (is_type tt a team) (active_of (dot a (codes "lead")))

-- ---- the request

-- the test above of the principal, which is False, because principals are users; and yet the staff
-- reads
abbrev pub teams_read : PlainTemplate
teams_read = policy_when (is_led principal)

abbrev pub staff_reads : World
staff_reads = record reading { request = record reading.request { principal = staff } }

pub record RequestsMustConformIn (m : ValidationMode) : Type 0 where
  pub store : ConformingStore wiki_schema staff_reads.store
  pub others : WikiGoesWrongIn m teams_read 0 staff_reads

-- ---- the store

-- `resource.hasTag("guide") && e`, where e is that test of the guide, which is False, because
-- guides are users; and yet the staff is the guide
abbrev pub teams_guide : PlainTemplate
teams_guide = policy_when (and tt (has_guide resource) (is_led (guide_of resource)))

abbrev pub staff_guides : World
staff_guides = record reading { store = (read, stored_action []) ∷ guided_wiki staff }

pub record StoresMustConformIn (m : ValidationMode) : Type 0 where
  pub request : ConformingRequest wiki_schema staff_guides.request
  pub others : WikiGoesWrongIn m teams_guide 1 staff_guides

pub record WorldsAreNeededIn (m : ValidationMode) : Type 0 where
  pub request : RequestsMustConformIn m
  pub store : StoresMustConformIn m
