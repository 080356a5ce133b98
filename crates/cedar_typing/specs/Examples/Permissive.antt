-- Permissive, which unites sets of entity types and joins records by width: a schema, a policy and a
-- world for which every premise holds; a join of records that would be wrong; and an example that names
-- in the types of the schema must ascend.
use Rattle.std.specs.Prelude.{◌≡◌, ◌&&◌, pos, true, false, Bool, [], ◌∷◌, Option, Some, None, codes}
use Rattle.cedar_types.specs.declared.base.expressions.operators.Var.{Var}
use Rattle.cedar_types.specs.declared.base.types.BoolType.TheVariants.{AnyBool}
use Rattle.cedar_types.specs.declared.base.types.ValidationMode.{ValidationMode}
use Rattle.cedar_types.specs.declared.base.types.ValidationMode.TheVariants.{Strict, Permissive}
use Rattle.cedar_types.specs.Types.Bounds.{find_attr, wide_lub, with_bound, lub}
use Rattle.cedar_types.specs.Schemas.Formed.{has_formed_types}
use Rattle.cedar_types.specs.Names.{Text, Path, Uid}
use Rattle.cedar_types.specs.Environments.RequestEnvs.{Env, Declared}
use Rattle.cedar_types.specs.Schemas.{DeclaredType, DeclaredAction, Schema, has_fault}
use Rattle.cedar_types.specs.Values.Stores.{Entity, Store}
use Rattle.cedar_types.specs.Templates.{PlainTemplate, condition_of}
use Rattle.cedar_types.specs.Expressions.Tree.{Shape, var, and, if_then_else}
use Rattle.cedar_types.specs.Types.{Ty, TBool, TLong, TString, TRecord, TEntity, Attrs, no_attrs, attr}
use Rattle.cedar_types.specs.Values.{VBool, VEntity, VRecord, Entries, no_entries, more_entries, HasType}
use Rattle.cedar_typing.specs.Evaluation.Conformance.{SlotsBound}
use Rattle.cedar_typing.specs.Evaluation.Eval.{eval}
use Rattle.cedar_typing.specs.Evaluation.World.{World, TypeFailure, Gives, Fails}
use Rattle.cedar_typing.specs.Examples.Expressions.{true_lit, one, two, principal, context, text, dot, has, record1, record2, equal}
use Rattle.cedar_typing.specs.Examples.Expressions.{has_tag, get_tag, mistyped}
use Rattle.cedar_typing.specs.Examples.Greeting.{number, words, stored_action, asks}
use Rattle.cedar_typing.specs.Examples.NeededPremises.{BreaksPromise}
use Rattle.cedar_typing.specs.Examples.PolicySoundness.{sample_basis, Passes, PassesWarned, policy_when, meeting}
use Rattle.cedar_typing.specs.Examples.World.{named, user, alice, bob, greet, an_action_named, standard_type, declared_user}
use Rattle.cedar_typing.specs.Examples.World.{requested, no_context, with_action}
use Rattle.cedar_typing.specs.PolicyCheck.{Verdict, policy_check}
use Rattle.cedar_typing.specs.PolicyCheck.Outcome.{all_pass}
use Rattle.cedar_typing.specs.Soundness.Policies.{Basis, IsSoundAndClosed, IsNamedBySchema, IsWellFormed, IsConforming, setting_on}
use Rattle.cedar_typing.specs.Soundness.{IsReliable, IsWorldOf}

-- ---- users join teams

abbrev pub team : Path
team = named (codes "Team")

abbrev pub join : Uid
join = an_action_named (codes "join")

abbrev pub staff : Uid
staff = record { entity_type = team; eid = codes "staff" }

-- both have a lead, and tags that are texts; a user may be an admin and may have a name; a team has a
-- name and a size
abbrev pub member_attributes : Attrs
member_attributes =
    attr (codes "admin") (TBool AnyBool) true
    (attr (codes "lead") (TEntity (user ∷ [])) true (attr (codes "name") TString false no_attrs))

abbrev pub team_attributes : Attrs
team_attributes =
    attr (codes "lead") (TEntity (user ∷ [])) true
    (attr (codes "name") TString true (attr (codes "size") TLong true no_attrs))

abbrev pub declared_member : DeclaredType
declared_member = standard_type user [] member_attributes (Some TString)

abbrev pub declared_team : DeclaredType
declared_team = standard_type team [] team_attributes (Some TString)

abbrev pub declared_join : DeclaredAction
declared_join = requested join (user ∷ []) (team ∷ []) no_context

abbrev pub team_schema : Schema
team_schema = with_action (declared_team ∷ declared_member ∷ []) declared_join

abbrev pub team_basis : ValidationMode → Basis
team_basis m = record (sample_basis m) { schema = team_schema }

-- a user joins a team
abbrev pub joins : Env
joins =
    Declared
    (record { principal = user; action = join; resource = team; context = no_context })
    None None

-- a user whose lead is bob, an admin or not, with these tags
abbrev pub led_by_bob : Bool → Entries → Entity
led_by_bob b ts = record {
  attributes =
      more_entries (codes "admin") (VBool b) (more_entries (codes "lead") (VEntity bob) no_entries);
  ancestors = [];
  tags = ts;
}

-- alice is an admin, has bob as her lead, and the tag `role`; bob is no admin, and his own lead
abbrev pub member_alice : Entity
member_alice = led_by_bob true (more_entries (codes "role") (words (codes "owner")) no_entries)

abbrev pub member_bob : Entity
member_bob = led_by_bob false no_entries

abbrev pub team_store : Store
team_store = (alice, member_alice) ∷ (bob, member_bob) ∷ (join, stored_action []) ∷ []

-- alice joins the staff, which is not stored
abbrev pub joining : World
joining = record meeting {
  request = asks alice join staff no_entries;
  store = team_store;
}

-- ---- the premises hold together

-- `if principal.admin then a else b`
abbrev pub if_admin : Shape → Shape → Shape
if_admin a b = if_then_else tt (dot principal (codes "admin")) a b

-- `if principal.admin then principal else resource`, whose value is a user or a team
abbrev pub either : Shape
either = if_admin principal (var tt Var.Resource)

-- an attribute of a user or a team, `either.lead == principal.lead`; one of a record that is joined by
-- width; and a tag of a user or a team
abbrev pub same_lead : Shape
same_lead = equal (dot either (codes "lead")) (dot principal (codes "lead"))

abbrev pub joined_record : Shape
joined_record =
    equal
    (dot (if_admin (record1 (codes "a") one) (record2 (codes "a") two (codes "b") true_lit)) (codes "a"))
    one

abbrev pub owns : Shape
owns =
    and tt (has_tag either (text (codes "role")))
    (equal (get_tag either (text (codes "role"))) (text (codes "owner")))

abbrev pub owners : PlainTemplate
owners = policy_when (and tt same_lead (and tt joined_record owns))

-- the check of this policy, in a mode
abbrev pub joins_check : ValidationMode → Verdict
joins_check m =
    policy_check (setting_on (team_basis m) owners.id joins) (condition_of owners)

-- all premises hold, of type soundness and of both promises, and evaluation gives true. Strict refuses
-- the policy
pub record PermissivePremisesAreMet : Type 0 where
  pub faultless : has_fault team_schema ≡ false
  pub formed : has_formed_types team_schema ≡ true
  pub reliable : IsReliable (setting_on (team_basis Permissive) owners.id joins)
  pub world : IsWorldOf (setting_on (team_basis Permissive) owners.id joins) joining
  pub bound : SlotsBound joining.slots (condition_of owners)
  pub passes : Passes (team_basis Permissive) owners
  pub basis : IsSoundAndClosed (team_basis Permissive)
  pub named : IsNamedBySchema team_schema owners
  pub well_formed : IsWellFormed owners joining.slots
  pub conforming : IsConforming (team_basis Permissive) joining
  pub evaluates : eval joining (condition_of owners) ≡ Gives (VBool true)
  pub strict_refuses : all_pass (joins_check Strict ∷ []) ≡ false

-- ---- a wrong bound

-- a wrong bound of records: it keeps an attribute of the left side as required, even if the right side
-- lacks it
abbrev pub with_left : Text → Ty → Option (Ty × Bool) → (Ty → Option Ty) → Bool → Attrs → Attrs
with_left k s None bound r zs = attr k s true zs
with_left k s (Some a) bound r zs = with_bound k (bound a.0) (r && a.1) zs

abbrev pub wrong_attrs : ValidationMode → Attrs → Attrs → Attrs
wrong_attrs m no_attrs ys = no_attrs
wrong_attrs m (attr k s r xs) ys =
    with_left k s (find_attr k ys) (lub m s) r (wrong_attrs m xs ys)

abbrev pub wrong_bound : Attrs → Attrs → Ty
wrong_bound xs ys = wide_lub xs false ys false (wrong_attrs Permissive xs ys)

abbrev pub with_a : Attrs
with_a = attr (codes "a") TLong true no_attrs

-- the empty record is of the right type, and not of the wrong bound
pub record WrongBoundIsRefuted : Type 0 where
  pub has : HasType (TRecord no_attrs false) (VRecord no_entries)
  pub lacks : HasType (wrong_bound with_a no_attrs) (VRecord no_entries) → ⊥

-- ---- names must ascend

-- two attributes of one name, as in no schema of the program, and two of different names
abbrev pub twice_a : Attrs
twice_a = attr (codes "a") TLong true with_a

abbrev pub a_and_b : Attrs
a_and_b = attr (codes "a") TLong true (attr (codes "b") TLong true no_attrs)

-- users greet users, and a request comes with a record of each of both types
abbrev pub twice_context : Ty
twice_context =
    TRecord
    (attr (codes "both") (TRecord a_and_b false) true
    (attr (codes "twice") (TRecord twice_a false) true no_attrs))
    false

abbrev pub twice_schema : Schema
twice_schema =
    with_action (declared_user ∷ []) (requested greet (user ∷ []) (user ∷ []) twice_context)

abbrev pub twice_basis : Basis
twice_basis = record (sample_basis Permissive) { schema = twice_schema }

-- alice greets bob, who has no mark
abbrev pub twice_greeting : World
twice_greeting = record meeting {
  request = record meeting.request {
    context =
        more_entries (codes "both")
        (VRecord
        (more_entries (codes "a") (number (pos 1))
        (more_entries (codes "b") (number (pos 2)) no_entries)))
        (more_entries (codes "twice")
        (VRecord (more_entries (codes "a") (number (pos 1)) no_entries)) no_entries);
  };
  store = (greet, stored_action []) ∷ [];
}

-- `(if resource has vip then context.twice else context.both) has b`: the bound of both records is
-- closed, because they have equally many attributes, and it has no `b`
abbrev pub either_has_b : Shape
either_has_b =
    has
    (if_then_else tt (has (var tt Var.Resource) (codes "vip")) (dot context (codes "twice"))
    (dot context (codes "both")))
    (codes "b")

-- `1 + true` behind that expression
abbrev pub has_b_goes_wrong : PlainTemplate
has_b_goes_wrong = policy_when (and tt either_has_b mistyped)

-- all premises hold but that names ascend, and the policy goes wrong
pub record FormIsNeeded : Type 0 where
  pub faultless : has_fault twice_schema ≡ false
  pub unformed : has_formed_types twice_schema ≡ false
  pub basis : IsSoundAndClosed twice_basis
  pub conforming : IsConforming twice_basis twice_greeting
  pub passes : PassesWarned twice_basis has_b_goes_wrong
  pub named : IsNamedBySchema twice_schema has_b_goes_wrong
  pub well_formed : IsWellFormed has_b_goes_wrong twice_greeting.slots
  pub wrong : eval twice_greeting (condition_of has_b_goes_wrong) ≡ Fails TypeFailure
  pub broken : BreaksPromise twice_greeting has_b_goes_wrong
