-- The world of the examples of slices: a wiki, whose users read pages, with its schema, its store
-- and a request.
use Rattle.std.specs.Prelude.{ℕ, true, false, List, [], ◌∷◌, Some, None, codes}
use Rattle.cedar_types.specs.declared.base.types.BoolType.TheVariants.{AnyBool}
use Rattle.cedar_types.specs.declared.base.types.ValidationMode.{ValidationMode}
use Rattle.cedar_types.specs.Names.{Path, Uid}
use Rattle.cedar_types.specs.Schemas.{StandardKind, DeclaredType, DeclaredAction, Schema}
use Rattle.cedar_types.specs.Values.Stores.{Entity, Store}
use Rattle.cedar_types.specs.Types.{Ty, TBool, TString, TRecord, Attrs, no_attrs, attr}
use Rattle.cedar_types.specs.Values.{VBool, VEntity, VRecord, Entries, no_entries, more_entries}
use Rattle.cedar_typing.specs.Evaluation.World.{Slots, World}
use Rattle.cedar_typing.specs.Examples.Greeting.{words, stored_action, sample_functions}
use Rattle.cedar_typing.specs.Examples.Permissive.{team, staff}
use Rattle.cedar_typing.specs.Examples.PolicySoundness.{sample_basis}
use Rattle.cedar_typing.specs.Examples.World.{named, user, user_named, an_action_named, alice, bob, a_user}
use Rattle.cedar_typing.specs.Soundness.Policies.{Basis}
use Rattle.cedar_typechecker.specs.Slices.Reach.{slice}

-- ---- names

-- `Page`; `User` and `Team` are those of other examples
abbrev pub page : Path
page = named (codes "Page")

-- `Page::"home"`, `Action::"read"`, and three users beside alice and bob
abbrev pub home : Uid
home = record { entity_type = page; eid = codes "home" }

abbrev pub read : Uid
read = an_action_named (codes "read")

abbrev pub carol : Uid
carol = user_named (codes "carol")

abbrev pub dan : Uid
dan = user_named (codes "dan")

abbrev pub erin : Uid
erin = user_named (codes "erin")

-- ---- the schema

-- `{city: String, mentor: User}`
abbrev pub profile : Ty
profile =
    TRecord (attr (codes "city") TString true (attr (codes "mentor") a_user true no_attrs)) false

-- a user is active or not, and may have a profile
abbrev pub user_attributes : Attrs
user_attributes =
    attr (codes "active") (TBool AnyBool) true (attr (codes "profile") profile false no_attrs)

-- a team has a lead
abbrev pub team_attributes : Attrs
team_attributes = attr (codes "lead") a_user true no_attrs

-- users may be in teams; users and pages have tags that are users
abbrev pub wiki_types : List DeclaredType
wiki_types =
    record { name = user; descendants = []; kind = StandardKind user_attributes (Some a_user) }
    ∷ record { name = page; descendants = []; kind = StandardKind no_attrs (Some a_user) }
    ∷ record { name = team; descendants = user ∷ []; kind = StandardKind team_attributes None }
    ∷ []

-- a request comes with the user who asks for it, and may be urgent
abbrev pub read_context : Ty
read_context =
    TRecord
    (attr (codes "asker") a_user true (attr (codes "urgent") (TBool AnyBool) true no_attrs)) false

-- users read entities of one type, with this context
abbrev pub declared_read : Path → Ty → DeclaredAction
declared_read what context = record {
  name = read;
  descendants = [];
  applies_to =
      Some (record { principals = user ∷ []; resources = what ∷ []; context = context });
}

abbrev pub wiki_schema : Schema
wiki_schema = record { types = wiki_types; actions = declared_read page read_context ∷ [] }

-- the wiki's schema with the sample functions, in a mode
abbrev pub wiki_basis : ValidationMode → Basis
wiki_basis m = record (sample_basis m) { schema = wiki_schema }

-- ---- the store

-- the attributes of a user who is active, with some others
abbrev pub active_with : Entries → Entries
active_with es = more_entries (codes "active") (VBool true) es

-- the attributes of a user who is active, lives in Bern and has this mentor
abbrev pub mentored_by : Uid → Entries
mentored_by u =
    active_with
    (more_entries (codes "profile")
    (VRecord
    (more_entries (codes "city") (words (codes "Bern"))
    (more_entries (codes "mentor") (VEntity u) no_entries)))
    no_entries)

-- the tag `guide`, which is this user
abbrev pub guided_by : Uid → Entries
guided_by u = more_entries (codes "guide") (VEntity u) no_entries

-- alice is in the staff; her mentor and her guide are bob
abbrev pub stored_alice : Entity
stored_alice =
    record { attributes = mentored_by bob; ancestors = staff ∷ []; tags = guided_by bob }

-- bob's mentor is carol
abbrev pub stored_bob : Entity
stored_bob = record { attributes = mentored_by carol; ancestors = []; tags = no_entries }

-- carol's guide is dan
abbrev pub stored_carol : Entity
stored_carol =
    record { attributes = active_with no_entries; ancestors = []; tags = guided_by dan }

-- a user who is active, and has nothing else
abbrev pub plain_user : Entity
plain_user = record { attributes = active_with no_entries; ancestors = []; tags = no_entries }

-- the staff is led by dan
abbrev pub stored_staff : Entity
stored_staff = record {
  attributes = more_entries (codes "lead") (VEntity dan) no_entries;
  ancestors = [];
  tags = no_entries;
}

-- a page with this guide
abbrev pub page_guided_by : Uid → Entity
page_guided_by u =
    record { attributes = no_entries; ancestors = []; tags = guided_by u }

-- the entries of all but the action, with this guide of the page
abbrev pub guided_wiki : Uid → Store
guided_wiki u =
    (home, page_guided_by u)
    ∷ (alice, stored_alice)
    ∷ (bob, stored_bob)
    ∷ (carol, stored_carol)
    ∷ (dan, plain_user)
    ∷ (erin, plain_user)
    ∷ (staff, stored_staff)
    ∷ []

-- the whole store: the action's entry is empty, and bob is the page's guide
abbrev pub wiki_store : Store
wiki_store = (read, stored_action []) ∷ guided_wiki bob

-- ---- the request

-- each slot is bound to the staff
abbrev pub staff_slots : Slots
staff_slots x = Some staff

-- the context of a request that this user asks for, which is urgent
abbrev pub asked_by : Uid → Entries
asked_by u =
    more_entries (codes "asker") (VEntity u)
    (more_entries (codes "urgent") (VBool true) no_entries)

-- alice reads the home page, as erin asks
abbrev pub reading : World
reading = record {
  request = record {
    principal = alice;
    action = read;
    resource = home;
    context = asked_by erin;
  };
  slots = staff_slots;
  store = wiki_store;
  functions = sample_functions;
}

-- the slice of n steps of the world's store
abbrev pub slice_of : World → ℕ → Store
slice_of world n = slice world.request world.store n
