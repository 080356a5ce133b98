-- The world in which the expressions of the computed examples are evaluated.
use Rattle.std.specs.Prelude.{ℤ, pos, true, List, [], ◌∷◌, Some, None, codes}
use Rattle.cedar_types.specs.declared.base.names.slots.SlotId.{SlotId}
use Rattle.cedar_types.specs.Names.{Text, Path, Uid}
use Rattle.cedar_types.specs.Values.{Value, VBool, VLong, VString, VEntity, VSet, VRecord, VExtension, Values, no_values, more_values}
use Rattle.cedar_types.specs.Values.{Entries, no_entries, more_entries}
use Rattle.cedar_types.specs.Values.Stores.{Entity, Store}
use Rattle.cedar_typing.specs.Evaluation.World.{Request, Call, Interpretation, Slots, World}
use Rattle.cedar_typing.specs.Examples.World.{decimal, duration, ip_address, less_than, sum, alice, bob, gone, greet, meet, act}

-- ---- values

abbrev pub number : ℤ → Value
number n = VLong n

abbrev pub words : Text → Value
words t = VString t

abbrev pub one_value : Value → Values
one_value v = more_values v no_values

abbrev pub two_values : Value → Value → Values
two_values v w = more_values v (one_value w)

-- the values of the type `decimal`
abbrev pub a_decimal : Text → Value
a_decimal t = VExtension decimal t

-- ---- the parts of the world

-- alice is in bob, is 30, has bob as her boss, lives in Bern, and has the mark and the tag `role`
abbrev pub stored_alice : Entity
stored_alice = record {
  attributes =
      more_entries (codes "age") (number (pos 30))
      (more_entries (codes "boss") (VEntity bob)
      (more_entries (codes "home")
      (VRecord (more_entries (codes "city") (words (codes "Bern")) no_entries))
      (more_entries (codes "vip") (VBool true) no_entries)));
  ancestors = bob ∷ [];
  tags = more_entries (codes "role") (words (codes "admin")) no_entries;
}

-- bob is 40, and has nothing else
abbrev pub stored_bob : Entity
stored_bob = record {
  attributes = more_entries (codes "age") (number (pos 40)) no_entries;
  ancestors = [];
  tags = no_entries;
}

-- an action has nothing in the store but its ancestors
abbrev pub stored_action : List Uid → Entity
stored_action us = record { attributes = no_entries; ancestors = us; tags = no_entries }

abbrev pub sample_store : Store
sample_store =
    (alice, stored_alice)
    ∷ (bob, stored_bob)
    ∷ (greet, stored_action (meet ∷ act ∷ []))
    ∷ (meet, stored_action (act ∷ []))
    ∷ (act, stored_action [])
    ∷ []

-- `?resource` is bound to bob, and `?principal` is not bound
abbrev pub sample_slots : Slots
sample_slots SlotId.Principal = None
sample_slots SlotId.Resource = Some bob

-- a call of a function, and its value
abbrev pub giving : Path → Values → Value → Call
giving f vs v = record { function = f; arguments = vs; value = v }

-- a call of `decimal` with one argument, whose value is the decimal of the text t
abbrev pub decimal_call : Value → Text → Call
decimal_call v t = giving decimal (one_value v) (a_decimal t)

-- `decimal` knows two texts, one of them twice, and one set of numbers. Each other function knows one
-- call. The order of 1.0 and 2.0 is known
abbrev pub sample_functions : Interpretation
sample_functions = record {
  calls =
      decimal_call (words (codes "1.0")) (codes "1.0")
      ∷ decimal_call (words (codes "2.0")) (codes "2.0")
      ∷ decimal_call (words (codes "1.0")) (codes "9.0")
      ∷ decimal_call (VSet (two_values (number (pos 1)) (number (pos 2)))) (codes "1.2")
      ∷ giving less_than (two_values (a_decimal (codes "1.0")) (a_decimal (codes "2.0"))) (VBool true)
      ∷ giving sum (two_values (number (pos 1)) (number (pos 2))) (number (pos 3))
      ∷ giving duration (two_values (a_decimal (codes "1.0")) (number (pos 1)))
      (VExtension duration (codes "2.0"))
      ∷ [];
  overloaded_types = decimal ∷ duration ∷ [];
  less = (a_decimal (codes "1.0"), a_decimal (codes "2.0")) ∷ [];
  less_or_equal =
      (a_decimal (codes "1.0"), a_decimal (codes "2.0"))
      ∷ (a_decimal (codes "1.0"), a_decimal (codes "1.0"))
      ∷ [];
}

-- a request: a principal, an action, a resource and a context
abbrev pub asks : Uid → Uid → Uid → Entries → Request
asks p a r c = record { principal = p; action = a; resource = r; context = c }

-- alice greets bob, and her friend is an entity that is not in the store
abbrev pub greeting : World
greeting = record {
  request =
      asks alice greet bob
      (more_entries (codes "address") (VExtension ip_address (codes "::1"))
      (more_entries (codes "friend") (VEntity gone) no_entries));
  slots = sample_slots;
  store = sample_store;
  functions = sample_functions;
}
