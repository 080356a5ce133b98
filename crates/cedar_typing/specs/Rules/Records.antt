-- The rule of records.
use Rattle.std.specs.Prelude.{true, false, List, [], ◌∷◌, Option, Some, None, if◌then◌else◌}
use Rattle.cedar_types.specs.declared.base.location.Loc.{Loc}
use Rattle.cedar_types.specs.Names.{Text}
use Rattle.cedar_types.specs.Names.Ascending.{texts_ascending}
use Rattle.cedar_types.specs.Types.{Ty, TRecord, Attrs, no_attrs, attr}
use Rattle.cedar_types.specs.Expressions.Tree.{Tree, record_of, Fields, no_fields, field}
use Rattle.cedar_types.specs.Expressions.View.{Written}
use Rattle.cedar_types.specs.Errors.{internal_invariant_violation}
use Rattle.cedar_typing.specs.Capabilities.{no_caps}
use Rattle.cedar_typing.specs.Eager.{Decision, gives, refuses, Form}
use Rattle.cedar_typing.specs.TypeEnv.{TypeEnv, finding}
use Rattle.cedar_typing.specs.Rules.Sets.{all_types}

abbrev pub field_keys : {D : Type 0} → Fields D → List Text
field_keys no_fields = []
field_keys (field k e fs) = k ∷ field_keys fs

-- the fields with these keys and values
abbrev pub fields_from : {D : Type 0} → List Text → List (Tree D) → Fields D
fields_from (k ∷ ks) (x ∷ xs) = field k x (fields_from ks xs)
fields_from ks xs = no_fields

-- the attributes with these names and types, all required
abbrev pub required_attrs : List Text → List Ty → Attrs
required_attrs (k ∷ ks) (t ∷ ts) = attr k t true (required_attrs ks ts)
required_attrs ks ts = no_attrs

-- keys ascend, as in every record of the program. A tree in which they do not has no rule, which is
-- an error at the whole. A value without a type adds no error, because it has failed already
abbrev pub record_of_types : TypeEnv → Option Loc → List Text → Option (List Ty) → Decision
record_of_types env l ks None = refuses None []
record_of_types env l ks (Some ts) =
    if texts_ascending ks then gives (TRecord (required_attrs ks ts) false) no_caps
    else refuses None (finding env l internal_invariant_violation ∷ [])

-- `{x: a, y: b}` with these keys: a closed record that requires all its attributes
abbrev pub record_form : TypeEnv → Written → List Text → Form
record_form env m ks = record {
  at = m;
  expects = [];
  goes_on = false;
  decides = λ ts. record_of_types env m.place ks (all_types ts);
  type_if_failed = λ t. t;
  at_limit = λ ts. [];
  node = λ k xs. record_of k (fields_from ks xs);
}
