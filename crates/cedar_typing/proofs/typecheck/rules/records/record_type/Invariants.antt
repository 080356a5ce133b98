use Rattle.std.proofs.Common.{◌≡◌, List, ◌++◌, Some}
use Rattle.cedar_types.specs.Types.{entries_of}
use Rattle.cedar_typing.specs.Views.{keys_in}
use Rattle.cedar_typing.proofs.Rules.Records.{TypedField, attrs_typed}
use Rattle.cedar_typing.proofs.typecheck.rules.records.record_type.Given as goal

-- the fields so far, then those to come
abbrev pub invariant-loop-key : goal.invariant-loop-key
invariant-loop-key l =
    (done : List TypedField)
    × (l.fields.entries ≡ done ++ l.key-iterator)
    × (keys_in l.attrs.entries ≡ keys_in done)
    × (attrs_typed done ≡ Some (entries_of l.attrs.entries))
