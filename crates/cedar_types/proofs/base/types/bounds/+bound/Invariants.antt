use Rattle.std.proofs.Common.{◌≡◌, ◌++◌, option_map}
use Rattle.cedar_types.specs.Types.{attributes_of, entries_of, texts_of, join_attrs}
use Rattle.cedar_types.specs.Types.Bounds.{both_attrs, common_attrs}
use Rattle.cedar_types.proofs.Attributes.Records.{Ascends}
use Rattle.cedar_types.proofs.base.types.bounds.+bound.Given as goal

-- The attributes so far, and then the bound of the remaining, are the whole bound
abbrev pub invariant-both_attributes-loop-key : goal.invariant-both_attributes-loop-key
invariant-both_attributes-loop-key l = record {
  told : option_map (join_attrs (entries_of l.all.entries))
      (both_attrs l.mode (entries_of l.key-iterator) (entries_of l.right))
      ≡ both_attrs l.fn.mode (attributes_of l.fn.xs) (attributes_of l.fn.ys);
  ascends : Ascends (texts_of l.all.entries ++ texts_of l.key-iterator);
}

abbrev pub invariant-common_attributes-loop-key : goal.invariant-common_attributes-loop-key
invariant-common_attributes-loop-key l = record {
  told : join_attrs (entries_of l.all.entries)
      (common_attrs l.mode (entries_of l.key-iterator) (attributes_of l.ys))
      ≡ common_attrs l.fn.mode (attributes_of l.fn.xs) (attributes_of l.fn.ys);
  ascends : Ascends (texts_of l.all.entries ++ texts_of l.key-iterator);
}
