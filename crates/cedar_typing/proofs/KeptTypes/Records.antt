-- The rule of records finds kept types, if its fields have kept types.
use Rattle.std.proofs.Common.{◌≡◌, Bool, true, false, List, [], ◌∷◌, Option, Some, None, if◌then◌else◌, refl}
use Rattle.cedar_types.specs.Names.Ascending.{texts_ascending}
use Rattle.cedar_types.specs.Names.{Text}
use Rattle.cedar_types.specs.Types.{Ty, TRecord}
use Rattle.cedar_types.specs.Expressions.View.{Written}
use Rattle.cedar_types.specs.Errors.{internal_invariant_violation}
use Rattle.cedar_typing.specs.Capabilities.{no_caps}
use Rattle.cedar_typing.specs.Eager.{gives, refuses}
use Rattle.cedar_typing.specs.Rules.Records.{required_attrs, record_of_types, record_form}
use Rattle.cedar_typing.specs.Rules.Sets.{all_types}
use Rattle.cedar_typing.specs.TypeEnv.{TypeEnv, finding}
use Rattle.cedar_typing.proofs.KeptTypes.Eager.{decided_type, KeptForm}
use Rattle.cedar_typing.proofs.KeptTypes.Keeping.{HasKept, AllKept, IsKeeping}
use Rattle.cedar_typing.proofs.KeptTypes.Sets.{found_kept}

module _ (Kept : Ty → Type 0) (env : TypeEnv) (keeps : IsKeeping Kept env) (m : Written) where
  module _ (ks : List Text) where
    fields_kept : (ts : List (Option Ty)) (found : Option (List Ty)) → AllKept Kept ts → all_types ts ≡ found
        → HasKept Kept (decided_type (record_of_types env m.place ks found))
    fields_kept ts None h e = tt
    fields_kept ts (Some us) h e = by_keys (texts_ascending ks) refl
      where
        by_keys : (b : Bool) → texts_ascending ks ≡ b
            → HasKept Kept
            (decided_type (if b then gives (TRecord (required_attrs ks us) false) no_caps
            else refuses None (finding env m.place internal_invariant_violation ∷ [])))
        by_keys true a = keeps.records ks us a (found_kept Kept ts us h e)
        by_keys false a = tt

    pub record_kept : KeptForm Kept (record_form env m ks)
    record_kept ts h = fields_kept ts (all_types ts) h refl
