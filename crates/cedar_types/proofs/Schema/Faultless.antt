-- A schema without faults: the conditions that it meets.
use Rattle.std.proofs.Common.{◌≡◌, refl, Bool, true, false, ◌&&◌, not, Option, Some, if◌then◌else◌, is_some}
use Rattle.cedar_types.specs.Schemas.{Schema, has_fault, repeats_type, repeats_action, declares_action_type, are_actions, has_empty_enum}
use Rattle.cedar_types.specs.Schemas.{types_are_known, action_descendants_declared, types_are_definite, types_are_closed}
use Rattle.cedar_types.specs.Schemas.{actions_are_closed}
use Rattle.cedar_types.specs.declared.base.schema.errors.SchemaError.{SchemaError}
use Rattle.cedar_types.proofs.Tests.{and_left, and_right}

-- A schema s has no fault: it meets every condition
pub record Faultless (s : Schema) : Type 0 where
  pub types_apart : repeats_type s.types ≡ false
  pub actions_apart : repeats_action s.actions ≡ false
  pub no_action_type : declares_action_type s.types ≡ false
  pub actions : are_actions s.actions ≡ true
  pub members : has_empty_enum s.types ≡ false
  pub known : types_are_known s.types s.actions ≡ true
  pub descendants : action_descendants_declared s.actions ≡ true
  pub definite : types_are_definite s.types s.actions ≡ true
  pub closed_types : types_are_closed s.types ≡ true
  pub closed_actions : actions_are_closed s.actions ≡ true

passed : (b : Bool) (x : SchemaError) (r : Option SchemaError) → is_some (if b then Some x else r) ≡ false
    → (b ≡ false) × (is_some r ≡ false)
passed true x r h = cc
passed false x r h = (refl, h)

passed_not : (b : Bool) (x : SchemaError) (r : Option SchemaError) → is_some (if not b then Some x else r) ≡ false
    → (b ≡ true) × (is_some r ≡ false)
passed_not true x r h = (refl, h)
passed_not false x r h = cc

pub faultless : (s : Schema) → has_fault s ≡ false → Faultless s
faultless s h =
    let a = passed (repeats_type s.types) _ _ h in
    let b = passed (repeats_action s.actions) _ _ a.1 in
    let c = passed (declares_action_type s.types) _ _ b.1 in
    let d = passed_not (are_actions s.actions) _ _ c.1 in
    let e = passed (has_empty_enum s.types) _ _ d.1 in
    let f = passed_not (types_are_known s.types s.actions) _ _ e.1 in
    let g = passed_not (action_descendants_declared s.actions) _ _ f.1 in
    let i = passed_not (types_are_definite s.types s.actions) _ _ g.1 in
    let j = passed_not (types_are_closed s.types && actions_are_closed s.actions) _ _ i.1 in
    record {
      types_apart = a.0;
      actions_apart = b.0;
      no_action_type = c.0;
      actions = d.0;
      members = e.0;
      known = f.0;
      descendants = g.0;
      definite = i.0;
      closed_types = and_left (types_are_closed s.types) (actions_are_closed s.actions) j.0;
      closed_actions = and_right (types_are_closed s.types) (actions_are_closed s.actions) j.0;
    }
