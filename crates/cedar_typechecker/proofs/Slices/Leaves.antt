-- Expressions without parts, and expressions within the limit of depth: they evaluate over a part
-- that agrees on the entities that are reached as over the whole store.
use Rattle.std.proofs.Common.{◌≡◌, ℕ, List, Option, Some, refl, sym, ◌∙◌, subst}
use Rattle.cedar_types.specs.declared.base.expressions.operators.Var.{Var}
use Rattle.cedar_types.specs.declared.base.names.slots.SlotId.{SlotId}
use Rattle.cedar_types.specs.Lemmas.Comparisons.{uid_same}
use Rattle.cedar_types.specs.Names.{Text, Uid}
use Rattle.cedar_types.specs.Environments.RequestEnvs.{Env, Declared, Undeclared}
use Rattle.cedar_types.specs.Values.Stores.{Store}
use Rattle.cedar_types.specs.Expressions.Tree.{Lit, entity, lit, var, slot}
use Rattle.cedar_types.specs.Types.{Ty}
use Rattle.cedar_types.specs.Values.{VRecord, VEntity}
use Rattle.cedar_types.specs.Expressions.View.{Written}
use Rattle.cedar_typing.specs.Capabilities.{Caps}
use Rattle.cedar_typing.specs.Evaluation.Conformance.{Fits}
use Rattle.cedar_typing.specs.Evaluation.Eval.{literal_value, variable_value}
use Rattle.cedar_typing.specs.Evaluation.World.{World, Outcome, Gives}
use Rattle.cedar_typing.specs.Judgments.{Judgment, visited}
use Rattle.cedar_typing.specs.Rules.Leaves.{leaf, leaf_rules}
use Rattle.cedar_typing.specs.Setting.{Setting}
use Rattle.cedar_typing.specs.TypedExpr.{TypedTree}
use Rattle.cedar_typechecker.specs.Levels.Setting.{action_of}
use Rattle.cedar_typechecker.specs.Slices.Soundness.{levels_in}
use Rattle.cedar_typechecker.proofs.Levels.Silent.{Targeted, IsOwnAction}
use Rattle.cedar_typechecker.proofs.Slices.Ids.{Selected, one_id, select_all}
use Rattle.cedar_typechecker.proofs.Slices.Same.{IsReached, IsSame}
use Rattle.cedar_typechecker.proofs.Slices.Stores.{Agrees}

module _ (s : Setting) (world : World) (part : Store) (n : ℕ) (P : ℕ → Uid → Type 0)
    (a : Agrees world.request world.store part n P) where
  -- the property that is proved of an expression
  abbrev pub Same : Outcome → Outcome → Judgment → Type 0
  Same = IsSame (levels_in s n) P

  pub within_same : (d : ℕ) (o o' : Outcome) (J : Judgment) → Same o o' J
      → Same o o' (visited d J)
  within_same d o o' J i = record {
    checked = λ t c x h. i.checked t c x h.1;
    target = λ t c x h. i.target t c x h.1;
  }

  -- ---- variables

  variable_ids : (x : Var) (path : List Text) (k : ℕ)
      → Selected (P k) path (variable_value world.request x)
  variable_ids Var.Principal path k =
      select_all (P k) path (VEntity world.request.principal) (one_id (P k) _ (a.principal k))
  variable_ids Var.Action path k =
      select_all (P k) path (VEntity world.request.action) (one_id (P k) _ (a.action k))
  variable_ids Var.Resource path k =
      select_all (P k) path (VEntity world.request.resource) (one_id (P k) _ (a.resource k))
  variable_ids Var.Context path k =
      select_all (P k) path (VRecord world.request.context) (a.context k)

  pub variable_same : (m : Written) (x : Var) (found : Option Ty)
      → Same (Gives (variable_value world.request x)) (Gives (variable_value world.request x))
      (leaf_rules found m (λ k. var k x))
  variable_same m x found = record {
    checked = λ t c y d h. refl;
    target = λ t c y d path k le h. record { same = refl; ids = variable_ids x path k };
  }

  -- ---- literals: that of the environment's own action alone is a target

  is_entity : (r : Option Uid) (x : Lit) → IsOwnAction r x → (u : Uid) × (x ≡ entity u)
  is_entity (Some v) (entity u) h = (u, refl)
  is_entity r x h = absurd h

  own_action : (r : Env) (u : Uid) → Fits r world.request world.slots
      → IsOwnAction (action_of r) (entity u) → u ≡ world.request.action
  own_action (Declared d ps rs) u f h = uid_same.to u d.action h ∙ sym f.0.action
  own_action Undeclared u f h = absurd h

  module _ (fits : Fits s.env.request_env world.request world.slots) where
    literal_ids : (x : Lit) (path : List Text) (k : ℕ)
        → IsOwnAction (action_of s.env.request_env) x → Selected (P k) path (literal_value x)
    literal_ids x path k h =
        let w = is_entity (action_of s.env.request_env) x h in
        let own = own_action s.env.request_env w.0 fits
        (subst (IsOwnAction (action_of s.env.request_env)) w.1 h) in
        subst (λ z. Selected (P k) path (literal_value z)) (sym w.1)
        (select_all (P k) path (VEntity w.0)
        (one_id (P k) w.0 (subst (P k) (sym own) (a.action k))))

    literal_target : (m : Written) (x : Lit) (found : Option Ty) (t : Ty) (c : Caps)
        (y : TypedTree) → (leaf_rules found m (λ k. lit k x)).derives t c y
        → (path : List Text) (k : ℕ) → Targeted (levels_in s n) y path k
        → IsReached P path k (Gives (literal_value x)) (Gives (literal_value x))
    literal_target m x found t c y (leaf e) path k h =
        record { same = refl; ids = literal_ids x path k h }

    pub literal_same : (m : Written) (x : Lit) (found : Option Ty)
        → Same (Gives (literal_value x)) (Gives (literal_value x))
        (leaf_rules found m (λ k. lit k x))
    literal_same m x found = record {
      checked = λ t c y d h. refl;
      target = λ t c y d path k le h. literal_target m x found t c y d path k h;
    }

  -- ---- slots are no targets

  slot_target : (m : Written) (x : SlotId) (found : Option Ty) (o : Outcome) (t : Ty) (c : Caps)
      (y : TypedTree) → (leaf_rules found m (λ k. slot k x)).derives t c y
      → (path : List Text) (k : ℕ) → Targeted (levels_in s n) y path k → IsReached P path k o o
  slot_target m x found o t c y (leaf e) path k h = absurd h

  pub slot_same : (m : Written) (x : SlotId) (found : Option Ty) (o : Outcome)
      → Same o o (leaf_rules found m (λ k. slot k x))
  slot_same m x found o = record {
    checked = λ t c y i j. refl;
    target = λ t c y i path k le j. slot_target m x found o t c y i path k j;
  }
