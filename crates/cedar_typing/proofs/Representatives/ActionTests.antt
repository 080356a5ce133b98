-- If the scope does not admit the action, and the schema alone decides that, then the scope's test of the action is False,
-- and adds no error.
use Rattle.std.proofs.Common.{◌≡◌, Bool, true, false, ◌&&◌, if◌then◌else◌, List, [], ◌∷◌, map, Option, Some, None, refl, sym, ◌∙◌, ap, subst}
use Rattle.std.specs.List.{list_all}
use Rattle.cedar_types.specs.declared.base.expressions.operators.BinaryOp.{BinaryOp}
use Rattle.cedar_types.specs.declared.base.expressions.operators.Var.{Var}
use Rattle.cedar_types.specs.declared.base.location.Loc.{Loc}
use Rattle.cedar_types.specs.declared.base.types.BoolType.TheVariants.{AnyBool, False}
use Rattle.cedar_types.specs.Environments.{DeclaredEnv}
use Rattle.cedar_types.specs.Environments.Representatives.{admits}
use Rattle.cedar_types.specs.Environments.RequestEnvs.{Env, Declared, action_ty, is_partial}
use Rattle.cedar_types.specs.Errors.{Finding}
use Rattle.cedar_types.specs.Expressions.Tree.{entity, var, lit, binary, set_of, Trees}
use Rattle.cedar_types.specs.Expressions.View.{of_uid, Written, trees_of}
use Rattle.cedar_types.specs.Names.{Path, Uid, PlacedUid, path_eq, uid_eq, is_action_path}
use Rattle.cedar_types.specs.Schemas.{DeclaredAction, declares_action, declares_type}
use Rattle.cedar_types.specs.Templates.{ActionScope, any_action, equal_action, within_actions, made, uid_at}
use Rattle.cedar_types.specs.Templates.{equal_at, within_at, action_scope_at}
use Rattle.cedar_types.specs.Types.{Ty, TBool, TEntity, TSet}
use Rattle.cedar_types.specs.Types.Bounds.{fold_lub, go_on}
use Rattle.cedar_types.proofs.Bounds.Steps.{lub_same}
use Rattle.cedar_types.proofs.Comparisons.SameTypes.{and_left, and_right, path_to}
use Rattle.cedar_typing.specs.Capabilities.{Caps, no_caps}
use Rattle.cedar_typing.specs.Composition.{in_env}
use Rattle.cedar_typing.specs.Eager.{gives, refuses, Form, types_found}
use Rattle.cedar_typing.specs.Infer.{infer, infer_all}
use Rattle.cedar_typing.specs.Infer.Eager.{all_typed, infer_none, with_operand, infer_rest, infer_one_more, infer_form, infer_decided, infer_two_operands}
use Rattle.cedar_typing.specs.Infer.Leaves.{infer_leaf}
use Rattle.cedar_typing.specs.Infer.Parts.{success, Part, AnswerAndErrors, PartAndErrors, part_with, answer_if, expect_type, expect}
use Rattle.cedar_typing.specs.PolicyCheck.{irrelevant, out_verdict}
use Rattle.cedar_typing.specs.Representatives.{names_alike}
use Rattle.cedar_typing.specs.Rules.Equality.{are_apart, equality_type, equality_decides, equality_form}
use Rattle.cedar_typing.specs.Rules.Leaves.{bool_ty, known_entity_type, unknown_entity_type, type_of_literal}
use Rattle.cedar_typing.specs.Rules.Membership.{is_action, entities_of, with_entity, is_action_in, only_actions, entity_decides, action_decides, in_decides, in_form}
use Rattle.cedar_typing.specs.Rules.Sets.{all_types, with_type, set_of_types, set_by_bound, set_decides, set_form}
use Rattle.cedar_typing.specs.Setting.{Setting}
use Rattle.cedar_typing.specs.TypeEnv.{TypeEnv}
use Rattle.cedar_typing.specs.TypeTests.{bool_types, entity_types, ancestor_types, is_false, annotation_passes}
use Rattle.cedar_typing.specs.TypedExpr.{Source, TypedTree, Mark, typed, typed_as, annotation}
use Rattle.cedar_typing.proofs.Representatives.SameTests.{none_of_actions}
use Rattle.cedar_typing.proofs.Representatives.Booleans.{bool_accepted}

-- ---- answers of the type False

-- the answer has the type False, and these errors alone
pub record IsFalse (r : AnswerAndErrors) (es : List Finding) : Type 0 where
  pub succeeded : Bool
  pub tree : TypedTree
  pub caps : Caps
  pub is : r ≡ (answer_if succeeded tree caps, es)
  pub typed_false : annotation tree ≡ Some (TBool False)

pub record IsFalsePart (r : PartAndErrors) (es : List Finding) : Type 0 where
  pub part : Part
  pub is : r ≡ (Some part, es)
  pub typed_false : annotation part.tree ≡ Some (TBool False)

pub false_part : (env : TypeEnv) (l : Option Loc) (r : AnswerAndErrors) (es : List Finding) → IsFalse r es
    → IsFalsePart (expect env bool_types l r) es
false_part env l r es h = subst (λ z. IsFalsePart (expect env bool_types l z) es) (sym h.is) (by_answer h.succeeded)
  where
    by_answer : (b : Bool) → IsFalsePart (expect env bool_types l (answer_if b h.tree h.caps, es)) es
    by_answer true = record {
      part = part_with true h.caps h.tree;
      is = bool_accepted env l (part_with true h.caps h.tree) es (annotation h.tree) False h.typed_false;
      typed_false = h.typed_false;
    }
    by_answer false = record {
      part = part_with false no_caps h.tree;
      is = bool_accepted env l (part_with false no_caps h.tree) es (annotation h.tree) False h.typed_false;
      typed_false = h.typed_false;
    }

pub false_verdict : (r : PartAndErrors) (es : List Finding) → (h : IsFalsePart r es) → out_verdict r ≡ irrelevant es h.part.tree
false_verdict r es h =
    let mark : annotation_passes is_false (annotation h.part.tree) ≡ true = ap (annotation_passes is_false) h.typed_false in
    ap out_verdict h.is ∙ rw mark refl

-- ---- the scope's test of the action

module _ (s : Setting) (d : DeclaredEnv) (ps rs : Option Path) (l : Option Loc) (kind : is_action d.action ≡ true)
    (declared : declares_action s.env.schema.actions d.action ≡ true) where
  abbrev env : Env
  env = Declared d ps rs

  abbrev here : Setting
  here = in_env s env

  abbrev acts : List DeclaredAction
  acts = s.env.schema.actions

  abbrev own_type : Ty
  own_type = TEntity (d.action.entity_type ∷ [])

  typed_action : action_ty s.env.schema env ≡ Some own_type
  typed_action =
      λ i. if (if kind i then declared i else declares_type s.env.schema.types d.action.entity_type) then Some own_type else None

  -- `action == u`
  module _ (u : PlacedUid) (differs : uid_eq d.action u.uid ≡ false) where
    abbrev form : Form
    form = equality_form here.env (made l) (var (made l) Var.Action) (uid_at l u)

    abbrev at : Written
    at = record { place = l; names = of_uid u.place u.type_place }

    abbrev sides : Option Ty → Option Ty → List Finding → AnswerAndErrors
    sides o o' =
        infer_two_operands here.env form l l
        (λ es. (infer_leaf o (made l) (λ q. var q Var.Action), es))
        (λ es. (infer_leaf o' at (λ q. lit q (entity u.uid)), es))

    compared : (t t' : Option Ty) → equality_type (Some (entity d.action)) (Some (entity u.uid)) t t' ≡ TBool False
    compared t t' = by_test (are_apart t t') ∙ refl
      where
        by_test : (c : Bool) → (if c then TBool False else bool_ty (uid_eq d.action u.uid)) ≡ TBool False
        by_test true = refl
        by_test false = ap bool_ty differs

    decided : (b : Bool) (xs : List TypedTree) (es : List Finding) (t t' : Option Ty)
        → infer_decided form b xs es (equality_decides here.env l (equality_type (Some (entity d.action)) (Some (entity u.uid)) t t') t t')
        ≡ infer_decided form b xs es (gives (TBool False) no_caps)
    decided b xs es t t' = ap (λ z. infer_decided form b xs es (equality_decides here.env l z t t')) (compared t t')

    -- the typed operands
    abbrev trees : Option Ty → Option Ty → List TypedTree
    trees o o' = var (typed_as o (made l)) Var.Action ∷ lit (typed_as o' at) (entity u.uid) ∷ []

    abbrev whole : Option Ty → Option Ty → TypedTree
    whole o o' = form.node (typed (TBool False) (made l)) (trees o o')

    false_sides : (o o' : Option Ty) (es : List Finding) → IsFalse (sides o o' es) es
    false_sides None None es = record { succeeded = false; tree = whole None None; caps = no_caps; is = decided false (trees None None) es None None; typed_false = refl }
    false_sides None (Some t') es = record { succeeded = false; tree = whole None (Some t'); caps = no_caps; is = decided false (trees None (Some t')) es None (Some t'); typed_false = refl }
    false_sides (Some t) None es = record { succeeded = false; tree = whole (Some t) None; caps = no_caps; is = decided false (trees (Some t) None) es (Some t) None; typed_false = refl }
    false_sides (Some t) (Some t') es = record { succeeded = true; tree = whole (Some t) (Some t'); caps = no_caps; is = decided true (trees (Some t) (Some t')) es (Some t) (Some t'); typed_false = refl }

    equal_false : (prior : Caps) (es : List Finding) → IsFalse (infer here (equal_at l Var.Action (uid_at l u)) prior 2 es) es
    equal_false prior es = false_sides (action_ty s.env.schema env) (type_of_literal here.env (entity u.uid)) es

  -- `action in [..]`
  abbrev listed : List PlacedUid → Trees Written
  listed us = trees_of (map (uid_at l) us)

  abbrev the_set : List PlacedUid → Source
  the_set us = set_of (made l) (listed us)

  entities_listed : (us : List PlacedUid) → entities_of env (listed us) ≡ Some (map (λ u. u.uid) us)
  entities_listed [] = refl
  entities_listed (u ∷ us) = λ i. with_entity (Some u.uid) (entities_listed us i)

  -- declared actions of one type
  abbrev AllOf : Path → List PlacedUid → Type 0
  AllOf p us = list_all (λ v. declares_action acts v && path_eq v.entity_type p) (map (λ u. u.uid) us) ≡ true

  only_declared : (p : Path) (us : List PlacedUid) → AllOf p us → list_all (declares_action acts) (only_actions (map (λ u. u.uid) us)) ≡ true
  only_declared p [] h = refl
  only_declared p (u ∷ us) h =
      let both = and_left (declares_action acts u.uid && path_eq u.uid.entity_type p) _ h in
      one_more (is_action u.uid) (and_left (declares_action acts u.uid) _ both) (only_declared p us (and_right (declares_action acts u.uid && path_eq u.uid.entity_type p) _ h))
    where
      others : List Uid
      others = only_actions (map (λ v. v.uid) us)

      one_more : (b : Bool) → declares_action acts u.uid ≡ true → list_all (declares_action acts) others ≡ true
          → list_all (declares_action acts) (if b then u.uid ∷ others else others) ≡ true
      one_more true h k = λ i. h i && k i
      one_more false h k = k

  -- a literal of a declared action has its own type, which is an action type
  literal_typed : (p : Path) (u : PlacedUid) → is_action_path p ≡ true → declares_action acts u.uid ≡ true → u.uid.entity_type ≡ p
      → type_of_literal here.env (entity u.uid) ≡ Some (TEntity (p ∷ []))
  literal_typed p u k h e =
      let missing : Option Ty = unknown_entity_type s.env.mode u.uid in
      ap (λ q. known_entity_type (if (if is_action_path q then declares_action acts u.uid else declares_type s.env.schema.types q) then Some (TEntity (q ∷ [])) else None) missing) e
      ∙ (λ i. known_entity_type (if (if k i then h i else declares_type s.env.schema.types p) then Some (TEntity (p ∷ [])) else None) missing)

  -- the ids in the set, typed one after another
  record AreTyped (p : Path) (us : List PlacedUid) (prior : Caps) (es : List Finding) : Type 0 where
    trees : List TypedTree
    is : infer_all here true [] (listed us) prior 4 es ≡ (all_typed true trees, es)
    types : types_found trees ≡ map (λ u. Some (TEntity (p ∷ []))) us

  ids_typed : (p : Path) (us : List PlacedUid) → is_action_path p ≡ true → AllOf p us → (prior : Caps) (es : List Finding)
      → AreTyped p us prior es
  ids_typed p [] k h prior es = record { trees = []; is = refl; types = refl }
  ids_typed p (u ∷ us) k h prior es =
      let both = and_left (declares_action acts u.uid && path_eq u.uid.entity_type p) _ h in
      let own = and_left (declares_action acts u.uid) _ both in
      let same = path_to u.uid.entity_type p (and_right (declares_action acts u.uid) _ both) in
      let o = literal_typed p u k own same in
      let others = ids_typed p us k (and_right (declares_action acts u.uid && path_eq u.uid.entity_type p) _ h) prior es in
      let at : Written = record { place = l; names = of_uid u.place u.type_place } in
      let node : Mark → TypedTree = λ q. lit q (entity u.uid) in
      record {
        trees = node (typed (TEntity (p ∷ [])) at) ∷ others.trees;
        is =
            ap (λ t. infer_one_more here.env true None l (λ es'. (infer_leaf t at node, es')) (infer_all here true [] (listed us) prior 4) es) o
            ∙ ap (λ z. (with_operand (part_with true no_caps (node (typed (TEntity (p ∷ [])) at))) z.0, z.1)) others.is;
        types = λ i. Some (TEntity (p ∷ [])) ∷ others.types i;
      }

  -- the bound of literals of one type is that type
  bound_is : (t : Ty) (us : List PlacedUid) → fold_lub s.env.mode t (map (λ u. t) us) ≡ Some t
  bound_is t [] = refl
  bound_is t (u ∷ us) = ap (λ o. go_on o (λ v. fold_lub s.env.mode v (map (λ w. t) us))) (lub_same s.env.mode t) ∙ bound_is t us

  all_there : (t : Ty) (us : List PlacedUid) → all_types (map (λ u. Some t) us) ≡ Some (map (λ u. t) us)
  all_there t [] = refl
  all_there t (u ∷ us) = ap (with_type (Some t)) (all_there t us)

  record SetTyped (us : List PlacedUid) (p : Path) (prior : Caps) (es : List Finding) : Type 0 where
    tree : TypedTree
    is : infer here (the_set us) prior 3 es ≡ (success tree no_caps, es)
    typed_so : annotation tree ≡ Some (TSet (TEntity (p ∷ [])))

  set_typed : (u : PlacedUid) (us : List PlacedUid) → is_action u.uid ≡ true → AllOf u.uid.entity_type (u ∷ us) → (prior : Caps) (es : List Finding)
      → SetTyped (u ∷ us) u.uid.entity_type prior es
  set_typed u us k h prior es =
      let t : Ty = TEntity (u.uid.entity_type ∷ []) in
      let ids = ids_typed u.uid.entity_type (u ∷ us) k h prior es in
      let f = set_form here.env (made l) in
      let bound : set_decides here.env l (map (λ v. Some t) (u ∷ us)) ≡ gives (TSet t) no_caps =
      ap (set_of_types here.env l) (all_there t (u ∷ us))
      ∙ ap (set_by_bound here.env l (map (λ v. t) (u ∷ us))) (bound_is t us) in
      record {
        tree = set_of (typed (TSet t) (made l)) (trees_of ids.trees);
        is =
            ap (λ z. infer_form f z.0 z.1) ids.is
            ∙ ap (λ ts. infer_decided f true ids.trees es (set_decides here.env l ts)) ids.types
            ∙ ap (infer_decided f true ids.trees es) bound;
        typed_so = refl;
      }

  in_false : (u : PlacedUid) (us : List PlacedUid) → is_action u.uid ≡ true → AllOf u.uid.entity_type (u ∷ us)
      → is_action_in acts d.action (map (λ v. v.uid) (u ∷ us)) ≡ false → (prior : Caps) (es : List Finding)
      → IsFalse (infer here (within_at l Var.Action (the_set (u ∷ us))) prior 2 es) es
  in_false u us k h apart prior es =
      let vs = map (λ v. v.uid) (u ∷ us) in
      let f = in_form here.env (made l) (var (made l) Var.Action) (the_set (u ∷ us)) in
      let action = var (typed own_type (made l)) Var.Action in
      let set = set_typed u us k h prior es in
      let right : List Finding → AnswerAndErrors = λ es'. infer here (the_set (u ∷ us)) prior 3 es' in
      let left : Option Ty → List Finding → AnswerAndErrors = λ o es'. (infer_leaf o (made l) (λ q. var q Var.Action), es') in
      let accepted : expect_type here.env ancestor_types l (part_with true no_caps set.tree) es (annotation set.tree) ≡ (Some (part_with true no_caps set.tree), es) =
      ap (expect_type here.env ancestor_types l (part_with true no_caps set.tree) es) set.typed_so in
      let second : infer_one_more here.env true (Some ancestor_types) l right infer_none es ≡ (all_typed true (set.tree ∷ []), es) =
      ap (λ z. infer_rest true (expect here.env ancestor_types l z).0 (expect here.env ancestor_types l z).1 infer_none) set.is
      ∙ ap (λ z. infer_rest true z.0 z.1 infer_none) accepted in
      let operands : infer_one_more here.env true (Some entity_types) l (left (Some own_type)) (infer_one_more here.env true (Some ancestor_types) l right infer_none) es
      ≡ (all_typed true (action ∷ set.tree ∷ []), es) =
      ap (λ z. (with_operand (part_with true no_caps action) z.0, z.1)) second in
      let decided : in_decides here.env (Some d.action) (entities_of env (listed (u ∷ us))) (Some own_type) (annotation set.tree) ≡ gives (TBool False) no_caps =
      ap (λ o. in_decides here.env (Some d.action) o (Some own_type) (annotation set.tree)) (entities_listed (u ∷ us))
      ∙ ap (λ b. if b then action_decides here.env d.action (only_actions vs) else entity_decides here.env (Some own_type) (annotation set.tree)) kind
      ∙ ap (λ b. if b then gives (bool_ty (is_action_in acts d.action (only_actions vs))) no_caps
      else if is_partial s.env.mode then gives (TBool AnyBool) no_caps else refuses (Some (TBool AnyBool)) []) (only_declared u.uid.entity_type (u ∷ us) h)
      ∙ ap (λ b. gives (bool_ty b) no_caps) (none_of_actions _ vs apart) in
      record {
        succeeded = true;
        tree = binary (typed (TBool False) (made l)) BinaryOp.In action set.tree;
        caps = no_caps;
        is =
            ap (λ o. infer_two_operands here.env f l l (left o) right es) typed_action
            ∙ ap (λ z. infer_form f z.0 z.1) operands
            ∙ ap (infer_decided f true (action ∷ set.tree ∷ []) es) decided;
        typed_false = refl;
      }

  pub action_false : (a : ActionScope) → admits acts a d.action ≡ false → names_alike acts a ≡ true → (prior : Caps) (es : List Finding)
      → IsFalse (infer here (action_scope_at l a) prior 2 es) es
  action_false any_action h n prior es = cc
  action_false (equal_action u) h n prior es = equal_false u h prior es
  action_false (within_actions []) h n prior es = cc
  action_false (within_actions (u ∷ us)) h n prior es =
      let k = and_left (is_action u.uid) _ n in
      in_false u us k (and_right (is_action u.uid) _ n) h prior es
