-- The scope's test of the principal in an environment of a declared action: typing finds no error, and the types say whether the
-- test is False and whether an `in` was typed.
use Rattle.std.proofs.Common.{◌≡◌, Bool, true, false, ◌&&◌, ◌||◌, not, if◌then◌else◌, List, [], ◌∷◌, ◌++◌, Option, Some, None, refl, sym, ◌∙◌, ap, subst}
use Rattle.cedar_types.specs.declared.base.errors.type_errors.LubContext.TheVariants.{Equality}
use Rattle.cedar_types.specs.declared.base.expressions.operators.BinaryOp.{BinaryOp}
use Rattle.cedar_types.specs.declared.base.expressions.operators.Var.{Var}
use Rattle.cedar_types.specs.declared.base.location.Loc.{Loc}
use Rattle.cedar_types.specs.declared.base.names.slots.SlotId.{SlotId}
use Rattle.cedar_types.specs.declared.base.types.BoolType.{BoolType}
use Rattle.cedar_types.specs.declared.base.types.BoolType.TheVariants.{AnyBool, False, True}
use Rattle.cedar_types.specs.declared.base.types.ValidationMode.{ValidationMode}
use Rattle.cedar_types.specs.Environments.{DeclaredEnv}
use Rattle.cedar_types.specs.Environments.RequestEnvs.{Declared, is_partial}
use Rattle.cedar_types.specs.Errors.{Finding}
use Rattle.cedar_types.specs.Expressions.Tree.{bool, entity, lit, var, slot, and, binary, is_type}
use Rattle.cedar_types.specs.Expressions.View.{of_type, of_uid, Written}
use Rattle.cedar_types.specs.Names.{Path, PlacedType, PlacedUid, path_eq}
use Rattle.cedar_types.specs.Schemas.{Schema}
use Rattle.cedar_types.specs.Templates.{Reference, to_entity, to_slot, Scope, any, equal, within, typed as typed_scope, typed_within}
use Rattle.cedar_types.specs.Templates.{made, uid_at, reference_at, scope_at, equal_at, within_at}
use Rattle.cedar_types.specs.Types.{Ty, TBool, TEntity}
use Rattle.cedar_types.specs.Types.Bounds.{is_strict}
use Rattle.cedar_types.specs.Types.Lookups.{declares_entity}
use Rattle.cedar_types.proofs.Bounds.Steps.{lub_same}
use Rattle.cedar_types.proofs.Comparisons.SameTypes.{path_to, path_itself}
use Rattle.cedar_typing.specs.Capabilities.{Caps, no_caps, union}
use Rattle.cedar_typing.specs.Composition.{in_env}
use Rattle.cedar_typing.specs.Eager.{Form, gives, gives_unless}
use Rattle.cedar_typing.specs.Infer.{infer}
use Rattle.cedar_typing.specs.Infer.Eager.{infer_decided, infer_one_operand, infer_two_operands}
use Rattle.cedar_typing.specs.Infer.Leaves.{infer_leaf}
use Rattle.cedar_typing.specs.Infer.Parts.{Part, AnswerAndErrors, part_with, answer_if, expect, after}
use Rattle.cedar_typing.specs.Infer.ShortCircuit.{infer_sides, infer_right}
use Rattle.cedar_typing.specs.Rules.Equality.{are_apart, equality_decides, equality_form}
use Rattle.cedar_typing.specs.Rules.Leaves.{known_entity_type, type_of_literal, linked_ty}
use Rattle.cedar_typing.specs.Rules.Membership.{may_be_among, types_of_entity, types_of_ancestors, in_form}
use Rattle.cedar_typing.specs.PolicyCheck.Outcome.{Adds}
use Rattle.cedar_typing.specs.Rules.ShortCircuit.{conjunction, sides_type, sides_caps}
use Rattle.cedar_typing.specs.Rules.Unary.{is_form}
use Rattle.cedar_typing.specs.Setting.{Setting}
use Rattle.cedar_typing.specs.TypeEnv.{TypeEnv}
use Rattle.cedar_typing.specs.TypeTests.{bool_types, is_false}
use Rattle.cedar_typing.specs.TypeTests.Joins.{bound_errors, strict_errors}
use Rattle.cedar_typing.specs.TypedExpr.{Source, TypedTree, typed, annotation, at_place}
use Rattle.cedar_typing.proofs.Basics.{or_left}
use Rattle.cedar_typing.proofs.Representatives.Booleans.{bool_accepted}
use Rattle.cedar_typing.proofs.Representatives.Decide.{right_ends}
use Rattle.cedar_typing.proofs.Representatives.PrincipalTests.{goes_on, both_sides}
use Rattle.cedar_typechecker.specs.LeftOut.{has_type, may_equal, visits_in_beside}
use Rattle.cedar_typechecker.specs.Levels.Demands.{Demand, Surroundings, add_demands}
use Rattle.cedar_typechecker.proofs.LeftOut.Asked.{demand_at, asked, AddsIf, adds_none, and_adds}

-- ---- answers of tests

-- a test is typed without an error. `visits` says whether an `in` is typed, by whether the test beside it has one
pub record IsTest (l : Option Loc) (r : AnswerAndErrors) (visits : Bool → Bool) : Type 0 where
  pub succeeded : Bool
  pub tree : TypedTree
  pub caps : Caps
  pub is : r ≡ (answer_if succeeded tree caps, [])
  pub kind : BoolType
  pub kind_of : annotation tree ≡ Some (TBool kind)
  -- the test has an `in` of its own
  pub own : Bool
  pub demanded : AddsIf l own tree
  pub demanded_there : AddsIf l own (at_place l tree)
  pub visited : (lists : Bool) → (own || (not (is_false (TBool kind)) && lists)) ≡ visits lists

-- the part of a Boolean answer
abbrev pub part_of : Bool → TypedTree → Caps → Part
part_of true x c = part_with true c x
part_of false x c = part_with false no_caps x

pub expected : (env : TypeEnv) (l : Option Loc) (b : Bool) (x : TypedTree) (c : Caps) (k : BoolType)
    → annotation x ≡ Some (TBool k) → expect env bool_types l (answer_if b x c, []) ≡ (Some (part_of b x c), [])
expected env l true x c k e = bool_accepted env l (part_with true c x) [] (annotation x) k e
expected env l false x c k e = bool_accepted env l (part_with false no_caps x) [] (annotation x) k e

pub part_tree : (b : Bool) (x : TypedTree) (c : Caps) → (part_of b x c).tree ≡ x
part_tree true x c = refl
part_tree false x c = refl

-- ---- truth values

either_way : (b : Bool) → ◌≡◌ {A = List Finding} (if b then [] else []) []
either_way true = refl
either_way false = refl

and_true : (a : Bool) → a ≡ (a && true)
and_true true = refl
and_true false = refl

and_false : (a : Bool) → false ≡ (a && false)
and_false true = refl
and_false false = refl

or_true : (a : Bool) → (a || true) ≡ true
or_true true = refl
or_true false = refl

-- beside True the type of the right side is that of the whole
right_of_true : (k : BoolType) → sides_type conjunction (TBool True) (TBool k) ≡ TBool k
right_of_true AnyBool = refl
right_of_true False = refl
right_of_true True = refl

alone : (a b : Bool) → (a || (b && false)) ≡ true → a ≡ true
alone true b h = refl
alone false true h = h
alone false false h = h

-- ---- the test in an environment

module _ (s : Setting) (d : DeclaredEnv) (ps rs : Option Path) (l : Option Loc) where
  abbrev here : Setting
  here = in_env s (Declared d ps rs)

  abbrev schema : Schema
  schema = s.env.schema

  abbrev mode : ValidationMode
  mode = s.env.mode

  abbrev own_type : Ty
  own_type = TEntity (d.principal ∷ [])

  abbrev principal : TypedTree
  principal = var (typed own_type (made l)) Var.Principal

  abbrev named : Reference → Source
  named r = reference_at l SlotId.Principal r

  -- the type of an entity literal, which the schema or the mode knows
  found_type : (q : Path) (known partial : Bool)
      → known_entity_type (if known then Some (TEntity (q ∷ [])) else None) (if partial then Some (TEntity (q ∷ [])) else None)
      ≡ (if known || partial then Some (TEntity (q ∷ [])) else None)
  found_type q true partial = refl
  found_type q false partial = refl

  literal_found : (u : PlacedUid)
      → type_of_literal here.env (entity u.uid) ≡ (if has_type schema mode u.uid then Some (TEntity (u.uid.entity_type ∷ [])) else None)
  literal_found u = found_type u.uid.entity_type (declares_entity schema u.uid) (is_partial mode)

  -- ---- `principal == x`

  -- one type has a bound with itself, so there is no error
  no_errors : (q : Path) → d.principal ≡ q → strict_errors here.env l Equality (Some own_type) (Some (TEntity (q ∷ []))) ≡ []
  no_errors q e =
      ap (λ z. strict_errors here.env l Equality (Some own_type) (Some (TEntity (z ∷ [])))) (sym e)
      ∙ (λ i. if is_strict mode then bound_errors here.env l Equality own_type own_type (lub_same mode own_type i) else [])
      ∙ either_way (is_strict mode)

  -- two types of one name are not disjoint
  not_apart : (q : Path) → path_eq d.principal q ≡ true → are_apart (Some own_type) (Some (TEntity (q ∷ []))) ≡ false
  not_apart q e = ap (λ b. not ((b || false) || false)) e

  module _ (u : PlacedUid) where
    abbrev at : Written
    at = record { place = l; names = of_uid u.place u.type_place }

    abbrev form : Form
    form = equality_form here.env (made l) (var (made l) Var.Principal) (uid_at l u)

    abbrev sides : Option Ty → AnswerAndErrors
    sides o =
        infer_two_operands here.env form l l
        (λ es. (infer_leaf (Some own_type) (made l) (λ q. var q Var.Principal), es))
        (λ es. (infer_leaf o at (λ q. lit q (entity u.uid)), es)) []

    abbrev literal : Option Ty → TypedTree
    literal o = lit (record { ty = o; at = at }) (entity u.uid)

    abbrev compared : Option Ty → Ty → TypedTree
    compared o t = binary (typed t (made l)) BinaryOp.Eq principal (literal o)

    abbrev name : Path
    name = u.uid.entity_type

    abbrev found : Ty
    found = TEntity (name ∷ [])

    -- by whether the literal has a type
    unknown : IsTest l (sides None) (λ lists. lists && (path_eq d.principal name || not false))
    unknown = record {
      succeeded = false;
      tree = compared None (TBool AnyBool);
      caps = no_caps;
      is = ap (λ es. infer_decided form false (principal ∷ literal None ∷ []) [] (gives_unless es (TBool AnyBool))) (either_way (is_strict mode));
      kind = AnyBool;
      kind_of = refl;
      own = false;
      demanded = λ z ds. adds_none l ds;
      demanded_there = λ z ds. adds_none l ds;
      visited = λ lists. and_true lists ∙ ap (λ b. lists && b) (sym (or_true (path_eq d.principal name)));
    }

    -- by whether that is the principal's type
    known : (c : Bool) → path_eq d.principal name ≡ c → IsTest l (sides (Some found)) (λ lists. lists && (path_eq d.principal name || not true))
    known false e = record {
      succeeded = true;
      tree = compared (Some found) (TBool False);
      caps = no_caps;
      is =
          ap (λ b. infer_decided form true (principal ∷ literal (Some found) ∷ []) []
          (equality_decides here.env l (if not ((b || false) || false) then TBool False else TBool AnyBool) (Some own_type) (Some found))) e;
      kind = False;
      kind_of = refl;
      own = false;
      demanded = λ z ds. adds_none l ds;
      demanded_there = λ z ds. adds_none l ds;
      visited = λ lists. and_false lists ∙ ap (λ b. lists && (b || false)) (sym e);
    }
    known true e = record {
      succeeded = true;
      tree = compared (Some found) (TBool AnyBool);
      caps = no_caps;
      is =
          ap (λ b. infer_decided form true (principal ∷ literal (Some found) ∷ []) []
          (equality_decides here.env l (if not ((b || false) || false) then TBool False else TBool AnyBool) (Some own_type) (Some found))) e
          ∙ ap (λ es. infer_decided form true (principal ∷ literal (Some found) ∷ []) [] (gives_unless es (TBool AnyBool)))
          (no_errors name (path_to d.principal name e));
      kind = AnyBool;
      kind_of = refl;
      own = false;
      demanded = λ z ds. adds_none l ds;
      demanded_there = λ z ds. adds_none l ds;
      visited = λ lists. and_true lists ∙ ap (λ b. lists && (b || false)) (sym e);
    }

    by_type : (b : Bool) → IsTest l (sides (if b then Some found else None)) (λ lists. lists && (path_eq d.principal name || not b))
    by_type false = unknown
    by_type true = known (path_eq d.principal name) refl

    equal_entity : IsTest l (infer here (equal_at l Var.Principal (uid_at l u)) no_caps 2 [])
        (λ lists. lists && may_equal schema mode (to_entity u) d.principal)
    equal_entity =
        subst (λ o. IsTest l (sides o) (λ lists. lists && may_equal schema mode (to_entity u) d.principal)) (sym (literal_found u))
        (by_type (has_type schema mode u.uid))

  -- a slot that is linked to the principal's own type
  abbrev slot_form : Form
  slot_form = equality_form here.env (made l) (var (made l) Var.Principal) (slot (made l) SlotId.Principal)

  abbrev slot_sides : Ty → AnswerAndErrors
  slot_sides t =
      infer_two_operands here.env slot_form l l
      (λ es. (infer_leaf (Some own_type) (made l) (λ q. var q Var.Principal), es))
      (λ es. (infer_leaf (Some t) (made l) (λ q. slot q SlotId.Principal), es)) []

  abbrev slotted : Ty → TypedTree
  slotted t = slot (typed t (made l)) SlotId.Principal

  equal_slot : ps ≡ Some d.principal
      → IsTest l (infer here (equal_at l Var.Principal (slot (made l) SlotId.Principal)) no_caps 2 []) (λ lists. lists && true)
  equal_slot e = subst (λ o. IsTest l (slot_sides (linked_ty o)) (λ lists. lists && true)) (sym e) (record {
    succeeded = true;
    tree = binary (typed (TBool AnyBool) (made l)) BinaryOp.Eq principal (slotted own_type);
    caps = no_caps;
    is =
        ap (λ b. infer_decided slot_form true (principal ∷ slotted own_type ∷ []) []
        (equality_decides here.env l (if b then TBool False else TBool AnyBool) (Some own_type) (Some own_type)))
        (not_apart d.principal (path_itself d.principal))
        ∙ ap (λ es. infer_decided slot_form true (principal ∷ slotted own_type ∷ []) [] (gives_unless es (TBool AnyBool)))
        (no_errors d.principal refl);
    kind = AnyBool;
    kind_of = refl;
    own = false;
    demanded = λ z ds. adds_none l ds;
    demanded_there = λ z ds. adds_none l ds;
    visited = λ lists. and_true lists;
  })

  -- ---- `principal in x`

  -- a tree that demands nothing
  abbrev IsPlain : TypedTree → Type 0
  IsPlain x = (z : Surroundings) (ds : List Demand) → add_demands z x 0 ds ≡ ds

  module _ (source : Source) (right : TypedTree) (plain : IsPlain right) where
    abbrev among : Form
    among = in_form here.env (made l) (var (made l) Var.Principal) source

    abbrev within_tree : Ty → TypedTree
    within_tree t = binary (typed t (made l)) BinaryOp.In principal right

    in_adds : (z : Surroundings) (ds : List Demand) → Adds ds (asked l true) (add_demands z right 0 (ds ++ demand_at l ∷ []))
    in_adds z ds =
        subst (λ es. Adds ds (asked l true) es) (sym (plain z (ds ++ demand_at l ∷ []))) (λ k. (λ i. i, λ i. i))

    -- by whether both operands succeeded, and whether the schema allows it
    in_test : (b c : Bool)
        → IsTest l (infer_decided among b (principal ∷ right ∷ []) [] (gives (if c then TBool AnyBool else TBool False) no_caps))
        (λ lists. true)
    in_test false c = record {
      succeeded = false;
      tree = within_tree (TBool AnyBool);
      caps = no_caps;
      is = refl;
      kind = AnyBool;
      kind_of = refl;
      own = true;
      demanded = λ z ds. in_adds z ds;
      demanded_there = λ z ds. in_adds z ds;
      visited = λ lists. refl;
    }
    in_test true true = record {
      succeeded = true;
      tree = within_tree (TBool AnyBool);
      caps = no_caps;
      is = refl;
      kind = AnyBool;
      kind_of = refl;
      own = true;
      demanded = λ z ds. in_adds z ds;
      demanded_there = λ z ds. in_adds z ds;
      visited = λ lists. refl;
    }
    in_test true false = record {
      succeeded = true;
      tree = within_tree (TBool False);
      caps = no_caps;
      is = refl;
      kind = False;
      kind_of = refl;
      own = true;
      demanded = λ z ds. in_adds z ds;
      demanded_there = λ z ds. in_adds z ds;
      visited = λ lists. refl;
    }

  abbrev may_be : Option Ty → Bool
  may_be o = may_be_among schema (types_of_entity (Some own_type)) (types_of_ancestors o)

  abbrev in_entity_sides : PlacedUid → Option Ty → AnswerAndErrors
  in_entity_sides u o =
      infer_two_operands here.env (in_form here.env (made l) (var (made l) Var.Principal) (uid_at l u)) l l
      (λ es. (infer_leaf (Some own_type) (made l) (λ q. var q Var.Principal), es))
      (λ es. (infer_leaf o (at u) (λ q. lit q (entity u.uid)), es)) []

  in_entity : (u : PlacedUid) → IsTest l (in_entity_sides u (type_of_literal here.env (entity u.uid))) (λ lists. true)
  in_entity u = subst (λ o. IsTest l (in_entity_sides u o) (λ lists. true)) (sym (literal_found u)) (by_type_of (has_type schema mode u.uid))
    where
      by_type_of : (b : Bool) → IsTest l (in_entity_sides u (if b then Some (found u) else None)) (λ lists. true)
      by_type_of false = in_test (uid_at l u) (literal u None) (λ z ds. refl) false (may_be None)
      by_type_of true = in_test (uid_at l u) (literal u (Some (found u))) (λ z ds. refl) true (may_be (Some (found u)))

  abbrev in_slot_sides : Option Path → AnswerAndErrors
  in_slot_sides o =
      infer_two_operands here.env (in_form here.env (made l) (var (made l) Var.Principal) (slot (made l) SlotId.Principal)) l l
      (λ es. (infer_leaf (Some own_type) (made l) (λ q. var q Var.Principal), es))
      (λ es. (infer_leaf (Some (linked_ty o)) (made l) (λ q. slot q SlotId.Principal), es)) []

  in_slot : (o : Option Path) → IsTest l (in_slot_sides o) (λ lists. true)
  in_slot None = in_test (slot (made l) SlotId.Principal) (slotted (linked_ty None)) (λ z ds. refl) true (may_be (Some (linked_ty None)))
  in_slot (Some p) =
      in_test (slot (made l) SlotId.Principal) (slotted (linked_ty (Some p))) (λ z ds. refl) true (may_be (Some (linked_ty (Some p))))

  within_two : (r : Reference) (prior : Caps) → IsTest l (infer here (within_at l Var.Principal (named r)) prior 2 []) (λ lists. true)
  within_two (to_entity u) prior = in_entity u
  within_two to_slot prior = in_slot ps

  within_three : (r : Reference) (prior : Caps) → IsTest l (infer here (within_at l Var.Principal (named r)) prior 3 []) (λ lists. true)
  within_three (to_entity u) prior = in_entity u
  within_three to_slot prior = in_slot ps

  -- ---- `principal is T`, and with an `in`

  module _ (n : PlacedType) where
    abbrev is_at : Written
    is_at = record { place = l; names = of_type n.place }

    abbrev is_tree : Ty → TypedTree
    is_tree t = is_type (typed t is_at) principal n.name

    abbrev typed_answer : AnswerAndErrors
    typed_answer =
        infer_one_operand here.env (is_form is_at n.name) l
        (λ es. (infer_leaf (Some own_type) (made l) (λ q. var q Var.Principal), es)) []

    typed_is : (c : Bool) → path_eq n.name d.principal ≡ c
        → typed_answer ≡ (answer_if true (is_tree (if c then TBool True else TBool False)) no_caps, [])
    typed_is c e =
        ap (λ b. infer_decided (is_form is_at n.name) true (principal ∷ []) [] (gives (if not (b || false) then TBool False else TBool True) no_caps)) e
        ∙ by_test c
      where
        by_test : (b : Bool)
            → infer_decided (is_form is_at n.name) true (principal ∷ []) [] (gives (if not (b || false) then TBool False else TBool True) no_caps)
            ≡ (answer_if true (is_tree (if b then TBool True else TBool False)) no_caps, [])
        by_test true = refl
        by_test false = refl

    is_test : (c : Bool) → path_eq n.name d.principal ≡ c → IsTest l typed_answer (λ lists. lists && path_eq n.name d.principal)
    is_test false e = record {
      succeeded = true;
      tree = is_tree (TBool False);
      caps = no_caps;
      is = typed_is false e;
      kind = False;
      kind_of = refl;
      own = false;
      demanded = λ z ds. adds_none l ds;
      demanded_there = λ z ds. adds_none l ds;
      visited = λ lists. and_false lists ∙ ap (λ b. lists && b) (sym e);
    }
    is_test true e = record {
      succeeded = true;
      tree = is_tree (TBool True);
      caps = no_caps;
      is = typed_is true e;
      kind = True;
      kind_of = refl;
      own = false;
      demanded = λ z ds. adds_none l ds;
      demanded_there = λ z ds. adds_none l ds;
      visited = λ lists. and_true lists ∙ ap (λ b. lists && b) (sym e);
    }

    module _ (r : Reference) where
      abbrev right : Caps → List Finding → AnswerAndErrors
      right = λ known es. infer here (within_at l Var.Principal (named r)) known 3 es

      abbrev after_typed : AnswerAndErrors → AnswerAndErrors
      after_typed o = after (expect here.env bool_types l o) (λ p es. infer_right here.env conjunction (made l) l no_caps p es right)

      abbrev left_part : Ty → Part
      left_part t = part_with true no_caps (is_tree t)

      -- the test of the type is False, and is the whole copy
      ended : path_eq n.name d.principal ≡ false → IsTest l (after_typed typed_answer) (λ lists. path_eq n.name d.principal)
      ended e = record {
        succeeded = true;
        tree = at_place l (is_tree (TBool False));
        caps = no_caps;
        is =
            ap after_typed (typed_is false e)
            ∙ right_ends here.env (made l) l no_caps (left_part (TBool False)) [] right refl;
        kind = False;
        kind_of = refl;
        own = false;
        demanded = λ z ds. adds_none l ds;
        demanded_there = λ z ds. adds_none l ds;
        visited = λ lists. sym e;
      }

      -- both tests are typed
      both : path_eq n.name d.principal ≡ true → IsTest l (after_typed typed_answer) (λ lists. path_eq n.name d.principal)
      both e =
          let p = left_part (TBool True) in
          let b = within_three r (union no_caps no_caps) in
          let q = part_of b.succeeded b.tree b.caps in
          let same = part_tree b.succeeded b.tree b.caps in
          let of_right : expect here.env bool_types l (right (union no_caps no_caps) []) ≡ (Some q, []) =
          ap (expect here.env bool_types l) b.is ∙ expected here.env l b.succeeded b.tree b.caps b.kind b.kind_of in
          let kind_of_right : annotation q.tree ≡ Some (TBool b.kind) = ap annotation same ∙ b.kind_of in
          let t = sides_type conjunction (TBool True) (TBool b.kind) in
          let whole : TypedTree = and (typed t (made l)) p.tree q.tree in
          let adds : AddsIf l (false || b.own) whole =
          and_adds l false b.own (typed t (made l)) p.tree q.tree (λ z ds. adds_none l ds) (subst (AddsIf l b.own) (sym same) b.demanded) in
          record {
            succeeded = true && q.succeeded;
            tree = whole;
            caps = sides_caps conjunction (TBool True) (TBool b.kind) no_caps q.capabilities;
            is =
                ap after_typed (typed_is true e)
                ∙ goes_on here.env (made l) l no_caps p [] right refl
                ∙ ap (λ z. after z (λ w es. (infer_sides conjunction (made l) p w (annotation p.tree) (annotation w.tree), es))) of_right
                ∙ ap (λ a. (a, [])) (both_sides here.env (made l) l no_caps p [] right q True b.kind refl kind_of_right);
            kind = b.kind;
            kind_of = ap Some (right_of_true b.kind);
            own = b.own;
            demanded = adds;
            demanded_there = adds;
            visited = λ lists. or_left b.own _ (alone b.own (not (is_false (TBool b.kind))) (b.visited false)) ∙ sym e;
          }

      typed_within_test : (c : Bool) → path_eq n.name d.principal ≡ c → IsTest l (after_typed typed_answer) (λ lists. path_eq n.name d.principal)
      typed_within_test false e = ended e
      typed_within_test true e = both e

  -- ---- the test

  pub principal_test : (c : Scope) → (c ≡ equal to_slot → ps ≡ Some d.principal)
      → IsTest l (infer here (scope_at l Var.Principal SlotId.Principal c) no_caps 2 []) (λ lists. visits_in_beside schema mode lists c d.principal)
  principal_test any own = record {
    succeeded = true;
    tree = lit (typed (TBool True) (made l)) (bool true);
    caps = no_caps;
    is = refl;
    kind = True;
    kind_of = refl;
    own = false;
    demanded = λ z ds. adds_none l ds;
    demanded_there = λ z ds. adds_none l ds;
    visited = λ lists. refl;
  }
  principal_test (equal (to_entity u)) own = equal_entity u
  principal_test (equal to_slot) own = equal_slot (own refl)
  principal_test (within r) own = within_two r no_caps
  principal_test (typed_scope n) own = is_test n (path_eq n.name d.principal) refl
  principal_test (typed_within n r) own = typed_within_test n r (path_eq n.name d.principal) refl
