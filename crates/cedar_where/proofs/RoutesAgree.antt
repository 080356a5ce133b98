-- Paths of attributes: columns and parameters hold the values at their ends.
use Rattle.std.proofs.Common.{◌≡◌, Bool, true, false, ◌&&◌, ◌||◌, List, [], ◌∷◌, ◌++◌, Option, Some, None, option_map, if◌then◌else◌, refl, sym, ap, subst, ◌∙◌}
use Rattle.cedar_types.specs.declared.base.expressions.operators.Var.{Var}
use Rattle.cedar_types.specs.Environments.{DeclaredEnv}
use Rattle.cedar_types.specs.Expressions.Tree.{entity, lit, var, get_attr}
use Rattle.cedar_types.specs.Lemmas.Comparisons.{path_same}
use Rattle.cedar_types.specs.Names.{Text, Path, Uid, path_eq}
use Rattle.cedar_types.specs.Schemas.{Schema, type_named}
use Rattle.cedar_types.specs.Types.{Ty, TRecord, TEntity, Attrs}
use Rattle.cedar_types.specs.Types.Bounds.{find_attr}
use Rattle.cedar_types.specs.Types.Lookups.{attribute_type, declared_attribute}
use Rattle.cedar_types.specs.Values.{Value, VBool, VEntity, VRecord, Entries, entry_at, HasType, HasAttr}
use Rattle.cedar_types.specs.Values.Stores.{Entity, Store, ConformingStore, entity_at}
use Rattle.cedar_typing.proofs.Basics.{or_cases, not_true, none_is}
use Rattle.cedar_typing.proofs.Bounds.Attributes.{AttrAt, found_at}
use Rattle.cedar_typing.specs.Evaluation.Conformance.{FitsRequest}
use Rattle.cedar_typing.specs.Evaluation.Eval.{eval, get, has_test, path_test, attribute_value, entity_get, entity_has, variable_value}
use Rattle.cedar_typing.specs.Evaluation.Outcomes.{Test, Says, Stops, and_test, of_test, then_test, on_value}
use Rattle.cedar_typing.specs.Evaluation.World.{Failure, World, Outcome, Gives, Fails}
use Rattle.cedar_typing.specs.TypedExpr.{TypedTree}
use Rattle.cedar_where.specs.Compiled.{Kind, KBool, KEntity, Term, entity_kind, column_kind, value_of_kind, value_at}
use Rattle.cedar_where.specs.Compiled.{attribute_term, has_value, has_guarded, has_behind, has_term}
use Rattle.cedar_where.specs.Routes.{Origin, FromVariable, FromRow, FromEntity, Route, sql_at, is_plain, may_follow, is_record, entity_type_of}
use Rattle.cedar_where.specs.Routes.{is_followed, leaves_row, beyond, longer_from, longer, next_route, follow, own_route, resource_route}
use Rattle.cedar_where.specs.Routes.{literal_route, behind, route}
use Rattle.cedar_where.specs.Rows.{IsRowOf, along, outcome_cell}
use Rattle.cedar_where.specs.Scopes.{scope_at}
use Rattle.cedar_where.specs.Sql.{Cell, Null, Data, sql_text, value, uid, found_cell, case_cell, not_null_cell}
use Rattle.cedar_where.proofs.ColumnsAgree.{OfKind, typed_value, absent, declaration_at, gives, some_gives, has_answer, has_right}
use Rattle.cedar_where.proofs.Parts.{there, gone, Agree, OnTerm, IsRight, loose, left_gone, not_null_held}

-- an outcome at the end of a path: a value of the type, or a failure, if there may be none
abbrev pub Ends : Ty → Bool → Outcome → Type 0
Ends t r (Gives v) = HasType t v
Ends t r (Fails f) = r ≡ false

-- an entity has an attribute exactly if it gives a value
stored_gives : (x : Text) (o : Option Entity) → entity_has o x ≡ gives (entity_get o x)
stored_gives x None = refl
stored_gives x (Some n) = some_gives (entry_at x n.attributes)

-- ---- one attribute more

module _ (s : Schema) (store : Store) (conforms : ConformingStore s store) (x : Text) (a : Ty × Bool) where
  abbrev Next : Bool → Outcome → Type 0
  Next r o = Ends a.0 r o

  of_entries : (o : Option Value) → HasAttr a.1 (HasType a.0) o → Next a.1 (attribute_value o)
  of_entries None h = not_true a.1 h
  of_entries (Some v) h = h

  of_record : (xs : Attrs) (es : Entries) → find_attr x xs ≡ Some a → AttrAt (find_attr x xs) (entry_at x es)
      → Next a.1 (attribute_value (entry_at x es))
  of_record xs es e h = of_entries (entry_at x es) (subst (λ o. AttrAt o (entry_at x es)) e h)

  -- of an entity nothing is always there
  looser : (r : Bool) (o : Outcome) → Next r o → Next false o
  looser r (Gives v) h = h
  looser r (Fails f) h = refl

  of_entity : (p : Path) (u : Uid) → u.entity_type ≡ p → declared_attribute s.types x p ≡ Some a
      → (o : Option Entity) → entity_at store u ≡ o → Next false (entity_get o x)
  of_entity p u q e None h = refl
  of_entity p u q e (Some n) h =
      let is_declared = declaration_at s x (type_named s.types u.entity_type) u n (conforms.entities u n h) in
      let found : declared_attribute s.types x u.entity_type ≡ Some a = ap (declared_attribute s.types x) q ∙ e in
      looser a.1 (attribute_value (entry_at x n.attributes))
      (of_entries (entry_at x n.attributes) (subst (λ o. AttrAt o (entry_at x n.attributes)) found is_declared))

  of_value : (t : Ty) (v : Value) → is_followed t ≡ true → attribute_type s t x ≡ Some a → HasType t v
      → Next (is_record t && a.1) (get store x v)
  of_value (TRecord xs o) (VRecord es) f e h = of_record xs es e (found_at x xs es h.0)
  of_value (TRecord xs o) v f e h = absurd h
  of_value (TEntity (p ∷ [])) (VEntity u) f e h =
      or_cases (path_eq u.entity_type p) false (Next false (get store x (VEntity u)))
      (λ q. of_entity p u (path_same.to u.entity_type p q) e (entity_at store u) refl) (λ q. cc) h
  of_value (TEntity (p ∷ [])) v f e h = absurd h
  of_value t v f e h = cc

  goes_on : (t : Ty) (r : Bool) (o : Outcome) → is_followed t ≡ true → attribute_type s t x ≡ Some a → Ends t r o
      → Next (r && (is_record t && a.1)) (on_value o (get store x))
  goes_on t true (Gives v) f e h = of_value t v f e h
  goes_on t false (Gives v) f e h = looser (is_record t && a.1) (get store x v) (of_value t v f e h)
  goes_on t r (Fails g) f e h = left_gone r (is_record t && a.1) h

  -- whether there is a value is what `has` tells of the value before
  has_there : (t : Ty) (v : Value) → is_followed t ≡ true → HasType t v
      → has_test store x v ≡ Says (gives (get store x v))
  has_there (TRecord xs o) (VRecord es) f h = ap Says (some_gives (entry_at x es))
  has_there (TRecord xs o) v f h = absurd h
  has_there (TEntity (p ∷ [])) (VEntity u) f h = ap Says (stored_gives x (entity_at store u))
  has_there (TEntity (p ∷ [])) v f h = absurd h
  has_there t v f h = cc

-- ---- paths

-- the last attribute of a path is read from the value before it
along_last : (store : Store) (xs : List Text) (x : Text) (o : Outcome)
    → along store (xs ++ x ∷ []) o ≡ on_value (along store xs o) (get store x)
along_last store [] x o = refl
along_last store (y ∷ ys) x o = along_last store ys x (on_value o (get store y))

-- a failure stays
along_fails : (store : Store) (xs : List Text) (f : Failure) → along store xs (Fails f) ≡ Fails f
along_fails store [] f = refl
along_fails store (x ∷ xs) f = along_fails store xs f

ends_agree : (t : Ty) (r : Bool) (o : Outcome) → Ends t r o → OfKind r o (outcome_cell o) (column_kind t)
ends_agree t r (Gives v) h = typed_value r t v h
ends_agree t r (Fails f) h = absent f r h (column_kind t)

-- the kind of entities of one type
kind_is : (t : Ty) (p : Path) → entity_type_of t ≡ Some p → column_kind t ≡ Some (KEntity p)
kind_is (TEntity ps) p e = ap entity_kind e
kind_is t p e = absurd (none_is e)

entity_agrees : (t : Ty) (r : Bool) (p : Path) → entity_type_of t ≡ Some p → (o : Outcome) → Ends t r o
    → Agree (KEntity p) false o (outcome_cell o)
entity_agrees t r p e o h =
    loose (KEntity p) r o (outcome_cell o) (subst (OfKind r o (outcome_cell o)) (kind_is t p e) (ends_agree t r o h))

module _ (s : Schema) (env : DeclaredEnv) (world : World) (fits : FitsRequest env world.request)
    (conforms : ConformingStore s world.store) (d : Data) (row : IsRowOf world d) where
  -- the outcome at the beginning of a path
  abbrev IsBase : Origin → Outcome → Type 0
  IsBase (FromVariable v) o = o ≡ Gives (variable_value world.request v)
  IsBase FromRow o = o ≡ Gives (VEntity world.request.resource)
  IsBase (FromEntity p a) o = Agree (KEntity p) false o (value d a)

  -- the outcome is that of the path
  abbrev IsAlong : Outcome → Route → Type 0
  IsAlong o r =
      (base : Outcome) × IsBase r.origin base × (o ≡ along world.store r.path base) × Ends r.end r.is_total o

  abbrev pub OnRoute : Outcome → Option Route → Type 0
  OnRoute o None = Unit {0}
  OnRoute o (Some r) = IsAlong o r

  abbrev along_cell : List Text → Outcome → Cell
  along_cell xs o = outcome_cell (along world.store xs o)

  -- the cell at the end of a path
  at_end : (g : Origin) (xs : List Text) (base : Outcome) → IsBase g base → value d (sql_at g xs) ≡ along_cell xs base
  at_end (FromVariable v) xs base h = row.parameters v xs ∙ ap (along_cell xs) (sym h)
  at_end FromRow xs base h = row.columns xs ∙ ap (along_cell xs) (sym h)
  at_end (FromEntity p a) xs base (there t, q, c) =
      ap (found_cell (λ z. d.stored (uid p z) xs)) c ∙ row.tables (uid p t) xs ∙ ap (along_cell xs) (sym q)
  at_end (FromEntity p a) xs base (gone f e, q, c) =
      ap (found_cell (λ z. d.stored (uid p z) xs)) c
      ∙ ap outcome_cell (sym (along_fails world.store xs f))
      ∙ ap (along_cell xs) (sym q)

  cell_is : (o : Outcome) (r : Route) → IsAlong o r → value d (sql_at r.origin r.path) ≡ outcome_cell o
  cell_is o r h = at_end r.origin r.path h.0 h.1 ∙ ap outcome_cell (sym h.2)

  module _ (x : Text) where
    abbrev then_get : Outcome → Outcome
    then_get o = on_value o (get world.store x)

    next_along : (o : Outcome) (r : Route) → is_followed r.end ≡ true → IsAlong o r
        → (f : Option (Ty × Bool)) → attribute_type s r.end x ≡ f → OnRoute (then_get o) (option_map (longer r x) f)
    next_along o r g h None e = tt
    next_along o r g h (Some a) e = by (entity_type_of r.end) refl
      where
        ends : Ends a.0 (r.is_total && (is_record r.end && a.1)) (then_get o)
        ends = goes_on s world.store conforms x a r.end r.is_total o g e h.3

        stays : IsAlong (then_get o) (longer_from r x a (r.origin, r.path))
        stays = (h.0, h.1, ap then_get h.2 ∙ sym (along_last world.store r.path x h.0), ends)

        leaves : (p : Path) → entity_type_of r.end ≡ Some p
            → IsAlong (then_get o) (longer_from r x a (FromEntity p (sql_at r.origin r.path), []))
        leaves p k =
            let z = entity_agrees r.end r.is_total p k o h.3 in
            (o, (z.0, z.1, cell_is o r h ∙ z.2), refl, ends)

        by : (p : Option Path) → entity_type_of r.end ≡ p
            → IsAlong (then_get o) (longer_from r x a (beyond r.origin r.path p))
        by None k = stays
        by (Some p) k = either (leaves_row r.origin r.path)
          where
            either : (b : Bool)
                → IsAlong (then_get o)
                (longer_from r x a (if b then (FromEntity p (sql_at r.origin r.path), []) else (r.origin, r.path)))
            either true = leaves p k
            either false = stays

    pub next_right : (o : Outcome) (r : Option Route) → OnRoute o r → OnRoute (then_get o) (next_route s x r)
    next_right o None h = tt
    next_right o (Some r) h = by (may_follow r.origin x) (is_followed r.end) refl
      where
        by : (w g : Bool) → is_followed r.end ≡ g
            → OnRoute (then_get o)
            (if w && g then option_map (longer r x) (attribute_type s r.end x) else None)
        by true true e = next_along o r e h (attribute_type s r.end x) refl
        by true false e = tt
        by false g e = tt

    -- ---- the resource's own attribute, which is as its type declares it

    declared : AttrAt (declared_attribute s.types x env.resource) (entry_at x row.entity.attributes)
    declared =
        subst (λ p. AttrAt (declared_attribute s.types x p) (entry_at x row.entity.attributes)) fits.resource
        (declaration_at s x (type_named s.types world.request.resource.entity_type) world.request.resource row.entity
        (conforms.entities world.request.resource row.entity row.stored))

    abbrev own_outcome : Outcome
    own_outcome = entity_get (entity_at world.store world.request.resource) x

    own_along : (f : Option (Ty × Bool)) → AttrAt f (entry_at x row.entity.attributes)
        → OnRoute own_outcome (option_map (own_route x) f)
    own_along None h = tt
    own_along (Some a) h = (
      Gives (VEntity world.request.resource),
      refl,
      refl,
      subst (Ends a.0 a.1) (sym (ap (λ q. entity_get q x) row.stored))
          (of_entries s world.store conforms x a (entry_at x row.entity.attributes) h),
    )

    resource_right : OnRoute own_outcome (resource_route (scope_at s env) x)
    resource_right = by (is_plain x)
      where
        by : (b : Bool)
            → OnRoute own_outcome
            (if b then option_map (own_route x) (declared_attribute s.types x env.resource) else None)
        by true = own_along (declared_attribute s.types x env.resource) declared
        by false = tt

    pub behind_right : (a : TypedTree) (r : Option Route) → OnRoute (eval world a) r
        → OnRoute (then_get (eval world a)) (behind (scope_at s env) a x r)
    behind_right (var m Var.Resource) r h = resource_right
    behind_right a r h = next_right (eval world a) r h

  one_of : (p q : Path) → p ≡ q → (path_eq p q || false) ≡ true
  one_of p q e = subst (λ z. (path_eq p z || false) ≡ true) e (ap (λ b. b || false) (path_same.itself p))

  literal_right : (u : Uid) → OnRoute (Gives (VEntity u)) (literal_route u)
  literal_right u = by (is_plain u.eid)
    where
      by : (b : Bool)
          → OnRoute (Gives (VEntity u))
          (if b then Some (record {
            origin = FromEntity u.entity_type (sql_text u.eid);
            path = [];
            end = TEntity (u.entity_type ∷ []);
            is_total = true;
          }) else None)
      by true = (Gives (VEntity u), (there u.eid, refl, refl), refl, one_of u.entity_type u.entity_type refl)
      by false = tt

  pub route_right : (e : TypedTree) → OnRoute (eval world e) (route (scope_at s env) e)
  route_right (lit m (entity u)) = literal_right u
  route_right (var m Var.Principal) = (
    Gives (VEntity world.request.principal),
    refl,
    refl,
    one_of world.request.principal.entity_type env.principal fits.principal,
  )
  route_right (var m Var.Context) = (Gives (VRecord world.request.context), refl, refl, fits.context)
  route_right (get_attr m a x) = behind_right x a (route (scope_at s env) a) (route_right a)
  route_right e = tt

  follow_right : (xs : List Text) (o : Outcome) (r : Option Route) → OnRoute o r
      → OnRoute (along world.store xs o) (follow s xs r)
  follow_right [] o r h = h
  follow_right (x ∷ xs) o r h = follow_right xs (then_get x o) (next_route s x r) (next_right x o r h)

  -- ---- values

  of_kind : (o : Outcome) (r : Route) → IsAlong o r → (k : Option Kind) → OfKind r.is_total o (outcome_cell o) k
      → OnTerm (IsRight d o) (value_of_kind r k)
  of_kind o r a None h = tt
  of_kind o r a (Some k) h = (h.0, h.1, cell_is o r a ∙ h.2)

  value_right : (o : Outcome) (r : Option Route) → OnRoute o r → OnTerm (IsRight d o) (value_at r)
  value_right o None h = tt
  value_right o (Some r) h = of_kind o r h (column_kind r.end) (ends_agree r.end r.is_total o h.3)

  pub attribute_right : (a : TypedTree) (x : Text)
      → OnTerm (IsRight d (then_get x (eval world a))) (attribute_term (scope_at s env) a x)
  attribute_right a x =
      value_right (then_get x (eval world a)) (behind (scope_at s env) a x (route (scope_at s env) a))
      (behind_right x a (route (scope_at s env) a) (route_right a))

  -- ---- tests: whether there is a value at the end of a path

  -- a test tells whether there is a value, if there is one before
  abbrev Tells : Test → Outcome → Outcome → Type 0
  Tells t (Gives v) out = t ≡ Says (gives out)
  Tells t (Fails f) out = t ≡ Stops f

  -- a fact about a path, if it is one
  abbrev IfRoute : Option Route → Type 0 → Type 0
  IfRoute None P = Unit {0}
  IfRoute (Some r) P = P

  if_any : {P : Type 0} (r : Option Route) → P → IfRoute r P
  if_any None p = tt
  if_any (Some r) p = p

  if_map : {P Q : Type 0} (r : Option Route) → (P → Q) → IfRoute r P → IfRoute r Q
  if_map None f p = tt
  if_map (Some r) f p = f p

  follow_none : (xs : List Text) → follow s xs None ≡ None
  follow_none [] = refl
  follow_none (x ∷ xs) = follow_none xs

  has_tells : (x : Text) (o : Outcome) (r : Option Route) → OnRoute o r
      → IfRoute (next_route s x r) (Tells (then_test o (has_test world.store x)) o (then_get x o))
  has_tells x o None h = tt
  has_tells x o (Some r) h = by (may_follow r.origin x) (is_followed r.end) refl
    where
      tells : is_followed r.end ≡ true → (o : Outcome) → Ends r.end r.is_total o
          → Tells (then_test o (has_test world.store x)) o (then_get x o)
      tells e (Gives v) k = has_there s world.store conforms x (r.end, true) r.end v e k
      tells e (Fails f) k = refl

      by : (w g : Bool) → is_followed r.end ≡ g
          → IfRoute (if w && g then option_map (longer r x) (attribute_type s r.end x) else None)
          (Tells (then_test o (has_test world.store x)) o (then_get x o))
      by true true e = if_any (option_map (longer r x) (attribute_type s r.end x)) (tells e o h.3)
      by true false e = tt
      by false g e = tt

  -- the test of two attributes, from that of the first and that of the others
  after_first : (x y : Text) (ys : List Text) (o : Outcome) → Tells (then_test o (has_test world.store x)) o (then_get x o)
      → Tells (then_test (then_get x o) (path_test world.store y ys)) (then_get x o) (along world.store (y ∷ ys) (then_get x o))
      → Tells (then_test o (path_test world.store x (y ∷ ys))) o (along world.store (y ∷ ys) (then_get x o))
  after_first x y ys (Fails f) first others = refl
  after_first x y ys (Gives v) first others =
      ap (λ t. and_test t (then_test (get world.store x v) (path_test world.store y ys))) first
      ∙ by (get world.store x v) others
    where
      by : (w : Outcome)
          → Tells (then_test w (path_test world.store y ys)) w (along world.store (y ∷ ys) w)
          → and_test (Says (gives w)) (then_test w (path_test world.store y ys)) ≡ Says (gives (along world.store (y ∷ ys) w))
      by (Gives u) k = k
      by (Fails f) k = ap (λ z. Says (gives z)) (sym (along_fails world.store ys f))

  -- the test of a path, from that of its first attribute
  path_tells : (xs : List Text) (x : Text) (o : Outcome) (r : Option Route) → OnRoute (then_get x o) r
      → IfRoute r (Tells (then_test o (has_test world.store x)) o (then_get x o))
      → IfRoute (follow s xs r) (Tells (then_test o (path_test world.store x xs)) o (along world.store xs (then_get x o)))
  path_tells [] x o r h first = first
  path_tells (y ∷ ys) x o None h first =
      subst (λ n. IfRoute n (Tells (then_test o (path_test world.store x (y ∷ ys))) o (along world.store (y ∷ ys) (then_get x o))))
      (sym (follow_none ys)) tt
  path_tells (y ∷ ys) x o (Some r) h first =
      if_map (follow s ys (next_route s y (Some r))) (after_first x y ys o first)
      (path_tells ys y (then_get x o) (next_route s y (Some r)) (next_right y (then_get x o) (Some r) h)
      (has_tells y (then_get x o) (Some r) h))

  -- behind a value that is there
  total_right : (t : Test) (v : Value) (out : Outcome) (r : Option Route) → OnRoute out r
      → IfRoute r (Tells t (Gives v) out) → OnTerm (IsRight d (of_test t)) (has_value (value_at r))
  total_right t v out None h told = tt
  total_right t v out (Some r) h told =
      subst (λ z. OnTerm (IsRight d z) (has_value (value_at (Some r)))) (sym (ap of_test told))
      (has_right d (value_at (Some r)) out (value_right out (Some r) h))

  guarded_answer : (t : Test) (k l : Kind) (r q : Bool) (o out : Outcome) (c e : Cell) → Agree k r o c → Agree l q out e
      → Tells t o out → Agree KBool false (of_test t) (case_cell (not_null_cell c) (not_null_cell e) Null)
  guarded_answer t k l r q o out c e (there v, p, is) b told =
      let z = loose KBool true (Gives (VBool (gives out))) (not_null_cell e) (has_answer l q out e b) in
      let says : t ≡ Says (gives out) = subst (λ w. Tells t w out) p told in (
        z.0,
        ap of_test says ∙ z.1,
        (λ i. case_cell ((ap not_null_cell is ∙ not_null_held k v) i) (not_null_cell e) Null) ∙ z.2,
      )
  guarded_answer t k l r q o out c e (gone f n, p, is) b told =
      let stops : t ≡ Stops f = subst (λ w. Tells t w out) p told in
      (gone f refl, ap of_test stops, ap (λ w. case_cell (not_null_cell w) (not_null_cell e) Null) is)

  guarded_right : (t : Test) (o out : Outcome) (x : Option Term) (r : Option Route) → OnTerm (IsRight d o) x
      → OnRoute out r → IfRoute r (Tells t o out) → OnTerm (IsRight d (of_test t)) (has_guarded x (value_at r))
  guarded_right t o out None r h k told = tt
  guarded_right t o out (Some a) None h k told = tt
  guarded_right t o out (Some a) (Some r) h k told = by (value_at (Some r)) (value_right out (Some r) k)
    where
      by : (y : Option Term) → OnTerm (IsRight d out) y → OnTerm (IsRight d (of_test t)) (has_guarded (Some a) y)
      by None m = tt
      by (Some b) m =
          guarded_answer t a.kind b.kind a.is_total b.is_total o out (value d a.sql) (value d b.sql) h m told

  behind_tells : (t : Test) (o out : Outcome) (b r : Option Route) → OnRoute o b → OnRoute out r → IfRoute r (Tells t o out)
      → OnTerm (IsRight d (of_test t)) (has_behind b (value_at r))
  behind_tells t o out None r h k told = tt
  behind_tells t o out (Some b) r h k told = by b.is_total refl
    where
      total : (o : Outcome) → Ends b.end true o → IfRoute r (Tells t o out)
          → OnTerm (IsRight d (of_test t)) (has_value (value_at r))
      total (Gives v) e told = total_right t v out r k told
      total (Fails f) e told = cc

      by : (q : Bool) → b.is_total ≡ q
          → OnTerm (IsRight d (of_test t)) (if q then has_value (value_at r) else has_guarded (value_at (Some b)) (value_at r))
      by true e = total o (subst (λ q. Ends b.end q o) e h.3) told
      by false e = guarded_right t o out (value_at (Some b)) r (value_right o (Some b) h) k told

  abbrev test_along : Outcome → Text → List Text → Test
  test_along o x xs = then_test o (path_test world.store x xs)

  pub has_term_right : (a : TypedTree) (x : Text) (xs : List Text)
      → OnTerm (IsRight d (of_test (test_along (eval world a) x xs))) (has_term (scope_at s env) a x xs)
  has_term_right (var m Var.Resource) x xs =
      total_right (test_along (eval world (var m Var.Resource)) x xs) (VEntity world.request.resource)
      (along world.store xs (own_outcome x)) (follow s xs (resource_route (scope_at s env) x))
      (follow_right xs (own_outcome x) (resource_route (scope_at s env) x) (resource_right x))
      (path_tells xs x (Gives (VEntity world.request.resource)) (resource_route (scope_at s env) x) (resource_right x)
      (if_any (resource_route (scope_at s env) x) (ap Says (stored_gives x (entity_at world.store world.request.resource)))))
  has_term_right a x xs =
      let before = route (scope_at s env) a in
      behind_tells (test_along (eval world a) x xs) (eval world a) (along world.store xs (then_get x (eval world a)))
      before (follow s xs (next_route s x before)) (route_right a)
      (follow_right xs (then_get x (eval world a)) (next_route s x before) (next_right x (eval world a) before (route_right a)))
      (path_tells xs x (eval world a) (next_route s x before) (next_right x (eval world a) before (route_right a))
      (has_tells x (eval world a) before (route_right a)))
