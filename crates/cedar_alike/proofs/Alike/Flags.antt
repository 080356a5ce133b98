-- The flags of all nodes of an expression are what the expression reads.
use Rattle.std.proofs.Common.{◌≡◌, ◌↔◌, inl, inr, Bool, true, false, ◌||◌, ◌&&◌, true≢false, IsTrue, List, [], ◌∷◌, refl, sym, ap, ◌∙◌, subst}
use Rattle.std.specs.List.{list_any}
use Rattle.cedar_types.specs.declared.base.expressions.operators.Var.{Var}
use Rattle.cedar_types.specs.declared.base.names.slots.SlotId.{SlotId}
use Rattle.cedar_types.specs.Environments.RequestEnvs.{Env}
use Rattle.cedar_types.specs.Expressions.Parts.{subexpressions, is_slot}
use Rattle.cedar_types.specs.Expressions.Tree.{var, slot}
use Rattle.cedar_types.specs.Expressions.TreeEq.{var_eq}
use Rattle.cedar_types.specs.Expressions.View.{Written}
use Rattle.cedar_types.specs.Lemmas.Comparisons.{and_left, and_right, and_both}
use Rattle.cedar_types.specs.Lemmas.TreeSame.{var_same, slot_same}
use Rattle.cedar_typing.specs.Evaluation.Conformance.{IsOneOf}
use Rattle.cedar_typing.specs.TypedExpr.{Source}
use Rattle.cedar_typing.proofs.Basics.{or_left, or_right, or_cases}
use Rattle.cedar_alike.specs.declared.reads.Reads.{Reads}
use Rattle.cedar_alike.specs.Flags.{has_variable, has_slot, AreReads, with_node}
use Rattle.cedar_alike.specs.Reads.{AgreeOn, SameVariable, SameSlot}

abbrev pub nothing : Reads
nothing = record {
  principal = false;
  action = false;
  resource = false;
  context = false;
  principal_slot = false;
  resource_slot = false;
}

-- the flags with those of each of some nodes
abbrev pub with_nodes : Reads → List Source → Reads
with_nodes f [] = f
with_nodes f (e ∷ es) = with_nodes (with_node f e) es

-- whether an expression is this variable itself
abbrev is_variable : Var → Source → Bool
is_variable x (var m y) = var_eq y x
is_variable x e = false

-- ---- one node

kept : (b : Bool) → b ≡ (b || false)
kept true = refl
kept false = refl

set : (b : Bool) → true ≡ (b || true)
set true = refl
set false = refl

one_variable : (f : Reads) (x : Var) (e : Source) → has_variable (with_node f e) x ≡ (has_variable f x || is_variable x e)
one_variable f Var.Principal (var m Var.Principal) = set f.principal
one_variable f Var.Principal (var m Var.Action) = kept f.principal
one_variable f Var.Principal (var m Var.Resource) = kept f.principal
one_variable f Var.Principal (var m Var.Context) = kept f.principal
one_variable f Var.Action (var m Var.Principal) = kept f.action
one_variable f Var.Action (var m Var.Action) = set f.action
one_variable f Var.Action (var m Var.Resource) = kept f.action
one_variable f Var.Action (var m Var.Context) = kept f.action
one_variable f Var.Resource (var m Var.Principal) = kept f.resource
one_variable f Var.Resource (var m Var.Action) = kept f.resource
one_variable f Var.Resource (var m Var.Resource) = set f.resource
one_variable f Var.Resource (var m Var.Context) = kept f.resource
one_variable f Var.Context (var m Var.Principal) = kept f.context
one_variable f Var.Context (var m Var.Action) = kept f.context
one_variable f Var.Context (var m Var.Resource) = kept f.context
one_variable f Var.Context (var m Var.Context) = set f.context
one_variable f Var.Principal (slot m SlotId.Principal) = kept f.principal
one_variable f Var.Principal (slot m SlotId.Resource) = kept f.principal
one_variable f Var.Action (slot m SlotId.Principal) = kept f.action
one_variable f Var.Action (slot m SlotId.Resource) = kept f.action
one_variable f Var.Resource (slot m SlotId.Principal) = kept f.resource
one_variable f Var.Resource (slot m SlotId.Resource) = kept f.resource
one_variable f Var.Context (slot m SlotId.Principal) = kept f.context
one_variable f Var.Context (slot m SlotId.Resource) = kept f.context
one_variable f x e = kept (has_variable f x)

one_slot : (f : Reads) (x : SlotId) (e : Source) → has_slot (with_node f e) x ≡ (has_slot f x || is_slot x e)
one_slot f SlotId.Principal (slot m SlotId.Principal) = set f.principal_slot
one_slot f SlotId.Principal (slot m SlotId.Resource) = kept f.principal_slot
one_slot f SlotId.Resource (slot m SlotId.Principal) = kept f.resource_slot
one_slot f SlotId.Resource (slot m SlotId.Resource) = set f.resource_slot
one_slot f SlotId.Principal (var m Var.Principal) = kept f.principal_slot
one_slot f SlotId.Principal (var m Var.Action) = kept f.principal_slot
one_slot f SlotId.Principal (var m Var.Resource) = kept f.principal_slot
one_slot f SlotId.Principal (var m Var.Context) = kept f.principal_slot
one_slot f SlotId.Resource (var m Var.Principal) = kept f.resource_slot
one_slot f SlotId.Resource (var m Var.Action) = kept f.resource_slot
one_slot f SlotId.Resource (var m Var.Resource) = kept f.resource_slot
one_slot f SlotId.Resource (var m Var.Context) = kept f.resource_slot
one_slot f x e = kept (has_slot f x)

-- ---- all nodes

or_shifted : (a b c : Bool) → ((a || b) || c) ≡ (a || (b || c))
or_shifted true b c = refl
or_shifted false b c = refl

all_variables : (x : Var) (f : Reads) (es : List Source)
    → has_variable (with_nodes f es) x ≡ (has_variable f x || list_any (is_variable x) es)
all_variables x f [] = kept (has_variable f x)
all_variables x f (e ∷ es) =
    all_variables x (with_node f e) es ∙ ap (λ b. b || list_any (is_variable x) es) (one_variable f x e)
    ∙ or_shifted (has_variable f x) (is_variable x e) (list_any (is_variable x) es)

all_slots : (x : SlotId) (f : Reads) (es : List Source)
    → has_slot (with_nodes f es) x ≡ (has_slot f x || list_any (is_slot x) es)
all_slots x f [] = kept (has_slot f x)
all_slots x f (e ∷ es) =
    all_slots x (with_node f e) es ∙ ap (λ b. b || list_any (is_slot x) es) (one_slot f x e)
    ∙ or_shifted (has_slot f x) (is_slot x e) (list_any (is_slot x) es)

-- ---- what occurs

is_it : (x : Var) (e : Source) → is_variable x e ≡ true → (m : Written) × (var m x ≡ e)
is_it x (var m y) h = (m, ap (var m) (sym (var_same.to y x h)))
is_it x e h = absurd (true≢false (sym h))

is_the_slot : (x : SlotId) (e : Source) → is_slot x e ≡ true → (m : Written) × (slot m x ≡ e)
is_the_slot x (slot m y) h = (m, ap (slot m) (sym (slot_same.to y x h)))
is_the_slot x e h = absurd (true≢false (sym h))

variable_in : (x : Var) (es : List Source) → list_any (is_variable x) es ≡ true → (m : Written) × IsOneOf (var m x) es
variable_in x [] h = absurd (true≢false (sym h))
variable_in x (e ∷ es) h =
    or_cases (is_variable x e) (list_any (is_variable x) es) ((m : Written) × IsOneOf (var m x) (e ∷ es))
    (λ k. ((is_it x e k).0, inl (is_it x e k).1))
    (λ k. ((variable_in x es k).0, inr (variable_in x es k).1)) h

slot_in : (x : SlotId) (es : List Source) → list_any (is_slot x) es ≡ true → (m : Written) × IsOneOf (slot m x) es
slot_in x [] h = absurd (true≢false (sym h))
slot_in x (e ∷ es) h =
    or_cases (is_slot x e) (list_any (is_slot x) es) ((m : Written) × IsOneOf (slot m x) (e ∷ es))
    (λ k. ((is_the_slot x e k).0, inl (is_the_slot x e k).1))
    (λ k. ((slot_in x es k).0, inr (slot_in x es k).1)) h

variable_found : (x : Var) (m : Written) (es : List Source) → IsOneOf (var m x) es → list_any (is_variable x) es ≡ true
variable_found x m [] h = absurd h
variable_found x m (e ∷ es) (inl h) =
    or_left (is_variable x e) (list_any (is_variable x) es) (subst (λ y. is_variable x y ≡ true) h (var_same.itself x))
variable_found x m (e ∷ es) (inr h) =
    or_right (is_variable x e) (list_any (is_variable x) es) (variable_found x m es h)

slot_found : (x : SlotId) (m : Written) (es : List Source) → IsOneOf (slot m x) es → list_any (is_slot x) es ≡ true
slot_found x m [] h = absurd h
slot_found x m (e ∷ es) (inl h) =
    or_left (is_slot x e) (list_any (is_slot x) es) (subst (λ y. is_slot x y ≡ true) h (slot_same.itself x))
slot_found x m (e ∷ es) (inr h) = or_right (is_slot x e) (list_any (is_slot x) es) (slot_found x m es h)

no_variable : (x : Var) → has_variable nothing x ≡ false
no_variable Var.Principal = refl
no_variable Var.Action = refl
no_variable Var.Resource = refl
no_variable Var.Context = refl

no_slot : (x : SlotId) → has_slot nothing x ≡ false
no_slot SlotId.Principal = refl
no_slot SlotId.Resource = refl

are_reads : (f : Reads) (e : Source) → with_nodes nothing (subexpressions e) ≡ f → AreReads f e
are_reads f e h =
    let es = subexpressions e in
    let v : (x : Var) → has_variable f x ≡ list_any (is_variable x) es =
    λ x. ap (λ g. has_variable g x) (sym h) ∙ all_variables x nothing es ∙ ap (λ b. b || list_any (is_variable x) es) (no_variable x) in
    let s : (x : SlotId) → has_slot f x ≡ list_any (is_slot x) es =
    λ x. ap (λ g. has_slot g x) (sym h) ∙ all_slots x nothing es ∙ ap (λ b. b || list_any (is_slot x) es) (no_slot x) in
    record {
      variables = λ x. (λ k. variable_in x es (sym (v x) ∙ k), λ k. v x ∙ variable_found x k.0 es k.1);
      slots = λ x. (λ k. slot_in x es (sym (s x) ∙ k), λ k. s x ∙ slot_found x k.0 es k.1);
    }

-- the flags of all nodes, where no node is left
pub at_end : (f : Reads) (es : List Source) (e : Source) → es ≡ [] → with_nodes f es ≡ with_nodes nothing (subexpressions e)
    → AreReads f e
at_end f es e h k = are_reads f e (sym k ∙ ap (with_nodes f) h)

-- ---- agreement by flags

module _ (f : Reads) (r r' : Env) where
  -- a variable, or a slot, that is read is the same in both
  abbrev pub VariableAgrees : Var → Type 0
  VariableAgrees x = IsTrue (has_variable f x) → SameVariable r r' x

  abbrev pub SlotAgrees : SlotId → Type 0
  SlotAgrees x = IsTrue (has_slot f x) → SameSlot r r' x

  -- six tests together are one of agreement
  module _ (p a t c ps rs : Bool)
      (hp : IsTrue p ↔ VariableAgrees Var.Principal) (ha : IsTrue a ↔ VariableAgrees Var.Action)
      (ht : IsTrue t ↔ VariableAgrees Var.Resource) (hc : IsTrue c ↔ VariableAgrees Var.Context)
      (hps : IsTrue ps ↔ SlotAgrees SlotId.Principal) (hrs : IsTrue rs ↔ SlotAgrees SlotId.Resource) where
    abbrev pub all : Bool
    all = ((((p && a) && t) && c) && ps) && rs

    to_variable : all ≡ true → (x : Var) → VariableAgrees x
    to_variable h Var.Principal = hp.0 (and_left p a (and_left (p && a) t (and_left ((p && a) && t) c (and_left (((p && a) && t) && c) ps (and_left ((((p && a) && t) && c) && ps) rs h)))))
    to_variable h Var.Action = ha.0 (and_right p a (and_left (p && a) t (and_left ((p && a) && t) c (and_left (((p && a) && t) && c) ps (and_left ((((p && a) && t) && c) && ps) rs h)))))
    to_variable h Var.Resource = ht.0 (and_right (p && a) t (and_left ((p && a) && t) c (and_left (((p && a) && t) && c) ps (and_left ((((p && a) && t) && c) && ps) rs h))))
    to_variable h Var.Context = hc.0 (and_right ((p && a) && t) c (and_left (((p && a) && t) && c) ps (and_left ((((p && a) && t) && c) && ps) rs h)))

    to_slot : all ≡ true → (x : SlotId) → SlotAgrees x
    to_slot h SlotId.Principal = hps.0 (and_right (((p && a) && t) && c) ps (and_left ((((p && a) && t) && c) && ps) rs h))
    to_slot h SlotId.Resource = hrs.0 (and_right ((((p && a) && t) && c) && ps) rs h)

    pub agree_by_tests : (e : Source) → AreReads f e → (IsTrue all ↔ AgreeOn r r' e)
    agree_by_tests e are = (
      λ h. record {
        variables = λ x k. to_variable h x ((are.variables x).1 k);
        slots = λ x k. to_slot h x ((are.slots x).1 k);
      },
      λ g.
          let v : (x : Var) → VariableAgrees x = λ x k. g.variables x ((are.variables x).0 k) in
          let s : (x : SlotId) → SlotAgrees x = λ x k. g.slots x ((are.slots x).0 k) in
          and_both ((((p && a) && t) && c) && ps) rs
          (and_both (((p && a) && t) && c) ps
          (and_both ((p && a) && t) c
          (and_both (p && a) t (and_both p a (hp.1 (v Var.Principal)) (ha.1 (v Var.Action))) (ht.1 (v Var.Resource)))
          (hc.1 (v Var.Context)))
          (hps.1 (s SlotId.Principal)))
          (hrs.1 (s SlotId.Resource)),
    )
