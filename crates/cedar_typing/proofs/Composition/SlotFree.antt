-- An expression that mentions no slot is typed in one way, whatever the slots are linked to.
use Rattle.std.proofs.Common.{◌≡◌, ℕ, ◌+◌, Bool, false, ◌||◌, true≢false, List, [], Option, None, refl, sym, ◌∙◌, subst}
use Rattle.cedar_types.specs.declared.base.expressions.operators.Var.{Var}
use Rattle.cedar_types.specs.declared.base.names.slots.SlotId.{SlotId}
use Rattle.cedar_types.specs.Lemmas.TreeSame.{slot_same}
use Rattle.cedar_types.specs.Names.{Path}
use Rattle.cedar_types.specs.Types.{Ty}
use Rattle.cedar_types.specs.Expressions.Tree.{Lit, bool, long, string, entity, lit, var, slot, unknown, if_then_else, and, or, unary}
use Rattle.cedar_types.specs.Expressions.Tree.{binary, call, get_attr, has_attr, ext_has_attr, like, is_type, set_of, record_of, Trees}
use Rattle.cedar_types.specs.Expressions.Tree.{no_trees, tree, Fields, no_fields, field}
use Rattle.cedar_types.specs.Expressions.View.{Written}
use Rattle.cedar_types.specs.Environments.{DeclaredEnv}
use Rattle.cedar_types.specs.Environments.RequestEnvs.{Env, Declared}
use Rattle.cedar_types.specs.Errors.{Finding}
use Rattle.cedar_types.specs.Expressions.Parts.{mentions_slot, any_mentions_slot, field_mentions_slot}
use Rattle.cedar_typing.specs.Capabilities.{Caps}
use Rattle.cedar_typing.specs.Composition.{MentionsNoSlot, LinksDoNotMatter}
use Rattle.cedar_typing.specs.Eager.{Expectation, first_expectation, later_expectations}
use Rattle.cedar_typing.specs.Infer.{unless_too_deep, infer, infer_within, infer_all, infer_fields}
use Rattle.cedar_typing.specs.Infer.Eager.{infer_eager}
use Rattle.cedar_typing.specs.Infer.Leaves.{infer_leaf}
use Rattle.cedar_typing.specs.Infer.Parts.{success, failure, limit, Answer, AnswerAndErrors, expect, after}
use Rattle.cedar_typing.specs.Infer.ShortCircuit.{infer_right}
use Rattle.cedar_typing.specs.Judgments.{Judgment}
use Rattle.cedar_typing.specs.Rules.{rules, Derives}
use Rattle.cedar_typing.specs.Rules.Calls.{arguments}
use Rattle.cedar_typing.specs.Rules.Equality.{variable_literal}
use Rattle.cedar_typing.specs.Rules.Records.{field_keys}
use Rattle.cedar_typing.specs.Rules.Leaves.{variable_type, type_of_literal}
use Rattle.cedar_typing.specs.Rules.ShortCircuit.{Connective, conjunction, disjunction}
use Rattle.cedar_typing.specs.Rules.Unary.{unary_form, like_form, is_form}
use Rattle.cedar_typing.specs.Setting.{Setting}
use Rattle.cedar_typing.specs.TypeTests.{bool_types}
use Rattle.cedar_typing.specs.TypedExpr.{Source, TypedTree, place_of}
use Rattle.cedar_typing.proofs.Agreement.Induction.{agrees}
use Rattle.cedar_typing.proofs.Agreement.Parts.{Answers, a_derived, a_recovered, a_cut}
use Rattle.cedar_typing.proofs.Basics.{some_is, neither_left, neither_right}
use Rattle.cedar_typing.proofs.Composition.SameForms.{one, other, expect_same, more_same, one_same, two_same, right_same, branches_same}
use Rattle.cedar_typing.proofs.Composition.SameForms.{has_form_same, get_form_same, chain_form_same, call_form_same, set_form_same}
use Rattle.cedar_typing.proofs.Composition.SameForms.{record_form_same, binary_form_same}

-- ---- inference

abbrev NotIn : (SlotId → Bool) → Type 0
NotIn mentions = (x : SlotId) → mentions x ≡ false

first_of : (f g : SlotId → Bool) → NotIn (λ x. f x || g x) → NotIn f
first_of f g h x = neither_left (f x) (g x) (h x)

rest_of : (f g : SlotId → Bool) → NotIn (λ x. f x || g x) → NotIn g
rest_of f g h x = neither_right (f x) (g x) (h x)

module _ (s : Setting) (d : DeclaredEnv) (p r p' r' : Option Path) where
  abbrev here : Env
  here = Declared d p r

  abbrev elsewhere : Env
  elsewhere = Declared d p' r'

  variable_same : (x : Var) → variable_literal here x ≡ variable_literal elsewhere x
  variable_same Var.Principal = refl
  variable_same Var.Action = refl
  variable_same Var.Resource = refl
  variable_same Var.Context = refl

  abbrev s1 : Setting
  s1 = one s here elsewhere

  abbrev s2 : Setting
  s2 = other s here elsewhere

  variable_typed : (x : Var) → variable_type s1.env x ≡ variable_type s2.env x
  variable_typed Var.Principal = refl
  variable_typed Var.Action = refl
  variable_typed Var.Resource = refl
  variable_typed Var.Context = refl

  literal_typed : (x : Lit) → type_of_literal s1.env x ≡ type_of_literal s2.env x
  literal_typed (bool b) = refl
  literal_typed (long n) = refl
  literal_typed (string t) = refl
  literal_typed (entity u) = refl

  -- inference of `&&` or `||` by the inference of its two sides
  abbrev sides : Setting → Connective → Written → Source → Source → Caps → ℕ → List Finding → AnswerAndErrors
  sides t f m a b prior k es =
      after (expect t.env bool_types (place_of a) (unless_too_deep (k + 1) es (infer_within t a prior (k + 1) es)))
      (λ q es'. infer_right t.env f m (place_of b) prior q es'
      (λ known es''. unless_too_deep (k + 1) es'' (infer_within t b known (k + 1) es'')))

  sides_same : (f : Connective) (m : Written) (a b : Source) (prior : Caps) (k : ℕ)
      → infer_within s1 a prior (k + 1) ≡ infer_within s2 a prior (k + 1)
      → ((known : Caps) → infer_within s1 b known (k + 1) ≡ infer_within s2 b known (k + 1))
      → sides s1 f m a b prior k ≡ sides s2 f m a b prior k
  sides_same f m a b prior k left right =
      λ i es. after (expect_same s here elsewhere bool_types (place_of a) (unless_too_deep (k + 1) es (left i es)) i)
      (λ q es'. right_same s here elsewhere f m (place_of b) prior q es'
      (λ known es''. unless_too_deep (k + 1) es'' (right known i es'')) i)

  mutual
    same_within : (e : Source) → MentionsNoSlot e → (prior : Caps) (k : ℕ) → infer_within s1 e prior k ≡ infer_within s2 e prior k
    same_within (lit m x) h prior k = λ i es. (infer_leaf (literal_typed x i) m (λ q. lit q x), es)
    same_within (var m x) h prior k = λ i es. (infer_leaf (variable_typed x i) m (λ q. var q x), es)
    same_within (slot m x) h prior k = absurd (true≢false (sym (slot_same.itself x) ∙ h x))
    same_within (unknown m n) h prior k = refl
    same_within (if_then_else m a b c) h prior k =
        let g = rest_of (λ x. mentions_slot x a) (λ x. mentions_slot x b || mentions_slot x c) h in
        let ha = first_of (λ x. mentions_slot x a) (λ x. mentions_slot x b || mentions_slot x c) h in
        let hb = first_of (λ x. mentions_slot x b) (λ x. mentions_slot x c) g in
        let hc = rest_of (λ x. mentions_slot x b) (λ x. mentions_slot x c) g in
        λ i es. after (expect_same s here elsewhere bool_types (place_of a)
        (unless_too_deep (k + 1) es (same_within a ha prior (k + 1) i es)) i)
        (λ q es'. branches_same s here elsewhere m prior q es'
        (λ known es''. unless_too_deep (k + 1) es'' (same_within b hb known (k + 1) i es''))
        (λ es''. unless_too_deep (k + 1) es'' (same_within c hc prior (k + 1) i es'')) i)
    same_within (and m a b) h prior k =
        sides_same conjunction m a b prior k (same_within a (first_of (λ x. mentions_slot x a) (λ x. mentions_slot x b) h) prior (k + 1))
        (λ known. same_within b (rest_of (λ x. mentions_slot x a) (λ x. mentions_slot x b) h) known (k + 1))
    same_within (or m a b) h prior k =
        sides_same disjunction m a b prior k (same_within a (first_of (λ x. mentions_slot x a) (λ x. mentions_slot x b) h) prior (k + 1))
        (λ known. same_within b (rest_of (λ x. mentions_slot x a) (λ x. mentions_slot x b) h) known (k + 1))
    same_within (unary m o a) h prior k =
        λ i. one_same s here elsewhere (unary_form m o) (place_of a) (λ es. unless_too_deep (k + 1) es (same_within a h prior (k + 1) i es)) i
    same_within (binary m o a b) h prior k =
        let ha = first_of (λ x. mentions_slot x a) (λ x. mentions_slot x b) h in
        let hb = rest_of (λ x. mentions_slot x a) (λ x. mentions_slot x b) h in
        λ i. two_same s here elsewhere (binary_form_same s here elsewhere variable_same m prior a b o i) (place_of a) (place_of b)
        (λ es. unless_too_deep (k + 1) es (same_within a ha prior (k + 1) i es))
        (λ es. unless_too_deep (k + 1) es (same_within b hb prior (k + 1) i es)) i
    same_within (call m n ts) h prior k =
        let f = call_form_same s here elsewhere m n (arguments ts) in
        λ i. infer_eager (f i) (same_all (f i).goes_on (f i).expects ts h prior (k + 1) i)
    same_within (get_attr m a x) h prior k =
        λ i. one_same s here elsewhere (get_form_same s here elsewhere m prior a x i) (place_of a)
        (λ es. unless_too_deep (k + 1) es (same_within a h prior (k + 1) i es)) i
    same_within (has_attr m a x) h prior k =
        λ i. one_same s here elsewhere (has_form_same s here elsewhere m prior a x i) (place_of a)
        (λ es. unless_too_deep (k + 1) es (same_within a h prior (k + 1) i es)) i
    same_within (ext_has_attr m a x xs) h prior k =
        λ i. one_same s here elsewhere (chain_form_same s here elsewhere m prior a x xs i) (place_of a)
        (λ es. unless_too_deep (k + 1) es (same_within a h prior (k + 1) i es)) i
    same_within (like m a q) h prior k =
        λ i. one_same s here elsewhere (like_form m q) (place_of a) (λ es. unless_too_deep (k + 1) es (same_within a h prior (k + 1) i es)) i
    same_within (is_type m a n) h prior k =
        λ i. one_same s here elsewhere (is_form m n) (place_of a) (λ es. unless_too_deep (k + 1) es (same_within a h prior (k + 1) i es)) i
    same_within (set_of m ts) h prior k =
        let f = set_form_same s here elsewhere m in
        λ i. infer_eager (f i) (same_all (f i).goes_on (f i).expects ts h prior (k + 1) i)
    same_within (record_of m fs) h prior k =
        λ i. infer_eager (record_form_same s here elsewhere m (field_keys fs) i) (same_fields fs h prior (k + 1) i)

    same_all : (goes_on : Bool) (qs : List Expectation) (ts : Trees Written) → NotIn (λ x. any_mentions_slot x ts)
        → (prior : Caps) (k : ℕ) → infer_all s1 goes_on qs ts prior k ≡ infer_all s2 goes_on qs ts prior k
    same_all goes_on qs no_trees h prior k = refl
    same_all goes_on qs (tree e ts) h prior k =
        let he = first_of (λ x. mentions_slot x e) (λ x. any_mentions_slot x ts) h in
        let hs = rest_of (λ x. mentions_slot x e) (λ x. any_mentions_slot x ts) h in
        λ i. more_same s here elsewhere goes_on (first_expectation qs) (place_of e)
        (λ es. unless_too_deep k es (same_within e he prior k i es))
        (same_all goes_on (later_expectations qs) ts hs prior k i) i

    same_fields : (fs : Fields Written) → NotIn (λ x. field_mentions_slot x fs) → (prior : Caps) (k : ℕ)
        → infer_fields s1 fs prior k ≡ infer_fields s2 fs prior k
    same_fields no_fields h prior k = refl
    same_fields (field n e fs) h prior k =
        let he = first_of (λ x. mentions_slot x e) (λ x. field_mentions_slot x fs) h in
        let hs = rest_of (λ x. mentions_slot x e) (λ x. field_mentions_slot x fs) h in
        λ i. more_same s here elsewhere false None (place_of e)
        (λ es. unless_too_deep k es (same_within e he prior k i es)) (same_fields fs hs prior k i) i

  pub same_inference : (e : Source) → MentionsNoSlot e → (prior : Caps) (k : ℕ) → infer s1 e prior k ≡ infer s2 e prior k
  same_inference e h prior k = λ i es. unless_too_deep k es (same_within e h prior k i es)

-- ---- the rules

-- the judgment that the rules make with an answer: a derivation, a recovery or a cut
abbrev Says : Judgment → Answer → List Finding → Type 0
Says J (success x c) es = (t : Ty) × J.derives t c x
Says J (failure x) es = J.recovers x es
Says J limit es = J.cuts es

says : (J : Judgment) (a : Answer) (es : List Finding) → Answers J a es → Says J a es
says J a es (a_derived {t = t} h) = (t, h)
says J a es (a_recovered h) = h
says J a es (a_cut h) = h

module _ (s s' : Setting) (e : Source) (prior : Caps) (k : ℕ) (same : infer s e prior k ≡ infer s' e prior k) where
  moved : (a : Answer) (es : List Finding) → Answers (rules s e prior k) a es → Answers (rules s' e prior k) a es
  moved a es h =
      let f = (agrees s' e prior k).found [] in
      let P : AnswerAndErrors → Type 0 = λ o. Answers (rules s' e prior k) o.0 o.1 in
      subst P (sym f.is ∙ (λ i. sym same i []) ∙ (agrees s e prior k).only [] a es h) f.rules

  derivation : (t : Ty) (c : Caps) (x : TypedTree) → Derives s e prior k t c x → Derives s' e prior k t c x
  derivation t c x h =
      let g = says (rules s' e prior k) (success x c) [] (moved (success x c) [] (a_derived h)) in
      let q : g.0 ≡ t = some_is (sym ((agrees s' e prior k).marks g.0 c x g.1) ∙ (agrees s e prior k).marks t c x h) in
      subst (λ u. Derives s' e prior k u c x) q g.1

pub links_do_not_matter : LinksDoNotMatter
links_do_not_matter s d p r p' r' e h prior k =
    let s1 = one s (Declared d p r) (Declared d p' r') in
    let s2 = other s (Declared d p r) (Declared d p' r') in
    let to : infer s1 e prior k ≡ infer s2 e prior k = same_inference s d p r p' r' e h prior k in
    record {
      derived = λ t c x. (derivation s1 s2 e prior k to t c x, derivation s2 s1 e prior k (sym to) t c x);
      recovered = λ x es. (
        λ g. says (rules s2 e prior k) (failure x) es (moved s1 s2 e prior k to (failure x) es (a_recovered g)),
        λ g. says (rules s1 e prior k) (failure x) es (moved s2 s1 e prior k (sym to) (failure x) es (a_recovered g)),
      );
      cut = λ es. (
        λ g. says (rules s2 e prior k) limit es (moved s1 s2 e prior k to limit es (a_cut g)),
        λ g. says (rules s1 e prior k) limit es (moved s2 s1 e prior k (sym to) limit es (a_cut g)),
      );
    }
