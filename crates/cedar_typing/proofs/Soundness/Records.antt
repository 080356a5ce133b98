-- Records do not go wrong.
use Rattle.std.proofs.Common.{◌≡◌, Bool, true, false, true≢false, List, [], ◌∷◌, Option, Some, None, if◌then◌else◌, refl, sym, ap, subst}
use Rattle.std.proofs.Common.{◌∙◌}
use Rattle.std.specs.Prelude.{IsTrue}
use Rattle.std.specs.List.{list_any, list_all}
use Rattle.std.specs.Ordering.{is_lt, is_eq}
use Rattle.std.specs.Cmp.Lexicographic.{texts_ties}
use Rattle.std.specs.declared.cmp.Ordering.{Ordering}
use Rattle.std.specs.declared.cmp.Ordering.TheVariants.{Less, Equal, Greater}
use Rattle.cedar_types.specs.Names.{Text, text_cmp, text_eq}
use Rattle.cedar_types.specs.Names.Ascending.{texts_ascending}
use Rattle.cedar_types.specs.Lemmas.Comparisons.{and_left, and_right, text_same}
use Rattle.cedar_types.specs.Types.{Ty, TRecord, attr_names}
use Rattle.cedar_types.specs.Expressions.Tree.{record_of, Fields, no_fields, field}
use Rattle.cedar_types.specs.Expressions.View.{Written}
use Rattle.cedar_types.specs.Errors.{internal_invariant_violation}
use Rattle.cedar_types.specs.Values.{Value, Entries, no_entries, more_entries, entry_at, HasAttr, KeysAmong, HasType, HasAttrs}
use Rattle.cedar_typing.specs.Capabilities.{no_caps}
use Rattle.cedar_typing.specs.Eager.{Decision, gives, refuses}
use Rattle.cedar_typing.specs.Evaluation.Eval.{eval, eval_fields}
use Rattle.cedar_typing.specs.Evaluation.Outcomes.{EntryOutcomes, GiveEntries, FailEntry, more_entry_outcomes, record_outcome}
use Rattle.cedar_typing.specs.Evaluation.World.{World, Outcome, Gives, Fails}
use Rattle.cedar_typing.specs.Rules.Records.{field_keys, required_attrs, record_of_types, record_form}
use Rattle.cedar_typing.specs.Rules.Sets.{all_types}
use Rattle.cedar_typing.specs.Rules.Eager.{Judgments, eager_rules}
use Rattle.cedar_typing.specs.Soundness.{HasFound, IsAllowed, IsSafe}
use Rattle.cedar_typing.specs.TypeEnv.{TypeEnv, finding}
use Rattle.cedar_typing.proofs.Basics.{or_left, or_right}
use Rattle.cedar_typing.proofs.KeptTypes.Eager.{decided_type}
use Rattle.cedar_typing.proofs.Soundness.Eager.{AllHave, AllSafe, GiftIsSound, SoundForm, SoundsAll, of_any, form_sounds}
use Rattle.cedar_typing.proofs.Soundness.FixedTypes.{silent_gift}
use Rattle.cedar_typing.proofs.Soundness.Parts.{Sounds}
use Rattle.cedar_typing.proofs.Soundness.Sets.{AllTyped, found_typed}

-- ---- one more entry, at a key below those of the others

-- all texts are above k
abbrev are_above : Text → List Text → Bool
are_above k ks = list_all (λ l. is_lt (text_cmp k l)) ks

-- a text above k is another one
below_apart : (o : Ordering) → is_lt o ≡ true → is_eq o ≡ false
below_apart Less h = refl
below_apart Equal h = cc
below_apart Greater h = cc

other_key : (k l : Text) → is_lt (text_cmp k l) ≡ true → text_eq l k ≡ false
other_key k l h = by (text_eq l k) refl
  where
    apart : text_eq k l ≡ false
    apart = texts_ties k l ∙ below_apart (text_cmp k l) h

    by : (b : Bool) → text_eq l k ≡ b → b ≡ false
    by false e = refl
    by true e = absurd (true≢false (sym (subst (λ j. text_eq j l ≡ true) (text_same.to l k e) (text_same.itself l)) ∙ apart))

-- the entry does not hide those of the attributes
attributes_kept : (k : Text) (v : Value) (es : Entries) (ks : List Text) (ts : List Ty) → are_above k ks ≡ true
    → HasAttrs (required_attrs ks ts) es → HasAttrs (required_attrs ks ts) (more_entries k v es)
attributes_kept k v es [] ts a h = tt
attributes_kept k v es (l ∷ ks) [] a h = tt
attributes_kept k v es (l ∷ ks) (t ∷ ts) a h =
    let later : text_eq l k ≡ false = other_key k l (and_left (is_lt (text_cmp k l)) (are_above k ks) a) in (
      subst (λ b. HasAttr true (HasType t) (if b then Some v else entry_at l es)) (sym later) h.0,
      attributes_kept k v es ks ts (and_right (is_lt (text_cmp k l)) (are_above k ks) a) h.1,
    )

entry_found : (k : Text) (v : Value) (es : Entries) (t : Ty) → HasType t v → HasAttr true (HasType t) (entry_at k (more_entries k v es))
entry_found k v es t h = subst (λ b. HasAttr true (HasType t) (if b then Some v else entry_at k es)) (sym (text_same.itself k)) h

-- the keys are among more names too
keys_among_more : (k : Text) (ks : List Text) (es : Entries) → KeysAmong ks es → KeysAmong (k ∷ ks) es
keys_among_more k ks no_entries h = tt
keys_among_more k ks (more_entries l v es) h = (or_right (text_eq l k) (list_any (text_eq l) ks) h.0, keys_among_more k ks es h.1)

key_named : (k : Text) (ks : List Text) → IsTrue (list_any (text_eq k) (k ∷ ks))
key_named k ks = or_left (text_eq k k) (list_any (text_eq k) ks) (text_same.itself k)

-- ---- the outcomes of the fields

abbrev pub field_outcomes : World → Fields Written → List Outcome
field_outcomes world no_fields = []
field_outcomes world (field k e fs) = eval world e ∷ field_outcomes world fs

-- the fields together: the entries with these keys, or the first failure
abbrev entries_together : List Text → List Outcome → EntryOutcomes
entries_together (k ∷ ks) (o ∷ os) = more_entry_outcomes k o (entries_together ks os)
entries_together ks os = GiveEntries no_entries

evaluated_together : (world : World) (fs : Fields Written)
    → entries_together (field_keys fs) (field_outcomes world fs) ≡ eval_fields world fs
evaluated_together world no_fields = refl
evaluated_together world (field k e fs) = ap (more_entry_outcomes k (eval world e)) (evaluated_together world fs)

-- the entries, if there are any, are of the record's type
abbrev AreEntriesOf : List Text → List Ty → EntryOutcomes → Type 0
AreEntriesOf ks ts (GiveEntries es) = HasAttrs (required_attrs ks ts) es × KeysAmong (attr_names (required_attrs ks ts)) es
AreEntriesOf ks ts (FailEntry f) = Unit {0}

next_entry : (k : Text) (t : Ty) (ks : List Text) (ts : List Ty) (o : Outcome) (os : EntryOutcomes) → are_above k ks ≡ true
    → HasFound (Some t) o → AreEntriesOf ks ts os → AreEntriesOf (k ∷ ks) (t ∷ ts) (more_entry_outcomes k o os)
next_entry k t ks ts (Gives v) (GiveEntries es) a g h =
    let names = attr_names (required_attrs ks ts) in
    ((entry_found k v es t g, attributes_kept k v es ks ts a h.0), (key_named k names, keys_among_more k names es h.1))
next_entry k t ks ts (Gives v) (FailEntry f) a g h = tt
next_entry k t ks ts (Fails f) os a g h = tt

entries_have : (ks : List Text) (ts : List Ty) (os : List Outcome) → texts_ascending ks ≡ true → AllTyped ts os
    → AreEntriesOf ks ts (entries_together ks os)
entries_have [] ts os a h = (tt, tt)
entries_have (k ∷ ks) [] [] a h = (tt, tt)
entries_have (k ∷ ks) [] (o ∷ os) a h = absurd h
entries_have (k ∷ ks) (t ∷ ts) [] a h = absurd h
entries_have (k ∷ ks) (t ∷ ts) (o ∷ os) a h =
    next_entry k t ks ts o (entries_together ks os) (and_left (are_above k ks) (texts_ascending ks) a) h.0
    (entries_have ks ts os (and_right (are_above k ks) (texts_ascending ks) a) h.1)

record_has : (ks : List Text) (ts : List Ty) (os : EntryOutcomes) → AreEntriesOf ks ts os
    → HasFound (Some (TRecord (required_attrs ks ts) false)) (record_outcome os)
record_has ks ts (GiveEntries es) h = h
record_has ks ts (FailEntry f) h = tt

-- the fields together fail in an allowed way, if they fail
abbrev AreSafe : EntryOutcomes → Type 0
AreSafe (GiveEntries es) = Unit {0}
AreSafe (FailEntry f) = IsAllowed f

next_safe : (k : Text) (o : Outcome) (os : EntryOutcomes) → IsSafe o → AreSafe os → AreSafe (more_entry_outcomes k o os)
next_safe k (Gives v) (GiveEntries es) g h = tt
next_safe k (Gives v) (FailEntry f) g h = h
next_safe k (Fails f) os g h = g

together_safe : (ks : List Text) (os : List Outcome) → AllSafe os → AreSafe (entries_together ks os)
together_safe [] os h = tt
together_safe (k ∷ ks) [] h = tt
together_safe (k ∷ ks) (o ∷ os) h = next_safe k o (entries_together ks os) h.0 (together_safe ks os h.1)

record_safe : (os : EntryOutcomes) → AreSafe os → IsSafe (record_outcome os)
record_safe (GiveEntries es) h = tt
record_safe (FailEntry f) h = h

-- ---- the form

module _ (world : World) (env : TypeEnv) (m : Written) (ks : List Text) (os : List Outcome) where
  abbrev whole : Outcome
  whole = record_outcome (entries_together ks os)

  abbrev decided_by : Bool → List Ty → Decision
  decided_by ascending us =
      if ascending then gives (TRecord (required_attrs ks us) false) no_caps
      else refuses None (finding env m.place internal_invariant_violation ∷ [])

  keys_typed : (b : Bool) (us : List Ty) → texts_ascending ks ≡ b → AllTyped us os → HasFound (decided_type (decided_by b us)) whole
  keys_typed true us e h = record_has ks us (entries_together ks os) (entries_have ks us os e h)
  keys_typed false us e h = tt

  types_typed : (ts : List (Option Ty)) (found : Option (List Ty)) → AllHave ts os → all_types ts ≡ found
      → HasFound (decided_type (record_of_types env m.place ks found)) whole
  types_typed ts None h e = tt
  types_typed ts (Some us) h e = keys_typed (texts_ascending ks) us refl (found_typed ts us os h e)

  keys_gift : (b : Bool) (us : List Ty) → GiftIsSound world os whole (decided_by b us)
  keys_gift true us = silent_gift world os whole _ (λ h. record_safe (entries_together ks os) (together_safe ks os h))
  keys_gift false us = tt

  types_gift : (found : Option (List Ty)) → GiftIsSound world os whole (record_of_types env m.place ks found)
  types_gift None = tt
  types_gift (Some us) = keys_gift (texts_ascending ks) us

  record_sound : SoundForm world (record_form env m ks) os whole
  record_sound =
      record {
        typed = λ ts a. types_typed ts (all_types ts) a.have refl;
        succeeds =
            λ ts a f. types_gift (all_types ts);
        failed = λ t h. h;
      }

-- ---- evaluation

pub record_sounds : (strictly : Bool) (world : World) (env : TypeEnv) (m : Written) (fs : Fields Written) (Js : Judgments)
    → SoundsAll strictly world [] (field_outcomes world fs) Js
    → Sounds world (eval world (record_of m fs)) (eager_rules (record_form env m (field_keys fs)) Js)
record_sounds strictly world env m fs Js operands =
    let ks = field_keys fs in
    let os = field_outcomes world fs in
    subst (λ z. Sounds world (record_outcome z) (eager_rules (record_form env m ks) Js)) (evaluated_together world fs)
    (form_sounds strictly world (record_form env m ks) (λ k xs. refl) os (record_outcome (entries_together ks os))
    (of_any strictly world (record_form env m ks) os (record_outcome (entries_together ks os))
    (record_sound world env m ks os)) Js operands)
