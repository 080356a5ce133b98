-- Expressions one after another: sets, calls and records.
use Rattle.std.proofs.Common.{◌≡◌, ℕ, ◌≤◌, Bool, true, false, List, [], ◌∷◌, Option, Some, None, if◌then◌else◌, refl, ap}
use Rattle.cedar_types.specs.declared.base.location.Loc.{Loc}
use Rattle.cedar_types.specs.Names.{Text, Uid, text_eq}
use Rattle.cedar_types.specs.Types.{Ty}
use Rattle.cedar_types.specs.Values.{Value, entry_at}
use Rattle.cedar_types.specs.Expressions.View.{Written, trees_of}
use Rattle.cedar_typing.specs.Capabilities.{Caps}
use Rattle.cedar_typing.specs.Eager.{Expectation}
use Rattle.cedar_typing.specs.Evaluation.Outcomes.{Outcomes, more_outcomes, EntryOutcomes, GiveEntries, FailEntry, more_entry_outcomes}
use Rattle.cedar_typing.specs.Evaluation.Outcomes.{record_outcome}
use Rattle.cedar_typing.specs.Evaluation.World.{Outcome, Gives, Fails}
use Rattle.cedar_typing.specs.Judgments.{Judgment}
use Rattle.cedar_typing.specs.Rules.Records.{record_form, fields_from}
use Rattle.cedar_typing.specs.Rules.Eager.{Judgments, NoneDerived, none_derived, also_derived, no_operands, one_more, eager_typed}
use Rattle.cedar_typing.specs.Rules.Eager.{eager_rules}
use Rattle.cedar_typing.specs.Soundness.{OnValue}
use Rattle.cedar_typing.specs.TypeEnv.{TypeEnv}
use Rattle.cedar_typing.specs.TypedExpr.{TypedTree}
use Rattle.cedar_typechecker.specs.Levels.Setting.{LevelSetting}
use Rattle.cedar_typechecker.proofs.Levels.Silent.{IfSo, Silent, AllSilent, FieldsSilent, Targeted, FieldTargeted}
use Rattle.cedar_typechecker.proofs.Slices.Ids.{Selected, SelectedIn}
use Rattle.cedar_typechecker.proofs.Slices.Same.{IsReached, IsSame}

-- Q holds of each id that the entries hold along a key and a path, if evaluation gives entries
abbrev pub EntriesSelect : (Uid → Type 0) → Text → List Text → EntryOutcomes → Type 0
EntriesSelect Q p path (GiveEntries es) = SelectedIn Q path (entry_at p es)
EntriesSelect Q p path (FailEntry f) = Unit {0}

-- ---- one entry more

module _ (Q : Uid → Type 0) (p l : Text) (path : List Text) where
  first_if : (b : Bool) (v : Value) (o : Option Value) → b ≡ true → Selected Q path v
      → SelectedIn Q path (if b then Some v else o)
  first_if true v o e h = h
  first_if false v o e h = cc

  later_if : (b : Bool) (v : Value) (o : Option Value) → b ≡ false → SelectedIn Q path o
      → SelectedIn Q path (if b then Some v else o)
  later_if true v o e h = cc
  later_if false v o e h = h

  first_entry : (o : Outcome) (os : EntryOutcomes) → text_eq p l ≡ true
      → OnValue (Selected Q path) o → EntriesSelect Q p path (more_entry_outcomes l o os)
  first_entry (Fails f) os e h = tt
  first_entry (Gives v) (FailEntry f) e h = tt
  first_entry (Gives v) (GiveEntries es) e h = first_if (text_eq p l) v (entry_at p es) e h

  later_entry : (o : Outcome) (os : EntryOutcomes) → text_eq p l ≡ false
      → EntriesSelect Q p path os → EntriesSelect Q p path (more_entry_outcomes l o os)
  later_entry (Fails f) os e h = tt
  later_entry (Gives v) (FailEntry f) e h = tt
  later_entry (Gives v) (GiveEntries es) e h = later_if (text_eq p l) v (entry_at p es) e h

module _ (s : LevelSetting) (P : ℕ → Uid → Type 0) where
  -- ---- sets and arguments

  pub record AreSame (os os' : Outcomes) (Js : Judgments) : Type 0 where
    pub all : (xs : List TypedTree) → Js.derive xs → AllSilent s (trees_of xs) → os' ≡ os

  pub none_same : (os : Outcomes) → AreSame os os no_operands
  none_same os = record { all = λ xs d h. refl }

  module _ (env : TypeEnv) (goes_on : Bool) (q : Expectation) (l : Option Loc) (o o' : Outcome)
      (os os' : Outcomes) (J : Judgment) (Js : Judgments) (one : IsSame s P o o' J)
      (others : AreSame os os' Js) where
    more_all : (xs : List TypedTree) → (one_more env goes_on q l J Js).derive xs
        → AllSilent s (trees_of xs) → more_outcomes o' os' ≡ more_outcomes o os
    more_all xs (also_derived {t = t} {c = c} {x = x} {xs = ys} d i ds) h =
        let e = one.checked t c x d h.0 in
        let f = others.all ys ds h.1 in
        λ j. more_outcomes (e j) (f j)

    pub more_same : AreSame (more_outcomes o os) (more_outcomes o' os')
        (one_more env goes_on q l J Js)
    more_same = record { all = more_all }

  -- ---- fields

  pub record AreSameFields (ks : List Text) (os os' : EntryOutcomes) (Js : Judgments) :
      Type 0 where
    pub all : (xs : List TypedTree) → Js.derive xs → FieldsSilent s (fields_from ks xs) → os' ≡ os
    pub target : (xs : List TypedTree) → Js.derive xs
        → (p : Text) (path : List Text) (k : ℕ) → k ≤ s.maximum
        → FieldTargeted s (fields_from ks xs) p path k
        → (os' ≡ os) × EntriesSelect (P k) p path os

  no_field : (xs : List TypedTree) → NoneDerived xs → (p : Text) (path : List Text) (k : ℕ)
      (X : Type 0) → FieldTargeted s (fields_from [] xs) p path k → X
  no_field xs none_derived p path k X h = absurd h

  pub none_fields : (os : EntryOutcomes) → AreSameFields [] os os no_operands
  none_fields os = record {
    all = λ xs d h. refl;
    target = λ xs d p path k le h. no_field xs d p path k _ h;
  }

  module _ (env : TypeEnv) (l : Option Loc) (key : Text) (ks : List Text) (o o' : Outcome)
      (os os' : EntryOutcomes) (J : Judgment) (Js : Judgments) (one : IsSame s P o o' J)
      (others : AreSameFields ks os os' Js) where
    abbrev More : Judgments
    More = one_more env false None l J Js

    abbrev here : EntryOutcomes
    here = more_entry_outcomes key o os

    abbrev there : EntryOutcomes
    there = more_entry_outcomes key o' os'

    both_same : o' ≡ o → os' ≡ os → there ≡ here
    both_same e f = λ j. more_entry_outcomes key (e j) (f j)

    fields_all : (xs : List TypedTree) → More.derive xs
        → FieldsSilent s (fields_from (key ∷ ks) xs) → there ≡ here
    fields_all xs (also_derived {t = t} {c = c} {x = x} {xs = ys} d i ds) h =
        both_same (one.checked t c x d h.0) (others.all ys ds h.1)

    field_by : (b : Bool) (t : Ty) (c : Caps) (x : TypedTree) (ys : List TypedTree)
        → J.derives t c x → Js.derive ys
        → (p : Text) (path : List Text) (k : ℕ) → k ≤ s.maximum → text_eq p key ≡ b
        → IfSo b (Targeted s x path k × FieldsSilent s (fields_from ks ys))
        (Silent s x × FieldTargeted s (fields_from ks ys) p path k)
        → (there ≡ here) × EntriesSelect (P k) p path here
    field_by true t c x ys d ds p path k le g h =
        let e = one.target t c x d path k le h.0 in
        (both_same e.same (others.all ys ds h.1), first_entry (P k) p key path o os g e.ids)
    field_by false t c x ys d ds p path k le g h =
        let f = others.target ys ds p path k le h.1 in
        (both_same (one.checked t c x d h.0) f.0, later_entry (P k) p key path o os g f.1)

    field_target : (xs : List TypedTree) → More.derive xs
        → (p : Text) (path : List Text) (k : ℕ) → k ≤ s.maximum
        → FieldTargeted s (fields_from (key ∷ ks) xs) p path k
        → (there ≡ here) × EntriesSelect (P k) p path here
    field_target xs (also_derived {t = t} {c = c} {x = x} {xs = ys} d i ds) p path k le h =
        field_by (text_eq p key) t c x ys d ds p path k le refl h

    pub more_fields : AreSameFields (key ∷ ks) here there More
    more_fields = record { all = fields_all; target = field_target }

  -- ---- records

  record_ids : (k : ℕ) (p : Text) (path : List Text) (os : EntryOutcomes)
      → EntriesSelect (P k) p path os → OnValue (Selected (P k) (p ∷ path)) (record_outcome os)
  record_ids k p path (GiveEntries es) h = h
  record_ids k p path (FailEntry f) h = tt

  module _ (env : TypeEnv) (m : Written) (ks : List Text) (os os' : EntryOutcomes)
      (Js : Judgments) (fields : AreSameFields ks os os' Js) where
    abbrev Whole : Judgment
    Whole = eager_rules (record_form env m ks) Js

    record_checked : (t : Ty) (c : Caps) (x : TypedTree) → Whole.derives t c x → Silent s x
        → record_outcome os' ≡ record_outcome os
    record_checked t c x (eager_typed {xs = xs} ds e) h = ap record_outcome (fields.all xs ds h)

    record_target : (t : Ty) (c : Caps) (x : TypedTree) → Whole.derives t c x
        → (path : List Text) (k : ℕ) → k ≤ s.maximum → Targeted s x path k
        → IsReached P path k (record_outcome os) (record_outcome os')
    record_target t c x (eager_typed {xs = xs} ds e) [] k le h = absurd h
    record_target t c x (eager_typed {xs = xs} ds e) (p ∷ path) k le h =
        let f = fields.target xs ds p path k le h in
        record { same = ap record_outcome f.0; ids = record_ids k p path os f.1 }

    pub record_same : IsSame s P (record_outcome os) (record_outcome os') Whole
    record_same = record { checked = record_checked; target = record_target }
