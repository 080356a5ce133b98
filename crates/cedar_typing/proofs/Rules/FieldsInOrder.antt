-- The values of fields, one after another: the result of those so far and of those to come.
use Rattle.std.proofs.Common.{◌≡◌, refl, sym, ap, ◌∙◌, ℕ, ◌&&◌, Bool, true, false, List, [], ◌∷◌, ◌++◌, Some, append_assoc}
use Rattle.std.specs.Prelude.{if◌then◌else◌}
use Rattle.cedar_types.specs.Errors.{Finding}
use Rattle.cedar_types.specs.Names.{Text}
use Rattle.cedar_types.specs.Expressions.Tree.{Fields, field}
use Rattle.cedar_types.specs.Expressions.View.{Written}
use Rattle.cedar_typing.specs.Capabilities.{Caps}
use Rattle.cedar_typing.specs.Infer.{infer, infer_fields}
use Rattle.cedar_typing.specs.Infer.Eager.{Operands, all_typed, cut_after, OperandsAndErrors, with_operand, infer_rest, infer_form}
use Rattle.cedar_typing.specs.Infer.Parts.{Answer, Part, part_from}
use Rattle.cedar_typing.specs.Rules.Records.{record_form}
use Rattle.cedar_typing.specs.Setting.{Setting}
use Rattle.cedar_typing.specs.TypeEnv.{TypeEnv}
use Rattle.cedar_typing.specs.TypedExpr.{Source, TypedTree}
use Rattle.cedar_typing.specs.Views.{field_operands, keys_in, trees_in}
use Rattle.cedar_typing.specs.declared.typecheck.rules.records.FieldValues.{FieldValues}

-- the result of operands after others, of which it is known whether all succeeded
abbrev pub after_others : Bool → List TypedTree → Operands → Operands
after_others succeeded xs (all_typed later ys) = all_typed (later && succeeded) (xs ++ ys)
after_others succeeded xs (cut_after ys) = cut_after (xs ++ ys)

abbrev pub finish : Bool → List TypedTree → OperandsAndErrors → OperandsAndErrors
finish succeeded xs o = (after_others succeeded xs o.0, o.1)

and_true : (b : Bool) → (b && true) ≡ b
and_true true = refl
and_true false = refl

and_assoc : (a b c : Bool) → ((a && b) && c) ≡ (a && (b && c))
and_assoc true b c = refl
and_assoc false b c = refl

after_none : (o : Operands) → after_others true [] o ≡ o
after_none (all_typed later ys) = ap (λ b. all_typed b ys) (and_true later)
after_none (cut_after ys) = refl

pub starts : (o : OperandsAndErrors) → finish true [] o ≡ o
starts o = ap (λ z. (z, o.1)) (after_none o.0)

after_one : (s : Bool) (xs : List TypedTree) (p : Part) (o : Operands) → after_others s xs (with_operand p o)
    ≡ after_others (p.succeeded && s) (xs ++ p.tree ∷ []) o
after_one s xs p (all_typed later ys) = λ i. all_typed (and_assoc later p.succeeded s i) (sym (append_assoc xs (p.tree ∷ []) ys) i)
after_one s xs p (cut_after ys) = ap cut_after (sym (append_assoc xs (p.tree ∷ []) ys))

module _ (setting : Setting) (prior : Caps) (d : ℕ) where
  -- inference of fields goes on after a field whose value is typed
  pub goes_on : (k : Text) (e : Source) (fs : Fields Written) (s : Bool) (xs : List TypedTree)
      (es es' : List Finding) (a : Answer) (p : Part)
      → infer setting e prior d es ≡ (a, es') → part_from a ≡ Some p
      → finish s xs (infer_fields setting (field k e fs) prior d es)
      ≡ finish (p.succeeded && s) (xs ++ p.tree ∷ []) (infer_fields setting fs prior d es')
  goes_on k e fs s xs es es' a p h g =
      let rest : List Finding → OperandsAndErrors = infer_fields setting fs prior d in
      ap (λ o. finish s xs (infer_rest false (part_from o.0) o.1 rest)) h
      ∙ ap (λ q. finish s xs (infer_rest false q es' rest)) g
      ∙ ap (λ z. (z, (rest es').1)) (after_one s xs p (rest es').0)

-- the keys of a record that is cut do not count
by_keys : (env : TypeEnv) (m : Written) (ks ls : List Text) (s : Bool) (xs : List TypedTree) (es : List Finding)
    (b : Bool) → (b ≡ false → ls ≡ ks)
    → infer_form (record_form env m ks) (if b then cut_after xs else all_typed s xs) es
    ≡ infer_form (record_form env m ls) (if b then cut_after xs else all_typed s xs) es
by_keys env m ks ls s xs es true h = refl
by_keys env m ks ls s xs es false h = ap (λ ks. infer_form (record_form env m ks) (all_typed s xs) es) (sym (h refl))

pub by_keys_typed : (env : TypeEnv) (m : Written) (ks : List Text) (v : FieldValues) (es : List Finding)
    → (v.is_cut ≡ false → keys_in v.typed.entries ≡ ks)
    → infer_form (record_form env m ks) (field_operands v) es
    ≡ infer_form (record_form env m (keys_in v.typed.entries)) (field_operands v) es
by_keys_typed env m ks v es h = by_keys env m ks (keys_in v.typed.entries) v.succeeded (trees_in v.typed.entries) es v.is_cut h
