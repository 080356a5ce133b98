-- Calls and sets of the program as trees, and inference of a call.
use Rattle.std.proofs.Common.{◌≡◌, ℕ, ◌+◌, false, List, [], ◌∷◌, map, refl, sym, ap, ◌∙◌, rules, Vec, Global}
use Rattle.cedar_types.specs.declared.base.expressions.Expr.{Expr}
use Rattle.cedar_types.specs.declared.base.expressions.ExprKind.{the_lemmas}
use Rattle.cedar_types.specs.declared.base.expressions.ExprKind.TheVariants as K
use Rattle.cedar_types.specs.declared.base.names.Name.{Name}
use Rattle.cedar_types.specs.Errors.{Finding}
use Rattle.cedar_types.specs.Names.{Path, path_of}
use Rattle.cedar_types.specs.Expressions.Tree.{call, set_of}
use Rattle.cedar_types.specs.Types.{ty_of}
use Rattle.cedar_types.specs.Expressions.View.{Written, trees_of, kind_written, written}
use Rattle.cedar_typing.specs.Views.Calls.{IsCallOf, shape_of}
use Rattle.cedar_typing.specs.Capabilities.{Caps}
use Rattle.cedar_typing.specs.Infer.{infer_within, infer_all}
use Rattle.cedar_typing.specs.Infer.Eager.{Operands, OperandsAndErrors, infer_form, infer_operand_list}
use Rattle.cedar_typing.specs.Infer.Parts.{AnswerAndErrors}
use Rattle.cedar_typing.specs.Rules.Calls.{arguments, call_form, expected_arguments, form_of_call}
use Rattle.cedar_typing.specs.Setting.{Setting}
use Rattle.cedar_typing.specs.TypedExpr.{Source}
use Rattle.cedar_typing.specs.Views.{at}
use Rattle.cedar_typing.specs.declared.typecheck.rules.calls.Call.{Call}

-- ---- calls and sets as trees

written_by_kind : (e : Expr (Unit {0})) → written e ≡ kind_written e.loc e.kind
written_by_kind e = search (rules, the_lemmas)

kind_call : (n : Name) (xs : Vec (Expr (Unit {0})) Global) (e : Expr (Unit {0}))
    → kind_written e.loc (K.ExtensionFunctionApp n xs)
    ≡ call (at e.loc) (path_of n) (trees_of (map written xs.items))
kind_call n xs e = search (rules, the_lemmas)

pub written_call : (e : Expr (Unit {0})) (n : Name) (xs : Vec (Expr (Unit {0})) Global)
    → e.kind ≡ K.ExtensionFunctionApp n xs
    → written e ≡ call (at e.loc) (path_of n) (trees_of (map written xs.items))
written_call e n xs h = written_by_kind e ∙ ap (kind_written e.loc) h ∙ kind_call n xs e

kind_set : (xs : Vec (Expr (Unit {0})) Global) (e : Expr (Unit {0}))
    → kind_written e.loc (K.Set xs) ≡ set_of (at e.loc) (trees_of (map written xs.items))
kind_set xs e = search (rules, the_lemmas)

pub written_set : (e : Expr (Unit {0})) (xs : Vec (Expr (Unit {0})) Global) → e.kind ≡ K.Set xs
    → written e ≡ set_of (at e.loc) (trees_of (map written xs.items))
written_set e xs h = written_by_kind e ∙ ap (kind_written e.loc) h ∙ kind_set xs e

-- ---- inference of a call

arguments_are : (xs : List Source) → arguments (trees_of xs) ≡ xs
arguments_are [] = refl
arguments_are (x ∷ xs) = ap (λ ys. x ∷ ys) (arguments_are xs)

-- a call that is known up to its arguments, by the result of these
pub call_inferred : (s : Setting) (m : Written) (n : Path) (xs : List Source) (prior : Caps) (d : ℕ)
    (es es' : List Finding) (c : Call) (o : Operands)
    → IsCallOf s m.place n xs c
    → ◌≡◌ {A = OperandsAndErrors}
    (infer_all s false (expected_arguments (map ty_of c.argument_types.now) xs) (trees_of xs) prior (d + 1) es)
    (o, es')
    → infer_within s (call m n (trees_of xs)) prior d es
    ≡ infer_form (shape_of m n (expected_arguments (map ty_of c.argument_types.now) xs) c) o es'
call_inferred s m n xs prior d es es' c o known typed =
    let by : List Source → AnswerAndErrors = λ ys. infer_operand_list (call_form s.env s.functions m n ys)
    (λ goes_on qs. infer_all s goes_on qs (trees_of xs) prior (d + 1)) es in
    ap by (arguments_are xs)
    ∙ (λ i. infer_operand_list
    (form_of_call m n (sym known.returns i) (expected_arguments (sym known.wanted i) xs) (sym known.errors i))
    (λ goes_on qs. infer_all s goes_on qs (trees_of xs) prior (d + 1)) es)
    ∙ ap (λ (r : OperandsAndErrors). infer_form (shape_of m n (expected_arguments (map ty_of c.argument_types.now) xs) c) r.0 r.1) typed
