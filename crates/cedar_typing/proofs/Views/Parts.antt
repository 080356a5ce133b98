-- The part that an answer hands on, as plain data, and the answers of literals.
use Rattle.std.proofs.Common.{◌≡◌, refl, ap, sym, ◌∙◌, Bool, List, [], ◌∷◌, ◌++◌, Option, Some, None, option_map}
use Rattle.std.specs.Prelude.{is_some}
use Rattle.cedar_types.specs.declared.base.location.Loc.{Loc}
use Rattle.cedar_types.specs.declared.base.expressions.literals.Literal.{Literal}
use Rattle.cedar_types.specs.declared.base.expressions.ExprKind.TheVariants as K
use Rattle.cedar_types.specs.declared.base.expressions.operators.Var.{Var}
use Rattle.cedar_types.specs.declared.base.types.CedarType.{CedarType}
use Rattle.cedar_types.specs.Types.{Ty, ty_of}
use Rattle.cedar_types.specs.Expressions.Tree.{Lit, lit, var}
use Rattle.cedar_types.specs.Expressions.View.{Written, lit_of, lit_places}
use Rattle.cedar_types.specs.declared.base.errors.validation_errors.ValidationError.{ValidationError}
use Rattle.cedar_types.specs.Errors.{Finding, finding_of}
use Rattle.cedar_typing.specs.declared.typecheck.answer.Part as part
use Rattle.cedar_typing.specs.declared.typecheck.answer.TypecheckAnswer.{TypecheckAnswer}
use Rattle.cedar_typing.specs.Capabilities.{no_caps}
use Rattle.cedar_typing.specs.Infer.Leaves.{infer_leaf}
use Rattle.cedar_typing.specs.Infer.Parts.{answer_if, part_from, expect_part, expect_type}
use Rattle.cedar_typing.specs.TypeEnv.{TypeEnv}
use Rattle.cedar_typing.specs.TypedExpr.{typed_tree}
use Rattle.cedar_typing.specs.Views.{answer_of, part_of, findings, at}
use Rattle.cedar_typing.proofs.Views.Typed.{by_layer, annotation_is}

-- the result of an operand, from the part that is handed on
pub part_is_expected : (env : TypeEnv) (ts : List Ty) (l : Option Loc) (a : TypecheckAnswer) (o : Option part.Part)
    (p : part.Part) (es : List Finding) → option_map part_of o ≡ part_from (answer_of a) → o ≡ Some p
    → expect_part env ts l (part_from (answer_of a)) es ≡ expect_type env ts l (part_of p) es (option_map ty_of p.typed.value.annotation)
part_is_expected env ts l a o p es h k =
    ap (λ g. expect_part env ts l g es) (sym h ∙ ap (option_map part_of) k)
    ∙ ap (expect_type env ts l (part_of p) es) (annotation_is p.typed.value)

literal_at : (o : Option CedarType) (m : Written) (x : Lit)
    → answer_if (is_some o) (lit (record { ty = option_map ty_of o; at = m }) x) no_caps
    ≡ infer_leaf (option_map ty_of o) m (λ k. lit k x)
literal_at None m x = refl
literal_at (Some t) m x = refl

-- the answer for a literal whose type is o, by a copy y of the literal x
pub literal_answer : (o : Option CedarType) (l : Option Loc) (x y : Literal) (b : Bool) (found : Option Ty)
    → b ≡ is_some o → lit_of y ≡ lit_of x → lit_places y ≡ lit_places x → option_map ty_of o ≡ found
    → answer_if b (typed_tree (record { annotation = o; loc = l; kind = K.Lit y })) no_caps
    ≡ infer_leaf found (record { place = l; names = lit_places x }) (λ k. lit k (lit_of x))
literal_answer o l x y b found e f g h =
    let t = by_layer (record { annotation = o; loc = l; kind = K.Lit y })
    ∙ (λ i. lit (record { ty = option_map ty_of o; at = record { place = l; names = g i } }) (f i)) in
    (λ i. answer_if (e i) (t i) no_caps)
    ∙ literal_at o _ _ ∙ ap (λ z. infer_leaf z (record { place = l; names = lit_places x })
    (λ k. lit k (lit_of x))) h

variable_at : (o : Option CedarType) (m : Written) (x : Var)
    → answer_if (is_some o) (var (record { ty = option_map ty_of o; at = m }) x) no_caps
    ≡ infer_leaf (option_map ty_of o) m (λ k. var k x)
variable_at None m x = refl
variable_at (Some t) m x = refl

-- the answer for a variable whose type is o
pub variable_answer : (o : Option CedarType) (l : Option Loc) (x : Var) (b : Bool) (found : Option Ty)
    → b ≡ is_some o → option_map ty_of o ≡ found
    → answer_if b (typed_tree (record { annotation = o; loc = l; kind = K.Var x })) no_caps ≡ infer_leaf found (at l) (λ k. var k x)
variable_answer o l x b found e h =
    let t = by_layer (record { annotation = o; loc = l; kind = K.Var x }) in
    (λ i. answer_if (e i) (t i) no_caps) ∙ variable_at o _ x ∙ ap (λ z. infer_leaf z (at l) (λ k. var k x)) h

-- one more error before others
pub one_more_finding : (xs : List ValidationError) (x : ValidationError) (rest : List Finding)
    → findings (xs ++ x ∷ []) ++ rest ≡ findings xs ++ (finding_of x ∷ rest)
one_more_finding [] x rest = refl
one_more_finding (y ∷ xs) x rest = ap (λ l. finding_of y ∷ l) (one_more_finding xs x rest)
