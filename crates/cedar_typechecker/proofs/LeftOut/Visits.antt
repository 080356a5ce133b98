-- Where the scope has no `in`, no environment asks its demand.
use Rattle.std.proofs.Common.{◌≡◌, Bool, true, false, true≢false, ◌&&◌, ◌||◌, List, [], ◌∷◌, refl, ◌∙◌, ap}
use Rattle.std.specs.List.{list_any}
use Rattle.cedar_types.specs.declared.base.types.ValidationMode.{ValidationMode}
use Rattle.cedar_types.specs.Environments.RequestEnvs.{Env, Declared, Undeclared}
use Rattle.cedar_types.specs.Names.{Path, path_eq}
use Rattle.cedar_types.specs.Schemas.{Schema}
use Rattle.cedar_types.specs.Schemas.Contents.{schema_of}
use Rattle.cedar_types.specs.Templates.{Scope, any, equal, within, typed, typed_within, template_of}
use Rattle.cedar_typechecker.specs.declared.survey.left_out.DecidedScope.{DecidedScope}
use Rattle.cedar_typechecker.specs.LeftOut.{lists_actions, has_in, has_in_beside, is_left_out_by, may_equal, visits_in_beside}
use Rattle.cedar_typechecker.specs.Surveyed.{admitted_by, asks_of}

not_visited : (s : Schema) (m : ValidationMode) (lists : Bool) (c : Scope) (p : Path) → has_in_beside lists c ≡ false
    → visits_in_beside s m lists c p ≡ false
not_visited s m lists any p h = h
not_visited s m lists (equal r) p h = ap (λ b. b && may_equal s m r p) h
not_visited s m lists (within r) p h = h
not_visited s m lists (typed n) p h = ap (λ b. b && path_eq n.name p) h
not_visited s m lists (typed_within n r) p h = absurd (true≢false h)

never : (b : Bool) → (b && false) ≡ false
never true = refl
never false = refl

asks_not : (d : DecidedScope) (e : Env) → has_in (template_of d.template.now) ≡ false → asks_of d e ≡ false
asks_not d (Declared v p r) h =
    let t = template_of d.template.now in
    let us = admitted_by d in
    ap (λ b. is_left_out_by us (Declared v p r) && b)
    (not_visited (schema_of d.schema.now) d.mode (lists_actions t.action) t.principal v.principal h)
    ∙ never (is_left_out_by us (Declared v p r))
asks_not d Undeclared h = refl

pub none_asks : (d : DecidedScope) (es : List Env) → has_in (template_of d.template.now) ≡ false → list_any (asks_of d) es ≡ false
none_asks d [] h = refl
none_asks d (e ∷ es) h = ap (λ b. b || list_any (asks_of d) es) (asks_not d e h) ∙ none_asks d es h
