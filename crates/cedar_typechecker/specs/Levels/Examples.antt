-- The schema of users and photos, and the expressions, of the computed examples of levels.
use Rattle.std.specs.Prelude.{ℕ, Bool, true, false, List, [], ◌∷◌, map, Option, Some, None, codes}
use Rattle.cedar_types.specs.declared.base.expressions.operators.Var.{Var}
use Rattle.cedar_types.specs.declared.base.names.slots.SlotId.{SlotId}
use Rattle.cedar_types.specs.declared.base.types.BoolType.TheVariants.{AnyBool}
use Rattle.cedar_types.specs.declared.base.types.ValidationMode.{ValidationMode}
use Rattle.cedar_types.specs.declared.base.types.ValidationMode.TheVariants.{Strict}
use Rattle.cedar_types.specs.Errors.{Fault, Finding}
use Rattle.cedar_types.specs.Names.{Path, Uid}
use Rattle.cedar_types.specs.Environments.RequestEnvs.{Declared}
use Rattle.cedar_types.specs.Schemas.{StandardKind, Schema}
use Rattle.cedar_types.specs.Templates.{to_slot, any, within, PlainTemplate, condition_of}
use Rattle.cedar_types.specs.Expressions.Tree.{Shape, var, slot, if_then_else, ext_has_attr}
use Rattle.cedar_types.specs.Types.{Ty, TBool, TString, TRecord, TEntity, TExtension, Attrs, no_attrs, attr}
use Rattle.cedar_typing.specs.Examples.Composition.{template}
use Rattle.cedar_typing.specs.Examples.Expressions.{node, principal, dot, has2, record1, record2}
use Rattle.cedar_typing.specs.Examples.World.{named, user, an_action_named}
use Rattle.cedar_typing.specs.PolicyCheck.{Verdict, succeeds, irrelevant, fails, policy_check}
use Rattle.cedar_typing.specs.Soundness.Policies.{Basis, setting_on}
use Rattle.cedar_typechecker.specs.Levels.Setting.{LevelSetting}
use Rattle.cedar_typechecker.specs.Levels.Walk.{checked_errors}

-- ---- the schema

abbrev pub photo : Path
photo = named (codes "Photo")

-- `Action::"view"`, which is declared, and `Action::"edit"`, which is not
abbrev pub view : Uid
view = an_action_named (codes "view")

abbrev pub edit : Uid
edit = an_action_named (codes "edit")

abbrev pub a_user : Ty
a_user = TEntity (user ∷ [])

-- `{user: User}`
abbrev pub one_user : Attrs
one_user = attr (codes "user") a_user true no_attrs

abbrev pub user_attributes : Attrs
user_attributes =
    attr (codes "bool") (TBool AnyBool) true
    (attr (codes "ip") (TExtension (named (codes "ipaddr"))) true
    (attr (codes "nested") (TRecord one_user false) true
    (attr (codes "other") TString true one_user)))

abbrev pub view_context : Ty
view_context =
    TRecord (attr (codes "nested") (TRecord one_user false) true one_user) false

-- users have a user each, and tags that are users; photos have a user; users view photos
abbrev pub photos : Schema
photos = record {
  types =
      record {
        name = user;
        descendants = user ∷ [];
        kind = StandardKind user_attributes (Some a_user);
      }
      ∷ record { name = photo; descendants = []; kind = StandardKind one_user None }
      ∷ [];
  actions =
      record {
        name = view;
        descendants = [];
        applies_to =
            Some (record {
              principals = user ∷ [];
              resources = photo ∷ [];
              context = view_context;
            });
      }
      ∷ [];
}

abbrev pub photo_basis : ValidationMode → Basis
photo_basis m = record {
  schema = photos;
  mode = m;
  table = record { functions = []; overloaded_types = [] };
}

-- the setting of levels in the schema's one environment
abbrev pub photo_levels : ℕ → LevelSetting
photo_levels n = record {
  action = Some view;
  schema = photos;
  maximum = n;
  policy = codes "policy0";
}

-- ---- the errors of a policy

abbrev pub errors_in : ℕ → Verdict → List Finding
errors_in n (succeeds x) = checked_errors (photo_levels n) x
errors_in n (irrelevant es x) = checked_errors (photo_levels n) x
errors_in n (fails es) = []

abbrev pub faults_in : ℕ → Verdict → List Fault
faults_in n v = map (λ e. e.fault) (errors_in n v)

-- the verdict of a template's check, with the principal's slot linked to a type or to none
abbrev pub verdict_linked : ValidationMode → Option Path → PlainTemplate → Verdict
verdict_linked m p t =
    policy_check
    (setting_on (photo_basis m) (codes "policy0")
    (Declared
    (record { principal = user; action = view; resource = photo; context = view_context })
    p None))
    (condition_of t)

abbrev pub passes : Verdict → Bool
passes (succeeds x) = true
passes (irrelevant es x) = false
passes (fails es) = false

-- `permit(principal, action, resource) when { e }`
abbrev pub when : Shape → PlainTemplate
when e = template any any (Some e)

-- the faults of a condition at a maximum, with repeats
abbrev pub faults_at : ValidationMode → ℕ → Shape → List Fault
faults_at m n e = faults_in n (verdict_linked m None (when e))

abbrev pub strictly : ℕ → Shape → List Fault
strictly = faults_at Strict

-- the errors of a condition, whose nodes are numbered from 1 in the order in which they are written
abbrev pub errors_at : ℕ → Shape → List Finding
errors_at n e = errors_in n (verdict_linked Strict None (when e))

abbrev pub at_node : ℕ → Fault → Finding
at_node k f = record { place = (node k).place; policy = codes "policy0"; fault = f }

-- ---- expressions

abbrev pub resource : Shape
resource = var tt Var.Resource

-- `a.user`, `a.bool`, `a.other`
abbrev pub user_of : Shape → Shape
user_of a = dot a (codes "user")

abbrev pub bool_of : Shape → Shape
bool_of a = dot a (codes "bool")

abbrev pub other_of : Shape → Shape
other_of a = dot a (codes "other")

-- `a has nested.user.bool`
abbrev pub has_three : Shape → Shape
has_three a = ext_has_attr tt a (codes "nested") (codes "user" ∷ codes "bool" ∷ [])

-- `{foo: a, bar: b}`, by ascending keys
abbrev pub foo_bar : Shape → Shape → Shape
foo_bar a b = record2 (codes "bar") b (codes "foo") a

abbrev pub foo_of : Shape → Shape
foo_of a = dot a (codes "foo")

abbrev pub only_foo : Shape → Shape
only_foo a = record1 (codes "foo") a

-- `if principal.bool then a else b`
abbrev pub chosen : Shape → Shape → Shape
chosen a b = if_then_else tt (bool_of principal) a b

-- `principal.user.user.user.user`, and with two more attributes
abbrev pub four_users : Shape
four_users = user_of (user_of (user_of (user_of principal)))

abbrev pub long_chain : Shape
long_chain = bool_of (user_of four_users)

-- `{foo: ?principal} has foo.user`
abbrev pub has_in_slot : PlainTemplate
has_in_slot = when (has2 (only_foo (slot tt SlotId.Principal)) (codes "foo") (codes "user"))

-- `permit(principal in ?principal, action, resource)`
abbrev pub in_slot : PlainTemplate
in_slot = template (within to_slot) any None
