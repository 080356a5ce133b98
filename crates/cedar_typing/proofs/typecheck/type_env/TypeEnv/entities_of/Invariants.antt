use Rattle.std.proofs.Common.{◌≡◌, map, drop}
use Rattle.cedar_types.specs.Names.{uid_of}
use Rattle.cedar_typing.specs.Views.{env_at}
use Rattle.cedar_typing.proofs.Rules.Membership.{entities_in, after}
use Rattle.cedar_typing.proofs.typecheck.type_env.TypeEnv.entities_of.Given as goal

-- the entities so far, and those of the elements that are left
abbrev pub invariant-loop-element : goal.invariant-loop-element
invariant-loop-element l =
    after (map uid_of l.all.items) (entities_in (env_at l.self).request_env (drop l.element-index l.elements))
    ≡ entities_in (env_at l.fn.self).request_env l.fn.elements
