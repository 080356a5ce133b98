use Rattle.std.proofs.Common.{◌≡◌, map, drop}
use Rattle.cedar_types.specs.Capability.Digest.{trees_digest, fields_digest}
use Rattle.cedar_types.specs.Expressions.View.{shape, trees_of, fields_of}
use Rattle.cedar_types.proofs.types.capability.digests.+digest.Given as goal

-- The digest so far and the remaining elements give the digest of all
abbrev pub invariant-list_digest-loop-e : goal.invariant-list_digest-loop-e
invariant-list_digest-loop-e l =
    trees_digest l.digest (trees_of (map shape (drop l.e-index l.e-items)))
    ≡ trees_digest l.fn.before (trees_of (map shape l.fn.es.items))

abbrev pub invariant-fields_digest-loop-key : goal.invariant-fields_digest-loop-key
invariant-fields_digest-loop-key l =
    fields_digest l.digest (fields_of (map (λ f. (f.0, shape f.1)) l.key-iterator))
    ≡ fields_digest l.fn.before (fields_of (map (λ f. (f.0, shape f.1)) l.fn.fields.entries))
