-- Expressions without parts: their copies are they.
use Rattle.std.proofs.Common.{◌≡◌, List, Option}
use Rattle.cedar_types.specs.Errors.{Finding}
use Rattle.cedar_types.specs.Expressions.View.{Written}
use Rattle.cedar_types.specs.Names.{Path}
use Rattle.cedar_types.specs.Types.{Ty}
use Rattle.cedar_typing.specs.Capabilities.{Caps}
use Rattle.cedar_typing.specs.Evaluation.Eval.{eval}
use Rattle.cedar_typing.specs.Evaluation.World.{World, Outcome, Fails, UnknownValue}
use Rattle.cedar_typing.specs.Rules.Leaves.{LeafRule, leaf, LeafRecovery, leaf_missing, leaf_rules, UnknownRecovery, unknown_fails}
use Rattle.cedar_typing.specs.Rules.Leaves.{unknown_rules}
use Rattle.cedar_typing.specs.TypedExpr.{TypedTree, Mark}
use Rattle.cedar_typing.proofs.TypedCopies.Same.{Copies}
use Rattle.std.proofs.Common.{refl}

module _ (S : TypedTree → Type 0) (R : Type 0) (world : World) where
  module _ (m : Written) (node : Mark → TypedTree) (o : Outcome) (same : (k : Mark) → eval world (node k) ≡ o) (found : Option Ty) where
    leaf_derived : (t : Ty) (c : Caps) (x : TypedTree) → LeafRule found m node t c x → eval world x ≡ o
    leaf_derived t c x (leaf e) = same _

    leaf_recovered : (x : TypedTree) (es : List Finding) → LeafRecovery found m node x es → eval world x ≡ o
    leaf_recovered x es (leaf_missing e) = same _

    pub leaf_copies : Copies S R world o (leaf_rules found m node)
    leaf_copies = record {
      derivations = λ t c x d s. leaf_derived t c x d;
      recoveries = λ r x es d s. leaf_recovered x es d;
    }

  unknown_recovered : (n : Path) (m : Written) (x : TypedTree) (es : List Finding) → UnknownRecovery n m x es
      → eval world x ≡ Fails UnknownValue
  unknown_recovered n m x es unknown_fails = refl

  pub unknown_copies : (n : Path) (m : Written) → Copies S R world (Fails UnknownValue) (unknown_rules n m)
  unknown_copies n m = record {
    derivations = λ t c x d s. absurd d;
    recoveries = λ r x es d s. unknown_recovered n m x es d;
  }
