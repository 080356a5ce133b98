-- Answers on the policies of a text, one after another.
use Rattle.std.specs.Prelude.{◌≡◌, ℕ, ◌+◌, ◌||◌, Option, Some, None}
use Rattle.cedar_types.specs.Names.{Text, text_eq, text_of}
use Rattle.cedar_types.specs.Templates.{template_of}
use Rattle.cedar_typing.specs.Soundness.Policies.{Basis}
use Rattle.cedar_verdicts.specs.declared.ids.Ids.{Ids}
use Rattle.cedar_verdicts.specs.declared.policies.Read.{Read}
use Rattle.cedar_verdicts.specs.declared.policies.Read.TheVariants as Read
use Rattle.cedar_verdicts.specs.declared.texts.Said.{Said}
use Rattle.cedar_verdicts.specs.declared.texts.Said.TheVariants as Said
use Rattle.cedar_verdicts.specs.Ids.{has_id}
use Rattle.cedar_verdicts.specs.Verdicts.{IsRightVerdict, IsWholeVerdict}

-- a verdict in an answer is right
abbrev pub IsRightSaid : Basis → Option ℕ → Said → Type 0
IsRightSaid b level (Said.Verdict p v) = IsRightVerdict b level (template_of p) v
IsRightSaid b level (Said.Fault f) = Unit {0}

-- a verdict in an answer is whole, if these ids are those of the policies before
abbrev pub IsWholeSaid : Basis → Option ℕ → Ids → Said → Type 0
IsWholeSaid b level ids (Said.Verdict p v) =
    IsWholeVerdict b level (template_of p) (has_id ids (text_of p.id.text)) v
IsWholeSaid b level ids (Said.Fault f) = Unit {0}

-- the ids gain the id of a policy that gets a verdict
abbrev pub AreIdsAfter : Ids → Ids → Option Said → Type 0
AreIdsAfter old new None = (t : Text) → has_id new t ≡ has_id old t
AreIdsAfter old new (Some (Said.Verdict p v)) = (t : Text) → has_id new t ≡ (text_eq t (text_of p.id.text) || has_id old t)
AreIdsAfter old new (Some (Said.Fault f)) = (t : Text) → has_id new t ≡ has_id old t

-- an answer is on this policy of the text: a verdict on the policy if it is read, else its fault
abbrev pub IsSaidOf : Option Read → Said → Type 0
IsSaidOf (Some (Read.Policy p marks)) (Said.Verdict q v) = q ≡ p
IsSaidOf (Some (Read.Fault f)) (Said.Fault g) = g ≡ f
IsSaidOf (Some (Read.Policy p marks)) (Said.Fault g) = ⊥
IsSaidOf (Some (Read.Fault f)) (Said.Verdict q v) = ⊥
IsSaidOf None s = ⊥

-- the number of faults that were told, with the one of this answer
abbrev pub faults_after : ℕ → Option Said → ℕ
faults_after n (Some (Said.Fault f)) = n + 1
faults_after n (Some (Said.Verdict p v)) = n
faults_after n None = n
