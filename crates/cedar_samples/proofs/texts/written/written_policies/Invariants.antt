use Rattle.std.proofs.Common.{◌≡◌, All}
use Rattle.cedar_types.specs.Names.{text_of}
use Rattle.cedar_samples.proofs.texts.written.written_policies.Given as goal

-- the policies so far share the text
abbrev pub invariant-loop : goal.invariant-loop
invariant-loop l =
    All (λ p. text_of p.text ≡ l.fn.text) l.policies.items
    × (text_of l.shared ≡ l.fn.text)
