-- Reading ahead in the policies of a text.
use Rattle.std.specs.Prelude.{◌≡◌, ℕ, ◌+◌, length, Option, Some, None}
use Rattle.cedar_verdicts.specs.declared.policies.Policies.{Policies}
use Rattle.cedar_verdicts.specs.declared.policies.Read.{Read}

-- the policy behind is the next one now, so one fewer is left; if there is none, the text has ended
abbrev pub comes_next : ℕ → ℕ → Option Read → Type 0
comes_next before after None = after ≡ 0
comes_next before after (Some r) = after + 1 ≡ before

abbrev pub IsReadOn : Policies → Policies → Type 0
IsReadOn old new = comes_next old.left new.left new.next

-- no policy was given yet: the first is next, and the text has at most as many as it has bytes
abbrev pub IsBegun : Policies → Type 0
IsBegun p = comes_next (length p.text.now) p.left p.next
