-- The answer of a check of arguments.
use Rattle.std.specs.Prelude.{Option, Some, None, Result, Ok, Err}
use Rattle.cedar_types.specs.Names.{Text, text_of}
use Rattle.cedar_types.specs.declared.base.expressions.extensions.ArgumentError.{ArgumentError}

-- the message of a refusal, if the answer is one
abbrev pub refusal_of : Result (Unit {0}) ArgumentError → Option Text
refusal_of (Ok u) = None
refusal_of (Err e) = Some (text_of e.msg)
