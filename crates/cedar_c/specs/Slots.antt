-- What the pointer of a handle owns, and what a handle holds.
use base.Fml.{Fml, ftrue}
use base.Stored.{Coded}
use denote.RawPtr.{Ptr}
use Rattle.std.specs.Prelude.{Option, Some, None, String, option_map, option_and_then}
use Rattle.std.specs.Box.Ownership.{box_owns}
use Rattle.std.specs.Coded.{coded_option}
use Rattle.std.specs.Global.{Global}
use Rattle.std_heap.specs.contracts.GlobalAllocator.TheImpl.{ghosts}
use Rattle.cedar_calls.specs.declared.opened.Opened.{Opened}
use Rattle.cedar_c.specs.declared.handles.held.Held.{Held}
use Rattle.cedar_c.specs.contracts.handles.held.Held.{the_row}

-- a pointer with a value owns the box of this value, and one without a value owns nothing
abbrev pub slot_owns : Global → Ptr → Option the_row.Denot → Fml
slot_owns alloc p None = ftrue
slot_owns alloc p (Some x) = box_owns (ghosts.dealloc_token alloc) the_row p x

abbrev pub slot_coded : Coded (Option the_row.Denot)
slot_coded = coded_option the_row.coded

-- the schema that a handle holds, if it holds one
abbrev pub opened_in : Option Held → Option Opened
opened_in = option_map (λ held. held.opened)

-- the answer that a handle keeps, if it keeps one
abbrev pub kept_in : Option Held → Option (String Global)
kept_in = option_and_then (λ held. held.kept)
