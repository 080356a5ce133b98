-- A pointer with a value owns what a box at the same types owns.
use Rattle.std.proofs.Common.{◌≡◌, [], refl}
use Rattle.std.specs.Prelude.{◌≢◌, Option, Some, None}
use mir.Syntax.{impl, tnil, dnil}
use denote.Signature.{plain}
use denote.Signature as sig
use Rattle.std_alloc.proofs.BoxSteps.Form.{Bx}
use Rattle.std_heap.specs.contracts.Global as Heap
use Rattle.std_heap.specs.contracts.GlobalAllocator.TheImpl.{ghosts, dict}
use Rattle.std_heap.proofs.Global.TheLaws as heap
use Rattle.cedar_c.specs.contracts.handles.held.Held as Held
use Rattle.cedar_c.proofs.handles.held.Held.TheLaws as held
use Rattle.cedar_c.specs.contracts.handles.parts.Parts as Parts
use Rattle.cedar_c.specs.contracts.handles.slot.Slot as Slot

abbrev pub E : Bx
E = record { row = Held.the_row; laws = held.the_row_laws; al = record { row = Heap.the_row; laws = heap.the_row_laws; g = ghosts; d = dict; drops = impl [] tnil dnil } }

abbrev pub FromParts : sig.Slot 0
FromParts = plain (λ _. Parts.the_row Held.the_row Heap.the_row ghosts)

abbrev pub FromSlot : sig.Slot 0
FromSlot = plain (λ _. Slot.the_row)

abbrev pub FromHeap : sig.Slot 0
FromHeap = plain (λ _. Heap.the_row)

pub some_of : {X : Type 0} (o : Option X) → o ≢ None → (x : X) × (o ≡ Some x)
some_of None there = absurd (there refl)
some_of (Some x) there = (x, refl)
