-- What a slot owns and what it holds.
--     heap-token     the right to give a block back to the heap
--     slot_owns      nothing where it is empty, and else the view's block with the right to free it
--     content        the value of the view in it; that of a view that was fed nothing where it is empty
--     IsFull         it has a view
use mir.Syntax.{Ty}
use base.Fml.{Fml, ftrue}
use denote.RattleType.{RattleType}
use denote.RawPtr.{Ptr}
use Rattle.std.specs.Prelude.{◌≡◌, false, [], Option, Some, None}
use Rattle.lobby_view.specs.View.{new_view}
use Rattle.client_view.specs.Following.{Following}
use Rattle.std.specs.Box.Ownership.{box_owns}
use Rattle.std.specs.contracts.impls.GlobalAllocator.TheImpl.{ghosts}

abbrev pub heap-token : Ty → Ptr → Fml
heap-token = ghosts.dealloc_token (record { memory = record { seal = tt } })

abbrev pub slot_owns : (Ty → Ptr → Fml) → (R : RattleType) → Ptr → Option R.Denot → Fml
slot_owns holds R p None = ftrue
slot_owns holds R p (Some x) = box_owns holds R p x

abbrev pub content : Option Following → Following
content None = record { known = new_view []; rest = []; spoilt = false }
content (Some x) = x

abbrev pub IsFull : Option Following → Type 0
IsFull h = h ≡ Some (content h)
