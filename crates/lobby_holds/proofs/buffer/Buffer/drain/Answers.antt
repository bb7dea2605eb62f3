use Rattle.std.proofs.Common.{◌≡◌, ◌≤◌, ◌+◌, ◌++◌, List, ℕ, length, take, drop, sym, ap, subst, ◌∙◌, arith}
use Rattle.byte_queue.specs.Waiting.{Waiting}
use Rattle.lobby_holds.proofs.Drains.{drained_behind}
use Rattle.lobby_holds.proofs.Spaces.{part_behind, slice_length}
use Rattle.lobby_holds.proofs.buffer.Buffer.drain.Goals as goal

pub returns-clause-drained : goal.returns-clause-drained
returns-clause-drained c =
    let from = c.self.inside.from in
    let to = c.self.inside.to in
    let count = c.drain_all-piece.result.count in
    let into = c.drain_all-piece.new.into in
    let d = c.deref_mut.result.now in
    let same : length d ≡ length c.self.inside.memory.items = ap length c.deref_mut.ensures.value in
    let within : to ≤ length d = subst (λ (xs : List ℕ). to ≤ length xs) (sym c.deref_mut.ensures.value) c.self.invariant.1 in
    let room : to + 4096 ≤ length d = omega (arith, same, within, c.requires.room, ap (λ (w : Waiting). w.room) c.self.view_is) in
    let slice = slice_length to 4096 d room in
    let long : to + length into ≤ c.self.inside.memory.len = omega (arith, room, slice, c.drain_all-piece.auto.into, c.deref_mut.ensures.len) in
    let e = c.drain_all-piece.ensures.drained in
    drained_behind _ _ _ _ into _ _ c.drain_all-piece.result (omega (arith, slice)) e (
    part_behind from to count c.self.inside.memory.len d into _ _ c.self.invariant.0 within e.few long
    ∙ ap (λ (xs : List ℕ). drop from (take to xs) ++ take count into) c.deref_mut.ensures.value
    ∙ ap (λ (w : Waiting). w.bytes ++ take count into) c.self.view_is)
