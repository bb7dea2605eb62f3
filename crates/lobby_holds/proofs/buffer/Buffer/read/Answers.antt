use Rattle.std.proofs.Common.{◌≡◌, ◌≤◌, List, ℕ, length, take, sym, ap, ◌∙◌, arith}
use Rattle.byte_queue.specs.Waiting.{Waiting}
use Rattle.std.proofs.lemmas.List.{length-take-le}
use Rattle.lobby_holds.specs.Wire.{and_more}
use Rattle.lobby_holds.proofs.Spaces.{front_kept, front_length}
use Rattle.lobby_holds.proofs.buffer.Buffer.read.Goals as goal

pub read_front-got-requires-clause-room : goal.read_front-got-requires-clause-room
read_front-got-requires-clause-room g c = omega (arith, c.min-room.ensures, ap length c.deref_mut.ensures.value)

pub read_front-got-requires-clause-some : goal.read_front-got-requires-clause-some
read_front-got-requires-clause-some g c = omega (arith, c.requires.some, c.requires.room, c.min.ensures, c.min-room.ensures, ap (λ (w : Waiting). w.room) c.self.view_is)

pub invariant_of-self : goal.invariant_of-self
invariant_of-self g c =
    let into = c.read_front-got.new.into in
    let long : length into ≡ c.self.inside.memory.len = c.read_front-got.auto.into ∙ c.deref_mut.ensures.len in
    let few : c.count_of-self-inside.result ≤ length into = omega (arith, long, c.min-room.ensures, c.count_of-self-inside.ensures, c.read_front-got.ensures.few) in
    (omega arith, front_length c.count_of-self-inside.result c.self.inside.memory.len into _ few long, λ e. sym e)

pub returns-clause-read : goal.returns-clause-read
returns-clause-read g c =
    let into = c.read_front-got.new.into in
    let count = c.count_of-self-inside.result in
    let long : length into ≡ c.self.inside.memory.len = c.read_front-got.auto.into ∙ c.deref_mut.ensures.len in
    let few : c.count_of-self-inside.result ≤ length into = omega (arith, long, c.min-room.ensures, c.count_of-self-inside.ensures, c.read_front-got.ensures.few) in
    c.read_front-got.ensures.read
    ∙ ap (λ (l : List ℕ). and_more (g.L.Link.wire c.args.link.now).read l)
    (ap (λ (k : ℕ). take k into) (sym c.count_of-self-inside.ensures) ∙ sym (front_kept count c.self.inside.memory.len into _ few long))

pub returns-clause-count : goal.returns-clause-count
returns-clause-count g c =
    let into = c.read_front-got.new.into in
    let count = c.count_of-self-inside.result in
    let long : length into ≡ c.self.inside.memory.len = c.read_front-got.auto.into ∙ c.deref_mut.ensures.len in
    let few : c.count_of-self-inside.result ≤ length into = omega (arith, long, c.min-room.ensures, c.count_of-self-inside.ensures, c.read_front-got.ensures.few) in
    ap length (front_kept count c.self.inside.memory.len into _ few long) ∙ length-take-le count into few ∙ c.count_of-self-inside.ensures

pub returns-clause-few : goal.returns-clause-few
returns-clause-few g c =
    (omega (arith, c.read_front-got.ensures.few, c.min.ensures, c.min-room.ensures), omega (arith, c.read_front-got.ensures.few, c.min.ensures, c.min-room.ensures))
