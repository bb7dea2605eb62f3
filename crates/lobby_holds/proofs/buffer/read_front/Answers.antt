use Rattle.std.proofs.Common.{List, ℕ, sym, ap, ◌∙◌, arith}
use Rattle.std.proofs.lemmas.List.{length-take-le, take-append-le}
use Rattle.lobby_holds.specs.Wire.{and_more, got_count}
use Rattle.lobby_holds.proofs.buffer.read_front.Goals as goal

pub returns-clause-few : goal.returns-clause-few
returns-clause-few g c = omega (arith, c.read.ensures.within, length-take-le c.args.most c.args.into.now c.requires.room)

pub returns-clause-read : goal.returns-clause-read
returns-clause-read g c =
    c.read.ensures.read
    ∙ ap (λ (l : List ℕ). and_more (g.L.Link.wire c.args.link.now).read l)
    (sym (take-append-le (got_count c.read.result) c.read.new.into _ (omega (arith, c.read.ensures.within, c.read.auto.into))))
