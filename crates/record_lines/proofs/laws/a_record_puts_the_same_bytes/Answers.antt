use Rattle.std.proofs.Common.{[]}
use Rattle.lobby_model.specs.State.{empty_lobby}
use Rattle.lobby_model.proofs.EventsKept.{always_sound}
use Rattle.record_lines.proofs.Recorded.{puts_same, takes_same}
use Rattle.record_lines.proofs.laws.a_record_puts_the_same_bytes.Goals as goal

pub returns-clause-put : goal.returns-clause-put
returns-clause-put c = λ settings accounts history d.
    puts_same (empty_lobby settings accounts) (always_sound settings accounts []) history d

pub returns-clause-taken : goal.returns-clause-taken
returns-clause-taken c = λ settings accounts history d.
    takes_same (empty_lobby settings accounts) (always_sound settings accounts []) history d
