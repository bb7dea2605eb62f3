use Rattle.lobby_lock.proofs.held.Held.give.Given as goal

abbrev pub ghosts-put_back : goal.ghosts-put_back
ghosts-put_back g a = record { events = a.events.now.events }
