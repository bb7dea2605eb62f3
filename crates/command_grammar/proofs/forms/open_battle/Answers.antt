use Rattle.command_grammar.proofs.forms.open_battle.Goals as goal

pub returns : goal.returns
returns c =
    rw (c.in_ok-battle_type.ensures.value, c.in_ok-nat_type.ensures.value, c.in_ok-password.ensures.value, c.in_ok-port.ensures.value, c.in_ok-max_players.ensures.value)
    c.hashed_battle.ensures
