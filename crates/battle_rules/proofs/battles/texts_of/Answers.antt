use Rattle.battle_rules.proofs.battles.texts_of.Goals as goal

pub returns-in-Ok-clause-given : goal.returns-in-Ok-clause-given
returns-in-Ok-clause-given c =
    (c.in_ok-engine.ensures.name, c.in_ok-engine.ensures.version, c.in-Ok.ensures.map, c.in-Ok.ensures.title, c.in-Ok.ensures.game_name)
