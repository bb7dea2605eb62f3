use Rattle.lobby_model.proofs.EventsKept.{always_sound, effect_keeps, next_keeps, answer_keeps}
use Rattle.lobby_model.proofs.laws.lobby_stays_sound.Goals as goal

pub returns-clause-always : goal.returns-clause-always
returns-clause-always c = always_sound

pub returns-clause-effect : goal.returns-clause-effect
returns-clause-effect c = effect_keeps

pub returns-clause-next : goal.returns-clause-next
returns-clause-next c = next_keeps

pub returns-clause-answer : goal.returns-clause-answer
returns-clause-answer c = answer_keeps
