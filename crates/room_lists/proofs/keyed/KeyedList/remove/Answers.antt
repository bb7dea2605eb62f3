use Rattle.std.proofs.Common.{◌∙◌, sym, not, filter}
use Rattle.room_lists.proofs.Removed.{without_all}
use Rattle.room_lists.proofs.keyed.KeyedList.remove.Goals as goal

pub returns-in-Ok : goal.returns-in-Ok
returns-in-Ok g c =
    c.remove_indexed.ensures
    ∙ (λ i. filter (λ item. not (c.in-Ok.ensures (g.T.Keyed.key_of item) i)) c.args.self.now)
    ∙ sym (without_all g.T.Keyed.key_of c.args.keys.now c.args.self.now)
