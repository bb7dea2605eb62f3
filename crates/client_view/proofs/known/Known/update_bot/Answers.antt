use Rattle.std.proofs.Common.{◌∙◌, ℕ, List, subst, w64, ℤ, rules}
use Rattle.std.specs.Prelude.{OnOk}
use Rattle.std.proofs.lemmas.Int.{to_z-of_z}
use Rattle.std.proofs.lemmas.Result.{on_ok_weaker}
use Rattle.reply_kinds.specs.declared.Reply.TheVariants as reply
use Rattle.room_lists.specs.Room.{with_bot_status}
use Rattle.lobby_view.specs.View.{View, shown, in_room_of}
use Rattle.noted_map.specs.Undoable.{Undoable, Changes}
use Rattle.client_view.specs.Kept.{own_name}
use Rattle.client_view.proofs.Changing.{parts, own_change}
use Rattle.client_view.proofs.known.Known.update_bot.Goals as goal

pub returns-clause-ok : goal.returns-clause-ok
returns-clause-ok c =
    let change = λ (n : ℕ) (name : List ℕ) (z : ℤ). in_room_of n (with_bot_status name c.args.status z) in
    let asked = change c.args.battle.now c.args.name.now c.args.colour.now in
    on_ok_weaker c.put_bot_status.result
    (λ (changes : Changes asked c.self.inside.room c.put_bot_status.new.self).
    subst (λ (old : Undoable View). Changes (λ (v : View). shown v (reply.UpdateBot c.args.battle.now c.args.name.now c.args.status c.args.colour.now)) old
    (parts (own_name c.self.inside.me) c.self.inside.users c.self.inside.battles c.self.inside.channels c.put_bot_status.new.self))
    c.self.view_is
    (own_change (own_name c.self.inside.me) c.self.inside.users c.self.inside.battles c.self.inside.channels c.self.inside.room
    c.self.invariant.2 asked c.put_bot_status.new.self changes))
    (subst (λ (n : ℕ). OnOk c.put_bot_status.result (Changes (change n c.args.name.now c.args.colour.now) c.self.inside.room c.put_bot_status.new.self))
    c.battle.view_is
    (subst (λ (name : List ℕ). OnOk c.put_bot_status.result (Changes (change c.battle.inside.0 name c.args.colour.now) c.self.inside.room c.put_bot_status.new.self))
    c.get.ensures
    (subst (λ (z : ℤ). OnOk c.put_bot_status.result (Changes (change c.battle.inside.0 c.get.result.now z) c.self.inside.room c.put_bot_status.new.self))
    (to_z-of_z w64 c.colour.inside.0 (search rules) ∙ c.colour.view_is) c.put_bot_status.ensures.ok)))
