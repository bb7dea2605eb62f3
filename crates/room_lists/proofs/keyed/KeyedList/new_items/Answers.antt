use Rattle.std.proofs.Common.{◌≡◌, ◌≤◌, ◌-◌, ◌∙◌, sym, ap, length, arith}
use Rattle.std.proofs.lemmas.List.{length-map}
use Rattle.std.proofs.lemmas.Result.{IfOk-weaker}
use Rattle.room_lists.proofs.Room.{room_from, over_all}
use Rattle.room_lists.proofs.keyed.KeyedList.new_items.Goals as goal

pub returns-in-Some-clause-room : goal.returns-in-Some-clause-room
returns-in-Some-clause-room g c =
    let count : c.len.result ≡ length c.args.self.now =
    c.len.ensures.len ∙ sym (length-map c.self.inside.by_key.entries (λ e. g.T.Keyed.whole e.0 e.1)) ∙ ap length c.self.view_is in
    let within = c.in-Some.ensures.0 in
    let left = c.in-Some.ensures.1 in
    let fits : length c.args.self.now ≤ c.args.limit = omega (arith, count, within) in
    let most : c.in-Some.most ≡ c.args.limit - length c.args.self.now = omega (arith, count, left) in
    IfOk-weaker c.firsts_new.result _ _ (room_from g.T.Keyed.key_of c.args.self.now c.args.items.now c.args.limit c.in-Some.most fits most) c.firsts_new.ensures

pub returns-in-None-clause-room : goal.returns-in-None-clause-room
returns-in-None-clause-room g c =
    let count : c.len.result ≡ length c.args.self.now =
    c.len.ensures.len ∙ sym (length-map c.self.inside.by_key.entries (λ e. g.T.Keyed.whole e.0 e.1)) ∙ ap length c.self.view_is in
    let over = c.in-None.ensures in
    over_all g.T.Keyed.key_of c.args.self.now c.args.items.now c.args.limit (omega (arith, count, over))
