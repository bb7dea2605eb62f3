use Rattle.std.proofs.Common.{◌≡◌, ◌∙◌, ap, refl, true, false}
use Rattle.std.specs.Prelude.{if◌then◌else◌}
use Rattle.line_words.specs.Table.{name_cmp, same_number}
use Rattle.line_words.proofs.Tables.{insert_is_put}
use Rattle.lobby_post.specs.Posted.{has_number}
use Rattle.lobby_battles.proofs.online_users.OnlineUsers.add.Goals as goal

pub returns-in-Ok-clause-users : goal.returns-in-Ok-clause-users
returns-in-Ok-clause-users c = c.in-Ok.ensures.entries ∙ insert_is_put name_cmp c.args.self.now.users.entries c.args.name c.args.online_user

pub returns-in-Ok-clause-clients : goal.returns-in-Ok-clause-clients
returns-in-Ok-clause-clients c = c.in_ok-insert.ensures.updates.0

pub returns-in-Err-clause-err_clients : goal.returns-in-Err-clause-err_clients
returns-in-Err-clause-err_clients c = λ d.
    c.remove.ensures.updates.0 d
    ∙ elim (same_number c.args.online_user.client.number d) as (λ b. same_number c.args.online_user.client.number d ≡ b
    → (if b then false else has_number c.insert.new.self.keys d) ≡ (if b then false else has_number c.args.self.now.clients.keys d)) [
      | true ↦ λ t. refl
      | false ↦ λ t. c.in_ok-insert.ensures.updates.0 d ∙ ap (λ b. if b then true else has_number c.args.self.now.clients.keys d) t
    ] refl
