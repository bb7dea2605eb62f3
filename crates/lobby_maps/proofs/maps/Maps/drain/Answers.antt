use Rattle.std.proofs.Common.{◌∙◌, ap, sym, subst, length, []}
use Rattle.line_words.specs.Table.{ByNumber}
use Rattle.lobby_model.specs.State.{State, Client}
use Rattle.lobby_model.specs.Sessions.{drained}
use Rattle.lobby_model.proofs.Quiet.{next_drain}
use Rattle.lobby_post.specs.Mail.{plain}
use Rattle.lobby_battles.specs.OnlineUsers.{Agree, IsListed, users_of}
use Rattle.lobby_maps.specs.Fit.{Numbered}
use Rattle.lobby_maps.specs.Shown.{lobby_of}
use Rattle.lobby_battles.proofs.Agreed.{agree_kept, listed_kept}
use Rattle.lobby_maps.proofs.Numbered.{numbered_changed}
use Rattle.lobby_maps.proofs.Lists.{known_same, lists_same}
use Rattle.lobby_maps.proofs.maps.Maps.drain.Goals as goal
use Rattle.lobby_model.proofs.Users.{drain_names}

pub invariant_of-self : goal.invariant_of-self
invariant_of-self c =
    let m : ByNumber Client = plain c.self.inside.clients.slots in (
      c.self.invariant.0,
      record {
        limited = c.drain.ensures.limit ∙ c.self.invariant.1.limited;
        rest = c.drain.ensures.due [] c.self.invariant.1.rest;
        agree = subst (λ (n : ByNumber Client). Agree n c.self.inside.online.users.entries) (sym c.drain.ensures.clients)
            (agree_kept m _ c.self.inside.online.users.entries (drain_names m c.args.client (length c.args.into.now)) c.self.invariant.1.agree);
        listed = subst (λ (n : ByNumber Client). IsListed c.self.inside.online.clients.keys n) (sym c.drain.ensures.clients)
            (listed_kept m _ c.self.inside.online.clients.keys (drain_names m c.args.client (length c.args.into.now)) c.self.invariant.1.listed);
        numbered = subst (λ (n : ByNumber Client). Numbered c.self.inside.last_client n) (sym c.drain.ensures.clients)
            (numbered_changed c.self.inside.last_client m c.args.client (drained (length c.args.into.now)) c.self.invariant.1.numbered);
        known = known_same c.self.inside.clients c.drain.new.self c.drain.ensures.listings c.drain.ensures.lines _ c.self.invariant.1.known;
        knowing = c.self.invariant.1.knowing;
        counted = c.self.invariant.1.counted;
      },
    )

pub returns-clause-next : goal.returns-clause-next
returns-clause-next c =
    let before : State = lobby_of c.self.inside.settings c.self.inside.accounts (plain c.self.inside.clients.slots)
    (users_of c.self.inside.online.users.entries) c.self.inside.channels c.self.inside.battles.by_number.entries c.self.inside.last_client c.self.inside.battles.last in
    rw (← c.self.view_is) (ap (λ (m : ByNumber Client). record before { clients = m }) c.drain.ensures.clients
    ∙ sym (next_drain before c.args.client (length c.args.into.now)))

pub returns-clause-dirty : goal.returns-clause-dirty
returns-clause-dirty c = rw (← c.self.view_is) (lists_same c.self.inside.clients c.drain.new.self c.drain.ensures.listings c.drain.ensures.lines)
