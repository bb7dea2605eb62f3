use Rattle.std.proofs.Common.{◌≡◌, ◌∙◌, ◌+◌, ap, sym, subst, refl, true, [], ◌∷◌, ◌++◌, arith}
use Rattle.std.specs.Prelude.{None, if◌then◌else◌}
use Rattle.reply_kinds.specs.Replies.{print}
use Rattle.line_words.specs.Table.{ByNumber, put_number, same_number}
use Rattle.lobby_model.specs.State.{State, Client, name_in}
use Rattle.lobby_model.specs.Sessions.{greeted, greeting, has_place}
use Rattle.lobby_model.specs.Next.{with_batch}
use Rattle.lobby_model.proofs.Quiet.{next_open}
use Rattle.lobby_post.specs.Mail.{plain}
use Rattle.lobby_battles.specs.OnlineUsers.{Agree, IsListed, users_of}
use Rattle.lobby_maps.specs.Fit.{Numbered}
use Rattle.lobby_maps.specs.Shown.{lobby_of}
use Rattle.lobby_battles.proofs.Agreed.{agree_kept, listed_kept}
use Rattle.lobby_maps.proofs.Numbered.{name_opened, numbered_opened, phase_kept}
use Rattle.lobby_maps.proofs.Sorted.{plain_sorted}
use Rattle.lobby_maps.proofs.Plain.{plainly}
use Rattle.lobby_maps.proofs.Lists.{listed_as}
use Rattle.lobby_maps.proofs.maps.Maps.open.Goals as goal

pub invariant_of-self-2 : goal.invariant_of-self-2
invariant_of-self-2 c =
    let m : ByNumber Client = plain c.self.inside.clients.slots in
    let w : Client = with_batch c.self.inside.clients.limit c.deref.result.now (greeted c.args.ip c.args.home) in
    let nobody : name_in w.phase ≡ None = phase_kept c.self.inside.clients.limit c.deref.result.now (greeted c.args.ip c.args.home) in
    let names = name_opened c.self.inside.last_client m w c.self.invariant.1.numbered nobody in (
      c.self.invariant.0,
      record {
        limited = c.in_ok-insert.ensures.limit ∙ c.self.invariant.1.limited;
        rest = c.in_ok-insert.ensures.due [] refl c.self.invariant.1.rest;
        agree = subst (λ (n : ByNumber Client). Agree n c.self.inside.online.users.entries) (sym c.in_ok-insert.ensures.ok)
            (agree_kept m _ c.self.inside.online.users.entries names c.self.invariant.1.agree);
        listed = subst (λ (n : ByNumber Client). IsListed c.self.inside.online.clients.keys n) (sym c.in_ok-insert.ensures.ok)
            (listed_kept m _ c.self.inside.online.clients.keys names c.self.invariant.1.listed);
        numbered = subst (λ (n : ByNumber Client). Numbered (c.self.inside.last_client + 1) n) (sym c.in_ok-insert.ensures.ok)
            (numbered_opened c.self.inside.last_client m w c.self.invariant.1.numbered);
        known = c.in_ok-insert.ensures.known c.self.inside.last_client (omega arith) c.self.invariant.1.known;
        knowing = c.self.invariant.1.knowing;
        counted = c.self.invariant.1.counted;
      },
    )

pub returns-clause-ok : goal.returns-clause-ok
returns-clause-ok c =
    let s : State = lobby_of c.self.inside.settings c.self.inside.accounts (plain c.self.inside.clients.slots)
    (users_of c.self.inside.online.users.entries) c.self.inside.channels c.self.inside.battles.by_number.entries c.self.inside.last_client c.self.inside.battles.last in
    let place : has_place s ≡ true = subst (λ (t : State). has_place t ≡ true) (sym (plainly c.self.view_is)) c.requires.place in
    let made : with_batch c.self.inside.clients.limit c.deref.result.now (greeted c.args.ip c.args.home)
    ≡ with_batch s.settings.outbox_limit (print (None, greeting s.settings)) (greeted c.args.ip c.args.home) =
    (λ i. with_batch (c.self.invariant.1.limited i) ((c.deref.ensures.value ∙ c.self.invariant.0) i) (greeted c.args.ip c.args.home)) in
    rw (← c.self.view_is)
    (ap (λ (m : ByNumber Client). record s { last_client = s.last_client + 1; clients = m })
    (c.in_ok-insert.ensures.ok ∙ ap (put_number s.clients (s.last_client + 1)) made)
    ∙ sym (next_open s c.args.ip c.args.home place (plain_sorted c.self.inside.clients.slots c.in_ok-insert.ensures.was_ordered)))

pub returns-clause-dirty : goal.returns-clause-dirty
returns-clause-dirty c = rw (← c.self.view_is) (λ worker within.
    listed_as (λ old new. new ≡ old ++ (if same_number c.args.home worker then (c.self.inside.last_client + 1) ∷ [] else []))
    c.self.inside.clients c.insert.new.self worker within
    (c.in_ok-insert.ensures.waits c.self.inside.last_client worker (omega arith) c.self.invariant.1.known (omega (arith, within))))
