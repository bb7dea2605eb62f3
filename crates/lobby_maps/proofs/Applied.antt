-- From what a delivery makes of the clients to the next state, and from whom it touched to the workers.
use Rattle.std.proofs.Common.{◌≡◌, ℕ, sym, ap, ◌∙◌}
use Rattle.std.specs.Prelude.{◌&&◌}
use Rattle.std.specs.List.{list_any}
use Rattle.std.specs.Map.{keys_of}
use Rattle.line_words.specs.Table.{ByNumber, map_values, same_number}
use Rattle.lobby_model.specs.declared.event.Event.{Event}
use Rattle.lobby_model.specs.State.{State, Client}
use Rattle.lobby_model.specs.Events.{effect}
use Rattle.lobby_model.specs.Next.{next, batch, delivered, with_batch}
use Rattle.lobby_model.specs.Touched.{is_touched}
use Rattle.lobby_post.specs.Mask.{has_home}
use Rattle.lobby_post.specs.Amounts.{bytes_in_all}
use Rattle.lobby_post.specs.Mail.{bytes_for, deliver, wakes_home, IsWakes}
use Rattle.lobby_post.specs.Posted.{Posted}
use Rattle.lobby_maps.specs.Amounts.{bytes_told}
use Rattle.lobby_maps.specs.Changes.{Matches}

-- t are the maps after the event, before its lines are put
module _ (s t : State) (e : Event) (post : Posted) (changed : effect s e ≡ t) (matches : Matches s e post) where
  pub sent_so : (clients : ByNumber Client) → clients ≡ deliver s.settings.outbox_limit post.sent t.clients
      → record t { clients = clients } ≡ next s e
  sent_so clients is =
      ap (λ (m : ByNumber Client). record t { clients = m }) (is
      ∙ (λ i. map_values (λ d x. with_batch s.settings.outbox_limit (matches d i) x) t.clients))
      ∙ sym (ap (delivered s e) changed)

  -- the pieces are told to those who are there after the change
  pub told_so : (clients : ByNumber Client) → clients ≡ t.clients → bytes_in_all (bytes_for post.sent) (keys_of clients) ≡ bytes_told s e
  told_so clients is =
      ap (λ (m : ByNumber Client). bytes_in_all (bytes_for post.sent) (keys_of m)) (is ∙ ap (λ (u : State). u.clients) (sym changed))
      ∙ (λ i. bytes_in_all (λ d. matches d i) (keys_of (effect s e).clients))

  pub woken_so : (mask : ℕ) → ((home : ℕ) → has_home mask home ≡ wakes_home s.settings.outbox_limit post.sent t.clients home) → IsWakes s e mask
  woken_so mask listings = λ home.
      listings home
      ∙ (λ i. list_any (λ x. same_number x.1.home home && is_touched s.settings.outbox_limit (matches x.0 i) x.1) t.clients)
      ∙ ap (λ (u : State). list_any (λ x. same_number x.1.home home && is_touched s.settings.outbox_limit (batch s e x.0) x.1) u.clients)
      (sym changed)
