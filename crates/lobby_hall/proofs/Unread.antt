-- What a client has not read.
use Rattle.std.proofs.Common.{◌≡◌, ℕ, [], refl, sym, ◌∙◌}
use Rattle.std.specs.Prelude.{Some, None}
use Rattle.line_words.specs.Table.{at_number}
use Rattle.lobby_model.specs.State.{State, Client}
use Rattle.lobby_machine.specs.Shown.{unread_of}

pub unread_nobody : (s : State) (c : ℕ) → at_number s.clients c ≡ None → unread_of s c ≡ []
unread_nobody s c none = rw none refl

pub unread_there : (s : State) (c : ℕ) (x : Client) → at_number s.clients c ≡ Some x → unread_of s c ≡ x.unread
unread_there s c x found = rw found refl

-- where the client is the same, so is what it has not read
pub unread_same : (s t : State) (c : ℕ) → at_number t.clients c ≡ at_number s.clients c → unread_of t c ≡ unread_of s c
unread_same s t c same =
    elim (at_number s.clients c) as (λ o. at_number s.clients c ≡ o → unread_of t c ≡ unread_of s c) [
      | None ↦ λ f. unread_nobody t c (same ∙ f) ∙ sym (unread_nobody s c f)
      | Some x ↦ λ f. unread_there t c x (same ∙ f) ∙ sym (unread_there s c x f)
    ] refl
