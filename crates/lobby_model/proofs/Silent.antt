-- A client that is cut gets nothing more, and one that is gone never comes back.
use Rattle.std.proofs.Common.{◌≡◌, ◌≤◌, ℕ, List, [], ◌∷◌, ◌++◌, sym, ap, refl, ◌∙◌, true, false, inl, inr, arith}
use Rattle.std.specs.Prelude.{Option, Some, None, not, ◌&&◌, if◌then◌else◌}
use Rattle.std.proofs.lemmas.Option.{same_Some}
use Rattle.account_book.specs.Account.{Account}
use Rattle.lobby_model.specs.declared.event.Event.{Event}
use Rattle.line_words.specs.Table.{at_number}
use Rattle.lobby_model.specs.Configuration.{Configuration}
use Rattle.lobby_model.specs.State.{State, Client, empty_lobby, is_ended, is_live}
use Rattle.lobby_model.specs.Events.{effect}
use Rattle.lobby_model.specs.Next.{next, batch, has_room_for, put_by, put_to}
use Rattle.lobby_model.specs.History.{after, put_in}
use Rattle.lobby_model.proofs.Delivered.{dead}
use Rattle.lobby_model.proofs.Origins.{given_is, origin, rises, undelivered}
use Rattle.lobby_model.proofs.Balance.{is_numbered}

-- no client is there, or one that is cut
abbrev Silent : Option Client → Type 0
Silent o = (x : Client) → o ≡ Some x → x.cut ≡ true

not_live : (x : Client) → x.cut ≡ true → is_live x ≡ false
not_live x k = ap (λ b. not b && not (is_ended x.phase)) k

silent_gets : (limit : ℕ) (bytes : List ℕ) (o : Option Client) → Silent o → put_to limit bytes o ≡ []
silent_gets limit bytes None silent = refl
silent_gets limit bytes (Some x) silent = ap (λ l. if l && has_room_for limit x bytes then bytes else []) (not_live x (silent x refl))

-- c is a number that was given
module _ (s : State) (e : Event) (c : ℕ) (given : c ≤ s.last_client) where
  was_there : (y : Client) → at_number (effect s e).clients c ≡ Some y → (x : Client) × (at_number s.clients c ≡ Some x) × (y.cut ≡ x.cut)
  was_there y f = elim (origin s c y e f) [
    | inl new ↦ absurd (omega (arith, given, given_is s e c new.given))
    | inr old ↦ (old.was, old.found, old.same_cut)
  ]

  silent_effect : Silent (at_number s.clients c) → Silent (at_number (effect s e).clients c)
  silent_effect silent y f = let old = was_there y f in old.2 ∙ silent old.0 old.1

  silent_put : Silent (at_number s.clients c) → put_by s e c ≡ []
  silent_put silent = silent_gets s.settings.outbox_limit (batch s e c) (at_number (effect s e).clients c) (silent_effect silent)

  silent_next : Silent (at_number s.clients c) → Silent (at_number (next s e).clients c)
  silent_next silent z f =
      let from = undelivered s e c z f in
      let cut : from.0.cut ≡ true = silent_effect silent from.0 from.1 in
      ap (λ (y : Client). y.cut) (sym from.2 ∙ dead s.settings.outbox_limit (batch s e c) from.0 (not_live from.0 cut)) ∙ cut

  gone_next : at_number s.clients c ≡ None → at_number (next s e).clients c ≡ None
  gone_next gone =
      elim (at_number (next s e).clients c) as (λ o. at_number (next s e).clients c ≡ o → o ≡ None) [
        | None ↦ λ f. refl
        | Some z ↦ λ f. let from = undelivered s e c z f in let old = was_there from.0 from.1 in let no : Some old.0 ≡ None = sym old.1 ∙ gone in absurd (cc)
      ] refl

  still_given : c ≤ (next s e).last_client
  still_given = omega (arith, given, rises s e)

pub gone_after : (s : State) (history : List Event) (c : ℕ) → c ≤ s.last_client → at_number s.clients c ≡ None → at_number (after s history).clients c ≡ None
gone_after s [] c given gone = gone
gone_after s (e ∷ history) c given gone = gone_after (next s e) history c (still_given s e c given) (gone_next s e c given gone)

silent_after : (s : State) (history : List Event) (c : ℕ) → c ≤ s.last_client → Silent (at_number s.clients c) → Silent (at_number (after s history).clients c)
silent_after s [] c given silent = silent
silent_after s (e ∷ history) c given silent = silent_after (next s e) history c (still_given s e c given) (silent_next s e c given silent)

silent_put_in : (s : State) (history : List Event) (c : ℕ) → c ≤ s.last_client → Silent (at_number s.clients c) → put_in s history c ≡ []
silent_put_in s [] c given silent = refl
silent_put_in s (e ∷ history) c given silent = λ i. silent_put s e c given silent i ++ silent_put_in (next s e) history c (still_given s e c given) (silent_next s e c given silent) i

-- from the empty lobby on
module _ (settings : Configuration) (accounts : List Account) (history later : List Event) (c : ℕ) (client : Client)
    (found : at_number (after (empty_lobby settings accounts) history).clients c ≡ Some client) (cut : client.cut ≡ true) where
  given_then : c ≤ (after (empty_lobby settings accounts) history).last_client
  given_then = (is_numbered settings accounts history c client found).1

  silent_then : Silent (at_number (after (empty_lobby settings accounts) history).clients c)
  silent_then x f = ap (λ (y : Client). y.cut) (same_Some x client (sym f ∙ found)) ∙ cut

  pub gets_nothing : put_in (after (empty_lobby settings accounts) history) later c ≡ []
  gets_nothing = silent_put_in _ later c given_then silent_then

  pub stays_cut : (end : Client) → at_number (after (after (empty_lobby settings accounts) history) later).clients c ≡ Some end → end.cut ≡ true
  stays_cut = silent_after _ later c given_then silent_then
