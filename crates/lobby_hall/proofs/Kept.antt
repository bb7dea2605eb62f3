-- Which clients are there after an event.
use Rattle.std.proofs.Common.{◌≡◌, ℕ, ◌+◌, List, ap, ◌∙◌, Bool, true, false, cond, not, inl, inr}
use Rattle.std.specs.Prelude.{Some, None, is_some, if◌then◌else◌}
use Rattle.std.specs.Ordering.{nat_cmp}
use Rattle.std.specs.Cmp.{nat_cmp_total}
use Rattle.std.specs.FinMap.{nat_cmp-IsAntisymmetric}
use Rattle.command_grammar.specs.declared.command.Request.{Request}
use Rattle.lobby_model.specs.declared.event.Event.{Event}
use Rattle.lobby_model.specs.declared.event.Event.TheVariants as event
use Rattle.line_words.specs.Table.{at_number, same_number}
use Rattle.lobby_model.specs.State.{State, name_of, in_phase}
use Rattle.lobby_model.specs.Sessions.{has_place, disconnects, drained}
use Rattle.lobby_model.specs.Events.{effect}
use Rattle.lobby_model.specs.Next.{next, batch, with_batch}
use Rattle.lobby_model.specs.Laws.{number_given}
use Rattle.line_words.proofs.Tables.{at-without}
use Rattle.lobby_model.proofs.Finding.{some_change}
use Rattle.lobby_model.proofs.Delivered.{delivered_at}
use Rattle.lobby_model.proofs.Inside.{departed}
use Rattle.lobby_model.proofs.Origins.{says, last_given}
use Rattle.lobby_model.proofs.Numbers.{mapped_is_some, given_has_client}

abbrev is_there : ℕ → State → Bool
is_there q s = is_some (at_number s.clients q)

-- delivery moves nobody
delivered_keeps : (s : State) (e : Event) (q : ℕ) → is_there q (next s e) ≡ is_there q (effect s e)
delivered_keeps s e q =
    ap is_some (delivered_at s e q) ∙ mapped_is_some (with_batch s.settings.outbox_limit (batch s e q)) (at_number (effect s e).clients q)

-- a command changes at most the phase of its issuer
pub said_keeps : (s : State) (c : ℕ) (request : Request) (q : ℕ) → is_there q (next s (event.Say c request)) ≡ is_there q s
said_keeps s c request q =
    delivered_keeps s (event.Say c request) q
    ∙ elim ((says s c request).clients) as (λ way. is_there q (effect s (event.Say c request)) ≡ is_there q s) [
      | inl same ↦ ap (λ m. is_some (at_number m q)) same
      | inr change ↦ ap (λ m. is_some (at_number m q)) change.1 ∙ some_change nat_cmp nat_cmp-IsAntisymmetric c (in_phase change.0) s.clients q
    ]

pub shut_keeps : (s : State) (c q : ℕ) → same_number c q ≡ false → is_there q (next s (event.Shut c)) ≡ is_there q s
shut_keeps s c q other =
    delivered_keeps s (event.Shut c) q
    ∙ ap (is_there q) (departed s (name_of s c) (disconnects c))
    ∙ ap is_some (at-without nat_cmp nat_cmp_total s.clients c q ∙ ap (λ b. cond (not b) (at_number s.clients q) None) other)

pub drain_keeps : (s : State) (c n q : ℕ) → is_there q (next s (event.Drain c n)) ≡ is_there q s
drain_keeps s c n q = delivered_keeps s (event.Drain c n) q ∙ some_change nat_cmp nat_cmp-IsAntisymmetric c (drained n) s.clients q

-- an open for which there is a place gives the next number, and lets a client in under it
module _ (s : State) (ip : List ℕ) (home : ℕ) (place : has_place s ≡ true) where
  gives_next : number_given s (event.Open ip home) ≡ Some (s.last_client + 1)
  gives_next = ap (λ b. if b then Some (s.last_client + 1) else None) place

  pub open_gives : (next s (event.Open ip home)).last_client ≡ s.last_client + 1
  open_gives = last_given s (event.Open ip home) (s.last_client + 1) gives_next

  pub open_lets_in : is_there (s.last_client + 1) (next s (event.Open ip home)) ≡ true
  open_lets_in = given_has_client s (event.Open ip home) (s.last_client + 1) gives_next
