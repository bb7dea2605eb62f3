-- A hold, after one event more.
use Rattle.std.proofs.Common.{◌≡◌, ℕ, ◌+◌, List, [], ◌∷◌, ◌++◌, length, min, Option, sym, ap, ◌∙◌, subst}
use Rattle.crossbeam_queue.specs.Passes.{Pass, view}
use Rattle.lobby_model.specs.declared.event.Event.{Event}
use Rattle.lobby_model.specs.State.{State}
use Rattle.lobby_model.specs.Next.{next}
use Rattle.lobby_model.specs.History.{after}
use Rattle.lobby_machine.specs.Shown.{Shown}
use Rattle.lobby_lock.specs.declared.laid.Laid.{Laid}
use Rattle.lobby_lock.specs.declared.view.View.{View}
use Rattle.lobby_lock.specs.History.{after_history}
use Rattle.lobby_lock.specs.Counts.{last_count}
use Rattle.lobby_lock.specs.Events.{Noted, gain_of, made_from, made_behind, with_event}
use Rattle.lobby_lock.specs.Passes.{IsHolding}
use Rattle.lobby_lock.proofs.Histories.{after_history-more}
use Rattle.lobby_lock.proofs.Keeping.{made_from-more, place_of-more, kept-more, after_hold}

pub more : (inner : Pass Laid View) (number handed made : ℕ) (places : List (Option ℕ)) (old : Shown) (noted : Noted) → IsHolding inner number handed made places old noted
    → (now : Shown) (e : Event) (gain : ℕ) (noted' : Noted) → now.plain ≡ next old.plain e → gain ≡ gain_of old.plain e → noted' ≡ with_event noted e gain → IsHolding inner number handed made places now noted'
more inner number handed made places old noted h now e gain noted' step gives added =
    let start = (view inner).start.plain in
    let seen = (view inner).worker.seen in
    let own = (view inner).worker.number in
    let s : State = after_history start seen in
    let es : List Event = noted.events in
    let met : old.plain ≡ after s es = h.stands ∙ after_hold start seen own es in
    let at : min (noted.position + length es) last_count ≡ min (length seen + length es) last_count = ap (λ n. min (n + length es) last_count) h.placed ∙ place_of-more seen (length es) in
    let given : gain ≡ gain_of (after s es) e = gives ∙ ap (λ t. gain_of t e) met in
    let last : made_behind (noted.position + length es) e gain ≡ made_behind (length seen + length es) e (gain_of (after s es) e) = λ i. record { place = at i; event = e; gain = given i } in
    let noted_so : made_from (length seen) s es ++ made_behind (noted.position + length es) e gain ∷ [] ≡ made_from (length seen) s (es ++ e ∷ []) =
    ap (λ m. made_from (length seen) s es ++ m ∷ []) last ∙ sym (made_from-more (length seen) s es e) in
    let all : IsHolding inner number handed made places now (with_event noted e gain) = record {
      slots = h.slots;
      alive = h.alive;
      holds = h.holds;
      numbered = h.numbered;
      below = h.below;
      counts = h.counts;
      counted = h.counted;
      stands = step ∙ ap (λ t. next t e) h.stands ∙ sym (after_history-more start seen own es e);
      placed = h.placed;
      kept = kept-more noted.kept.keeps noted.kept.events (made_from (length seen) s es) (made_from (length seen) s (es ++ e ∷ [])) (made_behind (noted.position + length es) e gain) h.kept noted_so;
    } in
    subst (λ n. IsHolding inner number handed made places now n) (sym added) all

-- the same events, over a lobby that stands for the same plain one
pub same : (inner : Pass Laid View) (number handed made : ℕ) (places : List (Option ℕ)) (old : Shown) (noted : Noted) → IsHolding inner number handed made places old noted
    → (now : Shown) → now.plain ≡ old.plain → IsHolding inner number handed made places now noted
same inner number handed made places old noted h now step = record {
  slots = h.slots;
  alive = h.alive;
  holds = h.holds;
  numbered = h.numbered;
  below = h.below;
  counts = h.counts;
  counted = h.counted;
  stands = step ∙ h.stands;
  placed = h.placed;
  kept = h.kept;
}
