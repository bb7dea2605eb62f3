-- What a hold keeps of its events.
use Rattle.std.proofs.Common.{◌≡◌, ℕ, ◌+◌, Bool, true, false, cond, List, [], ◌∷◌, ◌++◌, length, min, refl, ap, ◌∙◌, arith}
use Rattle.lobby_model.specs.declared.event.Event.{Event}
use Rattle.lobby_model.specs.State.{State}
use Rattle.lobby_model.specs.Next.{next}
use Rattle.lobby_model.specs.History.{after}
use Rattle.lobby_model.specs.declared.event.MadeEvent.{MadeEvent}
use Rattle.lobby_lock.specs.History.{Entry, events_of, after_history, under}
use Rattle.lobby_lock.specs.Counts.{last_count, position_of}
use Rattle.lobby_lock.specs.Events.{gain_of, made_behind, made_from}
use Rattle.lobby_lock.proofs.Histories.{after_history-append}

-- one event more
pub made_from-more : (before : ℕ) (s : State) (es : List Event) (e : Event)
    → made_from before s (es ++ e ∷ []) ≡ made_from before s es ++ made_behind (before + length es) e (gain_of (after s es) e) ∷ []
made_from-more before s [] e =
    let none : before ≡ before + 0 = omega arith in
    ap (λ n. made_behind n e (gain_of s e) ∷ []) none
made_from-more before s (x ∷ es) e =
    let place : before + 1 + length es ≡ before + length (x ∷ es) = omega arith in
    ap (λ l. made_behind before x (gain_of s x) ∷ l) (made_from-more (before + 1) (next s x) es e ∙ ap (λ n. made_from (before + 1) (next s x) es ++ made_behind n e (gain_of (after (next s x) es) e) ∷ []) place)

-- a place that has reached the last value is the same behind so many more
pub place_of-more : (seen : List Entry) (n : ℕ) → min (position_of seen + n) last_count ≡ min (length seen + n) last_count
place_of-more seen n = omega arith

pub kept-more : (keeps : Bool) (kept before after : List MadeEvent) (made : MadeEvent) → kept ≡ cond keeps before [] → before ++ made ∷ [] ≡ after → cond keeps (kept ++ made ∷ []) kept ≡ cond keeps after []
kept-more true kept before after made is more = ap (λ l. l ++ made ∷ []) is ∙ more
kept-more false kept before after made is more = is

events_of-under : (n : ℕ) (es : List Event) → events_of (under n es) ≡ es
events_of-under n [] = refl
events_of-under n (e ∷ es) = ap (λ l. e ∷ l) (events_of-under n es)

-- the lobby after what was seen, and then events of a hold
pub after_hold : (start : State) (seen : List Entry) (n : ℕ) (es : List Event) → after_history start (seen ++ under n es) ≡ after (after_history start seen) es
after_hold start seen n es = after_history-append start seen (under n es) ∙ ap (after (after_history start seen)) (events_of-under n es)
