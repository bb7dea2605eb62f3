-- When a spoilt place is next.
use Rattle.std.proofs.Common.{◌≡◌, ℕ, Bool, true, false, List, refl, sym, ap, ◌∙◌, subst, true≢false}
use Rattle.std.specs.Prelude.{◌||◌, Option, Some, None, IsSome, is_some, slice_get}
use Rattle.line_framer.specs.Frames.{frames, is_spoilt}
use Rattle.line_framer.specs.Framed.{next_line}
use Rattle.line_framer.proofs.Stands.{next_frame}
use Rattle.lobby_model.specs.Schedule.{line_limit}
use Rattle.client_session.specs.declared.session.Next.TheVariants.{Nothing, Spoilt}
use Rattle.client_session.specs.Serving.{Serving}
use Rattle.client_session.specs.Sessions.{Heard, NextAt, has_next}
use Rattle.client_session.specs.OneSession.{IsNextOf, HasLineNext}
use Rattle.lobby_holds.specs.Holds.{HasNoSpoiltNext}

-- the line that is next is that of all bytes that came
same_line : (session : Serving) (bytes : List ℕ) (accepted : ℕ) → Heard session.framed bytes accepted → next_line session.framed ≡ slice_get (frames bytes line_limit) accepted
same_line session bytes accepted heard = next_frame session.framed bytes accepted heard.1 ∙ ap (λ limit. slice_get (frames bytes limit) accepted) heard.0

spoilt_at : (o : Option (List ℕ)) (bytes : List ℕ) → (IsSome o → ⊥) → (is_some o || is_spoilt bytes line_limit) ≡ true → NextAt o bytes Spoilt
spoilt_at None bytes none e = e
spoilt_at (Some line) bytes none e = absurd (none refl)

pub next_spoilt : (session : Serving) (ready : Bool) → ((bytes : List ℕ) (accepted : ℕ) → Heard session.framed bytes accepted → ready ≡ has_next bytes accepted)
    → (IsSome (next_line session.framed) → ⊥) → ready ≡ true → IsNextOf (Some session) Spoilt
next_spoilt session ready is none e = λ bytes accepted heard.
    spoilt_at (slice_get (frames bytes line_limit) accepted) bytes
    (λ some. none (subst (λ (o : Option (List ℕ)). IsSome o) (sym (same_line session bytes accepted heard)) some))
    (sym (is bytes accepted heard) ∙ e)

nothing_at : (o : Option (List ℕ)) (bytes : List ℕ) → (is_some o || is_spoilt bytes line_limit) ≡ false → NextAt o bytes Nothing
nothing_at None bytes e = e
nothing_at (Some line) bytes e = absurd (true≢false e)

-- nothing is next
pub next_nothing : (session : Serving) (ready : Bool) → ((bytes : List ℕ) (accepted : ℕ) → Heard session.framed bytes accepted → ready ≡ has_next bytes accepted)
    → ready ≡ false → IsNextOf (Some session) Nothing
next_nothing session ready is e = λ bytes accepted heard. nothing_at (slice_get (frames bytes line_limit) accepted) bytes (sym (is bytes accepted heard) ∙ e)

sound_at : (o : Option (List ℕ)) (bytes : List ℕ) → (is_some o || is_spoilt bytes line_limit) ≡ false → NextAt o bytes Spoilt → ⊥
sound_at None bytes e next = true≢false (sym next ∙ e)
sound_at (Some line) bytes e next = next

pub next_sound : (session : Serving) (ready : Bool) → ((bytes : List ℕ) (accepted : ℕ) → Heard session.framed bytes accepted → ready ≡ has_next bytes accepted)
    → ready ≡ false → HasNoSpoiltNext session
next_sound session ready is e = λ bytes accepted heard. sound_at (slice_get (frames bytes line_limit) accepted) bytes (sym (is bytes accepted heard) ∙ e)

not_behind_line : (o : Option (List ℕ)) (bytes : List ℕ) → IsSome o → NextAt o bytes Spoilt → ⊥
not_behind_line None bytes some next = absurd (cc (some))
not_behind_line (Some line) bytes some next = next

pub line_first : (session : Serving) → IsSome (next_line session.framed) → HasNoSpoiltNext session
line_first session line = λ bytes accepted heard.
    not_behind_line (slice_get (frames bytes line_limit) accepted) bytes (subst (λ (o : Option (List ℕ)). IsSome o) (same_line session bytes accepted heard) line)

pub line_is_next : (session : Serving) → IsSome (next_line session.framed) → HasLineNext session
line_is_next session line = λ bytes accepted heard. subst (λ (o : Option (List ℕ)). IsSome o) (same_line session bytes accepted heard) line

pub line_is_sound : (session : Serving) → HasLineNext session → HasNoSpoiltNext session
line_is_sound session line = λ bytes accepted heard. not_behind_line (slice_get (frames bytes line_limit) accepted) bytes (line bytes accepted heard)

not_both : (o : Option (List ℕ)) (bytes : List ℕ) → NextAt o bytes Nothing → NextAt o bytes Spoilt → ⊥
not_both None bytes nothing next = true≢false (sym next ∙ nothing)
not_both (Some line) bytes nothing next = next

pub nothing_is_sound : (session : Serving) → IsNextOf (Some session) Nothing → HasNoSpoiltNext session
nothing_is_sound session nothing = λ bytes accepted heard. not_both (slice_get (frames bytes line_limit) accepted) bytes (nothing bytes accepted heard)

spoilt_once : (o : Option (List ℕ)) (bytes : List ℕ) → NextAt o bytes Spoilt → is_spoilt bytes line_limit ≡ true
spoilt_once None bytes next = next
spoilt_once (Some line) bytes next = absurd next

-- a session that met no spoilt place
pub unspoilt : (session : Serving) → (session.framed.spoilt ≡ true → ⊥) → HasNoSpoiltNext session
unspoilt session sound = λ bytes accepted heard next.
    sound (heard.1.spoilt ∙ ap (is_spoilt bytes) heard.0 ∙ spoilt_once (slice_get (frames bytes line_limit) accepted) bytes next)
