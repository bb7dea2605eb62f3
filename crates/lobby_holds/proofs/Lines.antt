-- The next lines, where more is fed and where some of them are accepted.
use Rattle.std.proofs.Common.{◌≡◌, ℕ, ◌+◌, true, false, List, [], ◌∷◌, ◌++◌, length, refl, sym, ap, ◌∙◌, subst, arith, append-nil}
use Rattle.std.specs.Prelude.{Option, Some, None, IsSome, slice_get}
use Rattle.line_framer.specs.Frames.{frames, is_spoilt, rest_of}
use Rattle.line_framer.specs.Framed.{next_line}
use Rattle.line_framer.proofs.Stands.{frames-append, spoilt_for_good, next_frame}
use Rattle.command_grammar.specs.declared.command.Request.{Request}
use Rattle.lobby_model.specs.Schedule.{line_limit}
use Rattle.client_session.specs.declared.session.Next.TheVariants.{Line}
use Rattle.client_session.specs.Serving.{Serving}
use Rattle.client_session.specs.Sessions.{Heard, IsNext, NextAt}
use Rattle.client_session.specs.OneSession.{Accepted}
use Rattle.client_session.proofs.Lines.{line_asked}
use Rattle.lobby_holds.specs.Went.{AreNext}
use Rattle.line_words.proofs.Options.{get-append_some}

-- more bytes give more frames, behind those that there were
grown : (bytes more : List ℕ) (limit : ℕ) → (rest : List (List ℕ)) × (frames (bytes ++ more) limit ≡ frames bytes limit ++ rest)
grown bytes more limit =
    elim (is_spoilt bytes limit) as (λ b. is_spoilt bytes limit ≡ b → (rest : List (List ℕ)) × (frames (bytes ++ more) limit ≡ frames bytes limit ++ rest)) [
      | true ↦ λ spoilt. ([], (spoilt_for_good bytes more limit spoilt).1 ∙ sym (append-nil (frames bytes limit)))
      | false ↦ λ sound. (frames (rest_of bytes ++ more) limit, frames-append bytes more limit sound)
    ] refl

-- the line that is next stays next
is_next-more : (bytes more : List ℕ) (k : ℕ) (request : Request) → IsNext bytes k (Line request) → IsNext (bytes ++ more) k (Line request)
is_next-more bytes more k request =
    elim (slice_get (frames bytes line_limit) k) as (λ o. slice_get (frames bytes line_limit) k ≡ o → NextAt o bytes (Line request) → IsNext (bytes ++ more) k (Line request)) [
      | None ↦ λ e f. absurd f
      | Some line ↦ λ e reads.
          let g = grown bytes more line_limit in
          let there : slice_get (frames (bytes ++ more) line_limit) k ≡ Some line = ap (λ l. slice_get l k) g.1 ∙ get-append_some (frames bytes line_limit) g.0 k line e in
          subst (λ (o : Option (List ℕ)). NextAt o (bytes ++ more) (Line request)) (sym there) reads
    ] refl

pub are_next-more : (fed more : List ℕ) (k : ℕ) (rs : List Request) → AreNext fed k rs → AreNext (fed ++ more) k rs
are_next-more fed more k [] h = tt
are_next-more fed more k (r ∷ rs) h = (is_next-more fed more k r h.0, are_next-more fed more (k + 1) rs h.1)

pub are_next-append : (fed : List ℕ) (k : ℕ) (rs qs : List Request) → AreNext fed k rs → AreNext fed (k + length rs) qs → AreNext fed k (rs ++ qs)
are_next-append fed k [] qs h g = subst (λ (n : ℕ). AreNext fed n qs) (omega arith) g
are_next-append fed k (r ∷ rs) qs h g =
    let same : k + length (r ∷ rs) ≡ (k + 1) + length rs = omega arith in
    (h.0, are_next-append fed (k + 1) rs qs h.1 (subst (λ (n : ℕ). AreNext fed n qs) same g))

-- where a line was next, it was accepted
pub accepts : (old new : Serving) (request : Request) → Accepted (Some old) (Some new) → (bytes : List ℕ) (accepted : ℕ)
    → Heard old.framed bytes accepted → IsNext bytes accepted (Line request) → Heard new.framed bytes (accepted + 1)
accepts old new request a bytes accepted heard next =
    let same : a.0 ≡ new = cc (a.1) in
    let there : next_line old.framed ≡ slice_get (frames bytes line_limit) accepted =
    next_frame old.framed bytes accepted heard.1 ∙ ap (λ limit. slice_get (frames bytes limit) accepted) heard.0 in
    let line : IsSome (next_line old.framed) = subst (λ (o : Option (List ℕ)). IsSome o) (sym there) (line_asked (slice_get (frames bytes line_limit) accepted) bytes request next) in
    subst (λ (s : Serving). Heard s.framed bytes (accepted + 1)) same (a.2.line line bytes accepted heard)
