-- Printed lines come out of the framer as they went in, and each reads as its reply alone: so the view of the bytes is the fold of the
-- replies that were printed.
use Rattle.std.proofs.Common.{◌≡◌, ℕ, List, [], ◌∷◌, ◌++◌, refl, sym, ap, ◌∙◌, true, false, append_assoc}
use Rattle.std.specs.Prelude.{Option, Some, None, map, if◌then◌else◌, ◌&&◌, ◌||◌, ◌==◌, not}
use Rattle.std.specs.List.{list_any}
use Rattle.std.proofs.lemmas.Bool.{and_parts}
use Rattle.line_words.specs.Bytes.{is_text, is_text_byte}
use Rattle.line_words.specs.Table.{at_number}
use Rattle.line_framer.specs.Frames.{frames, with_ends, without_cr, is_spoilt}
use Rattle.line_framer.specs.Laws.{IsPlainLine, ComesOut}
use Rattle.line_framer.proofs.Limit.{plain_come_out}
use Rattle.reply_kinds.specs.Replies.{Line, line_text, print, print_all}
use Rattle.reply_kinds.proofs.Plain.{line_plain}
use Rattle.reply_grammar.proofs.Whole.{line_again}
use Rattle.lobby_model.specs.declared.event.Event.{Event}
use Rattle.lobby_model.specs.State.{State, Client, is_live}
use Rattle.lobby_model.specs.Events.{effect, sent}
use Rattle.lobby_model.specs.Next.{next, batch, put_to, has_room_for}
use Rattle.lobby_model.specs.History.{put_in}
use Rattle.lobby_view.specs.View.{new_view, shown_all}
use Rattle.lobby_view.specs.Bytes.{frame_limit, one_read, all_read, view}
use Rattle.lobby_view.proofs.Everywhere.{Each}
use Rattle.lobby_view.proofs.LinesPut.{lines_to, lines_by, lines_put, replies_of}
use Rattle.lobby_view.proofs.Clean.{Readable}

abbrev texts : List Line → List (List ℕ)
texts lines = map (λ line. line_text line.0 line.1) lines

print_is : (lines : List Line) → print_all lines ≡ with_ends (texts lines)
print_is [] = refl
print_is (line ∷ lines) = ap (λ bytes. (line_text line.0 line.1 ++ 10 ∷ []) ++ bytes) (print_is lines)

no_lf : (bytes : List ℕ) → is_text bytes ≡ true → list_any (λ b. b == 10) bytes ≡ false
no_lf [] e = refl
no_lf (b ∷ bytes) e =
    elim (b == 10) as (λ t. ((not t && not (b == 13)) && is_text bytes) ≡ true → (t || list_any (λ b. b == 10) bytes) ≡ false) [
      | true ↦ λ f. absurd (cc)
      | false ↦ λ f. no_lf bytes (and_parts (not (b == 13)) (is_text bytes) f).1
    ] e

no_cr : (bytes : List ℕ) → is_text bytes ≡ true → without_cr bytes ≡ bytes
no_cr [] e = refl
no_cr (b ∷ []) e =
    let no_end = (and_parts (not (b == 10)) (not (b == 13)) (and_parts (is_text_byte b) true e).0).1 in
    elim (b == 13) as (λ t. not t ≡ true → (if t then [] else b ∷ []) ≡ b ∷ []) [ true ↦ λ f. absurd (cc) | false ↦ λ f. refl ] no_end
no_cr (b ∷ c ∷ bytes) e = ap (λ bytes. b ∷ bytes) (no_cr (c ∷ bytes) (and_parts (is_text_byte b) (is_text (c ∷ bytes)) e).1)

plain : (lines : List Line) → Each Readable lines → Each (IsPlainLine frame_limit) (texts lines)
plain [] all = tt
plain (line ∷ lines) all =
    let text = line_plain line.0 line.1 all.0.id all.0.fits in (
      record { no_end = no_lf (line_text line.0 line.1) text; no_cr = no_cr (line_text line.0 line.1) text; fits = all.0.short },
      plain lines all.1,
    )

come_out : (lines : List Line) → Each Readable lines → ComesOut (texts lines) frame_limit
come_out lines all = plain_come_out (texts lines) frame_limit (plain lines all)

read_again : (lines : List Line) → Each Readable lines → all_read (texts lines) ≡ replies_of lines
read_again [] all = refl
read_again (line ∷ lines) all =
    ap (λ o. one_read o ++ all_read (texts lines)) (line_again line.0 line.1 all.0.id all.0.fits) ∙ ap (λ rs. line.1 ∷ rs) (read_again lines all.1)

view_of_lines : (lines : List Line) → Each Readable lines → view (print_all lines) ≡ shown_all (new_view []) (replies_of lines)
view_of_lines lines all =
    ap (λ bytes. shown_all (new_view []) (all_read (frames bytes frame_limit))) (print_is lines)
    ∙ ap (λ fs. shown_all (new_view []) (all_read fs)) (come_out lines all).frames_are
    ∙ ap (shown_all (new_view [])) (read_again lines all)

-- the bytes put are the printed lines
print-append : (xs ys : List Line) → print_all (xs ++ ys) ≡ print_all xs ++ print_all ys
print-append [] ys = refl
print-append (x ∷ xs) ys = ap (λ bytes. print x ++ bytes) (print-append xs ys) ∙ sym (append_assoc (print x) (print_all xs) (print_all ys))

put_is : (s : State) (e : Event) (c : ℕ) (o : Option Client) → put_to s.settings.outbox_limit (batch s e c) o ≡ print_all (lines_to s e o c)
put_is s e c None = refl
put_is s e c (Some client) =
    elim (is_live client && has_room_for s.settings.outbox_limit client (batch s e c)) as (λ b. (if b then batch s e c else [])
    ≡ print_all (if b then sent s e c else [])) [ true ↦ refl | false ↦ refl ]

put_is_printed : (s : State) (history : List Event) (c : ℕ) → put_in s history c ≡ print_all (lines_put s history c)
put_is_printed s [] c = refl
put_is_printed s (e ∷ history) c =
    ap (λ bytes. bytes ++ put_in (next s e) history c) (put_is s e c (at_number (effect s e).clients c))
    ∙ ap (λ bytes. print_all (lines_by s e c) ++ bytes) (put_is_printed (next s e) history c)
    ∙ sym (print-append (lines_by s e c) (lines_put (next s e) history c))

module _ (s : State) (history : List Event) (c : ℕ) (readable : Each Readable (lines_put s history c)) where
  pub view_of_put : view (put_in s history c) ≡ shown_all (new_view []) (replies_of (lines_put s history c))
  view_of_put = ap view (put_is_printed s history c) ∙ view_of_lines (lines_put s history c) readable

  -- nobody who cuts lines at the limit finds one that is longer
  pub put_not_spoilt : is_spoilt (put_in s history c) frame_limit ≡ false
  put_not_spoilt =
      ap (λ bytes. is_spoilt bytes frame_limit) (put_is_printed s history c ∙ print_is (lines_put s history c))
      ∙ (come_out (lines_put s history c) readable).spoilt_is
