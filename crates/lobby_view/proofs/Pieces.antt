-- How a view goes on as more bytes come.
use Rattle.std.proofs.Common.{◌≡◌, ℕ, List, [], ◌∷◌, ◌++◌, refl, sym, ap, ◌∙◌, true, false, append_assoc}
use Rattle.line_framer.specs.Frames.{frames, is_spoilt, rest_of}
use Rattle.line_framer.proofs.Stands.{frames-append, spoilt_for_good}
use Rattle.reply_grammar.specs.Lines.{read_line}
use Rattle.lobby_view.specs.View.{new_view, shown_all}
use Rattle.lobby_view.specs.Bytes.{frame_limit, one_read, all_read, view}
use Rattle.lobby_view.proofs.Basics.{shown_all-append}

pub all_read-append : (xs ys : List (List ℕ)) → all_read (xs ++ ys) ≡ all_read xs ++ all_read ys
all_read-append [] ys = refl
all_read-append (x ∷ xs) ys =
    ap (λ rs. one_read (read_line x) ++ rs) (all_read-append xs ys) ∙ sym (append_assoc (one_read (read_line x)) (all_read xs) (all_read ys))

pub view_goes_on : (bytes more : List ℕ) → is_spoilt bytes frame_limit ≡ false
    → view (bytes ++ more) ≡ shown_all (view bytes) (all_read (frames (rest_of bytes ++ more) frame_limit))
view_goes_on bytes more sound =
    ap (λ fs. shown_all (new_view []) (all_read fs)) (frames-append bytes more frame_limit sound)
    ∙ ap (shown_all (new_view [])) (all_read-append (frames bytes frame_limit) (frames (rest_of bytes ++ more) frame_limit))
    ∙ shown_all-append (new_view []) (all_read (frames bytes frame_limit)) (all_read (frames (rest_of bytes ++ more) frame_limit))

pub view_stays : (bytes more : List ℕ) → is_spoilt bytes frame_limit ≡ true → view (bytes ++ more) ≡ view bytes
view_stays bytes more spoilt = ap (λ fs. shown_all (new_view []) (all_read fs)) (spoilt_for_good bytes more frame_limit spoilt).1
