-- What a view followed, after a line ended, after more of an unfinished line came, and behind a line that is too long.
use Rattle.std.proofs.Common.{◌≡◌, ℕ, ◌+◌, ◌<◌, ◌≤◌, List, [], ◌∷◌, ◌++◌, length, sym, ap, subst, ◌∙◌, true, false, T, append-nil, length-append}
use Rattle.line_framer.specs.Frames.{frames, is_spoilt, rest_of, without_cr}
use Rattle.line_framer.specs.Buffered.{HasNoEnd}
use Rattle.line_framer.proofs.Stands.{frames-append, spoilt-append, rest-append, spoilt_for_good}
use Rattle.reply_kinds.specs.declared.Reply.{Reply}
use Rattle.reply_grammar.specs.Lines.{read_line}
use Rattle.lobby_view.specs.View.{new_view, shown_all}
use Rattle.lobby_view.specs.Bytes.{frame_limit, one_read, all_read}
use Rattle.lobby_view.proofs.Basics.{shown_all-append}
use Rattle.lobby_view.proofs.Pieces.{all_read-append}
use Rattle.client_view.specs.Following.{Following, Followed, count_read}
use Rattle.client_view.proofs.Ended.{ended_frames, ended_spoilt, ended_rest, open_frames, open_spoilt, open_rest, long_spoilt, long_frames}

-- the reply of one frame, if one printed it
abbrev pub read_of : List ℕ → List Reply
read_of frame = one_read (read_line frame)

-- one frame more
pub read_more : (fs : List (List ℕ)) (frame : List ℕ) → all_read (fs ++ frame ∷ []) ≡ all_read fs ++ read_of frame
read_more fs frame = all_read-append fs (frame ∷ []) ∙ ap (λ rs. all_read fs ++ rs) (append-nil (read_of frame))

module _ (f : Following) (bytes : List ℕ) (followed : Followed f bytes) (live : f.spoilt ≡ false) where
  sound : is_spoilt bytes frame_limit ≡ false
  sound = sym followed.spoilt ∙ live

  module _ (more : List ℕ) (none : HasNoEnd more) where
    line_is : rest_of bytes ++ more ≡ f.rest ++ more
    line_is = ap (λ r. r ++ more) (sym (followed.rest live))

    module _ (small : length (f.rest ++ more) ≤ frame_limit) where
      fits : length (rest_of bytes ++ more) ≤ frame_limit
      fits = subst (λ (n : ℕ). n ≤ frame_limit) (ap length (sym line_is)) small

      read_ended : all_read (frames (bytes ++ (more ++ 10 ∷ [])) frame_limit) ≡ all_read (frames bytes frame_limit) ++ read_of (without_cr (f.rest ++ more))
      read_ended =
          ap all_read (ended_frames bytes more frame_limit sound none fits)
          ∙ read_more (frames bytes frame_limit) (without_cr (rest_of bytes ++ more))
          ∙ ap (λ l. all_read (frames bytes frame_limit) ++ read_of (without_cr l)) line_is

      -- the line ended
      pub line_followed : (new : Following) → new.known ≡ shown_all f.known (read_of (without_cr (f.rest ++ more))) → new.rest ≡ [] → new.spoilt ≡ f.spoilt
          → Followed new (bytes ++ (more ++ 10 ∷ []))
      line_followed new known rest spoilt = record {
        known = known ∙ ap (λ v. shown_all v (read_of (without_cr (f.rest ++ more)))) followed.known
            ∙ sym (shown_all-append (new_view []) (all_read (frames bytes frame_limit)) (read_of (without_cr (f.rest ++ more))))
            ∙ ap (shown_all (new_view [])) (sym read_ended);
        spoilt = spoilt ∙ live ∙ sym (ended_spoilt bytes more frame_limit sound none fits);
        rest = λ e. rest ∙ sym (ended_rest bytes more frame_limit sound none fits);
      }

      pub line_counted : count_read (bytes ++ (more ++ 10 ∷ [])) ≡ count_read bytes + length (read_of (without_cr (f.rest ++ more)))
      line_counted = ap length read_ended ∙ length-append (all_read (frames bytes frame_limit)) (read_of (without_cr (f.rest ++ more)))

      -- it goes on
      pub rest_followed : (new : Following) → new.known ≡ f.known → new.rest ≡ f.rest ++ more → new.spoilt ≡ f.spoilt → Followed new (bytes ++ more)
      rest_followed new known rest spoilt = record {
        known = known ∙ followed.known ∙ ap (λ fs. shown_all (new_view []) (all_read fs)) (sym (open_frames bytes more frame_limit sound none fits));
        spoilt = spoilt ∙ live ∙ sym (open_spoilt bytes more frame_limit sound none fits);
        rest = λ e. rest ∙ sym line_is ∙ sym (open_rest bytes more frame_limit sound none fits);
      }

      pub rest_counted : count_read (bytes ++ more) ≡ count_read bytes
      rest_counted = ap (λ fs. length (all_read fs)) (open_frames bytes more frame_limit sound none fits)

    -- it is too long, whatever comes behind
    pub long_followed : frame_limit < length (f.rest ++ more) → (later : List ℕ) (new : Following) → new.known ≡ f.known → new.spoilt ≡ true → Followed new (bytes ++ (more ++ later))
    long_followed long later new known spoilt =
        let over : frame_limit < length (rest_of bytes ++ more) = subst (λ (n : ℕ). frame_limit < n) (ap length (sym line_is)) long in
        record {
          known = known ∙ followed.known ∙ ap (λ fs. shown_all (new_view []) (all_read fs)) (sym (long_frames bytes more frame_limit sound none over later));
          spoilt = spoilt ∙ sym (long_spoilt bytes more frame_limit sound none over later);
          rest = λ e. absurd (subst T (sym spoilt ∙ e) tt);
        }

-- lines behind the end of a line
module _ (f : Following) (bytes : List ℕ) (followed : Followed f bytes) (live : f.spoilt ≡ false) (ended : f.rest ≡ []) (behind : List ℕ) where
  nothing_left : rest_of bytes ≡ []
  nothing_left = sym (followed.rest live) ∙ ended

  frames_are : frames (bytes ++ behind) frame_limit ≡ frames bytes frame_limit ++ frames behind frame_limit
  frames_are =
      frames-append bytes behind frame_limit (sound f bytes followed live)
      ∙ ap (λ (r : List ℕ). frames bytes frame_limit ++ frames (r ++ behind) frame_limit) nothing_left

  read_are : all_read (frames (bytes ++ behind) frame_limit) ≡ all_read (frames bytes frame_limit) ++ all_read (frames behind frame_limit)
  read_are = ap all_read frames_are ∙ all_read-append (frames bytes frame_limit) (frames behind frame_limit)

  pub lines_followed : (new : Following) → new.known ≡ shown_all f.known (all_read (frames behind frame_limit)) → new.spoilt ≡ is_spoilt behind frame_limit
      → (new.spoilt ≡ false → new.rest ≡ rest_of behind) → Followed new (bytes ++ behind)
  lines_followed new known spoilt rest = record {
    known = known ∙ ap (λ v. shown_all v (all_read (frames behind frame_limit))) followed.known
        ∙ sym (shown_all-append (new_view []) (all_read (frames bytes frame_limit)) (all_read (frames behind frame_limit)))
        ∙ ap (shown_all (new_view [])) (sym read_are);
    spoilt = spoilt ∙ sym (spoilt-append bytes behind frame_limit (sound f bytes followed live) ∙ ap (λ (r : List ℕ). is_spoilt (r ++ behind) frame_limit) nothing_left);
    rest = λ e. rest e ∙ sym (rest-append bytes behind frame_limit (sound f bytes followed live) ∙ ap (λ (r : List ℕ). rest_of (r ++ behind)) nothing_left);
  }

  pub lines_counted : count_read (bytes ++ behind) ≡ count_read bytes + length (all_read (frames behind frame_limit))
  lines_counted = ap length read_are ∙ length-append (all_read (frames bytes frame_limit)) (all_read (frames behind frame_limit))

-- behind a line that is too long nothing changes
pub spoilt_follows : (f : Following) (bytes more : List ℕ) → Followed f bytes → f.spoilt ≡ true → Followed f (bytes ++ more)
spoilt_follows f bytes more followed met =
    let later = spoilt_for_good bytes more frame_limit (sym followed.spoilt ∙ met) in
    record {
      known = followed.known ∙ ap (λ fs. shown_all (new_view []) (all_read fs)) (sym later.1);
      spoilt = met ∙ sym later.0;
      rest = λ e. absurd (subst T (sym met ∙ e) tt);
    }
