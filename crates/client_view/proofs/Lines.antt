-- Bytes that are taken in line by line, from the start of a line on.
use Rattle.std.proofs.Common.{◌≡◌, ℕ, ◌+◌, ◌-◌, ◌<◌, ◌≤◌, List, [], ◌∷◌, ◌++◌, length, take, drop, refl, sym, ap, subst, ◌∙◌, true, false, T, arith, add-zero, append_assoc, append-nil, length-take, length-drop, length-append}
use Rattle.std.specs.Prelude.{Bool, map, nat_le, nat_lt, not, Option, Some, None, is_some}
use Rattle.std.proofs.lemmas.Bool.Decides.{nat_tests}
use Rattle.std.proofs.Math.Seq.{take-add}
use Rattle.std.proofs.lemmas.List.{take_more, take-append-drop, get_or-drop}
use Rattle.line_framer.specs.Frames.{Parts, frames, is_spoilt, rest_of, sound_lines, without_cr}
use Rattle.line_framer.specs.Buffered.{HasNoEnd, FirstEndAt, LastEndAt, IsFirstEnd}
use Rattle.line_framer.proofs.Parts.{parts_none, parts-append, rest-end}
use Rattle.line_framer.proofs.Limit.{spoilt_in}
use Rattle.line_framer.proofs.Stands.{frames-append, spoilt-append}
use Rattle.reply_kinds.specs.declared.Reply.{Reply}
use Rattle.reply_kinds.specs.Replies.{Line}
use Rattle.reply_grammar.specs.Lines.{read_line}
use Rattle.lobby_view.specs.View.{View, shown_all}
use Rattle.lobby_view.specs.Bytes.{frame_limit, all_read, one_read}
use Rattle.lobby_view.proofs.Basics.{shown_all-append}
use Rattle.noted_map.specs.Undoable.{Undoable}
use Rattle.client_view.proofs.Ended.{ended_frames, ended_spoilt, long_spoilt, long_frames}
use Rattle.client_view.proofs.Feeding.{up_to_end, none_before}
use Rattle.client_view.proofs.Follows.{read_of, read_more}

one_read_size : (o : Option Line) → length (one_read o) ≤ 1
one_read_size None = omega arith
one_read_size (Some line) = omega arith

pub read_size : (frame : List ℕ) → length (read_of frame) ≤ 1
read_size frame = one_read_size (read_line frame)

over_limit : (n m : ℕ) → n ≡ m → nat_lt 20479 n ≡ not (nat_le m 20479)
over_limit n m e = grind (arith, nat_tests)

-- the bytes before a place are whole lines, none of them too long, which were folded
pub record LinesTaken (bytes : List ℕ) (old new : View) (taken count : ℕ) : Type 0 where
  pub within : taken ≤ length bytes
  pub ended : rest_of (take taken bytes) ≡ []
  pub sound : is_spoilt (take taken bytes) frame_limit ≡ false
  pub known : new ≡ shown_all old (all_read (frames (take taken bytes) frame_limit))
  pub counts : count ≡ length (all_read (frames (take taken bytes) frame_limit))
  pub few : count ≤ taken

-- the same, where changes are noted
pub record NotedLines (bytes : List ℕ) (old new : Undoable View) (taken count : ℕ) : Type 0 where
  pub lines : LinesTaken bytes old.now new.now taken count
  pub before : new.before ≡ old.before
  pub noting : new.noting ≡ true

module _ (bytes : List ℕ) (old view : View) (taken count : ℕ) (so_far : LinesTaken bytes old view taken count) where
  -- one line more
  module _ (end : ℕ) (first : FirstEndAt (drop taken bytes) end) where
    abbrev line : List ℕ
    line = take end (drop taken bytes)

    with_line : take (taken + (end + 1)) bytes ≡ take taken bytes ++ (line ++ 10 ∷ [])
    with_line = take-add taken (end + 1) bytes ∙ ap (λ xs. take taken bytes ++ xs) (up_to_end (drop taken bytes) end first)

    line_is : rest_of (take taken bytes) ++ line ≡ line
    line_is = ap (λ r. r ++ line) so_far.ended

    size : length line ≡ end
    size = let inside = first.within in omega (arith, length-take end (drop taken bytes))

    module _ (short : end ≤ 20479) where
      small : length (rest_of (take taken bytes) ++ line) ≤ frame_limit
      small = subst (λ (n : ℕ). n ≤ frame_limit) (sym (ap length line_is ∙ size)) short

      read_are : all_read (frames (take (taken + (end + 1)) bytes) frame_limit) ≡ all_read (frames (take taken bytes) frame_limit) ++ read_of (without_cr line)
      read_are =
          ap (λ xs. all_read (frames xs frame_limit)) with_line
          ∙ ap all_read (ended_frames (take taken bytes) line frame_limit so_far.sound (none_before (drop taken bytes) end first) small)
          ∙ read_more (frames (take taken bytes) frame_limit) (without_cr (rest_of (take taken bytes) ++ line))
          ∙ ap (λ l. all_read (frames (take taken bytes) frame_limit) ++ read_of (without_cr l)) line_is

      pub line_more : (new : View) (more : ℕ) → new ≡ shown_all view (read_of (without_cr line)) → more ≡ length (read_of (without_cr line))
          → LinesTaken bytes old new (taken + (end + 1)) (count + more)
      line_more new more known counted =
          let inside = first.within in
          let room = length-drop taken bytes in
          let few = read_size (without_cr line) in
          record {
            within = omega (arith, so_far.within);
            ended = ap rest_of (with_line ∙ sym (append_assoc (take taken bytes) line (10 ∷ []))) ∙ rest-end (take taken bytes ++ line);
            sound = ap (λ xs. is_spoilt xs frame_limit) with_line
                ∙ ended_spoilt (take taken bytes) line frame_limit so_far.sound (none_before (drop taken bytes) end first) small;
            known = known ∙ ap (λ v. shown_all v (read_of (without_cr line))) so_far.known
                ∙ sym (shown_all-append old (all_read (frames (take taken bytes) frame_limit)) (read_of (without_cr line)))
                ∙ ap (shown_all old) (sym read_are);
            counts = ap (λ n. n + more) so_far.counts ∙ ap (λ n. length (all_read (frames (take taken bytes) frame_limit)) + n) counted
                ∙ sym (ap length read_are ∙ length-append (all_read (frames (take taken bytes) frame_limit)) (read_of (without_cr line)));
            few = omega (arith, so_far.few);
          }

    -- it is too long
    module _ (long : 20479 < end) where
      over : frame_limit < length (rest_of (take taken bytes) ++ line)
      over = subst (λ (n : ℕ). frame_limit < n) (sym (ap length line_is ∙ size)) long

      all_of_it : bytes ≡ take taken bytes ++ (line ++ drop end (drop taken bytes))
      all_of_it = sym (take-append-drop taken bytes) ∙ ap (λ xs. take taken bytes ++ xs) (sym (take-append-drop end (drop taken bytes)))

      same_frames : frames (take taken bytes) frame_limit ≡ frames bytes frame_limit
      same_frames = sym (ap (λ xs. frames xs frame_limit) all_of_it
          ∙ long_frames (take taken bytes) line frame_limit so_far.sound (none_before (drop taken bytes) end first) over (drop end (drop taken bytes)))

      pub long_known : view ≡ shown_all old (all_read (frames bytes frame_limit))
      long_known = so_far.known ∙ ap (λ fs. shown_all old (all_read fs)) same_frames

      pub long_count : count ≡ length (all_read (frames bytes frame_limit))
      long_count = so_far.counts ∙ ap (λ fs. length (all_read fs)) same_frames

      pub long_is_spoilt : true ≡ is_spoilt bytes frame_limit
      long_is_spoilt = sym (ap (λ xs. is_spoilt xs frame_limit) all_of_it
          ∙ long_spoilt (take taken bytes) line frame_limit so_far.sound (none_before (drop taken bytes) end first) over (drop end (drop taken bytes)))

  -- what stands behind the last LF
  module _ (none : HasNoEnd (drop taken bytes)) where
    behind_is : rest_of (take taken bytes) ++ drop taken bytes ≡ drop taken bytes
    behind_is = ap (λ r. r ++ drop taken bytes) so_far.ended

    last_frames : frames (take taken bytes) frame_limit ≡ frames bytes frame_limit
    last_frames = sym (
        ap (λ xs. frames xs frame_limit) (sym (take-append-drop taken bytes))
        ∙ frames-append (take taken bytes) (drop taken bytes) frame_limit so_far.sound
        ∙ ap (λ xs. frames (take taken bytes) frame_limit ++ frames xs frame_limit) behind_is
        ∙ ap (λ (q : Parts). frames (take taken bytes) frame_limit ++ map without_cr (sound_lines frame_limit q.0)) (parts_none (drop taken bytes) none)
        ∙ append-nil (frames (take taken bytes) frame_limit))

    pub last_known : view ≡ shown_all old (all_read (frames bytes frame_limit))
    last_known = so_far.known ∙ ap (λ fs. shown_all old (all_read fs)) last_frames

    pub last_count : count ≡ length (all_read (frames bytes frame_limit))
    last_count = so_far.counts ∙ ap (λ fs. length (all_read fs)) last_frames

    pub last_spoilt : nat_lt 20479 (length bytes - taken) ≡ is_spoilt bytes frame_limit
    last_spoilt =
        over_limit (length bytes - taken) (length (drop taken bytes)) (sym (length-drop taken bytes))
        ∙ sym (ap (λ xs. is_spoilt xs frame_limit) (sym (take-append-drop taken bytes))
        ∙ spoilt-append (take taken bytes) (drop taken bytes) frame_limit so_far.sound
        ∙ ap (λ xs. is_spoilt xs frame_limit) behind_is
        ∙ ap (spoilt_in frame_limit) (parts_none (drop taken bytes) none))

-- what stands behind the last LF
module _ (bytes : List ℕ) (end : ℕ) (last : LastEndAt bytes end) where
  ends_there : take (end + 1) bytes ≡ take end bytes ++ 10 ∷ []
  ends_there = take_more bytes end 0 last.within ∙ ap (λ b. take end bytes ++ b ∷ []) last.is_end

  none_behind : HasNoEnd (drop (end + 1) bytes)
  none_behind k lt is =
      last.behind (end + 1 + k) (omega arith) (omega (arith, length-drop (end + 1) bytes)) (sym (get_or-drop (end + 1) bytes k 0) ∙ is)

  pub behind_last : drop (end + 1) bytes ≡ rest_of bytes
  behind_last =
      sym (ap rest_of (sym (take-append-drop (end + 1) bytes))
      ∙ ap (λ (q : Parts). q.1) (parts-append (take (end + 1) bytes) (drop (end + 1) bytes))
      ∙ ap (λ r. rest_of (r ++ drop (end + 1) bytes)) (ap rest_of ends_there ∙ rest-end (take end bytes))
      ∙ ap (λ (q : Parts). q.1) (parts_none (drop (end + 1) bytes) none_behind))

pub none_at_all : (bytes : List ℕ) → HasNoEnd bytes → bytes ≡ rest_of bytes
none_at_all bytes none = sym (ap (λ (q : Parts). q.1) (parts_none bytes none))

-- no line ends in bytes without an LF
module _ (bytes : List ℕ) (none : HasNoEnd bytes) where
  none_read : all_read (frames bytes frame_limit) ≡ []
  none_read = ap (λ (q : Parts). all_read (map without_cr (sound_lines frame_limit q.0))) (parts_none bytes none)

  pub none_shown : (v : View) → v ≡ shown_all v (all_read (frames bytes frame_limit))
  none_shown v = ap (shown_all v) (sym none_read)

  pub none_counted : (n : ℕ) → n ≡ n + length (all_read (frames bytes frame_limit))
  none_counted n = sym (add-zero n) ∙ ap (λ (rs : List Reply). n + length rs) (sym none_read)

  pub none_spoilt : nat_lt 20479 (length bytes) ≡ is_spoilt bytes frame_limit
  none_spoilt = over_limit (length bytes) (length bytes) refl ∙ sym (ap (spoilt_in frame_limit) (parts_none bytes none))

-- a search that finds no LF
pub none_found : (bytes : List ℕ) (place : Option ℕ) (nothing : Bool) → IsFirstEnd bytes place → is_some place ≡ not nothing → nothing ≡ true → HasNoEnd bytes
none_found bytes None nothing none e is = none
none_found bytes (Some end) nothing first e is = absurd (subst T (e ∙ ap not is) tt)
