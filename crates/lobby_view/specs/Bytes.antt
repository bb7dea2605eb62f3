-- What a client knows from the bytes that it was sent. Nothing here speaks of the server.
use Rattle.std.specs.Prelude.{ℕ, List, [], ◌∷◌, flat_map, Option, Some, None}
use Rattle.line_framer.specs.Frames.{frames}
use Rattle.reply_kinds.specs.declared.Reply.{Reply}
use Rattle.reply_kinds.specs.Replies.{Line}
use Rattle.reply_grammar.specs.Lines.{read_line}
use Rattle.lobby_view.specs.View.{View, new_view, shown_all}

-- a printed line and its LF have at most 20,480 bytes
abbrev pub frame_limit : ℕ
frame_limit = 20479

abbrev pub one_read : Option Line → List Reply
one_read None = []
one_read (Some line) = line.1 ∷ []

-- the replies that print as these frames; other frames are skipped
abbrev pub all_read : List (List ℕ) → List Reply
all_read frames = flat_map (λ frame. one_read (read_line frame)) frames

abbrev pub view : List ℕ → View
view bytes = shown_all (new_view []) (all_read (frames bytes frame_limit))
