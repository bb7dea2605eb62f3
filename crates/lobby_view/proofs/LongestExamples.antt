-- The longest line of a worked example, computed from the definitions: two lines of 8,192 bytes open a battle and give it a map, and who
-- logs in then gets what both said in one line, and sees that battle.
use Rattle.std.proofs.Common.{◌≡◌, ℕ, zero, suc, List, [], ◌∷◌, ◌++◌, refl, Bool, true, length}
use Rattle.std.specs.Prelude.{pos, codes, map, Some, false, ◌&&◌, ◌==◌}
use Rattle.std.specs.Fmt.{digits}
use Rattle.command_grammar.specs.declared.command.Command.TheVariants as command
use Rattle.line_words.specs.Table.{ByNumber, same_name}
use Rattle.reply_kinds.specs.Replies.{print}
use Rattle.lobby_model.specs.declared.event.Event.{Event}
use Rattle.lobby_model.specs.Events.{sent}
use Rattle.lobby_model.specs.History.{after, put_in}
use Rattle.lobby_model.proofs.Fixture.{start, anna, bert, right_word, connect, login, says, says_with}
use Rattle.reply_fields.specs.Fields.{piece_at, natural, whole, number_in, number_at, wide_at, flag_at, word_at, name_at, sentence_at, text_at}
use Rattle.reply_grammar.specs.Reading.{shaped}
use Rattle.reply_grammar.specs.Lines.{named, read_body, read_numbered, read_line}
use Rattle.lobby_view.specs.View.{Listed}
use Rattle.lobby_view.specs.Bytes.{view}

abbrev repeated : ℕ → ℕ → List ℕ
repeated zero b = []
repeated (suc n) b = b ∷ repeated n b

-- the longest name of an engine that a line can give, and the longest name of a map
abbrev long_name : List ℕ
long_name = repeated 8161 65

abbrev long_map : List ℕ
long_map = repeated 8169 66

-- Anna opens her battle, and changes its map
abbrev annas : List Event
annas =
    connect 1 ∷ says 1 (login anna right_word (pos 0))
    ∷ says 1 (command.OpenBattle 0 0 (codes "*") 0 0 (pos 0) (pos 0) (pos 0) long_name [] [] [] [])
    ∷ says 1 (command.UpdateBattleInfo 0 false (pos 0) long_map) ∷ connect 2 ∷ []

-- Bert logs in, under the greatest id
abbrev berts : Event
berts = says_with (Some 2147483647) 2 (login bert right_word (pos 0))

-- the sixth of the lines that he gets is BATTLEOPENED; each has its id and its LF
lengths : map (λ line. length (print line)) (sent (after start annas) berts 2) ≡ 26 ∷ 25 ∷ 32 ∷ 32 ∷ 33 ∷ 16390 ∷ 8207 ∷ 25 ∷ []
unfolding digits
lengths = refl

-- one battle, of number 1, with these names, in which one is
abbrev is_annas : ByNumber Listed → Bool
is_annas [] = false
is_annas (e ∷ battles) =
    e.0 == 1 && same_name e.1.info.engine_name long_name && same_name e.1.info.map long_map && length e.1.members == 1 && length battles == 0

-- his view of his bytes has it
seen : is_annas (view (put_in start (annas ++ berts ∷ []) 2)).battles ≡ true
unfolding digits piece_at natural whole number_in number_at wide_at flag_at word_at name_at sentence_at text_at shaped named read_body read_numbered read_line
seen = refl
