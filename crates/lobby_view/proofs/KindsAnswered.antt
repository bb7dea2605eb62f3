-- The command table: what each command of a user tells is clean, where its arguments keep their kinds and fit into a line.
use Rattle.std.proofs.Common.{◌≡◌, ℕ, ◌≤◌, ◌+◌, List, [], ◌∷◌, ◌++◌, refl, sym, ◌∙◌, true, false, length, arith, eq-eqb}
use Rattle.std.specs.Prelude.{Option, Some, None, map, ◌&&◌, ◌==◌, nat_le, codes}
use Rattle.std.proofs.lemmas.Bool.{and_parts, and_from, leb-true, le-leb}
use Rattle.std.specs.List.{list_all}
use Rattle.reply_kinds.specs.declared.Reply.{Reply}
use Rattle.reply_kinds.specs.declared.Reply.TheVariants as reply
use Rattle.reply_kinds.specs.Kinds.{fits}
use Rattle.reply_kinds.specs.Replies.{status_word}
use Rattle.command_grammar.specs.declared.command.Command.{Command}
use Rattle.command_grammar.specs.declared.command.Command.TheVariants as command
use Rattle.command_grammar.specs.declared.command.ReadFault.{ReadFault}
use Rattle.command_grammar.specs.declared.command.ReadFault.TheVariants.{UnknownCommand, MissingArgument, BadNumber, BadName, BadByte, BadPair}
use Rattle.command_grammar.specs.Kinds.{keeps_kinds, is_up_to, is_some_text}
use Rattle.command_grammar.specs.Sizes.{argument_bytes, optional_size}
use Rattle.status_bits.specs.Fields.{Field, merge, with_number}
use Rattle.status_bits.specs.UserWord.{user_table}
use Rattle.status_bits.specs.BattleWord.{battle_table}
use Rattle.line_words.specs.Bytes.{is_name, is_word, is_text, is_sentence}
use Rattle.line_words.specs.Kinds.{is_wide, is_some_word, is_pair}
use Rattle.line_words.specs.Table.{ByName, at_number, at_name, same_name}
use Rattle.room_lists.specs.Tags.{keys_there}
use Rattle.room_lists.specs.Units.{words_new, words_there}
use Rattle.room_lists.specs.Room.{Room, has_member, with_bot, with_bot_status, without_bot, with_rect, without_rect, set_tags, remove_tags, status_of, colour_of, disable_units, enable_units, enable_all}
use Rattle.lobby_model.specs.State.{State, Battle, battle_of}
use Rattle.lobby_model.specs.Texts.{fault_text}
use Rattle.lobby_model.specs.Outcome.{Letter, Happening, Outcome}
use Rattle.lobby_model.specs.Battles.{address, bot_line, rect_line, reason_or_default}
use Rattle.lobby_model.specs.Rooms.{new_bot, removed_line, disabled_line, enabled_line}
use Rattle.lobby_model.specs.Sessions.{status_in}
use Rattle.lobby_model.specs.Commands.{answer}
use Rattle.lobby_view.proofs.Everywhere.{Each, each_found}
use Rattle.lobby_view.proofs.Clean.{Clean, CleanLetters}
use Rattle.lobby_view.proofs.StatusWords.{user_merge_fits, battle_merge_fits, forced_fits}
use Rattle.lobby_view.proofs.KindsOfUsers.{IsName, ChannelKinds}
use Rattle.lobby_view.proofs.KindsOfBattles.{BattleKinds, BotKinds, RectKinds, AskerKinds, units_kinds, units_gone_kinds, all_units_gone_kinds, bot_kinds, bot_status_kinds, bot_gone_kinds, rect_kinds, rect_gone_kinds, tags_kinds, tags_gone_kinds, clean_bot, clean_rect}
use Rattle.lobby_view.proofs.KindsOfHappenings.{Kinds, CleanAll, asks_kinds, let_into_kinds, turned_away_kinds, no_more_kinds, message_clean, room_clean, status_kinds, joins_kinds, leaves_kinds, leaves_battle_kinds, info_clean, enters_kinds, opens_kinds}
use Rattle.lobby_model.proofs.Clauses.{Refusal, by_message, unread, no_joining, no_opening, no_entering, Told, pong, all_channels, said, said_ex, said_private, rung, Forces, gives_handicap, puts_into_team, puts_into_ally, makes_spectator, told_members, RoomDeed, battle_said, battle_said_ex, shows_status, forced, coloured, bot_added, bot_has, bot_removed, rect_added, rect_removed, tags_set, tags_removed, units_disabled, units_enabled, all_enabled, Deed, tells, joins_channel, leaves_channel, opens_one, joins_one, asks_one, asks_none, leaves_one, in_its_room, informs, lets_one_in, turns_away, Clause, refused, nothing_done, one, kicks, clause_of}
use Rattle.lobby_view.proofs.KindsChecked.{CleanOutcome, optional_room, pairs_room, pairs_kinds, some_keys, some_there, some_new, removed_clean, disabled_clean, enabled_clean, words_kinds, status_of_kinds, colour_of_kinds, status_set}

pub fault_clean : (fault : ReadFault) → Clean (reply.ServerMsg (fault_text fault))
fault_clean UnknownCommand = message_clean (codes "Unknown command") refl (omega arith)
fault_clean MissingArgument = message_clean (codes "Missing argument") refl (omega arith)
fault_clean BadNumber = message_clean (codes "Bad number") refl (omega arith)
fault_clean BadName = message_clean (codes "Bad name") refl (omega arith)
fault_clean BadByte = message_clean (codes "Bad byte in line") refl (omega arith)
fault_clean BadPair = message_clean (codes "Bad key or value") refl (omega arith)

-- numbers from nought
up : (high n : ℕ) → nat_le n high ≡ true → (nat_le 0 n && nat_le n high) ≡ true
up high n e = and_from (nat_le 0 n) (nat_le n high) (le-leb 0 n (omega arith)) e

-- the counts of CHANNEL are of 32 bits
abbrev pub CountFits : List ℕ × List (List ℕ) → Type 0
CountFits e = fits status_word (length e.1) ≡ true

counted_lines : (m : ByName (List (List ℕ))) → Each ChannelKinds m → Each CountFits m
    → Each Clean (map (λ e. reply.Channel e.0 (length e.1)) m ++ reply.EndOfChannels ∷ [])
counted_lines [] h counts = (record { fits = refl; short = omega arith }, tt)
counted_lines (e ∷ m) h counts = (record { fits = λ i. h.0.name i && (counts.0 i && true); short = omega arith }, counted_lines m h.1 counts.1)

-- a line that refuses
refusal_clean : {asked : Command} {line : Reply} → Refusal asked line → keeps_kinds asked ≡ true → argument_bytes asked ≤ 8192 → Clean line
refusal_clean (by_message text fit) kinds short = let p = and_parts _ _ fit in message_clean text p.0 (leb-true (length text) 8192 p.1)
refusal_clean (unread fault) kinds short = fault_clean fault
refusal_clean (no_joining channel key text fit) kinds short =
    let p = and_parts _ _ fit in
    let name = (and_parts (is_name channel) (is_some_word key) kinds).0 in
    let small = leb-true (length text) 8192 p.1 in
    record { fits = λ i. name i && (p.0 i && true); short = omega arith }
refusal_clean (no_opening text fit) kinds short =
    let p = and_parts _ _ fit in let small = leb-true (length text) 8192 p.1 in record { fits = λ i. p.0 i && true; short = omega arith }
refusal_clean (no_entering text fit) kinds short =
    let p = and_parts _ _ fit in let small = leb-true (length text) 8192 p.1 in record { fits = λ i. p.0 i && true; short = omega arith }

-- what the founder sets is small
forces_fit : {asked : Command} {name : List ℕ} {field : Field} {number : ℕ} → Forces asked name field number → keeps_kinds asked ≡ true
    → (is_name name ≡ true) × number ≤ 127
forces_fit (gives_handicap name value) kinds =
    let p = and_parts (is_name name) (is_up_to 100 value) kinds in let small = leb-true value 100 p.1 in (p.0, omega arith)
forces_fit (puts_into_team name number) kinds =
    let p = and_parts (is_name name) (is_up_to 15 number) kinds in let small = leb-true number 15 p.1 in (p.0, omega arith)
forces_fit (puts_into_ally name number) kinds =
    let p = and_parts (is_name name) (is_up_to 15 number) kinds in let small = leb-true number 15 p.1 in (p.0, omega arith)
forces_fit (makes_spectator name) kinds = (kinds, omega arith)

denial_clean : (reason : Option (List ℕ)) → is_some_text reason ≡ true → optional_size reason ≤ 8192
    → Clean (reply.JoinBattleFailed (reason_or_default reason))
denial_clean None text small = record { fits = refl; short = omega arith }
denial_clean (Some text) is small = record { fits = λ i. is i && true; short = omega arith }

module _ (s : State) (k : Kinds s) (me : List ℕ) (n : IsName me) (c : ℕ) (counts : Each CountFits s.channels)
    (ip : is_word (address (at_number s.clients c)) ≡ true) (ip_short : length (address (at_number s.clients c)) ≤ 100) where
  own_kinds : (id : ℕ) (b : Battle) → battle_of s me ≡ Some (id, b) → BattleKinds (id, b)
  own_kinds id b own = each_found BattleKinds (λ e. has_member me e.1.room) s.battles (id, b) k.battles own

  told_clean : {asked : Command} {letters : List Letter} → Told s me asked letters → keeps_kinds asked ≡ true → argument_bytes asked ≤ 8192
      → CleanLetters letters
  told_clean pong kinds short = ((record { fits = refl; short = omega arith }, tt), tt)
  told_clean all_channels kinds short = (counted_lines s.channels k.channels counts, tt)
  told_clean (said channel text) kinds short =
      let p = and_parts (is_name channel) (is_text text) kinds in
      ((record { fits = λ i. p.0 i && (n i && (p.1 i && true)); short = omega arith }, tt), tt)
  told_clean (said_ex channel text) kinds short =
      let p = and_parts (is_name channel) (is_text text) kinds in
      ((record { fits = λ i. p.0 i && (n i && (p.1 i && true)); short = omega arith }, tt), tt)
  told_clean (said_private target text) kinds short =
      let p = and_parts (is_name target) (is_text text) kinds in (
        (record { fits = λ i. p.0 i && (p.1 i && true); short = omega arith }, tt),
        ((record { fits = λ i. n i && (p.1 i && true); short = omega arith }, tt), tt),
      )
  told_clean (rung name) kinds short = ((record { fits = λ i. n i && true; short = omega arith }, tt), tt)

  -- what is done in a room
  module _ (id : ℕ) (b : Battle) (was : BattleKinds (id, b)) where
    room_change_clean : {asked : Command} {f : Room → Room} {lines : List Reply} → RoomDeed me id b asked f lines → keeps_kinds asked ≡ true
        → argument_bytes asked ≤ 8192 → CleanAll s (told_members id b f lines ∷ [])
    room_change_clean (battle_said text) kinds short =
        room_clean s k id b (λ room. room) (reply.SaidBattle me text ∷ []) (λ room h. h) (record { fits = λ i. n i && (kinds i && true); short = omega arith }, tt)
    room_change_clean (battle_said_ex text) kinds short =
        room_clean s k id b (λ room. room) (reply.SaidBattleEx me text ∷ []) (λ room h. h) (record { fits = λ i. n i && (kinds i && true); short = omega arith }, tt)
    room_change_clean (shows_status asked colour) kinds short =
        status_set s k id b me (merge battle_table (status_of me b.room) asked) colour n
        (battle_merge_fits (status_of me b.room) asked) (and_parts (is_up_to 4294967295 asked) (is_wide colour) kinds).1
    room_change_clean (forced {name = name} {field = field} {number = number} force) kinds short =
        let p = forces_fit force kinds in
        status_set s k id b name (with_number battle_table field number (status_of name b.room)) (colour_of name b.room) p.0
        (forced_fits field number (status_of name b.room) p.1) (colour_of_kinds name b.room.members was.room.members)
    room_change_clean (coloured name colour) kinds short =
        let p = and_parts (is_name name) (is_wide colour) kinds in
        status_set s k id b name (status_of name b.room) colour p.0 (status_of_kinds name b.room.members was.room.members) p.1
    room_change_clean (bot_added bot asked colour ai new) kinds short =
        let p = and_parts (is_word bot && is_up_to 4294967295 asked && is_wide colour) (is_sentence ai) kinds in
        let q = and_parts (is_word bot && is_up_to 4294967295 asked) (is_wide colour) p.0 in
        let w = (and_parts (is_word bot) (is_up_to 4294967295 asked) q.0).0 in
        let its : BotKinds (new_bot bot me asked colour ai) = record {
          name = w;
          owner = n;
          status = battle_merge_fits 0 asked;
          colour = q.1;
          ai = p.1;
          short = omega arith;
        } in
        room_clean s k id b (with_bot (new_bot bot me asked colour ai)) (bot_line id (new_bot bot me asked colour ai) ∷ [])
        (λ room h. bot_kinds room h (new_bot bot me asked colour ai) its) (clean_bot id (new_bot bot me asked colour ai) was.id its, tt)
    room_change_clean (bot_has bot asked colour old) kinds short =
        let p = and_parts (is_word bot && is_up_to 4294967295 asked) (is_wide colour) kinds in
        let w = (and_parts (is_word bot) (is_up_to 4294967295 asked) p.0).0 in
        room_clean s k id b (with_bot_status bot (merge battle_table old asked) colour) (reply.UpdateBot id bot (merge battle_table old asked) colour ∷ [])
        (λ room h. bot_status_kinds room h bot (merge battle_table old asked) colour (battle_merge_fits old asked) p.1)
        (record { fits = λ i. was.id i && (w i && (battle_merge_fits old asked i && (p.1 i && true))); short = omega arith }, tt)
    room_change_clean (bot_removed bot) kinds short =
        room_clean s k id b (without_bot bot) (reply.RemoveBot id bot ∷ []) (λ room h. bot_gone_kinds room h bot)
        (record { fits = λ i. was.id i && (kinds i && true); short = omega arith }, tt)
    room_change_clean (rect_added number left top right bottom) kinds short =
        let p = and_parts (is_up_to 15 number && is_up_to 200 left && is_up_to 200 top && is_up_to 200 right) (is_up_to 200 bottom) kinds in
        let q = and_parts (is_up_to 15 number && is_up_to 200 left && is_up_to 200 top) (is_up_to 200 right) p.0 in
        let r = and_parts (is_up_to 15 number && is_up_to 200 left) (is_up_to 200 top) q.0 in
        let t = and_parts (is_up_to 15 number) (is_up_to 200 left) r.0 in
        let its : RectKinds (number, record { left = left; top = top; right = right; bottom = bottom }) = record {
          ally = up 15 number t.0;
          left = up 200 left t.1;
          top = up 200 top r.1;
          right = up 200 right q.1;
          bottom = up 200 bottom p.1;
        } in
        room_clean s k id b (with_rect number (record { left = left; top = top; right = right; bottom = bottom }))
        (rect_line number (record { left = left; top = top; right = right; bottom = bottom }) ∷ [])
        (λ room h. rect_kinds room h number _ its) (clean_rect (number, _) its, tt)
    room_change_clean (rect_removed number) kinds short =
        room_clean s k id b (without_rect number) (reply.RemoveStartRect number ∷ []) (λ room h. rect_gone_kinds room h number)
        (record { fits = λ i. up 15 number kinds i && true; short = omega arith }, tt)
    room_change_clean (tags_set pairs) kinds short =
        let parts = and_parts (nat_le 1 (length pairs)) (list_all is_pair pairs) kinds in
        room_clean s k id b (set_tags pairs) (reply.SetScriptTags pairs ∷ [])
        (λ room h. tags_kinds room h pairs (pairs_kinds pairs parts.1 (omega arith)))
        (record { fits = λ i. (parts.1 i && parts.0 i) && true; short = (let r = pairs_room 32 pairs in omega arith) }, tt)
    room_change_clean (tags_removed keys) kinds short =
        let parts = and_parts (nat_le 1 (length keys)) (list_all is_word keys) kinds in
        let there = some_keys keys b.room.tags parts.1 in
        room_clean s k id b (remove_tags keys) (removed_line (keys_there b.room.tags keys)) (λ room h. tags_gone_kinds room h keys)
        (removed_clean (keys_there b.room.tags keys) there.are_words (let r = there.short in omega arith))
    room_change_clean (units_disabled units few) kinds short =
        let words = (and_parts (nat_le 1 (length units)) (list_all is_word units) kinds).1 in
        let new = some_new units b.room.units words in
        room_clean s k id b (disable_units units) (disabled_line (words_new b.room.units units))
        (λ room h. units_kinds room h units (words_kinds units words (omega arith)))
        (disabled_clean (words_new b.room.units units) new.are_words (let r = new.short in omega arith))
    room_change_clean (units_enabled units) kinds short =
        let words = (and_parts (nat_le 1 (length units)) (list_all is_word units) kinds).1 in
        let there = some_there units b.room.units words in
        room_clean s k id b (enable_units units) (enabled_line (words_there b.room.units units)) (λ room h. units_gone_kinds room h units)
        (enabled_clean (words_there b.room.units units) there.are_words (let r = there.short in omega arith))
    room_change_clean all_enabled kinds short =
        room_clean s k id b enable_all (reply.EnableAllUnits ∷ []) (λ room h. all_units_gone_kinds room h)
        (record { fits = refl; short = omega arith }, tt)

  -- the number of a battle that is opened
  next_is_small : (s.last_battle == 2147483647) ≡ false → s.last_battle + 1 ≤ 2147483647
  next_is_small left =
      let bound = k.last in
      let apart : s.last_battle ≡ 2147483647 → ⊥ = λ same. let yes = eq-eqb s.last_battle 2147483647 same in let both : true ≡ false = sym yes ∙ left in cc in
      omega (arith, apart)

  deed_clean : {asked : Command} {h : Happening} → Deed s c me asked h → keeps_kinds asked ≡ true → argument_bytes asked ≤ 8192 → CleanAll s (h ∷ [])
  deed_clean (tells told) kinds short = (told_clean told kinds short, k, tt)
  deed_clean (joins_channel channel key out) kinds short = joins_kinds s k me channel n (and_parts (is_name channel) (is_some_word key) kinds).0
  deed_clean (leaves_channel channel in_it) kinds short = leaves_kinds s k me channel n kinds
  deed_clean (opens_one battle_type nat_type password port max_players game_hash rank map_hash engine_name engine_version map_name title game_name free silent left) kinds short =
      let a = and_parts _ (is_sentence game_name) kinds in
      let b = and_parts _ (is_sentence title) a.0 in
      let d = and_parts _ (is_sentence map_name) b.0 in
      let e = and_parts _ (is_sentence engine_version) d.0 in
      let f = and_parts _ (is_sentence engine_name) e.0 in
      let g = and_parts _ (is_wide map_hash) f.0 in
      let h = and_parts _ (is_wide rank) g.0 in
      let i = and_parts _ (is_wide game_hash) h.0 in
      let j = and_parts _ (is_up_to 65535 max_players) i.0 in
      let l = and_parts _ (is_up_to 65535 port) j.0 in
      let m = and_parts _ (is_word password) l.0 in
      let o = and_parts (is_up_to 1 battle_type) (is_up_to 2 nat_type) m.0 in
      let small = next_is_small left in
      opens_kinds s k me (s.last_battle + 1) _ (record {
        id = and_from (nat_le 1 (s.last_battle + 1)) (nat_le (s.last_battle + 1) 2147483647) (le-leb 1 (s.last_battle + 1) (omega arith))
            (le-leb (s.last_battle + 1) 2147483647 small);
        info = record {
          battle_type = up 1 battle_type o.0;
          nat_type = up 2 nat_type o.1;
          founder = n;
          ip = ip;
          ip_short = ip_short;
          port = up 65535 port l.1;
          max_players = up 65535 max_players j.1;
          rank = h.1;
          map_hash = g.1;
          engine_name = f.1;
          engine_version = e.1;
          map = d.1;
          title = b.1;
          game_name = a.1;
          short = omega arith;
          map_short = omega arith;
          spectators = refl;
        };
        hash = i.1;
        room = record { members = (record { name = n; status = refl; colour = refl }, tt); bots = tt; rects = tt; tags = tt; units = tt; askers = tt };
      }) small
  deed_clean (joins_one id password script_password battle there free silent) kinds short =
      let p = and_parts (is_up_to 2147483647 id && is_some_word password) (is_some_word script_password) kinds in
      let size = optional_room script_password in enters_kinds s k me id battle script_password n there p.1 (omega arith)
  deed_clean (asks_one id password script_password battle there free silent) kinds short =
      let p = and_parts (is_up_to 2147483647 id && is_some_word password) (is_some_word script_password) kinds in
      let size = optional_room script_password in
      asks_kinds s k me id battle script_password (address (at_number s.clients c))
      (record { name = n; script_password = p.1; short = omega arith }) ip ip_short
  deed_clean (asks_none e asks) kinds short = no_more_kinds s k me e.0
  deed_clean (leaves_one id battle own) kinds short = leaves_battle_kinds s k me id battle n (own_kinds id battle own)
  deed_clean (in_its_room id battle own change) kinds short =
      room_change_clean id battle (own_kinds id battle own) change kinds short
  deed_clean (informs id battle own spectators locked map_hash map_name) kinds short =
      let p = and_parts (is_up_to 65535 spectators && true && is_wide map_hash) (is_sentence map_name) kinds in
      let q = and_parts (is_up_to 65535 spectators && true) (is_wide map_hash) p.0 in
      let r = and_parts (is_up_to 65535 spectators) true q.0 in
      info_clean s k id battle (own_kinds id battle own) spectators locked map_hash map_name (up 65535 spectators r.0) q.1 p.1 (omega arith)
  deed_clean (lets_one_in id battle own name asker found) kinds short =
      let was = own_kinds id battle own in
      let_into_kinds s k asker id battle (each_found AskerKinds (λ a. same_name name a.name) battle.room.askers asker was.room.askers found) was
  deed_clean (turns_away id battle own name reason) kinds short =
      turned_away_kinds s k name (reason_or_default reason) id
      (denial_clean reason (and_parts (is_name name) (is_some_text reason) kinds).1 (omega arith))

  clause_clean : {asked : Command} {o : Outcome} → Clause s c me asked o → keeps_kinds asked ≡ true → argument_bytes asked ≤ 8192 → CleanOutcome s o
  clause_clean (refused why) kinds short = refusal_clean why kinds short
  clause_clean nothing_done kinds short = tt
  clause_clean (one deed) kinds short = deed_clean deed kinds short
  clause_clean (kicks id battle own name in_it) kinds short =
      (((record { fits = refl; short = omega arith }, tt), tt), k, leaves_battle_kinds s k name id battle kinds (own_kinds id battle own))

  abbrev Answers : Command → Type 0
  Answers command = keeps_kinds command ≡ true → argument_bytes command ≤ 8192 → CleanOutcome s (answer s c (Some me) command)

  abbrev pub Remains : Command → Type 0
  Remains command.Exit = ⊥
  Remains command = Unit {0}

  -- all commands but EXIT
  pub answer_clean : (command : Command) → Remains command → Answers command
  answer_clean command.Exit own = absurd own
  answer_clean (command.Login name password cpu local_ip lobby authorises) own = λ kinds short. record { fits = refl; short = omega arith }
  answer_clean (command.MyStatus asked) own =
      λ kinds short. status_kinds s k me (merge user_table (status_in (at_name s.users me)) asked) n (user_merge_fits (status_in (at_name s.users me)) asked)
  answer_clean command own = clause_clean (clause_of s c me command refl)
