-- Worked examples with many users, tags, bots and clients, computed from the definitions.
use Rattle.std.proofs.Common.{◌≡◌, ℕ, zero, suc, List, [], ◌∷◌, ◌++◌, refl, false}
use Rattle.std.specs.Prelude.{pos, ◌+◌, ◌/◌, ◌%◌, codes, decimal, map, flat_map, take, None}
use Rattle.std.specs.Fmt.{digits}
use Rattle.line_words.specs.declared.lists.Pair.{Pair}
use Rattle.command_grammar.specs.declared.command.Command.{Command}
use Rattle.command_grammar.specs.declared.command.Command.TheVariants as command
use Rattle.account_book.specs.Account.{Account}
use Rattle.lobby_model.specs.declared.event.Event.{Event}
use Rattle.lobby_model.specs.declared.event.Event.TheVariants as event
use Rattle.lobby_model.specs.Configuration.{configuration}
use Rattle.lobby_model.specs.State.{State, empty_lobby}
use Rattle.lobby_model.specs.Sessions.{greeted}
use Rattle.lobby_model.specs.Battles.{change_room}
use Rattle.lobby_model.specs.Events.{effect}
use Rattle.lobby_model.specs.History.{after, put_in}
use Rattle.lobby_model.proofs.Fixture.{start, anna, right_word, connect, login, says, lines, gets, tag, greeting, opens, joins}

-- so many numbers from the first on; 1, 2 .. n
abbrev numbers_from : ℕ → ℕ → List ℕ
numbers_from first zero = []
numbers_from first (suc n) = first ∷ numbers_from (first + 1) n

abbrev upto : ℕ → List ℕ
upto n = numbers_from 1 n

-- users u01, u02 .. u33
abbrev user_name : ℕ → List ℕ
user_name n = 117 ∷ (48 + n / 10) ∷ (48 + n % 10) ∷ []

abbrev user_account : ℕ → Account
user_account n = record { name = user_name n; password = right_word; id = n; rank = 0; access = false; bot = false; country = codes "DE" }

abbrev crowd_lobby : State
crowd_lobby = empty_lobby (configuration (codes "0.38") (codes "*") 8201 0 [] 4194304) (map user_account (upto 33))

-- user n connects and logs in
abbrev comes : ℕ → List Event
comes n = connect n ∷ says n (login (user_name n) right_word (pos 0)) ∷ []

abbrev join_big : Command
join_big = command.Join (codes "big") None

-- the first n have come and joined, the next one has come
abbrev n_are_in : ℕ → List Event
n_are_in n = flat_map (λ k. comes k ++ (says k join_big ∷ [])) (upto n) ++ comes (n + 1)

-- it joins: what client c gets of that
abbrev gets_of_next : ℕ → ℕ → List ℕ
gets_of_next n c = put_in (after crowd_lobby (n_are_in n)) (says (n + 1) join_big ∷ []) c

abbrev spaced : List (List ℕ) → List ℕ
spaced names = flat_map (λ name. 32 ∷ name) names

-- 32 names stand in one line, the 33rd in a second one; each of the others gets one line
names_in_two_lines : gets_of_next 32 33 ≡ codes "JOIN big\nCLIENTS big" ++ (spaced (map user_name (upto 32)) ++ codes "\nCLIENTS big u33\n")
unfolding digits
names_in_two_lines = refl

seen_by_the_first : gets_of_next 32 1 ≡ lines ("JOINED big u33" ∷ [])
unfolding digits
seen_by_the_first = refl

seen_by_the_last_but_one : gets_of_next 32 32 ≡ lines ("JOINED big u33" ∷ [])
unfolding digits
seen_by_the_last_but_one = refl

-- u01 comes and joins where others are, u02 and so on: 31 of them, and 64
abbrev others : ℕ → List (List ℕ)
others n = map user_name (numbers_from 2 n)

abbrev gets_of_first : ℕ → List ℕ
gets_of_first n = put_in (record (after crowd_lobby (comes 1)) { channels = (codes "big", others n) ∷ [] }) (says 1 join_big ∷ []) 1

names_in_one_line : gets_of_first 31 ≡ codes "JOIN big\nCLIENTS big" ++ (spaced (others 31) ++ codes " u01\n")
unfolding digits
names_in_one_line = refl

names_in_three_lines : gets_of_first 64
    ≡ codes "JOIN big\nCLIENTS big" ++ (spaced (others 32) ++ (codes "\nCLIENTS big" ++ (spaced (map user_name (numbers_from 34 32))
    ++ codes "\nCLIENTS big u01\n")))
unfolding digits
names_in_three_lines = refl

-- who logs in is told of a battle's members in order of joining
abbrev battle_of_three : List Event
battle_of_three = comes 1 ++ (comes 2 ++ (comes 3 ++ (says 2 opens ∷ says 3 (joins 1) ∷ says 1 (joins 1) ∷ [])))

members_in_order_of_joining : put_in (after crowd_lobby battle_of_three) (comes 4) 4 ≡ lines (greeting ∷ "ACCEPTED u04" ∷ "ADDUSER u01 DE 0 1"
    ∷ "ADDUSER u02 DE 0 2" ∷ "ADDUSER u03 DE 0 3" ∷ "ADDUSER u04 DE 0 4"
    ∷ "BATTLEOPENED 1 0 0 u02 10.0.0.2 8452 8 0 0 123 Spring\t104.0\tComet Catcher\tAnna's game\tBA 9.46"
    ∷ "UPDATEBATTLEINFO 1 0 0 123 Comet Catcher" ∷ "JOINEDBATTLE 1 u03" ∷ "JOINEDBATTLE 1 u01" ∷ "LOGININFOEND" ∷ [])
unfolding digits
members_in_order_of_joining = refl

-- a battle with tags k1, k2 .. k512, all 1
abbrev tag_key : ℕ → List ℕ
tag_key n = 107 ∷ decimal n

abbrev many_tags : ℕ → List Pair
many_tags n = map (λ k. record { key = tag_key k; value = codes "1" }) (upto n)

abbrev anna_opens : List Event
anna_opens = connect 1 ∷ says 1 (login anna right_word (pos 0)) ∷ says 1 opens ∷ []

abbrev full_room : State
full_room = change_room (after start anna_opens) 1 (λ room. record room { tags = many_tags 512 })

-- one more is too many, and none of its line is set; a key that was there is no more, and keeps its place. Where some are gone there is room
abbrev sets_one_too_many : Event
sets_one_too_many = says 1 (command.SetScriptTags (tag "new" "1" ∷ tag "k1" "2" ∷ []))

abbrev sets_old_one : Event
sets_old_one = says 1 (command.SetScriptTags (tag "k1" "2" ∷ []))

abbrev makes_room : List Event
makes_room =
    says 1 (command.RemoveScriptTags (codes "k2" ∷ codes "k1" ∷ codes "zz" ∷ codes "k2" ∷ [])) ∷ says 1 (command.RemoveScriptTags (codes "zz" ∷ []))
    ∷ says 1 (command.SetScriptTags (tag "new" "1" ∷ [])) ∷ []

too_many_tags : put_in full_room (sets_one_too_many ∷ sets_old_one ∷ makes_room) 1
    ≡ lines ("SERVERMSG Too many tags" ∷ "SETSCRIPTTAGS k1=2" ∷ "REMOVESCRIPTTAGS k2 k1" ∷ "SETSCRIPTTAGS new=1" ∷ [])
unfolding digits
too_many_tags = refl

abbrev tags_in : State → List Pair
tags_in s = flat_map (λ e. e.1.room.tags) s.battles

first_tags_when_refused : take 2 (tags_in (after full_room (sets_one_too_many ∷ []))) ≡ tag "k1" "1" ∷ tag "k2" "1" ∷ []
unfolding digits
first_tags_when_refused = refl

first_tags_when_set : take 2 (tags_in (after full_room (sets_old_one ∷ []))) ≡ tag "k1" "2" ∷ tag "k2" "1" ∷ []
unfolding digits
first_tags_when_set = refl

-- the 65th bot is one too many; first of all its name must be free
abbrev bot_name : ℕ → List ℕ
bot_name n = 98 ∷ decimal n

abbrev adds_bot : ℕ → Event
adds_bot n = says 1 (command.AddBot (bot_name n) 0 (pos 0) [])

abbrev adds_some : List Event
adds_some = adds_bot 64 ∷ adds_bot 64 ∷ adds_bot 65 ∷ says 1 (command.RemoveBot (bot_name 7)) ∷ adds_bot 65 ∷ []

too_many_bots : gets (anna_opens ++ map adds_bot (upto 63)) adds_some 1
    ≡ lines ("ADDBOT 1 b64 Anna 0 0 " ∷ "SERVERMSG That bot name is taken" ∷ "SERVERMSG Too many bots" ∷ "REMOVEBOT 1 b7"
    ∷ "ADDBOT 1 b65 Anna 0 0 " ∷ [])
unfolding digits
too_many_bots = refl

-- with 10,000 clients there is no place for another; when one is gone there is, and the new one has the next number
abbrev full_lobby : State
full_lobby = record start { clients = map (λ n. (n, greeted [] 0)) (upto 10000); last_client = 10000 }

no_place : (effect full_lobby (connect 1)).last_client ≡ 10000
no_place = refl

place_when_one_is_gone : (effect (effect full_lobby (event.Shut 7)) (connect 1)).last_client ≡ 10001
place_when_one_is_gone = refl
