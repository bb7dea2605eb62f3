-- Lines as the lobby sends them.
use Rattle.std.proofs.Common.{◌≡◌, [], ◌∷◌, Some, None, refl, true, false}
use Rattle.std.specs.Prelude.{pos, negsuc, codes}
use Rattle.std.specs.Fmt.{digits}
use Rattle.reply_kinds.specs.declared.Reply.TheVariants as reply
use Rattle.reply_kinds.specs.declared.opened_battle.OpenedBattle.{OpenedBattle}
use Rattle.reply_kinds.specs.Replies.{print_all, printed_line}

greeting : printed_line None (reply.TasServer (codes "0.38") (codes "*") 8201 0) ≡ codes "TASSERVER 0.38 * 8201 0\n"
unfolding digits
greeting = refl

numbered : printed_line (Some 7) reply.Pong ≡ codes "#7 PONG\n"
unfolding digits
numbered = refl

empty_text : printed_line None (reply.Motd []) ≡ codes "MOTD \n"
unfolding digits
empty_text = refl

two_spaces : printed_line (Some 9) (reply.SayPrivate (codes "Bert") (codes "hi  there")) ≡ codes "#9 SAYPRIVATE Bert hi  there\n"
unfolding digits
two_spaces = refl

a_user : printed_line None (reply.AddUser (codes "Bert") (codes "??") (pos 2400) 2) ≡ codes "ADDUSER Bert ?? 2400 2\n"
unfolding digits
a_user = refl

names : printed_line None (reply.Clients (codes "big") (codes "u01" ∷ codes "u02" ∷ [])) ≡ codes "CLIENTS big u01 u02\n"
unfolding digits
names = refl

abbrev annas_game : OpenedBattle
annas_game = record {
  battle_type = 0;
  nat_type = 0;
  founder = codes "Anna";
  ip = codes "10.0.0.1";
  port = 8452;
  max_players = 8;
  passworded = false;
  rank = pos 0;
  map_hash = pos 123;
  engine_name = codes "Spring";
  engine_version = codes "104.0";
  map = codes "Comet Catcher";
  title = codes "Anna's game";
  game_name = codes "BA 9.46";
}

a_battle : printed_line None (reply.BattleOpened 1 annas_game) ≡ codes "BATTLEOPENED 1 0 0 Anna 10.0.0.1 8452 8 0 0 123 Spring\t104.0\tComet Catcher\tAnna's game\tBA 9.46\n"
unfolding digits
a_battle = refl

locked : printed_line None (reply.UpdateBattleInfo 1 0 true (pos 123) (codes "Comet Catcher")) ≡ codes "UPDATEBATTLEINFO 1 0 1 123 Comet Catcher\n"
unfolding digits
locked = refl

a_hash : printed_line None (reply.JoinBattle 1 (negsuc 0)) ≡ codes "JOINBATTLE 1 -1\n"
unfolding digits
a_hash = refl

without_password : printed_line None (reply.JoinedBattle 1 (codes "Bert") None) ≡ codes "JOINEDBATTLE 1 Bert\n"
unfolding digits
without_password = refl

with_password : printed_line (Some 6) (reply.JoinedBattle 1 (codes "Bert") (Some (codes "pw9"))) ≡ codes "#6 JOINEDBATTLE 1 Bert pw9\n"
unfolding digits
with_password = refl

a_colour : printed_line None (reply.ClientBattleStatus (codes "Anna") 264345598 (negsuc 0)) ≡ codes "CLIENTBATTLESTATUS Anna 264345598 -1\n"
unfolding digits
a_colour = refl

a_bot : printed_line None (reply.AddBot 1 (codes "Robo") (codes "Anna") 1024 (pos 255) (codes "KAIK")) ≡ codes "ADDBOT 1 Robo Anna 1024 255 KAIK\n"
unfolding digits
a_bot = refl

a_rectangle : printed_line None (reply.AddStartRect 1 0 0 200 60) ≡ codes "ADDSTARTRECT 1 0 0 200 60\n"
unfolding digits
a_rectangle = refl

tags : printed_line None (reply.SetScriptTags (record { key = codes "a"; value = codes "1" } ∷ record { key = codes "b"; value = [] } ∷ [])) ≡ codes "SETSCRIPTTAGS a=1\tb=\n"
unfolding digits
tags = refl

keys : printed_line None (reply.RemoveScriptTags (codes "k2" ∷ codes "k1" ∷ [])) ≡ codes "REMOVESCRIPTTAGS k2 k1\n"
unfolding digits
keys = refl

two_lines : print_all ((None, reply.EndOfChannels) ∷ (Some 4, reply.LoginInfoEnd) ∷ []) ≡ codes "ENDOFCHANNELS\n#4 LOGININFOEND\n"
unfolding digits
two_lines = refl
