-- How the maps fit together, after steps of an event.
use Rattle.std.proofs.Common.{◌≡◌, ℕ, ◌≤◌, List, [], sym, subst, ◌∙◌}
use Rattle.line_words.specs.Table.{ByName, ByNumber}
use Rattle.lobby_model.specs.State.{Client, User, Battle}
use Rattle.channel_book.specs.Channels.{Channels}
use Rattle.lobby_battles.specs.declared.online_users.OnlineUser.{OnlineUser}
use Rattle.lobby_maps.specs.declared.change.Change.{Change}
use Rattle.lobby_maps.specs.declared.change.Change.TheVariants.{Nothing, Status, LogIn, LogOut, Join, Leave, InBattles}
use Rattle.lobby_battles.specs.declared.battles.BattleChange.TheVariants as battle
use Rattle.lobby_battles.specs.declared.battles.BattleChange.TheVariants.{Open, Update, InRoom}
use Rattle.lobby_maps.specs.Changes.{CanBe, last_after}
use Rattle.lobby_post.specs.Crowd.{Crowd, Known}
use Rattle.lobby_post.specs.Mail.{AreDue, plain, deliver}
use Rattle.lobby_battles.specs.OnlineUsers.{Agree, IsListed}
use Rattle.lobby_maps.specs.Fit.{Numbered, Fit}
use Rattle.lobby_battles.specs.Battles.{KnowTheirBattles}
use Rattle.lobby_battles.proofs.Agreed.{agree_kept, listed_kept}
use Rattle.lobby_maps.proofs.Numbered.{name_delivered, numbered_delivered}

-- clients that are as they were
pub fit_same : (limit : ℕ) (es fs : Crowd) (online : ByName OnlineUser) (numbers : List ℕ) (last : ℕ) (battles : ByNumber Battle) (last_battle : ℕ) → plain fs.slots ≡ plain es.slots
    → fs.limit ≡ es.limit → AreDue [] fs.slots → Known fs last → Fit limit es online numbers last battles last_battle
    → Fit limit fs online numbers last battles last_battle
fit_same limit es fs online numbers last battles last_battle same limits rest known fit = record {
  limited = limits ∙ fit.limited;
  rest = rest;
  agree = subst (λ (m : ByNumber Client). Agree m online) (sym same) fit.agree;
  listed = subst (λ (m : ByNumber Client). IsListed numbers m) (sym same) fit.listed;
  numbered = subst (λ (m : ByNumber Client). Numbered last m) (sym same) fit.numbered;
  known = known;
  knowing = fit.knowing;
  counted = fit.counted;
}

-- clients to whom something was delivered
pub fit_delivered : (limit : ℕ) (pieces : ByNumber (List ℕ)) (es fs : Crowd) (online : ByName OnlineUser) (numbers : List ℕ) (last : ℕ) (battles : ByNumber Battle) (last_battle : ℕ) → fs.limit ≡ limit
    → plain fs.slots ≡ deliver es.limit pieces (plain es.slots) → AreDue [] fs.slots → Known fs last
    → Agree (plain es.slots) online → IsListed numbers (plain es.slots) → Numbered last (plain es.slots) → KnowTheirBattles battles online → last_battle ≤ 2147483647
    → Fit limit fs online numbers last battles last_battle
fit_delivered limit pieces es fs online numbers last battles last_battle limited is rest known agree listed numbered knowing counted = record {
  limited = limited;
  rest = rest;
  agree = agree_kept (plain es.slots) (plain fs.slots) online (name_delivered es.limit pieces (plain es.slots) (plain fs.slots) is) agree;
  listed = listed_kept (plain es.slots) (plain fs.slots) numbers (name_delivered es.limit pieces (plain es.slots) (plain fs.slots) is) listed;
  numbered = numbered_delivered es.limit pieces last (plain es.slots) (plain fs.slots) is numbered;
  known = known;
  knowing = knowing;
  counted = counted;
}

-- the last battle number after a change that the maps can take
pub counted_after : (clients : ByNumber Client) (users : ByName User) (channels : Channels) (battles : ByNumber Battle) (c last : ℕ) (change : Change)
    → CanBe clients users channels battles c change → last ≤ 2147483647 → last_after last change ≤ 2147483647
counted_after clients users channels battles c last Nothing can counted = counted
counted_after clients users channels battles c last (Status name status) can counted = counted
counted_after clients users channels battles c last (LogIn name online_user) can counted = counted
counted_after clients users channels battles c last (Join channel name) can counted = counted
counted_after clients users channels battles c last (Leave channel name) can counted = counted
counted_after clients users channels battles c last (InBattles (Open number name battle)) can counted = can.2
counted_after clients users channels battles c last (InBattles (battle.Join number name)) can counted = counted
counted_after clients users channels battles c last (InBattles (battle.Ask number name script_password)) can counted = counted
counted_after clients users channels battles c last (InBattles (battle.LetIn number name)) can counted = counted
counted_after clients users channels battles c last (InBattles (battle.StopAsking number name)) can counted = counted
counted_after clients users channels battles c last (InBattles (battle.Leave number name)) can counted = counted
counted_after clients users channels battles c last (InBattles (Update number spectators locked map_hash map)) can counted = counted
counted_after clients users channels battles c last (InBattles (InRoom number change)) can counted = counted
counted_after clients users channels battles c last (LogOut name asks battle stays) can counted = counted
