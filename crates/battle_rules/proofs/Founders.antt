-- What a founder does with those who ask to join its battle.
use Rattle.std.proofs.Common.{◌≡◌, ℕ, List, [], ◌∷◌, refl, sym, ap, subst, ◌∙◌, true, false, not}
use Rattle.std.specs.Prelude.{Option, Some}
use Rattle.reply_kinds.specs.declared.Reply.TheVariants as reply
use Rattle.line_words.specs.Table.{at_number, same_name}
use Rattle.room_lists.specs.Room.{Asker, Room, asker_of, has_asker, has_member}
use Rattle.lobby_model.specs.State.{State, Battle, battle_of}
use Rattle.lobby_model.specs.Texts.{not_the_founder}
use Rattle.lobby_model.specs.Outcome.{Happening, Outcome, done, tell, user, refuse_if, message}
use Rattle.lobby_model.specs.Battles.{accept, change_room, deny, if_asks, is_founder, in_own, as_founder, joining, let_into, reason_or_default, turned_away, with_asker_of}
use Rattle.line_words.proofs.Once.{contradiction}
use Rattle.line_words.proofs.Tables.{same_name_is}
use Rattle.lobby_post.specs.Posted.{Posted, Told}
use Rattle.lobby_battles.specs.declared.battles.BattleChange.TheVariants.{LetIn}
use Rattle.lobby_maps.specs.declared.change.Change.{Change}
use Rattle.lobby_maps.specs.declared.change.Change.TheVariants.{InBattles}
use Rattle.lobby_battles.specs.Battles.{AskOutside, asks_at, let_in}
use Rattle.battle_rules.specs.BattleTalk.{stops_asking}
use Rattle.battle_rules.specs.Answers.{Obeyed}

module _ (s : State) (me : List ℕ) (number : ℕ) (battle : Battle) (own : battle_of s me ≡ Some (number, battle))
    (founded : is_founder me battle ≡ true) where
  pub founder_is : (rest : ℕ → Battle → Outcome) → as_founder s me rest ≡ rest number battle
  founder_is rest =
      ap (λ o. in_own o (λ id b. refuse_if (not (is_founder me b)) (message not_the_founder) (rest id b))) own
      ∙ ap (λ b. refuse_if (not b) (message not_the_founder) (rest number battle)) founded

  -- one who asks to join its battle
  module _ (c : ℕ) (old new : Posted) (name : List ℕ) (asker : Asker) (found : asker_of name battle.room ≡ Some asker) where
    asker_is : (rest : Asker → ℕ → Battle → Happening) → with_asker_of s me name rest ≡ done (rest asker number battle)
    asker_is rest =
        founder_is (λ id b. if_asks (asker_of name b.room) (λ a. done (rest a id b)))
        ∙ ap (λ o. if_asks o (λ a. done (rest a number battle))) found

    pub accepted_so : (copy : List ℕ) (script_password : Option (List ℕ)) → asker.name ≡ name → at_number s.battles number ≡ Some battle
        → has_asker name battle.room ≡ true → script_password ≡ asker.script_password → copy ≡ name
        → Told s old new (joining name number battle script_password) → Obeyed s c old new (InBattles (LetIn number copy)) (accept s me name)
    accepted_so copy script_password named in_place asks same copied told =
        subst (λ o. Obeyed s c old new (InBattles (LetIn number copy)) o) (sym (asker_is let_into)) (record {
          told = subst (λ n. Told s old new (joining n number battle asker.script_password)) (sym named)
              (subst (λ w. Told s old new (joining name number battle w)) same told);
          effect = λ i. change_room s number (let_in ((named ∙ sym copied) i));
          can_be = ap (λ o. asks_at o copy) in_place ∙ ap (λ n. has_asker n battle.room) copied ∙ asks;
        })

    pub denied_so : (reason : Option (List ℕ)) (words : List ℕ) (change : Change) → words ≡ reason_or_default reason → change ≡ stops_asking number name
        → Told s old new (tell (user name) (reply.JoinBattleFailed words ∷ []) ∷ []) → Obeyed s c old new change (deny s me name reason)
    denied_so reason words change said is told =
        subst (λ o. Obeyed s c old new change o) (sym (asker_is (λ a id b. turned_away name (reason_or_default reason) id)))
        (subst (λ x. Obeyed s c old new x (done (turned_away name (reason_or_default reason) number))) (sym is) (record {
          told = subst (λ w. Told s old new (tell (user name) (reply.JoinBattleFailed w ∷ []) ∷ [])) said told;
          effect = refl;
          can_be = tt;
        }))

-- one who asks to join a battle is none of its members
pub other_than : (name me : List ℕ) (room : Room) → AskOutside room → has_asker name room ≡ true → has_member me room ≡ true
    → same_name name me ≡ false
other_than name me room outside asks is_in =
    elim (same_name name me) as (λ t. same_name name me ≡ t → t ≡ false) [
      | true ↦ λ t. contradiction (has_member name room) (ap (λ n. has_member n room) (same_name_is name me t) ∙ is_in) (outside name asks)
      | false ↦ λ t. refl
    ] refl
