-- What a log out tells and changes, by the definitions.
use Rattle.std.proofs.Common.{◌≡◌, ℕ, Bool, true, false, List, [], ◌∷◌, ◌++◌, map, refl, sym, ap, subst, ◌∙◌, append-nil}
use Rattle.std.specs.Prelude.{Option, Some, None, IfSome, flat_map, if◌then◌else◌}
use Rattle.std.specs.Option.{option_map}
use Rattle.std.specs.Ordering.{nat_cmp}
use Rattle.std.specs.FinMap.{nat_cmp-IsAntisymmetric}
use Rattle.line_words.specs.Table.{ByNumber, at_number, same_number}
use Rattle.line_words.proofs.Tables.{at-change}
use Rattle.room_lists.specs.Room.{has_asker, has_member, without_asker}
use Rattle.channel_book.specs.Channels.{Channels, channels_of, all_left}
use Rattle.reply_kinds.specs.declared.Reply.TheVariants as reply
use Rattle.lobby_model.specs.State.{State, Battle, asked_by, battle_of, name_of}
use Rattle.lobby_model.specs.Outcome.{Happening, Letter, Done, state_after, tell, others, users}
use Rattle.lobby_model.specs.Sessions.{departs, is_gone, to_others, unseen}
use Rattle.lobby_model.specs.Channels.{leaves_all}
use Rattle.lobby_model.specs.Battles.{drops_own, leaves_battle, leaves_own}
use Rattle.lobby_post.specs.Mail.{parted}
use Rattle.lobby_post.specs.Posted.{Posted, Told, but_issuer}
use Rattle.lobby_post.proofs.Telling.{told_nothing, told_then}
use Rattle.lobby_maps.specs.declared.change.Change.TheVariants.{LogOut}
use Rattle.battle_rules.specs.Answers.{Obeyed}
use Rattle.lobby_battles.specs.Battles.{IsOnly, left_at, left_battle, room_changed, unasked, left_own, unasked_own}
use Rattle.lobby_maps.specs.Changes.{first_of, parts}
use Rattle.battle_rules.specs.BattleTalk.{left_battle_letters}
use Rattle.lobby_battles.specs.OnlineUsers.{without_one}
use Rattle.lobby_machine.specs.Talk.{left_letters}
use Rattle.battle_rules.proofs.InBattles.{leaves_effect}

-- what the others are told of one who logs out
abbrev pub gone : List ℕ → Channels → Option (ℕ × Battle) → List Letter
gone me channels own = left_letters me channels ++ (left_battle_letters me own ++ tell others (reply.RemoveUser me ∷ []) ∷ [])

unseen_left : (me : List ℕ) (cs : Channels)
    → map to_others (map (λ e. tell (users e.1) (reply.Left e.0 me ∷ [])) cs) ≡ map (λ e. tell (but_issuer (users e.1)) (reply.Left e.0 me ∷ [])) cs
unseen_left me [] = refl
unseen_left me (e ∷ cs) = ap (λ ls. tell (but_issuer (users e.1)) (reply.Left e.0 me ∷ []) ∷ ls) (unseen_left me cs)

-- where nobody is logged in
pub nobody_departs : (s : State) (c : ℕ) (stays : Bool) (post : Posted) → None ≡ name_of s c
    → Obeyed s c post post (LogOut None None None stays) (departs s None (parts c stays))
nobody_departs s c true post nobody = record { told = told_nothing s post; effect = refl; can_be = (nobody, tt) }
nobody_departs s c false post nobody = record { told = told_nothing s post; effect = refl; can_be = (nobody, tt) }

-- it is the founder who closes a battle, also where one who asked there stopped
left_as : (me : List ℕ) (asks : Option ℕ) (m : ByNumber Battle) (n : ℕ) (x : Battle) → at_number m n ≡ Some x
    → left_at (unasked_own (Some me) asks m) n me (Some x) ≡ left_battle n me (unasked_own (Some me) asks m)
left_as me None m n x there = ap (left_at m n me) (sym there)
left_as me (Some k) m n x there =
    elim (same_number k n) as (λ b. left_at (unasked k me m) n me (Some x)
    ≡ left_at (unasked k me m) n me (Some (if b then room_changed (without_asker me) x else x))) [ true ↦ refl | false ↦ refl ]
    ∙ ap (left_at (unasked k me m) n me) (sym (at-change nat_cmp nat_cmp-IsAntisymmetric (room_changed (without_asker me)) m k n
    ∙ ap (option_map (λ y. if same_number k n then room_changed (without_asker me) y else y)) there))

-- the number of the battle that one asks to join
asked_where : (s : State) (me : List ℕ) (asks : Option ℕ) → IfSome asks (λ number. (b : Battle) × (asked_by s me ≡ Some (number, b)))
    → (asks ≡ None → asked_by s me ≡ None) → first_of (asked_by s me) ≡ asks
asked_where s me None some none = ap first_of (none refl)
asked_where s me (Some number) some none = ap first_of some.1

module _ (s : State) (c : ℕ) (me : List ℕ) where
  -- all that happens before the client ends, from the leaving of the battle on
  abbrev after : Option (ℕ × Battle) → List Happening
  after own = leaves_own me own ++ is_gone me ∷ []

  abbrev before : Option (ℕ × Battle) → Option (ℕ × Battle) → List Happening
  before asks own = map unseen (leaves_all me s ∷ (drops_own me asks ++ after own))

  -- nobody is told that one asks no more
  no_word : (asks own : Option (ℕ × Battle)) (stays : Bool)
      → flat_map (λ h. h.told) (before asks own ++ parts c stays ∷ []) ≡ flat_map (λ h. h.told) (before None own ++ parts c stays ∷ [])
  no_word None own stays = refl
  no_word (Some e) own stays = refl

  letters : (own : Option (ℕ × Battle)) (stays : Bool) → flat_map (λ h. h.told) (before None own ++ parts c stays ∷ []) ≡ gone me s.channels own
  letters None true = ap (λ ls. ls ++ gone me [] None) (unseen_left me (channels_of me s.channels))
  letters None false = ap (λ ls. ls ++ gone me [] None) (unseen_left me (channels_of me s.channels))
  letters (Some e) true =
      (λ i. unseen_left me (channels_of me s.channels) i
      ++ (sym (append-nil (unseen (leaves_battle me e.0 e.1)).told) i ++ tell others (reply.RemoveUser me ∷ []) ∷ []))
  letters (Some e) false =
      (λ i. unseen_left me (channels_of me s.channels) i
      ++ (sym (append-nil (unseen (leaves_battle me e.0 e.1)).told) i ++ tell others (reply.RemoveUser me ∷ []) ∷ []))

  -- without what it asked, with its battle left, and with the rest that is changed
  abbrev unasking : Option ℕ → State
  unasking asks = record s { channels = all_left me s.channels; battles = unasked_own (Some me) asks s.battles }

  abbrev all_but_battles : State → Bool → State
  all_but_battles t stays = record t { clients = parted t.clients c stays; users = without_one me t.users }

  dropped : (asks own : Option (ℕ × Battle)) (stays : Bool)
      → state_after s (Done (before asks own ++ parts c stays ∷ []))
      ≡ state_after (unasking (first_of asks)) (Done (map unseen (after own) ++ parts c stays ∷ []))
  dropped None own stays = refl
  dropped (Some e) own stays = refl

  effect : (asks : Option ℕ) (own : Option (ℕ × Battle)) (stays : Bool)
      → ((e : ℕ × Battle) → own ≡ Some e → at_number s.battles e.0 ≡ Some e.1)
      → state_after (unasking asks) (Done (map unseen (after own) ++ parts c stays ∷ []))
      ≡ all_but_battles (record s {
        channels = all_left me s.channels;
        battles = left_own (Some me) (first_of own) (unasked_own (Some me) asks s.battles);
      }) stays
  effect asks None true there = refl
  effect asks None false there = refl
  effect asks (Some e) true there =
      ap (λ t. all_but_battles t true) (leaves_effect (unasking asks) me e.0 e.1
      ∙ ap (λ (m : ByNumber Battle). record s { channels = all_left me s.channels; battles = m }) (left_as me asks s.battles e.0 e.1 (there e refl)))
  effect asks (Some e) false there =
      ap (λ t. all_but_battles t false) (leaves_effect (unasking asks) me e.0 e.1
      ∙ ap (λ (m : ByNumber Battle). record s { channels = all_left me s.channels; battles = m }) (left_as me asks s.battles e.0 e.1 (there e refl)))

  pub user_departs : (stays : Bool) (old a b new : Posted) (name : List ℕ) (asks battle : Option ℕ) → Some me ≡ name_of s c → name ≡ me
      → IfSome asks (λ number. (b : Battle) × (asked_by s me ≡ Some (number, b))) → (asks ≡ None → asked_by s me ≡ None)
      → IsOnly (has_asker me) s.battles asks
      → battle ≡ first_of (battle_of s me) → IsOnly (has_member me) s.battles battle
      → ((e : ℕ × Battle) → battle_of s me ≡ Some e → at_number s.battles e.0 ≡ Some e.1)
      → Told s old a (left_letters me s.channels) → Told s a b (left_battle_letters me (battle_of s me))
      → Told s b new (tell others (reply.RemoveUser me ∷ []) ∷ [])
      → Obeyed s c old new (LogOut (Some name) asks battle stays) (departs s (Some me) (parts c stays))
  user_departs stays old a b new name asks battle mine named some none asks_only is only there first second third =
      subst (λ (n : List ℕ). Obeyed s c old new (LogOut (Some n) asks battle stays) (departs s (Some me) (parts c stays))) (sym named) (record {
        told = subst (λ (ls : List Letter). Told s old new ls) (sym (no_word (asked_by s me) (battle_of s me) stays ∙ letters (battle_of s me) stays))
            (told_then s old a new _ _ first (told_then s a b new _ _ second third));
        effect = dropped (asked_by s me) (battle_of s me) stays ∙ effect (first_of (asked_by s me)) (battle_of s me) stays there
            ∙ (λ i. record s {
              clients = parted s.clients c stays;
              users = without_one me s.users;
              channels = all_left me s.channels;
              battles = left_own (Some me) (sym is i) (unasked_own (Some me) (asked_where s me asks some none i) s.battles);
            });
        can_be = (mine, (asks_only, only));
      })
