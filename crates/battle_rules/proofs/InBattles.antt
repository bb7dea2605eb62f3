-- What is told and done as users open, join and leave battles.
use Rattle.std.proofs.Common.{◌≡◌, ◌==◌, ℕ, ℤ, ◌+◌, ◌^◌, ◌<◌, ◌≤◌, suc, List, [], ◌∷◌, ◌++◌, length, take, map, filter, refl, sym, ap, subst, ◌∙◌, Bool, true, false, slice_index_or, add-one, append-nil, arith, append_assoc}
use Rattle.std.specs.Prelude.{Option, Some, None, is_some, not, ◌&&◌, if◌then◌else◌, decimal, nat_le}
use Rattle.std.specs.Global.{Box}
use Rattle.std.specs.Ordering.{nat_cmp, eq_by_cmp}
use Rattle.std.proofs.lemmas.List.{map-append}
use Rattle.std.proofs.lemmas.List.Elements.{filter-append}
use Rattle.std.proofs.Math.Seq.{take-suc}
use Rattle.reply_kinds.specs.declared.Reply.{Reply}
use Rattle.reply_kinds.specs.declared.Reply.TheVariants as reply
use Rattle.reply_kinds.specs.Replies.{print_all}
use Rattle.std.specs.List.{list_all}
use Rattle.std.proofs.lemmas.Bool.{and_from}
use Rattle.std.proofs.lemmas.Fmt.{digits_decimal}
use Rattle.line_words.specs.Bytes.{is_word, is_word_byte}
use Rattle.reply_kinds.proofs.Bytes.{all_append}
use Rattle.reply_kinds.proofs.Decimals.{own, digits_words}
use Rattle.line_words.specs.Table.{ByNumber, at_name, at_number, change_number, without_number, same_name, same_number}
use Rattle.room_lists.specs.Room.{Bot, asker_names, bots_of, has_member, member_names, status_of, with_member, without_member}
use Rattle.status_bits.specs.Fields.{merge}
use Rattle.status_bits.specs.BattleWord.{battle_table}
use Rattle.lobby_model.specs.State.{State, Battle, asked_by, battle_of, name_of}
use Rattle.lobby_model.specs.Texts.{already_asking, already_in_battle, battle_was_closed, no_number_left, not_in_battle, battle_is_locked, wrong_password}
use Rattle.lobby_model.specs.Outcome.{Letter, Outcome, Reader, Refused, message, done, everyone, lines_for, refuse_if, tell, user, users}
use Rattle.lobby_model.specs.Events.{reader_of, under}
use Rattle.lobby_model.specs.Battles.{asks_no_more, asks_to_join, change_room, closes, is_authorising, joining, joins_or_asks, leave_or_drop, member_leaves, join_battle, if_there, lets_in, in_battle, in_own, in_room, ip_text, is_founder, leaves_battle, leave_battle, member_has, open_battle, opened_line, opens, say_in_battle, set_own_status}
use Rattle.lobby_post.specs.Mail.{bytes_for}
use Rattle.lobby_post.specs.Posted.{Posted, Reaches, Told, blank, with_own}
use Rattle.lobby_post.proofs.Telling.{told_nothing, told_own, told_then}
use Rattle.battle_rules.specs.declared.battles.Leaving.{Leaving}
use Rattle.battle_rules.specs.declared.battles.Leaving.TheVariants.{Seen, Unseen}
use Rattle.lobby_battles.specs.declared.battles.BattleChange.TheVariants.{Open, Join, Ask, Leave}
use Rattle.lobby_maps.specs.declared.change.Change.{Change}
use Rattle.lobby_maps.specs.declared.change.Change.TheVariants.{Nothing, InBattles}
use Rattle.lobby_maps.specs.Fit.{IsOwn}
use Rattle.battle_rules.specs.Answers.{Obeyed}
use Rattle.battle_rules.proofs.Obeying.{found_passes}
use Rattle.lobby_battles.specs.Battles.{CanEnter, IsNew, left_at, room_changed}
use Rattle.battle_rules.specs.BattleTalk.{bots_gone, shown, shown_to, status_change, stops_asking}

-- one whose event it is gets its own lines
pub told_own_user : (s : State) (old mid new : Posted) (me : List ℕ) (lines : List Reply) → IsOwn s mid new me → mid ≡ with_own (blank old) lines
    → Told s old new (tell (user me) lines ∷ [])
told_own_user s old mid new me lines sent written =
    told_own s old mid new _ _ _ written lines (user me)
    (subst (λ c. Reaches s c (c ∷ []) (user me)) (ap (λ (p : Posted). p.issuer) written) sent.0) sent.1 refl

-- letters that give each client the same lines, and each reader
pub told_same : (s : State) (a b : Posted) (xs ys : List Letter)
    → ((d : ℕ) → lines_for (reader_of s a.issuer d) xs ≡ lines_for (reader_of s a.issuer d) ys) → Told s a b xs → Told s a b ys
told_same s a b xs ys same told = record {
  issuer = told.issuer;
  id = told.id;
  bytes = λ d. told.bytes d ∙ ap (λ ls. bytes_for a.sent d ++ print_all (under (if same_number d a.issuer then a.id else None) ls)) (same d);
}

pub told_alike : (s : State) (a b : Posted) (xs ys : List Letter) → ((reader : Reader) → lines_for reader xs ≡ lines_for reader ys)
    → Told s a b xs → Told s a b ys
told_alike s a b xs ys same = told_same s a b xs ys (λ d. same (reader_of s a.issuer d))

-- the bots of one who leaves, bot by bot
abbrev pub gone : Leaving → ℕ → List (List ℕ) → List Bot → List Letter
gone leaving number names bots = map (λ b. shown_to leaving (tell (users names) (reply.RemoveBot number b.name ∷ []))) bots

gone_one : (leaving : Leaving) (number : ℕ) (names : List (List ℕ)) (reader : Reader) (bots : List Bot) (after : List Letter)
    → lines_for reader (gone leaving number names bots ++ after)
    ≡ (if (shown_to leaving (tell (users names) [])).to reader then map (λ b. reply.RemoveBot number b.name) bots else []) ++ lines_for reader after
gone_one Seen number names reader [] after = elim (users names reader) as (λ b. lines_for reader after
    ≡ (if b then [] else []) ++ lines_for reader after) [ true ↦ refl | false ↦ refl ]
gone_one Unseen number names reader [] after = elim (not reader.mine && users names reader) as (λ b. lines_for reader after
    ≡ (if b then [] else []) ++ lines_for reader after) [ true ↦ refl | false ↦ refl ]
gone_one Seen number names reader (bot ∷ bots) after =
    ap (λ ls. (if users names reader then reply.RemoveBot number bot.name ∷ [] else []) ++ ls) (gone_one Seen number names reader bots after)
    ∙ elim (users names reader) as (λ b. (if b then reply.RemoveBot number bot.name ∷ [] else [])
    ++ ((if b then map (λ x. reply.RemoveBot number x.name) bots else []) ++ lines_for reader after)
    ≡ (if b then map (λ x. reply.RemoveBot number x.name) (bot ∷ bots) else []) ++ lines_for reader after) [ true ↦ refl | false ↦ refl ]
gone_one Unseen number names reader (bot ∷ bots) after =
    ap (λ ls. (if not reader.mine && users names reader then reply.RemoveBot number bot.name ∷ [] else []) ++ ls)
    (gone_one Unseen number names reader bots after)
    ∙ elim (not reader.mine && users names reader) as (λ b. (if b then reply.RemoveBot number bot.name ∷ [] else [])
    ++ ((if b then map (λ x. reply.RemoveBot number x.name) bots else []) ++ lines_for reader after)
    ≡ (if b then map (λ x. reply.RemoveBot number x.name) (bot ∷ bots) else []) ++ lines_for reader after) [ true ↦ refl | false ↦ refl ]

-- one who leaves a battle: it closes, or its bots go and it leaves
module _ (s : State) (old new : Posted) (number : ℕ) (name : List ℕ) (battle : Battle) where
  abbrev leaving_told : Leaving → Bool → List Letter
  leaving_told leaving founder = (shown leaving (if founder then closes number battle else member_leaves name number battle)).told

  pub closes_told : (leaving : Leaving) → is_founder name battle ≡ true
      → Told s old new (shown_to leaving (tell (users (asker_names battle.room)) (reply.JoinBattleFailed battle_was_closed ∷ []))
      ∷ shown_to leaving (tell everyone (reply.BattleClosed number ∷ [])) ∷ [])
      → Told s old new (shown leaving (leaves_battle name number battle)).told
  closes_told Seen founder told = subst (λ b. Told s old new (leaving_told Seen b)) (sym founder) told
  closes_told Unseen founder told = subst (λ b. Told s old new (leaving_told Unseen b)) (sym founder) told

  pub leaves_told : (mid : Posted) (leaving : Leaving) → is_founder name battle ≡ false → Told s old mid (bots_gone leaving number name battle.room)
      → Told s mid new (shown_to leaving (tell everyone (reply.LeftBattle number name ∷ [])) ∷ [])
      → Told s old new (shown leaving (leaves_battle name number battle)).told
  leaves_told mid Seen other bots left =
      subst (λ b. Told s old new (leaving_told Seen b)) (sym other)
      (told_alike s old new _ (leaving_told Seen false)
      (λ reader. gone_one Seen number (member_names battle.room) reader (bots_of name battle.room) _)
      (told_then s old mid new _ _ bots left))
  leaves_told mid Unseen other bots left =
      subst (λ b. Told s old new (leaving_told Unseen b)) (sym other)
      (told_alike s old new _ (leaving_told Unseen false)
      (λ reader. gone_one Unseen number (member_names battle.room) reader (bots_of name battle.room) _)
      (told_then s old mid new _ _ bots left))

-- a bot more: where its owner is the one who leaves, it is told that it goes
picked : (s : State) (mid new : Posted) (leaving : Leaving) (number : ℕ) (names : List (List ℕ)) (bot : Bot) (own : Bool)
    → Told s mid new (if own then gone leaving number names (bot ∷ []) else []) → Told s mid new (gone leaving number names (if own then bot ∷ [] else []))
picked s mid new leaving number names bot true told = told
picked s mid new leaving number names bot false told = told

pub bot_told : (s : State) (old mid new : Posted) (leaving : Leaving) (number : ℕ) (names : List (List ℕ)) (owner : List ℕ) (bots : List Bot) (i : ℕ)
    (default bot : Bot) → i < length bots → bot ≡ slice_index_or bots i default
    → Told s old mid (gone leaving number names (filter (λ b. same_name owner b.owner) (take i bots)))
    → Told s mid new (if same_name owner bot.owner then gone leaving number names (bot ∷ []) else [])
    → Told s old new (gone leaving number names (filter (λ b. same_name owner b.owner) (take (i + 1) bots)))
bot_told s old mid new leaving number names owner bots i default bot within is before told =
    let taken : take (i + 1) bots ≡ take i bots ++ bot ∷ [] = rw (add-one, is) (take-suc bots i default within) in
    subst (λ ls. Told s old new ls)
    (sym (map-append _ (filter (λ b. same_name owner b.owner) (take i bots)) (filter (λ b. same_name owner b.owner) (bot ∷ [])))
    ∙ ap (λ bs. gone leaving number names bs) (sym (filter-append (λ b. same_name owner b.owner) (take i bots) (bot ∷ []))
    ∙ ap (filter (λ b. same_name owner b.owner)) (sym taken)))
    (told_then s old mid new _ _ before (picked s mid new leaving number names bot (same_name owner bot.owner) told))

-- a battle that one is in
pub is_member : (s : State) (me : List ℕ) (number : ℕ) (battle : Battle) → battle_of s me ≡ Some (number, battle) → has_member me battle.room ≡ true
is_member s me number battle own = found_passes (λ e. has_member me e.1.room) s.battles (number, battle) own

module _ (s : State) (c : ℕ) (old new : Posted) (me : List ℕ) (number : ℕ) (battle : Battle) (own : battle_of s me ≡ Some (number, battle)) where
  pub in_battle_so : (change : Change) (rest : ℕ → Battle → Outcome) → Obeyed s c old new change (rest number battle)
      → Obeyed s c old new change (in_battle s me rest)
  in_battle_so change rest obeyed = subst (λ o. Obeyed s c old new change (in_own o rest)) (sym own) obeyed

-- a change that changes nothing
pub change_same : {X : Type 0} (f : X → X) → ((x : X) → f x ≡ x) → (m : ByNumber X) (k : ℕ) → change_number m k f ≡ m
change_same f same [] k = refl
change_same f same (e ∷ m) k =
    (λ i. (e.0, elim (eq_by_cmp nat_cmp k e.0) as (λ b. (if b then f e.1 else e.1) ≡ e.1) [ true ↦ same e.1 | false ↦ refl ] i)
    ∷ change_same f same m k i)

-- what is told once all tests were passed
-- one who is in no battle, and asks to join none
can_enter : (s : State) (c : ℕ) (me name : List ℕ) → name ≡ me → name_of s c ≡ Some me → battle_of s me ≡ None → asked_by s me ≡ None
    → CanEnter s.clients s.battles c name
can_enter s c me name named mine free unasked = record {
  user = mine ∙ ap (λ n. Some n) (sym named);
  free = ap (battle_of s) named ∙ free;
  unasked = ap (asked_by s) named ∙ unasked;
}

-- one who opens a battle
pub opened_so : (s : State) (c : ℕ) (old new : Posted) (me : List ℕ) (number : ℕ) (name : List ℕ) (boxed : Box Battle) (outcome : Outcome)
    → outcome ≡ open_battle s me boxed.value → battle_of s me ≡ None → asked_by s me ≡ None → (s.last_battle == 2147483647) ≡ false → number ≡ s.last_battle + 1
    → number ≤ 2147483647 → name ≡ me → name_of s c ≡ Some me → IsNew boxed.value me
    → Told s old new (tell everyone (opened_line number boxed.value.info ∷ []) ∷ tell (user me) (reply.OpenBattle number ∷ reply.RequestBattleStatus ∷ []) ∷ [])
    → Obeyed s c old new (InBattles (Open number name boxed)) outcome
opened_so s c old new me number name boxed outcome is free unasked left numbered small named mine alone told =
    let comes : outcome ≡ done (opens name number boxed.value) =
    is
    ∙ (λ i. refuse_if (is_some (free i)) (reply.OpenBattleFailed already_in_battle) (refuse_if (is_some (unasked i)) (reply.OpenBattleFailed already_asking)
    (refuse_if (left i) (reply.OpenBattleFailed no_number_left) (done (opens me (s.last_battle + 1) boxed.value)))))
    ∙ (λ i. done (opens (sym named i) (sym numbered i) boxed.value)) in
    subst (λ o. Obeyed s c old new (InBattles (Open number name boxed)) o) (sym comes) (record {
      told = subst (λ n. Told s old new (opens n number boxed.value).told) (sym named) told;
      effect = refl;
      can_be = (
        can_enter s c me name named mine free unasked,
        subst (λ n. IsNew boxed.value n) (sym named) alone,
        small,
      );
    })

-- one who joins a battle, or asks to, once all tests were passed
module _ (s : State) (c : ℕ) (old new : Posted) (me ip : List ℕ) (number : ℕ) (battle : Battle) (password script_password : Option (List ℕ))
    (free : battle_of s me ≡ None) (unasked : asked_by s me ≡ None) (there : at_number s.battles number ≡ Some battle)
    (unlocked : battle.info.locked ≡ false) (fits : lets_in battle.password password ≡ true) (mine : name_of s c ≡ Some me) where
  comes_to : (asks : Bool) → is_authorising (at_name s.users battle.info.founder) ≡ asks
      → join_battle s me ip number password script_password ≡ done (joins_or_asks asks me number battle script_password ip)
  comes_to asks is =
      let happens : Bool → Battle → Outcome = λ b x. done (joins_or_asks b me number x script_password ip) in
      (λ i. refuse_if (is_some (free i)) (reply.JoinBattleFailed already_in_battle)
      (refuse_if (is_some (unasked i)) (reply.JoinBattleFailed already_asking)
      (if_there (there i) (λ battle.
      refuse_if battle.info.locked (reply.JoinBattleFailed battle_is_locked) (
      refuse_if (not (lets_in battle.password password)) (reply.JoinBattleFailed wrong_password)
      (happens (is_authorising (at_name s.users battle.info.founder)) battle))))))
      ∙ (λ i. refuse_if (unlocked i) (reply.JoinBattleFailed battle_is_locked) (
      refuse_if (not (fits i)) (reply.JoinBattleFailed wrong_password) (happens (is i) battle)))

  pub joined_so : (name : List ℕ) → is_authorising (at_name s.users battle.info.founder) ≡ false → name ≡ me
      → Told s old new (joining me number battle script_password)
      → Obeyed s c old new (InBattles (Join number name)) (join_battle s me ip number password script_password)
  joined_so name at_once named told =
      subst (λ o. Obeyed s c old new (InBattles (Join number name)) o) (sym (comes_to false at_once)) (record {
        told = told;
        effect = λ i. change_room s number (with_member (sym named i));
        can_be = can_enter s c me name named mine free unasked;
      })

  pub asked_so : (change : Change) → is_authorising (at_name s.users battle.info.founder) ≡ true
      → change ≡ InBattles (Ask number me script_password) → Told s old new (asks_to_join me number battle script_password ip).told
      → Obeyed s c old new change (join_battle s me ip number password script_password)
  asked_so change asks is told =
      subst (λ o. Obeyed s c old new change o) (sym (comes_to true asks))
      (subst (λ x. Obeyed s c old new x (done (asks_to_join me number battle script_password ip))) (sym is) (record {
        told = told;
        effect = refl;
        can_be = can_enter s c me me refl mine free unasked;
      }))

-- what a battle's closing, or a member's leaving, makes of the battles
pub leaves_effect : (t : State) (me : List ℕ) (number : ℕ) (battle : Battle)
    → (leaves_battle me number battle).after t ≡ record t { battles = left_at t.battles number me (Some battle) }
leaves_effect t me number battle =
    elim (is_founder me battle) as (λ b. (if b then closes number battle else member_leaves me number battle).after t
    ≡ record t { battles = if b then without_number t.battles number else change_number t.battles number (room_changed (without_member me)) }) [
      | true ↦ refl
      | false ↦ refl
    ]

-- one who leaves its battle, or asks no more to join one
pub left_so : (s : State) (c : ℕ) (old new : Posted) (me : List ℕ) (number : ℕ) (name : List ℕ) (battle : Battle)
    → asked_by s me ≡ None → battle_of s me ≡ Some (number, battle) → at_number s.battles number ≡ Some battle → name ≡ me
    → Told s old new (leaves_battle me number battle).told
    → Obeyed s c old new (InBattles (Leave number name)) (leave_battle s me)
left_so s c old new me number name battle unasked own there named told =
    subst (λ o. Obeyed s c old new (InBattles (Leave number name)) (leave_or_drop s me o)) (sym unasked)
    (in_battle_so s c old new me number battle own (InBattles (Leave number name)) (λ id battle. done (leaves_battle me id battle)) (record {
      told = subst (λ ls. Told s old new ls) (sym (append-nil (leaves_battle me number battle).told)) told;
      effect = leaves_effect s me number battle
          ∙ (λ i. record s { battles = left_at s.battles number (sym named i) (sym there i) });
      can_be = tt;
    }))

pub not_in_one : (s : State) (me : List ℕ) → asked_by s me ≡ None → battle_of s me ≡ None → leave_battle s me ≡ Refused (message not_in_battle)
not_in_one s me unasked none =
    (λ i. leave_or_drop s me (unasked i)) ∙ (λ i. in_own (none i) (λ id battle. done (leaves_battle me id battle)))

pub dropped_so : (s : State) (c : ℕ) (post : Posted) (me : List ℕ) (number : ℕ) (battle : Battle) (change : Change)
    → asked_by s me ≡ Some (number, battle) → change ≡ stops_asking number me → Obeyed s c post post change (leave_battle s me)
dropped_so s c post me number battle change asks is =
    subst (λ o. Obeyed s c post post change (leave_or_drop s me o)) (sym asks)
    (subst (λ x. Obeyed s c post post x (done (asks_no_more me number))) (sym is)
    (record { told = told_nothing s post; effect = refl; can_be = tt }))

-- one who says something in its battle
pub said_so : (s : State) (c : ℕ) (old new : Posted) (me : List ℕ) (number : ℕ) (battle : Battle) (line : Reply)
    → battle_of s me ≡ Some (number, battle) → Told s old new (tell (users (member_names battle.room)) (line ∷ []) ∷ [])
    → Obeyed s c old new Nothing (say_in_battle s me line)
said_so s c old new me number battle line own told =
    in_battle_so s c old new me number battle own Nothing (λ id battle. done (in_room id battle (λ room. room) line)) (record {
      told = told;
      effect = λ i. record s { battles = change_same (λ battle. record battle { room = battle.room }) (λ battle. refl) s.battles number i };
      can_be = tt;
    })

-- one who has a status of its own in its battle
pub has_so : (s : State) (c : ℕ) (old new : Posted) (me : List ℕ) (number : ℕ) (battle : Battle) (asked status : ℕ) (colour : ℤ) (change : Change)
    → battle_of s me ≡ Some (number, battle) → status ≡ merge battle_table (status_of me battle.room) asked
    → change ≡ status_change number me status colour → Told s old new (member_has me status colour number battle).told
    → Obeyed s c old new change (set_own_status s me asked colour)
has_so s c old new me number battle asked status colour change own merged is told =
    in_battle_so s c old new me number battle own change
    (λ id battle. done (member_has me (merge battle_table (status_of me battle.room) asked) colour id battle))
    (subst (λ w. Obeyed s c old new change (done (member_has me w colour number battle))) merged
    (subst (λ x. Obeyed s c old new x (done (member_has me status colour number battle))) (sym is) (record {
      told = told;
      effect = refl;
      can_be = tt;
    })))

-- four numbers with dots are a word
dot_then : (n : ℕ) (rest : List ℕ) → n < 2 ^ 8 → list_all is_word_byte rest ≡ true → list_all is_word_byte (decimal n ++ 46 ∷ rest) ≡ true
dot_then n rest small word = all_append is_word_byte (decimal n) (46 ∷ rest) (digits_words (decimal n) (digits_decimal own n (omega arith))) word

one_more : (n : ℕ) → nat_le 1 (suc n) ≡ true
one_more n = grind (arith)

long : (xs ys : List ℕ) → nat_le 1 (length (xs ++ 46 ∷ ys)) ≡ true
long [] ys = one_more (length ys)
long (x ∷ xs) ys = one_more (length (xs ++ 46 ∷ ys))

-- and they are put one behind another
pub dots_put : (a b c d : ℕ) (none one two three four : List ℕ) → none ≡ [] → one ≡ none ++ decimal a → two ≡ one ++ 46 ∷ decimal b
    → three ≡ two ++ 46 ∷ decimal c → four ≡ three ++ 46 ∷ decimal d → four ≡ ip_text (a ∷ b ∷ c ∷ d ∷ [])
dots_put a b c d none one two three four begun first second third fourth =
    fourth
    ∙ ap (λ t. t ++ 46 ∷ decimal d) (third ∙ ap (λ t. t ++ 46 ∷ decimal c) (second ∙ ap (λ t. t ++ 46 ∷ decimal b) (first ∙ ap (λ t. t ++ decimal a) begun)))
    ∙ append_assoc (decimal a ++ 46 ∷ decimal b) (46 ∷ decimal c) (46 ∷ decimal d)
    ∙ append_assoc (decimal a) (46 ∷ decimal b) (46 ∷ decimal c ++ 46 ∷ decimal d)

pub dotted_is_word : (a b c d : ℕ) → a < 2 ^ 8 → b < 2 ^ 8 → c < 2 ^ 8 → d < 2 ^ 8 → is_word (ip_text (a ∷ b ∷ c ∷ d ∷ [])) ≡ true
dotted_is_word a b c d small_a small_b small_c small_d =
    and_from _ _ (long (decimal a) (ip_text (b ∷ c ∷ d ∷ [])))
    (dot_then a (ip_text (b ∷ c ∷ d ∷ [])) small_a (dot_then b (ip_text (c ∷ d ∷ [])) small_b (dot_then c (decimal d) small_c
    (digits_words (decimal d) (digits_decimal own d (omega arith))))))
