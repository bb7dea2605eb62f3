-- What one who logs in is told, part by part.
use Rattle.std.proofs.Common.{◌≡◌, ◌∙◌, ◌++◌, ℕ, List, [], ◌∷◌, refl, ap, map}
use Rattle.std.specs.Prelude.{flat_map}
use Rattle.reply_kinds.specs.declared.Reply.{Reply}
use Rattle.reply_kinds.specs.declared.Reply.TheVariants as reply
use Rattle.line_words.specs.Table.{ByName, ByNumber}
use Rattle.lobby_model.specs.State.{State, User, Battle}
use Rattle.lobby_model.specs.Battles.{battle_lines}
use Rattle.lobby_model.specs.Outcome.{tell, issuer}
use Rattle.lobby_model.specs.Sessions.{added, shown_status, burst}
use Rattle.lobby_post.specs.Posted.{Posted, Told, addressed, blank, with_own}
use Rattle.lobby_post.proofs.Telling.{told_own_lines, with_own_more}
use Rattle.lobby_battles.specs.declared.burst_parts.Part.TheVariants.{Presence, Status}
use Rattle.lobby_battles.specs.BurstParts.{parts_of}

grown : (a b c : Posted) (xs ys : List Reply) → b ≡ with_own a xs → c ≡ with_own b ys → c ≡ with_own a (xs ++ ys)
grown a b c xs ys first second = second ∙ ap (λ p. with_own p ys) first ∙ with_own_more a xs ys

presence : (users : ByName User) → parts_of Presence users ≡ map (λ e. added e.0 e.1) users
presence [] = refl
presence (e ∷ users) = ap (λ ls. added e.0 e.1 ∷ ls) (presence users)

-- the batch begins, and grows line by line
pub burst_told : (s : State) (old p0 p1 p2 p3 p4 p5 p6 new : Posted) (motd : List (List ℕ)) (name : List ℕ) (users : ByName User) (battles : ByNumber Battle)
    → p0 ≡ blank old
    → p1 ≡ with_own p0 (reply.Accepted name ∷ []) → p2 ≡ with_own p1 (map (λ line. reply.Motd line) motd)
    → p3 ≡ with_own p2 (parts_of Presence users) → p4 ≡ with_own p3 (parts_of Status users)
    → p5 ≡ with_own p4 (flat_map (λ e. battle_lines e.0 e.1) battles) → p6 ≡ with_own p5 (reply.LoginInfoEnd ∷ [])
    → new ≡ addressed p6 (p6.issuer ∷ [])
    → Told s old new (tell issuer (burst motd name users battles) ∷ [])
burst_told s old p0 p1 p2 p3 p4 p5 p6 new motd name users battles begun accepted day there shown opened ended sent =
    let fought : List Reply = flat_map (λ e. battle_lines e.0 e.1) battles in
    let rest : List Reply = flat_map (λ e. shown_status e.0 e.1) users ++ (fought ++ reply.LoginInfoEnd ∷ []) in
    let lines : List Reply = reply.Accepted name ∷ (map (λ line. reply.Motd line) motd ++ (parts_of Presence users ++ rest)) in
    let all : p6 ≡ with_own p0 lines =
    grown p0 p1 p6 (reply.Accepted name ∷ []) (map (λ line. reply.Motd line) motd ++ (parts_of Presence users ++ rest)) accepted
    (grown p1 p2 p6 (map (λ line. reply.Motd line) motd) (parts_of Presence users ++ rest) day
    (grown p2 p3 p6 (parts_of Presence users) rest there
    (grown p3 p4 p6 (parts_of Status users) (fought ++ reply.LoginInfoEnd ∷ []) shown
    (grown p4 p5 p6 fought (reply.LoginInfoEnd ∷ []) opened ended)))) in
    told_own_lines s old p6 new (burst motd name users battles)
    (all ∙ (λ i. with_own (begun i) (reply.Accepted name ∷ (map (λ line. reply.Motd line) motd ++ (presence users i ++ rest))))) sent
