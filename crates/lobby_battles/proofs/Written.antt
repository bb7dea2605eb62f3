-- Lines written behind others for one who joins a battle.
use Rattle.std.proofs.Common.{◌≡◌, ℕ, List, [], ◌∷◌, ◌++◌, map, sym, ap, ◌∙◌, append-nil}
use Rattle.std.specs.Prelude.{None}
use Rattle.reply_kinds.specs.declared.Reply.{Reply}
use Rattle.reply_kinds.specs.declared.Reply.TheVariants as reply
use Rattle.room_lists.specs.Room.{Room}
use Rattle.lobby_model.specs.Battles.{bot_line, rect_line, room_lines, status_line}
use Rattle.lobby_post.specs.Posted.{Posted, with_own}
use Rattle.lobby_post.proofs.Telling.{with_own_more}
use Rattle.lobby_battles.specs.declared.room_lines.Recipient.{Recipient}
use Rattle.lobby_battles.specs.declared.room_lines.Recipient.TheVariants.{Issuer, Other}
use Rattle.lobby_battles.specs.Recipients.{written}
use Rattle.lobby_battles.proofs.RoomLines.{put_then}

pub written_more : (r : Recipient) (p : Posted) (xs ys : List Reply) → written r (written r p xs) ys ≡ written r p (xs ++ ys)
written_more Issuer p xs ys = with_own_more p xs ys
written_more Other p xs ys =
    -- as one's own lines without an id grow
    let more : with_own (with_own (record p { id = None }) xs) ys ≡ with_own (record p { id = None }) (xs ++ ys) = with_own_more (record p { id = None }) xs ys in
    λ i. record p { text = (ap (λ (q : Posted). q.text) more) i; own = []; shared = (ap (λ (q : Posted). q.shared) more) i }

pub written_then : (r : Recipient) (a b c : Posted) (xs ys : List Reply) → b ≡ written r a xs → c ≡ written r b ys → c ≡ written r a (xs ++ ys)
written_then r = put_then (written r) (written_more r)

-- behind a line, no line more changes nothing
pub settled : (r : Recipient) (p q : Posted) (xs : List Reply) → q ≡ written r p xs → written r q [] ≡ q
settled r p q xs is = ap (λ x. written r x []) is ∙ written_more r p xs [] ∙ ap (written r p) (append-nil xs) ∙ sym is

pub room_written : (recipient : Recipient) (number : ℕ) (room : Room) (a b c d e f : Posted) → b ≡ written recipient a (map status_line room.members)
    → c ≡ written recipient b (map (bot_line number) room.bots) → d ≡ written recipient c (map (λ r. rect_line r.0 r.1) room.rects)
    → e ≡ written recipient d (map (λ t. reply.SetScriptTags (t ∷ [])) room.tags)
    → f ≡ written recipient e (map (λ unit. reply.DisableUnits (unit ∷ [])) room.units) → f ≡ written recipient a (room_lines number room)
room_written recipient number room a b c d e f statuses bots rects tags units =
    written_then recipient a b f _ _ statuses (written_then recipient b c f _ _ bots (written_then recipient c d f _ _ rects
    (written_then recipient d e f _ _ tags units)))
