-- Battles keep the kinds of their replies, and what happens in them tells clean lines.
use Rattle.std.proofs.Common.{◌≡◌, ℕ, ◌≤◌, ◌+◌, ℤ, List, [], ◌∷◌, ◌++◌, refl, true, false, not, length, arith, length-append}
use Rattle.std.specs.Prelude.{Option, None, if◌then◌else◌, ◌&&◌}
use Rattle.std.specs.Ordering.{nat_cmp}
use Rattle.std.specs.FinMap.{nat_cmp-IsAntisymmetric}
use Rattle.reply_kinds.specs.declared.Reply.TheVariants as reply
use Rattle.reply_kinds.specs.Kinds.{Number, fits, pairs_text, optional_text}
use Rattle.reply_kinds.specs.Replies.{status_word, port_number, battle_number, ally_number, side_number}
use Rattle.line_words.specs.Bytes.{is_word, is_sentence}
use Rattle.line_words.specs.Kinds.{is_wide, is_pair, is_some_word}
use Rattle.line_words.specs.declared.lists.Pair.{Pair}
use Rattle.line_words.specs.Table.{ByNumber, same_name, is_among, all_but}
use Rattle.room_lists.specs.Tags.{with_tag, with_tags, without_tag, without_tags}
use Rattle.room_lists.specs.Units.{with_unit, with_units, without_units}
use Rattle.room_lists.specs.Room.{Room, Member, Bot, Rect, Asker, member_names, member_with, bot_with, new_member, with_member, without_member, with_status, with_bot, with_bot_status, without_bot, with_rect, without_rect, set_tags, remove_tags, bots_of, disable_units, enable_units, enable_all, with_asker, without_asker}
use Rattle.lobby_model.specs.State.{Info, Battle}
use Rattle.lobby_model.specs.Battles.{opened_line, updated_line, status_line, bot_line, rect_line, room_lines, battle_lines, joining, member_leaves}
use Rattle.lobby_view.proofs.Everywhere.{Each, each_put, each_filter, each_append, each_changed, each_map}
use Rattle.lobby_view.proofs.Clean.{Clean, CleanLetters}
use Rattle.lobby_view.proofs.KindsOfUsers.{IsName}

pub record InfoKinds (info : Info) : Type 0 where
  pub battle_type : fits (Number 0 1) info.battle_type ≡ true
  pub nat_type : fits (Number 0 2) info.nat_type ≡ true
  pub founder : IsName info.founder
  pub ip : is_word info.ip ≡ true
  pub ip_short : length info.ip ≤ 100
  pub port : fits port_number info.port ≡ true
  pub max_players : fits port_number info.max_players ≡ true
  pub rank : is_wide info.rank ≡ true
  pub map_hash : is_wide info.map_hash ≡ true
  pub engine_name : is_sentence info.engine_name ≡ true
  pub engine_version : is_sentence info.engine_version ≡ true
  pub map : is_sentence info.map ≡ true
  pub title : is_sentence info.title ≡ true
  pub game_name : is_sentence info.game_name ≡ true
  -- all but the map stands as it was opened with, by one line; the map may come from another line
  pub short : length info.engine_name + length info.engine_version + length info.title + length info.game_name ≤ 8192
  pub map_short : length info.map ≤ 8192
  pub spectators : fits port_number info.spectators ≡ true

pub record MemberKinds (m : Member) : Type 0 where
  pub name : IsName m.name
  pub status : fits status_word m.status ≡ true
  pub colour : is_wide m.colour ≡ true

pub record BotKinds (b : Bot) : Type 0 where
  pub name : is_word b.name ≡ true
  pub owner : IsName b.owner
  pub status : fits status_word b.status ≡ true
  pub colour : is_wide b.colour ≡ true
  pub ai : is_sentence b.ai ≡ true
  pub short : length b.name + length b.ai ≤ 8192

-- a start rectangle with its number
pub record RectKinds (e : ℕ × Rect) : Type 0 where
  pub ally : fits ally_number e.0 ≡ true
  pub left : fits side_number e.1.left ≡ true
  pub top : fits side_number e.1.top ≡ true
  pub right : fits side_number e.1.right ≡ true
  pub bottom : fits side_number e.1.bottom ≡ true

pub record TagKinds (t : Pair) : Type 0 where
  pub pair : is_pair t ≡ true
  pub short : length (pairs_text 32 (t ∷ [])) ≤ 8200

-- a unit, which stood on one line
pub record UnitKinds (unit : List ℕ) : Type 0 where
  pub word : is_word unit ≡ true
  pub short : length unit ≤ 8192

-- one who asks to join, with what it gave on its line
pub record AskerKinds (a : Asker) : Type 0 where
  pub name : IsName a.name
  pub script_password : is_some_word a.script_password ≡ true
  pub short : length (optional_text a.script_password) ≤ 8193

pub record RoomKinds (room : Room) : Type 0 where
  pub members : Each MemberKinds room.members
  pub bots : Each BotKinds room.bots
  pub rects : Each RectKinds room.rects
  pub tags : Each TagKinds room.tags
  pub units : Each UnitKinds room.units
  pub askers : Each AskerKinds room.askers

-- a battle with its number
pub record BattleKinds (e : ℕ × Battle) : Type 0 where
  pub id : fits battle_number e.0 ≡ true
  pub info : InfoKinds e.1.info
  pub hash : is_wide e.1.game_hash ≡ true
  pub room : RoomKinds e.1.room

-- rooms
all_tag : (tags : List Pair) (p : Pair) → Each TagKinds tags → TagKinds p → Each TagKinds (with_tag tags p)
all_tag [] p h k = (k, tt)
all_tag (t ∷ tags) p h k =
    elim (same_name p.key t.key) as (λ b. Each TagKinds (if b then p ∷ tags else t ∷ with_tag tags p)) [
      | true ↦ (k, h.1)
      | false ↦ (h.0, all_tag tags p h.1 k)
    ]

all_tags : (pairs tags : List Pair) → Each TagKinds tags → Each TagKinds pairs → Each TagKinds (with_tags tags pairs)
all_tags [] tags h k = h
all_tags (p ∷ pairs) tags h k = all_tags pairs (with_tag tags p) (all_tag tags p h k.0) k.1

fewer_tags : (keys : List (List ℕ)) (tags : List Pair) → Each TagKinds tags → Each TagKinds (without_tags tags keys)
fewer_tags [] tags h = h
fewer_tags (key ∷ keys) tags h = fewer_tags keys (without_tag key tags) (each_filter TagKinds (λ t. not (same_name key t.key)) tags h)

all_units : (words units : List (List ℕ)) → Each UnitKinds units → Each UnitKinds words → Each UnitKinds (with_units units words)
all_units [] units h k = h
all_units (word ∷ words) units h k =
    all_units words (with_unit units word)
    (elim (is_among word units) as (λ b. Each UnitKinds (if b then units else units ++ word ∷ [])) [
      | true ↦ h
      | false ↦ each_append UnitKinds units (word ∷ []) h (k.0, tt)
    ]) k.1

fewer_units : (words units : List (List ℕ)) → Each UnitKinds units → Each UnitKinds (without_units units words)
fewer_units [] units h = h
fewer_units (word ∷ words) units h = fewer_units words (all_but word units) (each_filter UnitKinds (λ n. not (same_name word n)) units h)

module _ (room : Room) (k : RoomKinds room) where
  with_members : (members : List Member) → Each MemberKinds members → RoomKinds (record room { members = members })
  with_members members h = record { members = h; bots = k.bots; rects = k.rects; tags = k.tags; units = k.units; askers = k.askers }

  with_bots : (bots : List Bot) → Each BotKinds bots → RoomKinds (record room { bots = bots })
  with_bots bots h = record { members = k.members; bots = h; rects = k.rects; tags = k.tags; units = k.units; askers = k.askers }

  with_rects : (rects : ByNumber Rect) → Each RectKinds rects → RoomKinds (record room { rects = rects })
  with_rects rects h = record { members = k.members; bots = k.bots; rects = h; tags = k.tags; units = k.units; askers = k.askers }

  with_all_tags : (tags : List Pair) → Each TagKinds tags → RoomKinds (record room { tags = tags })
  with_all_tags tags h = record { members = k.members; bots = k.bots; rects = k.rects; tags = h; units = k.units; askers = k.askers }

  with_all_units : (units : List (List ℕ)) → Each UnitKinds units → RoomKinds (record room { units = units })
  with_all_units units h = record { members = k.members; bots = k.bots; rects = k.rects; tags = k.tags; units = h; askers = k.askers }

  with_askers : (askers : List Asker) → Each AskerKinds askers → RoomKinds (record room { askers = askers })
  with_askers askers h = record { members = k.members; bots = k.bots; rects = k.rects; tags = k.tags; units = k.units; askers = h }

  pub entered_kinds : (me : List ℕ) → IsName me → RoomKinds (with_member me room)
  entered_kinds me n =
      with_members _ (each_append MemberKinds room.members (new_member me ∷ []) k.members (record { name = n; status = refl; colour = refl }, tt))

  pub left_room_kinds : (me : List ℕ) → RoomKinds (without_member me room)
  left_room_kinds me = record {
    members = each_filter MemberKinds _ room.members k.members;
    bots = each_filter BotKinds _ room.bots k.bots;
    rects = k.rects;
    tags = k.tags;
    units = k.units;
    askers = k.askers;
  }

  pub member_status_kinds : (name : List ℕ) (status : ℕ) (colour : ℤ) → fits status_word status ≡ true → is_wide colour ≡ true
      → RoomKinds (with_status name status colour room)
  member_status_kinds name status colour a b =
      with_members _ (each_changed MemberKinds (λ m. same_name name m.name) (member_with status colour) room.members k.members
      (λ m h. record { name = h.name; status = a; colour = b }))

  pub bot_kinds : (bot : Bot) → BotKinds bot → RoomKinds (with_bot bot room)
  bot_kinds bot h = with_bots _ (each_append BotKinds room.bots (bot ∷ []) k.bots (h, tt))

  pub bot_status_kinds : (name : List ℕ) (status : ℕ) (colour : ℤ) → fits status_word status ≡ true → is_wide colour ≡ true
      → RoomKinds (with_bot_status name status colour room)
  bot_status_kinds name status colour a b =
      with_bots _ (each_changed BotKinds (λ bot. same_name name bot.name) (bot_with status colour) room.bots k.bots
      (λ bot h. record { name = h.name; owner = h.owner; status = a; colour = b; ai = h.ai; short = h.short }))

  pub bot_gone_kinds : (name : List ℕ) → RoomKinds (without_bot name room)
  bot_gone_kinds name = with_bots _ (each_filter BotKinds _ room.bots k.bots)

  pub rect_kinds : (ally : ℕ) (rect : Rect) → RectKinds (ally, rect) → RoomKinds (with_rect ally rect room)
  rect_kinds ally rect h = with_rects _ (each_put nat_cmp nat_cmp-IsAntisymmetric RectKinds ally rect room.rects k.rects h)

  pub rect_gone_kinds : (ally : ℕ) → RoomKinds (without_rect ally room)
  rect_gone_kinds ally = with_rects _ (each_filter RectKinds _ room.rects k.rects)

  pub tags_kinds : (pairs : List Pair) → Each TagKinds pairs → RoomKinds (set_tags pairs room)
  tags_kinds pairs h = with_all_tags _ (all_tags pairs room.tags k.tags h)

  pub tags_gone_kinds : (keys : List (List ℕ)) → RoomKinds (remove_tags keys room)
  tags_gone_kinds keys = with_all_tags _ (fewer_tags keys room.tags k.tags)

  pub units_kinds : (words : List (List ℕ)) → Each UnitKinds words → RoomKinds (disable_units words room)
  units_kinds words h = with_all_units _ (all_units words room.units k.units h)

  pub units_gone_kinds : (words : List (List ℕ)) → RoomKinds (enable_units words room)
  units_gone_kinds words = with_all_units _ (fewer_units words room.units k.units)

  pub all_units_gone_kinds : RoomKinds (enable_all room)
  all_units_gone_kinds = with_all_units [] tt

  pub asking_kinds : (me : List ℕ) (password : Option (List ℕ)) → AskerKinds (record { name = me; script_password = password })
      → RoomKinds (with_asker me password room)
  asking_kinds me password h = with_askers _ (each_append AskerKinds room.askers (record { name = me; script_password = password } ∷ []) k.askers (h, tt))

  pub asking_gone_kinds : (name : List ℕ) → RoomKinds (without_asker name room)
  asking_gone_kinds name = with_askers _ (each_filter AskerKinds _ room.askers k.askers)

-- lines
pub clean_opened : (id : ℕ) (info : Info) → fits battle_number id ≡ true → InfoKinds info → Clean (opened_line id info)
clean_opened id info d k = record {
  fits = λ i. d i && (k.battle_type i && (k.nat_type i && (k.founder i && (k.ip i && (k.port i && (k.max_players i && (true
      && (k.rank i && (k.map_hash i && (k.engine_name i && (k.engine_version i && (k.map i && (k.title i && (k.game_name i && true))))))))))))));
  short = (let a = k.short in let b = k.map_short in let c = k.ip_short in omega arith);
}

pub clean_updated : (id : ℕ) (info : Info) → fits battle_number id ≡ true → InfoKinds info → Clean (updated_line id info)
clean_updated id info d k =
    record { fits = λ i. d i && (k.spectators i && (true && (k.map_hash i && (k.map i && true)))); short = (let b = k.map_short in omega arith) }

clean_member : (m : Member) → MemberKinds m → Clean (status_line m)
clean_member m k = record { fits = λ i. k.name i && (k.status i && (k.colour i && true)); short = omega arith }

pub clean_bot : (id : ℕ) (b : Bot) → fits battle_number id ≡ true → BotKinds b → Clean (bot_line id b)
clean_bot id b d k =
    record { fits = λ i. d i && (k.name i && (k.owner i && (k.status i && (k.colour i && (k.ai i && true))))); short = (let s = k.short in omega arith) }

pub clean_rect : (e : ℕ × Rect) → RectKinds e → Clean (rect_line e.0 e.1)
clean_rect e k = record { fits = λ i. k.ally i && (k.left i && (k.top i && (k.right i && (k.bottom i && true)))); short = omega arith }

clean_tag : (t : Pair) → TagKinds t → Clean (reply.SetScriptTags (t ∷ []))
clean_tag t k = record { fits = λ i. ((k.pair i && true) && true) && true; short = (let s = k.short in omega arith) }

clean_unit : (unit : List ℕ) → UnitKinds unit → Clean (reply.DisableUnits (unit ∷ []))
clean_unit unit k = record { fits = λ i. ((k.word i && true) && true) && true; short = (let s = k.short in omega (arith, length-append unit [])) }

clean_entered : (id : ℕ) (name : List ℕ) (password : Option (List ℕ)) → fits battle_number id ≡ true → IsName name → is_some_word password ≡ true
    → length (optional_text password) ≤ 8193 → Clean (reply.JoinedBattle id name password)
clean_entered id name password d n p short = record { fits = λ i. d i && (n i && (p i && true)); short = omega arith }

clean_gone : (id : ℕ) (b : Bot) → fits battle_number id ≡ true → BotKinds b → Clean (reply.RemoveBot id b.name)
clean_gone id b d k = record { fits = λ i. d i && (k.name i && true); short = (let s = k.short in omega arith) }

clean_room : (id : ℕ) (room : Room) → fits battle_number id ≡ true → RoomKinds room → Each Clean (room_lines id room)
clean_room id room d k =
    each_append Clean _ _ (each_map MemberKinds Clean status_line clean_member room.members k.members)
    (each_append Clean _ _ (each_map BotKinds Clean (bot_line id) (λ b. clean_bot id b d) room.bots k.bots)
    (each_append Clean _ _ (each_map RectKinds Clean (λ e. rect_line e.0 e.1) clean_rect room.rects k.rects)
    (each_append Clean _ _ (each_map TagKinds Clean (λ t. reply.SetScriptTags (t ∷ [])) clean_tag room.tags k.tags)
    (each_map UnitKinds Clean (λ unit. reply.DisableUnits (unit ∷ [])) clean_unit room.units k.units))))

pub clean_battle : (id : ℕ) (b : Battle) → BattleKinds (id, b) → Each Clean (battle_lines id b)
clean_battle id b k = (
  clean_opened id b.info k.id k.info,
  (
    clean_updated id b.info k.id k.info,
    each_map IsName Clean (λ name. reply.JoinedBattle id name None) (λ name n. clean_entered id name None k.id n refl (omega arith)) _
        (each_filter IsName _ (member_names b.room) (each_map MemberKinds IsName (λ m. m.name) (λ m h. h.name) b.room.members k.room.members)),
  ),
)

-- what happens
pub enters_clean : (me : List ℕ) (id : ℕ) (b : Battle) (password : Option (List ℕ)) → IsName me → BattleKinds (id, b) → is_some_word password ≡ true
    → length (optional_text password) ≤ 8193 → CleanLetters (joining me id b password)
enters_clean me id b password n k p short = (
  (
    record { fits = λ i. k.id i && (k.hash i && true); short = omega arith },
    (
      clean_entered id me None k.id n refl (omega arith),
      each_append Clean (room_lines id b.room) (reply.RequestBattleStatus ∷ []) (clean_room id b.room k.id k.room)
          (record { fits = refl; short = omega arith }, tt),
    ),
  ),
  ((clean_entered id me password k.id n p short, tt), ((clean_entered id me None k.id n refl (omega arith), tt), tt)),
)

pub member_leaves_clean : (name : List ℕ) (id : ℕ) (b : Battle) → IsName name → BattleKinds (id, b) → CleanLetters (member_leaves name id b).told
member_leaves_clean name id b n k = (
  each_map BotKinds Clean (λ b. reply.RemoveBot id b.name) (λ b. clean_gone id b k.id) (bots_of name b.room)
      (each_filter BotKinds _ b.room.bots k.room.bots),
  ((record { fits = λ i. k.id i && (n i && true); short = omega arith }, tt), tt),
)
