-- What the members of a battle share.
use Rattle.std.specs.Prelude.{ℕ, ℤ, pos, Bool, not, nat_le, nat_lt, if◌then◌else◌, List, [], ◌∷◌, ◌++◌, map, filter}
use Rattle.std.specs.Prelude.{find, length, Option, Some, None}
use Rattle.line_words.specs.declared.lists.Pair.{Pair}
use Rattle.line_words.specs.Table.{ByNumber, put_number, without_number, same_name, is_among}
use Rattle.room_lists.specs.Tags.{with_tags, without_tags}
use Rattle.room_lists.specs.Units.{with_units, without_units}

pub record Member : Type 0 where
  pub name : List ℕ
  pub status : ℕ
  pub colour : ℤ

pub record Bot : Type 0 where
  pub name : List ℕ
  pub owner : List ℕ
  pub status : ℕ
  pub colour : ℤ
  pub ai : List ℕ

pub record Rect : Type 0 where
  pub left : ℕ
  pub top : ℕ
  pub right : ℕ
  pub bottom : ℕ

-- one who asks to join, with the script password that it gave
pub record Asker : Type 0 where
  pub name : List ℕ
  pub script_password : Option (List ℕ)

-- Members in order of joining, bots in order of adding, start rectangles by ally number, tags in order of first
-- setting, disabled units in order of first disabling, and those who ask to join in order of asking
pub record Room : Type 0 where
  pub members : List Member
  pub bots : List Bot
  pub rects : ByNumber Rect
  pub tags : List Pair
  pub units : List (List ℕ)
  pub askers : List Asker

-- members
abbrev pub new_member : List ℕ → Member
new_member name = record { name = name; status = 0; colour = pos 0 }

abbrev pub new_room : List ℕ → Room
new_room founder = record {
  members = new_member founder
      ∷ [];
  bots = [];
  rects = [];
  tags = [];
  units = [];
  askers = [];
}

abbrev pub member_names : Room → List (List ℕ)
member_names room = map (λ m. m.name) room.members

abbrev pub has_member : List ℕ → Room → Bool
has_member name room = is_among name (member_names room)

abbrev pub with_member : List ℕ → Room → Room
with_member name room = record room { members = room.members ++ new_member name ∷ [] }

-- all members but one
abbrev pub all_members_but : List ℕ → Room → Room
all_members_but name room = record room { members = filter (λ m. not (same_name name m.name)) room.members }

-- a member goes with its bots
abbrev pub without_member : List ℕ → Room → Room
without_member name room = record (all_members_but name room) {
  bots = filter (λ b.
      not (same_name name b.owner)) room.bots;
}

abbrev pub member_with : ℕ → ℤ → Member → Member
member_with status colour m = record m { status = status; colour = colour }

abbrev pub with_status : List ℕ → ℕ → ℤ → Room → Room
with_status name status colour room = record room {
  members = map (λ m. if same_name name m.name
      then member_with status colour m else m) room.members;
}

abbrev pub status_in : Option Member → ℕ
status_in None = 0
status_in (Some m) = m.status

abbrev pub colour_in : Option Member → ℤ
colour_in None = pos 0
colour_in (Some m) = m.colour

abbrev pub member_of : List ℕ → Room → Option Member
member_of name room = find (λ m. same_name name m.name) room.members

abbrev pub status_of : List ℕ → Room → ℕ
status_of name room = status_in (member_of name room)

abbrev pub colour_of : List ℕ → Room → ℤ
colour_of name room = colour_in (member_of name room)

-- bots
abbrev pub bot_of : List ℕ → Room → Option Bot
bot_of name room = find (λ b. same_name name b.name) room.bots

abbrev pub bots_of : List ℕ → Room → List Bot
bots_of owner room = filter (λ b. same_name owner b.owner) room.bots

abbrev pub is_full_of_bots : Room → Bool
is_full_of_bots room = nat_le 64 (length room.bots)

abbrev pub with_bot : Bot → Room → Room
with_bot bot room = record room { bots = room.bots ++ bot ∷ [] }

abbrev pub bot_with : ℕ → ℤ → Bot → Bot
bot_with status colour b = record b { status = status; colour = colour }

abbrev pub with_bot_status : List ℕ → ℕ → ℤ → Room → Room
with_bot_status name status colour room = record room {
  bots = map (λ b. if same_name name b.name
      then bot_with status colour b else b) room.bots;
}

abbrev pub without_bot : List ℕ → Room → Room
without_bot name room = record room { bots = filter (λ b. not (same_name name b.name)) room.bots }

-- start rectangles
abbrev pub with_rect : ℕ → Rect → Room → Room
with_rect ally rect room = record room { rects = put_number room.rects ally rect }

abbrev pub without_rect : ℕ → Room → Room
without_rect ally room = record room { rects = without_number room.rects ally }

-- script tags
abbrev pub has_too_many_tags : List Pair → Bool
has_too_many_tags tags = nat_lt 512 (length tags)

abbrev pub set_tags : List Pair → Room → Room
set_tags pairs room = record room { tags = with_tags room.tags pairs }

abbrev pub remove_tags : List (List ℕ) → Room → Room
remove_tags keys room = record room { tags = without_tags room.tags keys }

-- disabled units
abbrev pub has_too_many_units : List (List ℕ) → Bool
has_too_many_units units = nat_lt 1024 (length units)

abbrev pub disable_units : List (List ℕ) → Room → Room
disable_units words room = record room { units = with_units room.units words }

abbrev pub enable_units : List (List ℕ) → Room → Room
enable_units words room = record room { units = without_units room.units words }

abbrev pub enable_all : Room → Room
enable_all room = record room { units = [] }

-- those who ask to join
abbrev pub asker_names : Room → List (List ℕ)
asker_names room = map (λ a. a.name) room.askers

abbrev pub has_asker : List ℕ → Room → Bool
has_asker name room = is_among name (asker_names room)

abbrev pub with_asker : List ℕ → Option (List ℕ) → Room → Room
with_asker name script_password room = record room {
  askers = room.askers
      ++ record { name = name; script_password = script_password } ∷ [];
}

abbrev pub without_asker : List ℕ → Room → Room
without_asker name room = record room { askers = filter (λ a. not (same_name name a.name)) room.askers }

abbrev pub asker_of : List ℕ → Room → Option Asker
asker_of name room = find (λ a. same_name name a.name) room.askers
