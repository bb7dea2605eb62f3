-- How the client's own room was, by what is kept of it.
use Rattle.std.specs.Prelude.{ℕ, Bool, true, false, List, Option, Some, None}
use Rattle.std.specs.Option.{option_map}
use Rattle.line_words.specs.Table.{ByNumber}
use Rattle.line_words.specs.declared.lists.Pair.{Pair}
use Rattle.room_lists.specs.Room.{Member, Bot, Rect}
use Rattle.lobby_view.specs.View.{OwnRoom}
use Rattle.view_room.specs.declared.before.KeptLists.{KeptLists}
use Rattle.view_room.specs.declared.before.Before.{Before}
use Rattle.view_room.specs.declared.before.Before.TheVariants.{Unnoted, Lists, Replaced}

-- a list as it was, which is as it is now where none is kept
abbrev pub or_now : {A : Type 0} → Option A → A → A
or_now None now = now
or_now (Some was) now = was

abbrev pub restored : KeptLists → OwnRoom → OwnRoom
restored kept own =
    record own {
      room = record own.room {
        members = or_now kept.members own.room.members;
        bots = or_now kept.bots own.room.bots;
        rects = or_now kept.rects own.room.rects;
        tags = or_now kept.tags own.room.tags;
        units = or_now kept.units own.room.units;
      };
    }

-- the own room as it was, if there was one
abbrev pub was : Before → Option OwnRoom → Option OwnRoom
was Unnoted own = own
was (Lists kept) own = option_map (restored kept) own
was (Replaced room) own = room

abbrev pub is_noted : Before → Bool
is_noted Unnoted = false
is_noted (Lists kept) = true
is_noted (Replaced room) = true

-- what is kept changes, where something is noted and the room is still the one that it was
abbrev pub keeping : (KeptLists → KeptLists) → Before → Before
keeping f Unnoted = Unnoted
keeping f (Lists kept) = Lists (f kept)
keeping f (Replaced room) = Replaced room

-- a list is kept, where it is not yet
abbrev pub keep_members : List Member → KeptLists → KeptLists
keep_members members kept = record kept { members = Some (or_now kept.members members) }

abbrev pub keep_bots : List Bot → KeptLists → KeptLists
keep_bots bots kept = record kept { bots = Some (or_now kept.bots bots) }

abbrev pub keep_rects : ByNumber Rect → KeptLists → KeptLists
keep_rects rects kept = record kept { rects = Some (or_now kept.rects rects) }

abbrev pub keep_tags : List Pair → KeptLists → KeptLists
keep_tags tags kept = record kept { tags = Some (or_now kept.tags tags) }

abbrev pub keep_units : List (List ℕ) → KeptLists → KeptLists
keep_units units kept = record kept { units = Some (or_now kept.units units) }
