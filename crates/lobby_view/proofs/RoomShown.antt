-- What one who enters a battle is told of its room gives it that room.
use Rattle.std.proofs.Common.{◌≡◌, ℕ, List, [], ◌∷◌, ◌++◌, refl, sym, ap, subst, ◌∙◌, T, append_assoc, append-nil, false}
use Rattle.std.specs.Prelude.{map, ◌||◌, if◌then◌else◌}
use Rattle.std.specs.List.{IsDistinct}
use Rattle.std.proofs.lemmas.List.{map-append}
use Rattle.std.proofs.lemmas.List.Folds.{list_any-append}
use Rattle.std.specs.Ordering.{nat_cmp}
use Rattle.std.specs.Cmp.{nat_cmp_total}
use Rattle.std.specs.FinMap.Entries.{is_sorted}
use Rattle.reply_kinds.specs.declared.Reply.{Reply}
use Rattle.reply_kinds.specs.declared.Reply.TheVariants as reply
use Rattle.line_words.specs.declared.lists.Pair.{Pair}
use Rattle.line_words.specs.Table.{ByNumber, same_name, is_among}
use Rattle.line_words.proofs.Tables.{same_name_itself}
use Rattle.line_words.proofs.Once.{apart_either_way}
use Rattle.room_lists.specs.Tags.{with_tag}
use Rattle.room_lists.specs.Room.{Room, Member, Bot, Rect, member_with, new_member, with_status, with_bot, with_rect, set_tags, disable_units}
use Rattle.lobby_model.specs.Battles.{status_line, bot_line, rect_line, room_lines}
use Rattle.lobby_model.specs.Sound.{SoundRoom, tag_keys}
use Rattle.lobby_view.specs.View.{View, shown_all}
use Rattle.lobby_view.specs.Observe.{shared}
use Rattle.lobby_view.proofs.Basics.{shown_all-append, inside, all_done, room_lines_shown}
use Rattle.lobby_view.proofs.Places.{sorted_before, put_last}
use Rattle.lobby_view.proofs.Leaving.{in_its_own}
use Rattle.lobby_view.proofs.Distinct.{first_apart}
use Rattle.std.proofs.lemmas.Bool.{or_parts}

abbrev names : List Member → List (List ℕ)
names members = map (λ m. m.name) members

-- members, all of status 0 and colour 0 at first
abbrev pub zeroed : List Member → List Member
zeroed members = map (λ m. new_member m.name) members

abbrev with_one : Member → List Member → List Member
with_one m members = map (λ x. if same_name m.name x.name then member_with m.status m.colour x else x) members

abbrev with_each : List Member → List Member → List Member
with_each [] members = members
with_each (m ∷ ms) members = with_each ms (with_one m members)

abbrev shows_status : Member → Room → Room
shows_status m = with_status m.name m.status m.colour

statuses_done : (ms : List Member) (room : Room) → all_done status_line shows_status ms room ≡ record room { members = with_each ms room.members }
statuses_done [] room = refl
statuses_done (m ∷ ms) room = statuses_done ms (shows_status m room)

first_stays : (ms : List Member) (x : Member) (xs : List Member) → is_among x.name (names ms) ≡ false → with_each ms (x ∷ xs) ≡ x ∷ with_each ms xs
first_stays [] x xs out = refl
first_stays (m ∷ ms) x xs out =
    let apart = or_parts _ _ out in
    ap (λ b. with_each ms ((if b then member_with m.status m.colour x else x) ∷ with_one m xs)) (apart_either_way x.name m.name apart.0)
    ∙ first_stays ms x (with_one m xs) apart.1

none_changed : (m : Member) (xs : List Member) → is_among m.name (names xs) ≡ false → with_one m xs ≡ xs
none_changed m [] out = refl
none_changed m (x ∷ xs) out =
    let apart = or_parts _ _ out in λ i. (if apart.0 i then member_with m.status m.colour x else x) ∷ none_changed m xs apart.1 i

names_zeroed : (ms newcomers : List Member) → names (zeroed ms ++ newcomers) ≡ names (ms ++ newcomers)
names_zeroed [] newcomers = refl
names_zeroed (m ∷ ms) newcomers = ap (λ ns. m.name ∷ ns) (names_zeroed ms newcomers)

out_of_front : (name : List ℕ) (xs ys : List (List ℕ)) → is_among name (xs ++ ys) ≡ false → (is_among name xs ≡ false) × (is_among name ys ≡ false)
out_of_front name xs ys out = or_parts _ _ (sym (list_any-append (same_name name) xs ys) ∙ out)

-- status lines of members, to one who sees behind them some who are new
statuses_are : (ms newcomers : List Member) → IsDistinct same_name (names (ms ++ newcomers)) → with_each ms (zeroed ms ++ newcomers) ≡ ms ++ newcomers
statuses_are [] newcomers once = refl
statuses_are (m ∷ ms) newcomers once =
    let apart = first_apart m.name (names (ms ++ newcomers)) once in
    let others = zeroed ms ++ newcomers in
    ap (λ b. with_each ms ((if b then m else new_member m.name) ∷ with_one m others)) (same_name_itself m.name)
    ∙ ap (λ xs. with_each ms (m ∷ xs)) (none_changed m others (ap (is_among m.name) (names_zeroed ms newcomers) ∙ apart.0))
    ∙ first_stays ms m others
    (out_of_front m.name (names ms) (names newcomers) (ap (is_among m.name) (sym (map-append (λ x. x.name) ms newcomers)) ∙ apart.0)).0
    ∙ ap (λ xs. m ∷ xs) (statuses_are ms newcomers apart.1)

-- bots, rectangles, tags and units, none at first
bots_done : (id : ℕ) (bots : List Bot) (room : Room) → all_done (bot_line id) with_bot bots room ≡ record room { bots = room.bots ++ bots }
bots_done id [] room = ap (λ bots. record room { bots = bots }) (sym (append-nil room.bots))
bots_done id (b ∷ bots) room = bots_done id bots (with_bot b room) ∙ ap (λ bots. record room { bots = bots }) (append_assoc room.bots (b ∷ []) bots)

abbrev entry_line : ℕ × Rect → Reply
entry_line e = rect_line e.0 e.1

abbrev with_entry : ℕ × Rect → Room → Room
with_entry e = with_rect e.0 e.1

rects_done : (rest : ByNumber Rect) (room : Room) → T (is_sorted nat_cmp (room.rects ++ rest))
    → all_done entry_line with_entry rest room ≡ record room { rects = room.rects ++ rest }
rects_done [] room h = ap (λ rects. record room { rects = rects }) (sym (append-nil room.rects))
rects_done (e ∷ rest) room h =
    let last = put_last nat_cmp e.0 e.1 room.rects (sorted_before nat_cmp nat_cmp_total room.rects e rest h) in
    ap (λ rects. all_done entry_line with_entry rest (record room { rects = rects })) last
    ∙ rects_done rest (record room { rects = room.rects ++ e ∷ [] })
    (subst (λ m. T (is_sorted nat_cmp m)) (sym (append_assoc room.rects (e ∷ []) rest)) h)
    ∙ ap (λ rects. record room { rects = rects }) (append_assoc room.rects (e ∷ []) rest)

-- where names stand once, one of them is not among those before it
out_of_done : (done : List (List ℕ)) (name : List ℕ) (rest : List (List ℕ)) → IsDistinct same_name (done ++ name ∷ rest) → is_among name done ≡ false
out_of_done [] name rest once = refl
out_of_done (d ∷ done) name rest once =
    let apart = first_apart d (done ++ name ∷ rest) once in
    ap (λ b. b || is_among name done) (apart_either_way d name (or_parts _ _ (out_of_front d done (name ∷ rest) apart.0).1).0)
    ∙ out_of_done done name rest apart.1

tag_last : (done : List Pair) (t : Pair) → is_among t.key (tag_keys done) ≡ false → with_tag done t ≡ done ++ t ∷ []
tag_last [] t out = refl
tag_last (d ∷ done) t out =
    let apart = or_parts _ _ out in
    ap (λ b. if b then t ∷ done else d ∷ with_tag done t) apart.0 ∙ ap (λ tags. d ∷ tags) (tag_last done t apart.1)

abbrev tag_line : Pair → Reply
tag_line t = reply.SetScriptTags (t ∷ [])

tags_done : (rest : List Pair) (room : Room) → IsDistinct same_name (tag_keys (room.tags ++ rest))
    → all_done tag_line (λ t. set_tags (t ∷ [])) rest room ≡ record room { tags = room.tags ++ rest }
tags_done [] room once = ap (λ tags. record room { tags = tags }) (sym (append-nil room.tags))
tags_done (t ∷ rest) room once =
    ap (λ tags. all_done tag_line (λ t. set_tags (t ∷ [])) rest (record room { tags = tags })) (tag_last room.tags t
    (out_of_done (tag_keys room.tags) t.key (tag_keys rest) (subst (IsDistinct same_name) (map-append (λ x. x.key) room.tags (t ∷ rest)) once)))
    ∙ tags_done rest (record room { tags = room.tags ++ t ∷ [] })
    (subst (λ tags. IsDistinct same_name (tag_keys tags)) (sym (append_assoc room.tags (t ∷ []) rest)) once)
    ∙ ap (λ tags. record room { tags = tags }) (append_assoc room.tags (t ∷ []) rest)

abbrev unit_line : List ℕ → Reply
unit_line unit = reply.DisableUnits (unit ∷ [])

units_done : (rest : List (List ℕ)) (room : Room) → IsDistinct same_name (room.units ++ rest)
    → all_done unit_line (λ unit. disable_units (unit ∷ [])) rest room ≡ record room { units = room.units ++ rest }
units_done [] room once = ap (λ units. record room { units = units }) (sym (append-nil room.units))
units_done (unit ∷ rest) room once =
    ap (λ b. all_done unit_line (λ unit. disable_units (unit ∷ [])) rest (record room { units = if b then room.units else room.units ++ unit ∷ [] }))
    (out_of_done room.units unit rest once)
    ∙ units_done rest (record room { units = room.units ++ unit ∷ [] })
    (subst (IsDistinct same_name) (sym (append_assoc room.units (unit ∷ []) rest)) once)
    ∙ ap (λ units. record room { units = units }) (append_assoc room.units (unit ∷ []) rest)

abbrev pub only_members : List Member → Room
only_members members = record { members = members; bots = []; rects = []; tags = []; units = []; askers = [] }

-- all of it
pub room_shown : (v : View) (id : ℕ) (room : Room) (newcomers : List Member)
    → SoundRoom room → IsDistinct same_name (names (room.members ++ newcomers))
    → shown_all (inside v id (only_members (zeroed room.members ++ newcomers))) (room_lines id room)
    ≡ inside v id (record (shared room) { members = room.members ++ newcomers })
room_shown v id room newcomers sound once =
    let units = map unit_line room.units in
    let tags = map tag_line room.tags ++ units in
    let rects = map entry_line room.rects ++ tags in
    let bots = map (bot_line id) room.bots ++ rects in
    let start = only_members (zeroed room.members ++ newcomers) in
    let with_members = only_members (room.members ++ newcomers) in
    let with_bots : Room = record with_members { bots = room.bots } in
    let with_rects : Room = record with_bots { rects = room.rects } in
    let with_tags : Room = record with_rects { tags = room.tags } in
    shown_all-append (inside v id start) (map status_line room.members) bots
    ∙ ap (λ w. shown_all w bots) (room_lines_shown status_line shows_status id (λ v m room. refl) v room.members start
    ∙ ap (inside v id) (statuses_done room.members start ∙ ap only_members (statuses_are room.members newcomers once)))
    ∙ shown_all-append (inside v id with_members) (map (bot_line id) room.bots) rects
    ∙ ap (λ w. shown_all w rects)
    (room_lines_shown (bot_line id) with_bot id
    (λ v b room. ap (λ own. record v { own = own }) (in_its_own id (with_bot b) room)) v room.bots with_members
    ∙ ap (inside v id) (bots_done id room.bots with_members))
    ∙ shown_all-append (inside v id with_bots) (map entry_line room.rects) tags
    ∙ ap (λ w. shown_all w tags) (room_lines_shown entry_line with_entry id (λ v e room. refl) v room.rects with_bots
    ∙ ap (inside v id) (rects_done room.rects with_bots sound.rects))
    ∙ shown_all-append (inside v id with_rects) (map tag_line room.tags) units
    ∙ ap (λ w. shown_all w units) (room_lines_shown tag_line (λ t. set_tags (t ∷ [])) id (λ v t room. refl) v room.tags with_rects
    ∙ ap (inside v id) (tags_done room.tags with_rects sound.tags))
    ∙ room_lines_shown unit_line (λ unit. disable_units (unit ∷ [])) id (λ v unit room. refl) v room.units with_tags
    ∙ ap (inside v id) (units_done room.units with_tags sound.units)
