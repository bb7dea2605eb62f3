-- What a command comes to tells clean lines; sizes and kinds of what some commands list, and of members.
use Rattle.std.proofs.Common.{◌≡◌, ℕ, ◌≤◌, ℤ, List, [], ◌∷◌, ◌++◌, refl, true, false, length, arith}
use Rattle.std.specs.Prelude.{Option, Some, None, find, if◌then◌else◌, ◌&&◌, sum_by}
use Rattle.std.proofs.lemmas.Bool.{and_parts, le-leb}
use Rattle.std.proofs.lemmas.List.{length-append}
use Rattle.std.proofs.lemmas.List.Sums.{sum_by-cons}
use Rattle.std.specs.List.{list_all}
use Rattle.reply_kinds.specs.declared.Reply.TheVariants as reply
use Rattle.reply_kinds.specs.Kinds.{Words, fits, all_fit, pairs_text, words_text, optional_text, pair_text}
use Rattle.reply_kinds.specs.Replies.{status_word}
use Rattle.command_grammar.specs.Sizes.{size, pair_size, optional_size}
use Rattle.line_words.specs.Bytes.{is_word}
use Rattle.line_words.specs.Kinds.{is_wide, is_pair}
use Rattle.line_words.specs.declared.lists.Pair.{Pair}
use Rattle.line_words.specs.Table.{same_name, is_among, all_but}
use Rattle.room_lists.specs.Tags.{keys_there, has_tag, without_tag}
use Rattle.room_lists.specs.Units.{words_new, words_there}
use Rattle.room_lists.specs.Room as room_lists
use Rattle.room_lists.specs.Room.{Member, with_status, colour_in}
use Rattle.lobby_model.specs.State.{State, Battle}
use Rattle.lobby_model.specs.Outcome.{Outcome, Refused, Done}
use Rattle.lobby_model.specs.Battles.{member_has}
use Rattle.lobby_model.specs.Rooms.{removed_line, disabled_line, enabled_line}
use Rattle.lobby_view.proofs.Everywhere.{Each, each_found}
use Rattle.lobby_view.proofs.Lengths.{all_room}
use Rattle.lobby_view.proofs.Clean.{Clean}
use Rattle.lobby_view.proofs.KindsOfUsers.{IsName}
use Rattle.lobby_view.proofs.KindsOfBattles.{MemberKinds, TagKinds, UnitKinds, member_status_kinds}
use Rattle.lobby_view.proofs.KindsOfHappenings.{Kinds, CleanAll, room_clean}

abbrev pub CleanOutcome : State → Outcome → Type 0
CleanOutcome s (Refused refusal) = Clean refusal
CleanOutcome s (Done happenings) = CleanAll s happenings

-- sizes of arguments, as they are printed
pub optional_room : (o : Option (List ℕ)) → length (optional_text o) ≤ optional_size o
optional_room None = omega arith
optional_room (Some w) = omega arith

pub pairs_room : (separator : ℕ) (ps : List Pair) → length (pairs_text separator ps) ≤ sum_by pair_size ps
pairs_room separator [] = omega arith
pairs_room separator (p ∷ ps) =
    let rest = pairs_room 9 ps in
    omega (arith, sum_by-cons pair_size p ps, length-append (pair_text p) (pairs_text 9 ps), length-append p.key (61 ∷ p.value))

pub pairs_kinds : (ps : List Pair) → list_all is_pair ps ≡ true → sum_by pair_size ps ≤ 8192 → Each TagKinds ps
pairs_kinds [] e short = tt
pairs_kinds (p ∷ ps) e short =
    let parts = and_parts (is_pair p) (list_all is_pair ps) e in
    let whole = sum_by-cons pair_size p ps in (
      record { pair = parts.0; short = omega (arith, whole, length-append (pair_text p) (pairs_text 9 []), length-append p.key (61 ∷ p.value)) },
      pairs_kinds ps parts.1 (omega (arith, whole)),
    )

-- some of these words: they are words, and print in no more bytes
pub record AreSome (told words : List (List ℕ)) : Type 0 where
  pub are_words : list_all is_word told ≡ true
  pub short : length (words_text told) ≤ sum_by size words

one_more : (word : List ℕ) (told words : List (List ℕ)) → is_word word ≡ true → AreSome told words → AreSome (word ∷ told) (word ∷ words)
one_more word told words w some = record {
  are_words = λ i. w i && some.are_words i;
  short = (let s = some.short in omega (arith, sum_by-cons size word words, length-append word (words_text told)));
}

one_left_out : (word : List ℕ) (told words : List (List ℕ)) → AreSome told words → AreSome told (word ∷ words)
one_left_out word told words some =
    record { are_words = some.are_words; short = (let s = some.short in omega (arith, sum_by-cons size word words)) }

pub some_keys : (keys : List (List ℕ)) (tags : List Pair) → list_all is_word keys ≡ true → AreSome (keys_there tags keys) keys
some_keys [] tags e = record { are_words = refl; short = omega arith }
some_keys (key ∷ keys) tags e =
    let parts = and_parts (is_word key) (list_all is_word keys) e in
    let left = without_tag key tags in
    elim (has_tag key tags) as (λ b. AreSome (if b then key ∷ keys_there left keys else keys_there tags keys) (key ∷ keys)) [
      | true ↦ one_more key (keys_there left keys) keys parts.0 (some_keys keys left parts.1)
      | false ↦ one_left_out key (keys_there tags keys) keys (some_keys keys tags parts.1)
    ]

pub some_there : (words units : List (List ℕ)) → list_all is_word words ≡ true → AreSome (words_there units words) words
some_there [] units e = record { are_words = refl; short = omega arith }
some_there (word ∷ words) units e =
    let parts = and_parts (is_word word) (list_all is_word words) e in
    let left = all_but word units in
    elim (is_among word units) as (λ b. AreSome (if b then word ∷ words_there left words else words_there units words) (word ∷ words)) [
      | true ↦ one_more word (words_there left words) words parts.0 (some_there words left parts.1)
      | false ↦ one_left_out word (words_there units words) words (some_there words units parts.1)
    ]

pub some_new : (words units : List (List ℕ)) → list_all is_word words ≡ true → AreSome (words_new units words) words
some_new [] units e = record { are_words = refl; short = omega arith }
some_new (word ∷ words) units e =
    let parts = and_parts (is_word word) (list_all is_word words) e in
    let more = units ++ word ∷ [] in
    elim (is_among word units) as (λ b. AreSome (if b then words_new units words else word ∷ words_new more words) (word ∷ words)) [
      | true ↦ one_left_out word (words_new units words) words (some_new words units parts.1)
      | false ↦ one_more word (words_new more words) words parts.0 (some_new words more parts.1)
    ]

-- a line of one or more words, each of which stood on one line
record WordsFit (words : List (List ℕ)) : Type 0 where
  fits : all_fit (Words ∷ []) (words, tt) ≡ true
  short : all_room (Words ∷ []) (words, tt) ≤ 20448

words_fit : (word : List ℕ) (words : List (List ℕ)) → list_all is_word (word ∷ words) ≡ true → length (words_text (word ∷ words)) ≤ 8192
    → WordsFit (word ∷ words)
words_fit word words e short =
    record { fits = λ i. (e i && le-leb 1 (length (word ∷ words)) (omega arith) i) && true; short = omega arith }

pub removed_clean : (keys : List (List ℕ)) → list_all is_word keys ≡ true → length (words_text keys) ≤ 8192 → Each Clean (removed_line keys)
removed_clean [] e short = tt
removed_clean (key ∷ keys) e short = let line = words_fit key keys e short in (record { fits = line.fits; short = line.short }, tt)

pub disabled_clean : (units : List (List ℕ)) → list_all is_word units ≡ true → length (words_text units) ≤ 8192 → Each Clean (disabled_line units)
disabled_clean [] e short = tt
disabled_clean (unit ∷ units) e short = let line = words_fit unit units e short in (record { fits = line.fits; short = line.short }, tt)

pub enabled_clean : (units : List (List ℕ)) → list_all is_word units ≡ true → length (words_text units) ≤ 8192 → Each Clean (enabled_line units)
enabled_clean [] e short = tt
enabled_clean (unit ∷ units) e short = let line = words_fit unit units e short in (record { fits = line.fits; short = line.short }, tt)

pub words_kinds : (words : List (List ℕ)) → list_all is_word words ≡ true → sum_by size words ≤ 8192 → Each UnitKinds words
words_kinds [] e short = tt
words_kinds (word ∷ words) e short =
    let parts = and_parts (is_word word) (list_all is_word words) e in
    let whole = sum_by-cons size word words in
    (record { word = parts.0; short = omega (arith, whole) }, words_kinds words parts.1 (omega (arith, whole)))

-- members
status_in_kinds : (o : Option Member) → ((m : Member) → o ≡ Some m → MemberKinds m) → fits status_word (room_lists.status_in o) ≡ true
status_in_kinds None each = refl
status_in_kinds (Some m) each = (each m refl).status

colour_in_kinds : (o : Option Member) → ((m : Member) → o ≡ Some m → MemberKinds m) → is_wide (colour_in o) ≡ true
colour_in_kinds None each = refl
colour_in_kinds (Some m) each = (each m refl).colour

pub status_of_kinds : (name : List ℕ) (ms : List Member) → Each MemberKinds ms
    → fits status_word (room_lists.status_in (find (λ m. same_name name m.name) ms)) ≡ true
status_of_kinds name ms h = status_in_kinds (find (λ m. same_name name m.name) ms) (λ m is. each_found MemberKinds (λ m. same_name name m.name) ms m h is)

pub colour_of_kinds : (name : List ℕ) (ms : List Member) → Each MemberKinds ms → is_wide (colour_in (find (λ m. same_name name m.name) ms)) ≡ true
colour_of_kinds name ms h = colour_in_kinds (find (λ m. same_name name m.name) ms) (λ m is. each_found MemberKinds (λ m. same_name name m.name) ms m h is)

pub status_set : (s : State) (k : Kinds s) (id : ℕ) (b : Battle) (name : List ℕ) (status : ℕ) (colour : ℤ) → IsName name → fits status_word status ≡ true
    → is_wide colour ≡ true → CleanAll s (member_has name status colour id b ∷ [])
status_set s k id b name status colour m f w =
    room_clean s k id b (with_status name status colour) (reply.ClientBattleStatus name status colour ∷ [])
    (λ room h. member_status_kinds room h name status colour f w) (record { fits = λ i. m i && (f i && (w i && true)); short = omega arith }, tt)
