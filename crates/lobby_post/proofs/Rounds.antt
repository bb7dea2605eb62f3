-- One round of the loops over the pieces.
use Rattle.std.proofs.Common.{◌≡◌, ◌⊎◌, inl, inr, ℕ, ◌+◌, ◌-◌, ◌%◌, ◌^◌, ◌<◌, ◌≤◌, List, [], ◌∷◌, ◌++◌, length, take, drop, refl, sym, ap, subst, ◌∙◌, Bool, true, false, map, slice_index_or, drop-cons, add-one, arith}
use Rattle.std.specs.Prelude.{Some, None, ◌&&◌, ◌||◌}
use Rattle.std.specs.Ordering.{nat_cmp}
use Rattle.std.specs.List.{AllByRecursion, list_any}
use Rattle.std.specs.List.Sorted.{IsStrictlySortedBy}
use Rattle.std.specs.BTreeMap.{is_at}
use Rattle.std.specs.Map.{keys_of, lookup, set_value}
use Rattle.std.proofs.lemmas.Map.{keys-set_value}
use Rattle.std.proofs.Math.Seq.{take-suc}
use Rattle.std.proofs.lemmas.List.{map-append, drop_all, take_all, take-append-drop, length-take-le, length-drop}
use Rattle.std.proofs.lemmas.Map.Steps.{set_value_same}
use Rattle.std.proofs.lemmas.Bool.{cases_lt}
use Rattle.line_words.specs.Table.{ByNumber, same_number}
use Rattle.lobby_model.specs.State.{Client, is_live}
use Rattle.lobby_model.proofs.Splits.{keys-values, lookup-values, lookup-values-none, set_value-values}
use Rattle.lobby_post.specs.Mask.{has_home}
use Rattle.lobby_post.specs.declared.delivery.Delivery.{Delivery}
use Rattle.lobby_post.specs.declared.due.Due.{Due}
use Rattle.lobby_post.specs.Dues.{counted, due_and, due_but, count_for, nothing_due, shares_of, shared_pieces_in, Covers}
use Rattle.lobby_post.specs.Pieces.{LiesIn, bytes_of, pieces_of}
use Rattle.lobby_post.specs.Amounts.{bytes_in_all, counted_on}
use Rattle.lobby_post.specs.Mail.{Mailbox, plain, bytes_for, due_for, deliver, wakes_one, wakes_home, AllSlots, AwaitsPiece, HaveLimit, PutsFirst, AreDue, IsDue, IsReady, AreReady, IsShort, WantsMemory}
use Rattle.lobby_post.proofs.Crowds.{IsWritten, all_written, all_past}
use Rattle.lobby_post.proofs.Dues.{bytes_front, copied_within, count_front, counted_less, due_covers, due_grown, due_left, due_other, due_same}
use Rattle.lobby_post.proofs.Sums.{counted_none, counted_twice, told_here, told_none, told_past}
use Rattle.lobby_post.proofs.Parcels.{deliver_step, deliver_past, deliver_nil, touched_alike, wakes_step, wakes_past, wakes_nil}

abbrev pub blank : Delivery
blank = record { key = record { number = 0; slot = 0 }; from = 0; to = 0 }

or_first : (a p b w : Bool) → (p || b) ≡ w → ((a || p) || b) ≡ (a || w)
or_first true p b w e = refl
or_first false p b w e = e

or_none : (a b : Bool) → b ≡ false → (a || b) ≡ a
or_none true b e = refl
or_none false b e = e

-- a slot written with its client as it was
pub plain_same : (c : ℕ) (x w : Mailbox) (es fs : ByNumber Mailbox) → fs ≡ set_value (is_at (nat_cmp c)) es w → Some x ≡ lookup (is_at (nat_cmp c)) es
    → w.client ≡ x.client → plain fs ≡ plain es
plain_same c x w es fs is found same =
    ap plain is ∙ set_value-values (λ held. held.client) (is_at (nat_cmp c)) w es
    ∙ ap (set_value (is_at (nat_cmp c)) (plain es)) same
    ∙ set_value_same (is_at (nat_cmp c)) (plain es) x.client (lookup-values (λ held. held.client) (is_at (nat_cmp c)) x es (sym found))

-- the limits of outboxes where one slot is written
pub limits_next : (limit c : ℕ) (x w : Mailbox) (es fs : ByNumber Mailbox) → IsWritten c w es fs → Some x ≡ lookup (is_at (nat_cmp c)) es → w.limit
    ≡ x.limit → HaveLimit limit es → HaveLimit limit fs
limits_next limit c x w es fs written found same = all_written (λ q held. held.limit ≡ limit) (λ q held. held.limit ≡ limit) c
    (λ q held e h. h) x w es fs written found (λ h. same ∙ h)

pub ready_next : (c : ℕ) (x w : Mailbox) (es fs : ByNumber Mailbox) → IsWritten c w es fs → Some x ≡ lookup (is_at (nat_cmp c)) es → IsReady w
    → AreReady es → AreReady fs
ready_next c x w es fs written found ready = all_written (λ q held. IsReady held) (λ q held. IsReady held) c
    (λ q held e h. h) x w es fs written found (λ h. ready)

-- the piece begins a list of pieces: it is put or given up
module _ (c : ℕ) (bytes : List ℕ) (rest : ByNumber (List ℕ)) where
  few_or_none : (2 ^ 32 - 1 ≤ (due_for ((c, bytes) ∷ rest) c).bytes → length bytes ≡ 0)
      → ((due_for ((c, bytes) ∷ rest) c).bytes < 2 ^ 32 - 1) ⊎ (length bytes ≡ 0)
  few_or_none uncounted = elim (cases_lt (due_for ((c, bytes) ∷ rest) c).bytes (2 ^ 32 - 1)) [
    | inl few ↦ inl few
    | inr many ↦ inr (uncounted many)
  ]

  pub less_due : (x w : Mailbox) (es fs : ByNumber Mailbox) → IsWritten c w es fs → Some x ≡ lookup (is_at (nat_cmp c)) es
      → (is_live w.client ≡ true → is_live x.client ≡ true)
      → (is_live w.client ≡ true → w.due ≡ due_but x.due (length bytes))
      → (is_live w.client ≡ true → 2 ^ 32 - 1 ≤ x.due.bytes → length bytes ≡ 0)
      → AreDue ((c, bytes) ∷ rest) es → AreDue rest fs
  less_due x w es fs written found heard less uncounted =
      all_written (λ q held. IsDue (due_for ((c, bytes) ∷ rest) q) held) (λ q held. IsDue (due_for rest q) held) c
      (λ q held e h hears. h hears ∙ due_other c bytes rest q e) x w es fs written found
      (λ h hears.
      let was : x.due ≡ due_for ((c, bytes) ∷ rest) c = h (heard hears) in
      less hears ∙ ap (λ d. due_but d (length bytes)) was
      ∙ due_left c bytes rest (few_or_none (λ many. uncounted hears (subst (λ (d : Due). 2 ^ 32 - 1 ≤ d.bytes) (sym was) many))))

  pub less_past : (es : ByNumber Mailbox) → lookup (is_at (nat_cmp c)) es ≡ None → AreDue ((c, bytes) ∷ rest) es → AreDue rest es
  less_past es none =
      all_past (λ q held. IsDue (due_for ((c, bytes) ∷ rest) q) held) (λ q held. IsDue (due_for rest q) held) c
      (λ q held e h hears. h hears ∙ due_other c bytes rest q e) es none

  pub due_here : (x : Mailbox) (es : ByNumber Mailbox) → Some x ≡ lookup (is_at (nat_cmp c)) es → AreDue ((c, bytes) ∷ rest) es
      → AwaitsPiece x (length bytes)
  due_here x es found due = λ hears few.
      let is = due c x (sym found) hears in
      subst (λ d. Covers d (length bytes)) (sym is) (due_covers c bytes rest (subst (λ (d : Due). d.bytes < 2 ^ 32 - 1) is few))

-- what is due is forgotten, client by client: to each that hears nothing is due, or what was
abbrev pub AreLeft : ByNumber (List ℕ) → ByNumber Mailbox → Type 0
AreLeft rest = AllSlots (λ q held. is_live held.client ≡ true → (held.due ≡ nothing_due) ⊎ (held.due ≡ due_for rest q))

module _ (c : ℕ) (bytes : List ℕ) (rest : ByNumber (List ℕ)) where
  left_other : (q : ℕ) (held : Mailbox) → same_number q c ≡ false
      → (is_live held.client ≡ true → (held.due ≡ nothing_due) ⊎ (held.due ≡ due_for ((c, bytes) ∷ rest) q))
      → is_live held.client ≡ true → (held.due ≡ nothing_due) ⊎ (held.due ≡ due_for rest q)
  left_other q held e h hears = elim (h hears) [
    | inl none ↦ inl none
    | inr due ↦ inr (due ∙ due_other c bytes rest q e)
  ]

  pub forgets : (x w : Mailbox) (es fs : ByNumber Mailbox) → IsWritten c w es fs → Some x ≡ lookup (is_at (nat_cmp c)) es → w.due ≡ nothing_due
      → AreLeft ((c, bytes) ∷ rest) es → AreLeft rest fs
  forgets x w es fs written found none =
      all_written (λ q held. is_live held.client ≡ true → (held.due ≡ nothing_due) ⊎ (held.due ≡ due_for ((c, bytes) ∷ rest) q))
      (λ q held. is_live held.client ≡ true → (held.due ≡ nothing_due) ⊎ (held.due ≡ due_for rest q)) c left_other
      x w es fs written found (λ h hears. inl none)

  pub forgets_past : (es : ByNumber Mailbox) → lookup (is_at (nat_cmp c)) es ≡ None → AreLeft ((c, bytes) ∷ rest) es → AreLeft rest es
  forgets_past es none =
      all_past (λ q held. is_live held.client ≡ true → (held.due ≡ nothing_due) ⊎ (held.due ≡ due_for ((c, bytes) ∷ rest) q))
      (λ q held. is_live held.client ≡ true → (held.due ≡ nothing_due) ⊎ (held.due ≡ due_for rest q)) c left_other es none

pub all_left : (pieces : ByNumber (List ℕ)) (es : ByNumber Mailbox) → AreDue pieces es → AreLeft pieces es
all_left pieces es due = λ q held f hears. inr (due q held f hears)

pub all_forgotten : (es : ByNumber Mailbox) → AreLeft [] es → AreDue [] es
all_forgotten es left = λ q held f hears. elim (left q held f hears) [
  | inl none ↦ none
  | inr due ↦ due
]

-- the slot of a client before room was made: the same client, with no more room than now
pub record CameFrom (first : ByNumber Mailbox) (q : ℕ) (held : Mailbox) : Type 0 where
  pub was : Mailbox
  pub found : lookup (is_at (nat_cmp q)) first ≡ Some was
  pub client : held.client ≡ was.client
  pub spare : was.spare ≤ held.spare
  pub pieces : was.spare_pieces ≤ held.spare_pieces

pub came_first : (es : ByNumber Mailbox) → AllSlots (CameFrom es) es
came_first es = λ q held f. record { was = held; found = f; client = refl; spare = omega arith; pieces = omega arith }

pub came_next : (first : ByNumber Mailbox) (c : ℕ) (x w : Mailbox) (es fs : ByNumber Mailbox) → IsWritten c w es fs → Some x ≡ lookup (is_at (nat_cmp c)) es
    → w.client ≡ x.client → x.spare ≤ w.spare → x.spare_pieces ≤ w.spare_pieces → AllSlots (CameFrom first) es → AllSlots (CameFrom first) fs
came_next first c x w es fs written found same spare pieces =
    all_written (CameFrom first) (CameFrom first) c (λ q held e h. h) x w es fs written found
    (λ h.
    let a = h.spare in
    let b = h.pieces in
    record { was = h.was; found = h.found; client = same ∙ h.client; spare = omega (arith, a, spare); pieces = omega (arith, b, pieces) })

-- one more piece
module _ (c : ℕ) (bytes : List ℕ) (done : ByNumber (List ℕ)) where
  pub grown_due : (x w : Mailbox) (es fs : ByNumber Mailbox) → IsWritten c w es fs → Some x ≡ lookup (is_at (nat_cmp c)) es → w.client ≡ x.client
      → (is_live x.client ≡ true → w.due ≡ due_and x.due (length bytes)) → AreDue done es → AreDue (done ++ (c, bytes) ∷ []) fs
  grown_due x w es fs written found same more =
      all_written (λ q held. IsDue (due_for done q) held) (λ q held. IsDue (due_for (done ++ (c, bytes) ∷ []) q) held) c
      (λ q held e h hears. h hears ∙ due_same c bytes done q e) x w es fs written found
      (λ h hears.
      let heard : is_live x.client ≡ true = ap is_live (sym same) ∙ hears in
      more heard ∙ ap (λ d. due_and d (length bytes)) (h heard) ∙ due_grown c bytes done)

  pub grown_past : (es : ByNumber Mailbox) → lookup (is_at (nat_cmp c)) es ≡ None → AreDue done es → AreDue (done ++ (c, bytes) ∷ []) es
  grown_past es none =
      all_past (λ q held. IsDue (due_for done q) held) (λ q held. IsDue (due_for (done ++ (c, bytes) ∷ []) q) held) c
      (λ q held e h hears. h hears ∙ due_same c bytes done q e) es none

  -- who has too little room for this piece and those before it has too little for all
  pub wants : (back : ByNumber (List ℕ)) (x : Mailbox) (first es : ByNumber Mailbox) → Some x ≡ lookup (is_at (nat_cmp c)) es → AllSlots (CameFrom first) es
      → AreDue done es → IsShort x (due_and x.due (length bytes)) → WantsMemory ((done ++ (c, bytes) ∷ []) ++ back) first
  wants back x first es found came due short =
      let origin = came c x (sym found) in
      let front : ByNumber (List ℕ) = done ++ (c, bytes) ∷ [] in
      let is : due_and x.due (length bytes) ≡ due_for front c = ap (λ d. due_and d (length bytes)) (due c x (sym found) short.0) ∙ due_grown c bytes done in
      let now = subst (IsShort x) is short in
      record {
        client = c;
        held = origin.was;
        found = origin.found;
        hears = ap is_live (sym origin.client) ∙ short.0;
        short = elim now.1 [
          | inl few ↦
              let a = origin.spare in
              let b = copied_within front c in
              let d = bytes_front front back c in
              inl (omega (arith, few, a, b, d))
          | inr few ↦
              let a = origin.pieces in
              let b = counted_less (count_for shared_pieces_in front c) in
              let d = count_front shared_pieces_in front back c in
              inr (omega (arith, few, a, b, d))
        ];
      }

module _ (text : List ℕ) (pieces : List Delivery) (i : ℕ) (within : i < length pieces) where
  abbrev piece : Delivery
  piece = slice_index_or pieces i blank

  abbrev bytes : List ℕ
  bytes = bytes_of text piece

  abbrev rest : ByNumber (List ℕ)
  rest = pieces_of text (drop (i + 1) pieces)

  drop_is : drop i pieces ≡ piece ∷ drop (i + 1) pieces
  drop_is = rw add-one (drop-cons pieces i blank within)

  pub pieces_is : pieces_of text (drop i pieces) ≡ (piece.key.number, bytes) ∷ rest
  pieces_is = ap (pieces_of text) drop_is

  -- the piece is counted where its client is there, and those behind it
  pub told_next : (count after : ℕ) (x w : Mailbox) (es : ByNumber Mailbox) → after ≡ counted_on count (length bytes)
      → Some x ≡ lookup (is_at (nat_cmp piece.key.number)) es → IsStrictlySortedBy nat_cmp (keys_of es)
      → counted_on after (bytes_in_all (bytes_for rest) (keys_of (set_value (is_at (nat_cmp piece.key.number)) es w)))
      ≡ counted_on count (bytes_in_all (bytes_for (pieces_of text (drop i pieces))) (keys_of es))
  told_next count after x w es is found ordered =
      (λ j. counted_on (is j) (bytes_in_all (bytes_for rest) (keys-set_value (is_at (nat_cmp piece.key.number)) es w j)))
      ∙ counted_twice count (length bytes) (bytes_in_all (bytes_for rest) (keys_of es))
      ∙ ap (counted_on count) (sym (told_here piece.key.number bytes rest x es ordered found))
      ∙ ap (λ ps. counted_on count (bytes_in_all (bytes_for ps) (keys_of es))) (sym pieces_is)

  pub told_behind : (count : ℕ) (es : ByNumber Mailbox) → lookup (is_at (nat_cmp piece.key.number)) es ≡ None
      → counted_on count (bytes_in_all (bytes_for rest) (keys_of es))
      ≡ counted_on count (bytes_in_all (bytes_for (pieces_of text (drop i pieces))) (keys_of es))
  told_behind count es none =
      ap (counted_on count) (sym (told_past piece.key.number bytes rest es none))
      ∙ ap (λ ps. counted_on count (bytes_in_all (bytes_for ps) (keys_of es))) (sym pieces_is)

  pub pieces_done : pieces_of text (take (i + 1) pieces) ≡ pieces_of text (take i pieces) ++ (piece.key.number, bytes) ∷ []
  pieces_done =
      let taken : take (i + 1) pieces ≡ take i pieces ++ (piece ∷ []) = rw add-one (take-suc pieces i blank within) in
      ap (pieces_of text) taken ∙ map-append _ (take i pieces) _

  pub due_more : (x w : Mailbox) (es fs : ByNumber Mailbox) → IsWritten piece.key.number w es fs → Some x ≡ lookup (is_at (nat_cmp piece.key.number)) es
      → w.client ≡ x.client → (is_live x.client ≡ true → w.due ≡ due_and x.due (length bytes)) → AreDue (pieces_of text (take i pieces)) es
      → AreDue (pieces_of text (take (i + 1) pieces)) fs
  due_more x w es fs written found same more due = subst (λ ps. AreDue ps fs) (sym pieces_done)
      (grown_due piece.key.number bytes (pieces_of text (take i pieces)) x w es fs written found same more due)

  pieces_whole : (pieces_of text (take i pieces) ++ (piece.key.number, bytes) ∷ []) ++ rest ≡ pieces_of text pieces
  pieces_whole = ap (λ ps. ps ++ rest) (sym pieces_done) ∙ sym (map-append _ (take (i + 1) pieces) _) ∙ ap (pieces_of text) (take-append-drop (i + 1) pieces)

  pub wants_here : (x : Mailbox) (first es : ByNumber Mailbox) → Some x ≡ lookup (is_at (nat_cmp piece.key.number)) es → AllSlots (CameFrom first) es
      → AreDue (pieces_of text (take i pieces)) es → IsShort x (due_and x.due (length bytes)) → WantsMemory (pieces_of text pieces) first
  wants_here x first es found came due short = subst (λ ps. WantsMemory ps first) pieces_whole
      (wants piece.key.number bytes (pieces_of text (take i pieces)) rest x first es found came due short)

  pub inside_next : AllByRecursion (LiesIn text) (drop i pieces) → AllByRecursion (LiesIn text) (drop (i + 1) pieces)
  inside_next h = (subst (AllByRecursion (LiesIn text)) drop_is h).1

  pub inside_here : AllByRecursion (LiesIn text) (drop i pieces) → LiesIn text piece
  inside_here h = (subst (AllByRecursion (LiesIn text)) drop_is h).0

  pub bytes_long : LiesIn text piece → length bytes ≡ piece.to - piece.from
  bytes_long h =
      let d : length (drop piece.from text) ≡ length text - piece.from = length-drop piece.from text in
      let a = h.0 in
      let b = h.1 in
      length-take-le (piece.to - piece.from) (drop piece.from text) (omega (arith, d, a, b))

  module _ (x w : Mailbox) (es fs : ByNumber Mailbox) (is : fs ≡ set_value (is_at (nat_cmp piece.key.number)) es w)
      (found : Some x ≡ lookup (is_at (nat_cmp piece.key.number)) es) (made : PutsFirst x.limit x.due.bytes bytes x.client w.client)
      (ordered : IsStrictlySortedBy nat_cmp (map (λ e. e.0) es)) (due : AreDue (pieces_of text (drop i pieces)) es) where
    due_now : is_live x.client ≡ true → x.due.bytes ≡ counted (length (bytes_for ((piece.key.number, bytes) ∷ rest) piece.key.number))
    due_now hears = ap (λ (d : Due). d.bytes) (subst (λ ps. AreDue ps es) pieces_is due piece.key.number x (sym found) hears)

    ordered_plain : IsStrictlySortedBy nat_cmp (map (λ e. e.0) (plain es))
    ordered_plain = subst (IsStrictlySortedBy nat_cmp) (sym (keys-values (λ held. held.client) es)) ordered

    found_plain : lookup (is_at (nat_cmp piece.key.number)) (plain es) ≡ Some x.client
    found_plain = lookup-values (λ held. held.client) (is_at (nat_cmp piece.key.number)) x es (sym found)

    plain_is : plain fs ≡ set_value (is_at (nat_cmp piece.key.number)) (plain es) w.client
    plain_is = ap plain is ∙ set_value-values (λ held. held.client) (is_at (nat_cmp piece.key.number)) w es

    pub clients_next : (limit : ℕ) → HaveLimit limit es → deliver limit rest (plain fs) ≡ deliver limit (pieces_of text (drop i pieces)) (plain es)
    clients_next limit all =
        ap (deliver limit rest) plain_is
        ∙ deliver_step piece.key.number bytes rest limit x.due.bytes x.client w.client
        (subst (λ n. PutsFirst n x.due.bytes bytes x.client w.client) (all piece.key.number x (sym found)) made)
        (plain es) ordered_plain found_plain due_now
        ∙ ap (λ ps. deliver limit ps (plain es)) (sym pieces_is)

    -- whom bytes touch does not depend on the limit
    wakes_all : (limit home : ℕ) (ps : ByNumber (List ℕ)) (m : ByNumber Client) → wakes_home x.limit ps m home ≡ wakes_home limit ps m home
    wakes_all limit home ps m = λ j. list_any (λ e. same_number e.1.home home && touched_alike x.limit limit (bytes_for ps e.0) e.1 j) m

    pub wakes_next : (limit wakes listing both home : ℕ) → has_home both home ≡ (has_home wakes home || has_home listing home) → has_home listing home
        ≡ wakes_one x.limit home bytes x.client
        → (has_home both home || wakes_home limit rest (plain fs) home) ≡ (has_home wakes home || wakes_home limit (pieces_of text (drop i pieces)) (plain es) home)
    wakes_next limit wakes listing both home joined placed =
        (λ j. (joined ∙ ap (λ b. has_home wakes home || b) placed) j || (sym (wakes_all limit home rest (plain fs)) ∙ ap (λ m. wakes_home x.limit rest m home) plain_is) j)
        ∙ or_first (has_home wakes home) _ _ _ (wakes_step piece.key.number bytes rest x.limit x.due.bytes x.client w.client made
        (plain es) ordered_plain found_plain due_now home)
        ∙ ap (λ b. has_home wakes home || b) (ap (λ ps. wakes_home x.limit ps (plain es) home) (sym pieces_is) ∙ wakes_all limit home _ (plain es))

  module _ (es : ByNumber Mailbox) (none : lookup (is_at (nat_cmp piece.key.number)) es ≡ None) where
    none_plain : lookup (is_at (nat_cmp piece.key.number)) (plain es) ≡ None
    none_plain = lookup-values-none (λ held. held.client) (is_at (nat_cmp piece.key.number)) es none

    pub clients_past : (limit : ℕ) → deliver limit rest (plain es) ≡ deliver limit (pieces_of text (drop i pieces)) (plain es)
    clients_past limit = deliver_past piece.key.number bytes rest (plain es) none_plain limit ∙ ap (λ ps. deliver limit ps (plain es)) (sym pieces_is)

    pub woken_past : (limit wakes home : ℕ) → (has_home wakes home || wakes_home limit rest (plain es) home)
        ≡ (has_home wakes home || wakes_home limit (pieces_of text (drop i pieces)) (plain es) home)
    woken_past limit wakes home = ap (λ b. has_home wakes home || b)
        (wakes_past piece.key.number bytes rest (plain es) none_plain limit home ∙ ap (λ ps. wakes_home limit ps (plain es) home) (sym pieces_is))

-- at the end
module _ (text : List ℕ) (pieces : List Delivery) (i : ℕ) (past : length pieces ≤ i) where
  pub none_left : pieces_of text (drop i pieces) ≡ []
  none_left = ap (pieces_of text) (drop_all i pieces past)

  pub all_done : pieces_of text (take i pieces) ≡ pieces_of text pieces
  all_done = ap (pieces_of text) (take_all i pieces past)

  pub no_shares : shares_of (pieces_of text (drop i pieces)) ≡ []
  no_shares = ap shares_of none_left

  pub told_end : (count : ℕ) (clients : List ℕ) → count < 2 ^ 64
      → count ≡ counted_on count (bytes_in_all (bytes_for (pieces_of text (drop i pieces))) clients)
  told_end count clients small =
      sym (counted_none count small) ∙ ap (counted_on count) (sym (told_none clients))
      ∙ ap (λ ps. counted_on count (bytes_in_all (bytes_for ps) clients)) (sym none_left)

  pub clients_end : (limit : ℕ) (m : ByNumber Client) → deliver limit (pieces_of text (drop i pieces)) m ≡ m
  clients_end limit m = ap (λ ps. deliver limit ps m) none_left ∙ deliver_nil limit m

  pub wakes_end : (limit wakes home : ℕ) (m : ByNumber Client) → (has_home wakes home || wakes_home limit (pieces_of text (drop i pieces)) m home)
      ≡ has_home wakes home
  wakes_end limit wakes home m = or_none _ _ (ap (λ ps. wakes_home limit ps m home) none_left ∙ wakes_nil limit home m)
