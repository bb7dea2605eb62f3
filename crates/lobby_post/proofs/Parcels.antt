-- Delivery by piece is all at once: one piece put, and the rest delivered, is the whole delivered.
use Rattle.std.proofs.Common.{◌≡◌, ℕ, ◌+◌, ◌-◌, ◌^◌, ◌<◌, List, [], ◌∷◌, ◌++◌, length, refl, sym, ap, subst, ◌∙◌, Bool, true, false, not, map, arith, append_assoc, append-nil, length-append}
use Rattle.std.specs.Prelude.{Some, None, ◌&&◌, ◌||◌, nat_le, if◌then◌else◌}
use Rattle.std.proofs.lemmas.Bool.{leb-true, leb-false, le-leb, lt-leb}
use Rattle.std.specs.Ordering.{nat_cmp}
use Rattle.std.specs.List.{list_any}
use Rattle.std.specs.List.Sorted.{IsStrictlySortedBy}
use Rattle.std.specs.BTreeMap.{is_at}
use Rattle.std.specs.Map.{lookup, set_value}
use Rattle.std.proofs.lemmas.List.Folds.{list_any-append}
use Rattle.line_words.specs.Table.{ByNumber, same_number}
use Rattle.lobby_model.specs.State.{Client, is_live}
use Rattle.lobby_model.specs.Next.{with_batch, has_room_for, is_empty}
use Rattle.lobby_model.specs.Touched.{is_touched}
use Rattle.lobby_model.proofs.Quiet.{touched_is}
use Rattle.lobby_model.proofs.Delivered.{with_batch_nil, map_values_none, same_itself}
use Rattle.lobby_model.proofs.Splits.{apart_of_none, Split, split, any_apart, values_apart, values-append}
use Rattle.lobby_post.specs.Dues.{counted}
use Rattle.lobby_post.specs.Mail.{PutsFirst, bytes_for, deliver, wakes_one, wakes_home}

pub other_piece : (c : ℕ) (bytes : List ℕ) (rest : ByNumber (List ℕ)) (d : ℕ) → same_number d c ≡ false → bytes_for rest d
    ≡ bytes_for ((c, bytes) ∷ rest) d
other_piece c bytes rest d e = sym (ap (λ b. if b then bytes ++ bytes_for rest d else bytes_for rest d) e)

pub own_piece : (c : ℕ) (bytes : List ℕ) (rest : ByNumber (List ℕ)) → bytes_for ((c, bytes) ∷ rest) c ≡ bytes ++ bytes_for rest c
own_piece c bytes rest = ap (λ b. if b then bytes ++ bytes_for rest c else bytes_for rest c) (same_itself c)

and_false : (b : Bool) → (b && false) ≡ false
and_false true = refl
and_false false = refl

and_both : (h a b : Bool) → ((h && a) || (h && b)) ≡ (h && (a || b))
and_both true a b = refl
and_both false a b = refl

turned : (a p b : Bool) → (a || (p || b)) ≡ (p || (a || b))
turned true true b = refl
turned true false b = refl
turned false true b = refl
turned false false b = refl

grouped : (a b c : Bool) → (a || (b || c)) ≡ ((a || b) || c)
grouped true b c = refl
grouped false b c = refl

abbrev cut_off : Client → Client
cut_off client = record client { cut = true; unread = [] }

abbrev longer : Client → List ℕ → Client
longer client bytes = record client { unread = client.unread ++ bytes }

-- A client with the next of its pieces at the end of its unread bytes; or cut, where not all the bytes fit that are still due to it,
-- those of the piece among them
abbrev pub with_piece : ℕ → ℕ → List ℕ → Client → Client
with_piece limit due bytes client =
    if is_live client && not (is_empty bytes)
    then (if nat_le (length client.unread + due) limit then longer client bytes else cut_off client)
    else client

-- A client that is live: the first piece, and the rest
module _ (limit : ℕ) (client : Client) (live : is_live client ≡ true) (b : ℕ) (bytes rest : List ℕ) where
  abbrev whole : List ℕ
  whole = (b ∷ bytes) ++ rest

  abbrev fits : Bool
  fits = nat_le (length client.unread + length whole) limit

  abbrev after_first : Bool → Client
  after_first room = if room then longer client (b ∷ bytes) else cut_off client

  rest_room : fits ≡ true → has_room_for limit (longer client (b ∷ bytes)) rest ≡ true
  rest_room t =
      let long : length (client.unread ++ (b ∷ bytes)) + length rest ≡ length client.unread + length whole =
      ap (λ n. n + length rest) (length-append client.unread (b ∷ bytes))
      ∙ (let e : length whole ≡ length (b ∷ bytes) + length rest = length-append (b ∷ bytes) rest in omega (arith, e)) in
      elim (is_empty rest) as (λ e. (e || nat_le (length (client.unread ++ (b ∷ bytes)) + length rest) limit) ≡ true) [
        | true ↦ refl
        | false ↦ ap (λ n. nat_le n limit) long ∙ t
      ]

  first_rest_live : with_batch limit rest (after_first fits) ≡ (if fits then longer client whole else cut_off client)
  first_rest_live =
      elim fits as (λ f. fits ≡ f → with_batch limit rest (after_first f) ≡ (if f then longer client whole else cut_off client)) [
        | true ↦ λ t.
            ap (λ l. if l then (if has_room_for limit (longer client (b ∷ bytes)) rest then longer
            (longer client (b ∷ bytes)) rest else cut_off client) else longer client (b ∷ bytes)) live
            ∙ ap (λ r. if r then longer (longer client (b ∷ bytes)) rest else cut_off client) (rest_room t)
            ∙ ap (λ u. record client { unread = u }) (append_assoc client.unread (b ∷ bytes) rest)
        | false ↦ λ t. refl
      ] refl

-- whether bytes fit is the same of their count, which at its most is past the limit
counted_fits : (limit unread all : ℕ) → limit < 2 ^ 32 - 1 → nat_le (unread + counted all) limit ≡ nat_le (unread + all) limit
counted_fits limit unread all small =
    elim (nat_le (unread + all) limit) as (λ b. nat_le (unread + all) limit ≡ b → nat_le (unread + counted all) limit ≡ b) [
      | true ↦ λ t. let few = leb-true (unread + all) limit t in le-leb (unread + counted all) limit (omega (arith, few))
      | false ↦ λ t. let many = leb-false (unread + all) limit t in lt-leb (unread + counted all) limit (omega (arith, many, small))
    ] refl

first_rest : (limit : ℕ) (client : Client) (due : ℕ) (bytes rest : List ℕ) → limit < 2 ^ 32 - 1
    → (is_live client ≡ true → counted (length (bytes ++ rest)) ≡ due)
    → with_batch limit rest (with_piece limit due bytes client) ≡ with_batch limit (bytes ++ rest) client
first_rest limit client due [] rest small is =
    ap (λ l. with_batch limit rest (if l then (if nat_le (length client.unread + due) limit then longer client [] else cut_off client) else client))
    (and_false (is_live client))
first_rest limit client due (b ∷ bytes) rest small is =
    elim (is_live client) as (λ l. is_live client ≡ l
    → with_batch limit rest (if l && true then (if nat_le (length client.unread + due) limit then longer client
    (b ∷ bytes) else cut_off client) else client)
    ≡ (if l then (if nat_le (length client.unread + length ((b ∷ bytes) ++ rest)) limit then longer client
    ((b ∷ bytes) ++ rest) else cut_off client) else client)) [
      | true ↦ λ t. ap (λ f. with_batch limit rest (if f then longer client (b ∷ bytes) else cut_off client))
          (ap (λ n. nat_le (length client.unread + n) limit) (sym (is t))
          ∙ counted_fits limit (length client.unread) (length ((b ∷ bytes) ++ rest)) small)
          ∙ first_rest_live limit client t b bytes rest
      | false ↦ λ t. Rattle.lobby_model.proofs.Delivered.dead limit rest client t
    ] refl

-- who does not hear does not hear after
piece_heard : (limit due : ℕ) (bytes : List ℕ) (client : Client) → is_live (with_piece limit due bytes client) ≡ true → is_live client ≡ true
piece_heard limit due bytes client =
    elim (is_live client) as (λ l. is_live client ≡ l
    → is_live (if l && not (is_empty bytes) then (if nat_le (length client.unread + due) limit then longer client bytes else cut_off client) else client) ≡ true
    → l ≡ true) [
      | true ↦ λ t h. refl
      | false ↦ λ t h. sym t ∙ h
    ] refl

-- Whom bytes touch does not depend on the limit: a client that hears gains them, or is cut
pub touched_alike : (limit other : ℕ) (bytes : List ℕ) (client : Client) → is_touched limit bytes client ≡ is_touched other bytes client
touched_alike limit other bytes client = touched_is limit bytes client ∙ sym (touched_is other bytes client)

touched_first_live : (limit due : ℕ) (client : Client) (bytes rest : List ℕ)
    → ((is_live client && not (is_empty bytes)) || (is_live (with_piece limit due bytes client) && not (is_empty rest)))
    ≡ (is_live client && not (is_empty (bytes ++ rest)))
touched_first_live limit due client [] rest =
    ap (λ l. l || (is_live (if l then (if nat_le (length client.unread + due) limit then longer client [] else cut_off client) else client) && not (is_empty rest)))
    (and_false (is_live client))
touched_first_live limit due client (b ∷ bytes) rest =
    elim (is_live client) as (λ l. is_live client ≡ l
    → ((l && true) || (is_live (if l && true then (if nat_le (length client.unread + due) limit then longer client
    (b ∷ bytes) else cut_off client) else client) && not (is_empty rest))) ≡ (l && true)) [
      | true ↦ λ t. refl
      | false ↦ λ t. ap (λ l. l && not (is_empty rest)) t
    ] refl

piece-home : (limit due : ℕ) (bytes : List ℕ) (client : Client) → (with_piece limit due bytes client).home ≡ client.home
piece-home limit due bytes client =
    elim (is_live client && not (is_empty bytes)) as (λ b.
    (if b then (if nat_le (length client.unread + due) limit then longer client bytes else cut_off client) else client).home ≡ client.home) [
      | true ↦ elim (nat_le (length client.unread + due) limit) as (λ b. (if b then longer client bytes else cut_off client).home ≡ client.home) [
        | true ↦ refl
        | false ↦ refl
      ]
      | false ↦ refl
    ]

pub puts_first : (limit due : ℕ) (bytes : List ℕ) (old new : Client) → limit < 2 ^ 32 - 1 → new ≡ with_piece limit due bytes old
    → PutsFirst limit due bytes old new
puts_first limit due bytes old new small is = subst (PutsFirst limit due bytes old) (sym is) (record {
  home = piece-home limit due bytes old;
  heard = piece_heard limit due bytes old;
  whole = λ rest long. first_rest limit old due bytes rest small long;
  touched = λ rest.
      (λ i. touched_is limit bytes old i || touched_is limit rest (with_piece limit due bytes old) i)
      ∙ touched_first_live limit due old bytes rest
      ∙ sym (touched_is limit (bytes ++ rest) old);
})

-- what is due is this piece alone
pub puts_all : (limit : ℕ) (bytes : List ℕ) (old new : Client) → PutsFirst limit (counted (length bytes)) bytes old new → new ≡ with_batch limit bytes old
puts_all limit bytes old new put =
    sym (with_batch_nil limit new) ∙ put.whole [] (λ hears. ap (λ bs. counted (length bs)) (append-nil bytes)) ∙ ap (λ b. with_batch limit b old) (append-nil bytes)

-- what one piece and then the rest wake, all at once wakes
pub wake_first : (limit due home : ℕ) (bytes rest : List ℕ) (old new : Client) → PutsFirst limit due bytes old new
    → (wakes_one limit home bytes old || wakes_one limit home rest new) ≡ wakes_one limit home (bytes ++ rest) old
wake_first limit due home bytes rest old new put =
    ap (λ h. wakes_one limit home bytes old || (same_number h home && is_touched limit rest new)) put.home
    ∙ and_both (same_number old.home home) (is_touched limit bytes old) (is_touched limit rest new)
    ∙ ap (λ t. same_number old.home home && t) (put.touched rest)

nothing_touched : (limit home : ℕ) (client : Client) → wakes_one limit home [] client ≡ false
nothing_touched limit home client = ap (λ t. same_number client.home home && t) (touched_is limit [] client ∙ and_false (is_live client)) ∙ and_false _

module _ (c : ℕ) (bytes : List ℕ) (rest : ByNumber (List ℕ)) where
  module _ (m : ByNumber Client) (none : lookup (is_at (nat_cmp c)) m ≡ None) where
    pub deliver_past : (limit : ℕ) → deliver limit rest m ≡ deliver limit ((c, bytes) ∷ rest) m
    deliver_past limit = values_apart _ _ c (λ d x e. ap (λ b. with_batch limit b x) (other_piece c bytes rest d e)) m (apart_of_none c m none)

    pub wakes_past : (limit home : ℕ) → wakes_home limit rest m home ≡ wakes_home limit ((c, bytes) ∷ rest) m home
    wakes_past limit home = any_apart _ _ c (λ e apart. ap (λ b. wakes_one limit home b e.1) (other_piece c bytes rest e.0 apart)) m (apart_of_none c m none)

  module _ (limit due : ℕ) (x w : Client) (put : PutsFirst limit due bytes x w) (m : ByNumber Client) (ordered : IsStrictlySortedBy nat_cmp (map (λ e. e.0) m))
      (found : lookup (is_at (nat_cmp c)) m ≡ Some x) (is : is_live x ≡ true → due ≡ counted (length (bytes_for ((c, bytes) ∷ rest) c))) where
    parts : Split c x m
    parts = split c x m ordered found

    is_due : is_live x ≡ true → counted (length (bytes ++ bytes_for rest c)) ≡ due
    is_due hears = sym (is hears ∙ ap (λ bs. counted (length bs)) (own_piece c bytes rest))

    pub deliver_step : deliver limit rest (set_value (is_at (nat_cmp c)) m w) ≡ deliver limit ((c, bytes) ∷ rest) m
    deliver_step =
        let same : (d : ℕ) (y : Client) → same_number d c ≡ false → with_batch limit (bytes_for rest d) y
        ≡ with_batch limit (bytes_for ((c, bytes) ∷ rest) d) y = λ d y e. ap (λ b. with_batch limit b y) (other_piece c bytes rest d e) in
        let own : with_batch limit (bytes_for rest c) w ≡ with_batch limit (bytes_for ((c, bytes) ∷ rest) c) x =
        put.whole (bytes_for rest c) is_due ∙ ap (λ b. with_batch limit b x) (sym (own_piece c bytes rest)) in
        ap (deliver limit rest) (parts.written w)
        ∙ values-append _ parts.before _
        ∙ (λ i. values_apart _ _ c same parts.before parts.apart_before i ++ ((c, own i) ∷ values_apart _ _ c same parts.after parts.apart_after i))
        ∙ sym (values-append _ parts.before _)
        ∙ ap (deliver limit ((c, bytes) ∷ rest)) (sym parts.whole)

    pub wakes_step : (home : ℕ) → (wakes_one limit home bytes x || wakes_home limit rest (set_value (is_at (nat_cmp c)) m w) home)
        ≡ wakes_home limit ((c, bytes) ∷ rest) m home
    wakes_step home =
        let same : (e : ℕ × Client) → same_number e.0 c ≡ false → wakes_one limit home (bytes_for rest e.0) e.1
        ≡ wakes_one limit home (bytes_for ((c, bytes) ∷ rest) e.0) e.1 =
        λ e apart. ap (λ b. wakes_one limit home b e.1) (other_piece c bytes rest e.0 apart) in
        let own : (wakes_one limit home bytes x || wakes_one limit home (bytes_for rest c) w)
        ≡ wakes_one limit home (bytes_for ((c, bytes) ∷ rest) c) x = wake_first limit due home bytes (bytes_for rest c) x w put
        ∙ ap (λ b. wakes_one limit home b x) (sym (own_piece c bytes rest)) in
        ap (λ es. wakes_one limit home bytes x || wakes_home limit rest es home) (parts.written w)
        ∙ ap (λ b. wakes_one limit home bytes x || b) (list_any-append _ parts.before _)
        ∙ (λ i. wakes_one limit home bytes x || (any_apart _ _ c same parts.before parts.apart_before i
        || (wakes_one limit home (bytes_for rest c) w || any_apart _ _ c same parts.after parts.apart_after i)))
        ∙ turned (wakes_one limit home bytes x) _ _
        ∙ ap (λ b. list_any (λ e. wakes_one limit home (bytes_for ((c, bytes) ∷ rest) e.0) e.1) parts.before || b) (grouped (wakes_one limit home bytes x) _ _)
        ∙ ap (λ b. list_any (λ e. wakes_one limit home (bytes_for ((c, bytes) ∷ rest) e.0) e.1) parts.before
        || (b || list_any (λ e. wakes_one limit home (bytes_for ((c, bytes) ∷ rest) e.0) e.1) parts.after)) own
        ∙ sym (list_any-append _ parts.before _)
        ∙ ap (λ es. wakes_home limit ((c, bytes) ∷ rest) es home) (sym parts.whole)

pub deliver_nil : (limit : ℕ) (m : ByNumber Client) → deliver limit [] m ≡ m
deliver_nil limit m = map_values_none _ m (λ d x. with_batch_nil limit x)

pub wakes_nil : (limit home : ℕ) (m : ByNumber Client) → wakes_home limit [] m home ≡ false
wakes_nil limit home [] = refl
wakes_nil limit home (e ∷ m) = ap (λ b. b || wakes_home limit [] m home) (nothing_touched limit home e.1) ∙ wakes_nil limit home m

-- what is due, where one more piece was told, and where the first is put
pub more_due : (done : ByNumber (List ℕ)) (c : ℕ) (bytes : List ℕ) (q : ℕ) → bytes_for (done ++ (c, bytes) ∷ []) q
    ≡ (if same_number q c then bytes_for done q ++ bytes else bytes_for done q)
more_due [] c bytes q = elim (same_number q c) as (λ b. (if b then bytes ++ [] else []) ≡ (if b then bytes else [])) [
  | true ↦ append-nil bytes
  | false ↦ refl
]
more_due (p ∷ done) c bytes q =
    elim (same_number q p.0) as (λ b. (if b then p.1 ++ bytes_for (done ++ (c, bytes) ∷ []) q else bytes_for (done ++ (c, bytes) ∷ []) q)
    ≡ (if same_number q c then (if b then p.1 ++ bytes_for done q else bytes_for done q)
    ++ bytes else (if b then p.1 ++ bytes_for done q else bytes_for done q))) [
      | true ↦ ap (λ bs. p.1 ++ bs) (more_due done c bytes q)
          ∙ elim (same_number q c) as (λ b. p.1 ++ (if b then bytes_for done q ++ bytes else bytes_for done q)
          ≡ (if b then (p.1 ++ bytes_for done q) ++ bytes else p.1 ++ bytes_for done q)) [ true ↦ sym (append_assoc p.1 _ _) | false ↦ refl ]
      | false ↦ more_due done c bytes q
    ]
