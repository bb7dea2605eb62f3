-- The first line of an input, from what stands before its LF or its end.
use Rattle.std.proofs.Common.{◌≡◌, ℕ, ◌<◌, ◌≤◌, true, false, List, [], ◌∷◌, ◌++◌, length, Option, Some, None, IfSome, refl, ap, sym, ◌∙◌, arith, length-append, append-nil, ne_eqb, ◌≢◌}
use Rattle.std.specs.List.{list_any, AllByRecursion}
use Rattle.std.specs.Io.KnownBytes.{Consumes, IsAtEnd}
use Rattle.lobby_cli.specs.Hash.{is_line_feed, first_line, without_return, password_in}

-- no byte is an LF
abbrev pub HasNoFeed : List ℕ → Type 0
HasNoFeed bytes = AllByRecursion (λ byte. is_line_feed byte ≡ false) bytes

pub HasNoFeed-push : (front : List ℕ) (byte : ℕ) → HasNoFeed front → is_line_feed byte ≡ false
    → HasNoFeed (front ++ byte ∷ [])
HasNoFeed-push [] byte none other = (other, tt)
HasNoFeed-push (x ∷ xs) byte none other = (none.0, HasNoFeed-push xs byte none.1 other)

-- a front without LF is the front of the first line
first_line-append : (front bytes : List ℕ) → HasNoFeed front
    → first_line (front ++ bytes) ≡ front ++ first_line bytes
first_line-append [] bytes none = refl
first_line-append (x ∷ xs) bytes none =
    rw none.0 (ap (λ rest. x ∷ rest) (first_line-append xs bytes none.1))

has_feed-append : (front bytes : List ℕ) → HasNoFeed front
    → list_any is_line_feed (front ++ bytes) ≡ list_any is_line_feed bytes
has_feed-append [] bytes none = refl
has_feed-append (x ∷ xs) bytes none = rw none.0 (has_feed-append xs bytes none.1)

-- a line that has ended: the buffer's front without its end is the password
pub begins_ended : (known mid new : Option (List ℕ)) (front answer : List ℕ) (byte top : ℕ)
    → HasNoFeed front → Consumes known mid front → Consumes mid new (byte ∷ []) → byte ≡ 10
    → length front ≤ top → answer ≡ without_return front
    → IfSome known (λ input. (length (first_line input) ≤ top) × (answer ≡ password_in input))
begins_ended None mid new front answer byte top none taken feed is_feed short shorn = tt
begins_ended (Some xs) None new front answer byte top none taken feed is_feed short shorn =
    absurd taken
begins_ended (Some xs) (Some ys) None front answer byte top none taken feed is_feed short shorn =
    absurd feed
begins_ended (Some xs) (Some ys) (Some zs) front answer byte top none taken feed is_feed short cut =
    let all : xs ≡ front ++ 10 ∷ zs =
    taken ∙ ap (λ rest. front ++ rest) (feed ∙ ap (λ b. b ∷ zs) is_feed) in
    let line : first_line xs ≡ front =
    ap first_line all ∙ first_line-append front (10 ∷ zs) none ∙ append-nil front in
    let feeds : list_any is_line_feed xs ≡ true =
    ap (list_any is_line_feed) all ∙ has_feed-append front (10 ∷ zs) none in
    (rw line short, rw (feeds, line) cut)

-- an input that ended without LF: the buffer's front is the password
pub begins_whole : (known mid : Option (List ℕ)) (front : List ℕ) (top : ℕ) → HasNoFeed front
    → Consumes known mid front → IsAtEnd mid → length front ≤ top
    → IfSome known (λ input. (length (first_line input) ≤ top) × (front ≡ password_in input))
begins_whole None mid front top none taken at_end short = tt
begins_whole (Some xs) None front top none taken at_end short = absurd taken
begins_whole (Some xs) (Some ys) front top none taken at_end short =
    let all : xs ≡ front ++ [] = taken ∙ ap (λ rest. front ++ rest) at_end in
    let line : first_line xs ≡ front =
    ap first_line all ∙ first_line-append front [] none ∙ append-nil front in
    let feeds : list_any is_line_feed xs ≡ false =
    ap (list_any is_line_feed) all ∙ has_feed-append front [] none in
    (rw line short, rw feeds (sym (all ∙ append-nil front)))

-- a line that goes on behind a full buffer
pub begins_longer : (known mid new : Option (List ℕ)) (front : List ℕ) (byte top : ℕ)
    → HasNoFeed front → Consumes known mid front → Consumes mid new (byte ∷ []) → byte ≢ 10
    → top ≤ length front → IfSome known (λ input. top < length (first_line input))
begins_longer None mid new front byte top none taken next other full = tt
begins_longer (Some xs) None new front byte top none taken next other full = absurd taken
begins_longer (Some xs) (Some ys) None front byte top none taken next other full = absurd next
begins_longer (Some xs) (Some ys) (Some zs) front byte top none taken next other full =
    let all : xs ≡ front ++ byte ∷ zs = taken ∙ ap (λ rest. front ++ rest) next in
    let no_feed : is_line_feed byte ≡ false = ne_eqb byte 10 other in
    let line : first_line (byte ∷ zs) ≡ byte ∷ first_line zs = rw no_feed in
    let long : first_line xs ≡ front ++ byte ∷ first_line zs =
    ap first_line all ∙ first_line-append front (byte ∷ zs) none
    ∙ ap (λ rest. front ++ rest) line in
    rw long (rw length-append (omega arith))
