-- A text writes one number, one address, one list of bytes and one account alone.
use Rattle.std.proofs.Common.{◌≡◌, ◌≢◌, ℕ, ◌+◌, ◌*◌, ◌<◌, ◌^◌, Bool, true, false, cond, nat_eq, List, [], ◌∷◌, ◌++◌, inl, inr, refl, sym, ap, ◌∙◌, subst, arith, decimal}
use Rattle.std.specs.Char.{digit_value}
use Rattle.std.proofs.lemmas.Bool.{eqb-true}
use Rattle.std.proofs.lemmas.Fmt.{decimal_injective}
use Rattle.account_book.specs.Account.{Account}
use Rattle.proxy_line.specs.Words.{IsNumber, LeadsWith, PartedAt, IsAddress, dotted}
use Rattle.record_lines.specs.Escapes.{Written, plain, line_feed, tab, carriage_return, backslash, hexadecimal, BeginsWritten, StandsForBytes}
use Rattle.lobby_script.specs.Accounts.{HasFields, IsRankAndCountry}
use Rattle.proxy_line.proofs.Parts.{parted_once, never_parted, lacks_digits}
use Rattle.lobby_script.proofs.EscapeLemmas.{front_of_nothing}
use Rattle.lobby_script.proofs.AccountLemmas.{digits_lack_space, same_parts}

-- ---- numbers

pub same_number : (text : List ℕ) (m n : ℕ) → IsNumber text m → IsNumber text n → m ≡ n
same_number text m n p q = decimal_injective m n (omega (arith, p.1)) (omega (arith, q.1)) (sym p.0 ∙ q.0)

-- two numbers before the same byte, which is no digit
before_separator : (separator m n : ℕ) (rest other : List ℕ) → separator < 48 → m < 2 ^ 64 → n < 2 ^ 64 → decimal m ++ separator ∷ rest ≡ decimal n ++ separator ∷ other → (m ≡ n) × (rest ≡ other)
before_separator separator m n rest other low small few e =
    let both = parted_once separator (decimal m) (decimal n) (lacks_digits separator m low small) (lacks_digits separator n low few) e in
    (decimal_injective m n small few both.0, both.1)

pub same_lead : (separator : ℕ) (text : List ℕ) (m n : ℕ) (rest other : List ℕ) → separator < 48 → LeadsWith separator text m rest → LeadsWith separator text n other → (m ≡ n) × (rest ≡ other)
same_lead separator text m n rest other low p q = before_separator separator m n rest other low (omega (arith, p.1)) (omega (arith, q.1)) (sym p.0 ∙ q.0)

-- ---- addresses

record Octets (text ip : List ℕ) : Type 0 where
  a : ℕ
  b : ℕ
  c : ℕ
  d : ℕ
  is : ip ≡ a ∷ b ∷ c ∷ d ∷ []
  whole : text ≡ dotted a b c d
  small_a : a < 2 ^ 8
  small_b : b < 2 ^ 8
  small_c : c < 2 ^ 8
  small_d : d < 2 ^ 8

octets : (text ip : List ℕ) → IsAddress text ip → Octets text ip
octets text (a ∷ b ∷ c ∷ d ∷ []) h = record { a = a; b = b; c = c; d = d; is = refl; whole = h.0; small_a = h.1; small_b = h.2; small_c = h.3; small_d = h.4 }
octets text _ h = absurd h

pub same_address : (text ip other : List ℕ) → IsAddress text ip → IsAddress text other → ip ≡ other
same_address text ip other p q =
    let x = octets text ip p in
    let y = octets text other q in
    let first = before_separator 46 x.a y.a (decimal x.b ++ 46 ∷ (decimal x.c ++ 46 ∷ decimal x.d)) (decimal y.b ++ 46 ∷ (decimal y.c ++ 46 ∷ decimal y.d)) (omega arith) (omega (arith, x.small_a)) (omega (arith, y.small_a)) (sym x.whole ∙ y.whole) in
    let second = before_separator 46 x.b y.b (decimal x.c ++ 46 ∷ decimal x.d) (decimal y.c ++ 46 ∷ decimal y.d) (omega arith) (omega (arith, x.small_b)) (omega (arith, y.small_b)) first.1 in
    let third = before_separator 46 x.c y.c (decimal x.d) (decimal y.d) (omega arith) (omega (arith, x.small_c)) (omega (arith, y.small_c)) second.1 in
    let fourth = decimal_injective x.d y.d (omega (arith, x.small_d)) (omega (arith, y.small_d)) third.1 in
    x.is ∙ (λ i. first.0 i ∷ second.0 i ∷ third.0 i ∷ fourth i ∷ []) ∙ sym y.is

-- ---- bytes

-- the text with the byte in front that its first bytes write, in place of them
abbrev after_x : List ℕ → List ℕ
after_x [] = []
after_x (high ∷ []) = []
after_x (high ∷ low ∷ rest) = (16 * digit_value high + digit_value low) ∷ rest

abbrev after_backslash : List ℕ → List ℕ
after_backslash [] = []
after_backslash (letter ∷ rest) = cond (nat_eq letter 110) (10 ∷ rest) (cond (nat_eq letter 116) (9 ∷ rest) (cond (nat_eq letter 114) (13 ∷ rest) (cond (nat_eq letter 92) (92 ∷ rest) (after_x rest))))

abbrev first_read : List ℕ → List ℕ
first_read [] = []
first_read (byte ∷ rest) = cond (nat_eq byte 92) (after_backslash rest) (byte ∷ rest)

not_equal : (x y : ℕ) (test : Bool) → nat_eq x y ≡ test → x ≢ y → test ≡ false
not_equal x y true h ne = absurd (ne (eqb-true x y h))
not_equal x y false h ne = refl

reads_first : {byte : ℕ} {front : List ℕ} (behind : List ℕ) → Written byte front → first_read (front ++ behind) ≡ byte ∷ behind
reads_first behind (plain {byte = byte} ne) = ap (λ b. cond b (after_backslash behind) (byte ∷ behind)) (not_equal byte 92 (nat_eq byte 92) refl ne)
reads_first behind line_feed = refl
reads_first behind tab = refl
reads_first behind carriage_return = refl
reads_first behind backslash = refl
reads_first behind (hexadecimal p q) = refl

same_first : (text : List ℕ) (byte other : ℕ) (behind rest : List ℕ) → BeginsWritten text byte behind → BeginsWritten text other rest → (byte ≡ other) × (behind ≡ rest)
same_first text byte other behind rest p q =
    let e : byte ∷ behind ≡ other ∷ rest = sym (reads_first behind p.1) ∙ ap first_read (sym p.2 ∙ q.2) ∙ reads_first rest q.1 in
    (cc, cc)

pub same_bytes : (text bytes others : List ℕ) → StandsForBytes text bytes → StandsForBytes text others → bytes ≡ others
same_bytes text [] [] p q = refl
same_bytes text [] (other ∷ others) p q = absurd (front_of_nothing q.0 q.1.1 (sym p ∙ q.1.2))
same_bytes text (byte ∷ bytes) [] p q = absurd (front_of_nothing p.0 p.1.1 (sym q ∙ p.1.2))
same_bytes text (byte ∷ bytes) (other ∷ others) p q =
    let first = same_first text byte other p.0 q.0 p.1 q.1 in
    let rest = same_bytes q.0 bytes others (subst (λ l. StandsForBytes l bytes) first.1 p.2) q.2 in
    (λ i. first.0 i ∷ rest i)

-- ---- accounts

same_end : (text : List ℕ) (rank other : ℕ) (country land : List ℕ) → IsRankAndCountry text rank country → IsRankAndCountry text other land → (rank ≡ other) × (country ≡ land)
same_end text rank other country land (small, inl (whole, none)) (few, inl (all, unknown)) = (decimal_injective rank other (omega (arith, small)) (omega (arith, few)) (sym whole ∙ all), none ∙ sym unknown)
same_end text rank other country land (small, inl (whole, none)) (few, inr all) = absurd (never_parted 32 (decimal rank) (decimal other) land (digits_lack_space rank small) (sym whole ∙ all))
same_end text rank other country land (small, inr whole) (few, inl (all, unknown)) = absurd (never_parted 32 (decimal other) (decimal rank) country (digits_lack_space other few) (sym all ∙ whole))
same_end text rank other country land (small, inr whole) (few, inr all) = before_separator 32 rank other country land (omega arith) (omega (arith, small)) (omega (arith, few)) (sym whole ∙ all)

pub same_account : (text : List ℕ) (a b : Account) → HasFields text a → HasFields text b → a ≡ b
same_account text a b p q =
    let name = same_parts 32 text a.name p.behind_name b.name q.behind_name p.name q.name in
    let password = same_parts 32 q.behind_name a.password p.behind_password b.password q.behind_password (subst (λ l. PartedAt 32 l a.password p.behind_password) name.1 p.password) q.password in
    let number = same_lead 32 q.behind_password a.id b.id p.behind_number q.behind_number (omega arith) (subst (λ l. LeadsWith 32 l a.id p.behind_number) password.1 p.number) q.number in
    let end = same_end q.behind_number a.rank b.rank a.country b.country (subst (λ l. IsRankAndCountry l a.rank a.country) number.1 p.end) q.end in
    let access = p.access ∙ sym q.access in
    let bot = p.bot ∙ sym q.bot in
    λ i. record { name = name.0 i; password = password.0 i; id = number.0 i; rank = end.0 i; access = access i; bot = bot i; country = end.1 i }
