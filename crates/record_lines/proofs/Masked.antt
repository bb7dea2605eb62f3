-- Logins by the names and words that a record has, and the kinds of what it has in place of words and texts.
use Rattle.std.proofs.Common.{◌≡◌, ℕ, zero, suc, ◌+◌, ◌<◌, List, [], ◌∷◌, ◌++◌, length, take, Bool, true, false, cond, refl, ap, ◌∙◌, subst}
use Rattle.std.proofs.Common.{add-one, arith}
use Rattle.std.specs.Prelude.{Option, Some, None, Result, Ok, Err, is_ok, ◌&&◌, ◌||◌, nat_le}
use Rattle.std.specs.Option.{option_map_or}
use Rattle.std.specs.Str.{bytes_eq}
use Rattle.std.proofs.lemmas.Bool.{and_parts, and_from}
use Rattle.base64.specs.Decode.{groups_error, groups_bytes, scan_steps}
use Rattle.line_words.specs.Bytes.{is_name, is_text, is_word}
use Rattle.account_book.specs.Account.{Account, is_sound, is_password_word, is_country}
use Rattle.account_book.specs.Book.{account_of, login}
use Rattle.account_book.specs.declared.error.LoginFault.{LoginFault}
use Rattle.account_book.specs.declared.error.LoginFault.TheVariants.{NoAccount, BadPassword}
use Rattle.record_lines.specs.Masks.{hidden, all_hidden, hidden_answer, account_let_in, passes, fails, stars, word_for, no_name, name_for}

-- the account of a name, hidden
abbrev hidden_one : Option Account → Option Account
hidden_one None = None
hidden_one (Some account) = Some (hidden account)

found_hidden : (name : List ℕ) (accounts : List Account)
    → account_of name (all_hidden accounts) ≡ hidden_one (account_of name accounts)
found_hidden name [] = refl
found_hidden name (a ∷ accounts) = by (bytes_eq name a.name) (found_hidden name accounts)
  where
    by : (t : Bool) → account_of name (all_hidden accounts) ≡ hidden_one (account_of name accounts)
        → cond t (Some (hidden a)) (account_of name (all_hidden accounts))
        ≡ hidden_one (cond t (Some a) (account_of name accounts))
    by true rest = refl
    by false rest = rest

-- what the account of a name answers to a word
abbrev answer : Option Account → List ℕ → Result Account LoginFault
answer o word = option_map_or (λ account. cond (bytes_eq account.password word) (Ok account) (Err BadPassword)) o
    (Err NoAccount)

abbrev word_by : Result Account LoginFault → List ℕ
word_by told = cond (is_ok told) passes fails

answered : (o : Option Account) (word : List ℕ)
    → answer (hidden_one o) (word_by (answer o word)) ≡ hidden_answer (answer o word)
answered None word = refl
answered (Some a) word = by (bytes_eq a.password word)
  where
    by : (t : Bool)
        → answer (Some (hidden a)) (word_by (cond t (Ok a) (Err BadPassword)))
        ≡ hidden_answer (cond t (Ok a) (Err BadPassword))
    by true = refl
    by false = refl

pub same_answer : (accounts : List Account) (name word : List ℕ)
    → login (all_hidden accounts) name (word_for accounts name word) ≡ hidden_answer (login accounts name word)
same_answer accounts name word =
    ap (λ (o : Option Account). answer o (word_for accounts name word)) (found_hidden name accounts)
    ∙ answered (account_of name accounts) word

-- no account of a record has the word of a login that fails
none_let_in : (o : Option Account) → account_let_in (answer (hidden_one o) fails) ≡ None
none_let_in None = refl
none_let_in (Some a) = refl

-- the account that the accounts of the record let in, by whether the name is one and by what the login was answered
pub same_account : (accounts : List Account) (name word : List ℕ)
    → account_let_in (login (all_hidden accounts) (name_for accounts name word) (word_for accounts name word))
    ≡ account_let_in (hidden_answer (login accounts name word))
same_account accounts name word = by (is_name name) (login accounts name word) refl
  where
    own : (told : Result Account LoginFault) → login accounts name word ≡ told
        → account_let_in (login (all_hidden accounts) name (word_by told)) ≡ account_let_in (hidden_answer told)
    own told is =
        subst (λ (r : Result Account LoginFault). account_let_in (login (all_hidden accounts) name (word_by r)) ≡ account_let_in (hidden_answer r)) is
        (ap account_let_in (same_answer accounts name word))

    by : (named : Bool) (told : Result Account LoginFault) → login accounts name word ≡ told
        → account_let_in (login (all_hidden accounts) (cond (named || is_ok told) name no_name) (word_by told))
        ≡ account_let_in (hidden_answer told)
    by true told is = own told is
    by false (Ok a) is = own (Ok a) is
    by false (Err why) is =
        ap (λ (o : Option Account). account_let_in (answer o fails)) (found_hidden no_name accounts)
        ∙ none_let_in (account_of no_name accounts)

pub name_stays : (accounts : List Account) (name word : List ℕ) → is_name name ≡ true
    → name_for accounts name word ≡ name
name_stays accounts name word is =
    ap (λ (b : Bool). cond (b || is_ok (login accounts name word)) name no_name) is

passes_sound : is_password_word passes ≡ true
unfolding groups_error scan_steps groups_bytes
passes_sound = refl

pub hidden_sound : (a : Account) → is_sound a ≡ true → is_sound (hidden a) ≡ true
hidden_sound a h =
    let country = and_parts (is_name a.name && is_password_word a.password && nat_le a.rank 7) (is_country a.country) h in
    let rank = and_parts (is_name a.name && is_password_word a.password) (nat_le a.rank 7) country.0 in
    let word = and_parts (is_name a.name) (is_password_word a.password) rank.0 in
    and_from (is_name a.name && is_password_word passes && nat_le a.rank 7) (is_country a.country)
    (and_from (is_name a.name && is_password_word passes) (nat_le a.rank 7)
    (and_from (is_name a.name) (is_password_word passes) word.0 passes_sound) rank.1) country.1

-- What is written in place of a word or a text keeps its kind

pub word_kept : (accounts : List Account) (name word : List ℕ) → is_word (word_for accounts name word) ≡ true
word_kept accounts name word = by (is_ok (login accounts name word))
  where
    by : (t : Bool) → is_word (cond t passes fails) ≡ true
    by true = refl
    by false = refl

pub name_kept : (accounts : List Account) (name word : List ℕ) → is_word name ≡ true
    → is_word (name_for accounts name word) ≡ true
name_kept accounts name word fit = by (is_name name || is_ok (login accounts name word))
  where
    by : (t : Bool) → is_word (cond t name no_name) ≡ true
    by true = fit
    by false = refl

pub stars_kept : (text : List ℕ) → is_text (stars text) ≡ true
stars_kept [] = refl
stars_kept (b ∷ text) = stars_kept text

pub stars_more : (xs : List ℕ) (i : ℕ) → i < length xs → stars (take (i + 1) xs) ≡ stars (take i xs) ++ (42 ∷ [])
stars_more xs i h = rw add-one (go xs i h)
  where
    go : (xs : List ℕ) (i : ℕ) → i < length xs → stars (take (suc i) xs) ≡ stars (take i xs) ++ (42 ∷ [])
    go [] i h = absurd (omega arith)
    go (x ∷ xs) zero h = refl
    go (x ∷ xs) (suc i) h = ap (λ (t : List ℕ). 42 ∷ t) (go xs i (omega arith))
