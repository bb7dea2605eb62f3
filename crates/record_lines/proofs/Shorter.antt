-- The line of what is written is no longer than one that was read.
use Rattle.std.proofs.Common.{◌≡◌, ℕ, suc, ◌≤◌, List, [], ◌∷◌, ◌++◌, length, length-append, Bool, true, false, cond}
use Rattle.std.proofs.Common.{refl, sym, ap, ◌∙◌, arith, inr}
use Rattle.std.specs.Prelude.{ℤ, Option, Some, None, Result, Ok, Err, is_ok, ◌&&◌, ◌||◌, ◌==◌, nat_le, codes}
use Rattle.std.specs.List.{AllByRecursion, list_all}
use Rattle.std.specs.Fmt.{signed_decimal}
use Rattle.std.specs.Option.{option_map_or}
use Rattle.std.specs.Str.{bytes_eq}
use Rattle.std.proofs.lemmas.Bool.{and_parts, and_from, eqb-true, leb-true}
use Rattle.std.proofs.lemmas.Slice.Eq.{bytes_eq-Decides}
use Rattle.base64.specs.Engines.{standard}
use Rattle.base64.specs.GeneralPurpose.{decode_of}
use Rattle.line_words.specs.Bytes.{is_name, is_sentence, is_text, is_word, is_word_byte}
use Rattle.line_words.specs.Kinds.{is_some_word, is_wide}
use Rattle.command_grammar.specs.declared.command.Command.{Command}
use Rattle.command_grammar.specs.declared.command.Command.TheVariants as command
use Rattle.command_grammar.specs.declared.command.Request.{Request}
use Rattle.command_grammar.specs.Kinds.{keeps_kinds}
use Rattle.command_grammar.specs.Table.{entry, entries, battle_entries, room_entries, host_entries}
use Rattle.command_grammar.specs.Table.{LoginFlags, join_row, login_row, name_and_text}
use Rattle.command_grammar.proofs.Bounds.{request_keeps}
use Rattle.account_book.specs.Account.{Account, IsHeld, gives, is_password_word, is_country}
use Rattle.account_book.specs.Book.{account_of, login}
use Rattle.account_book.specs.declared.error.LoginFault.{LoginFault}
use Rattle.account_book.specs.declared.error.LoginFault.TheVariants.{NoAccount, BadPassword}
use Rattle.reply_kinds.specs.Replies.{id_text}
use Rattle.request_printer.specs.Faults.{NoneFits, fault_of}
use Rattle.request_printer.specs.Writing.{HasWord, Writes, argument_text, line_under, written}
use Rattle.request_printer.proofs.Gaps.{no_fault, no_shorter}
use Rattle.request_printer.proofs.Lines.{request_reads_back}
use Rattle.record_lines.specs.Masks.{masked_command, masked_login, name_for, no_address, stars, word_for}
use Rattle.record_lines.proofs.Masked.{name_kept, stars_kept, word_kept}

-- the word of a login that passes has the bytes of its account's
sound_length : (a : Account) → IsHeld a → length a.password ≡ 24
sound_length a held =
    let country = and_parts (is_name a.name && is_password_word a.password && nat_le a.rank 7) (is_country a.country) held.0 in
    let rank = and_parts (is_name a.name && is_password_word a.password) (nat_le a.rank 7) country.0 in
    let word = and_parts (is_name a.name) (is_password_word a.password) rank.0 in
    eqb-true (length a.password) 24
    (and_parts (length a.password == 24) (gives 16 (decode_of standard a.password)) word.1).0

passing : (accounts : List Account) → AllByRecursion IsHeld accounts → (name word : List ℕ)
    → is_ok (login accounts name word) ≡ true → length word ≡ 24
passing [] held name word ok = absurd (let n : ⊥ = cc in n)
passing (a ∷ accounts) held name word ok = by (bytes_eq name a.name) (passing accounts held.1 name word) ok
  where
    at : (t : Bool) → bytes_eq a.password word ≡ t
        → is_ok (let r : Result Account LoginFault = cond t (Ok a) (Err BadPassword) in r) ≡ true → length word ≡ 24
    at true same ok = ap length (sym ((bytes_eq-Decides a.password word).0 same)) ∙ sound_length a held.0
    at false same ok = absurd (let n : ⊥ = cc in n)

    by : (t : Bool) → (is_ok (login accounts name word) ≡ true → length word ≡ 24)
        → is_ok (option_map_or (λ account. cond (bytes_eq account.password word) (Ok account) (Err BadPassword))
        (cond t (Some a) (account_of name accounts)) (Err NoAccount)) ≡ true
        → length word ≡ 24
    by true rest ok = at (bytes_eq a.password word) refl ok
    by false rest ok = rest ok

some_bytes : (word : List ℕ) → is_word word ≡ true → 1 ≤ length word
some_bytes word fit = leb-true 1 (length word) (and_parts (nat_le 1 (length word)) (list_all is_word_byte word) fit).0

name_short : (accounts : List Account) (name word : List ℕ) → is_word name ≡ true
    → length (name_for accounts name word) ≤ length name
name_short accounts name word fit = by (is_name name || is_ok (login accounts name word))
  where
    by : (t : Bool) → length (let w : List ℕ = cond t name (codes "?") in w) ≤ length name
    by true = omega arith
    by false = some_bytes name fit

word_short : (accounts : List Account) → AllByRecursion IsHeld accounts → (name word : List ℕ) → is_word word ≡ true
    → length (word_for accounts name word) ≤ length word
word_short accounts held name word fit =
    by (is_ok (login accounts name word)) (passing accounts held name word)
  where
    by : (t : Bool) → (t ≡ true → length word ≡ 24)
        → length (let w : List ℕ = cond t (codes "AAAAAAAAAAAAAAAAAAAAAA==") (codes "B") in w) ≤ length word
    by true long = let same = long refl in omega arith
    by false long = some_bytes word fit

stars_length : (text : List ℕ) → length (stars text) ≡ length text
stars_length [] = refl
stars_length (b ∷ text) = ap suc (stars_length text)

-- a request that is printed under a word
abbrev request : Option ℕ → Command → Request
request id c = record { id = id; command = c }

-- two requests under one word, the second no longer than the first
shorter : (id : Option ℕ) (c d : Command) (word : List ℕ) → HasWord c word → HasWord d word
    → fault_of (request id d) ≡ fault_of (request id c)
    → (keeps_kinds c ≡ true → keeps_kinds d ≡ true)
    → (keeps_kinds c ≡ true → length (argument_text d) ≤ length (argument_text c))
    → NoneFits (request id d) → NoneFits (request id c)
shorter id c d word has has_too same kept short none line reads =
    let kinds = request_keeps line (request id c) reads in
    let wrote : Writes (request id c) (line_under (request id c) word) = record { word = word; has_word = has; whole = refl } in
    let write : Writes (request id d) (line_under (request id d) word) = record { word = word; has_word = has_too; whole = refl } in
    let back = request_reads_back (request id d) (line_under (request id d) word) write (kept kinds)
    (same ∙ no_fault line (request id c) reads) in
    let long = none (line_under (request id d) word) back in
    let least = no_shorter (request id c) (line_under (request id c) word) line wrote reads in
    let less = short kinds in
    omega (
      arith,
      length-append (id_text id) (word ++ argument_text c),
      length-append (id_text id) (word ++ argument_text d),
      length-append word (argument_text c),
      length-append word (argument_text d),
    )

login_word : (name word ip lobby : List ℕ) (cpu : ℤ) (authorises : Bool)
    → HasWord (command.Login name word cpu ip lobby authorises) (codes "LOGIN")
unfolding entries battle_entries room_entries host_entries
login_word name word ip lobby cpu authorises = inr (record {
  entry = entry (codes "LOGIN") login_row command.Login;
  named = refl;
  word_is = refl;
  values = (name, (word, (cpu, (ip, (lobby, (authorises, tt))))));
  made = refl;
})

private_word : (user text : List ℕ) → HasWord (command.SayPrivate user text) (codes "SAYPRIVATE")
unfolding entries battle_entries room_entries host_entries
private_word user text = inr (record {
  entry = entry (codes "SAYPRIVATE") name_and_text command.SayPrivate;
  named = refl;
  word_is = refl;
  values = (user, (text, tt));
  made = refl;
})

join_word : (channel : List ℕ) (key : Option (List ℕ)) → HasWord (command.Join channel key) (codes "JOIN")
unfolding entries battle_entries room_entries host_entries
join_word channel key = inr (record {
  entry = entry (codes "JOIN") join_row command.Join;
  named = refl;
  word_is = refl;
  values = (channel, (key, tt));
  made = refl;
})

-- an argument and what stands behind it, each no longer than another
no_longer : (first other rest behind : List ℕ) → length other ≤ length first → length behind ≤ length rest
    → length ((32 ∷ other) ++ behind) ≤ length ((32 ∷ first) ++ rest)
no_longer first other rest behind less last =
    omega (arith, less, last, length-append other behind, length-append first rest)

-- what the arguments of a login keep
record LoginKept (name word ip lobby : List ℕ) (cpu : ℤ) : Type 0 where
  of_name : is_word name ≡ true
  of_word : is_word word ≡ true
  of_cpu : is_wide cpu ≡ true
  of_ip : is_word ip ≡ true
  of_lobby : is_sentence lobby ≡ true

login_kept : (name word ip lobby : List ℕ) (cpu : ℤ) (authorises : Bool)
    → keeps_kinds (command.Login name word cpu ip lobby authorises) ≡ true → LoginKept name word ip lobby cpu
login_kept name word ip lobby cpu authorises h =
    let first = is_word name && is_word word in
    let a = and_parts (first && is_wide cpu && is_word ip && is_sentence lobby) true h in
    let b = and_parts (first && is_wide cpu && is_word ip) (is_sentence lobby) a.0 in
    let c = and_parts (first && is_wide cpu) (is_word ip) b.0 in
    let d = and_parts first (is_wide cpu) c.0 in
    let e = and_parts (is_word name) (is_word word) d.0 in
    record { of_name = e.0; of_word = e.1; of_cpu = d.1; of_ip = c.1; of_lobby = b.1 }

keeps_login : (name word ip lobby : List ℕ) (cpu : ℤ) (authorises : Bool) → LoginKept name word ip lobby cpu
    → keeps_kinds (command.Login name word cpu ip lobby authorises) ≡ true
keeps_login name word ip lobby cpu authorises k =
    let first = is_word name && is_word word in
    let e = and_from (is_word name) (is_word word) k.of_name k.of_word in
    let d = and_from first (is_wide cpu) e k.of_cpu in
    let c = and_from (first && is_wide cpu) (is_word ip) d k.of_ip in
    let b = and_from (first && is_wide cpu && is_word ip) (is_sentence lobby) c k.of_lobby in
    and_from (first && is_wide cpu && is_word ip && is_sentence lobby) true b refl

login_still : (accounts : List Account) (name word ip lobby : List ℕ) (cpu : ℤ) (authorises : Bool)
    → keeps_kinds (command.Login name word cpu ip lobby authorises) ≡ true
    → keeps_kinds (masked_login accounts name word cpu authorises) ≡ true
login_still accounts name word ip lobby cpu authorises h =
    let k = login_kept name word ip lobby cpu authorises h in
    keeps_login (name_for accounts name word) (word_for accounts name word) no_address [] cpu authorises (record {
      of_name = name_kept accounts name word k.of_name;
      of_word = word_kept accounts name word;
      of_cpu = k.of_cpu;
      of_ip = refl;
      of_lobby = refl;
    })

join_still : (channel : List ℕ) (key : Option (List ℕ)) → keeps_kinds (command.Join channel key) ≡ true
    → keeps_kinds (command.Join channel None) ≡ true
join_still channel key h =
    and_from (is_name channel) true (and_parts (is_name channel) (is_some_word key) h).0 refl

private_still : (user text : List ℕ) (private : Bool) → keeps_kinds (command.SayPrivate user text) ≡ true
    → keeps_kinds (command.SayPrivate user (cond private text (stars text))) ≡ true
private_still user text true h = h
private_still user text false h =
    and_from (is_name user) (is_text (stars text)) (and_parts (is_name user) (is_text text) h).0 (stars_kept text)

-- what is written keeps its kinds
pub masked_keeps : (accounts : List Account) (private : Bool) (c : Command) → keeps_kinds c ≡ true
    → keeps_kinds (masked_command accounts private c) ≡ true
masked_keeps accounts private (command.Login name word cpu ip lobby authorises) h =
    login_still accounts name word ip lobby cpu authorises h
masked_keeps accounts private (command.Join channel key) h = join_still channel key h
masked_keeps accounts private (command.SayPrivate user text) h = private_still user text private h
masked_keeps accounts private c h = h

module _ (accounts : List Account) (held : AllByRecursion IsHeld accounts) where
  -- the arguments of a login are no longer as they are written
  login_short : (name word ip lobby : List ℕ) (cpu : ℤ) (authorises : Bool) → LoginKept name word ip lobby cpu
      → length (argument_text (masked_login accounts name word cpu authorises))
      ≤ length (argument_text (command.Login name word cpu ip lobby authorises))
  login_short name word ip lobby cpu authorises k =
      let flags : List ℕ = written 32 LoginFlags authorises ++ [] in
      let number : List ℕ = signed_decimal cpu in
      let from_lobby = no_longer lobby [] flags flags (omega arith) (omega arith) in
      let from_ip = no_longer ip no_address ((32 ∷ lobby) ++ flags) ((32 ∷ []) ++ flags) (some_bytes ip k.of_ip) from_lobby in
      let from_cpu = no_longer number number ((32 ∷ ip) ++ ((32 ∷ lobby) ++ flags))
      ((32 ∷ no_address) ++ ((32 ∷ []) ++ flags)) (omega arith) from_ip in
      let from_word = no_longer word (word_for accounts name word)
      ((32 ∷ number) ++ ((32 ∷ ip) ++ ((32 ∷ lobby) ++ flags)))
      ((32 ∷ number) ++ ((32 ∷ no_address) ++ ((32 ∷ []) ++ flags))) (word_short accounts held name word k.of_word) from_cpu in
      no_longer name (name_for accounts name word)
      ((32 ∷ word) ++ ((32 ∷ number) ++ ((32 ∷ ip) ++ ((32 ∷ lobby) ++ flags))))
      ((32 ∷ word_for accounts name word) ++ ((32 ∷ number) ++ ((32 ∷ no_address) ++ ((32 ∷ []) ++ flags))))
      (name_short accounts name word k.of_name) from_word

  login_fits : (id : Option ℕ) (name word ip lobby : List ℕ) (cpu : ℤ) (authorises : Bool)
      → NoneFits (request id (masked_login accounts name word cpu authorises))
      → NoneFits (request id (command.Login name word cpu ip lobby authorises))
  login_fits id name word ip lobby cpu authorises none =
      shorter id (command.Login name word cpu ip lobby authorises) (masked_login accounts name word cpu authorises)
      (codes "LOGIN") (login_word name word ip lobby cpu authorises)
      (login_word (name_for accounts name word) (word_for accounts name word) no_address [] cpu authorises) refl
      (login_still accounts name word ip lobby cpu authorises)
      (λ h. login_short name word ip lobby cpu authorises (login_kept name word ip lobby cpu authorises h)) none

  join_fits : (id : Option ℕ) (channel : List ℕ) (key : Option (List ℕ))
      → NoneFits (request id (command.Join channel None)) → NoneFits (request id (command.Join channel key))
  join_fits id channel None none = none
  join_fits id channel (Some key) none =
      shorter id (command.Join channel (Some key)) (command.Join channel None) (codes "JOIN")
      (join_word channel (Some key)) (join_word channel None) refl (join_still channel (Some key))
      (λ h. no_longer channel channel ((32 ∷ key) ++ []) [] (omega arith) (omega arith)) none

  private_fits : (id : Option ℕ) (user text : List ℕ) (private : Bool)
      → NoneFits (request id (command.SayPrivate user (cond private text (stars text))))
      → NoneFits (request id (command.SayPrivate user text))
  private_fits id user text true none = none
  private_fits id user text false none =
      shorter id (command.SayPrivate user text) (command.SayPrivate user (stars text)) (codes "SAYPRIVATE")
      (private_word user text) (private_word user (stars text)) refl
      (private_still user text false)
      (λ h. no_longer user user ((32 ∷ text) ++ []) ((32 ∷ stars text) ++ []) (omega arith)
      (no_longer text (stars text) [] [] (let same = stars_length text in omega arith) (omega arith))) none

  -- where no line that reads as what is written is short enough, none reads as what was said
  pub none_fits : (private : Bool) (id : Option ℕ) (c : Command)
      → NoneFits (request id (masked_command accounts private c)) → NoneFits (request id c)
  none_fits private id (command.Login name word cpu ip lobby authorises) none =
      login_fits id name word ip lobby cpu authorises none
  none_fits private id (command.Join channel key) none = join_fits id channel key none
  none_fits private id (command.SayPrivate user text) none = private_fits id user text private none
  none_fits private id c none = none
