-- What a legal event brings: an address that prints as a word, a request whose arguments keep their kinds and fit into a line.
use Rattle.std.proofs.Common.{◌≡◌, ℕ, ◌≤◌, List, [], ◌∷◌, ◌++◌, true, length, arith, length-append}
use Rattle.std.specs.Prelude.{Option, Some, None, pos, nat_le, IfSome, decimal}
use Rattle.std.specs.List.{AllByRecursion, list_all}
use Rattle.std.proofs.lemmas.Bool.{and_from, le-leb}
use Rattle.std.proofs.lemmas.Fmt.{length-decimal-le}
use Rattle.line_words.specs.Bytes.{is_word, is_word_byte}
use Rattle.reply_kinds.specs.Replies.{IsId}
use Rattle.reply_kinds.proofs.Bytes.{all_append}
use Rattle.reply_kinds.proofs.Decimals.{signed_words}
use Rattle.command_grammar.specs.Kinds.{keeps_kinds}
use Rattle.command_grammar.specs.Sizes.{argument_bytes}
use Rattle.command_grammar.proofs.Bounds.{request_fits, request_id_keeps, request_keeps}
use Rattle.lobby_model.specs.declared.event.Event.{Event}
use Rattle.lobby_model.specs.declared.event.Event.TheVariants as event
use Rattle.lobby_model.specs.Battles.{ip_text}
use Rattle.lobby_model.specs.Events.{id_of}
use Rattle.lobby_view.specs.Legal.{IsLegal, IsLegalHistory}

-- the address prints as a word, and as no long one
abbrev pub IsShort : List ℕ → Type 0
IsShort ip = (is_word (ip_text ip) ≡ true) × (length (ip_text ip) ≤ 100)

abbrev pub SoundEvent : Event → Type 0
SoundEvent (event.Open ip home) = IsShort ip
SoundEvent (event.Say c request) = (keeps_kinds request.command ≡ true) × (argument_bytes request.command ≤ 8192) × IsId request.id
SoundEvent (event.Shut c) = Unit {0}
SoundEvent (event.Drain c n) = Unit {0}

pub id_sound : (e : Event) → SoundEvent e → IsId (id_of e)
id_sound (event.Open ip home) sound = tt
id_sound (event.Say c request) sound = sound.2
id_sound (event.Shut c) sound = tt
id_sound (event.Drain c n) sound = tt

-- addresses
byte_words : (n : ℕ) → n ≤ 255 → list_all is_word_byte (decimal n) ≡ true
byte_words n h = signed_words (pos n) (le-leb n 4294967295 (omega arith))

byte_length : (n : ℕ) → n ≤ 255 → length (decimal n) ≤ 3
byte_length n h = length-decimal-le 3 n (omega arith) (omega arith) (omega arith)

-- an address prints as a word of at most 15 bytes
address_word : (ip : List ℕ) → length ip ≡ 4 → AllByRecursion (λ n. n ≤ 255) ip → (is_word (ip_text ip) ≡ true) × (length (ip_text ip) ≤ 15)
address_word [] four h = absurd (cc)
address_word (a ∷ []) four h = absurd (omega arith)
address_word (a ∷ b ∷ []) four h = absurd (omega arith)
address_word (a ∷ b ∷ c ∷ []) four h = absurd (omega arith)
address_word (a ∷ b ∷ c ∷ d ∷ e ∷ ip) four h = absurd (omega arith)
address_word (a ∷ b ∷ c ∷ d ∷ []) four h =
    let cd = decimal c ++ 46 ∷ decimal d in
    let bcd = decimal b ++ 46 ∷ cd in
    let last = all_append is_word_byte (decimal c) (46 ∷ decimal d) (byte_words c h.1.1.0) (byte_words d h.1.1.1.0) in
    let more = all_append is_word_byte (decimal b) (46 ∷ cd) (byte_words b h.1.0) last in
    let all = all_append is_word_byte (decimal a) (46 ∷ bcd) (byte_words a h.0) more in
    let ones = length-append (decimal a) (46 ∷ bcd) in
    let twos = length-append (decimal b) (46 ∷ cd) in
    let threes = length-append (decimal c) (46 ∷ decimal d) in
    let la = byte_length a h.0 in
    let lb = byte_length b h.1.0 in
    let lc = byte_length c h.1.1.0 in
    let ld = byte_length d h.1.1.1.0 in
    let some : 1 ≤ length (decimal a ++ 46 ∷ bcd) = omega (arith, ones) in
    let short : length (decimal a ++ 46 ∷ bcd) ≤ 15 = omega (arith, ones, twos, threes, la, lb, lc, ld) in (
      and_from (nat_le 1 (length (decimal a ++ 46 ∷ bcd))) (list_all is_word_byte (decimal a ++ 46 ∷ bcd))
          (le-leb 1 (length (decimal a ++ 46 ∷ bcd)) some) all,
      short,
    )

-- requests
id_is : (id : Option ℕ) → IfSome id (λ i. i ≤ 2147483647) → IsId id
id_is None h = tt
id_is (Some i) h = h

pub legal_sound : (e : Event) → IsLegal e → SoundEvent e
legal_sound (event.Open ip home) legal = let word = address_word ip legal.0 legal.1 in let short = word.1 in (word.0, omega arith)
legal_sound (event.Say c request) legal =
    let short = request_fits legal.0 request legal.1 in
    let limit = legal.2 in
    (request_keeps legal.0 request legal.1, (omega arith), id_is request.id (request_id_keeps legal.0 request legal.1))
legal_sound (event.Shut c) legal = tt
legal_sound (event.Drain c n) legal = tt

pub all_sound : (history : List Event) → IsLegalHistory history → AllByRecursion SoundEvent history
all_sound [] legal = tt
all_sound (e ∷ history) legal = (legal_sound e legal.0, all_sound history legal.1)
