-- A line reads as it prints.
use Rattle.std.proofs.Common.{◌≡◌, ◌↔◌, ℕ, ◌^◌, ◌<◌, ◌≤◌, Bool, true, false, cond, List, [], ◌∷◌, ◌++◌, length, Option, Some, None, refl, sym, ap, subst, ◌∙◌, append_assoc, arith}
use Rattle.std.specs.Prelude.{◌&&◌, ◌==◌, nat_le, find, decimal}
use Rattle.std.proofs.lemmas.Bool.{and_parts, and_from, eqb-true, eq-eqb, leb-true, le-leb}
use Rattle.std.proofs.lemmas.List.{append-nil, nil_from_length}
use Rattle.std.proofs.lemmas.Fmt.{digits_decimal}
use Rattle.std.proofs.lemmas.Option.{cond_some, same_Some}
use Rattle.line_words.specs.Bytes.{is_word_byte}
use Rattle.line_words.specs.Parts.{Ends, before, from}
use Rattle.line_words.proofs.Splitting.{before-append, before-from, from-append, from_ends}
use Rattle.reply_kinds.specs.declared.Reply.{Reply}
use Rattle.reply_kinds.specs.declared.Reply.TheVariants as reply
use Rattle.reply_kinds.specs.declared.command_word.CommandWord.{CommandWord}
use Rattle.reply_kinds.specs.declared.command_word.CommandWord.TheVariants as command
use Rattle.reply_kinds.specs.Kinds.{Kind, Pairs, Words, Values, all_fit, all_printed}
use Rattle.reply_kinds.specs.Replies.{word_of, kinds_of, command_of, values_of, Fits, body, line_text, IsId, Line, ReadsAs}
use Rattle.reply_kinds.proofs.Decimals.{own, digits_words}
use Rattle.reply_kinds.proofs.Table.{is_row, plain_word, rows}
use Rattle.reply_fields.specs.Fields.{◌>>=◌, number_in, if_end}
use Rattle.reply_grammar.specs.Reading.{fields, shaped}
use Rattle.reply_grammar.specs.Lines.{same, commands, named, reply_of_values, read_arguments, read_body, behind_space, read_numbered, read_line}
use Rattle.reply_fields.proofs.Pieces.{bind_some}
use Rattle.reply_grammar.proofs.NumberFields.{number_in_again, number_in_takes}
use Rattle.reply_grammar.proofs.Inverse.{fields_again, fields_take, opens}

-- command words

same_self : (w : List ℕ) → same w w ≡ true
same_self [] = refl
same_self (x ∷ w) = and_from (x == x) (same w w) (eq-eqb x x refl) (same_self w)

pub same_is : (v w : List ℕ) → same v w ≡ true → v ≡ w
same_is [] [] h = refl
same_is [] (y ∷ w) h = absurd cc
same_is (x ∷ v) [] h = absurd cc
same_is (x ∷ v) (y ∷ w) h =
    let p = and_parts (x == y) (same v w) h in
    let head : x ≡ y = eqb-true x y p.0 in
    let rest : v ≡ w = same_is v w p.1 in cc

named_by : (t : Bool) (w : List ℕ) (d c : CommandWord) (o : Option CommandWord) → same w (word_of d) ≡ t → cond t (Some d) o ≡ Some c → (o ≡ Some c → w ≡ word_of c) → w ≡ word_of c
named_by true w d c o is h more = same_is w (word_of d) is ∙ ap word_of (same_Some d c h)
named_by false w d c o is h more = more h

named_takes_in : (cs : List CommandWord) (w : List ℕ) (c : CommandWord) → find (λ (d : CommandWord). same w (word_of d)) cs ≡ Some c → w ≡ word_of c
named_takes_in [] w c e = absurd cc
named_takes_in (d ∷ cs) w c e = named_by (same w (word_of d)) w d c (find (λ (d : CommandWord). same w (word_of d)) cs) refl e (λ h. named_takes_in cs w c h)

named_takes : (w : List ℕ) (c : CommandWord) → named w ≡ Some c → w ≡ word_of c
unfolding named
named_takes w c e = named_takes_in commands w c e

-- one line for each reply

pub named_again : (c : CommandWord) → named (word_of c) ≡ Some c
unfolding named
named_again command.TasServer = refl
named_again c = refl

-- Written by tools/protocol.py of protocol/replies.toml: ends of words.
-- what follows the command word is the end or a space, and no command word begins with `#`
ends_word : (c : CommandWord) (xs : Values (kinds_of c)) → Ends 32 (all_printed (kinds_of c) xs)
ends_word command.LoginInfoEnd xs = tt
ends_word command.Pong xs = tt
ends_word command.EndOfChannels xs = tt
ends_word command.RequestBattleStatus xs = tt
ends_word command.SetScriptTags xs = opens Pairs xs.0 [] tt refl
ends_word command.RemoveScriptTags xs = opens Words xs.0 [] tt refl
ends_word command.ForceQuitBattle xs = tt
ends_word command.DisableUnits xs = opens Words xs.0 [] tt refl
ends_word command.EnableUnits xs = opens Words xs.0 [] tt refl
ends_word command.EnableAllUnits xs = tt
ends_word c xs = refl

-- End of what is written: ends of words.

made_again : (r : Reply) → reply_of_values (command_of r) (values_of r) ≡ r
made_again (reply.TasServer a b c d) = refl
made_again r = refl

-- a reply of these values prints them
record Prints (c : CommandWord) (xs : Values (kinds_of c)) : Type 0 where
  text : body (reply_of_values c xs) ≡ word_of c ++ all_printed (kinds_of c) xs
  fits : all_fit (kinds_of c) xs ≡ true → Fits (reply_of_values c xs)

made_prints : (c : CommandWord) (xs : Values (kinds_of c)) → Prints c xs
made_prints command.TasServer xs = record { text = refl; fits = λ h. h }
made_prints c xs = record { text = refl; fits = λ h. h }

-- the whole

shaped_again : (ks : List Kind) (xs : Values ks) → is_row ks ≡ true → all_fit ks xs ≡ true → shaped ks (all_printed ks xs) ≡ Some xs
unfolding shaped
shaped_again ks xs row fit = rw (fields_again ks xs row fit) refl

read_body_is : (w t : List ℕ) (c : CommandWord) (text : List ℕ) (xs : Values (kinds_of c)) (r : Reply) → w ≡ word_of c → t ≡ text → named (word_of c) ≡ Some c → shaped (kinds_of c) text ≡ Some xs → reply_of_values c xs ≡ r
    → (named w >>= λ c. read_arguments c t) ≡ Some r
read_body_is w t c text xs r word rest is read done =
    subst (λ (v : List ℕ). (named v >>= λ c. read_arguments c t) ≡ Some r) (sym word)
    (subst (λ (u : List ℕ). (named (word_of c) >>= λ c. read_arguments c u) ≡ Some r) (sym rest)
    (rw (is, read, done) refl))

pub body_again : (r : Reply) → Fits r → read_body (body r) ≡ Some r
unfolding read_body
body_again r fit =
    let c : CommandWord = command_of r in
    let text : List ℕ = all_printed (kinds_of c) (values_of r) in
    let word = before-append is_word_byte 32 (word_of c) text refl (plain_word c) (ends_word c (values_of r)) in
    let rest = from-append is_word_byte 32 (word_of c) text refl (plain_word c) (ends_word c (values_of r)) in
    read_body_is (before 32 (body r)) (from 32 (body r)) c text (values_of r) r (word) rest (named_again c) (shaped_again (kinds_of c) (values_of r) (rows c) fit) (made_again r)

if_end_is : {A : Type 0} (x : A) (rest : List ℕ) (y : A) → if_end x rest ≡ Some y → (x ≡ y) × (rest ≡ [])
if_end_is x rest y e =
    let g = cond_some (length rest == 0) x y e in
    (g.1, nil_from_length rest (eqb-true (length rest) 0 g.0))

shaped_takes : (ks : List Kind) (bytes : List ℕ) (xs : Values ks) → shaped ks bytes ≡ Some xs → (bytes ≡ all_printed ks xs) × (all_fit ks xs ≡ true)
unfolding shaped
shaped_takes ks bytes xs e =
    let x = bind_some (fields ks bytes) (λ x. if_end x.0 x.1) xs e in
    let done = if_end_is x.0.0 x.0.1 xs x.2 in
    let text = fields_take ks bytes x.0 x.1 in
    let rest : bytes ≡ all_printed ks x.0.0 = text.0 ∙ ap (λ (t : List ℕ). all_printed ks x.0.0 ++ t) done.1 ∙ append-nil (all_printed ks x.0.0) in
    subst (λ (ys : Values ks). (bytes ≡ all_printed ks ys) × (all_fit ks ys ≡ true)) done.0 (rest, text.1)

pub body_takes : (bytes : List ℕ) (r : Reply) → read_body bytes ≡ Some r → (bytes ≡ body r) × Fits r
unfolding read_body
body_takes bytes r e =
    let c = bind_some (named (before 32 bytes)) (λ c. read_arguments c (from 32 bytes)) r e in
    let xs = bind_some (shaped (kinds_of c.0) (from 32 bytes)) (λ xs. Some (reply_of_values c.0 xs)) r c.2 in
    let text = shaped_takes (kinds_of c.0) (from 32 bytes) xs.0 xs.1 in
    let prints = made_prints c.0 xs.0 in
    let whole : bytes ≡ word_of c.0 ++ all_printed (kinds_of c.0) xs.0 = before-from 32 bytes ∙ ap (λ (w : List ℕ). w ++ from 32 bytes) (named_takes (before 32 bytes) c.0 c.1) ∙ ap (λ (t : List ℕ). word_of c.0 ++ t) text.0 in
    subst (λ (q : Reply). (bytes ≡ body q) × Fits q) (same_Some (reply_of_values c.0 xs.0) r xs.2) (whole ∙ sym prints.text, prints.fits text.1)

-- with the id

-- no command word begins with `#`
abbrev NoHash : List ℕ → Type 0
NoHash [] = ⊥
NoHash (b ∷ bs) = (b == 35) ≡ false

no_hash : (c : CommandWord) (text : List ℕ) → NoHash (word_of c ++ text)
no_hash command.TasServer text = refl
no_hash c text = refl

plain_again : (bytes : List ℕ) (r : Reply) → NoHash bytes → read_body bytes ≡ Some r → read_line bytes ≡ Some (None, r)
unfolding read_line
plain_again [] r plain e = absurd plain
plain_again (b ∷ bs) r plain e = rw (plain, e) refl

numbered_again : (id : ℕ) (text : List ℕ) (r : Reply) → id ≤ 2147483647 → read_body text ≡ Some r → read_line (35 ∷ (decimal id ++ 32 ∷ text)) ≡ Some (Some id, r)
unfolding read_line read_numbered
numbered_again id text r small e =
    let lt : id < 2 ^ 64 = omega arith in
    let digits = digits_words (decimal id) (digits_decimal own id lt) in
    let fit : (nat_le 0 id && nat_le id 2147483647) ≡ true = and_from (nat_le 0 id) (nat_le id 2147483647) (le-leb 0 id (omega arith)) (le-leb id 2147483647 small) in
    rw (before-append is_word_byte 32 (decimal id) (32 ∷ text) refl digits refl, from-append is_word_byte 32 (decimal id) (32 ∷ text) refl digits refl, number_in_again 0 2147483647 id (omega arith) fit, e) refl

pub line_again : (id : Option ℕ) (r : Reply) → IsId id → Fits r → read_line (line_text id r) ≡ Some (id, r)
line_again None r small fit = plain_again (body r) r (no_hash (command_of r) (all_printed (kinds_of (command_of r)) (values_of r))) (body_again r fit)
line_again (Some id) r small fit =
    ap (λ (t : List ℕ). read_line (35 ∷ t)) (append_assoc (decimal id) (32 ∷ []) (body r)) ∙ numbered_again id (body r) r small (body_again r fit)

behind_is : (bytes text : List ℕ) → Ends 32 bytes → behind_space bytes ≡ Some text → bytes ≡ 32 ∷ text
behind_is [] text ends e = absurd cc
behind_is (b ∷ bs) text ends e = let rest : bs ≡ text = same_Some bs text e in cc

numbered_takes : (bytes : List ℕ) (x : Option ℕ × Reply) → read_numbered bytes ≡ Some x → ReadsAs (35 ∷ bytes) x
unfolding read_numbered
numbered_takes bytes x e =
    let id = bind_some (number_in 0 2147483647 (before 32 bytes)) (λ id. behind_space (from 32 bytes) >>= λ text. read_body text >>= λ r. Some (Some id, r)) x e in
    let text = bind_some (behind_space (from 32 bytes)) (λ text. read_body text >>= λ r. Some (Some id.0, r)) x id.2 in
    let r = bind_some (read_body text.0) (λ r. Some (Some id.0, r)) x text.2 in
    let digits = number_in_takes 0 2147483647 (before 32 bytes) id.0 id.1 in
    let b = body_takes text.0 r.0 r.1 in
    let rest : from 32 bytes ≡ 32 ∷ body r.0 = behind_is (from 32 bytes) text.0 (from_ends 32 bytes) text.1 ∙ ap (λ (t : List ℕ). 32 ∷ t) b.0 in
    let whole : bytes ≡ decimal id.0 ++ 32 ∷ body r.0 = before-from 32 bytes ∙ ap (λ (w : List ℕ). w ++ from 32 bytes) digits.0 ∙ ap (λ (t : List ℕ). decimal id.0 ++ t) rest in
    subst (λ (q : Option ℕ × Reply). ReadsAs (35 ∷ bytes) q) (same_Some (Some id.0, r.0) x r.2)
    (record { id = leb-true id.0 2147483647 (and_parts (nat_le 0 id.0) (nat_le id.0 2147483647) digits.1).1; fits = b.1; text = ap (λ (t : List ℕ). 35 ∷ t) (whole ∙ sym (append_assoc (decimal id.0) (32 ∷ []) (body r.0))) })

line_by : (t : Bool) (b : ℕ) (bs : List ℕ) (x : Option ℕ × Reply) → (b == 35) ≡ t → cond t (read_numbered bs) (read_body (b ∷ bs) >>= λ r. Some (None, r)) ≡ Some x → ReadsAs (b ∷ bs) x
line_by true b bs x is e =
    let head : b ≡ 35 = eqb-true b 35 is in
    subst (λ (h : ℕ). ReadsAs (h ∷ bs) x) (sym head) (numbered_takes bs x e)
line_by false b bs x is e =
    let r = bind_some (read_body (b ∷ bs)) (λ r. Some (None, r)) x e in
    let t = body_takes (b ∷ bs) r.0 r.1 in
    subst (λ (q : Option ℕ × Reply). ReadsAs (b ∷ bs) q) (same_Some (None, r.0) x r.2) (record { id = tt; fits = t.1; text = t.0 })

pub line_takes : (bytes : List ℕ) (x : Option ℕ × Reply) → read_line bytes ≡ Some x → ReadsAs bytes x
unfolding read_line
line_takes [] x e = absurd cc
line_takes (b ∷ bs) x e = line_by (b == 35) b bs x refl e

-- two pairs that print alike are one
pub alike : (x y : Line) → IsId x.0 → Fits x.1 → IsId y.0 → Fits y.1 → line_text x.0 x.1 ≡ line_text y.0 y.1 → x ≡ y
alike x y ix fx iy fy e = same_Some x y (sym (line_again x.0 x.1 ix fx) ∙ ap read_line e ∙ line_again y.0 y.1 iy fy)

-- what reads as a pair is read so
pub is_read : (bytes : List ℕ) (x : Line) → ReadsAs bytes x → read_line bytes ≡ Some x
is_read bytes x reads = ap read_line reads.text ∙ line_again x.0 x.1 reads.id reads.fits

pub not_read : (bytes : List ℕ) (x : Line) → read_line bytes ≡ None → ReadsAs bytes x → ⊥
not_read bytes x e reads =
    let again : read_line bytes ≡ Some x = is_read bytes x reads in
    let n : ⊥ = cc in n

-- reading finds exactly the pair that a line reads as
pub reading_is_inverse : (bytes : List ℕ) (read : Line) → (read_line bytes ≡ Some read) ↔ ReadsAs bytes read
reading_is_inverse bytes read = ((λ e. line_takes bytes read e), (λ reads. is_read bytes read reads))
