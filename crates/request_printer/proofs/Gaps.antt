-- A request that a line reads as has no fault, and is written no longer than it stood there.
use Rattle.std.proofs.Common.{◌≡◌, ℕ, ◌+◌, ◌≤◌, List, [], ◌∷◌, ◌++◌, length, length-append, refl, sym, ap, subst, ◌∙◌}
use Rattle.std.proofs.Common.{Bool, true, false, cond, inl, inr, arith}
use Rattle.std.specs.Prelude.{◌&&◌, ◌⊎◌, not, nat_le, is_some, IfSome, MatchBool, Option, Some, None, IsTrue, decimal}
use Rattle.std.specs.List.{list_all, list_any}
use Rattle.std.proofs.lemmas.Bool.{and_parts, and_from, le-leb}
use Rattle.std.proofs.lemmas.Option.{same_Some}
use Rattle.line_words.specs.Bytes.{has_byte, is_text, is_word}
use Rattle.line_words.specs.Kinds.{is_pair, is_wide}
use Rattle.line_words.specs.Words.{NextWord}
use Rattle.command_grammar.specs.declared.command.Command.{Command}
use Rattle.command_grammar.specs.declared.command.Command.TheVariants as command
use Rattle.command_grammar.specs.declared.command.Request.{Request}
use Rattle.command_grammar.specs.declared.command.ReadFault.TheVariants as fault
use Rattle.command_grammar.specs.Arguments.{IsFault, AtLeastOne, AreWords}
use Rattle.command_grammar.specs.Forms.{applied, Argument, Row, is_same, entry_named, command_named, Form}
use Rattle.command_grammar.specs.Table as kind
use Rattle.command_grammar.specs.Table.{Kind, Value, Values, Maker, Arguments, Entry, entries, given, arguments_of}
use Rattle.command_grammar.proofs.ArgumentBounds.{entry_again}
use Rattle.command_grammar.proofs.Slices.{text_back}
use Rattle.command_grammar.proofs.Taken.{IsUnread, EachFits, unless_unread, if_so}
use Rattle.command_grammar.specs.Reads.{id_limit, Carries, Asks, Reads}
use Rattle.command_grammar.proofs.Bounds.{request_keeps, request_id_keeps}
use Rattle.reply_kinds.specs.Replies.{id_text}
use Rattle.request_printer.specs.Faults.{in_range, all_listed, is_absent, all_absent, has_gap, is_id, fault_of}
use Rattle.request_printer.specs.Writing.{written, separator_behind, all_written, HasWord, argument_text, Writes}
use Rattle.request_printer.proofs.Lengths.{is_other, kind_read, digits_length}
use Rattle.request_printer.proofs.Lines.{each_fits}
use Rattle.request_printer.proofs.Rows.{absent_text}
use Rattle.request_printer.proofs.Named.{word_named, EachWord, IsNamed, each_word, same_length, word_only}

-- Numbers and lists

ranges : (before : Bool) (ks : List Kind) (xs : Values ks) → before ≡ true → EachFits ks xs
    → in_range before ks xs ≡ true
ranges before [] xs b f = b
ranges before (kind.Word ∷ ks) xs b f = ranges before ks xs.1 b f.1
ranges before (kind.OptionalWord ∷ ks) xs b f = ranges before ks xs.1 b f.1
ranges before (kind.Name ∷ ks) xs b f = ranges before ks xs.1 b f.1
ranges before (kind.Natural high ∷ ks) xs b f = ranges (before && nat_le xs.0 high) ks xs.1 (and_from _ _ b f.0) f.1
ranges before (kind.Wide ∷ ks) xs b f = ranges (before && is_wide xs.0) ks xs.1 (and_from _ _ b f.0) f.1
ranges before (kind.Flag ∷ ks) xs b f = ranges before ks xs.1 b f.1
ranges before (kind.Sentence ∷ ks) xs b f = ranges before ks xs.1 b f.1
ranges before (kind.Text ∷ ks) xs b f = ranges before ks xs.1 b f.1
ranges before (kind.OptionalText ∷ ks) xs b f = ranges before ks xs.1 b f.1
ranges before (kind.LoginFlags ∷ ks) xs b f = ranges before ks xs.1 b f.1
ranges before (kind.Pairs ∷ ks) xs b f = ranges before ks xs.1 b f.1
ranges before (kind.Words ∷ ks) xs b f = ranges before ks xs.1 b f.1

lists : (before : Bool) (ks : List Kind) (xs : Values ks) → before ≡ true → EachFits ks xs
    → all_listed before ks xs ≡ true
lists before [] xs b f = b
lists before (kind.Word ∷ ks) xs b f = lists before ks xs.1 b f.1
lists before (kind.OptionalWord ∷ ks) xs b f = lists before ks xs.1 b f.1
lists before (kind.Name ∷ ks) xs b f = lists before ks xs.1 b f.1
lists before (kind.Natural high ∷ ks) xs b f = lists before ks xs.1 b f.1
lists before (kind.Wide ∷ ks) xs b f = lists before ks xs.1 b f.1
lists before (kind.Flag ∷ ks) xs b f = lists before ks xs.1 b f.1
lists before (kind.Sentence ∷ ks) xs b f = lists before ks xs.1 b f.1
lists before (kind.Text ∷ ks) xs b f = lists before ks xs.1 b f.1
lists before (kind.OptionalText ∷ ks) xs b f = lists before ks xs.1 b f.1
lists before (kind.LoginFlags ∷ ks) xs b f = lists before ks xs.1 b f.1
lists before (kind.Pairs ∷ ks) xs b f =
    lists (before && nat_le 1 (length xs.0)) ks xs.1
    (and_from _ _ b (and_parts (nat_le 1 (length xs.0)) (list_all is_pair xs.0) f.0).0) f.1
lists before (kind.Words ∷ ks) xs b f =
    lists (before && nat_le 1 (length xs.0)) ks xs.1
    (and_from _ _ b (and_parts (nat_le 1 (length xs.0)) (list_all is_word xs.0) f.0).0) f.1

-- Gaps

gapless : (ks : List Kind) (xs : Values ks) → all_absent ks xs ≡ true → has_gap ks xs ≡ false
gapless [] xs h = refl
gapless (kind.OptionalWord ∷ ks) xs h =
    let rest = (and_parts (not (is_some xs.0)) (all_absent ks xs.1) h).1 in
    rw rest (gapless ks xs.1 rest)
gapless (kind.OptionalText ∷ ks) xs h = gapless ks xs.1 (and_parts (not (is_some xs.0)) (all_absent ks xs.1) h).1
gapless (kind.LoginFlags ∷ ks) xs h = gapless ks xs.1 (and_parts (not xs.0) (all_absent ks xs.1) h).1
gapless (k ∷ ks) xs h = absurd (let n : ⊥ = cc in n)

-- a row of values, of which none is there
record NothingRead (ks : List Kind) (maker : Maker ks) (c : Command) : Type 0 where
  values : Values ks
  made : c ≡ applied ks maker values
  absent : all_absent ks values ≡ true

no_next : (w behind : List ℕ) → NextWord [] w behind → ⊥
no_next w behind n =
    let whole = ap length n.whole in let some = n.some_space in omega (arith, whole, length-append n.gap (w ++ behind))

-- where nothing is left an argument is missing, or is not there
nothing_left : (k : Kind) (K : Value k → List ℕ → Command → Type 0) (c : Command) → Argument k K [] c
    → IsUnread c ⊎ ((x : Value k) × (is_absent k x ≡ true) × K x [] c)
nothing_left kind.Word K c (inl x) = inl (_, x.1)
nothing_left kind.Word K c (inr x) = absurd (no_next x.0 x.1 x.2)
nothing_left kind.OptionalWord K c (inl x) = inr (None, refl, x.1)
nothing_left kind.OptionalWord K c (inr x) = absurd (no_next x.0 x.1 x.2)
nothing_left kind.Name K c (inl x) = inl (_, x.1)
nothing_left kind.Name K c (inr x) = absurd (no_next x.0 x.1 x.2)
nothing_left (kind.Natural high) K c (inl x) = inl (_, x.1)
nothing_left (kind.Natural high) K c (inr x) = absurd (no_next x.0 x.1 x.2)
nothing_left kind.Wide K c (inl x) = inl (_, x.1)
nothing_left kind.Wide K c (inr x) = absurd (no_next x.0 x.1 x.2)
nothing_left kind.Flag K c (inl x) = inl (_, x.1)
nothing_left kind.Flag K c (inr x) = absurd (no_next x.0 x.1 x.2)
nothing_left kind.Sentence K c m = inl (_, m)
nothing_left kind.Text K c m = inl (_, m)
nothing_left kind.OptionalText K c m = inr (None, refl, m)
nothing_left kind.LoginFlags K c m = inr (false, refl, m)
nothing_left kind.Pairs K c m = inl (_, m)
nothing_left kind.Words K c m = no_words m.0 m.1 m.2
  where
    no_words : (words : List (List ℕ)) → AreWords [] words
        → MatchBool (list_any (has_byte 9) words) (IsFault fault.BadByte c) (AtLeastOne (λ ws. K ws []) words c)
        → IsUnread c ⊎ ((x : List (List ℕ)) × (false ≡ true) × K x [] c)
    no_words [] are h = inl (_, h)
    no_words (w ∷ ws) are h = absurd (no_next w are.0 are.1)

nothing_row : (ks : List Kind) (maker : Maker ks) (c : Command) → Row ks maker [] c
    → IsUnread c ⊎ NothingRead ks maker c
nothing_row [] maker c m = inr (record { values = tt; made = m; absent = refl })
nothing_row (k ∷ ks) maker c m =
    unless_unread (nothing_left k (λ x. Row ks (maker x)) c m) λ t. unless_unread (nothing_row ks (maker t.0) c t.2)
    λ more. inr (record {
      values = (t.0, more.values);
      made = more.made;
      absent = and_from (is_absent k t.0) (all_absent ks more.values) t.1 more.absent;
    })

-- the values of a row that was read: they have no gap, and are written no longer than they stood
record RowRead (ks : List Kind) (maker : Maker ks) (rest : List ℕ) (c : Command) : Type 0 where
  values : Values ks
  made : c ≡ applied ks maker values
  no_gap : has_gap ks values ≡ false
  room : (separator : ℕ) → length (all_written separator ks values) ≤ length rest

next_row : (k : Kind) (ks : List Kind) (maker : Maker (k ∷ ks)) (rest : List ℕ) (c : Command) → is_other k ≡ true
    → ((xs : Values (k ∷ ks)) → has_gap (k ∷ ks) xs ≡ has_gap ks xs.1)
    → ((m : Maker ks) (r : List ℕ) → IsTrue (is_text r) → Row ks m r c → IsUnread c ⊎ RowRead ks m r c)
    → IsTrue (is_text rest) → Row (k ∷ ks) maker rest c → IsUnread c ⊎ RowRead (k ∷ ks) maker rest c
next_row k ks maker rest c other same each h m =
    unless_unread (kind_read k (λ x. Row ks (maker x)) rest c other h m) λ t.
    unless_unread (each (maker t.value) t.behind t.text t.next) λ more. inr (record {
      values = (t.value, more.values);
      made = more.made;
      no_gap = same (t.value, more.values) ∙ more.no_gap;
      room = λ separator. let r = t.room separator in let s = more.room (separator_behind k separator) in
          omega (arith, length-append (written separator k t.value) (all_written (separator_behind k separator) ks more.values));
    })

none_after : (t : Bool) → (not t && false) ≡ false
none_after true = refl
none_after false = refl

row_read : (ks : List Kind) (maker : Maker ks) (rest : List ℕ) (c : Command) → IsTrue (is_text rest)
    → Row ks maker rest c → IsUnread c ⊎ RowRead ks maker rest c
row_read [] maker rest c h m = inr (record { values = tt; made = m; no_gap = refl; room = λ separator. omega arith })
row_read (kind.OptionalWord ∷ ks) maker rest c h (inl x) =
    unless_unread (nothing_row ks (maker None) c x.1) λ more. inr (record {
      values = (None, more.values);
      made = more.made;
      no_gap = rw more.absent (gapless ks more.values more.absent);
      room = λ separator. let e = ap length (absent_text separator ks more.values more.absent) in omega arith;
    })
row_read (kind.OptionalWord ∷ ks) maker rest c h (inr x) =
    unless_unread (kind_read kind.Word (λ w. Row ks (maker (Some w))) rest c refl h (inr x)) λ t.
    unless_unread (row_read ks (maker (Some t.value)) t.behind c t.text t.next) λ more. inr (record {
      values = (Some t.value, more.values);
      made = more.made;
      no_gap = rw (none_after (all_absent ks more.values)) more.no_gap;
      room = λ separator. let r = t.room separator in let s = more.room separator in
          omega (arith, length-append (32 ∷ t.value) (all_written separator ks more.values));
    })
row_read (kind.Word ∷ ks) maker rest c h m =
    next_row kind.Word ks maker rest c refl (λ xs. refl) (λ n r. row_read ks n r c) h m
row_read (kind.Name ∷ ks) maker rest c h m =
    next_row kind.Name ks maker rest c refl (λ xs. refl) (λ n r. row_read ks n r c) h m
row_read (kind.Natural high ∷ ks) maker rest c h m =
    next_row (kind.Natural high) ks maker rest c refl (λ xs. refl) (λ n r. row_read ks n r c) h m
row_read (kind.Wide ∷ ks) maker rest c h m =
    next_row kind.Wide ks maker rest c refl (λ xs. refl) (λ n r. row_read ks n r c) h m
row_read (kind.Flag ∷ ks) maker rest c h m =
    next_row kind.Flag ks maker rest c refl (λ xs. refl) (λ n r. row_read ks n r c) h m
row_read (kind.Sentence ∷ ks) maker rest c h m =
    next_row kind.Sentence ks maker rest c refl (λ xs. refl) (λ n r. row_read ks n r c) h m
row_read (kind.Text ∷ ks) maker rest c h m =
    next_row kind.Text ks maker rest c refl (λ xs. refl) (λ n r. row_read ks n r c) h m
row_read (kind.OptionalText ∷ ks) maker rest c h m =
    next_row kind.OptionalText ks maker rest c refl (λ xs. refl) (λ n r. row_read ks n r c) h m
row_read (kind.LoginFlags ∷ ks) maker rest c h m =
    next_row kind.LoginFlags ks maker rest c refl (λ xs. refl) (λ n r. row_read ks n r c) h m
row_read (kind.Pairs ∷ ks) maker rest c h m =
    next_row kind.Pairs ks maker rest c refl (λ xs. refl) (λ n r. row_read ks n r c) h m
row_read (kind.Words ∷ ks) maker rest c h m =
    next_row kind.Words ks maker rest c refl (λ xs. refl) (λ n r. row_read ks n r c) h m

-- Commands

word_among : (es : List Entry) → EachWord es → (name : List ℕ) → IfSome (entry_named es name) (IsNamed name)
word_among [] h name = tt
word_among (e ∷ es) h name = by (is_same name e.word) refl (entry_named es name) (word_among es h.1 name)
  where
    by : (t : Bool) → is_same name e.word ≡ t → (o : Option Entry) → IfSome o (IsNamed name)
        → IfSome (cond t (Some e) o) (IsNamed name)
    by true is o others = (h.0, same_length name e.word is)
    by false is o others = others

-- the arguments of the command have no gap, and its word and they are no longer than the text
record TextRead (text : List ℕ) (c : Command) : Type 0 where
  no_gap : has_gap (arguments_of c).kinds (arguments_of c).values ≡ false
  room : (word : List ℕ) → HasWord c word → length (word ++ argument_text c) ≤ length text

pub wordless : (word : List ℕ) (c : Command) → IsUnread c → HasWord c word → ⊥
wordless word c f h = let e = word_only c word h in let n = ap word_named f.1 in let m : ⊥ = cc in m

unread : {text : List ℕ} {c : Command} → IsUnread c → TextRead text c
unread {text} {c} f = record {
  no_gap = subst (λ d. has_gap (arguments_of d).kinds (arguments_of d).values ≡ false) (sym f.1) refl;
  room = λ word h. absurd (wordless word c f h);
}

form_read : (text name rest : List ℕ) → text ≡ name ++ rest → (o : Option Entry) → command_named name ≡ o
    → (c : Command) → IsTrue (is_text rest) → Form o rest c → TextRead text c
form_read text name rest whole None named c h m = unread (_, m)
form_read text name rest whole (Some e) named c h m = elim (row_read e.kinds e.maker rest c h m) [
  | inl f ↦ unread f
  | inr t ↦
      let is : given e.kinds t.values ≡ arguments_of c =
      sym (ap arguments_of t.made ∙ entry_again name e named t.values) in
      let word = subst (λ o. IfSome o (IsNamed name)) named (word_among entries each_word name) in
      record {
        no_gap = subst (λ (a : Arguments). has_gap a.kinds a.values ≡ false) is t.no_gap;
        room = λ w h.
            let same : Some w ≡ Some e.word = sym (word_only c w h) ∙ ap word_named t.made ∙ word.0 t.values in
            let sizes : length w ≡ length e.word = ap length (same_Some w e.word same) in
            let arguments : length (argument_text c) ≤ length rest =
            subst (λ (a : Arguments). length (all_written 32 a.kinds a.values) ≤ length rest) is (t.room 32) in
            let all = ap length whole in
            let e_word = word.1 in
            omega (arith, length-append w (argument_text c), length-append name rest);
      }
]

asks_read : (text : List ℕ) (c : Command) → Asks text c → TextRead text c
asks_read [] c m =
    subst (TextRead []) (sym m) (record {
      no_gap = refl;
      room = λ word h. let e = word_only command.Blank word h in let none : [] ≡ word = same_Some [] word e in
          subst (λ (w : List ℕ). length (w ++ []) ≤ 0) none (omega arith);
    })
asks_read (b ∷ bs) c m = elim (if_so (is_text (b ∷ bs)) _ c _ m) [
  | inl f ↦ unread f
  | inr y ↦ form_read (b ∷ bs) y.1.name y.1.rest y.1.whole (command_named y.1.name) refl c
      (text_back y.1.name y.1.rest (subst (λ t. IsTrue (is_text t)) y.1.whole y.0)) y.1.form
]

-- Requests

small_id : (id : Option ℕ) → IfSome id (λ i. i ≤ id_limit) → is_id id ≡ true
small_id None h = refl
small_id (Some id) h = le-leb id id_limit h

pub no_fault : (line : List ℕ) (r : Request) → Reads line r → fault_of r ≡ None
no_fault line r h =
    let a = arguments_of r.command in
    let fit = (each_fits true a.kinds a.values (request_keeps line r h)).1 in
    rw (
      small_id r.id (request_id_keeps line r h),
      ranges true a.kinds a.values refl fit,
      lists true a.kinds a.values
          refl fit,
      (asks_read h.text r.command h.asks).no_gap,
    ) refl

id_room : (trimmed text : List ℕ) (id : Option ℕ) → Carries trimmed id text
    → length (id_text id) + length text ≤ length trimmed
id_room trimmed text None h = let e = ap length h.0 in omega arith
id_room trimmed text (Some id) h =
    let whole = ap length h.whole in
    let some = h.some_space in
    let digits : length (decimal id) ≤ length h.digits =
    subst (λ n. length (decimal n) ≤ length h.digits) (sym h.value) (digits_length h.digits h.are_digits) in
    omega (
      arith,
      whole,
      length-append h.digits (h.gap ++ text),
      length-append h.gap text,
      length-append (decimal id)
          (32 ∷ []),
    )

pub no_shorter : (r : Request) (line other : List ℕ) → Writes r line → Reads other r → length line ≤ length other
no_shorter r line other w h =
    let text = (asks_read h.text r.command h.asks).room w.word w.has_word in
    let id = id_room h.trimmed h.text r.id h.carries in
    let skips = ap length h.skips.whole in
    let whole = ap length w.whole in
    omega (arith, length-append h.skips.gap h.trimmed, length-append (id_text r.id) (w.word ++ argument_text r.command))
