-- What is written of fields is the line of the request that they are.
use Rattle.std.proofs.Common.{◌≡◌, ◌++◌, ◌<◌, ◌≤◌, ◌∙◌, ℕ, List, [], ◌∷◌, length, refl, sym, ap, subst, append_assoc, cond, inr, arith, rules, map}
use Rattle.std.specs.Prelude.{Bool, true, false, not, ◌&&◌, ◌||◌, ◌==◌, nat_le, ℤ, pos, negsuc, Option, Some, None, Result, Ok, Err, slice_get, zero, suc}
use Rattle.std.proofs.lemmas.Bool.{le-leb, and_from, or_left}
use Rattle.line_words.specs.Kinds.{is_wide}
use Rattle.command_grammar.specs.declared.command.Command.{Command}
use Rattle.command_grammar.specs.declared.command.Request.{Request}
use Rattle.command_grammar.specs.Forms.{applied, command_named}
use Rattle.command_grammar.specs.Table as kind
use Rattle.command_grammar.specs.Table.{Kind, Value, Values, Entry, Arguments, given, arguments_of, entries, battle_entries, room_entries, host_entries}
use Rattle.command_grammar.proofs.ArgumentBounds.{entry_again}
use Rattle.command_grammar.specs.Reads.{id_limit}
use Rattle.reply_kinds.specs.Replies.{id_text}
use Rattle.request_printer.specs.Faults.{is_absent, all_absent, has_gap, in_range, all_listed, is_id, fault_in, fault_of, line_limit}
use Rattle.request_printer.specs.Writing.{written, separator_behind, all_written, HasWord, line_under}
use Rattle.request_printer.specs.declared.error.PrintError.TheVariants as print
use Rattle.request_printer.proofs.Told.{printed, line_refused}
use Rattle.lobby_lines.specs.declared.fields.FieldRow.{FieldRow}
use Rattle.lobby_lines.specs.declared.fields.HeadRow.{HeadRow}
use Rattle.lobby_lines.specs.declared.error.RequestError.{RequestError}
use Rattle.lobby_lines.specs.declared.error.RequestError.TheVariants as error
use Rattle.lobby_lines.specs.declared.request_table.RequestRow.{RequestRow}
use Rattle.lobby_lines.specs.Requests.{◌>>=◌, kind_of, argument, arguments, all_words, all_pairs, entry_at, first, id_of, if_natural, if_wide, listed, natural_of, number_of, one, request_of, unless_skipped, wide_of}
use Rattle.lobby_lines.specs.RequestTable.{IsRowOf}
use Rattle.lobby_lines.specs.Writing.{Blames, IsLine, IsRefused, Part, PutAll, parts}

-- The text of arguments is that of their values

parts_values : (m : Bool) (separator : ℕ) (text : List ℕ) (ks : List Kind) (fs : List FieldRow)
    → parts m separator text ks fs ≡ (arguments text m ks fs >>= λ xs. Ok (all_written separator ks xs))
parts_values m separator text [] [] = refl
parts_values m separator text [] (f ∷ fs) = refl
parts_values m separator text (k ∷ ks) fs =
    by (argument text k fs) (λ x. parts_values (m || is_absent k x.0) (separator_behind k separator) text ks x.1)
  where
    both : Value k → Values ks → Values (k ∷ ks)
    both x xs = (x, xs)

    seen : Value k × List FieldRow → Part
    seen x = record { text = written separator k x.0; absent = is_absent k x.0; behind = x.1 }

    last : (b : Bool) (x : Value k) (os : Result (Values ks) RequestError) (r : Result (List ℕ) RequestError)
        → r ≡ (os >>= λ xs. Ok (all_written (separator_behind k separator) ks xs))
        → cond b (Err error.Skipped) (r >>= λ t. Ok (written separator k x ++ t))
        ≡ (cond b (Err error.Skipped) (os >>= λ xs. Ok (both x xs)) >>= λ xs. Ok (all_written separator (k ∷ ks) xs))
    last true x os r is = refl
    last false x (Ok xs) r is = ap (λ q. q >>= λ t. Ok (written separator k x ++ t)) is
    last false x (Err e) r is = ap (λ q. q >>= λ t. Ok (written separator k x ++ t)) is

    by : (o : Result (Value k × List FieldRow) RequestError)
        → ((x : Value k × List FieldRow) → parts (m || is_absent k x.0) (separator_behind k separator) text ks x.1
        ≡ (arguments text (m || is_absent k x.0) ks x.1 >>= λ xs. Ok (all_written (separator_behind k separator) ks xs)))
        → ((o >>= λ x. Ok (seen x)) >>= λ p. unless_skipped m p.absent (parts (m || p.absent) (separator_behind k separator) text ks p.behind >>= λ t. Ok (p.text ++ t)))
        ≡ ((o >>= λ x. unless_skipped m (is_absent k x.0) (arguments text (m || is_absent k x.0) ks x.1 >>= λ xs. Ok (both x.0 xs))) >>= λ xs. Ok (all_written separator (k ∷ ks) xs))
    by (Err e) more = refl
    by (Ok x) more = last (m && not (is_absent k x.0)) x.0 (arguments text (m || is_absent k x.0) ks x.1) _ (more x)

-- Nothing keeps them from being printed

ok_bind : {A B : Type 0} (r : Result A RequestError) (f : A → Result B RequestError) (y : B) → (r >>= f) ≡ Ok y → (x : A) × (r ≡ Ok x) × (f x ≡ Ok y)
ok_bind (Ok x) f y e = (x, refl, e)
ok_bind (Err e) f y is = absurd (let no : ⊥ = cc in no)

ok_if : {A : Type 0} (b : Bool) (x y : A) (e : RequestError) → cond b (Ok x) (Err e) ≡ Ok y → (b ≡ true) × (x ≡ y)
ok_if true x y e is = (refl, (let same : x ≡ y = cc in same))
ok_if false x y e is = absurd (let no : ⊥ = cc in no)

abbrev done : {A : Type 0} → A → Result A RequestError
done x = Ok x

ok_is : {A : Type 0} (x y : A) → done x ≡ done y → x ≡ y
ok_is x y is = let same : x ≡ y = cc in same

ok_unless : {A : Type 0} (m a : Bool) (v : Result A RequestError) (y : A) → unless_skipped m a v ≡ Ok y → (v ≡ Ok y) × (m ≡ true → a ≡ true)
ok_unless true true v y is = (is, λ h. refl)
ok_unless true false v y is = absurd (let no : ⊥ = cc in no)
ok_unless false a v y is = (is, λ h. absurd (let no : ⊥ = cc in no))

abbrev Good : (k : Kind) → Value k → Type 0
Good (kind.Natural high) n = nat_le n high ≡ true
Good kind.Wide z = is_wide z ≡ true
Good kind.Pairs ps = nat_le 1 (length ps) ≡ true
Good kind.Words ws = nat_le 1 (length ws) ≡ true
Good k x = Unit {0}

if_natural_good : (high : ℕ) (z : ℤ) (n : ℕ) → if_natural high z ≡ Ok n → nat_le n high ≡ true
if_natural_good high (pos m) n is = let g = ok_if (nat_le m high) m n error.OutOfRange is in subst (λ x. nat_le x high ≡ true) g.1 g.0
if_natural_good high (negsuc m) n is = absurd (let no : ⊥ = cc in no)

one_good : {A : Type 0} (value : FieldRow → Result A RequestError) (fs : List FieldRow) (x : A × List FieldRow) → one value fs ≡ Ok x
    → (f : FieldRow) × (value f ≡ Ok x.0)
one_good value fs x is =
    let f = ok_bind (first fs) (λ f. value f.0 >>= λ y. Ok (y, f.1)) x is in
    let v = ok_bind (value f.0.0) (λ y. Ok (y, f.0.1)) x f.2 in
    (f.0.0, v.1 ∙ ap Ok (ap (λ p. p.0) (ok_is (v.0, f.0.1) x v.2)))

listed_good : {A : Type 0} (o : Result (List A) RequestError) (x : List A × List FieldRow) → (o >>= listed) ≡ Ok x → nat_le 1 (length x.0) ≡ true
listed_good (Err e) x is = absurd (let no : ⊥ = cc in no)
listed_good (Ok []) x is = absurd (let no : ⊥ = cc in no)
listed_good (Ok (y ∷ ys)) x is = subst (λ p. nat_le 1 (length p.0) ≡ true) (ok_is (y ∷ ys, []) x is) (some (length ys))
  where
    some : (n : ℕ) → nat_le 1 (suc n) ≡ true
    some n = le-leb 1 (suc n) (omega arith)

good : (text : List ℕ) (k : Kind) (fs : List FieldRow) (x : Value k × List FieldRow) → argument text k fs ≡ Ok x → Good k x.0
good text kind.Word fs x is = tt
good text (kind.Natural high) fs x is =
    let f = one_good (natural_of high) fs x is in
    let z = ok_bind (number_of f.0) (if_natural high) x.0 f.1 in
    if_natural_good high z.0 x.0 z.2
good text kind.Wide fs x is =
    let f = one_good wide_of fs x is in
    let z = ok_bind (number_of f.0) if_wide x.0 f.1 in
    let g = ok_if (is_wide z.0) z.0 x.0 error.OutOfRange z.2 in
    subst (λ y. is_wide y ≡ true) g.1 g.0
good text kind.Pairs fs x is = listed_good (all_pairs text fs) x is
good text kind.Words fs x is = listed_good (all_words text fs) x is
good text k fs x is = tt

record Fine (m : Bool) (ks : List Kind) (xs : Values ks) : Type 0 where
  range : in_range true ks xs ≡ true
  listed_so : all_listed true ks xs ≡ true
  gap : has_gap ks xs ≡ false
  absent : m ≡ true → all_absent ks xs ≡ true

range_next : (k : Kind) (ks : List Kind) (x : Value k) (xs : Values ks) → Good k x → in_range true ks xs ≡ true → in_range true (k ∷ ks) (x, xs) ≡ true
range_next (kind.Natural high) ks x xs g more = rw g more
range_next kind.Wide ks x xs g more = rw g more
range_next k ks x xs g more = more

listed_next : (k : Kind) (ks : List Kind) (x : Value k) (xs : Values ks) → Good k x → all_listed true ks xs ≡ true → all_listed true (k ∷ ks) (x, xs) ≡ true
listed_next kind.Pairs ks x xs g more = rw g more
listed_next kind.Words ks x xs g more = rw g more
listed_next k ks x xs g more = more

or_true : (m : Bool) → (m || true) ≡ true
or_true true = refl
or_true false = refl

gap_next : (m : Bool) (k : Kind) (ks : List Kind) (x : Value k) (xs : Values ks) → ((m || is_absent k x) ≡ true → all_absent ks xs ≡ true)
    → has_gap ks xs ≡ false → has_gap (k ∷ ks) (x, xs) ≡ false
gap_next m kind.OptionalWord ks None xs absent more = rw (absent (or_true m), more) refl
gap_next m kind.OptionalWord ks (Some w) xs absent more = rw more (by (all_absent ks xs))
  where
    by : (b : Bool) → ((not b && false) || false) ≡ false
    by true = refl
    by false = refl
gap_next m k ks x xs absent more = more

abbrev both : (k : Kind) (ks : List Kind) → Value k → Values ks → Values (k ∷ ks)
both k ks x xs = (x, xs)

fine : (text : List ℕ) (m : Bool) (ks : List Kind) (fs : List FieldRow) (xs : Values ks) → arguments text m ks fs ≡ Ok xs → Fine m ks xs
fine text m [] [] xs is = record { range = refl; listed_so = refl; gap = refl; absent = λ h. refl }
fine text m [] (f ∷ fs) xs is = absurd (let no : ⊥ = cc in no)
fine text m (k ∷ ks) fs xs is =
    let a = ok_bind (argument text k fs)
    (λ x. unless_skipped m (is_absent k x.0) (arguments text (m || is_absent k x.0) ks x.1 >>= λ ys. Ok (both k ks x.0 ys))) xs is in
    let x = a.0 in
    let u = ok_unless m (is_absent k x.0) (arguments text (m || is_absent k x.0) ks x.1 >>= λ ys. Ok (both k ks x.0 ys)) xs a.2 in
    let b = ok_bind (arguments text (m || is_absent k x.0) ks x.1) (λ ys. Ok (both k ks x.0 ys)) xs u.0 in
    let rest = fine text (m || is_absent k x.0) ks x.1 b.0 b.1 in
    let g = good text k fs x a.1 in
    subst (λ (zs : Values (k ∷ ks)). Fine m (k ∷ ks) zs) (ok_is (both k ks x.0 b.0) xs b.2) (record {
      range = range_next k ks x.0 b.0 g rest.range;
      listed_so = listed_next k ks x.0 b.0 g rest.listed_so;
      gap = gap_next m k ks x.0 b.0 rest.absent rest.gap;
      absent = λ h. and_from (is_absent k x.0) (all_absent ks b.0) (u.1 h) (rest.absent (or_left m (is_absent k x.0) h));
    })

no_fault_in : (ks : List Kind) (xs : Values ks) → Fine false ks xs → fault_in ks xs ≡ None
no_fault_in ks xs f = rw (f.range, f.listed_so, f.gap) refl

-- The request

-- the entries have words of their own
abbrev Named : List Entry → Type 0
Named [] = Unit {0}
Named (e ∷ es) = (command_named e.word ≡ Some e) × Named es

all_named : Named entries
unfolding entries battle_entries room_entries host_entries
all_named = search rules

named_at : (es : List Entry) → Named es → (k : ℕ) (e : Entry) → slice_get es k ≡ Some e → command_named e.word ≡ Some e
named_at [] h k e is = absurd (let no : ⊥ = cc in no)
named_at (d ∷ es) h zero e is = let same : d ≡ e = cc in subst (λ f. command_named f.word ≡ Some f) same h.0
named_at (d ∷ es) h (suc k) e is = named_at es h.1 k e is

named_so : (k : ℕ) (e : Entry) → entry_at k ≡ Some e → command_named e.word ≡ Some e
named_so zero e is = absurd (let no : ⊥ = cc in no)
named_so (suc k) e is = named_at entries all_named k e is

id_good : (h : HeadRow) (id : Option ℕ) → id_of h ≡ Ok id → is_id id ≡ true
id_good h id is = by (h.numbered == 0) is
  where
    by : (b : Bool) → cond b (Ok None) (cond (nat_le h.id id_limit) (Ok (Some h.id)) (Err error.OutOfRange)) ≡ Ok id → is_id id ≡ true
    by true is = subst (λ i. is_id i ≡ true) (ok_is None id is) refl
    by false is = let g = ok_if (nat_le h.id id_limit) (Some h.id) id error.OutOfRange is in subst (λ i. is_id i ≡ true) g.1 g.0

abbrev request : Option ℕ → Command → Request
request id c = record { id = id; command = c }

-- what was written so far is the line of the request that was asked for
pub record Whole (h : HeadRow) (fs : List FieldRow) (text line : List ℕ) : Type 0 where
  pub made : Request
  pub is : request_of h fs text ≡ Ok made
  pub word : List ℕ
  pub has : HasWord made.command word
  pub fault : fault_of made ≡ None
  pub text_is : line ≡ line_under made word

asked : (h : HeadRow) (fs : List FieldRow) (text : List ℕ) (e : Entry) (id : Option ℕ) (t : List ℕ) → entry_at h.kind ≡ Some e
    → id_of h ≡ Ok id → parts false 32 text e.kinds fs ≡ Ok t → Whole h fs text (id_text id ++ (e.word ++ t))
asked h fs text e id t entry id_is put =
    let named = named_so h.kind e entry in
    let a = ok_bind (arguments text false e.kinds fs) (λ xs. Ok (all_written 32 e.kinds xs)) t (sym (parts_values false 32 text e.kinds fs) ∙ put) in
    let again = entry_again e.word e named a.0 in
    let none = no_fault_in e.kinds a.0 (fine text false e.kinds fs a.0 a.1) in
    record {
      made = request id (applied e.kinds e.maker a.0);
      is = with_entry h fs text e id a.0 entry id_is a.1;
      word = e.word;
      has = inr (record { entry = e; named = named; word_is = refl; values = a.0; made = refl });
      fault = rw (id_good h id id_is) (subst (λ (g : Arguments). fault_in g.kinds g.values ≡ None) (sym again) none);
      text_is = sym (ap (λ (w : List ℕ). id_text id ++ (e.word ++ w))
          (ap (λ (g : Arguments). all_written 32 g.kinds g.values) again ∙ ok_is (all_written 32 e.kinds a.0) t a.2));
    }
  where
    with_entry : (h : HeadRow) (fs : List FieldRow) (text : List ℕ) (e : Entry) (id : Option ℕ) (xs : Values e.kinds) → entry_at h.kind ≡ Some e
        → id_of h ≡ Ok id → arguments text false e.kinds fs ≡ Ok xs → request_of h fs text ≡ Ok (request id (applied e.kinds e.maker xs))
    with_entry h fs text e id xs entry id_is is = rw (entry, id_is, is) refl

pub wrote : (h : HeadRow) (fs : List FieldRow) (text : List ℕ) (row : RequestRow) (id : Option ℕ) (a b c d : List ℕ) → IsRowOf (entry_at h.kind) row
    → id_of h ≡ Ok id → a ≡ [] → b ≡ a ++ id_text id → c ≡ b ++ row.word.now → PutAll (parts false 32 text (map kind_of row.kinds.now) fs) c d
    → Whole h fs text d
wrote h fs text row id a b c d is_row id_is none with_id with_word put = by (entry_at h.kind) refl is_row
  where
    line : (e : Entry) (t : List ℕ) → row.word.now ≡ e.word → d ≡ c ++ t → d ≡ id_text id ++ (e.word ++ t)
    line e t word is =
        is ∙ ap (λ (x : List ℕ). x ++ t) (with_word ∙ ap (λ (x : List ℕ). x ++ row.word.now) (with_id ∙ ap (λ (x : List ℕ). x ++ id_text id) none))
        ∙ append_assoc (id_text id) row.word.now t ∙ ap (λ (w : List ℕ). id_text id ++ (w ++ t)) word

    so : (e : Entry) → entry_at h.kind ≡ Some e → row.word.now ≡ e.word → (o : Result (List ℕ) RequestError) → parts false 32 text e.kinds fs ≡ o
        → PutAll o c d → Whole h fs text d
    so e entry word (Err f) is put = absurd put
    so e entry word (Ok t) is put = subst (Whole h fs text) (sym (line e t word put)) (asked h fs text e id t entry id_is is)

    by : (o : Option Entry) → entry_at h.kind ≡ o → IsRowOf o row → Whole h fs text d
    by None entry is_row = absurd is_row
    by (Some e) entry is_row =
        so e entry is_row.0 (parts false 32 text e.kinds fs) refl (subst (λ ks. PutAll (parts false 32 text ks fs) c d) is_row.1 put)

pub is_line : (h : HeadRow) (fs : List FieldRow) (text line whole : List ℕ) → Whole h fs text line → length line ≤ line_limit
    → whole ≡ line ++ 10 ∷ [] → IsLine (request_of h fs text) whole
is_line h fs text line whole w short is =
    subst (λ o. IsLine o whole) (sym w.is) (printed w.made w.word [] whole w.has w.fault (is ∙ ap (λ (l : List ℕ). l ++ 10 ∷ []) w.text_is)
    (subst (λ (l : List ℕ). length l ≤ line_limit) w.text_is short))

pub is_too_long : (h : HeadRow) (fs : List FieldRow) (text line : List ℕ) → Whole h fs text line → line_limit < length line
    → IsRefused error.TooLong (request_of h fs text)
is_too_long h fs text line w long =
    subst (IsRefused error.TooLong) (sym w.is) (line_refused print.TooLong w.made w.word w.has w.fault
    (subst (λ (l : List ℕ). line_limit < length l) w.text_is long))

err_bind : {A B : Type 0} (r : Result A RequestError) (f : A → B) (e : RequestError) → (r >>= λ x. Ok (f x)) ≡ Err e → r ≡ Err e
err_bind (Ok x) f e is = absurd (let no : ⊥ = cc in no)
err_bind (Err g) f e is = let same : g ≡ e = cc in ap Err same

-- what keeps the fields from being a request
no_request : (e : RequestError) (h : HeadRow) (fs : List FieldRow) (text : List ℕ) (row : RequestRow) (id : Option ℕ) → IsRowOf (entry_at h.kind) row
    → id_of h ≡ Ok id → parts false 32 text (map kind_of row.kinds.now) fs ≡ Err e → request_of h fs text ≡ Err e
no_request e h fs text row id is_row id_is blamed = by (entry_at h.kind) refl is_row
  where
    so : (d : Entry) → entry_at h.kind ≡ Some d → arguments text false d.kinds fs ≡ Err e → request_of h fs text ≡ Err e
    so d entry is = rw (entry, id_is, is) refl

    by : (o : Option Entry) → entry_at h.kind ≡ o → IsRowOf o row → request_of h fs text ≡ Err e
    by None entry is_row = absurd is_row
    by (Some d) entry is_row =
        so d entry (err_bind (arguments text false d.kinds fs) (all_written 32 d.kinds) e
        (sym (parts_values false 32 text d.kinds fs) ∙ subst (λ ks. parts false 32 text ks fs ≡ Err e) is_row.1 blamed))

refused_so : (e : RequestError) (o : Result Request RequestError) → o ≡ Err e → IsRefused e o
refused_so error.Memory o is = subst (IsRefused error.Memory) (sym is) tt
refused_so e o is = subst (IsRefused e) (sym is) refl

pub is_blamed : (e : RequestError) (h : HeadRow) (fs : List FieldRow) (text : List ℕ) (row : RequestRow) (id : Option ℕ) → IsRowOf (entry_at h.kind) row
    → id_of h ≡ Ok id → Blames e (parts false 32 text (map kind_of row.kinds.now) fs) → IsRefused e (request_of h fs text)
is_blamed error.Memory h fs text row id is_row id_is blamed = any (request_of h fs text)
  where
    any : (o : Result Request RequestError) → IsRefused error.Memory o
    any (Ok r) = tt
    any (Err e) = tt
is_blamed e h fs text row id is_row id_is blamed = refused_so e (request_of h fs text) (no_request e h fs text row id is_row id_is blamed)
