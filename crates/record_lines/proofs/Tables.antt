-- Tables of settings and accounts, and the texts that are printed for them.
use Rattle.std.proofs.Common.{◌≡◌, ℕ, suc, ◌≤◌, true, false, List, [], ◌∷◌, ◌++◌, length, Some, refl, ap, sym, ◌∙◌, arith, append_assoc, append-nil, String, Global, string_bytes, Ordering, Less, Equal, Greater, string_bytes}
use Rattle.std.specs.Prelude.{codes}
use Rattle.std.specs.Str.{is_utf8}
use Rattle.std.specs.List.{list_all}
use Rattle.std.specs.Ordering.{match_ordering}
use Rattle.std.specs.String.{string_cmp}
use Rattle.std.specs.BTreeMap.{insert_entry}
use Rattle.std.proofs.lemmas.Bool.{and_parts}
use Rattle.toml_parser.specs.Lexical.{skip_blank, skip_from}
use Rattle.toml.specs.Data.{no_members, member, items_depth, items_have_valid_dates, items_are_sorted}
use Rattle.toml.specs.Tables.{Expression, array_table, no_nodes}
use Rattle.toml.specs.Text.{IsLinesText, IsDocumentText, expressions, are_tables, elements, pairs}
use Rattle.toml.specs.Parse.{parse_document, skip_bom, lines}
use Rattle.toml.specs.View.{view, members_view}
use Rattle.toml.specs.declared.value.Value.{Value}
use Rattle.toml.proofs.ReadBack.{parse_document-printed}
use Rattle.toml.proofs.ReadLines.{AllPrinted, line_turn, read_lines}
use Rattle.toml.specs.Tables.{close}
use Rattle.toml_parser.specs.Lexical.{first, skip_turn}
use Rattle.std.proofs.Common.{subst, option_map, ◌==◌}
use Rattle.std.proofs.lemmas.Bool.Decides.{nat_tests}
use Rattle.toml.proofs.Views.{Entry}
use Rattle.account_book.specs.Account.{Account}
use Rattle.lobby_model.specs.Configuration.{Configuration}
use Rattle.toml_fields.specs.Document.{document}
use Rattle.record_lines.specs.Head.{account_items, account_members, accounts_members, comment_line, gap_behind, is_printed, settings_members, text_items, with_member}

-- ---- the map of a table, with one more entry

pub inserted : (key : String Global) (value : Value) (entries : List Entry)
    → members_view (insert_entry string_cmp entries key value)
    ≡ with_member (string_bytes key) (view value) (members_view entries)
inserted key value [] = refl
inserted key value (e ∷ es) = by (string_cmp key e.0) refl (inserted key value es)
  where
    by : (o : Ordering) → o ≡ string_cmp key e.0
        → members_view (insert_entry string_cmp es key value) ≡ with_member (string_bytes key) (view value) (members_view es)
        → members_view (match_ordering o ((key, value) ∷ e ∷ es) ((e.0, value) ∷ es) (e ∷ insert_entry string_cmp es key value))
        ≡ match_ordering o (member (string_bytes key) (view value) (members_view (e ∷ es)))
        (member (string_bytes e.0) (view value) (members_view es))
        (member (string_bytes e.0) (view e.1) (with_member (string_bytes key) (view value) (members_view es)))
    by Less same rest = refl
    by Equal same rest = refl
    by Greater same rest = ap (member (string_bytes e.0) (view e.1)) rest

-- ---- the lines of accounts

abbrev pub account_lines : Account → List Expression
account_lines account = (([], codes "account"), array_table) ∷ pairs (account_members account)

abbrev pub rows : List Account → List Expression
rows [] = []
rows (account ∷ accounts) = account_lines account ++ rows accounts

all_tables : (accounts : List Account) → are_tables (account_items accounts) ≡ true
all_tables [] = refl
all_tables (a ∷ accounts) = all_tables accounts

elements_are : (accounts : List Account) → elements ([], codes "account") (account_items accounts) ≡ rows accounts
elements_are [] = refl
elements_are (a ∷ accounts) = ap (λ (es : List Expression). account_lines a ++ es) (elements_are accounts)

pub lines_are : (accounts : List Account) → expressions (accounts_members accounts) ≡ rows accounts
lines_are [] = refl
lines_are (a ∷ accounts) = rw (all_tables accounts) (append-nil _ ∙ elements_are (a ∷ accounts))

rows_append : (front back : List Account) → rows (front ++ back) ≡ rows front ++ rows back
rows_append [] back = refl
rows_append (a ∷ front) back =
    ap (λ (es : List Expression). account_lines a ++ es) (rows_append front back)
    ∙ sym (append_assoc (account_lines a) (rows front) (rows back))

lines_then : (es fs : List Expression) (a b : List ℕ) → IsLinesText false true es a → IsLinesText false true fs b
    → IsLinesText false true (es ++ fs) (a ++ b)
lines_then [] fs a b none more = rw none more
lines_then (e ∷ es) fs a b (this, rest, whole, line, left) more =
    (this, rest ++ b, ap (λ (x : List ℕ). x ++ b) whole ∙ append_assoc this rest b, line, lines_then es fs rest b left more)

-- the lines of one account or more begin with a bracket, and stand behind others with an empty line before them
gap_is : (a : Account) (accounts : List Account) (text : List ℕ) → IsLinesText false false (rows (a ∷ accounts)) text
    → gap_behind text ≡ 10 ∷ []
gap_is a accounts text (this, rest, whole, line, more) = rw (whole, line) refl

behind : (a : Account) (accounts : List Account) (text : List ℕ) → IsLinesText false false (rows (a ∷ accounts)) text
    → IsLinesText false true (rows (a ∷ accounts)) (10 ∷ text)
behind a accounts text (this, rest, whole, line, more) =
    (10 ∷ this, rest, ap (λ (x : List ℕ). 10 ∷ x) whole, ap (λ (x : List ℕ). 10 ∷ x) line, more)

followed : (a : Account) (accounts : List Account) (es : List Expression) (old tail : List ℕ)
    → IsLinesText false false (rows (a ∷ accounts)) old → IsLinesText false true es tail
    → IsLinesText false false (rows (a ∷ accounts) ++ es) (old ++ tail)
followed a accounts es old tail (this, rest, whole, line, more) later =
    (this, rest ++ tail, ap (λ (x : List ℕ). x ++ tail) whole ∙ append_assoc this rest tail, line, lines_then (pairs (account_members a) ++ rows accounts) es rest tail more later)

pub joined : (front : List Account) (b : Account) (old text : List ℕ) → IsDocumentText false (accounts_members front) old
    → IsDocumentText false (accounts_members (b ∷ [])) text
    → IsDocumentText false (accounts_members (front ++ b ∷ [])) (old ++ (gap_behind old ++ text))
joined [] b old text none after = rw none after
joined (a ∷ front) b old text before after =
    let at = λ (accounts : List Account) (t : List ℕ). IsLinesText false false (rows accounts) t in
    let here : at (a ∷ front) old = subst (λ es. IsLinesText false false es old) (lines_are (a ∷ front)) before in
    let last : at (b ∷ []) text = subst (λ es. IsLinesText false false es text) (lines_are (b ∷ [])) after in
    subst (λ es. IsLinesText false false es (old ++ (gap_behind old ++ text)))
    (sym (lines_are (a ∷ front ++ b ∷ []) ∙ rows_append (a ∷ front) (b ∷ [])))
    (subst (λ (gap : List ℕ). IsLinesText false false (rows (a ∷ front) ++ rows (b ∷ [])) (old ++ (gap ++ text)))
    (sym (gap_is a front old here))
    (followed a front (rows (b ∷ [])) old (10 ∷ text) here (behind b [] text last)))

-- ---- accounts are read

shallow : (accounts : List Account) → items_depth (account_items accounts) ≤ 1
shallow [] = omega arith
shallow (a ∷ accounts) = omega (arith, shallow accounts)

dates : (accounts : List Account) → items_have_valid_dates (account_items accounts) ≡ true
dates [] = refl
dates (a ∷ accounts) = dates accounts

sorted : (accounts : List Account) → items_are_sorted (account_items accounts) ≡ true
sorted [] = refl
sorted (a ∷ accounts) = sorted accounts

pub accounts_read : (accounts : List Account) (text : List ℕ) → IsDocumentText false (accounts_members accounts) text
    → is_utf8 text ≡ true → document text ≡ Some (accounts_members accounts)
accounts_read [] text h valid = rw valid (parse_document-printed false no_members text h (omega arith) refl refl)
accounts_read (a ∷ accounts) text h valid =
    rw valid (parse_document-printed false (accounts_members (a ∷ accounts)) text h (omega (arith, shallow (a ∷ accounts)))
    (rw (dates (a ∷ accounts)) refl) (rw (sorted (a ∷ accounts)) refl))

-- ---- settings are read, behind a comment too

flat : (texts : List (List ℕ)) → items_depth (text_items texts) ≤ 0
flat [] = omega arith
flat (t ∷ texts) = omega (arith, flat texts)

text_dates : (texts : List (List ℕ)) → items_have_valid_dates (text_items texts) ≡ true
text_dates [] = refl
text_dates (t ∷ texts) = text_dates texts

text_sorted : (texts : List (List ℕ)) → items_are_sorted (text_items texts) ≡ true
text_sorted [] = refl
text_sorted (t ∷ texts) = text_sorted texts

settings_printed : (settings : Configuration) (motd : List (List ℕ)) → settings.motd ≡ motd
    → AllPrinted (expressions (settings_members settings))
settings_printed settings [] is =
    rw is ((refl, omega arith, refl), ((refl, omega arith, refl), ((refl, omega arith, refl), ((refl, omega arith, refl), ((refl, omega arith, refl), ((refl, omega arith, refl), ((refl, omega arith, refl), tt)))))))
settings_printed settings (t ∷ motd) is =
    rw is ((refl, omega arith, refl), ((refl, omega (arith, flat motd), text_dates motd), ((refl, omega arith, refl), ((refl, omega arith, refl), ((refl, omega arith, refl), ((refl, omega arith, refl), ((refl, omega arith, refl), tt)))))))

settings_parsed : (settings : Configuration) (text : List ℕ) → IsDocumentText false (settings_members settings) text
    → parse_document text ≡ Some (settings_members settings)
settings_parsed settings text h =
    parse_document-printed false (settings_members settings) text h (omega (arith, flat settings.motd))
    (rw (text_dates settings.motd) refl) (rw (text_sorted settings.motd) refl)

not_bom : (es : List Expression) (text : List ℕ) → IsLinesText false false es text → AllPrinted es
    → (first text == 239) ≡ false
not_bom [] text none ok = rw none refl
not_bom (e ∷ es) text (this, rest, whole, line, more) ok =
    rw whole (line_turn false false e.0 e.1 this rest line ok.0).5

no_bom : (text : List ℕ) → (first text == 239) ≡ false → skip_bom text ≡ text
unfolding skip_bom
no_bom text h = rw h refl

inside : (words text : List ℕ) → list_all is_printed words ≡ true
    → skip_from true true (words ++ 10 ∷ text) ≡ skip_from true false text
unfolding skip_from
inside [] text all = refl
inside (c ∷ words) text all =
    let parts = and_parts (is_printed c) (list_all is_printed words) all in
    let goes : skip_turn true true c (first (words ++ 10 ∷ text)) ≡ Some true = grind (arith, nat_tests) in
    rw goes (inside words text parts.1)

skip_comment : (words text : List ℕ) → list_all is_printed words ≡ true
    → skip_blank (comment_line words ++ text) ≡ skip_blank text
unfolding skip_from
skip_comment words text all = rw (append_assoc words (10 ∷ []) text) (inside words text all)

pub behind_comment : (settings : Configuration) (words text : List ℕ) → list_all is_printed words ≡ true
    → IsDocumentText false (settings_members settings) text
    → parse_document (comment_line words ++ text) ≡ Some (settings_members settings)
unfolding parse_document
behind_comment settings words text all h =
    let es = expressions (settings_members settings) in
    let ok = settings_printed settings settings.motd refl in
    let x = comment_line words ++ text in
    let alone = read_lines false false es text text (no_nodes, []) (suc (length text)) h ok refl (omega arith) in
    let whole = read_lines false false es text x (no_nodes, []) (suc (length x)) h ok (skip_comment words text all) (omega arith) in
    let parsed = settings_parsed settings text h in
    ap (λ o. option_map (λ doc. close doc.0) o) (ap (lines (suc (length x)) (no_nodes, [])) (no_bom x refl) ∙ whole ∙ sym alone
    ∙ sym (ap (lines (suc (length text)) (no_nodes, [])) (no_bom text (not_bom es text h ok)))) ∙ parsed
