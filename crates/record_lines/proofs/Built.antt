-- The tables that are built for settings and for an account, and the files of them.
use Rattle.std.proofs.Common.{◌≡◌, ℕ, ◌+◌, ◌<◌, ◌≤◌, Bool, true, false, List, [], ◌∷◌, ◌++◌, get_or, length, map, take, Result, Ok, Err, IfOk, Some, Vec, BTreeMap, String, Global, pos, refl, sym, ap, ◌∙◌, subst}
use Rattle.std.specs.Prelude.{codes}
use Rattle.std.specs.List.{list_all}
use Rattle.std.specs.Str.{is_utf8}
use Rattle.std.specs.Str.Lossy.{utf8_lossy}
use Rattle.std.proofs.lemmas.List.{take_more, take_all}
use Rattle.toml.specs.Data.{Data, string, integer, boolean, array, table, no_items, item, push_item, Members, no_members}
use Rattle.toml.specs.Text.{IsDocumentText}
use Rattle.toml.specs.View.{view, items_view, table_view}
use Rattle.toml.specs.declared.value.Value.{Value, Array, Table}
use Rattle.toml.proofs.Views.{items_view-push, view-Array, view-Table}
use Rattle.toml_fields.specs.Document.{document}
use Rattle.account_book.specs.Account.{Account, is_sound}
use Rattle.account_book.specs.Entries.{contents_of}
use Rattle.account_book.specs.Fields.{shown_contents}
use Rattle.account_book.specs.File.{entries_in, file_accounts, listed_accounts}
use Rattle.account_book.specs.declared.fields.Contents.{Contents}
use Rattle.lobby_model.specs.Configuration.{Configuration, is_configuration}
use Rattle.record_lines.specs.Head.{account_members, accounts_members, comment_line, is_printed, settings_members, spelled, spelled_account, text_items, with_member, SetsUp}
use Rattle.record_lines.specs.Masks.{hidden, passes}
use Rattle.record_lines.proofs.Masked.{hidden_sound}
use Rattle.record_lines.proofs.SettingsRead.{sets_up}
use Rattle.record_lines.proofs.Spelled.{account_same, address_kept, passes_kept, spelled_same}

-- ---- a list of texts

texts_push : (texts : List (List ℕ)) (text : List ℕ)
    → text_items (map utf8_lossy (texts ++ text ∷ [])) ≡ push_item (text_items (map utf8_lossy texts)) (string (utf8_lossy text))
texts_push [] text = refl
texts_push (t ∷ texts) text = ap (item (string (utf8_lossy t))) (texts_push texts text)

pub texts_more : (texts : List (List ℕ)) (k : ℕ) (text bytes : List ℕ) (old new : List Value) (value : Value)
    → items_view old ≡ text_items (map utf8_lossy (take k texts)) → k < length texts → text ≡ get_or texts k text
    → bytes ≡ text → view value ≡ string (utf8_lossy bytes) → new ≡ old ++ value ∷ []
    → items_view new ≡ text_items (map utf8_lossy (take (k + 1) texts))
texts_more texts k text bytes old new value so_far within is same seen more =
    let front : take (k + 1) texts ≡ take k texts ++ text ∷ [] =
    take_more texts k text within ∙ ap (λ (t : List ℕ). take k texts ++ t ∷ []) (sym is) in
    rw (more, items_view-push old value, so_far, seen, same, front) (sym (texts_push (take k texts) text))

pub texts_whole : (texts : List (List ℕ)) (k : ℕ) (values : Vec Value Global)
    → items_view values.items ≡ text_items (map utf8_lossy (take k texts)) → length texts ≤ k
    → view (Array values) ≡ array (text_items (map utf8_lossy texts))
texts_whole texts k values all over =
    view-Array values
    ∙ ap array (all ∙ ap (λ (ts : List (List ℕ)). text_items (map utf8_lossy ts)) (take_all k texts over))

-- ---- tables

pub account_built : (a : Account) (access bot : Bool) (country name : List ℕ) (id rank : ℕ) (seen_access seen_bot : Data)
    (t0 t1 t2 t3 t4 t5 t6 t7 : Members) → access ≡ a.access → bot ≡ a.bot → country ≡ a.country → id ≡ a.id
    → name ≡ a.name → rank ≡ a.rank → t0 ≡ no_members → seen_access ≡ boolean access → seen_bot ≡ boolean bot
    → t1 ≡ with_member (codes "access") seen_access t0
    → t2 ≡ with_member (codes "bot") seen_bot t1
    → t3 ≡ with_member (codes "country") (string (utf8_lossy country)) t2
    → t4 ≡ with_member (codes "id") (integer (pos id)) t3
    → t5 ≡ with_member (codes "name") (string (utf8_lossy name)) t4
    → t6 ≡ with_member (codes "password") (string (utf8_lossy passes)) t5
    → t7 ≡ with_member (codes "rank") (integer (pos rank)) t6
    → t7 ≡ account_members (spelled_account (hidden a))
account_built a access bot country name id rank d e t0 t1 t2 t3 t4 t5 t6 t7 ea eb ec ei en er z da db p1 p2 p3 p4 p5 p6 p7 =
    rw (p7, p6, p5, p4, p3, p2, p1, z, da, db, ea, eb, ec, ei, en, er, passes_kept) refl

pub settings_built : (s : Configuration) (limit port mode : ℕ) (protocol spring : List ℕ) (motd : List (List ℕ)) (seen : Data)
    (t0 t1 t2 t3 t4 t5 t6 t7 : Members) → limit ≡ s.outbox_limit → protocol ≡ s.protocol_version
    → spring ≡ s.spring_version → port ≡ s.udp_port → mode ≡ s.server_mode → motd ≡ s.motd
    → t0 ≡ no_members → seen ≡ array (text_items (map utf8_lossy motd))
    → t1 ≡ with_member (codes "address") (string (utf8_lossy (codes "0.0.0.0:0"))) t0
    → t2 ≡ with_member (codes "motd") seen t1
    → t3 ≡ with_member (codes "outbox_limit") (integer (pos limit)) t2
    → t4 ≡ with_member (codes "protocol_version") (string (utf8_lossy protocol)) t3
    → t5 ≡ with_member (codes "server_mode") (integer (pos mode)) t4
    → t6 ≡ with_member (codes "spring_version") (string (utf8_lossy spring)) t5
    → t7 ≡ with_member (codes "udp_port") (integer (pos port)) t6
    → t7 ≡ settings_members (spelled s)
settings_built s limit port mode protocol spring motd d t0 t1 t2 t3 t4 t5 t6 t7 el ep es eu em ed z dm p1 p2 p3 p4 p5 p6 p7 =
    rw (p7, p6, p5, p4, p3, p2, p1, z, dm, el, ep, es, eu, em, ed, address_kept) refl

-- the table of a list of one account
pub listed_alone : (a : Account) (held : List Value) (list : Vec Value Global) (inner : BTreeMap (String Global) Value)
    (t0 t1 : Members) → is_sound a ≡ true → held ≡ [] → list.items ≡ held ++ Table inner ∷ []
    → table_view inner ≡ account_members (spelled_account (hidden a)) → t0 ≡ no_members
    → t1 ≡ with_member (codes "account") (view (Array list)) t0 → t1 ≡ accounts_members (hidden a ∷ [])
listed_alone a held list inner t0 t1 sound none one built z put =
    let alone : table_view inner ≡ account_members (hidden a) =
    built ∙ ap account_members (account_same (hidden a) (hidden_sound a sound)) in
    let seen : view (Array list) ≡ array (item (table (account_members (hidden a))) no_items) =
    view-Array list ∙ ap (λ (vs : List Value). array (items_view vs)) (one ∙ ap (λ (vs : List Value). vs ++ Table inner ∷ []) none)
    ∙ ap (λ (d : Data). array (item d no_items)) (view-Table inner ∙ ap table alone) in
    put ∙ ap (with_member (codes "account") (view (Array list))) z
    ∙ ap (λ (d : Data). with_member (codes "account") d no_members) seen

-- ---- files

pub settings_back : (s : Configuration) (version text f0 f1 f2 f3 f4 : List ℕ) (t : Members) → is_configuration s ≡ true
    → t ≡ settings_members (spelled s) → IsDocumentText false t text → is_utf8 text ≡ true
    → f0 ≡ [] → f1 ≡ f0 ++ codes "# record 1 of version " → f2 ≡ f1 ++ version → f3 ≡ f2 ++ 10 ∷ [] → f4 ≡ f3 ++ text
    → list_all is_printed version ≡ true → list_all is_utf8 s.motd ≡ true → SetsUp s f4
settings_back s version text f0 f1 f2 f3 f4 t h built is valid z p1 p2 p3 p4 printed lines =
    let words = codes " record 1 of version " ++ version in
    let same : t ≡ settings_members s = built ∙ ap settings_members (spelled_same s h lines) in
    let whole : f4 ≡ comment_line words ++ text = rw (p4, p3, p2, p1, z) refl in
    subst (SetsUp s) (sym whole)
    (sets_up s words text h printed valid (subst (λ members. IsDocumentText false members text) same is))

pub mapped : {A E : Type 0} (answer : Result A E) (P Q : A → Type 0) → ((x : A) → P x → Q x) → IfOk answer P → IfOk answer Q
mapped (Ok x) P Q more h = more x h
mapped (Err e) P Q more h = tt

pub file_lists : (bytes : List ℕ) (read : Members) (told : Contents) → document bytes ≡ Some read
    → contents_of read ≡ Ok (shown_contents told)
    → file_accounts bytes ≡ listed_accounts (entries_in (shown_contents told))
file_lists bytes read told reads says = rw (reads, says) refl
