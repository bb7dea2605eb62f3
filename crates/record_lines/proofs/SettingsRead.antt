-- What a file of settings says that was written for some.
use Rattle.std.proofs.Common.{◌≡◌, ℕ, ◌+◌, ◌≤◌, true, false, List, [], ◌∷◌, ◌++◌, length, Some, None, Result, Ok, Err, refl, sym, ap, ◌∙◌, subst, arith, le-leb}
use Rattle.std.specs.Prelude.{codes, nat_le, MatchOption}
use Rattle.std.specs.Fmt.{digits}
use Rattle.std.specs.List.{list_all}
use Rattle.std.specs.Str.{is_utf8}
use Rattle.std.proofs.lemmas.Bool.{and_parts}
use Rattle.std.proofs.lemmas.Bool.Decides.{nat_tests}
use Rattle.toml.specs.Text.{IsDocumentText}
use Rattle.toml_fields.specs.Document.{document, IsLine}
use Rattle.proxy_line.specs.Words.{IsSocketAddress}
use Rattle.lobby_model.specs.Configuration.{Configuration, is_configuration, is_motd_line, is_version}
use Rattle.lobby_setup.specs.Answers.{Tells}
use Rattle.lobby_setup.specs.Choices.{Choices, Says, choices, chosen}
use Rattle.lobby_setup.specs.Motd.{lines_of, motd_fault}
use Rattle.lobby_setup.specs.Proxies.{Addresses}
use Rattle.lobby_setup.specs.declared.error.Refusal.{Refusal}
use Rattle.lobby_setup.specs.declared.error.Refusal.TheVariants.{NotToml}
use Rattle.server_log.specs.declared.level.LogLevel.TheVariants.{Important}
use Rattle.record_lines.specs.Head.{comment_line, is_printed, settings_members, text_items, HasSettings, SetsUp}
use Rattle.record_lines.proofs.Tables.{behind_comment}
use Rattle.record_lines.proofs.Spelled.{comment_utf8}

lines_same : (motd : List (List ℕ)) → lines_of (text_items motd) ≡ motd
lines_same [] = refl
lines_same (line ∷ motd) = ap (λ (ls : List (List ℕ)). line ∷ ls) (lines_same motd)

no_fault : (place : ℕ) (motd : List (List ℕ)) → list_all is_motd_line motd ≡ true → place + length motd ≤ 101
    → motd_fault place (text_items motd) ≡ None
no_fault place [] all few = refl
no_fault place (line ∷ motd) all few =
    let parts = and_parts (is_motd_line line) (list_all is_motd_line motd) all in
    rw (le-leb place 100 (omega (arith, few)), parts.0) (no_fault (place + 1) motd parts.1 (omega (arith, few)))

record Bounded (s : Configuration) : Type 0 where
  protocol : is_version s.protocol_version ≡ true
  spring : is_version s.spring_version ≡ true
  port : nat_le s.udp_port 65535 ≡ true
  mode : nat_le s.server_mode 1 ≡ true
  count : nat_le (length s.motd) 100 ≡ true
  motd : list_all is_motd_line s.motd ≡ true
  low : nat_le 65536 s.outbox_limit ≡ true
  high : nat_le s.outbox_limit 67108864 ≡ true

bounded : (s : Configuration) → is_configuration s ≡ true → Bounded s
bounded s h =
    let a = and_parts _ (nat_le s.outbox_limit 67108864) h in
    let b = and_parts _ (nat_le 65536 s.outbox_limit) a.0 in
    let c = and_parts _ (list_all is_motd_line s.motd) b.0 in
    let d = and_parts _ (nat_le (length s.motd) 100) c.0 in
    let e = and_parts _ (nat_le s.server_mode 1) d.0 in
    let f = and_parts _ (nat_le s.udp_port 65535) e.0 in
    let g = and_parts (is_version s.protocol_version) (is_version s.spring_version) f.0 in
    record { protocol = g.0; spring = g.1; port = f.1; mode = e.1; count = d.1; motd = c.1; low = b.1; high = a.1 }

counts : (n : ℕ) → nat_le n 100 ≡ true → n ≤ 100
counts n h = grind (arith, nat_tests)

nowhere : IsSocketAddress (codes "0.0.0.0:0") (0 ∷ 0 ∷ 0 ∷ 0 ∷ [], 0)
unfolding digits
nowhere = (codes "0.0.0.0", codes "0", refl, (refl, omega arith, omega arith, omega arith, omega arith), (refl, omega arith))

said : (s : Configuration) → is_configuration s ≡ true → (endpoint : List ℕ × ℕ)
    → choices (Ok endpoint) (Ok []) (settings_members s) ≡ Ok (chosen s endpoint 4 false [] Important [] true)
said s h endpoint =
    let b = bounded s h in
    let few = counts (length s.motd) b.count in
    rw (b.low, b.high, b.protocol, b.spring, le-leb 0 s.udp_port (omega arith), b.port, le-leb 0 s.server_mode (omega arith), b.mode, no_fault 1 s.motd b.motd (omega (arith, few)), lines_same s.motd) refl

says : (s : Configuration) → is_configuration s ≡ true → (answer : Result Choices Refusal)
    → Says (settings_members s) answer → HasSettings s answer
says s h answer (Err fault, written, more) = absurd (written.1 (0 ∷ 0 ∷ 0 ∷ 0 ∷ [], 0) nowhere)
says s h answer (Ok endpoint, written, (proxies, say, is)) =
    subst (HasSettings s) (sym (is ∙ ap (λ (p : Addresses). choices (Ok endpoint) p (settings_members s)) say ∙ said s h endpoint)) refl

tells : (s : Configuration) → is_configuration s ≡ true → (bytes : List ℕ) → document bytes ≡ Some (settings_members s)
    → (answer : Result Choices Refusal) → Tells bytes answer → HasSettings s answer
tells s h bytes is answer told =
    says s h answer
    (subst (λ found. MatchOption found ((line : ℕ) × IsLine bytes line × (answer ≡ Err (NotToml line)))
    (λ said. Says said answer)) is told)

-- what is printed of the table sets a lobby up to these settings, behind a comment
pub sets_up : (s : Configuration) (words text : List ℕ) → is_configuration s ≡ true → list_all is_printed words ≡ true
    → is_utf8 text ≡ true → IsDocumentText false (settings_members s) text → SetsUp s (comment_line words ++ text)
sets_up s words text h all valid is =
    tells s h (comment_line words ++ text) (rw (comment_utf8 words text all valid) (behind_comment s words text all is))
