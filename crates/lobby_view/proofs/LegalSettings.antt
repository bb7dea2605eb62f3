-- What settings and accounts bring: a greeting and a message of the day that can be read again, users of the right kinds.
use Rattle.std.proofs.Common.{◌≡◌, ℕ, ◌≤◌, ◌^◌, List, [], ◌∷◌, refl, sym, subst, Bool, true, false, length, arith}
use Rattle.std.specs.Prelude.{◌&&◌, ◌||◌, ◌==◌, nat_le, codes, if◌then◌else◌}
use Rattle.std.specs.Char.{is_ascii_uppercase}
use Rattle.std.specs.Str.{bytes_eq}
use Rattle.std.specs.List.{AllByRecursion, list_all}
use Rattle.std.proofs.lemmas.Bool.{and_parts, and_from, leb-true, le-leb, eqb-true}
use Rattle.line_words.specs.Bytes.{is_name, is_word, is_word_byte, is_text}
use Rattle.line_words.proofs.WordLemmas.{upper_case_in_word}
use Rattle.account_book.specs.Account.{Account, IsHeld, is_country, is_password_word}
use Rattle.reply_kinds.specs.declared.Reply.TheVariants as reply
use Rattle.reply_kinds.proofs.Bytes.{all_more}
use Rattle.status_bits.specs.UserWord.{account_word}
use Rattle.lobby_model.specs.Configuration.{Configuration, is_configuration, is_version, is_version_byte, is_motd_line}
use Rattle.lobby_model.specs.State.{empty_lobby}
use Rattle.lobby_model.specs.Sessions.{greeting}
use Rattle.lobby_model.proofs.Versions.{version_is_word}
use Rattle.lobby_view.proofs.Everywhere.{Each}
use Rattle.lobby_view.proofs.Clean.{Clean}
use Rattle.lobby_view.proofs.StatusWords.{word_fits}
use Rattle.lobby_view.proofs.KindsOfHappenings.{Kinds, MakesUser}

-- settings
version_short : (w : List ℕ) → is_version w ≡ true → length w ≤ 32
version_short w e =
    let p = and_parts (nat_le 1 (length w) && nat_le (length w) 32) (list_all is_version_byte w) e in
    leb-true (length w) 32 (and_parts (nat_le 1 (length w)) (nat_le (length w) 32) p.0).1

motd_clean : (lines : List (List ℕ)) → list_all is_motd_line lines ≡ true → Each (λ t. Clean (reply.Motd t)) lines
motd_clean [] e = tt
motd_clean (w ∷ lines) e =
    let p = and_parts (is_motd_line w) (list_all is_motd_line lines) e in
    let q = and_parts (nat_le (length w) 1000) (is_text w) p.0 in
    let short = leb-true (length w) 1000 q.0 in
    (record { fits = λ i. q.1 i && true; short = omega arith }, motd_clean lines p.1)

record Greets (settings : Configuration) : Type 0 where
  motd : Each (λ t. Clean (reply.Motd t)) settings.motd
  greeting : Clean (greeting settings)

greets : (settings : Configuration) → is_configuration settings ≡ true → Greets settings
greets c e =
    let p1 = and_parts _ (nat_le c.outbox_limit 67108864) e in
    let p2 = and_parts _ (nat_le 65536 c.outbox_limit) p1.0 in
    let p3 = and_parts _ (list_all is_motd_line c.motd) p2.0 in
    let p4 = and_parts _ (nat_le (length c.motd) 100) p3.0 in
    let p5 = and_parts _ (nat_le c.server_mode 1) p4.0 in
    let p6 = and_parts _ (nat_le c.udp_port 65535) p5.0 in
    let p7 = and_parts (is_version c.protocol_version) (is_version c.spring_version) p6.0 in
    let v = version_is_word c.protocol_version p7.0 in
    let w = version_is_word c.spring_version p7.1 in
    let v_short = version_short c.protocol_version p7.0 in
    let w_short = version_short c.spring_version p7.1 in
    record {
      motd = motd_clean c.motd p3.1;
      greeting = record {
        fits = λ i. v i && (w i && ((le-leb 0 c.udp_port (omega arith) i && p6.1 i) && ((le-leb 0 c.server_mode (omega arith) i && p5.1 i) && true)));
        short = omega arith;
      };
    }

-- accounts
same_text : (x y : List ℕ) → bytes_eq x y ≡ true → x ≡ y
same_text [] [] e = refl
same_text [] (b ∷ y) e = absurd (cc)
same_text (a ∷ x) [] e = absurd (cc)
same_text (a ∷ x) (b ∷ y) e = let p = and_parts (a == b) (bytes_eq x y) e in λ i. eqb-true a b p.0 i ∷ same_text x y p.1 i

country_word : (w : List ℕ) → is_country w ≡ true → (is_word w ≡ true) × (length w ≤ 100)
country_word w e =
    elim (bytes_eq w (codes "??")) as (λ t. bytes_eq w (codes "??") ≡ t → (t || (length w == 2 && list_all is_ascii_uppercase w)) ≡ true
    → (is_word w ≡ true) × (length w ≤ 100)) [
      | true ↦ λ f g. subst (λ v. (is_word v ≡ true) × (length v ≤ 100)) (sym (same_text w (codes "??") f)) (refl, (omega arith))
      | false ↦ λ f g.
          let p = and_parts (length w == 2) (list_all is_ascii_uppercase w) g in
          let two = eqb-true (length w) 2 p.0 in (
            and_from (nat_le 1 (length w)) (list_all is_word_byte w) (le-leb 1 (length w) (omega arith))
                (all_more is_ascii_uppercase is_word_byte upper_case_in_word w p.1),
            (omega arith),
          )
    ] refl e

bit : (b : Bool) (n : ℕ) → (if b then n else 0) ≤ n
bit true n = omega arith
bit false n = omega arith

makes_user : (account : Account) → IsHeld account → MakesUser account
makes_user account legal cpu authorises wide =
    let p = and_parts (is_name account.name && is_password_word account.password && nat_le account.rank 7) (is_country account.country) legal.0 in
    let q = and_parts (is_name account.name && is_password_word account.password) (nat_le account.rank 7) p.0 in
    let r = and_parts (is_name account.name) (is_password_word account.password) q.0 in
    let rank = leb-true account.rank 7 q.1 in
    let country = country_word account.country p.1 in
    let a = bit account.access (2 ^ 5) in
    let b = bit account.bot (2 ^ 6) in
    record {
      name = r.0;
      country = country.0;
      short = country.1;
      cpu = wide;
      account = word_fits account.id legal.1;
      status = word_fits (account_word account.rank account.access account.bot) (omega arith);
    }

all_make_users : (accounts : List Account) → AllByRecursion IsHeld accounts → Each MakesUser accounts
all_make_users [] legal = tt
all_make_users (a ∷ accounts) legal = (makes_user a legal.0, all_make_users accounts legal.1)

-- the lobby before its first event
pub kinds_at_start : (settings : Configuration) (accounts : List Account) → is_configuration settings ≡ true → AllByRecursion IsHeld accounts
    → Kinds (empty_lobby settings accounts)
kinds_at_start settings accounts chosen known =
    let first = greets settings chosen in
    record {
      users = tt;
      channels = tt;
      battles = tt;
      last = omega arith;
      motd = first.motd;
      greeted = first.greeting;
      accounts = all_make_users accounts known;
    }
