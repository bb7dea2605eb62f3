-- What single commands come to.
use Rattle.std.proofs.Common.{◌≡◌, ℕ, ℤ, List, [], ◌∷◌, refl, sym, ap, subst, ◌∙◌, true, false}
use Rattle.std.specs.Prelude.{None, Bool, Result, Ok, Err, is_ok, is_some}
use Rattle.account_book.specs.Account.{Account}
use Rattle.account_book.specs.declared.error.LoginFault.{LoginFault}
use Rattle.status_bits.specs.Fields.{merge}
use Rattle.status_bits.specs.UserWord.{user_table}
use Rattle.reply_kinds.specs.declared.Reply.{Reply}
use Rattle.reply_kinds.specs.declared.Reply.TheVariants as reply
use Rattle.line_words.specs.Table.{at_name, put_name, change_name}
use Rattle.lobby_model.specs.State.{State, user_with, hears, name_of}
use Rattle.lobby_model.specs.Texts.{user_is_in, invalid_login}
use Rattle.lobby_model.specs.Outcome.{done, refuse_if, Outcome, Refused, tell, issuer, everyone, others}
use Rattle.lobby_model.specs.Sessions.{status_in, set_user_status, burst, arrival, logs_in, log_in, user_of}
use Rattle.lobby_post.specs.Posted.{Posted, Told}
use Rattle.lobby_post.proofs.Telling.{told_then}
use Rattle.lobby_battles.specs.declared.online_users.OnlineUser.{OnlineUser}
use Rattle.lobby_maps.specs.declared.change.Change.TheVariants.{Nothing, Status, LogIn}
use Rattle.battle_rules.specs.declared.refusal.Refusal.{Refusal}
use Rattle.battle_rules.specs.declared.refusal.Stop.{Stop}
use Rattle.battle_rules.specs.declared.refusal.Stop.TheVariants as stop
use Rattle.lobby_battles.specs.OnlineUsers.{plain_user}
use Rattle.battle_rules.specs.Answers.{Obeyed, Answers, Refuses, refusal_reply}
use Rattle.line_words.proofs.Options.{none_from_is_some}

pub status_set : (s : State) (c : ℕ) (me name : List ℕ) (asked status word : ℕ) (old new : Posted) → name ≡ me
    → status ≡ merge user_table (status_in (at_name s.users me)) asked → word ≡ status
    → Told s old new (tell everyone (reply.ClientStatus me word ∷ []) ∷ []) → Obeyed s c old new (Status name status) (set_user_status s me asked)
status_set s c me name asked status word old new named merged same told = record {
  told = subst (λ w. Told s old new (tell everyone (reply.ClientStatus me w ∷ []) ∷ [])) (same ∙ merged) told;
  effect = λ i. record s { users = change_name s.users (sym named i) (user_with (sym merged i)) };
  can_be = tt;
}

-- one who is told why
pub refused : (s : State) (c : ℕ) (old mid new : Posted) (r : Reply) (outcome : Outcome) → outcome ≡ Refused r → mid ≡ old
    → ((s : State) → Told s mid new (tell issuer (r ∷ []) ∷ [])) → Obeyed s c old new Nothing outcome
refused s c old mid new r outcome is kept told =
    subst (λ o. Obeyed s c old new Nothing o) (sym is) (record {
      told = subst (λ p. Told s p new (tell issuer (r ∷ []) ∷ [])) kept
          (told s);
      effect = refl;
      can_be = tt;
    })

-- a guard that stops a command
pub stopped : (s : State) (c : ℕ) (post : Posted) (outcome : Outcome) (refusal : Refusal) {P : Type 0} (why : Stop) → Refuses refusal P why
    → (P → outcome ≡ Refused (refusal_reply refusal)) → Answers s c post post outcome (Err why)
stopped s c post outcome refusal (stop.Refused refused) because comes = record {
  is = comes because.1
      ∙ ap (λ r. Refused (refusal_reply r)) (sym because.0);
  kept = refl;
}
stopped s c post outcome refusal stop.Memory because comes = tt

-- a login

pub not_let_in : (s : State) (c : ℕ) (cpu : ℤ) (authorises : Bool) (r : Result Account LoginFault) → is_ok r ≡ false
    → log_in s c cpu authorises r ≡ Refused (reply.Denied invalid_login)
not_let_in s c cpu authorises (Ok account) h = absurd (cc)
not_let_in s c cpu authorises (Err fault) h = refl

module _ (s : State) (c : ℕ) (cpu : ℤ) (authorises : Bool) (r : Result Account LoginFault) (account : Account) (let_in : r ≡ Ok account) where
  pub name_taken : is_some (at_name s.users account.name) ≡ true → log_in s c cpu authorises r ≡ Refused (reply.Denied user_is_in)
  name_taken there = ap (log_in s c cpu authorises) let_in ∙ ap (λ b. refuse_if b (reply.Denied user_is_in)
      (done (logs_in c account.name (user_of account cpu authorises) s))) there

  pub logged_in_so : (old a new : Posted) (name : List ℕ) (online_user : OnlineUser) → hears s c ≡ true → name_of s c ≡ None
      → is_some (at_name s.users account.name) ≡ false → name ≡ account.name → online_user.client.number ≡ c → online_user.battle ≡ None → plain_user online_user ≡ user_of account cpu authorises
      → Told s old a (tell issuer (burst s.settings.motd name (put_name s.users name (plain_user online_user)) s.battles) ∷ [])
      → Told s a new (tell others (arrival name (plain_user online_user)) ∷ [])
      → Obeyed s c old new (LogIn name online_user) (log_in s c cpu authorises r)
  logged_in_so old a new name online_user live nobody free named here outside same first second =
      let comes : log_in s c cpu authorises r ≡ done (logs_in c name (plain_user online_user) s) =
      ap (log_in s c cpu authorises) let_in ∙ ap (λ b. refuse_if b (reply.Denied user_is_in) (done (logs_in c account.name (user_of account cpu authorises) s))) free
      ∙ (λ i. done (logs_in c (sym named i) (sym same i) s)) in
      subst (λ o. Obeyed s c old new (LogIn name online_user) o) (sym comes) (record {
        told = told_then s old a new _ _ first second;
        effect = refl;
        can_be = record { hears = live; nobody = nobody; free = ap (at_name s.users) named ∙ none_from_is_some _ free; here = here; outside = outside };
      })
