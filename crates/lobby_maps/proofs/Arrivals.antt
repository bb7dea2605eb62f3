-- What others are told of one who logs in.
use Rattle.std.proofs.Common.{◌≡◌, ◌≢◌, ◌==◌, ℕ, ◌+◌, List, [], ◌∷◌, ◌++◌, length, refl, sym, ap, ◌∙◌, true, false, append-nil, arith}
use Rattle.std.specs.Prelude.{None, Bool, if◌then◌else◌}
use Rattle.reply_kinds.specs.Replies.{print_all, printed_line}
use Rattle.reply_kinds.specs.declared.Reply.TheVariants as reply
use Rattle.lobby_model.specs.State.{State, User}
use Rattle.lobby_model.specs.Outcome.{tell, everyone, others}
use Rattle.lobby_model.specs.Sessions.{added, shown_status, arrival}
use Rattle.lobby_model.specs.Events.{under}
use Rattle.lobby_post.specs.Posted.{Posted, Sends, Told, telling, with_others}
use Rattle.lobby_post.proofs.Telling.{told_lines_to_others}
use Rattle.std.proofs.Math.Nat.{add-zero}

-- its status, where that is not 0
pub not_zero : (n : ℕ) → n ≢ 0 → (n == 0) ≡ false
not_zero n h = grind (arith)

module _ (s : State) (old first mid new : Posted) (name : List ℕ) (user : User) (word : ℕ) (same : word ≡ user.status) where
  abbrev pub arrived : Bool → Posted
  arrived at_zero = if at_zero then first else with_others first (reply.ClientStatus name word ∷ [])

  pub arrival_told : first ≡ telling old [] (printed_line None (added name user)) (length (printed_line None (added name user))) → mid ≡ arrived (word == 0)
      → Sends s mid new everyone → Told s old new (tell others (arrival name user) ∷ [])
  arrival_told one is sends =
      let came : List ℕ = printed_line None (added name user) in
      let written : mid ≡ record old { text = (old.text + length came) + length (print_all (under None (shown_status name user))); own = []; shared = came ++ print_all (under None (shown_status name user)) } =
      is
      ∙ elim (word == 0) as (λ b. arrived b ≡ record old {
        text = (old.text + length came) + length (print_all (under None (if b then [] else reply.ClientStatus name word ∷ [])));
        own = [];
        shared = printed_line None (added name user) ++ print_all
            (under None (if b then [] else reply.ClientStatus name word ∷ []));
      }) [
        | true ↦ one ∙ (λ i. record old { text = sym (add-zero (old.text + length came)) i; own = []; shared = sym (append-nil came) i })
        | false ↦ ap (λ p. with_others p (reply.ClientStatus name word ∷ [])) one
      ]
      ∙ (λ i. record old {
        text = (old.text + length came) + length (print_all (under None (if same i == 0 then [] else reply.ClientStatus name (same i) ∷ [])));
        own = [];
        shared = printed_line None (added name user) ++ print_all
            (under None (if same i == 0 then [] else reply.ClientStatus name (same i) ∷ []));
      }) in
      told_lines_to_others s old mid new _ _ _ written (arrival name user) everyone sends refl refl
