-- Lines written for one who joins a battle, whose event it may be or not.
use Rattle.std.proofs.Common.{◌≡◌, ℕ, List, [], ◌∷◌, ◌++◌, refl, sym, ap, ◌∙◌, true, false, not}
use Rattle.std.specs.Prelude.{Option, Some, None, if◌then◌else◌, ◌&&◌}
use Rattle.reply_kinds.specs.declared.Reply.{Reply}
use Rattle.line_words.specs.Table.{same_name, same_number}
use Rattle.line_words.proofs.Once.{same_name_equiv}
use Rattle.lobby_model.specs.State.{State, name_of}
use Rattle.lobby_model.specs.Outcome.{is_named, lines_for, tell, user}
use Rattle.lobby_model.specs.Events.{reader_of}
use Rattle.lobby_model.proofs.Delivered.{same_number_is}
use Rattle.lobby_post.specs.Posted.{Posted, Sends, Told, blank, but_issuer}
use Rattle.lobby_post.proofs.Telling.{told_lines_to_others}
use Rattle.lobby_battles.specs.declared.room_lines.Recipient.{Recipient}
use Rattle.lobby_battles.specs.declared.room_lines.Recipient.TheVariants.{Issuer, Other}
use Rattle.lobby_maps.specs.Fit.{IsOwn}
use Rattle.lobby_battles.specs.Recipients.{is_issuer, written}
use Rattle.battle_rules.proofs.InBattles.{told_own_user, told_same}
use Rattle.lobby_model.proofs.Named.{named_so}

-- lines for the user of a name, who is the issuer or not

not_named : (name : List ℕ) (o : Option (List ℕ)) → is_named (same_name name) o ≡ false → is_named (λ n. same_name n name) o ≡ false
not_named name None h = refl
not_named name (Some n) h = same_name_equiv.symm n name ∙ h

pub told_recipient : (s : State) (old mid new : Posted) (name : List ℕ) (lines : List Reply) (recipient : Recipient)
    → is_named (same_name name) (name_of s old.issuer) ≡ is_issuer recipient → mid ≡ written recipient (blank old) lines
    → (name_of s mid.issuer ≡ Some name → IsOwn s mid new name) → Sends s mid new (user name) → Told s old new (tell (user name) lines ∷ [])
told_recipient s old mid new name lines Issuer mine is own sends =
    told_own_user s old mid new name lines
    (own (ap (λ (p : Posted). name_of s p.issuer) is ∙ named_so name (name_of s old.issuer) mine)) is
told_recipient s old mid new name lines Other other is own sends =
    told_same s old new (tell (but_issuer (user name)) lines ∷ []) (tell (user name) lines ∷ []) alike
    (told_lines_to_others s old mid new _ _ _ is lines (user name) sends refl refl)
  where
    alike : (d : ℕ) → lines_for (reader_of s old.issuer d) (tell (but_issuer (user name)) lines ∷ [])
        ≡ lines_for (reader_of s old.issuer d) (tell (user name) lines ∷ [])
    alike d =
        elim (same_number d old.issuer) as (λ b. same_number d old.issuer ≡ b
        → (if not b && is_named (λ n. same_name n name) (name_of s d) then lines else []) ++ []
        ≡ (if is_named (λ n. same_name n name) (name_of s d) then lines else []) ++ []) [
          | true ↦ λ t. ap (λ b. (if b then lines else []) ++ []) (sym (ap (λ c. is_named (λ n. same_name n name) (name_of s c))
              (same_number_is d old.issuer t) ∙ not_named name (name_of s old.issuer) other))
          | false ↦ λ t. refl
        ] refl
