-- The battle that a user is in: the one that has it as a member, and no other.
use Rattle.std.proofs.Common.{◌≡◌, ℕ, List, refl, sym, ap, ◌∙◌, Bool, true, false}
use Rattle.std.specs.Prelude.{Option, Some, None}
use Rattle.std.proofs.lemmas.Option.{same_Some}
use Rattle.std.specs.Ordering.{nat_cmp}
use Rattle.std.specs.Cmp.{nat_cmp_total}
use Rattle.line_words.specs.Table.{at_number, same_number, is_among}
use Rattle.line_words.proofs.Once.{contradiction}
use Rattle.room_lists.specs.Room.{has_member}
use Rattle.lobby_model.specs.State.{State, Battle, battle_of}
use Rattle.lobby_model.specs.Battles.{members}
use Rattle.lobby_model.specs.Sound.{Sound}
use Rattle.lobby_model.proofs.Delivered.{same_number_is, same_itself}
use Rattle.lobby_model.proofs.BattlesKept.{own_battle}
use Rattle.lobby_view.proofs.Finding.{find_only}

-- whether it is the battle of this number
abbrev pub is_of : ℕ → Option (ℕ × Battle) → Bool
is_of id None = false
is_of id (Some own) = same_number id own.0

module _ (s : State) (sound : Sound s) (u : List ℕ) (id : ℕ) (battle : Battle) (there : at_number s.battles id ≡ Some battle) where
  pub its_battle : is_among u (members battle) ≡ true → battle_of s u ≡ Some (id, battle)
  its_battle in_it =
      find_only nat_cmp nat_cmp_total (λ b. has_member u b.room) s.battles sound.battles.in_order id battle there in_it
      (λ q other at_q in_other. sound.battles.one u q id other battle at_q there in_other in_it)

  pub not_its_battle : is_among u (members battle) ≡ false → is_of id (battle_of s u) ≡ false
  not_its_battle out =
      elim (battle_of s u) as (λ o. battle_of s u ≡ o → is_of id o ≡ false) [
        | None ↦ λ e. refl
        | Some own ↦ λ e. elim (same_number id own.0) as (λ t. same_number id own.0 ≡ t → t ≡ false) [
          | true ↦ λ t.
              let found = own_battle s sound u own.0 own.1 e in
              let same : battle ≡ own.1 = same_Some battle own.1 (sym there ∙ ap (at_number s.battles) (same_number_is id own.0 t) ∙ found.0) in
              contradiction (is_among u (members own.1)) found.1 (ap (λ b. is_among u (members b)) (sym same) ∙ out)
          | false ↦ λ t. refl
        ] refl
      ] refl

  -- a member is in no other battle
  pub not_elsewhere : is_among u (members battle) ≡ true → (q : ℕ) (other : Battle) → same_number id q ≡ false → at_number s.battles q ≡ Some other
      → has_member u other.room ≡ false
  not_elsewhere in_it q other apart at_q =
      elim (has_member u other.room) as (λ b. has_member u other.room ≡ b → b ≡ false) [
        | true ↦ λ in_other. contradiction (same_number id q)
            (ap (same_number id) (sym (sound.battles.one u id q battle other there at_q in_it in_other)) ∙ same_itself id) apart
        | false ↦ λ out. refl
      ] refl
