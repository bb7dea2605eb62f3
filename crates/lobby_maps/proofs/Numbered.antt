-- The numbers of the clients and the names at them, as clients come, get bytes and change.
use Rattle.std.proofs.Common.{◌≡◌, ℕ, ◌+◌, ◌≤◌, List, [], ◌++◌, refl, sym, ap, ◌∙◌, true, false, cond, not, arith}
use Rattle.std.specs.Prelude.{Some, None, is_some, if◌then◌else◌}
use Rattle.std.specs.Option.{option_map}
use Rattle.std.specs.FinMap.{nat_cmp-IsAntisymmetric}
use Rattle.std.specs.Ordering.{nat_cmp}
use Rattle.std.specs.Cmp.{nat_cmp_total}
use Rattle.line_words.specs.Table.{ByNumber, at_number, put_number, change_number, without_number, same_number}
use Rattle.lobby_model.specs.State.{Client, is_live, name_in, name_at, name_of_client, in_phase}
use Rattle.lobby_model.specs.Next.{with_batch, has_room_for}
use Rattle.line_words.proofs.Tables.{at-change, at-put, at-without}
use Rattle.lobby_model.proofs.Delivered.{find-values, same_number_is}
use Rattle.lobby_post.specs.Mail.{bytes_for, deliver}
use Rattle.lobby_maps.specs.Fit.{Numbered}
use Rattle.lobby_model.specs.declared.event.Phase.TheVariants.{In, Ended}
use Rattle.lobby_maps.specs.Changes.{clients_after}
use Rattle.lobby_maps.specs.declared.change.Change.{Change}
use Rattle.lobby_maps.specs.declared.change.Change.TheVariants.{Nothing, Status, LogIn, LogOut, Join, Leave, InBattles}

-- what is put for a client leaves it its name
pub phase_kept : (limit : ℕ) (bytes : List ℕ) (client : Client) → name_in (with_batch limit bytes client).phase ≡ name_in client.phase
phase_kept limit bytes client =
    elim (is_live client) as (λ live. name_in (if live then (if has_room_for limit client bytes then record client { unread = client.unread ++ bytes }
    else record client { cut = true; unread = [] }) else client).phase ≡ name_in client.phase) [
      | true ↦ elim (has_room_for limit client bytes) as (λ room. name_in
          (if room then record client { unread = client.unread ++ bytes } else record client { cut = true; unread = [] }).phase
          ≡ name_in client.phase) [ true ↦ refl | false ↦ refl ]
      | false ↦ refl
    ]

pub name_delivered : (limit : ℕ) (pieces : ByNumber (List ℕ)) (m n : ByNumber Client) → n ≡ deliver limit pieces m → (c : ℕ)
    → name_at n c ≡ name_at m c
name_delivered limit pieces m n is c =
    ap (λ k. name_at k c) is
    ∙ ap name_of_client (find-values (λ d client. with_batch limit (bytes_for pieces d) client) c m)
    ∙ elim (at_number m c) as (λ o. name_of_client (option_map (λ client. with_batch limit (bytes_for pieces c) client) o) ≡ name_of_client o) [
      | None ↦ refl
      | Some client ↦ phase_kept limit (bytes_for pieces c) client
    ]

-- a new client, at which nobody is logged in
module _ (last : ℕ) (m : ByNumber Client) (w : Client) (numbered : Numbered last m) where
  pub name_opened : name_in w.phase ≡ None → (q : ℕ) → name_at (put_number m (last + 1) w) q ≡ name_at m q
  name_opened nobody q =
      ap name_of_client (at-put nat_cmp nat_cmp_total m (last + 1) w q)
      ∙ elim (same_number q (last + 1)) as (λ b. same_number q (last + 1) ≡ b → name_of_client (cond b (Some w) (at_number m q)) ≡ name_at m q) [
        | true ↦ λ t. nobody ∙ sym (ap name_of_client (fresh (same_number_is q (last + 1) t)))
        | false ↦ λ t. refl
      ] refl
    where
      fresh : q ≡ last + 1 → at_number m q ≡ None
      fresh is =
          elim (at_number m q) as (λ o. at_number m q ≡ o → o ≡ None) [
            | None ↦ λ e. refl
            | Some x ↦ λ e. absurd (let small : q ≤ last = numbered q (ap is_some e) in omega (arith, small, is))
          ] refl

  pub numbered_opened : Numbered (last + 1) (put_number m (last + 1) w)
  numbered_opened = λ c there.
      elim (same_number c (last + 1)) as (λ b. same_number c (last + 1) ≡ b → is_some (cond b (Some w) (at_number m c)) ≡ true → c ≤ last + 1) [
        | true ↦ λ t f. let is : c ≡ last + 1 = same_number_is c (last + 1) t in omega (arith, is)
        | false ↦ λ t f. let small : c ≤ last = numbered c f in omega (arith, small)
      ] refl (ap is_some (sym (at-put nat_cmp nat_cmp_total m (last + 1) w c)) ∙ there)

-- numbers
numbered_kept : (last : ℕ) (m n : ByNumber Client) → ((c : ℕ) → is_some (at_number n c) ≡ true → is_some (at_number m c) ≡ true) → Numbered last m
    → Numbered last n
numbered_kept last m n kept numbered = λ c there. numbered c (kept c there)

there_changed : (m : ByNumber Client) (c : ℕ) (f : Client → Client) (q : ℕ) → is_some (at_number (change_number m c f) q) ≡ is_some (at_number m q)
there_changed m c f q =
    ap is_some (at-change nat_cmp nat_cmp-IsAntisymmetric f m c q)
    ∙ elim (at_number m q) as (λ o. is_some (option_map (λ x. if same_number c q then f x else x) o) ≡ is_some o) [ None ↦ refl | Some x ↦ refl ]

there_without : (m : ByNumber Client) (c q : ℕ) → is_some (at_number (without_number m c) q) ≡ true → is_some (at_number m q) ≡ true
there_without m c q there =
    elim (not (same_number c q)) as (λ b. is_some (cond b (at_number m q) None) ≡ true → is_some (at_number m q) ≡ true) [
      | true ↦ λ h. h
      | false ↦ λ h. absurd (cc)
    ] (ap is_some (sym (at-without nat_cmp nat_cmp_total m c q)) ∙ there)

pub numbered_changed : (last : ℕ) (m : ByNumber Client) (c : ℕ) (f : Client → Client) → Numbered last m → Numbered last (change_number m c f)
numbered_changed last m c f = numbered_kept last m _ (λ q there. sym (there_changed m c f q) ∙ there)

pub numbered_after : (last : ℕ) (m : ByNumber Client) (c : ℕ) (change : Change) → Numbered last m → Numbered last (clients_after m c change)
numbered_after last m c (LogIn name online_user) numbered = numbered_changed last m c (in_phase (In name)) numbered
numbered_after last m c (LogOut name asks battle true) numbered = numbered_changed last m c (in_phase Ended) numbered
numbered_after last m c (LogOut name asks battle false) numbered = numbered_kept last m _ (there_without m c) numbered
numbered_after last m c Nothing numbered = numbered
numbered_after last m c (Join channel name) numbered = numbered
numbered_after last m c (Leave channel name) numbered = numbered
numbered_after last m c (Status name status) numbered = numbered
numbered_after last m c (InBattles change) numbered = numbered

pub numbered_delivered : (limit : ℕ) (pieces : ByNumber (List ℕ)) (last : ℕ) (m n : ByNumber Client) → n ≡ deliver limit pieces m → Numbered last m
    → Numbered last n
numbered_delivered limit pieces last m n is numbered =
    numbered_kept last m n (λ q there. sym (there_delivered q) ∙ ap (λ (x : ByNumber Client). is_some (at_number x q)) (sym is) ∙ there) numbered
  where
    there_delivered : (q : ℕ) → is_some (at_number (deliver limit pieces m) q) ≡ is_some (at_number m q)
    there_delivered q =
        ap is_some (find-values (λ d client. with_batch limit (bytes_for pieces d) client) q m)
        ∙ elim (at_number m q) as (λ o. is_some (option_map (λ client. with_batch limit (bytes_for pieces q) client) o)
        ≡ is_some o) [ None ↦ refl | Some x ↦ refl ]
