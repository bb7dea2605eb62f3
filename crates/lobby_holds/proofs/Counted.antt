-- A count of what was told, event by event, and from any number on.
use Rattle.std.proofs.Common.{◌≡◌, ℕ, ◌+◌, ◌-◌, ◌*◌, ◌%◌, ◌^◌, ◌<◌, List, [], ◌∷◌, ◌++◌, refl, sym, ap, ◌∙◌, true, false, arith}
use Rattle.std.specs.Prelude.{if◌then◌else◌}
use Rattle.std.proofs.Math.Nat.{add-mul-mod_self_left, mod-add-mod}
use Rattle.lobby_model.specs.declared.event.Event.{Event}
use Rattle.lobby_model.specs.State.{State}
use Rattle.lobby_machine.specs.Work.{amount, counted_on, counts, told_on, work}
use Rattle.lobby_post.proofs.Sums.{counted_none, counted_twice}
use Rattle.lobby_holds.specs.Moments.{Moment, told_behind, work_of}

pub told_behind-append : (before : ℕ) (t u : List Moment) → told_behind before (t ++ u) ≡ told_behind (told_behind before t) u
told_behind-append before [] u = refl
told_behind-append before (m ∷ t) u = told_behind-append (told_on before m.met m.event) t u

pub work_of-append : (t u : List Moment) → work_of (t ++ u) ≡ work_of t + work_of u
work_of-append [] u = omega arith
work_of-append (m ∷ t) u = let rest = work_of-append t u in omega (arith, rest)

-- it stays a number of 64 bits, and goes on by what the event is
module _ (told : ℕ) (s : State) (e : Event) (small : told < 2 ^ 64) where
  told_on_small : told_on told s e < 2 ^ 64
  told_on_small = elim (counts s e) as (λ b. (if b then counted_on told (amount s e) else told) < 2 ^ 64) [ true ↦ omega arith | false ↦ small ]

  told_on_is : told_on told s e ≡ counted_on told (work s e)
  told_on_is =
      elim (counts s e) as (λ b. (if b then counted_on told (amount s e) else told) ≡ counted_on told (if b then amount s e else 0)) [
        | true ↦ refl
        | false ↦ sym (counted_none told small)
      ]

pub told_behind_is : (told : ℕ) (talk : List Moment) → told < 2 ^ 64 → told_behind told talk ≡ counted_on told (work_of talk)
told_behind_is told [] small = sym (counted_none told small)
told_behind_is told (m ∷ talk) small =
    told_behind_is (told_on told m.met m.event) talk (told_on_small told m.met m.event small)
    ∙ ap (λ n. counted_on n (work_of talk)) (told_on_is told m.met m.event small)
    ∙ counted_twice told (work m.met m.event) (work_of talk)

-- what it went on by is what it comes to from 0 on
pub counted_from_none : (before now : ℕ) (talk : List Moment) → before < 2 ^ 64 → told_behind before talk ≡ now
    → told_behind 0 talk ≡ (now + (2 ^ 64 - before)) % 2 ^ 64
counted_from_none before now talk small is =
    let w : ℕ = work_of talk in
    let from : 0 + w ≡ w = omega arith in
    let whole : (before + w) + (2 ^ 64 - before) ≡ w + 2 ^ 64 * 1 = omega arith in
    told_behind_is 0 talk (omega arith)
    ∙ ap (λ n. n % 2 ^ 64) from
    ∙ sym (add-mul-mod_self_left w (2 ^ 64) 1)
    ∙ ap (λ n. n % 2 ^ 64) (sym whole)
    ∙ sym (mod-add-mod (before + w) (2 ^ 64) (2 ^ 64 - before))
    ∙ ap (λ n. (n + (2 ^ 64 - before)) % 2 ^ 64) (sym (told_behind_is before talk small) ∙ is)

-- and of one event
pub counted_one : (before now told : ℕ) (s : State) (e : Event) → before < 2 ^ 64 → told_on before s e ≡ now → told ≡ (now + (2 ^ 64 - before)) % 2 ^ 64
    → told_on 0 s e ≡ told
counted_one before now told s e small is gone = counted_from_none before now (record { met = s; event = e } ∷ []) small is ∙ sym gone
