-- From what a command comes to, to the event.
use Rattle.std.proofs.Common.{◌≡◌, ℕ, ◌+◌, ◌%◌, ◌^◌, sym, ap, ◌∙◌, true, arith}
use Rattle.std.proofs.Math.Nat.{mod-add-mod}
use Rattle.std.specs.Prelude.{Result, Ok, Err, OnOk, IfOk, None, if◌then◌else◌}
use Rattle.reply_kinds.specs.Replies.{print_all}
use Rattle.command_grammar.specs.declared.command.Request.{Request}
use Rattle.line_words.specs.Table.{same_number}
use Rattle.lobby_model.specs.declared.event.Event.{Event}
use Rattle.lobby_model.specs.declared.event.Event.TheVariants as event
use Rattle.lobby_model.specs.State.{State, hears, name_of}
use Rattle.lobby_model.specs.Outcome.{nothing, letters_of, lines_for, state_after}
use Rattle.lobby_model.specs.Commands.{answer}
use Rattle.lobby_model.specs.Events.{effect, reader_of, under}
use Rattle.lobby_model.specs.Next.{next}
use Rattle.lobby_maps.specs.declared.change.Change.{Change}
use Rattle.lobby_post.specs.Posted.{Posted, begun}
use Rattle.lobby_post.specs.Mail.{IsWakes}
use Rattle.lobby_maps.specs.Amounts.{bytes_told}
use Rattle.lobby_machine.specs.Work.{amount, counted_on, counts, told_on}
use Rattle.lobby_maps.specs.Changes.{Matches, changed}
use Rattle.battle_rules.specs.Answers.{Obeyed}

module _ (s : State) (c : ℕ) (request : Request) where
  module _ (live : hears s c ≡ true) (post : Posted) (change : Change)
      (obeyed : Obeyed s c (begun c request.id) post change (answer s c (name_of s c) request.command)) where
    pub said_effect : effect s (event.Say c request) ≡ changed s c change
    said_effect = ap (λ b. state_after s (if b then answer s c (name_of s c) request.command else nothing)) live ∙ obeyed.effect

    pub said_matches : Matches s (event.Say c request) post
    said_matches d =
        obeyed.told.bytes d
        ∙ ap (λ b. print_all (under (if same_number d c then request.id else None)
        (lines_for (reader_of s c d) (letters_of (if b then answer s c (name_of s c) request.command else nothing))))) (sym live)

-- the bytes of what a command lists, of which a number of 64 bits has the rest
pub counted_wrapped : (before n more : ℕ) → counted_on before (n % 2 ^ 64 + more) ≡ counted_on before (n + more)
counted_wrapped before n more =
    let first : before + (n % 2 ^ 64 + more) ≡ n % 2 ^ 64 + (before + more) = omega arith in
    let last : n + (before + more) ≡ before + (n + more) = omega arith in
    ap (λ k. k % 2 ^ 64) first ∙ mod-add-mod n (2 ^ 64) (before + more) ∙ ap (λ k. k % 2 ^ 64) last

-- what a delivery says of every event is said of the event at hand
module _ {X : Type 0} (r : Result ℕ X) (s t n : State) (e : Event) (post : Posted) (is : effect s e ≡ t) (matches : Matches s e post) where
  pub on_ok : OnOk r ((e : Event) → effect s e ≡ t → Matches s e post → n ≡ next s e) → OnOk r (n ≡ next s e)
  on_ok h = elim r as (λ r. OnOk r ((e : Event) → effect s e ≡ t → Matches s e post → n ≡ next s e)
      → OnOk r (n ≡ next s e)) [ Ok w ↦ λ f. f e is matches | Err x ↦ λ f. tt ] h

  pub on_wakes : IfOk r (λ wakes. (e : Event) → effect s e ≡ t → Matches s e post → IsWakes s e wakes) → IfOk r (λ wakes. IsWakes s e wakes)
  on_wakes h = elim r as (λ r. IfOk r (λ wakes. (e : Event) → effect s e ≡ t → Matches s e post → IsWakes s e wakes)
      → IfOk r (λ wakes. IsWakes s e wakes)) [ Ok w ↦ λ f. f e is matches | Err x ↦ λ f. tt ] h

-- what was told is counted, where the event counts
pub on_told : {X : Type 0} (r : Result ℕ X) (s t : State) (e : Event) (post : Posted) (before after more : ℕ) → effect s e ≡ t → Matches s e post
    → counts s e ≡ true → counted_on before (more + bytes_told s e) ≡ counted_on before (amount s e)
    → OnOk r ((e : Event) → effect s e ≡ t → Matches s e post → after ≡ counted_on before (more + bytes_told s e)) → OnOk r (after ≡ told_on before s e)
on_told r s t e post before after more is matches live same h =
    elim r as (λ r. OnOk r ((e : Event) → effect s e ≡ t → Matches s e post → after ≡ counted_on before (more + bytes_told s e)) → OnOk r (after ≡ told_on before s e)) [
      | Ok w ↦ λ f. f e is matches ∙ same ∙ sym (ap (λ b. if b then counted_on before (amount s e) else before) live)
      | Err x ↦ λ f. tt
    ] h

pub on_dirty : {X : Type 0} (r : Result ℕ X) (s t : State) (e : Event) (post : Posted) (P : Event → Type 0) → effect s e ≡ t → Matches s e post
    → OnOk r ((e : Event) → effect s e ≡ t → Matches s e post → P e) → OnOk r (P e)
on_dirty r s t e post P is matches h = elim r as (λ r. OnOk r ((e : Event) → effect s e ≡ t → Matches s e post → P e)
    → OnOk r (P e)) [ Ok w ↦ λ f. f e is matches | Err x ↦ λ f. tt ] h
