-- What the others of a user's channels are told, by the names of those.
use Rattle.std.proofs.Common.{◌≡◌, ℕ, List, [], ◌∷◌, map, refl, ap, ◌∙◌, true, false, cond, is_eq, Less, Bor, BTreeSet}
use Rattle.std.specs.Prelude.{Option, Some, None, option_copied}
use Rattle.std.specs.Ordering.{ordering_reverse}
use Rattle.std.specs.List.{AllByRecursion}
use Rattle.std.specs.List.Sorted.{IsStrictlySortedBy}
use Rattle.std.specs.Map.{keys_of}
use Rattle.line_words.specs.Table.{name_cmp, same_name, is_among, at_name}
use Rattle.line_words.proofs.Tables.{name_cmp_total, same_name_itself}
use Rattle.channel_book.specs.Channels.{Channels, names_of, names_in, channels_of}
use Rattle.channel_book.specs.Places.{listed}
use Rattle.reply_kinds.specs.declared.Reply.TheVariants as reply
use Rattle.lobby_model.specs.Outcome.{Letter, tell, users}
use Rattle.lobby_post.specs.Posted.{but_issuer}
use Rattle.lobby_machine.specs.Talk.{left_letters}

abbrev pub letters_of : List ℕ → Channels → List (List ℕ) → List Letter
letters_of me channels names = map (λ channel. tell (but_issuer (users (names_in channels channel))) (reply.Left channel me ∷ [])) names

-- each channel is the one that is found at its name
later : (e : List ℕ × List (List ℕ)) (all es : Channels) → AllByRecursion (λ y. name_cmp e.0 y ≡ Less) (keys_of es)
    → AllByRecursion (λ d. names_in all d.0 ≡ d.1) es → AllByRecursion (λ d. names_in (e ∷ all) d.0 ≡ d.1) es
later e all [] above found = tt
later e all (d ∷ es) above found =
    let apart : same_name d.0 e.0 ≡ false = ap is_eq (name_cmp_total.antisymm d.0 e.0 ∙ ap ordering_reverse above.0) in
    (ap (λ b. names_of (cond b (Some e.1) (at_name all d.0))) apart ∙ found.0, later e all es above.1 found.1)

found_each : (channels : Channels) → IsStrictlySortedBy name_cmp (keys_of channels) → AllByRecursion (λ e. names_in channels e.0 ≡ e.1) channels
unfolding IsStrictlySortedBy
found_each [] rising = tt
found_each (e ∷ es) rising =
    (ap (λ b. names_of (cond b (Some e.1) (at_name es e.0))) (same_name_itself e.0), later e es es rising.0 (found_each es rising.1))

told_each : (me : List ℕ) (all es : Channels) → AllByRecursion (λ e. names_in all e.0 ≡ e.1) es → letters_of me all (keys_of (channels_of me es)) ≡ left_letters me es
told_each me all [] found = refl
told_each me all (e ∷ es) found =
    let rest = told_each me all es found.1 in
    let kept = channels_of me es in
    elim (is_among me e.1) as (λ b. letters_of me all (keys_of (cond b (e ∷ kept) kept))
    ≡ map (λ d. tell (but_issuer (users d.1)) (reply.Left d.0 me ∷ [])) (cond b (e ∷ kept) kept)) [
      | true ↦ (λ i. tell (but_issuer (users (found.0 i))) (reply.Left e.0 me ∷ []) ∷ rest i)
      | false ↦ rest
    ]

pub letters_are : (me : List ℕ) (channels : Channels) → IsStrictlySortedBy name_cmp (keys_of channels) → (names : List (List ℕ))
    → names ≡ keys_of (channels_of me channels) → letters_of me channels names ≡ left_letters me channels
letters_are me channels rising names is = ap (letters_of me channels) is ∙ told_each me channels channels (found_each channels rising)

pub none_listed : (found : Option (Bor (BTreeSet (List ℕ)))) → ((names : Bor (BTreeSet (List ℕ))) → found ≡ Some names → ⊥) → [] ≡ listed (option_copied found)
none_listed None none = refl
none_listed (Some names) none = absurd (none names refl)
