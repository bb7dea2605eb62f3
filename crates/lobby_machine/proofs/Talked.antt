-- What talk comes to.
use Rattle.std.proofs.Common.{◌≡◌, ℕ, List, [], ◌∷◌, ◌++◌, refl, sym, ap, subst, ◌∙◌, false}
use Rattle.reply_kinds.specs.declared.Reply.TheVariants as reply
use Rattle.line_words.specs.Table.{is_among}
use Rattle.channel_book.specs.Channels.{names_in, joined}
use Rattle.lobby_model.specs.State.{State}
use Rattle.lobby_model.specs.Outcome.{tell, user, users}
use Rattle.lobby_model.specs.Channels.{name_lines, join, joins, list_channels}
use Rattle.lobby_post.specs.Posted.{Posted, Told, addressed, blank, with_own}
use Rattle.lobby_post.proofs.Telling.{told_then, told_as_one, told_own_lines, with_own_more}
use Rattle.lobby_maps.specs.declared.change.Change.TheVariants.{Nothing, Join}
use Rattle.battle_rules.specs.Answers.{Obeyed}
use Rattle.battle_rules.proofs.Obeying.{passes}
use Rattle.lobby_machine.specs.Talk.{channel_lines}

pub joins_so : (s : State) (c : ℕ) (old a b new : Posted) (me channel : List ℕ) (names : List (List ℕ)) (name_copy channel_copy : List ℕ)
    → names ≡ names_in s.channels channel → is_among me (names_in s.channels channel) ≡ false
    → channel_copy ≡ channel → name_copy ≡ me → Told s old a (tell (user me) (reply.Join channel ∷ []) ∷ [])
    → Told s a b (tell (user me) (name_lines channel (names ++ me ∷ [])) ∷ [])
    → Told s b new (tell (users names) (reply.Joined channel me ∷ []) ∷ [])
    → Obeyed s c old new (Join channel_copy name_copy) (join s me channel)
joins_so s c old a b new me channel names name_copy channel_copy are out same_channel same_name first second third =
    let told : Told s old new (tell (user me) (reply.Join channel ∷ name_lines channel (names ++ me ∷ []))
    ∷ tell (users names) (reply.Joined channel me ∷ []) ∷ []) =
    told_then s old b new _ _ (told_as_one s old b (user me) (reply.Join channel ∷ []) (name_lines channel (names ++ me ∷ []))
    (told_then s old a b _ _ first second)) third in
    passes s c old new (is_among me (names_in s.channels channel)) _
    (joins me channel (names_in s.channels channel)) (Join channel_copy name_copy) out
    (subst (λ ns. Told s old new (tell (user me) (reply.Join channel ∷ name_lines channel (ns ++ me ∷ []))
    ∷ tell (users ns) (reply.Joined channel me ∷ []) ∷ [])) are told)
    (λ i. record s { channels = joined (sym same_channel i) (sym same_name i) s.channels })
    (ap (λ n. is_among n (names_in s.channels channel_copy)) same_name ∙ ap (λ ch. is_among me (names_in s.channels ch)) same_channel ∙ out)

pub channels_listed : (s : State) (c : ℕ) (old p0 p1 p2 new : Posted) → p0 ≡ blank old → p1 ≡ with_own p0 (channel_lines s.channels)
    → p2 ≡ with_own p1 (reply.EndOfChannels ∷ []) → new ≡ addressed p2 (p2.issuer ∷ []) → Obeyed s c old new Nothing (list_channels s)
channels_listed s c old p0 p1 p2 new begun listed ended sent = record {
  told = told_own_lines s old p2 new (channel_lines s.channels ++ reply.EndOfChannels ∷ [])
      (ended ∙ ap (λ p. with_own p (reply.EndOfChannels ∷ [])) (listed ∙ ap (λ p. with_own p (channel_lines s.channels)) begun)
      ∙ with_own_more (blank old) (channel_lines s.channels) (reply.EndOfChannels ∷ [])) sent;
  effect = refl;
  can_be = tt;
}
