-- Lines that can be read again: from those of each thing that happens to all that are put.
use Rattle.std.proofs.Common.{ℕ, ◌≤◌, List, [], ◌∷◌, Bool, true, false, arith}
use Rattle.std.specs.Prelude.{Option, Some, None, if◌then◌else◌, ◌&&◌, length}
use Rattle.reply_kinds.specs.declared.Reply.{Reply}
use Rattle.reply_kinds.specs.Replies.{Line, Fits, IsId, command_of, kinds_of, values_of, line_text}
use Rattle.line_words.specs.Table.{at_number}
use Rattle.lobby_model.specs.declared.event.Event.{Event}
use Rattle.lobby_model.specs.State.{State, Client, is_live}
use Rattle.lobby_model.specs.Outcome.{Reader, Letter, lines_for, letters_of}
use Rattle.lobby_model.specs.Events.{effect, sent, under, outcome, reader_of, issuer_of, id_of, line_id}
use Rattle.lobby_model.specs.Next.{next, batch, has_room_for}
use Rattle.lobby_view.specs.Bytes.{frame_limit}
use Rattle.lobby_view.proofs.Everywhere.{Each, each_append}
use Rattle.lobby_view.proofs.LinesPut.{lines_to, lines_by, lines_put}
use Rattle.lobby_view.proofs.Lengths.{all_room, line_room}

-- a reply keeps its kinds and is not too long, whatever id it bears
pub record Clean (r : Reply) : Type 0 where
  pub fits : Fits r
  pub short : all_room (kinds_of (command_of r)) (values_of r) ≤ 20448

abbrev pub CleanLetters : List Letter → Type 0
CleanLetters letters = Each (λ (l : Letter). Each Clean l.lines) letters

-- a line that a reader can take back
pub record Readable (line : Line) : Type 0 where
  pub id : IsId line.0
  pub fits : Fits line.1
  pub short : length (line_text line.0 line.1) ≤ frame_limit

clean_for : (reader : Reader) (letters : List Letter) → CleanLetters letters → Each Clean (lines_for reader letters)
clean_for reader [] p = tt
clean_for reader (l ∷ letters) p =
    each_append Clean _ _ (elim (l.to reader) as (λ b. Each Clean (if b then l.lines else [])) [ true ↦ p.0 | false ↦ tt ])
    (clean_for reader letters p.1)

readable_under : (id : Option ℕ) (rs : List Reply) → IsId id → Each Clean rs → Each Readable (under id rs)
readable_under id [] h p = tt
readable_under id (r ∷ rs) h p = (
  record { id = h; fits = p.0.fits; short = (let long = line_room id r h p.0.fits in let most = p.0.short in omega arith) },
  readable_under id rs h p.1,
)

-- the lines of an event whose letters are clean
pub readable_sent : (s : State) (e : Event) → IsId (id_of e) → CleanLetters (letters_of (outcome s e)) → (c : ℕ) → Each Readable (sent s e c)
readable_sent s e is_id clean c =
    readable_under _ (lines_for (reader_of s (issuer_of s e) c) (letters_of (outcome s e))) (own_id (reader_of s (issuer_of s e) c).mine)
    (clean_for (reader_of s (issuer_of s e) c) (letters_of (outcome s e)) clean)
  where
    own_id : (mine : Bool) → IsId (line_id mine e)
    own_id true = is_id
    own_id false = tt

-- Known: what is known of a state that events of a history keep; what they send is then readable
module _ (Fair : Event → Type 0) (Known : State → Type 0) (stays : (s : State) (e : Event) → Known s → Fair e → Known (next s e))
    (readable : (s : State) (e : Event) → Known s → Fair e → (c : ℕ) → Each Readable (sent s e c)) where
  readable_to : (s : State) (e : Event) (c : ℕ) (o : Option Client) → Known s → Fair e → Each Readable (lines_to s e o c)
  readable_to s e c None k fair = tt
  readable_to s e c (Some client) k fair =
      elim (is_live client && has_room_for s.settings.outbox_limit client (batch s e c)) as (λ b. Each Readable (if b then sent s e c else [])) [
        | true ↦ readable s e k fair c
        | false ↦ tt
      ]

  pub readable_put : (s : State) (history : List Event) (c : ℕ) → Known s → Each Fair history → Each Readable (lines_put s history c)
  readable_put s [] c k all = tt
  readable_put s (e ∷ history) c k all =
      each_append Readable (lines_by s e c) (lines_put (next s e) history c) (readable_to s e c (at_number (effect s e).clients c) k all.0)
      (readable_put (next s e) history c (stays s e k all.0) all.1)
