-- What an event comes to: a refusal, or things that happen one after another. Each thing that happens says in one place
-- what it changes and who is told what of it.
use Rattle.std.specs.Prelude.{ℕ, Bool, false, not, ◌&&◌, if◌then◌else◌, List, [], ◌∷◌, flat_map, Option, Some, None}
use Rattle.std.specs.Prelude.{is_some}
use Rattle.reply_kinds.specs.declared.Reply.{Reply}
use Rattle.reply_kinds.specs.declared.Reply.TheVariants as reply
use Rattle.line_words.specs.Table.{same_name, is_among}
use Rattle.lobby_model.specs.State.{State}

-- One client, as one who may get a line. mine: the event is its own; name: the name under which it is logged in
pub record Reader : Type 0 where
  pub mine : Bool
  pub name : Option (List ℕ)

-- who is meant
abbrev pub Audience : Type 0
Audience = Reader → Bool

abbrev pub is_named : (List ℕ → Bool) → Option (List ℕ) → Bool
is_named test None = false
is_named test (Some name) = test name

-- the client whose event it is, logged in or not
abbrev pub issuer : Audience
issuer reader = reader.mine

-- all who are logged in, those of them whose event it is not, and those who do not bear one of these names
abbrev pub everyone : Audience
everyone reader = is_some reader.name

abbrev pub others : Audience
others reader = not reader.mine && is_some reader.name

abbrev pub everyone_but : List (List ℕ) → Audience
everyone_but names reader = is_named (λ n. not (is_among n names)) reader.name

-- the user of this name, and the users of these names; the reader's name is always the first that is compared
abbrev pub user : List ℕ → Audience
user name reader = is_named (λ n. same_name n name) reader.name

abbrev pub users : List (List ℕ) → Audience
users names reader = is_named (λ n. is_among n names) reader.name

-- Lines for all of an audience
pub record Letter : Type 0 where
  pub to : Audience
  pub lines : List Reply

abbrev pub tell : Audience → List Reply → Letter
tell to lines = record { to = to; lines = lines }

-- what one reader gets of letters, in their order
abbrev pub lines_for : Reader → List Letter → List Reply
lines_for reader letters = flat_map (λ l. if l.to reader then l.lines else []) letters

-- One thing that happens
pub record Happening : Type 0 where
  pub after : State → State
  pub told : List Letter

abbrev pub happens : (State → State) → List Letter → Happening
happens after told = record { after = after; told = told }

-- nothing changes
abbrev pub only_told : List Letter → Happening
only_told told = happens (λ s. s) told

-- What an event comes to
pub data Outcome : Type 0 where
  -- its issuer is told why not, and nothing changes
  Refused : Reply → Outcome
  Done : List Happening → Outcome

abbrev pub done : Happening → Outcome
done happening = Done (happening ∷ [])

abbrev pub nothing : Outcome
nothing = Done []

-- the state after it
abbrev pub all_after : State → List Happening → State
all_after s [] = s
all_after s (h ∷ happenings) = all_after (h.after s) happenings

abbrev pub state_after : State → Outcome → State
state_after s (Refused refusal) = s
state_after s (Done happenings) = all_after s happenings

-- who is told what of it
abbrev pub letters_of : Outcome → List Letter
letters_of (Refused refusal) = tell issuer (refusal ∷ []) ∷ []
letters_of (Done happenings) = flat_map (λ h. h.told) happenings

abbrev pub refusal_of : Outcome → Option Reply
refusal_of (Refused refusal) = Some refusal
refusal_of (Done happenings) = None

-- Checks, one before another
abbrev pub refuse_if : Bool → Reply → Outcome → Outcome
refuse_if failing refusal otherwise = if failing then Refused refusal else otherwise

abbrev pub message : List ℕ → Reply
message text = reply.ServerMsg text
