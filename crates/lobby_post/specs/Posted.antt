-- What an event has told so far, as pieces and as letters.
use Rattle.std.specs.Prelude.{◌≡◌, ℕ, ◌+◌, Bool, false, not, ◌&&◌, if◌then◌else◌, List, [], ◌∷◌, ◌++◌, length, map}
use Rattle.std.specs.Prelude.{Option, None}
use Rattle.std.specs.List.{list_any}
use Rattle.reply_kinds.specs.declared.Reply.{Reply}
use Rattle.reply_kinds.specs.Replies.{print_all}
use Rattle.line_words.specs.Table.{ByNumber, same_number}
use Rattle.lobby_model.specs.State.{State}
use Rattle.lobby_model.specs.Outcome.{Audience, Letter, lines_for}
use Rattle.lobby_model.specs.Events.{reader_of, under}
use Rattle.lobby_post.specs.Mail.{bytes_for}

-- issuer, id: whose event it is, and under which id; text: how many bytes were printed since it began; own, shared: the
-- lines that are being told, as the issuer gets them, and as others get them; sent: the pieces told
pub record Posted : Type 0 where
  pub issuer : ℕ
  pub id : Option ℕ
  pub text : ℕ
  pub own : List ℕ
  pub shared : List ℕ
  pub sent : ByNumber (List ℕ)

-- an event of this issuer begins, and nothing is told
abbrev pub begun : ℕ → Option ℕ → Posted
begun issuer id = record { issuer = issuer; id = id; text = 0; own = []; shared = []; sent = [] }

-- the lines that are being told, as client c gets them
abbrev pub face : Posted → ℕ → List ℕ
face post c = if same_number c post.issuer then post.own else post.shared

-- the piece that client c gets of them
abbrev pub copy_to : Posted → ℕ → ℕ × List ℕ
copy_to post c = (c, face post c)

-- the lines that are being told are sent to these clients
abbrev pub addressed : Posted → List ℕ → Posted
addressed post clients = record post { sent = post.sent ++ map (copy_to post) clients }

-- no line is being told, after those that were
abbrev pub blank : Posted → Posted
blank post = record post { own = []; shared = [] }

-- these lines are being told, in place of those before, and so many bytes were printed for them
abbrev pub telling : Posted → List ℕ → List ℕ → ℕ → Posted
telling post own shared printed = record post { text = post.text + printed; own = own; shared = shared }

-- with more lines for the issuer alone, each under the id
abbrev pub with_own : Posted → List Reply → Posted
with_own post lines =
    let printed : List ℕ = print_all (under post.id lines) in
    telling post (post.own ++ printed) (post.shared ++ printed) (length printed)

-- with more lines for others
abbrev pub with_others : Posted → List Reply → Posted
with_others post lines =
    let printed : List ℕ = print_all (under None lines) in
    telling post [] (post.shared ++ printed) (length printed)

-- a number is one of these
abbrev pub has_number : List ℕ → ℕ → Bool
has_number numbers c = list_any (same_number c) numbers

-- no number stands twice
abbrev pub AreApart : List ℕ → Type 0
AreApart [] = Unit {0}
AreApart (c ∷ cs) = (has_number cs c ≡ false) × AreApart cs

-- These clients, each once, are those of an audience
pub record Reaches (s : State) (issuer : ℕ) (clients : List ℕ) (to : Audience) : Type 0 where
  pub once : AreApart clients
  pub exact : (d : ℕ) → has_number clients d ≡ to (reader_of s issuer d)

-- The lines that were being told were sent to an audience, to each of it once
pub record Sends (s : State) (old new : Posted) (to : Audience) : Type 0 where
  pub clients : List ℕ
  pub reached : Reaches s old.issuer clients to
  pub is : new ≡ addressed old clients

-- These letters were told, in a state and an event of its issuer
pub record Told (s : State) (old new : Posted) (letters : List Letter) : Type 0 where
  pub issuer : new.issuer ≡ old.issuer
  pub id : new.id ≡ old.id
  pub bytes : (d : ℕ)
      → bytes_for new.sent d ≡ bytes_for old.sent d
      ++ print_all (under (if same_number d old.issuer then old.id
      else None) (lines_for (reader_of s old.issuer d) letters))

-- an audience without the issuer
abbrev pub but_issuer : Audience → Audience
but_issuer to reader = not reader.mine && to reader
