-- What one client says to one user in private is told to nobody else, not even by what is put later.
use Rattle.std.proofs.Common.{◌≡◌, ℕ, suc, ◌+◌, List, [], ◌∷◌, ◌++◌, refl, sym, ap, ◌∙◌, Bool, true, false, not, length, length-append}
use Rattle.std.specs.Prelude.{Option, Some, None, ◌||◌, ◌&&◌, if◌then◌else◌, is_some, codes}
use Rattle.std.proofs.lemmas.Bool.{or_parts}
use Rattle.reply_kinds.specs.declared.Reply.{Reply}
use Rattle.reply_kinds.specs.declared.Reply.TheVariants as reply
use Rattle.reply_kinds.specs.Replies.{print, print_all, id_text}
use Rattle.command_grammar.specs.declared.command.Command.TheVariants as command
use Rattle.line_words.specs.Table.{at_number, at_name, same_name, same_number, map_values}
use Rattle.line_words.proofs.Tables.{same_name_is}
use Rattle.lobby_model.specs.declared.event.Event.{Event}
use Rattle.lobby_model.specs.State.{State, Client, hears, name_of, is_live}
use Rattle.lobby_model.specs.Texts.{no_such_user}
use Rattle.lobby_model.specs.Outcome.{Reader, Outcome, Happening, Refused, nothing, lines_for, letters_of, state_after, issuer, user, done, only_told, tell, message}
use Rattle.lobby_model.specs.Commands.{answer}
use Rattle.lobby_model.specs.Events.{outcome, effect, under, line_id, reader_of}
use Rattle.lobby_model.specs.Next.{next, batch, put_by, put_to, with_batch, has_room_for}
use Rattle.lobby_model.specs.History.{after, put_in}
use Rattle.lobby_model.proofs.Delivered.{same_number_is, put_nothing}
use Rattle.lobby_view.specs.Private.{whispers}
use Rattle.lobby_view.proofs.Unread.{masked, hidden, delivered_alike, room_alike}
use Rattle.lobby_view.proofs.Follows.{puts_alike}

-- lists of one length, behind one front and before one end
behind : (front xs ys : List ℕ) → length xs ≡ length ys → length (front ++ xs) ≡ length (front ++ ys)
behind [] xs ys e = e
behind (a ∷ front) xs ys e = ap suc (behind front xs ys e)

before_it : (xs ys end : List ℕ) → length xs ≡ length ys → length (xs ++ end) ≡ length (ys ++ end)
before_it xs ys end e = length-append xs end ∙ ap (λ n. n + length end) e ∙ sym (length-append ys end)

-- it is told to its issuer and to the user
abbrev said : List ℕ → List ℕ → List ℕ → Happening
said me u text = only_told (tell issuer (reply.SayPrivate u text ∷ []) ∷ tell (user u) (reply.SaidPrivate me text ∷ []) ∷ [])

-- what a reader gets of that, if it is the issuer, and if it is the user
abbrev told : Bool → Bool → List ℕ → List ℕ → List ℕ → List Reply
told is_issuer is_user me u text =
    (if is_issuer then reply.SayPrivate u text ∷ [] else []) ++ ((if is_user then reply.SaidPrivate me text ∷ [] else []) ++ [])

abbrev got : Reader → Outcome → List Reply
got reader o = lines_for reader (letters_of o)

abbrev printed : Option ℕ → List Reply → List ℕ
printed i replies = print_all (under i replies)

-- Client c says a text to the user u in private, under this id
module _ (c : ℕ) (id : Option ℕ) (u : List ℕ) where
  -- what that comes to, whatever the text: nothing, a refusal that does not show it, or it is said
  comes_to : (s : State) (P : (List ℕ → Outcome) → Type 0) → P (λ text. nothing) → ((refusal : Reply) → P (λ text. Refused refusal))
      → ((me : List ℕ) → P (λ text. done (said me u text))) → P (λ text. outcome s (whispers c id u text))
  comes_to s P void refused is_said =
      elim (hears s c) as (λ b. P (λ text. if b then answer s c (name_of s c) (command.SayPrivate u text) else nothing)) [
        | true ↦ by_name (name_of s c)
        | false ↦ void
      ]
    where
      by_name : (me : Option (List ℕ)) → P (λ text. answer s c me (command.SayPrivate u text))
      by_name None = refused _
      by_name (Some me) =
          elim (not (is_some (at_name s.users u))) as (λ b. P (λ text. if b then Refused (message no_such_user) else done (said me u text))) [
            | true ↦ refused _
            | false ↦ is_said me
          ]

  -- client c, and the client that is logged in as u
  abbrev theirs : State → ℕ → Bool
  theirs s d = same_number d c || user u (reader_of s c d)

  is_apart : (s : State) (d : ℕ) → (d ≡ c → ⊥) → (name_of s d ≡ Some u → ⊥) → theirs s d ≡ false
  is_apart s d other unnamed =
      elim (same_number d c) as (λ b. same_number d c ≡ b → (b || user u (reader_of s c d)) ≡ false) [
        | true ↦ λ e. absurd (other (same_number_is d c e))
        | false ↦ λ e. not_named (name_of s d) unnamed
      ] refl
    where
      not_named : (o : Option (List ℕ)) → (o ≡ Some u → ⊥) → user u (record { mine = same_number d c; name = o }) ≡ false
      not_named None never = refl
      not_named (Some name) never = elim (same_name name u) as (λ b. same_name name u ≡ b → b ≡ false) [
        | true ↦ λ e. absurd (never (ap (λ n. Some n) (same_name_is name u e)))
        | false ↦ λ e. refl
      ] refl

  -- nothing changes but unread bytes
  pub changes_nothing : (s : State) (text : List ℕ) → effect s (whispers c id u text) ≡ s
  changes_nothing s =
      comes_to s (λ f. (text : List ℕ) → state_after s (f text) ≡ s) (λ text. refl) (λ refusal text. refl) (λ me text. refl)

  -- the others get nothing of it
  got_nothing : (s : State) (reader : Reader) → reader.mine ≡ false → user u reader ≡ false → (text : List ℕ)
      → got reader (outcome s (whispers c id u text)) ≡ []
  got_nothing s reader other unnamed =
      comes_to s (λ f. (text : List ℕ) → got reader (f text) ≡ []) (λ text. refl)
      (λ refusal text. λ i. (if other i then refusal ∷ [] else []) ++ []) (λ me text. λ i. told (other i) (unnamed i) me u text)

  no_batch : (s : State) (d : ℕ) → theirs s d ≡ false → (text : List ℕ) → batch s (whispers c id u text) d ≡ []
  no_batch s d apart text =
      let p = or_parts (same_number d c) (user u (reader_of s c d)) apart in
      ap (printed (line_id (same_number d c) (whispers c id u text))) (got_nothing s (reader_of s c d) p.0 p.1 text)

  pub puts_nothing : (s : State) (text : List ℕ) (d : ℕ) → (d ≡ c → ⊥) → (name_of s d ≡ Some u → ⊥) → put_by s (whispers c id u text) d ≡ []
  puts_nothing s text d other unnamed =
      let said_at = at_number (effect s (whispers c id u text)).clients d in
      ap (λ bytes. put_to s.settings.outbox_limit bytes said_at) (no_batch s d (is_apart s d other unnamed) text)
      ∙ put_nothing s.settings.outbox_limit said_at

  -- two texts of one length
  module _ (x y : List ℕ) (long : length x ≡ length y) where
    abbrev first : Event
    first = whispers c id u x

    abbrev second : Event
    second = whispers c id u y

    -- their lines are as long
    line_long : (i : Option ℕ) (word name : List ℕ)
        → length ((id_text i ++ (word ++ ((32 ∷ name) ++ ((32 ∷ x) ++ [])))) ++ 10 ∷ [])
        ≡ length ((id_text i ++ (word ++ ((32 ∷ name) ++ ((32 ∷ y) ++ [])))) ++ 10 ∷ [])
    line_long i word name =
        let a = (32 ∷ x) ++ [] in
        let b = (32 ∷ y) ++ [] in
        let texts = behind (32 ∷ name) a b (before_it (32 ∷ x) (32 ∷ y) [] (ap suc long)) in
        let words = behind word ((32 ∷ name) ++ a) ((32 ∷ name) ++ b) texts in
        before_it (id_text i ++ (word ++ ((32 ∷ name) ++ a))) (id_text i ++ (word ++ ((32 ∷ name) ++ b))) (10 ∷ [])
        (behind (id_text i) (word ++ ((32 ∷ name) ++ a)) (word ++ ((32 ∷ name) ++ b)) words)

    heard_long : (i : Option ℕ) (me : List ℕ) (is_user : Bool)
        → length (printed i (told false is_user me u x)) ≡ length (printed i (told false is_user me u y))
    heard_long i me false = refl
    heard_long i me true = before_it (print (i, reply.SaidPrivate me x)) (print (i, reply.SaidPrivate me y)) [] (line_long i (codes "SAIDPRIVATE") me)

    told_long : (i : Option ℕ) (me : List ℕ) (is_issuer is_user : Bool)
        → length (printed i (told is_issuer is_user me u x)) ≡ length (printed i (told is_issuer is_user me u y))
    told_long i me false is_user = heard_long i me is_user
    told_long i me true is_user =
        let more = printed i (told false is_user me u x) in
        let rest = printed i (told false is_user me u y) in
        behind (print (i, reply.SayPrivate u x)) more rest (heard_long i me is_user)
        ∙ before_it (print (i, reply.SayPrivate u x)) (print (i, reply.SayPrivate u y)) rest (line_long i (codes "SAYPRIVATE") u)

    -- as many bytes for each, and the same for all but the two
    got_long : (s : State) (i : Option ℕ) (reader : Reader)
        → length (printed i (got reader (outcome s first))) ≡ length (printed i (got reader (outcome s second)))
    got_long s i reader =
        comes_to s (λ f. length (printed i (got reader (f x))) ≡ length (printed i (got reader (f y)))) refl (λ refusal. refl)
        (λ me. told_long i me reader.mine (user u reader))

    batch_long : (s : State) (d : ℕ) → length (batch s first d) ≡ length (batch s second d)
    batch_long s d =
        got_long s (line_id (same_number d c) first) (reader_of s c d)
        ∙ ap (λ i. length (printed i (got (reader_of s c d) (outcome s second)))) (under_one_id (same_number d c))
      where
        under_one_id : (b : Bool) → line_id b first ≡ line_id b second
        under_one_id true = refl
        under_one_id false = refl

    batch_apart : (s : State) (d : ℕ) → theirs s d ≡ false → batch s first d ≡ batch s second d
    batch_apart s d apart = no_batch s d apart x ∙ sym (no_batch s d apart y)

    stays : (s : State) → effect s first ≡ effect s second
    stays s = changes_nothing s x ∙ sym (changes_nothing s y)

    then_alike : (s : State) → masked (theirs s) (next s first) ≡ masked (theirs s) (next s second)
    then_alike s =
        let limit = s.settings.outbox_limit in
        ap (λ (t : State). record t { clients = hidden (theirs s) (map_values (λ d client. with_batch limit (batch s first d) client) t.clients) }) (stays s)
        ∙ ap (λ clients. record (effect s second) { clients = clients })
        (delivered_alike (theirs s) limit (batch s first) (batch s second) (effect s second).clients (batch_long s) (batch_apart s))

    later_alike : (s : State) (later : List Event) (d : ℕ) → put_in (next s first) later d ≡ put_in (next s second) later d
    later_alike s = puts_alike (theirs s) (next s first) (next s second) (then_alike s)

    put_long : (limit : ℕ) (xs ys : List ℕ) (o : Option Client) → length xs ≡ length ys → length (put_to limit xs o) ≡ length (put_to limit ys o)
    put_long limit xs ys None e = refl
    put_long limit xs ys (Some client) e =
        ap (λ has_room. length (if is_live client && has_room then xs else [])) (room_alike limit xs ys client e)
        ∙ elim (is_live client && has_room_for limit client ys) as (λ b. length (if b then xs else []) ≡ length (if b then ys else [])) [
          | true ↦ e
          | false ↦ refl
        ]

    put_as_many : (s : State) (d : ℕ) → length (put_by s first d) ≡ length (put_by s second d)
    put_as_many s d =
        let limit = s.settings.outbox_limit in
        put_long limit (batch s first d) (batch s second d) (at_number (effect s first).clients d) (batch_long s d)
        ∙ ap (λ (t : State). length (put_to limit (batch s second d) (at_number t.clients d))) (stays s)

    -- they put the same bytes to each client that is neither c nor, at that place, logged in as u
    pub others_alike : (s : State) (before later : List Event) (d : ℕ) → (d ≡ c → ⊥) → (name_of (after s before) d ≡ Some u → ⊥)
        → put_in s (before ++ first ∷ later) d ≡ put_in s (before ++ second ∷ later) d
    others_alike s [] later d other unnamed =
        ap (λ bytes. bytes ++ put_in (next s first) later d) (puts_nothing s x d other unnamed ∙ sym (puts_nothing s y d other unnamed))
        ∙ ap (λ bytes. put_by s second d ++ bytes) (later_alike s later d)
    others_alike s (e ∷ before) later d other unnamed = ap (λ bytes. put_by s e d ++ bytes) (others_alike (next s e) before later d other unnamed)

    -- and to those two as many
    pub as_many : (s : State) (before later : List Event) (d : ℕ)
        → length (put_in s (before ++ first ∷ later) d) ≡ length (put_in s (before ++ second ∷ later) d)
    as_many s [] later d =
        before_it (put_by s first d) (put_by s second d) (put_in (next s first) later d) (put_as_many s d)
        ∙ ap (λ bytes. length (put_by s second d ++ bytes)) (later_alike s later d)
    as_many s (e ∷ before) later d =
        behind (put_by s e d) (put_in (next s e) (before ++ first ∷ later) d) (put_in (next s e) (before ++ second ∷ later) d) (as_many (next s e) before later d)
