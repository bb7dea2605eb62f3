-- Takes of a client's lines come to an end.
use Rattle.std.proofs.Common.{◌≡◌, ℕ, zero, suc, ◌+◌, ◌-◌, ◌<◌, ◌≤◌, Bool, true, false, ◌||◌, cond, List, [], ◌∷◌, ◌++◌, length, Option, Some, None, is_some, refl, sym, ap, ◌∙◌, subst, arith, append_assoc, length-drop, append-nil}
use Rattle.std.proofs.lemmas.List.{length-map}
use Rattle.std.proofs.lemmas.Option.{slice_get_within}
use Rattle.std.specs.Prelude.{slice_get, MatchBool}
use Rattle.std.specs.Ordering.{nat_cmp}
use Rattle.std.specs.Cmp.{nat_cmp_total}
use Rattle.std.specs.FinMap.Entries.{find, find-put}
use Rattle.std.proofs.lemmas.Bool.{and_parts, false≢true}
use Rattle.line_framer.specs.Frames.{frames, is_spoilt, lines_in, without_cr}
use Rattle.line_framer.specs.Framed.{Framed, StandsFor}
use Rattle.account_book.specs.Account.{Account}
use Rattle.lobby_model.specs.declared.event.Event.{Event}
use Rattle.lobby_model.specs.declared.event.Event.TheVariants as event
use Rattle.lobby_model.specs.declared.schedule.Step.TheVariants as step
use Rattle.lobby_model.specs.Configuration.{Configuration}
use Rattle.lobby_model.specs.Schedule.{World, Input, input, input_of, is_open, line_limit, moved, with_taken, TakeGives, StepGives}
use Rattle.lobby_model.proofs.Delivered.{same_itself}
use Rattle.lobby_model.proofs.Quiet.{shut_removes}
use Rattle.lobby_hall.specs.Standing.{Kept, Stands, StandsAfter, SessionOf, is_ready, session_at}
use Rattle.client_session.specs.Serving.{Serving}
use Rattle.lobby_script.specs.Acts.{Takes}

-- one take more
pub taken_more : (n : ℕ) (w mid new : World) (c : ℕ) (here later : List Event) → Takes n w c here mid → is_ready mid c ≡ true → StepGives mid (step.Take c) later new → Takes (suc n) w c (here ++ later) new
taken_more zero w mid new c here later (none, same) ready gives =
    (subst (λ x. is_ready x c ≡ true) same ready, (later, new, [], subst (λ x. StepGives x (step.Take c) later new) same gives, (refl, refl), ap (λ l. l ++ later) none ∙ sym (append-nil later)))
taken_more (suc n) w mid new c here later (first, more) ready gives =
    let rest = taken_more n more.1 mid new c more.2 later more.4 ready gives in
    (first, (more.0, more.1, more.2 ++ later, more.3, rest, ap (λ l. l ++ later) more.5 ∙ append_assoc more.0 more.2 later))

-- ---- what is left to take

-- a session has its whole lines to take, and perhaps its spoilt place
abbrev pub left_in : Option Serving → ℕ
left_in None = 0
left_in (Some session) = suc (length (lines_in session.framed.ahead))

abbrev pub left_to_take : Kept → ℕ → ℕ
left_to_take hall c = left_in (session_at hall.sessions c)

shut_is_gone : (w : World) (c : ℕ) → is_open (moved w (event.Shut c ∷ [])) c ≡ false
shut_is_gone w c = ap is_some (shut_removes w.lobby c)

-- a line was taken of what is the input now
taken_input : (w : World) (c : ℕ) → input (with_taken w c) c ≡ record { bytes = (input w c).bytes; taken = (input w c).taken + 1 }
taken_input w c =
    let taken_one : Input = record { bytes = (input w c).bytes; taken = (input w c).taken + 1 } in
    ap input_of (find-put nat_cmp nat_cmp_total c c taken_one w.inputs ∙ ap (λ b. cond b (Some taken_one) (find nat_cmp c w.inputs)) (same_itself c))

waits_for : (session : Framed) (bytes : List ℕ) (taken : ℕ) → StandsFor session bytes taken → length (lines_in session.ahead) ≡ length (frames bytes session.limit) - taken
waits_for session bytes taken stands =
    sym (length-map (lines_in session.ahead) without_cr) ∙ ap (λ (l : List (List ℕ)). length l) stands.lines ∙ length-drop taken (frames bytes session.limit)

-- the number of a session's lines, by what came and what was taken
left_at : (o : Option Serving) (opened : Bool) (given : Input) → SessionOf o opened given → left_in o ≤ suc (length (frames given.bytes line_limit) - given.taken)
left_at None opened given h = omega arith
left_at (Some session) opened given h =
    let same = waits_for session.framed given.bytes given.taken h.1.1 in
    let limit = ap (λ l. length (frames given.bytes l)) h.1.0 in
    omega (arith, same, limit)

left_when_open : (o : Option Serving) (given : Input) → SessionOf o true given → left_in o ≡ suc (length (frames given.bytes line_limit) - given.taken)
left_when_open None given h = absurd (false≢true (sym h))
left_when_open (Some session) given h =
    let same = waits_for session.framed given.bytes given.taken h.1.1 in
    let limit = ap (λ l. length (frames given.bytes l)) h.1.0 in
    omega (arith, same, limit)

left_when_shut : (o : Option Serving) (given : Input) → SessionOf o false given → left_in o ≡ 0
left_when_shut None given h = refl
left_when_shut (Some session) given h = absurd (false≢true h.0)

spoilt_there : (w : World) (c : ℕ) → slice_get (frames (input w c).bytes line_limit) (input w c).taken ≡ None → is_ready w c ≡ true → is_spoilt (input w c).bytes line_limit ≡ true
spoilt_there w c none ready = sym (ap (λ (o : Option (List ℕ)). is_some o || is_spoilt (input w c).bytes line_limit) none) ∙ (and_parts (is_open w c) _ ready).1

-- a take leaves less to take
less_left : (w new : World) (c : ℕ) (here : List Event) (o : Option (List ℕ)) → slice_get (frames (input w c).bytes line_limit) (input w c).taken ≡ o → is_ready w c ≡ true → TakeGives w c o here new
    → (session : Option Serving) → SessionOf session (is_open new c) (input new c) → left_in session < suc (length (frames (input w c).bytes line_limit) - (input w c).taken)
less_left w new c here (Some line) e ready gives session stands =
    let there = slice_get_within (frames (input w c).bytes line_limit) (input w c).taken line e in
    let now : input new c ≡ record { bytes = (input w c).bytes; taken = (input w c).taken + 1 } = ap (λ x. input x c) gives.3 ∙ taken_input w c in
    let most = left_at session (is_open new c) _ (subst (λ x. SessionOf session (is_open new c) x) now stands) in
    omega (arith, most, there)
less_left w new c here None e ready gives session stands =
    let spoilt = spoilt_there w c e ready in
    let events : here ≡ event.Shut c ∷ [] = gives.0 ∙ ap (λ b. cond b (event.Shut c ∷ []) []) spoilt in
    let shut : is_open new c ≡ false = ap (λ x. is_open x c) (gives.1 ∙ ap (moved w) events) ∙ shut_is_gone w c in
    let nothing = left_when_shut session (input new c) (subst (λ b. SessionOf session b (input new c)) shut stands) in
    omega (arith, nothing)

pub take_lessens : (hall new : Kept) (c : ℕ) (settings : Configuration) (accounts : List Account) (events : List Event) (world : World) → Stands hall settings accounts events world → is_ready world c ≡ true → StandsAfter new settings accounts events world (step.Take c)
    → left_to_take new c < left_to_take hall c
take_lessens hall new c settings accounts events world stands ready (here, later, gives, now) =
    let opened = (and_parts (is_open world c) _ ready).0 in
    let taken = subst (λ b. MatchBool b (TakeGives world c (slice_get (frames (input world c).bytes line_limit) (input world c).taken) here later) ((here ≡ []) × (later ≡ world))) opened gives in
    let before = left_when_open (session_at hall.sessions c) (input world c) (subst (λ b. SessionOf (session_at hall.sessions c) b (input world c)) opened (stands.sessions c)) in
    let after_it = less_left world later c here _ refl ready taken (session_at new.sessions c) (now.sessions c) in
    omega (arith, before, after_it)
