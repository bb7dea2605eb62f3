-- Laws of logs and of what they lack.
use Rattle.std.proofs.Common.{◌≡◌, ℕ, suc, ◌-◌, List, [], ◌∷◌, ◌++◌, length, refl, ap, ◌∙◌, arith, append-nil, length-append, length-drop}
use Rattle.std.specs.List.{AllByRecursion}
use Rattle.std.proofs.lemmas.List.{drop_all}
use Rattle.lobby_model.specs.State.{State}
use Rattle.lobby_machine.specs.Shown.{unread_of}
use Rattle.lobby_hall.specs.Record.{Log}
use Rattle.lobby_hall.specs.Copied.{lacking, completed_log, completed_from, IsWithin}

-- a log that was completed lacks nothing
pub lacking-completed : (log : Log) (unread : List ℕ) → IsWithin log → lacking (completed_log log unread) unread ≡ []
lacking-completed log unread within =
    drop_all (length (log.put ++ lacking log unread) - length log.read) unread
    (omega (arith, within, length-append log.put (lacking log unread), length-drop (length log.put - length log.read) unread))

pub completed_twice : (log : Log) (unread : List ℕ) → IsWithin log → completed_log (completed_log log unread) unread ≡ completed_log log unread
completed_twice log unread within =
    ap (λ (more : List ℕ). record { put = (log.put ++ lacking log unread) ++ more; read = log.read }) (lacking-completed log unread within)
    ∙ ap (λ (put : List ℕ). record { put = put; read = log.read }) (append-nil (log.put ++ lacking log unread))

pub length-completed_from : (c : ℕ) (logs : List Log) (s : State) → length (completed_from c logs s) ≡ length logs
length-completed_from c [] s = refl
length-completed_from c (log ∷ logs) s = ap suc (length-completed_from (suc c) logs s)

pub completed_within : (c : ℕ) (logs : List Log) (s : State) → AllByRecursion IsWithin logs → AllByRecursion IsWithin (completed_from c logs s)
completed_within c [] s h = tt
completed_within c (log ∷ logs) s h = (omega (arith, h.0, length-append log.put (lacking log (unread_of s c))), completed_within (suc c) logs s h.1)
