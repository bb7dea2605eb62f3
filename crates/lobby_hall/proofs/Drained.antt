-- What a read adds to the record.
use Rattle.std.proofs.Common.{◌≡◌, ◌≢◌, ℕ, suc, ◌+◌, ◌-◌, ◌≤◌, List, [], ◌∷◌, ◌++◌, length, take, drop, min, refl, sym, ap, ◌∙◌, true, false, arith, append-nil, length-append, length-drop, length-take, T}
use Rattle.std.specs.Prelude.{Some, None, if◌then◌else◌}
use Rattle.std.specs.Option.{option_map}
use Rattle.std.specs.Ordering.{nat_cmp}
use Rattle.std.specs.Cmp.{nat_cmp_total}
use Rattle.std.specs.FinMap.{nat_cmp-IsAntisymmetric}
use Rattle.std.specs.FinMap.Entries.{is_sorted}
use Rattle.std.proofs.lemmas.Iterator.Adapters.{option_map_id}
use Rattle.std.proofs.lemmas.List.{drop_all, take_all, take_min, drop_min}
use Rattle.account_book.specs.Account.{Account}
use Rattle.lobby_model.specs.declared.event.Event.{Event}
use Rattle.lobby_model.specs.declared.event.Event.TheVariants as event
use Rattle.line_words.specs.Table.{ByNumber, at_number, same_number}
use Rattle.lobby_model.specs.Configuration.{Configuration}
use Rattle.lobby_model.specs.State.{State, Client, empty_lobby}
use Rattle.lobby_model.specs.Sessions.{drained}
use Rattle.lobby_model.specs.Events.{effect}
use Rattle.lobby_model.specs.Next.{next, put_by, taken_from}
use Rattle.lobby_model.specs.History.{after, put_in, taken_in}
use Rattle.line_words.proofs.Tables.{at-change, change_alike}
use Rattle.lobby_model.proofs.Delivered.{put_nothing, same_itself}
use Rattle.lobby_model.proofs.Splits.{same_either_way}
use Rattle.lobby_model.proofs.Quiet.{next_drain}
use Rattle.lobby_model.proofs.Balance.{balanced}
use Rattle.lobby_machine.specs.Shown.{unread_of}
use Rattle.lobby_hall.specs.ByClient.{of_client}
use Rattle.lobby_hall.specs.Record.{Log, log_of, log_at, IsRecord}
use Rattle.lobby_hall.specs.Copied.{lacking, completed_log, completed, changed_at, caught_up, read_on}
use Rattle.lobby_hall.proofs.Each.{at_each, not_same}
use Rattle.lobby_hall.proofs.Unread.{unread_there, unread_same}
use Rattle.lobby_hall.proofs.Changed.{of-changed_same, of-changed_other}
use Rattle.lobby_hall.proofs.Recorded.{of-completed, put_in-snoc, taken_in-snoc, nobody}
use Rattle.std.proofs.Math.Nat.{min-zero}

-- taking as many bytes as there are is taking as many as were asked for
pub same_drain : (s : State) (c n : ℕ) → T (is_sorted nat_cmp s.clients)
    → next s (event.Drain c (min n (length (unread_of s c)))) ≡ next s (event.Drain c n)
same_drain s c n in_order =
    next_drain s c (min n (length (unread_of s c)))
    ∙ ap (λ (m : ByNumber Client). record s { clients = m }) (
    change_alike nat_cmp nat_cmp_total nat_cmp-IsAntisymmetric _ _ s.clients c in_order alike)
    ∙ sym (next_drain s c n)
  where
    alike : (x : Client) → at_number s.clients c ≡ Some x → drained (min n (length (unread_of s c))) x ≡ drained n x
    alike x found =
        ap (λ (u : List ℕ). record x { unread = u }) (ap (λ u. drop (min n (length u)) x.unread) (unread_there s c x found) ∙ drop_min n x.unread)

-- only the client that reads has less to read
pub drained_at : (s : State) (c n q : ℕ)
    → at_number (next s (event.Drain c n)).clients q ≡ option_map (λ x. if same_number c q then drained n x else x) (at_number s.clients q)
drained_at s c n q =
    ap (λ (t : State). at_number t.clients q) (next_drain s c n) ∙ at-change nat_cmp nat_cmp-IsAntisymmetric (drained n) s.clients c q

pub drained_other : (s : State) (c n q : ℕ) → same_number q c ≡ false → unread_of (next s (event.Drain c n)) q ≡ unread_of s q
drained_other s c n q other =
    unread_same s (next s (event.Drain c n)) q
    (drained_at s c n q
    ∙ ap (λ b. option_map (λ x. if b then drained n x else x) (at_number s.clients q)) (same_either_way c q ∙ other)
    ∙ option_map_id (at_number s.clients q))

pub drained_same : (s : State) (c n : ℕ) (x : Client) → at_number s.clients c ≡ Some x → unread_of (next s (event.Drain c n)) c ≡ drop n x.unread
drained_same s c n x found =
    unread_there (next s (event.Drain c n)) c (drained n x)
    (drained_at s c n c ∙ (λ i. option_map (λ x. if same_itself c i then drained n x else x) (found i)))

-- the bytes of a log that was completed, and of which more were read
read_part : (taken unread : List ℕ) (n : ℕ) → take (length taken + n) (taken ++ unread) ≡ taken ++ take n unread
read_part [] unread n = ap (λ k. take k unread) (let e : 0 + n ≡ n = omega arith in e)
read_part (x ∷ taken) unread n = ap (λ k. take k (x ∷ (taken ++ unread))) (let e : suc (length taken) + n ≡ suc (length taken + n) = omega arith in e) ∙ ap (λ v. x ∷ v) (read_part taken unread n)

module _ (settings : Configuration) (accounts : List Account) (events : List Event) (logs : List Log) where
  abbrev start : State
  start = empty_lobby settings accounts

  abbrev here : State
  here = after start events

  module _ (c n : ℕ) (x : Client) (found : at_number here.clients c ≡ Some x) (r : IsRecord (completed logs here) start events) where
    abbrev later : State
    later = next here (event.Drain c n)

    abbrev count : ℕ
    count = min n (length x.unread)

    puts_nothing : (q : ℕ) → put_by here (event.Drain c n) q ≡ []
    puts_nothing q = put_nothing here.settings.outbox_limit (at_number (effect here (event.Drain c n)).clients q)

    put_same : (q : ℕ) → put_in start (events ++ event.Drain c n ∷ []) q ≡ put_in start events q
    put_same q = put_in-snoc start events (event.Drain c n) q ∙ ap (λ p. put_in start events q ++ p) (puts_nothing q) ∙ append-nil (put_in start events q)

    taken_other : (q : ℕ) → same_number q c ≡ false → taken_in start (events ++ event.Drain c n ∷ []) q ≡ taken_in start events q
    taken_other q other =
        taken_in-snoc start events (event.Drain c n) q
        ∙ ap (λ b. taken_in start events q ++ (if b then taken_from n (at_number here.clients c) else [])) (same_either_way c q ∙ other)
        ∙ append-nil (taken_in start events q)

    taken_same : taken_in start (events ++ event.Drain c n ∷ []) c ≡ taken_in start events c ++ take n x.unread
    taken_same =
        taken_in-snoc start events (event.Drain c n) c
        ∙ (λ i. taken_in start events c ++ (if same_itself c i then taken_from n (found i) else []))

    abbrev unread_is : unread_of here c ≡ x.unread
    unread_is = unread_there here c x found

    module _ (new : List Log) (read_more : new ≡ changed_at (read_on count) (caught_up logs here c) c) (none : count ≡ 0 → new ≡ caught_up logs here c) where
      of_other : (q : ℕ) → q ≢ c → of_client new q ≡ of_client logs q
      of_other q ne = ap (λ ls. of_client ls q) read_more ∙ of-changed_other (read_on count) (caught_up logs here c) c q ne ∙ of-changed_other (λ log. completed_log log (unread_of here c)) logs c q ne

      other : (q : ℕ) → q ≢ c → log_at (completed new later) q ≡ log_at (completed logs here) q
      other q ne =
          ap log_of (of-completed new later q
          ∙ (λ i. option_map (λ log. completed_log log (drained_other here c n q (not_same q c ne) i)) (of_other q ne i))
          ∙ sym (of-completed logs here q))

      -- the log of the client that reads: all that was put, of which it read more
      own : (log : Log) → of_client logs c ≡ Some log → (of_client new c ≡ Some (read_on count (completed_log log (unread_of here c)))) × (count ≡ 0 → of_client new c ≡ Some (completed_log log (unread_of here c)))
      own log f = (
        ap (λ ls. of_client ls c) read_more ∙ of-changed_same (read_on count) (caught_up logs here c) c
            ∙ ap (option_map (read_on count)) (of-changed_same (λ log. completed_log log (unread_of here c)) logs c ∙ ap (option_map (λ log. completed_log log (unread_of here c))) f),
        λ z. ap (λ ls. of_client ls c) (none z) ∙ of-changed_same (λ log. completed_log log (unread_of here c)) logs c ∙ ap (option_map (λ log. completed_log log (unread_of here c))) f,
      )

      -- all of them: what was put stays, and the client read on
      own_log : (log : Log) → of_client logs c ≡ Some log → (log.put ++ lacking log x.unread ≡ put_in start events c) × (log.read ≡ taken_in start events c)
      own_log log f =
          let is : log_at (completed logs here) c ≡ completed_log log x.unread = ap log_of (of-completed logs here c ∙ ap (option_map (λ l. completed_log l (unread_of here c))) f) ∙ ap (λ u. completed_log log u) unread_is in
          (sym (ap (λ (l : Log). l.put) is) ∙ r.put c, sym (ap (λ (l : Log). l.read) is) ∙ r.read c)

      later_unread : unread_of later c ≡ drop n x.unread
      later_unread = drained_same here c n x found

      own_is : (log : Log) → of_client logs c ≡ Some log → ((log_at (completed new later) c).put ≡ put_in start events c) × ((log_at (completed new later) c).read ≡ taken_in start events c ++ take n x.unread)
      own_is log f =
          elim x.cut as (λ b. x.cut ≡ b → ((log_at (completed new later) c).put ≡ put_in start events c) × ((log_at (completed new later) c).read ≡ taken_in start events c ++ take n x.unread)) [
            | true ↦ λ k.
                let empty : x.unread ≡ [] = (balanced settings accounts events c).gone x found k in
                let zero_count : count ≡ 0 = ap (λ (u : List ℕ). min n (length u)) empty ∙ min-zero n in
                let l : Log = completed_log log (unread_of here c) in
                let is : log_at (completed new later) c ≡ completed_log l (drop n x.unread) = ap log_of (of-completed new later c ∙ ap (option_map (λ l. completed_log l (unread_of later c))) ((own log f).1 zero_count)) ∙ ap (λ u. completed_log l u) later_unread in (
                  ap (λ (l : Log). l.put) is
                      ∙ ap (λ (u : List ℕ). (log.put ++ lacking log (unread_of here c)) ++ drop (length (log.put ++ lacking log (unread_of here c)) - length log.read) (drop n u)) empty
                      ∙ ap (λ more. (log.put ++ lacking log (unread_of here c)) ++ more) (ap (drop (length (log.put ++ lacking log (unread_of here c)) - length log.read)) (drop_all n [] (omega arith)) ∙ drop_all (length (log.put ++ lacking log (unread_of here c)) - length log.read) [] (omega arith))
                      ∙ append-nil (log.put ++ lacking log (unread_of here c)) ∙ ap (λ u. log.put ++ lacking log u) unread_is ∙ (own_log log f).0,
                  ap (λ (l : Log). l.read) is ∙ (own_log log f).1
                      ∙ sym (append-nil (taken_in start events c)) ∙ ap (λ t. taken_in start events c ++ t) (sym (ap (take n) empty ∙ take_all n [] (omega arith))),
                )
            | false ↦ λ k.
                let put : List ℕ = log.put ++ lacking log (unread_of here c) in
                let put_is : put ≡ put_in start events c = ap (λ u. log.put ++ lacking log u) unread_is ∙ (own_log log f).0 in
                let whole : put ≡ log.read ++ x.unread = put_is ∙ sym ((balanced settings accounts events c).there x found k) ∙ ap (λ t. t ++ x.unread) (sym (own_log log f).1) in
                let l : Log = read_on count (completed_log log (unread_of here c)) in
                let is : log_at (completed new later) c ≡ completed_log l (drop n x.unread) = ap log_of (of-completed new later c ∙ ap (option_map (λ l. completed_log l (unread_of later c))) (own log f).0) ∙ ap (λ u. completed_log l u) later_unread in
                let read_is : take (length log.read + count) put ≡ log.read ++ take n x.unread = ap (take (length log.read + count)) whole ∙ read_part log.read x.unread count ∙ ap (λ t. log.read ++ t) (take_min n x.unread) in
                let none_left : drop (length put - length (take (length log.read + count) put)) (drop n x.unread) ≡ [] = drop_all _ _ (enough put log.read x.unread n whole) in (
                  ap (λ (l : Log). l.put) is ∙ ap (λ more. put ++ more) none_left ∙ append-nil put ∙ put_is,
                  ap (λ (l : Log). l.read) is ∙ read_is ∙ ap (λ t. t ++ take n x.unread) (own_log log f).1,
                )
          ] refl
        where
          enough : (put read unread : List ℕ) (n : ℕ) → put ≡ read ++ unread → length (drop n unread) ≤ length put - length (take (length read + min n (length unread)) put)
          enough put read unread n whole = omega (arith, length-drop n unread, length-take (length read + min n (length unread)) put, ap length whole, length-append read unread)

      pub drained_record : length logs ≡ here.last_client → IsRecord (completed new later) start (events ++ event.Drain c n ∷ [])
      drained_record each = record { put = λ q. (both q).0; read = λ q. (both q).1 }
        where
          own_both : ((log_at (completed new later) c).put ≡ put_in start events c) × ((log_at (completed new later) c).read ≡ taken_in start events c ++ take n x.unread)
          own_both =
              elim (of_client logs c) as (λ o. of_client logs c ≡ o → ((log_at (completed new later) c).put ≡ put_in start events c) × ((log_at (completed new later) c).read ≡ taken_in start events c ++ take n x.unread)) [
                | None ↦ λ f. absurd (let no : Some x ≡ None = sym found ∙ nobody settings accounts events logs each c f in cc)
                | Some log ↦ λ f. own_is log f
              ] refl

          both : (q : ℕ) → ((log_at (completed new later) q).put ≡ put_in start (events ++ event.Drain c n ∷ []) q) × ((log_at (completed new later) q).read ≡ taken_in start (events ++ event.Drain c n ∷ []) q)
          both =
              at_each (λ q. ((log_at (completed new later) q).put ≡ put_in start (events ++ event.Drain c n ∷ []) q) × ((log_at (completed new later) q).read ≡ taken_in start (events ++ event.Drain c n ∷ []) q)) c
              (own_both.0 ∙ sym (put_same c), own_both.1 ∙ sym taken_same)
              (λ q ne. (
                ap (λ (l : Log). l.put) (other q ne) ∙ r.put q ∙ sym (put_same q),
                ap (λ (l : Log). l.read) (other q ne) ∙ r.read q ∙ sym (taken_other q (not_same q c ne)),
              ))
