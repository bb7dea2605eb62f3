-- A player is where the action leads.
use Rattle.std.proofs.Common.{◌≡◌, ℕ, Bool, true, false, not, ◌&&◌, List, [], ◌∷◌, length, drop, refl, sym, ap, ◌∙◌, subst}
use Rattle.std.specs.Prelude.{Option, Some, None, is_some, IsTrue}
use Rattle.std.proofs.lemmas.Bool.{false≢true}
use Rattle.std.specs.Ordering.{nat_cmp}
use Rattle.std.specs.declared.cmp.Ordering.{Ordering}
use Rattle.std.specs.declared.cmp.Ordering.TheVariants.{Less, Equal, Greater}
use Rattle.std.specs.FinMap.Entries.{by_order}
use Rattle.std.specs.BTreeMap.{is_at, insert_entry}
use Rattle.std.specs.Map.{lookup}
use Rattle.lobby_model.specs.declared.event.Event.{Event}
use Rattle.lobby_model.specs.declared.schedule.Step.TheVariants as step
use Rattle.line_words.specs.Table.{ByNumber, at_number, put_number}
use Rattle.lobby_model.specs.Schedule.{World, StepGives, new_world}
use Rattle.line_words.proofs.Tables.{lookup_is_find, insert_is_put}
use Rattle.lobby_hall.specs.Standing.{Kept, Stands}
use Rattle.lobby_hall.specs.Record.{log_at}
use Rattle.lobby_script.specs.declared.action.Action.TheVariants as action
use Rattle.lobby_script.specs.declared.action.Setting.{Setting}
use Rattle.lobby_script.specs.declared.action.Order.{Order}
use Rattle.lobby_script.specs.declared.action.Order.TheVariants as order
use Rattle.lobby_script.specs.declared.label.Label.{Label}
use Rattle.lobby_script.specs.declared.player.Player.{Player}
use Rattle.lobby_script.specs.Prepared.{Prepared, can_be_set, with_setting}
use Rattle.lobby_script.specs.Scene.{Scene, unopened, has_no_label, is_allowed}
use Rattle.lobby_script.specs.Acts.{Acts, LabelActs, ClientActs, OrderGives, given, happened, with_label, labelled, put_so_far}
use Rattle.lobby_script.specs.Halls.{Moves}
use Rattle.lobby_script.specs.Player.{HallStands, IsAt, Performed}
use Rattle.line_words.proofs.Options.{none_from_is_some}

-- what the player's map has at a label
pub at_label : (player : Player) (scene : Scene) (label : ℕ) (found : Option Label) → IsAt player scene → lookup (is_at (nat_cmp label)) player.labels.entries ≡ found → at_number scene.labels label ≡ found
at_label player scene label found at e = sym (lookup_is_find nat_cmp label scene.labels) ∙ ap (lookup (is_at (nat_cmp label))) (sym at.labels) ∙ e

entries_put : (player : Player) (scene : Scene) (entries : ByNumber Label) (label : ℕ) (entry : Label) → IsAt player scene → entries ≡ insert_entry nat_cmp player.labels.entries label entry → entries ≡ put_number scene.labels label entry
entries_put player scene entries label entry at e = e ∙ insert_is_put nat_cmp player.labels.entries label entry ∙ ap (λ m. put_number m label entry) at.labels

some_label : (r : Ordering) (a b c : ByNumber Label) → has_no_label a ≡ false → has_no_label b ≡ false → has_no_label c ≡ false → has_no_label (by_order r a b c) ≡ false
some_label Less a b c p q s = p
some_label Equal a b c p q s = q
some_label Greater a b c p q s = s

put_some : (labels : ByNumber Label) (label : ℕ) (entry : Label) → has_no_label (put_number labels label entry) ≡ false
put_some [] label entry = refl
put_some (e ∷ labels) label entry = some_label (nat_cmp label e.0) _ _ _ refl refl refl

-- ---- for the client of a label

acts_for : (s : Scene) (label : ℕ) (entry : Label) (client : Option ℕ) (o : Order) (out : List ℕ) (new : Scene) → at_number s.labels label ≡ Some entry → entry.client ≡ client → ClientActs s label entry client o out new
    → IsTrue (is_allowed s (action.Client label o)) × Acts s (action.Client label o) out new
acts_for s label entry client o out new found is acts =
    (ap is_some found, subst (λ f. LabelActs s label f o out new) (sym found) (subst (λ x. ClientActs s label entry x o out new) (sym is) acts))

pub refused_acts : (player : Player) (s : Scene) (label : ℕ) (entry : Label) (o : Order) → IsAt player s → at_number s.labels label ≡ Some entry → entry.client ≡ None → Performed player s (action.Client label o) []
refused_acts player s label entry o at found none = let acts = acts_for s label entry None o [] s found none (refl, refl) in (acts.0, (s, acts.1, at))

-- with no hall there is no label
pub no_hall_no_label : (player : Player) (s : Scene) (label : ℕ) (entry : Label) → IsAt player s → player.hall ≡ None → at_number s.labels label ≡ Some entry → ⊥
no_hall_no_label player s label entry at none found =
    let fresh = subst (λ h. HallStands h player.setup s) none at.hall in
    let nothing : at_number s.labels label ≡ None = ap (λ (x : Scene). at_number x.labels label) fresh in
    let e = sym nothing ∙ found in
    cc

pub hall_stands : (player : Player) (s : Scene) (hall : Kept) → IsAt player s → player.hall ≡ Some hall → Stands hall s.prepared.settings s.prepared.accounts s.events s.world
hall_stands player s hall at is = (subst (λ h. HallStands h player.setup s) is at.hall).0

has_label : (player : Player) (s : Scene) (hall : Kept) → IsAt player s → player.hall ≡ Some hall → has_no_label s.labels ≡ false
has_label player s hall at is = (subst (λ h. HallStands h player.setup s) is at.hall).1

-- an order that is no show
ordered : (s : Scene) (label : ℕ) (entry : Label) (client : ℕ) (o : Order) (here : List Event) (w : World) → (o ≡ order.Show → ⊥) → OrderGives s.world client o here w → ClientActs s label entry (Some client) o [] (happened s here w)
ordered s label entry client order.Show here w ne gives = absurd (ne refl)
ordered s label entry client _ here w ne gives = (refl, (here, w, gives, refl))

pub order_acts : (player new : Player) (s : Scene) (label : ℕ) (entry : Label) (client : ℕ) (o : Order) (hall after : Kept) → IsAt player s → at_number s.labels label ≡ Some entry → entry.client ≡ Some client → (o ≡ order.Show → ⊥)
    → player.hall ≡ Some hall → new ≡ record player { hall = Some after } → Moves after s.prepared.settings s.prepared.accounts s.events (OrderGives s.world client o)
    → Performed new s (action.Client label o) []
order_acts player new s label entry client o hall after at found is ne was now (here, w, gives, stands) =
    let acts = acts_for s label entry (Some client) o [] (happened s here w) found is (ordered s label entry client o here w ne gives) in
    let there : IsAt (record player { hall = Some after }) (happened s here w) = record { hall = (stands, has_label player s hall at was); labels = at.labels } in
    (acts.0, (happened s here w, acts.1, subst (λ p. IsAt p (happened s here w)) (sym now) there))

-- what the hall has put is what its events put
pub hall_put : (player : Player) (s : Scene) (hall : Kept) (client : ℕ) → IsAt player s → player.hall ≡ Some hall → (log_at hall.record_so_far client).put ≡ put_so_far s client
hall_put player s hall client at is = (hall_stands player s hall at is).record_is.put client

pub show_acts : (player new : Player) (s : Scene) (label : ℕ) (entry : Label) (client : ℕ) (hall after : Kept) (put : ℕ) → IsAt player s → at_number s.labels label ≡ Some entry → entry.client ≡ Some client → player.hall ≡ Some hall
    → new.hall ≡ Some after → after ≡ hall → new.labels.entries ≡ insert_entry nat_cmp player.labels.entries label (record entry { shown = put }) → put ≡ length (log_at hall.record_so_far client).put
    → Performed new s (action.Client label order.Show) (labelled label (drop entry.shown (log_at hall.record_so_far client).put))
show_acts player new s label entry client hall after put at found is was now stays entries all =
    let bytes = hall_put player s hall client at was in
    let shown : record entry { shown = put } ≡ record { client = Some client; shown = length (put_so_far s client) } =
    ap (λ c. let e : Label = record { client = c; shown = put } in e) is ∙ ap (λ n. let e : Label = record { client = Some client; shown = n } in e) (all ∙ ap (λ (l : List ℕ). length l) bytes) in
    let next = with_label s label (Some client) (length (put_so_far s client)) in
    let acts = acts_for s label entry (Some client) order.Show (labelled label (drop entry.shown (log_at hall.record_so_far client).put)) next found is (ap (λ l. labelled label (drop entry.shown l)) bytes, refl) in
    let there : IsAt new next = record {
      hall = subst (λ h. HallStands h new.setup next) (sym now) (subst (λ h. Stands h s.prepared.settings s.prepared.accounts s.events s.world) (sym stays) (hall_stands player s hall at was), put_some s.labels label _);
      labels = entries_put player s new.labels.entries label _ at entries ∙ ap (put_number s.labels label) shown;
    } in
    (acts.0, (next, acts.1, there))

-- ---- what is set before the first open

module _ (player : Player) (s : Scene) (setting : Setting) (at : IsAt player s) where
  is_fresh : is_some player.hall ≡ false → s ≡ unopened player.setup
  is_fresh none = subst (λ h. HallStands h player.setup s) (none_from_is_some player.hall none) at.hall

  pub set_acts : (new : Player) → is_some player.hall ≡ false → new ≡ record player { setup = with_setting player.setup setting } → can_be_set player.setup setting ≡ true → Performed new s (action.Set setting) []
  set_acts new none now allowed =
      let fresh = is_fresh none in
      let before : Prepared = player.setup in
      let after : Scene = unopened (with_setting before setting) in
      let there : IsAt (record player { setup = with_setting before setting }) after = record {
        hall = subst (λ h. HallStands h (with_setting before setting) after) (sym (none_from_is_some player.hall none)) refl;
        labels = at.labels ∙ ap (λ (x : Scene). x.labels) fresh;
      } in
      (ap (λ (x : Scene). is_allowed x (action.Set setting)) fresh ∙ allowed, (after, (refl, ap (λ (x : Scene). unopened (with_setting x.prepared setting)) (sym fresh)), subst (λ p. IsAt p after) (sym now) there))

  pub not_settable : is_some player.hall ≡ false → can_be_set player.setup setting ≡ false → is_allowed s (action.Set setting) ≡ false
  not_settable none refused = ap (λ (x : Scene). is_allowed x (action.Set setting)) (is_fresh none) ∙ refused

  pub set_too_late : is_some player.hall ≡ true → is_allowed s (action.Set setting) ≡ false
  set_too_late some =
      elim player.hall as (λ o. player.hall ≡ o → is_some o ≡ true → is_allowed s (action.Set setting) ≡ false) [
        | None ↦ λ e h. absurd (false≢true h)
        | Some hall ↦ λ e h. ap (λ b. b && can_be_set s.prepared setting) (has_label player s hall at e)
      ] refl some

-- ---- an open

pub first_stands : (player : Player) (s : Scene) (hall : Kept) → IsAt player s → player.hall ≡ None → Stands hall player.setup.settings player.setup.accounts [] (new_world player.setup.settings player.setup.accounts)
    → Stands hall s.prepared.settings s.prepared.accounts s.events s.world
first_stands player s hall at none stands =
    subst (λ (x : Scene). Stands hall x.prepared.settings x.prepared.accounts x.events x.world) (sym (subst (λ h. HallStands h player.setup s) none at.hall)) stands

pub open_acts : (player new : Player) (s : Scene) (label : ℕ) (ip : List ℕ) (client : Option ℕ) (hall : Kept) → IsAt player s → at_number s.labels label ≡ None
    → Moves hall s.prepared.settings s.prepared.accounts s.events (StepGives s.world (step.Open ip 0)) → client ≡ given s.world → new.hall ≡ Some hall
    → new.labels.entries ≡ insert_entry nat_cmp player.labels.entries label (record { client = client; shown = 0 }) → Performed new s (action.Open label ip) []
open_acts player new s label ip client hall at free (here, w, gives, stands) number now entries =
    let next = with_label (happened s here w) label (given s.world) 0 in
    let there : IsAt new next = record {
      hall = subst (λ h. HallStands h new.setup next) (sym now) (stands, put_some s.labels label _);
      labels = entries_put player s new.labels.entries label _ at entries ∙ ap (λ c. put_number s.labels label (record { client = c; shown = 0 })) number;
    } in
    (ap (λ o. not (is_some o)) free, (next, (refl, (here, w, gives, refl)), there))

pub no_such_label : (player : Player) (s : Scene) (label : ℕ) (test : Bool) → IsAt player s → test ≡ is_some (lookup (is_at (nat_cmp label)) player.labels.entries) → test ≡ false → at_number s.labels label ≡ None
no_such_label player s label test at is absent = none_from_is_some (at_number s.labels label) (ap is_some (at_label player s label _ at refl) ∙ sym is ∙ absent)
