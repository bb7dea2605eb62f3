-- A script takes one course: what its lines show and where they lead is determined, and so is the first bad one.
use Rattle.std.proofs.Common.{◌≡◌, ℕ, ◌+◌, zero, suc, false, List, [], ◌∷◌, ◌++◌, length, inl, inr, refl, sym, ap, ◌∙◌, subst, append-nil}
use Rattle.std.specs.Prelude.{Option, Some, None}
use Rattle.std.proofs.lemmas.Bool.{false≢true}
use Rattle.lobby_model.specs.declared.event.Event.{Event}
use Rattle.lobby_model.specs.declared.schedule.Step.{Step}
use Rattle.lobby_model.specs.declared.schedule.Step.TheVariants as step
use Rattle.line_words.specs.Table.{at_number}
use Rattle.lobby_model.specs.Schedule.{World, StepGives}
use Rattle.lobby_model.proofs.Scheduled.{schedule_same}
use Rattle.lobby_hall.specs.Standing.{is_ready}
use Rattle.lobby_script.specs.declared.action.Action.{Action}
use Rattle.lobby_script.specs.declared.action.Action.TheVariants as action
use Rattle.lobby_script.specs.declared.action.Order.{Order}
use Rattle.lobby_script.specs.declared.action.Order.TheVariants as order
use Rattle.lobby_script.specs.declared.label.Label.{Label}
use Rattle.lobby_script.specs.Actions.{Says, verb_of}
use Rattle.lobby_script.specs.Lines.{lines_of}
use Rattle.lobby_script.specs.Prepared.{nothing_set}
use Rattle.lobby_script.specs.Scene.{Scene, unopened}
use Rattle.lobby_script.specs.Acts.{Takes, OrderGives, ClientActs, LabelActs, Acts, given, happened, with_label}
use Rattle.lobby_script.specs.Script.{LinePlays, IsBad, Played, OutputOf, StopsAt}
use Rattle.lobby_script.proofs.OneAction.{says_same}

-- ---- events

step_same : (w : World) (s : Step) (e f : List Event) (x y : World) → StepGives w s e x → StepGives w s f y → (e ≡ f) × (x ≡ y)
step_same w s e f x y p q = schedule_same w (s ∷ []) e f x y (e, [], x, p, (refl, refl), sym (append-nil e)) (f, [], y, q, (refl, refl), sym (append-nil f))

-- takes go on as long as one is ready, so they are equally many
takes_same : (m n : ℕ) (w : World) (c : ℕ) (e f : List Event) (x y : World) → Takes m w c e x → is_ready x c ≡ false → Takes n w c f y → is_ready y c ≡ false → (e ≡ f) × (x ≡ y)
takes_same zero zero w c e f x y p done q over = (p.0 ∙ sym q.0, p.1 ∙ sym q.1)
takes_same zero (suc n) w c e f x y p done q over = absurd (false≢true (sym done ∙ ap (λ v. is_ready v c) p.1 ∙ q.0))
takes_same (suc m) zero w c e f x y p done q over = absurd (false≢true (sym over ∙ ap (λ v. is_ready v c) q.1 ∙ p.0))
takes_same (suc m) (suc n) w c e f x y (ready, more) done (still, rest) over =
    let here = step_same w (step.Take c) more.0 rest.0 more.1 rest.1 more.3 rest.3 in
    let later = takes_same m n rest.1 c more.2 rest.2 x y (subst (λ v. Takes m v c more.2 x) here.1 more.4) done rest.4 over in
    (more.5 ∙ (λ i. here.0 i ++ later.0 i) ∙ sym rest.5, later.1)

order_same : (w : World) (c : ℕ) (o : Order) (e f : List Event) (x y : World) → OrderGives w c o e x → OrderGives w c o f y → (e ≡ f) × (x ≡ y)
order_same w c (order.Send bytes) e f x y p q = step_same w (step.Arrive c bytes) e f x y p q
order_same w c order.Take e f x y p q = step_same w (step.Take c) e f x y p q
order_same w c order.All e f x y p q = takes_same p.0 q.0 w c e f x y p.1 p.2 q.1 q.2
order_same w c (order.Read count) e f x y p q = step_same w (step.Read c count) e f x y p q
order_same w c order.Shut e f x y p q = step_same w (step.Shut c) e f x y p q
order_same w c order.Show e f x y p q = (p.0 ∙ sym q.0, p.1 ∙ sym q.1)

-- ---- actions

client_same : (s : Scene) (label : ℕ) (entry : Label) (client : Option ℕ) (o : Order) (out other : List ℕ) (new next : Scene) → ClientActs s label entry client o out new → ClientActs s label entry client o other next → (out ≡ other) × (new ≡ next)
client_same s label entry None o out other new next p q = (p.0 ∙ sym q.0, p.1 ∙ sym q.1)
client_same s label entry (Some c) order.Show out other new next p q = (p.0 ∙ sym q.0, p.1 ∙ sym q.1)
client_same s label entry (Some c) o out other new next p q =
    let same = order_same s.world c o p.1.0 q.1.0 p.1.1 q.1.1 p.1.2 q.1.2 in
    (p.0 ∙ sym q.0, p.1.3 ∙ (λ i. happened s (same.0 i) (same.1 i)) ∙ sym q.1.3)

label_same : (s : Scene) (label : ℕ) (found : Option Label) (o : Order) (out other : List ℕ) (new next : Scene) → LabelActs s label found o out new → LabelActs s label found o other next → (out ≡ other) × (new ≡ next)
label_same s label None o out other new next p q = absurd p
label_same s label (Some entry) o out other new next p q = client_same s label entry entry.client o out other new next p q

acts_same : (s : Scene) (a : Action) (out other : List ℕ) (new next : Scene) → Acts s a out new → Acts s a other next → (out ≡ other) × (new ≡ next)
acts_same s (action.Set setting) out other new next p q = (p.0 ∙ sym q.0, p.1 ∙ sym q.1)
acts_same s (action.Open label ip) out other new next p q =
    let same = step_same s.world (step.Open ip 0) p.1.0 q.1.0 p.1.1 q.1.1 p.1.2 q.1.2 in
    (p.0 ∙ sym q.0, p.1.3 ∙ (λ i. with_label (happened s (same.0 i) (same.1 i)) label (given s.world) 0) ∙ sym q.1.3)
acts_same s (action.Client label o) out other new next p q = label_same s label (at_number s.labels label) o out other new next p q

-- ---- lines

not_empty : (front : List ℕ) (byte : ℕ) (behind : List ℕ) → front ++ byte ∷ behind ≡ [] → ⊥
not_empty [] byte behind e = cc
not_empty (x ∷ front) byte behind e = cc

says_nothing_empty : (line : List ℕ) (a : Action) → line ≡ [] → Says line a → ⊥
says_nothing_empty line a none says = not_empty (verb_of a) 32 says.rest (sym says.whole ∙ none)

line_same : (s : Scene) (line out other : List ℕ) (new next : Scene) → LinePlays s line out new → LinePlays s line other next → (out ≡ other) × (new ≡ next)
line_same s line out other new next (inl p) (inl q) = (p.1 ∙ sym q.1, p.2 ∙ sym q.2)
line_same s line out other new next (inl p) (inr (b, says, allowed, acts)) = absurd (says_nothing_empty line b p.0 says)
line_same s line out other new next (inr (a, says, allowed, acts)) (inl q) = absurd (says_nothing_empty line a q.0 says)
line_same s line out other new next (inr (a, says, allowed, acts)) (inr (b, tells, may, does)) =
    acts_same s b out other new next (subst (λ x. Acts s x out new) (says_same line a b says tells) acts) does

bad_never_plays : (s : Scene) (line out : List ℕ) (new : Scene) → IsBad s line → LinePlays s line out new → ⊥
bad_never_plays s line out new bad (inl p) = bad.0 p.0
bad_never_plays s line out new bad (inr (a, says, allowed, acts)) = false≢true (sym (bad.1 a says) ∙ allowed)

played_same : (s : Scene) (lines : List (List ℕ)) (out other : List ℕ) (new next : Scene) → Played s lines out new → Played s lines other next → (out ≡ other) × (new ≡ next)
played_same s [] out other new next p q = (p.0 ∙ sym q.0, p.1 ∙ sym q.1)
played_same s (line ∷ lines) out other new next p q =
    let here = line_same s line p.0 q.0 p.1 q.1 p.3 q.3 in
    let later = played_same q.1 lines p.2 q.2 new next (subst (λ m. Played m lines p.2 new) here.1 p.4) q.4 in
    (p.5 ∙ (λ i. here.0 i ++ later.0 i) ∙ sym q.5, later.1)

-- ---- the first bad line

bad_where_another_plays : (s scene : Scene) (line next out : List ℕ) (new : Scene) → scene ≡ s → line ≡ next → IsBad scene line → LinePlays s next out new → ⊥
bad_where_another_plays s scene line next out new at same bad plays = bad_never_plays s next out new (subst (λ x. IsBad x next) at (subst (IsBad scene) same bad)) plays

stops_once : (front others : List (List ℕ)) (line next : List ℕ) (behind rest : List (List ℕ)) (s scene stage : Scene) (out other : List ℕ) → front ++ line ∷ behind ≡ others ++ next ∷ rest
    → Played s front out scene → IsBad scene line → Played s others other stage → IsBad stage next → (length front ≡ length others) × (out ≡ other)
stops_once [] [] line next behind rest s scene stage out other e p bad q worse = (refl, p.0 ∙ sym q.0)
stops_once [] (f ∷ others) line next behind rest s scene stage out other e p bad q worse = absurd (bad_where_another_plays s scene line f q.0 q.1 p.1 (cc) bad q.3)
stops_once (f ∷ front) [] line next behind rest s scene stage out other e p bad q worse = absurd (bad_where_another_plays s stage next f p.0 p.1 q.1 (cc) worse p.3)
stops_once (f ∷ front) (g ∷ others) line next behind rest s scene stage out other e p bad q worse =
    let first : f ≡ g = cc in
    let tails : front ++ line ∷ behind ≡ others ++ next ∷ rest = cc in
    let here = line_same s g p.0 q.0 p.1 q.1 (subst (λ l. LinePlays s l p.0 p.1) first p.3) q.3 in
    let later = stops_once front others line next behind rest q.1 scene stage p.2 q.2 tails (subst (λ m. Played m front p.2 scene) here.1 p.4) bad q.4 worse in
    (ap suc later.0, p.5 ∙ (λ i. here.0 i ++ later.1 i) ∙ sym q.5)

never_both : (front : List (List ℕ)) (line : List ℕ) (behind : List (List ℕ)) (s scene end : Scene) (out other : List ℕ) → Played s (front ++ line ∷ behind) out end → Played s front other scene → IsBad scene line → ⊥
never_both [] line behind s scene end out other p q bad = bad_where_another_plays s scene line line p.0 p.1 q.1 refl bad p.3
never_both (f ∷ front) line behind s scene end out other p q bad =
    let here = line_same s f p.0 q.0 p.1 q.1 p.3 q.3 in
    never_both front line behind q.1 scene end p.2 q.2 (subst (λ m. Played m (front ++ line ∷ behind) p.2 end) here.1 p.4) q.4 bad

-- ---- the laws

pub one_output : (script out other : List ℕ) → OutputOf script out → OutputOf script other → out ≡ other
one_output script out other p q = (played_same (unopened nothing_set) (lines_of script) out other p.0 q.0 p.1 q.1).0

pub one_bad_step : (script : List ℕ) (k l : ℕ) (out other : List ℕ) → StopsAt script k out → StopsAt script l other → (k ≡ l) × (out ≡ other)
one_bad_step script k l out other p q =
    let same = stops_once p.front q.front p.line q.line p.behind q.behind (unopened nothing_set) p.scene q.scene out other (sym p.whole ∙ q.whole) p.plays p.bad q.plays q.bad in
    (p.number ∙ ap (λ n. n + 1) same.0 ∙ sym q.number, same.1)

pub output_or_bad_step : (script : List ℕ) (k : ℕ) (out other : List ℕ) → OutputOf script out → StopsAt script k other → ⊥
output_or_bad_step script k out other p q =
    never_both q.front q.line q.behind (unopened nothing_set) q.scene p.0 out other (subst (λ lines. Played (unopened nothing_set) lines out p.0) q.whole p.1) q.plays q.bad
