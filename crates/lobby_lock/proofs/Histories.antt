-- Laws of histories.
use Rattle.std.proofs.Common.{◌≡◌, ◌≢◌, ℕ, ◌≤◌, ◌<◌, cond, List, [], ◌∷◌, ◌++◌, length, refl, sym, ap, ◌∙◌, inl, inr, arith, append_assoc, append-nil, length-append, eq-eqb, ne_eqb}
use Rattle.std.specs.Prelude.{filter, ◌==◌}
use Rattle.std.specs.List.{AllByRecursion, AllPairs}
use Rattle.std.proofs.lemmas.List.{map-append, nil_from_length}
use Rattle.std.proofs.lemmas.List.Elements.{filter-append, All-from_recursion}
use Rattle.std.proofs.lemmas.List.Kept.{AllPairs-cons}
use mathlib.Core.Logic.{dite}
use native.Mathlib.Decide.{dec_le}
use Rattle.lobby_model.specs.declared.event.Event.{Event}
use Rattle.lobby_model.specs.State.{State}
use Rattle.lobby_model.specs.Next.{next}
use Rattle.lobby_model.specs.History.{after}
use Rattle.lobby_model.proofs.Histories.{after-append}
use Rattle.lobby_lock.specs.declared.view.Worker.{Worker}
use Rattle.lobby_lock.specs.History.{Entry, events_of, after_history, made_by, under, Begins}
use Rattle.lobby_lock.specs.Rule.{IsTold, Covers, Agree, with_events}

pub after_history-append : (s : State) (xs ys : List Entry) → after_history s (xs ++ ys) ≡ after_history (after_history s xs) ys
after_history-append s xs ys = ap (after s) (map-append (λ (x : Entry). x.1) xs ys) ∙ after-append s (events_of xs) (events_of ys)

-- the lobby after one event more of a hold
pub after_history-more : (s : State) (seen : List Entry) (n : ℕ) (es : List Event) (e : Event) → after_history s (seen ++ under n (es ++ e ∷ [])) ≡ next (after_history s (seen ++ under n es)) e
after_history-more s seen n es e =
    let lists : seen ++ under n (es ++ e ∷ []) ≡ (seen ++ under n es) ++ (n, e) ∷ [] = ap (λ l. seen ++ l) (map-append (λ (x : Event). (n, x)) es (e ∷ [])) ∙ sym (append_assoc seen (under n es) ((n, e) ∷ [])) in
    ap (after_history s) lists ∙ after_history-append s (seen ++ under n es) ((n, e) ∷ [])

pub made_by-append : (n : ℕ) (xs ys : List Entry) → made_by n (xs ++ ys) ≡ made_by n xs ++ made_by n ys
made_by-append n xs ys = ap events_of (filter-append (λ (e : Entry). e.0 == n) xs ys) ∙ map-append (λ (e : Entry). e.1) (filter (λ e. e.0 == n) xs) (filter (λ e. e.0 == n) ys)

pub made_by-under : (n : ℕ) (es : List Event) → made_by n (under n es) ≡ es
made_by-under n [] = refl
made_by-under n (e ∷ es) = ap (λ b. events_of (cond b ((n, e) ∷ filter (λ x. x.0 == n) (under n es)) (filter (λ x. x.0 == n) (under n es)))) (eq-eqb n n refl) ∙ ap (λ l. e ∷ l) (made_by-under n es)

made_by-under_other : (m n : ℕ) → n ≢ m → (es : List Event) → made_by m (under n es) ≡ []
made_by-under_other m n apart [] = refl
made_by-under_other m n apart (e ∷ es) = ap (λ b. events_of (cond b ((n, e) ∷ filter (λ x. x.0 == m) (under n es)) (filter (λ x. x.0 == m) (under n es)))) (ne_eqb n m apart) ∙ made_by-under_other m n apart es

-- ---- a fact of each element

pub all_map : {A : Type 0} (P Q : A → Type 0) → ((x : A) → P x → Q x) → (xs : List A) → AllByRecursion P xs → AllByRecursion Q xs
all_map P Q f [] h = tt
all_map P Q f (x ∷ xs) h = (f x h.0, all_map P Q f xs h.1)

pub all_both : {A : Type 0} (P Q R : A → Type 0) → ((x : A) → P x → Q x → R x) → (xs : List A) → AllByRecursion P xs → AllByRecursion Q xs → AllByRecursion R xs
all_both P Q R f [] h k = tt
all_both P Q R f (x ∷ xs) h k = (f x h.0 k.0, all_both P Q R f xs h.1 k.1)

pub all_of : {A : Type 0} (P : A → Type 0) → ((x : A) → P x) → (xs : List A) → AllByRecursion P xs
all_of P f [] = tt
all_of P f (x ∷ xs) = (f x, all_of P f xs)

pub all-append : {A : Type 0} (P : A → Type 0) (xs ys : List A) → AllByRecursion P xs → AllByRecursion P ys → AllByRecursion P (xs ++ ys)
all-append P [] ys p q = q
all-append P (x ∷ xs) ys p q = (p.0, all-append P xs ys p.1 q)

pub numbers-under : (most n : ℕ) → n ≤ most → (es : List Event) → AllByRecursion (λ (e : Entry). e.0 ≤ most) (under n es)
numbers-under most n le [] = tt
numbers-under most n le (e ∷ es) = (le, numbers-under most n le es)

-- no event bears a number that was not handed out
pub made_by_above : (most n : ℕ) → most < n → (xs : List Entry) → AllByRecursion (λ (e : Entry). e.0 ≤ most) xs → made_by n xs ≡ []
made_by_above most n above [] h = refl
made_by_above most n above (x ∷ xs) h =
    let apart : x.0 ≢ n = λ e. omega (arith, h.0) in
    ap (λ b. events_of (cond b (x ∷ filter (λ y. y.0 == n) xs) (filter (λ y. y.0 == n) xs))) (ne_eqb x.0 n apart) ∙ made_by_above most n above xs h.1

-- no number is kept twice
abbrev Once : List Worker → Type 0
Once workers = AllPairs (λ worker other. worker.number ≢ other.number) workers

pub once-nil : Once []
once-nil i j d before within = absurd (omega arith)

pub once-cons : (u : Worker) (workers : List Worker) → AllByRecursion (λ worker. worker.number ≢ u.number) workers → Once workers → Once (u ∷ workers)
once-cons u workers gone once =
    let others = all_map (λ (worker : Worker). worker.number ≢ u.number) (λ (worker : Worker). u.number ≢ worker.number) (λ worker ne s. ne (sym s)) workers gone in
    AllPairs-cons (λ worker other. worker.number ≢ other.number) u workers (All-from_recursion (λ worker. u.number ≢ worker.number) workers others) once

-- ---- beginnings

front_nil : {A : Type 0} (xs ys : List A) → xs ++ ys ≡ [] → xs ≡ []
front_nil [] ys e = refl
front_nil (x ∷ xs) ys e = absurd (cc)

pub begins_self : (xs : List Entry) → Begins xs xs
begins_self xs = ([], sym (append-nil xs))

-- what is not in a history is in no beginning of it
pub made_by_none : (n : ℕ) (seen history : List Entry) → Begins seen history → made_by n history ≡ [] → made_by n seen ≡ []
made_by_none n seen history begins none =
    front_nil (made_by n seen) (made_by n begins.0) (sym (made_by-append n seen begins.0) ∙ ap (made_by n) (sym begins.1) ∙ none)

-- what is told stays, when another's events come
pub told-other : (history : List Entry) (worker : Worker) (m : ℕ) (es : List Event) → m ≢ worker.number → IsTold history worker → IsTold (history ++ under m es) worker
told-other history worker m es apart t = record {
  begins = (t.begins.0 ++ under m es, ap (λ l. l ++ under m es) t.begins.1 ∙ append_assoc worker.seen t.begins.0 (under m es));
  whole = made_by-append worker.number history (under m es) ∙ ap (λ l. made_by worker.number history ++ l) (made_by-under_other worker.number m apart es) ∙ append-nil (made_by worker.number history) ∙ t.whole;
  known = t.known;
}

-- and when one's own do, where all was seen
pub told-own : (history : List Entry) (worker : Worker) (es : List Event) → worker.seen ≡ history → IsTold history worker → IsTold (history ++ under worker.number es) (with_events worker es)
told-own history worker es all t = record {
  begins = ([], sym (ap (λ l. l ++ under worker.number es) all) ∙ sym (append-nil (worker.seen ++ under worker.number es)));
  whole = made_by-append worker.number history (under worker.number es) ∙ ap (λ l. l ++ made_by worker.number (under worker.number es)) t.whole ∙ ap (λ l. worker.mine ++ l) (made_by-under worker.number es);
  known = made_by-append worker.number worker.seen (under worker.number es) ∙ ap (λ l. l ++ made_by worker.number (under worker.number es)) t.known ∙ ap (λ l. worker.mine ++ l) (made_by-under worker.number es);
}

-- of two beginnings the shorter begins the longer
begins_shorter : (xs ys zs : List Entry) → Begins xs zs → Begins ys zs → length xs ≤ length ys → Begins xs ys
begins_shorter [] ys zs p q le = (ys, refl)
begins_shorter (x ∷ xs) [] zs p q le = absurd (omega arith)
begins_shorter (x ∷ xs) (y ∷ ys) [] p q le = absurd (cc (p.1))
begins_shorter (x ∷ xs) (y ∷ ys) (z ∷ zs) p q le =
    let heads : x ≡ y = cc (p.1, q.1) in
    let rest = begins_shorter xs ys zs (p.0, cc (p.1)) (q.0, cc (q.1)) (omega arith) in
    (rest.0, cc (heads, rest.1))

between : (a r q : List Event) → a ≡ (a ++ r) ++ q → r ≡ []
between a r q e = nil_from_length r (omega (arith, ap length e, length-append (a ++ r) q, length-append a r))

-- what is known of a worker is known of each longer beginning
known_longer : (history : List Entry) (worker : Worker) (longer : List Entry) → IsTold history worker → Begins worker.seen longer → Begins longer history → made_by worker.number longer ≡ worker.mine
known_longer history worker longer t p q =
    let n : ℕ = worker.number in
    let up : made_by n longer ≡ worker.mine ++ made_by n p.0 = ap (made_by n) p.1 ∙ made_by-append n worker.seen p.0 ∙ ap (λ l. l ++ made_by n p.0) t.known in
    let top : worker.mine ≡ (worker.mine ++ made_by n p.0) ++ made_by n q.0 = sym t.whole ∙ ap (made_by n) q.1 ∙ made_by-append n longer q.0 ∙ ap (λ l. l ++ made_by n q.0) up in
    up ∙ ap (λ l. worker.mine ++ l) (between worker.mine (made_by n p.0) (made_by n q.0) top) ∙ append-nil worker.mine

covers : (history : List Entry) (a b : Worker) → IsTold history a → IsTold history b → length b.seen ≤ length a.seen → Covers a b
covers history a b t u le =
    let p : Begins b.seen a.seen = begins_shorter b.seen a.seen history u.begins t.begins le in
    record { begins = p; own = t.known; others = known_longer history b a.seen u p t.begins }

pub agree : (history : List Entry) (a b : Worker) → IsTold history a → IsTold history b → Agree a b
agree history a b t u =
    dite (dec_le (length b.seen) (length a.seen)) (λ le. inl (covers history a b t u le)) (λ more. inr (covers history b a u t (omega arith)))
