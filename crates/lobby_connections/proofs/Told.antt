-- Events that a poll told, one after another.
use Rattle.std.proofs.Common.{◌≡◌, ◌⊎◌, ℕ, ◌+◌, ◌<◌, List, [], ◌∷◌, length, take, drop, get_or, refl, sym, ap, subst, ◌∙◌, ⊎_elim}
use Rattle.std.proofs.lemmas.List.{drop_more, get_or-map, length-map, map-append, take_more}
use Rattle.std.proofs.lemmas.List.Elements.{Contains-push_cases}
use Rattle.std.specs.List.{Contains}
use Rattle.mio.specs.declared.event.event.Event.{Event}
use Rattle.lobby_connections.proofs.Lines.{but_one, claims_keep, claims_lines, is_among, is_claimed}
use Rattle.lobby_connections.specs.Attended.{AllBut, IsThere, Owes}
use Rattle.lobby_connections.specs.Claims.{Changes, noted, owing}
use Rattle.lobby_connections.specs.Table.{Table}
use Rattle.lobby_connections.specs.Told.{key_of, keys_of}

pub told_more : (events : List Event) (i : ℕ) (d : Event) → i < length events → (key : ℕ) → Contains (keys_of (take (i + 1) events)) key → Contains (keys_of (take i events)) key ⊎ (key_of (get_or events i d) ≡ key)
told_more events i d lt key m =
    Contains-push_cases (keys_of (take i events)) (key_of (get_or events i d)) key
    (subst (λ es. Contains es key) (ap keys_of (take_more events i d lt) ∙ map-append key_of (take i events) (get_or events i d ∷ [])) m)

pub told_at : (events : List Event) (i : ℕ) (d : Event) → i < length events → Contains (keys_of events) (key_of (get_or events i d))
told_at events i d lt = (i, subst (λ n. i < n) (sym (length-map events key_of)) lt, get_or-map key_of events i d (key_of (get_or events i d)) lt)

pub told_rest : (events : List Event) (i : ℕ) (d : Event) → i < length events → keys_of (drop i events) ≡ key_of (get_or events i d) ∷ keys_of (drop (i + 1) events)
told_rest events i d lt = ap keys_of (drop_more events i d lt)

pub note_step : (events : List Event) (i : ℕ) (d : Event) (t u : Table) → i < length events → Changes t.claims u.claims (key_of (get_or events i d)) (noted owing) → ((key : ℕ) → Contains (keys_of (take i events)) key → IsThere t key → Owes t key) → (key : ℕ) → Contains (keys_of (take (i + 1) events)) key → IsThere u key → Owes u key
note_step events i d t u lt h told key m w =
    let k = claims_keep t u (key_of (get_or events i d)) owing (λ c o. refl) h in
    ⊎_elim (λ m. k.owes key (told key m (k.there key w))) (λ s. subst (λ k. IsThere u k → Owes u k) s (is_claimed t u (key_of (get_or events i d)) owing (λ c. refl) h) w) (told_more events i d lt key m)

pub note_all_but : (events : List Event) (i : ℕ) (d : Event) (t u : Table) → i < length events → u ≡ record t { claims = u.claims } → Changes t.claims u.claims (key_of (get_or events i d)) (noted owing) → AllBut t (keys_of events) → AllBut u (keys_of events)
note_all_but events i d t u lt e h all =
    is_among u (key_of (get_or events i d)) (keys_of events) (told_at events i d lt) (but_one t u (key_of (get_or events i d)) (claims_lines t u e) h.others (keys_of events) all)
