-- What is noted of turns, where the connection of one seat changes.
use Rattle.std.proofs.Common.{◌≡◌, ℕ, zero, suc, true, false, cond, List, [], ◌∷◌, length, map, set, get_or, refl, sym, ap, ◌∙◌}
use Rattle.std.specs.Prelude.{Option, Some, None, is_some, count_by}
use Rattle.std.specs.List.{filter}
use Rattle.std.proofs.lemmas.List.Sums.{length-filter}
use Rattle.std.specs.Borrow.{MutBor}
use Rattle.std.specs.Option.{option_copied_mut}
use Rattle.slab.specs.Slab.{Slab, Updates, get, with_value}
use Rattle.lobby_connections.specs.Claims.{Changes, KeepsNotes, Notes, claim_in, claims_of, note_at, noted}
use Rattle.lobby_connections.specs.declared.seat.Claim.{Claim}
use Rattle.lobby_connections.specs.declared.seat.Seat.{Seat}

-- a look-up that found nothing
pub none_of : {X : Type 0} (o : Option (MutBor X)) → ((x : MutBor X) → o ≡ Some x → ⊥) → None ≡ option_copied_mut o
none_of None h = refl
none_of (Some x) h = absurd (h x refl)

-- the note under a key is that of the seat
pub note_of : (xs : List (Option Seat)) (key : ℕ) → get_or (map claim_in xs) key None ≡ claim_in (get_or xs key None)
note_of [] key = refl
note_of (x ∷ xs) zero = refl
note_of (x ∷ xs) (suc key) = note_of xs key

-- as many seats are taken where another connection takes one
as_long : (xs : List (Option Seat)) (key : ℕ) (a b : Seat) → get_or xs key None ≡ Some a → length (filter is_some (set xs key (Some b))) ≡ length (filter is_some xs)
as_long [] key a b h = refl
as_long (x ∷ xs) zero a b h = ap (λ (o : Option Seat). length (filter is_some (o ∷ xs))) (sym h)
as_long (x ∷ xs) (suc key) a b h =
    elim (is_some x) as (λ t. length (cond t (x ∷ filter is_some (set xs key (Some b))) (filter is_some (set xs key (Some b)))) ≡ length (cond t (x ∷ filter is_some xs) (filter is_some xs))) [
      | true ↦ ap suc (as_long xs key a b h)
      | false ↦ as_long xs key a b h
    ]

pub taken_as_many : (xs : List (Option Seat)) (key : ℕ) (a b : Seat) → get_or xs key None ≡ Some a → count_by is_some (set xs key (Some b)) ≡ count_by is_some xs
taken_as_many xs key a b h = sym (length-filter is_some (set xs key (Some b))) ∙ (as_long xs key a b h ∙ length-filter is_some xs)

pub written_here : (xs : List (Option Seat)) (key : ℕ) (a b : Seat) → get_or xs key None ≡ Some a → get_or (map claim_in (set xs key (Some b))) key None ≡ Some b.claim
written_here [] key a b h = absurd (cc h)
written_here (x ∷ xs) zero a b h = refl
written_here (x ∷ xs) (suc key) a b h = written_here xs key a b h

pub written_there : (xs : List (Option Seat)) (key : ℕ) (b : Seat) (other : ℕ) → (other ≡ key → ⊥) → get_or (map claim_in (set xs key (Some b))) other None ≡ get_or (map claim_in xs) other None
written_there [] key b other n = refl
written_there (x ∷ xs) zero b zero n = absurd (n refl)
written_there (x ∷ xs) zero b (suc other) n = refl
written_there (x ∷ xs) (suc key) b zero n = refl
written_there (x ∷ xs) (suc key) b (suc other) n = written_there xs key b other (λ e. n (ap suc e))

-- the connection in a seat changes, and its note so
pub wrote : (s : Slab Seat) (key : ℕ) (a b : Seat) (f : Claim → Claim) → get s key ≡ Some a → b.claim ≡ f a.claim → Notes s (with_value s key b) key f
wrote s key a b f h e = record {
  claims = record {
    changed = written_here s.slots key a b h ∙ (ap (λ (c : Claim). Some c) e ∙ sym (ap (noted f) (note_of s.slots key ∙ ap claim_in h)));
    others = written_there s.slots key b;
  };
  seats = record { capacity = refl; count = taken_as_many s.slots key a b h };
}

-- nobody is there
pub missed : (s : Slab Seat) (key : ℕ) (f : Claim → Claim) → get s key ≡ None → Notes s s key f
missed s key f h = record {
  claims = record {
    changed = (note_of s.slots key ∙ ap claim_in h) ∙ sym (ap (noted f) (note_of s.slots key ∙ ap claim_in h));
    others = λ other n. refl;
  };
  seats = record { capacity = refl; count = refl };
}

pub written_same : (xs : List (Option Seat)) (key : ℕ) (a b : Seat) → get_or xs key None ≡ Some a → b.claim ≡ a.claim → map claim_in (set xs key (Some b)) ≡ map claim_in xs
written_same [] key a b h e = refl
written_same (x ∷ xs) zero a b h e = ap (λ (o : Option Claim). o ∷ map claim_in xs) (ap (λ (c : Claim). Some c) e ∙ sym (ap claim_in h))
written_same (x ∷ xs) (suc key) a b h e = ap (λ (os : List (Option Claim)). claim_in x ∷ os) (written_same xs key a b h e)

-- the connection in a seat changes, and its note does not
pub kept : (s : Slab Seat) (key : ℕ) (a b : Seat) → get s key ≡ Some a → b.claim ≡ a.claim → KeepsNotes s (with_value s key b)
kept s key a b h e = record {
  claims = written_same s.slots key a b h e;
  seats = record { capacity = refl; count = taken_as_many s.slots key a b h };
}

pub kept_all : (s : Slab Seat) → KeepsNotes s s
kept_all s = record { claims = refl; seats = record { capacity = refl; count = refl } }

-- a connection comes, or goes
pub updated : (old new : Slab Seat) (key : ℕ) (seat : Option Seat) (f : Option Claim → Option Claim) → Updates old new key seat → f (note_at (claims_of old) key) ≡ claim_in seat → Changes (claims_of old) (claims_of new) key f
updated old new key seat f u e = record {
  changed = note_of new.slots key ∙ (ap claim_in u.changed ∙ sym e);
  others = λ other n. note_of new.slots other ∙ (ap claim_in (u.others other n) ∙ sym (note_of old.slots other));
}
