-- The slots in their cells, before and after one of them is written, added or removed.
use Rattle.std.proofs.Common.{◌≡◌, ◌≢◌, ◌⊎◌, ℕ, [], ◌∷◌, refl, sym, ap, subst, ◌∙◌, inl, inr, Bool, true, false, cond, map}
use Rattle.std.specs.Prelude.{Option, Some, None, IsSome, is_some, if◌then◌else◌}
use Rattle.std.specs.declared.cmp.Ordering.TheVariants.{Less, Equal, Greater}
use Rattle.std.specs.Cmp.{nat_cmp_total}
use Rattle.std.specs.FinMap.{nat_cmp-IsAntisymmetric}
use Rattle.std.specs.List.Sorted.{IsStrictlySortedBy}
use Rattle.std.specs.Option.{option_map}
use Rattle.std.specs.Ordering.{nat_cmp, match_ordering}
use Rattle.std.specs.BTreeMap.{is_at, insert_entry}
use Rattle.std.specs.Map.{lookup, set_value, remove_entry}
use Rattle.std.proofs.lemmas.Bool.{cases_eq, true≢false}
use Rattle.std.proofs.lemmas.Option.{same_Some}
use Rattle.slab.specs.Slab.{Slab, get, ContainsKey, Updates, with_value}
use Rattle.slab.proofs.SlabLemmas.{Updates-with_value}
use Rattle.line_words.specs.Table.{ByNumber, map_values, same_number}
use Rattle.line_words.proofs.Tables.{lookup_is_find, insert_is_put}
use Rattle.line_words.proofs.Written.{set_is_put}
use Rattle.lobby_model.proofs.Delivered.{same_number_is, same_itself, find-values}
use Rattle.lobby_model.proofs.Splits.{Apart, apart_above, apart_of_none, values_apart, same_either_way}
use Rattle.lobby_post.specs.Mail.{Mailbox}
use Rattle.lobby_post.specs.declared.slots.Cell.{Cell}
use Rattle.lobby_post.specs.Cells.{owner, nobody, held_in, held_by, AreTied}

differs : (a b : ℕ) → same_number a b ≡ false → a ≢ b
differs a b e = λ is. true≢false (sym (same_itself a) ∙ ap (same_number a) is ∙ e)

-- a loan under one name that ends as one or the other
pub lent_as : {N A B C : Type 0} (name : N) (f g : A → B) → ((w : A) → f w ≡ g w) → ◌≡◌ {A = (N × (A → B)) ⊎ C} (inl (name, f)) (inl (name, g))
lent_as name f g same = λ i. inl (name, λ w. same w i)

-- A map whose values are read by their keys
module _ {X Y : Type 0} (f : ℕ → X → Y) where
  pub keys-read : (m : ByNumber X) → map (λ e. e.0) (map_values f m) ≡ map (λ e. e.0) m
  keys-read [] = refl
  keys-read (e ∷ m) = ap (λ ks. e.0 ∷ ks) (keys-read m)

  pub lookup-read : (q : ℕ) (m : ByNumber X) → lookup (is_at (nat_cmp q)) (map_values f m) ≡ option_map (f q) (lookup (is_at (nat_cmp q)) m)
  lookup-read q m = lookup_is_find nat_cmp q (map_values f m) ∙ find-values f q m ∙ ap (option_map (f q)) (sym (lookup_is_find nat_cmp q m))

  pub remove-read : (test : ℕ → Bool) (m : ByNumber X) → map_values f (remove_entry test m) ≡ remove_entry test (map_values f m)
  remove-read test [] = refl
  remove-read test (e ∷ m) =
      elim (test e.0) as (λ b. map_values f (cond b m (e ∷ remove_entry test m)) ≡ cond b (map_values f m) ((e.0, f e.0 e.1) ∷ remove_entry test (map_values f m))) [
        | true ↦ refl
        | false ↦ ap (λ es. (e.0, f e.0 e.1) ∷ es) (remove-read test m)
      ]

  pub insert-read : (k : ℕ) (x : X) (m : ByNumber X) → map_values f (insert_entry nat_cmp m k x) ≡ insert_entry nat_cmp (map_values f m) k (f k x)
  insert-read k x [] = refl
  insert-read k x (e ∷ m) =
      elim (nat_cmp k e.0) as (λ r. nat_cmp k e.0 ≡ r
      → map_values f (match_ordering r ((k, x) ∷ e ∷ m) ((e.0, x) ∷ m) (e ∷ insert_entry nat_cmp m k x))
      ≡ match_ordering r ((k, f k x) ∷ map_values f (e ∷ m)) ((e.0, f k x) ∷ map_values f m) ((e.0, f e.0 e.1) ∷ insert_entry nat_cmp (map_values f m) k (f k x))) [
        | Less ↦ λ t. refl
        | Equal ↦ λ t. ap (λ d. (e.0, f d x) ∷ map_values f m) (sym (nat_cmp-IsAntisymmetric k e.0 t))
        | Greater ↦ λ t. ap (λ es. (e.0, f e.0 e.1) ∷ es) (insert-read k x m)
      ] refl

-- one value read otherwise
module _ {X Y : Type 0} (f g : ℕ → X → Y) (c : ℕ) (others : (d : ℕ) (x : X) → same_number d c ≡ false → g d x ≡ f d x) where
  pub set-read : (x : X) (m : ByNumber X) → IsStrictlySortedBy nat_cmp (map (λ e. e.0) m) → lookup (is_at (nat_cmp c)) m ≡ Some x
      → map_values g m ≡ set_value (is_at (nat_cmp c)) (map_values f m) (g c x)
  unfolding IsStrictlySortedBy
  set-read x [] h found = absurd (cc)
  set-read x (e ∷ m) h found =
      elim (same_number c e.0) as (λ b. same_number c e.0 ≡ b → cond b (Some e.1) (lookup (is_at (nat_cmp c)) m) ≡ Some x
      → map_values g (e ∷ m) ≡ cond b ((e.0, g c x) ∷ map_values f m) ((e.0, f e.0 e.1) ∷ set_value (is_at (nat_cmp c)) (map_values f m) (g c x))) [
        | true ↦ λ t at.
            let key : c ≡ e.0 = same_number_is c e.0 t in
            let value : e.1 ≡ x = same_Some e.1 x at in
            let rest : map_values g m ≡ map_values f m = values_apart g f c others m (subst (λ k. Apart k m) (sym key) (apart_above e.0 m h.0)) in
            λ i. (e.0, g (sym key i) (value i)) ∷ rest i
        | false ↦ λ t at. λ i. (e.0, others e.0 e.1 (same_either_way e.0 c ∙ t) i) ∷ set-read x m h.1 at i
      ] refl found

-- a value put where there is one
pub insert_is_set : {X : Type 0} (k : ℕ) (x w : X) (m : ByNumber X) → IsStrictlySortedBy nat_cmp (map (λ e. e.0) m) → lookup (is_at (nat_cmp k)) m ≡ Some x
    → set_value (is_at (nat_cmp k)) m w ≡ insert_entry nat_cmp m k w
insert_is_set k x w m h found = set_is_put nat_cmp nat_cmp_total k x w m h found ∙ sym (insert_is_put nat_cmp m k w)

-- the slot of a client, and of another
pub held-own : (c : ℕ) (w : Mailbox) → held_in c (Some (record { client = c; slot = w })) ≡ w
held-own c w = ap (λ b. if b then w else nobody) (same_itself c)

held-cell : (c : ℕ) (cell : Cell) → cell.client ≡ c → held_in c (Some cell) ≡ cell.slot
held-cell c cell is = ap (λ b. if b then cell.slot else nobody) (ap (same_number c) is ∙ same_itself c)

held-other : (c d : ℕ) (cell : Option Cell) → owner cell ≡ Some c → same_number d c ≡ false → held_in d cell ≡ nobody
held-other c d None is apart = refl
held-other c d (Some cell) is apart =
    let same : cell.client ≡ c = same_Some cell.client c is in
    ap (λ b. if b then cell.slot else nobody) (ap (same_number d) same ∙ apart)

module _ (cells : Slab Cell) (index : ByNumber ℕ) (tied : AreTied cells index) (c : ℕ) where
  pub ordered_held : IsStrictlySortedBy nat_cmp (map (λ e. e.0) (held_by cells index))
  ordered_held = subst (IsStrictlySortedBy nat_cmp) (sym (keys-read (λ d slot. held_in d (get cells slot)) index)) tied.ordered

  -- a look-up, cell by cell
  pub held-none : lookup (is_at (nat_cmp c)) index ≡ None → lookup (is_at (nat_cmp c)) (held_by cells index) ≡ None
  held-none none = lookup-read (λ d slot. held_in d (get cells slot)) c index ∙ ap (option_map (λ slot. held_in c (get cells slot))) none

  -- a client that has no slot is not in the index
  pub absent : lookup (is_at (nat_cmp c)) (held_by cells index) ≡ None → lookup (is_at (nat_cmp c)) index ≡ None
  absent none =
      elim (lookup (is_at (nat_cmp c)) index) as (λ o. option_map (λ slot. held_in c (get cells slot)) o ≡ None → o ≡ None) [
        | None ↦ λ e. refl
        | Some x ↦ λ e. absurd (cc)
      ] (sym (lookup-read (λ d slot. held_in d (get cells slot)) c index) ∙ none)

  pub held-is_some : is_some (lookup (is_at (nat_cmp c)) index) ≡ is_some (lookup (is_at (nat_cmp c)) (held_by cells index))
  held-is_some =
      elim (lookup (is_at (nat_cmp c)) index) as (λ o. is_some o ≡ is_some (option_map (λ slot. held_in c (get cells slot)) o)) [ None ↦ refl | Some x ↦ refl ]
      ∙ ap is_some (sym (lookup-read (λ d slot. held_in d (get cells slot)) c index))

  module _ (slot : ℕ) (found : lookup (is_at (nat_cmp c)) index ≡ Some slot) where
    pub contained : ContainsKey cells slot
    contained =
        elim (get cells slot) as (λ cell. owner cell ≡ Some c → IsSome cell) [
          | None ↦ λ is. absurd (cc)
          | Some cell ↦ λ is. refl
        ] (tied.placed c slot found)

    owned : (cell : Cell) → get cells slot ≡ Some cell → cell.client ≡ c
    owned cell at = same_Some cell.client c (sym (ap owner at) ∙ tied.placed c slot found)

    pub held-at : (cell : Cell) → get cells slot ≡ Some cell → Some cell.slot ≡ lookup (is_at (nat_cmp c)) (held_by cells index)
    held-at cell at =
        sym (lookup-read (λ d p. held_in d (get cells p)) c index ∙ ap (option_map (λ p. held_in c (get cells p))) found
        ∙ ap (λ o. Some (held_in c o)) at ∙ ap Some (held-cell c cell (owned cell at)))

    -- a slot written in its cell
    module _ (w : Mailbox) (cell : Cell) (at : get cells slot ≡ Some cell) where
      abbrev after : Slab Cell
      after = with_value cells slot (record { client = cell.client; slot = w })

      updates : Updates cells after slot (Some (record { client = cell.client; slot = w }))
      updates = Updates-with_value cells slot (record { client = cell.client; slot = w }) contained

      same_owner : (r : ℕ) → owner (get after r) ≡ owner (get cells r)
      same_owner r =
          elim (cases_eq r slot) [
            | inl same ↦ ap (λ p. owner (get after p)) same ∙ ap owner updates.changed ∙ sym (ap owner at) ∙ ap (λ p. owner (get cells p)) (sym same)
            | inr apart ↦ ap owner (updates.others r apart)
          ]

      pub tied_written : AreTied after index
      tied_written = record {
        ordered = tied.ordered;
        placed = λ d p is. same_owner p ∙ tied.placed d p is;
        indexed = λ d p is. tied.indexed d p (sym (same_owner p) ∙ is);
      }

      others_same : (d p : ℕ) → same_number d c ≡ false → held_in d (get after p) ≡ held_in d (get cells p)
      others_same d p apart =
          elim (cases_eq p slot) [
            | inl same ↦
                let mine : owner (get cells p) ≡ Some c = ap (λ r. owner (get cells r)) same ∙ tied.placed c slot found in
                held-other c d (get after p) (same_owner p ∙ mine) apart ∙ sym (held-other c d (get cells p) mine apart)
            | inr other ↦ ap (held_in d) (updates.others p other)
          ]

      pub held_written : held_by after index ≡ set_value (is_at (nat_cmp c)) (held_by cells index) w
      held_written =
          set-read (λ d p. held_in d (get cells p)) (λ d p. held_in d (get after p)) c others_same slot index tied.ordered found
          ∙ ap (set_value (is_at (nat_cmp c)) (held_by cells index))
          (ap (held_in c) updates.changed ∙ held-cell c (record { client = cell.client; slot = w }) (owned cell at))

    -- a client removed, with its cell
    module _ (after : Slab Cell) (rest : ByNumber ℕ) (updates : Updates cells after slot None) (rising : IsStrictlySortedBy nat_cmp (map (λ e. e.0) rest))
        (removed : (q : ℕ) → lookup (is_at (nat_cmp q)) rest ≡ cond (is_at (nat_cmp c) q) None (lookup (is_at (nat_cmp q)) index)) where
      pub tied_removed : AreTied after rest
      tied_removed = record {
        ordered = rising;
        placed = λ d p is.
            elim (same_number c d) as (λ b. same_number c d ≡ b → cond b None (lookup (is_at (nat_cmp d)) index) ≡ Some p → owner (get after p) ≡ Some d) [
              | true ↦ λ t e. absurd (cc)
              | false ↦ λ t e.
                  let there : owner (get cells p) ≡ Some d = tied.placed d p e in
                  ap owner (updates.others p (λ same. differs c d t
                  (same_Some c d (sym (tied.placed c slot found) ∙ ap (λ r. owner (get cells r)) (sym same) ∙ there)))) ∙ there
            ] refl (sym (removed d) ∙ is);
        indexed = λ d p is. removed d
            ∙ elim (cases_eq p slot) [
              | inl same ↦ let none : None ≡ Some d = sym (ap owner updates.changed) ∙ ap (λ r. owner (get after r)) (sym same) ∙ is in absurd (cc)
              | inr other ↦
                  let there : lookup (is_at (nat_cmp d)) index ≡ Some p = tied.indexed d p (sym (ap owner (updates.others p other)) ∙ is) in
                  elim (same_number c d) as (λ b. same_number c d ≡ b → cond b None (lookup (is_at (nat_cmp d)) index) ≡ Some p) [
                    | true ↦ λ t. absurd (other (same_Some p slot (sym there
                        ∙ ap (λ k. lookup (is_at (nat_cmp k)) index) (sym (same_number_is c d t)) ∙ found)))
                    | false ↦ λ t. there
                  ] refl
            ];
      }

      pub held_removed : rest ≡ remove_entry (is_at (nat_cmp c)) index → held_by after rest ≡ remove_entry (is_at (nat_cmp c)) (held_by cells index)
      held_removed is =
          let gone : lookup (is_at (nat_cmp c)) rest ≡ None = removed c ∙ ap (λ b. cond b None (lookup (is_at (nat_cmp c)) index)) (same_itself c) in
          values_apart (λ d p. held_in d (get after p)) (λ d p. held_in d (get cells p)) c others_kept rest (apart_of_none c rest gone)
          ∙ ap (held_by cells) is ∙ remove-read (λ d p. held_in d (get cells p)) (is_at (nat_cmp c)) index
        where
          others_kept : (d p : ℕ) → same_number d c ≡ false → held_in d (get after p) ≡ held_in d (get cells p)
          others_kept d p apart =
              elim (cases_eq p slot) [
                | inl same ↦ ap (λ r. held_in d (get after r)) same ∙ ap (held_in d) updates.changed
                    ∙ sym (held-other c d (get cells p) (ap (λ r. owner (get cells r)) same ∙ tied.placed c slot found) apart)
                | inr other ↦ ap (held_in d) (updates.others p other)
              ]

  -- a client added, in a cell that was vacant
  module _ (none : lookup (is_at (nat_cmp c)) index ≡ None) (slot : ℕ) (w : Mailbox) (vacant : get cells slot ≡ None) (after : Slab Cell) (more : ByNumber ℕ)
      (updates : Updates cells after slot (Some (record { client = c; slot = w })))
      (rising : IsStrictlySortedBy nat_cmp (map (λ e. e.0) more))
      (added : (q : ℕ) → lookup (is_at (nat_cmp q)) more ≡ cond (is_at (nat_cmp c) q) (Some slot) (lookup (is_at (nat_cmp q)) index)) where
    other_slot : (d p : ℕ) → owner (get cells p) ≡ Some d → p ≢ slot
    other_slot d p is = λ same. let gone : None ≡ Some d = sym (ap owner vacant) ∙ ap (λ r. owner (get cells r)) (sym same) ∙ is in absurd (cc)

    pub tied_added : AreTied after more
    tied_added = record {
      ordered = rising;
      placed = λ d p is.
          elim (same_number c d) as (λ b. same_number c d ≡ b → cond b (Some slot) (lookup (is_at (nat_cmp d)) index) ≡ Some p → owner (get after p) ≡ Some d) [
            | true ↦ λ t e. ap (λ r. owner (get after r)) (sym (same_Some slot p e)) ∙ ap owner updates.changed ∙ ap Some (same_number_is c d t)
            | false ↦ λ t e. ap owner (updates.others p (other_slot d p (tied.placed d p e))) ∙ tied.placed d p e
          ] refl (sym (added d) ∙ is);
      indexed = λ d p is. added d
          ∙ elim (cases_eq p slot) [
            | inl same ↦
                let key : c ≡ d = same_Some c d (sym (ap owner updates.changed) ∙ ap (λ r. owner (get after r)) (sym same) ∙ is) in
                ap (λ b. cond b (Some slot) (lookup (is_at (nat_cmp d)) index)) (ap (same_number c) (sym key) ∙ same_itself c) ∙ ap Some (sym same)
            | inr other ↦
                let there : lookup (is_at (nat_cmp d)) index ≡ Some p = tied.indexed d p (sym (ap owner (updates.others p other)) ∙ is) in
                elim (same_number c d) as (λ b. same_number c d ≡ b → cond b (Some slot) (lookup (is_at (nat_cmp d)) index) ≡ Some p) [
                  | true ↦ λ t. let gone : None ≡ Some p = sym none ∙ ap (λ k. lookup (is_at (nat_cmp k)) index) (same_number_is c d t) ∙ there in absurd (cc)
                  | false ↦ λ t. there
                ] refl
          ];
    }

    others_there : (d p : ℕ) → same_number d c ≡ false → held_in d (get after p) ≡ held_in d (get cells p)
    others_there d p apart =
        elim (cases_eq p slot) [
          | inl same ↦ ap (λ r. held_in d (get after r)) same ∙ ap (held_in d) updates.changed
              ∙ held-other c d (Some (record { client = c; slot = w })) refl apart ∙ sym (ap (held_in d) vacant) ∙ ap (λ r. held_in d (get cells r)) (sym same)
          | inr other ↦ ap (held_in d) (updates.others p other)
        ]

    pub held_added : more ≡ insert_entry nat_cmp index c slot → held_by after more ≡ insert_entry nat_cmp (held_by cells index) c w
    held_added is =
        ap (held_by after) is ∙ insert-read (λ d p. held_in d (get after p)) c slot index
        ∙ (λ i. insert_entry nat_cmp (values_apart (λ d p. held_in d (get after p)) (λ d p. held_in d (get cells p)) c others_there index
        (apart_of_none c index none) i) c ((ap (held_in c) updates.changed ∙ held-own c w) i))

-- cells with more room
pub tied_grown : (cells grown : Slab Cell) (room : ℕ) (index : ByNumber ℕ) → grown ≡ record cells { capacity = room } → AreTied cells index → AreTied grown index
tied_grown cells grown room index is tied =
    subst (λ (s : Slab Cell). AreTied s index) (sym is) (record { ordered = tied.ordered; placed = tied.placed; indexed = tied.indexed })
