-- The entries of the index of names.
use Rattle.std.proofs.Common.{◌≡◌, ℕ, Bool, false, List, [], ◌∷◌, ◌++◌, map, Result, Ok, Err, OnOk, is_err, is_some, Vec, Global, refl, ap, sym, ◌∙◌, arith, if◌then◌else◌}
use Rattle.std.specs.Str.{bytes_eq}
use Rattle.std.specs.Map.{lookup}
use Rattle.indexmap.specs.IndexMap.{insert_entry}
use Rattle.account_faults.specs.Names.{Names, noted, place_of}

abbrev pub Entry : Type 0
Entry = Vec ℕ Global × ℕ

abbrev pub seen : List Entry → Names
seen entries = map (λ (entry : Entry). (entry.0.items, entry.1)) entries

-- a test for one name
abbrev pub TestsFor : (Vec ℕ Global → Bool) → List ℕ → Type 0
TestsFor test name = (key : Vec ℕ Global) → test key ≡ bytes_eq name key.items

pub lookup-place_of : (test : Vec ℕ Global → Bool) (name : List ℕ) → TestsFor test name
    → (entries : List Entry) → lookup test entries ≡ place_of name (seen entries)
lookup-place_of test name same [] = refl
lookup-place_of test name same (e ∷ es) =
    let here : test e.0 ≡ bytes_eq name e.0.items = same e.0 in
    let rest = lookup-place_of test name same es in
    grind (arith, here, rest)

-- a new name goes last
pub insert_entry-push : (eq : Vec ℕ Global → Vec ℕ Global → Bool) (key : Vec ℕ Global) (name : List ℕ) → TestsFor (eq key) name
    → (place : ℕ) (entries : List Entry) → is_some (place_of name (seen entries)) ≡ false
    → insert_entry eq entries key place ≡ entries ++ (key, place) ∷ []
insert_entry-push eq key name same place [] new = refl
insert_entry-push eq key name same place (e ∷ es) new =
    let here : eq key e.0 ≡ bytes_eq name e.0.items = same e.0 in
    let rest = insert_entry-push eq key name same place es in
    grind (arith, here, rest, new)

seen-push : (entries : List Entry) (key : Vec ℕ Global) (place : ℕ)
    → seen (entries ++ (key, place) ∷ []) ≡ seen entries ++ (key.items, place) ∷ []
seen-push [] key place = refl
seen-push (e ∷ es) key place = ap (λ rest. (e.0.items, e.1) ∷ rest) (seen-push es key place)

pub seen-noted : (old new : List Entry) (key : Vec ℕ Global) (name : List ℕ) (place : ℕ) (names : Names)
    → new ≡ old ++ (key, place) ∷ [] → key.items ≡ name → seen old ≡ names → is_some (place_of name names) ≡ false
    → seen new ≡ noted name place names
seen-noted old new key name place names grown is same unknown =
    ap seen grown ∙ seen-push old key place ∙ ap (λ front. front ++ (key.items, place) ∷ []) same
    ∙ ap (λ word. names ++ (word, place) ∷ []) is
    ∙ sym (ap (λ (known : Bool). if known then names else names ++ (name, place) ∷ []) unknown)

-- what holds on success, where there was no error
pub from_ok : {X E : Type 0} (answer : Result X E) (P : Type 0) → is_err answer ≡ false → OnOk answer P → P
from_ok (Ok x) P fine holds = holds
from_ok (Err e) P fine holds = cc
