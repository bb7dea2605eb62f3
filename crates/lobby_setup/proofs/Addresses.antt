-- Addresses that are read one after another.
use Rattle.std.proofs.Common.{◌≡◌, ℕ, suc, ◌+◌, ◌<◌, ◌≤◌, List, [], ◌∷◌, ◌++◌, length, get_or, Ok, Err, drop, drop-cons, add-one, refl, ap, sym, ◌∙◌, subst}
use Rattle.std.proofs.lemmas.List.{drop_all}
use Rattle.toml.specs.View.{view, items_view}
use Rattle.toml.specs.declared.value.Value.{Value}
use Rattle.toml_fields.specs.Fields.{◌>>=◌, text}
use Rattle.toml_fields.specs.declared.fault.FieldFault.{FieldFault}
use Rattle.lobby_setup.specs.declared.error.Refusal.TheVariants.{Proxy}
use Rattle.lobby_setup.specs.Proxies.{Addresses, AreProxies, IsProxy, with_first}
use Rattle.lobby_setup.specs.Written.{IsWritten}

-- these addresses, and then what is said
abbrev pub behind : List (List ℕ) → Addresses → Addresses
behind front said = said >>= (λ ips. Ok (front ++ ips))

append_one : {X : Type 0} (front : List X) (x : X) (rest : List X) → (front ++ x ∷ []) ++ rest ≡ front ++ x ∷ rest
append_one [] x rest = refl
append_one (y ∷ front) x rest = ap (λ l. y ∷ l) (append_one front x rest)

pub behind_one : (front : List (List ℕ)) (ip : List ℕ) (said : Addresses) → behind (front ++ ip ∷ []) said ≡ behind front (with_first ip said)
behind_one front ip (Ok ips) = ap Ok (append_one front ip ips)
behind_one front ip (Err refusal) = refl

-- a value behind those that were read
module _ (values : List Value) (k : ℕ) (value : Value) (inside : k < length values) (stands : value ≡ get_or values k value) where
  next : drop k values ≡ value ∷ drop (k + 1) values
  next = rw add-one (drop-cons values k value inside ∙ ap (λ v. v ∷ drop (suc k) values) (sym stands))

  pub says_fault : (fault : FieldFault) → IsWritten (IsProxy (k + 1)) (text (view value)) (Err fault)
      → AreProxies (k + 1) (items_view (drop k values)) (Err (Proxy (k + 1) fault))
  says_fault fault is =
      subst (λ left. AreProxies (k + 1) (items_view left) (Err (Proxy (k + 1) fault))) (sym next) (Err fault, is, refl)

  pub says_address : (ip : List ℕ) → IsWritten (IsProxy (k + 1)) (text (view value)) (Ok ip) → (said : Addresses)
      → AreProxies (k + 1 + 1) (items_view (drop (k + 1) values)) said → AreProxies (k + 1) (items_view (drop k values)) (with_first ip said)
  says_address ip is said are =
      subst (λ left. AreProxies (k + 1) (items_view left) (with_first ip said)) (sym next) (Ok ip, is, (said, are, refl))

-- no value behind those that were read
pub says_no_more : (values : List Value) (k : ℕ) → length values ≤ k → AreProxies (k + 1) (items_view (drop k values)) (Ok [])
says_no_more values k all = subst (λ left. AreProxies (k + 1) (items_view left) (Ok [])) (sym (drop_all k values all)) refl
