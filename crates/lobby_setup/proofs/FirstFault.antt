-- The first of all faults is what a reading refuses.
use Rattle.std.proofs.Common.{◌≡◌, ℕ, suc, ◌+◌, ◌<◌, ◌≤◌, List, [], ◌∷◌, ◌++◌, length, get_or, drop, drop-cons, add-one, Option, Some, None, Result, Ok, Err, refl, sym, ◌∙◌, ap, subst, append_assoc}
use Rattle.std.proofs.lemmas.List.{drop_all}
use Rattle.toml.specs.View.{view, items_view}
use Rattle.toml.specs.declared.value.Value.{Value}
use Rattle.std.specs.Prelude.{codes, false, true, option_map, unwrap_or, MatchResult}
use Rattle.std.specs.Option.{option_map_or, option_to_list}
use Rattle.std.specs.Result.{result_err}
use Rattle.toml.specs.Data.{Data, Items, no_items, item, Members, as_str}
use Rattle.toml_fields.specs.Fields.{◌>>=◌, flag, list, number, required, text}
use Rattle.toml_fields.specs.declared.fault.FieldFault.{FieldFault}
use Rattle.proxy_line.specs.Words.{IsSocketAddress}
use Rattle.lobby_setup.specs.At.{at, field}
use Rattle.lobby_setup.specs.Choices.{Choices, choices, motd_items, Says}
use Rattle.lobby_setup.specs.Faults.{AreFaults, AreProxyFaults, faults_in, first_of, HasProxyFaults, line_faults}
use Rattle.lobby_setup.specs.Faults.{motd_faults, refused, table_faults}
use Rattle.lobby_setup.specs.Keys.{name_of}
use Rattle.lobby_setup.specs.Motd.{line_fault, motd_fault}
use Rattle.lobby_setup.specs.Proxies.{Addresses, AreProxies, IsProxy, SayProxies, with_first}
use Rattle.lobby_setup.specs.Written.{IsWritten}
use Rattle.lobby_setup.specs.declared.key.Key.{Key}
use Rattle.lobby_setup.specs.declared.key.Key.TheVariants as key
use Rattle.lobby_setup.specs.declared.error.Refusal.{Refusal}
use Rattle.lobby_setup.specs.declared.error.Refusal.TheVariants.{Field, MotdLine, Proxy}

-- faults of which the first is what a reading refuses
abbrev pub Leads : {X : Type 0} → List Refusal → Result X Refusal → Type 0
Leads faults said = first_of faults ≡ result_err said

-- two readings that are refused alike
abbrev pub AreAlike : {X E : Type 0} → Result X E → Result X E → Type 0
AreAlike one other = result_err one ≡ result_err other

-- what a text writes is refused for one cause
pub written_alike : {X : Type 0} (Writes : List ℕ → X → Type 0) (said : Result (List ℕ) FieldFault) (one other : Result X FieldFault)
    → IsWritten Writes said one → IsWritten Writes said other → AreAlike one other
written_alike Writes (Ok word) (Ok x) (Ok y) is is_too = refl
written_alike Writes (Ok word) (Ok x) (Err fault) is is_too = absurd (is_too.1 x is)
written_alike Writes (Ok word) (Err fault) (Ok y) is is_too = absurd (is.1 y is_too)
written_alike Writes (Ok word) (Err fault) (Err other) is is_too = ap Some (is.0 ∙ sym is_too.0)
written_alike Writes (Err unread) one other is is_too = ap result_err (is ∙ sym is_too)

-- the lines of a message of the day
pub lines_lead : (place : ℕ) (values : Items) → first_of (line_faults place values) ≡ motd_fault place values
lines_lead place no_items = refl
lines_lead place (item value values) =
    let more = lines_lead (place + 1) values in
    elim (line_fault place value) as (λ found. first_of (option_to_list (option_map (MotdLine place) found) ++ line_faults (place + 1) values)
    ≡ option_map_or (λ fault. Some (MotdLine place fault)) found (motd_fault (place + 1) values)) [
      | None ↦ more
      | Some fault ↦ refl
    ]

lines_said : (values : Items) (found : Option Refusal) → first_of (line_faults 1 values) ≡ found
    → first_of (line_faults 1 values) ≡ result_err (option_map_or Err found (Ok values))
lines_said values None is = is
lines_said values (Some refusal) is = is

motd_leads : (said : Result Items Refusal)
    → Leads (faults_in (line_faults 1) said) (said >>= (λ values. option_map_or Err (motd_fault 1 values) (Ok values)))
motd_leads (Ok values) = lines_said values (motd_fault 1 values) (lines_lead 1 values)
motd_leads (Err refusal) = refl

-- the addresses of fronts
with_first_alike : (ip : List ℕ) (said : Addresses) → result_err (with_first ip said) ≡ result_err said
with_first_alike ip (Ok ips) = refl
with_first_alike ip (Err refusal) = refl

item_leads : (place : ℕ) (values : Items) (rest faults : List Refusal) (said : Addresses)
    → ((later : Addresses) → AreProxies (place + 1) values later → Leads rest later)
    → (first told : Result (List ℕ) FieldFault) → AreAlike first told
    → faults ≡ option_to_list (option_map (Proxy place) (result_err first)) ++ rest
    → MatchResult told (λ ip. (later : Addresses) × AreProxies (place + 1) values later × (said ≡ with_first ip later)) (λ fault.
    said ≡ Err (Proxy place fault)) → Leads faults said
item_leads place values rest faults said leads (Ok ip) (Ok other) alike are so =
    ap first_of are ∙ leads so.0 so.1 ∙ sym (ap result_err so.2 ∙ with_first_alike other so.0)
item_leads place values rest faults said leads (Ok ip) (Err fault) alike are so = absurd (cc)
item_leads place values rest faults said leads (Err fault) (Ok ip) alike are so = absurd (cc)
item_leads place values rest faults said leads (Err fault) (Err other) alike are so =
    ap first_of are ∙ ap (λ (cause : Option FieldFault). first_of (option_to_list (option_map (Proxy place) cause) ++ rest)) alike
    ∙ sym (ap result_err so)

pub proxies_lead : (place : ℕ) (values : Items) (faults : List Refusal) (said : Addresses)
    → AreProxyFaults place values faults → AreProxies place values said → Leads faults said
proxies_lead place no_items faults said none are = ap first_of none ∙ sym (ap result_err are)
proxies_lead place (item value values) faults said has are =
    item_leads place values has.2.0 faults said (λ later say. proxies_lead (place + 1) values has.2.0 later has.2.1 say)
    has.0 are.0 (written_alike (IsProxy place) (text value) has.0 are.0 has.1 are.1) has.2.2 are.2

at_proxies : (found : Result Items Refusal) (faults : List Refusal) (said : Addresses)
    → MatchResult found (λ values. AreProxyFaults 1 values faults) (λ refusal. faults ≡ refusal ∷ [])
    → MatchResult found (λ values. AreProxies 1 values said) (λ refusal. said ≡ Err refusal) → Leads faults said
at_proxies (Ok values) faults said has are = proxies_lead 1 values faults said has are
at_proxies (Err refusal) faults said has are = ap first_of has ∙ sym (ap result_err are)

-- what is refused at one key
refused_leads : {X : Type 0} (said : Result X Refusal) → Leads (refused said) said
refused_leads (Ok x) = refl
refused_leads (Err refusal) = refl

-- faults at one key and then those of the keys behind it
leads_then : {X Y : Type 0} (front : List Refusal) (said : Result X Refusal) (rest : List Refusal) (next : X → Result Y Refusal)
    → Leads front said → ((x : X) → Leads rest (next x)) → Leads (front ++ rest) (said >>= next)
leads_then [] (Ok x) rest next leads more = more x
leads_then [] (Err refusal) rest next leads more = absurd (cc)
leads_then (fault ∷ faults) (Ok x) rest next leads more = absurd (cc)
leads_then (fault ∷ faults) (Err refusal) rest next leads more = leads

key_then : {X Y : Type 0} (said : Result X Refusal) (rest : List Refusal) (next : X → Result Y Refusal)
    → ((x : X) → Leads rest (next x)) → Leads (refused said ++ rest) (said >>= next)
key_then said rest next more = leads_then (refused said) said rest next (refused_leads said) more

last_key : {X Y : Type 0} (said : Result X Refusal) (done : X → Y) → Leads (refused said) (said >>= (λ x. Ok (done x)))
last_key (Ok x) done = refl
last_key (Err refusal) done = refl

-- the faults of all keys, over what they say
pub chain_leads : {A B C D E F G M S L R P X : Type 0}
    (done : A → B → C → D → E → F → G → M → S → List (List ℕ) → L → R → P → X)
    (ra : Result A Refusal) (rb : Result B Refusal) (rc : Result C Refusal) (rd : Result D Refusal) (re : Result E Refusal)
    (rf : Result F Refusal) (rg : Result G Refusal) (motd : List Refusal) (rm : Result M Refusal) (rs : Result S Refusal)
    (proxies : List Refusal) (rx : Addresses) (rl : Result L Refusal) (rr : Result R Refusal) (rp : Result P Refusal)
    → Leads motd rm → Leads proxies rx
    → Leads (refused ra ++ refused rb ++ refused rc ++ refused rd ++ refused re ++ refused rf ++ refused rg ++ motd ++ refused rs
    ++ proxies ++ refused rl ++ refused rr ++ refused rp)
    (ra >>= (λ a. rb >>= (λ b. rc >>= (λ c. rd >>= (λ d. re >>= (λ e. rf >>= (λ f. rg >>= (λ g. rm >>= (λ m. rs >>= (λ s.
    rx >>= (λ x. rl >>= (λ l. rr >>= (λ r. rp >>= (λ p. Ok (done a b c d e f g m s x l r p)))))))))))))))
chain_leads done ra rb rc rd re rf rg motd rm rs proxies rx rl rr rp motd_leads proxies_lead =
    simp append_assoc (key_then ra _ _ (λ a. key_then rb _ _ (λ b. key_then rc _ _ (λ c. key_then rd _ _ (λ d.
    key_then re _ _ (λ e. key_then rf _ _ (λ f. key_then rg _ _ (λ g. leads_then motd rm _ _ motd_leads (λ m.
    key_then rs _ _ (λ s. leads_then proxies rx _ _ proxies_lead (λ x. key_then rl _ _ (λ l. key_then rr _ _ (λ r.
    last_key rp (λ p. done a b c d e f g m s x l r p))))))))))))))

-- addresses that are refused alike are told alike
retold : (proxies : List Refusal) (table : Members) (one other : Result (List ℕ × ℕ) FieldFault) → AreAlike one other
    → table_faults one proxies table ≡ table_faults other proxies table
retold proxies table (Ok x) (Ok y) alike = refl
retold proxies table (Ok x) (Err fault) alike = absurd (cc)
retold proxies table (Err fault) (Ok x) alike = absurd (cc)
retold proxies table (Err fault) (Err other) alike =
    ap (λ cause. table_faults (Err (unwrap_or cause fault)) proxies table) alike

-- all that is wrong in a table begins with what a reading of it refuses
pub faults_lead : (table : Members) (faults : List Refusal) (answer : Result Choices Refusal) → AreFaults table faults
    → Says table answer → Leads faults answer
faults_lead table faults answer are says =
    ap first_of (are.2.2 ∙ retold are.2.0 table are.0 says.0
    (written_alike IsSocketAddress (required text (name_of key.Address) table) are.0 says.0 are.1 says.1))
    ∙ chain_leads _ _ _ _ _ _ _ _ _ _ _ _ _ _ _ _ (motd_leads (field key.Motd list no_items table))
    (at_proxies (field key.Proxies list no_items table) are.2.0 says.2.0 are.2.1 says.2.1)
    ∙ sym (ap result_err says.2.2)

-- a value behind the front of some
module _ (values : List Value) (k : ℕ) (value : Value) (inside : k < length values) (stands : value ≡ get_or values k value) where
  next : drop k values ≡ value ∷ drop (k + 1) values
  next = rw add-one (drop-cons values k value inside ∙ ap (λ v. v ∷ drop (suc k) values) (sym stands))

  pub faults_from : (first : Result (List ℕ) FieldFault) → IsWritten (IsProxy (k + 1)) (text (view value)) first → (rest : List Refusal)
      → AreProxyFaults (k + 1 + 1) (items_view (drop (k + 1) values)) rest
      → AreProxyFaults (k + 1) (items_view (drop k values)) (option_to_list (option_map (Proxy (k + 1)) (result_err first)) ++ rest)
  faults_from first is rest are =
      subst (λ left. AreProxyFaults (k + 1) (items_view left) (option_to_list (option_map (Proxy (k + 1)) (result_err first)) ++ rest))
      (sym next) (first, is, (rest, are, refl))

-- no value behind the front
pub no_faults_behind : (values : List Value) (k : ℕ) → length values ≤ k → AreProxyFaults (k + 1) (items_view (drop k values)) []
no_faults_behind values k all = subst (λ left. AreProxyFaults (k + 1) (items_view left) []) (sym (drop_all k values all)) refl
