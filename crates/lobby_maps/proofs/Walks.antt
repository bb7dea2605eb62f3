-- Walks: client after client is addressed.
use Rattle.std.proofs.Common.{◌≡◌, ℕ, ◌+◌, ◌<◌, List, [], ◌∷◌, ◌++◌, length, take, refl, sym, ap, ◌∙◌, true, false, append_assoc, append-nil, slice_index_or, add-one, subst}
use Rattle.std.specs.Prelude.{Some, None, ◌||◌}
use Rattle.std.specs.List.{AllByRecursion, IsDistinct}
use Rattle.std.specs.List.Sorted.{IsStrictlySortedBy}
use Rattle.std.specs.Ordering.{nat_cmp, is_eq}
use Rattle.std.specs.declared.cmp.Ordering.TheVariants.{Less}
use Rattle.std.proofs.lemmas.List.{map-append}
use Rattle.std.proofs.lemmas.Grind.{flat_map-append}
use Rattle.std.proofs.lemmas.List.Folds.{list_any-append}
use Rattle.std.proofs.Math.Seq.{take-suc}
use Rattle.line_words.specs.Table.{ByName, ByNumber, at_name, same_name, same_number, is_among}
use Rattle.line_words.proofs.Once.{same_name_equiv}
use Rattle.lobby_model.specs.State.{State, Client, name_at, name_of}
use Rattle.lobby_model.specs.Outcome.{is_named, everyone, user, users}
use Rattle.lobby_model.proofs.Delivered.{same_itself, same_number_is}
use Rattle.lobby_model.proofs.Named.{named_so}
use Rattle.lobby_post.specs.Posted.{Posted, copy_to, addressed, has_number, AreApart, Reaches}
use Rattle.lobby_post.proofs.Sums.{apart_rising}
use Rattle.lobby_battles.specs.declared.online_users.OnlineUser.{OnlineUser}
use Rattle.lobby_battles.specs.OnlineUsers.{client_in, Agree, IsListed}
use Rattle.lobby_maps.specs.Fit.{clients_of, IsOwn}

pub addressed_none : (post : Posted) → post ≡ addressed post []
addressed_none post = ap (λ ps. record post { sent = ps }) (sym (append-nil post.sent))

pub addressed_more : (post : Posted) (cs ds : List ℕ) → addressed (addressed post cs) ds ≡ addressed post (cs ++ ds)
addressed_more post cs ds = ap (λ ps. record post { sent = ps }) (append_assoc post.sent _ _
    ∙ ap (λ ps. post.sent ++ ps) (sym (map-append (copy_to post) cs ds)))

pub addressed_next : (post mid new : Posted) (cs : List ℕ) (c : ℕ) → mid ≡ addressed post cs
    → new ≡ record mid { sent = mid.sent ++ copy_to mid c ∷ [] } → new ≡ addressed post (cs ++ c ∷ [])
addressed_next post mid new cs c before is = is ∙ ap (λ p. addressed p (c ∷ [])) before ∙ addressed_more post cs (c ∷ [])

-- all users: their clients' numbers rise, and are those of the clients that are logged in
pub reaches_everyone : (s : State) (issuer : ℕ) (cs : List ℕ) → IsStrictlySortedBy nat_cmp cs → IsListed cs s.clients → Reaches s issuer cs everyone
reaches_everyone s issuer cs rising listed = record { once = apart_rising cs rising; exact = listed }

-- users by their names
module _ (online : ByName OnlineUser) where
  pub clients-next : (names : List (List ℕ)) (name : List ℕ)
      → clients_of online (names ++ name ∷ []) ≡ clients_of online names ++ client_in (at_name online name)
  clients-next names name = flat_map-append _ names (name ∷ []) ∙ ap (λ cs. clients_of online names ++ cs) (append-nil _)

  module _ (names : List (List ℕ)) (default : List ℕ) (i : ℕ) (within : i < length names) (post mid : Posted)
      (before : mid ≡ addressed post (clients_of online (take i names))) where
    abbrev name : List ℕ
    name = slice_index_or names i default

    taken : clients_of online (take (i + 1) names) ≡ clients_of online (take i names) ++ client_in (at_name online name)
    taken =
        let t : take (i + 1) names ≡ take i names ++ (name ∷ []) = rw add-one (take-suc names i default within) in
        ap (clients_of online) t ∙ clients-next (take i names) name

    pub name_addressed : (new : Posted) → new ≡ addressed mid (client_in (at_name online name))
        → new ≡ addressed post (clients_of online (take (i + 1) names))
    name_addressed new is =
        is ∙ ap (λ p. addressed p (client_in (at_name online name))) before ∙ addressed_more post (clients_of online (take i names)) (client_in (at_name online name))
        ∙ ap (addressed post) (sym taken)

out_of : (me : List ℕ) (names : List (List ℕ)) → AllByRecursion (λ n. same_name me n ≡ false) names → is_among me names ≡ false
out_of me [] h = refl
out_of me (n ∷ names) h = (λ i. h.0 i || is_among me names) ∙ out_of me names h.1

module _ (clients : ByNumber Client) (online : ByName OnlineUser) (agree : Agree clients online) where
  knowing : (name : List ℕ) (online_user : OnlineUser) → at_name online name ≡ Some online_user → name_at clients online_user.client.number ≡ Some name
  knowing name online_user e = named_so name _ (sym (agree name online_user.client.number)
      ∙ ap (λ o. has_number (client_in o) online_user.client.number) e ∙ ap (λ b. b || false) (same_itself online_user.client.number))

  -- the client that is logged in under a name is the one of its online user
  pub sole_client : (name : List ℕ) (c : ℕ) → name_at clients c ≡ Some name → client_in (at_name online name) ≡ c ∷ []
  sole_client name c named =
      elim (at_name online name) as (λ o. has_number (client_in o) c ≡ true → client_in o ≡ c ∷ []) [
        | None ↦ λ none. absurd (cc)
        | Some online_user ↦ λ has. ap (λ d. d ∷ []) (sym (same_number_is c online_user.client.number (elim (same_number c online_user.client.number) as (λ b. (b || false) ≡ true → b ≡ true) [
          | true ↦ λ t. refl
          | false ↦ λ t. t
        ] has)))
      ] (agree name c ∙ ap (is_named (same_name name)) named ∙ same_name_equiv.refl name)

  named_exact : (names : List (List ℕ)) (d : ℕ) → has_number (clients_of online names) d ≡ is_named (λ n. is_among n names) (name_at clients d)
  named_exact [] d = elim (name_at clients d) as (λ o. false ≡ is_named (λ n. is_among n []) o) [ None ↦ refl | Some n ↦ refl ]
  named_exact (name ∷ names) d =
      list_any-append (same_number d) (client_in (at_name online name)) (clients_of online names)
      ∙ (λ i. agree name d i || named_exact names d i)
      ∙ elim (name_at clients d) as (λ o. (is_named (same_name name) o || is_named (λ n. is_among n names) o)
      ≡ is_named (λ n. is_among n (name ∷ names)) o) [
        | None ↦ refl
        | Some n ↦ ap (λ b. b || is_among n names) (same_name_equiv.symm name n)
      ]

  named_apart : (names : List (List ℕ)) → IsDistinct same_name names → AreApart (clients_of online names)
  unfolding IsDistinct
  named_apart [] h = tt
  named_apart (name ∷ names) h =
      elim (at_name online name) as (λ o. at_name online name ≡ o → AreApart (client_in o ++ clients_of online names)) [
        | None ↦ λ e. named_apart names h.1
        | Some online_user ↦ λ e. (
          named_exact names online_user.client.number ∙ ap (is_named (λ n. is_among n names)) (knowing name online_user e)
              ∙ out_of name names h.0,
          named_apart names h.1,
        )
      ] refl

pub reaches_users : (s : State) (issuer : ℕ) (online : ByName OnlineUser) (names : List (List ℕ)) → Agree s.clients online
    → IsDistinct same_name names → Reaches s issuer (clients_of online names) (users names)
reaches_users s issuer online names agree distinct = record {
  once = named_apart s.clients online agree names distinct;
  exact = named_exact s.clients online agree names;
}

-- one user
pub reaches_user : (s : State) (issuer : ℕ) (online : ByName OnlineUser) (name : List ℕ) → Agree s.clients online
    → Reaches s issuer (client_in (at_name online name)) (user name)
reaches_user s issuer online name agree = record {
  once = elim (at_name online name) as (λ o. AreApart (client_in o)) [ None ↦ tt | Some online_user ↦ (refl, tt) ];
  exact = λ d. agree name d ∙ elim (name_at s.clients d) as (λ o. is_named (same_name name) o
      ≡ is_named (λ n. same_name n name) o) [
        | None ↦ refl
        | Some n ↦ same_name_equiv.symm name n
      ];
}

-- the user whose event it is
pub reaches_own : (s : State) (online : ByName OnlineUser) (old new : Posted) (name : List ℕ) → Agree s.clients online → name_of s old.issuer ≡ Some name
    → new ≡ addressed old (client_in (at_name online name)) → IsOwn s old new name
reaches_own s online old new name agree mine is =
    let here : client_in (at_name online name) ≡ old.issuer ∷ [] = sole_client s.clients online agree name old.issuer mine in
    (subst (λ cs. Reaches s old.issuer cs (user name)) here (reaches_user s old.issuer online name agree), is ∙ ap (addressed old) here)
