-- What a text says of where the connection comes from, by how it begins.
use Rattle.std.proofs.Common.{◌≡◌, ℕ, inl, inr, List, ◌++◌, Option, Some, None, sym, ap, ◌∙◌, subst, refl, get_or, arith}
use Rattle.std.specs.Prelude.{codes, option_map}
use Rattle.std.proofs.lemmas.List.{append_cancel_left}
use Rattle.proxy_line.specs.Words.{Finds}
use Rattle.proxy_line.proofs.Readings.{finds_none}
use Rattle.proxy_line.specs.Routes.{IsRoute}
use Rattle.proxy_line.specs.Lines.{Says}
use Rattle.proxy_line.specs.declared.line.ProxySource.{ProxySource}
use Rattle.proxy_line.specs.declared.line.ProxySource.TheVariants.{Given, OwnAddress}

not_bare : (route : List ℕ) → codes "PROXY TCP4 " ++ route ≡ codes "PROXY UNKNOWN" → ⊥
not_bare route e = let seventh : ◌≡◌ {A = ℕ} 84 85 = ap (λ l. get_or l 6 0) e in omega (arith, seventh)

not_unknown : (route rest : List ℕ) → codes "PROXY TCP4 " ++ route ≡ codes "PROXY UNKNOWN " ++ rest → ⊥
not_unknown route rest e = let seventh : ◌≡◌ {A = ℕ} 84 85 = ap (λ l. get_or l 6 0) e in omega (arith, seventh)

module _ (text route : List ℕ) (begins : text ≡ codes "PROXY TCP4 " ++ route) where
  no_own : Says text OwnAddress → ⊥
  no_own (inl bare) = not_bare route (sym begins ∙ bare)
  no_own (inr unknown) = not_unknown route unknown.0 (sym begins ∙ unknown.1)

  same_route : (source : List ℕ) → Says text (Given source) → IsRoute route source
  same_route source says =
      subst (λ r. IsRoute r source) (sym (append_cancel_left (codes "PROXY TCP4 ") route says.0 (sym begins ∙ says.1))) says.2

  routeless : Finds (IsRoute route) None → (source : ProxySource) → Says text source → ⊥
  routeless finds (Given source) says = let found = finds.complete source (same_route source says) in absurd cc
  routeless finds OwnAddress says = no_own says

  only : (found : List ℕ) → Finds (IsRoute route) (Some found) → (source : ProxySource) → Says text source → Some (Given found) ≡ Some source
  only found finds (Given source) says = let same = finds.complete source (same_route source says) in cc
  only found finds OwnAddress says = absurd (no_own says)

  -- a text that begins so says what its route says
  pub of_route : (found : Option (List ℕ)) → Finds (IsRoute route) found → Finds (Says text) (option_map Given found)
  of_route None finds = finds_none (Says text) (routeless finds)
  of_route (Some found) finds = record { sound = (route, begins, finds.sound); complete = only found finds }

-- a text of another beginning says at most that it knows none
module _ (text : List ℕ) (other : (route : List ℕ) → text ≡ codes "PROXY TCP4 " ++ route → ⊥) where
  no_other : (source : ProxySource) → Says text source → Some OwnAddress ≡ Some source
  no_other (Given ip) says = absurd (other says.0 says.1)
  no_other OwnAddress says = refl

  pub of_unknown : Says text OwnAddress → Finds (Says text) (Some OwnAddress)
  of_unknown says = record { sound = says; complete = no_other }
