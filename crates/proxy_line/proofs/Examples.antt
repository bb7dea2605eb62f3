-- Lines that are a front's, and lines that are none.
use Rattle.std.proofs.Common.{◌≡◌, ◌≢◌, ℕ, ◌≤◌, ◌⊎◌, inl, inr, List, [], ◌∷◌, ◌++◌, get_or, refl, ap, ◌∙◌, arith, lit<, lit≤}
use Rattle.std.specs.Prelude.{codes, reverse, replicate}
use Rattle.std.specs.Fmt.{digits}
use Rattle.std.proofs.lemmas.List.{reverse-append}
use Rattle.proxy_line.specs.Words.{IsAddress}
use Rattle.proxy_line.specs.Routes.{IsRoute}
use Rattle.proxy_line.specs.Lines.{IsLineOf, IsProxyLine, Says}
use Rattle.proxy_line.specs.declared.line.ProxySource.{ProxySource}
use Rattle.proxy_line.specs.declared.line.ProxySource.TheVariants.{Given, OwnAddress}

abbrev ended : List ℕ → List ℕ
ended text = text ++ 13 ∷ 10 ∷ []

-- a line of HAProxy
pub gives_its_source : IsProxyLine (ended (codes "PROXY TCP4 192.168.0.1 10.0.0.255 56324 443")) (Given (192 ∷ 168 ∷ 0 ∷ 1 ∷ []))
unfolding digits
gives_its_source =
    let source : IsAddress (codes "192.168.0.1") (192 ∷ 168 ∷ 0 ∷ 1 ∷ []) = (refl, lit< tt, lit< tt, lit< tt, lit< tt) in
    let destination : IsAddress (codes "10.0.0.255") (10 ∷ 0 ∷ 0 ∷ 255 ∷ []) = (refl, lit< tt, lit< tt, lit< tt, lit< tt) in
    let route : IsRoute (codes "192.168.0.1 10.0.0.255 56324 443") (192 ∷ 168 ∷ 0 ∷ 1 ∷ []) = (
      codes "10.0.0.255 56324 443",
      10 ∷ 0 ∷ 0 ∷ 255 ∷ [],
      codes "56324 443",
      (codes "192.168.0.1", refl, source),
      (codes "10.0.0.255", refl, destination),
      (codes "56324", codes "443", refl, (56324, (refl, lit< tt)), (443, (refl, lit< tt))),
    ) in
    (lit≤ tt, (codes "PROXY TCP4 192.168.0.1 10.0.0.255 56324 443", (refl, refl), (codes "192.168.0.1 10.0.0.255 56324 443", refl, route)))

pub knows_none : IsProxyLine (ended (codes "PROXY UNKNOWN")) OwnAddress
knows_none = (lit≤ tt, (codes "PROXY UNKNOWN", (refl, refl), inl refl))

pub knows_none_of_ipv6 : IsProxyLine (ended (codes "PROXY UNKNOWN ffff::1 ffff::2 1 2")) OwnAddress
knows_none_of_ipv6 = (lit≤ tt, (codes "PROXY UNKNOWN ffff::1 ffff::2 1 2", (refl, refl), inr (codes "ffff::1 ffff::2 1 2", refl)))

-- none without a CR
before_last : (line text : List ℕ) → IsLineOf line text → get_or (reverse line) 1 0 ≡ 13
before_last line text is = ap (λ l. get_or (reverse l) 1 0) is.0 ∙ ap (λ l. get_or l 1 0) (reverse-append text (13 ∷ 10 ∷ []))

pub wants_a_return : (source : ProxySource) → IsProxyLine (codes "PROXY UNKNOWN" ++ 10 ∷ []) source → ⊥
wants_a_return source is = let return : ◌≡◌ {A = ℕ} 78 13 = before_last _ is.1.0 is.1.1 in omega (arith, return)

-- none of more than 107 bytes
pub has_a_limit : (source : ProxySource) → IsProxyLine (ended (codes "PROXY UNKNOWN " ++ replicate 92 65)) source → ⊥
has_a_limit source is = let within : 108 ≤ 107 = is.0 in omega (arith, within)

-- none of IPv6, and none of another word
module _ (line text : List ℕ) (is : IsLineOf line text) where
  given_at_ten : (source : List ℕ) → Says text (Given source) → get_or line 9 0 ≡ 52
  given_at_ten source says = ap (λ l. get_or l 9 0) (is.0 ∙ ap (λ t. t ++ 13 ∷ 10 ∷ []) says.1)

  own_at_fourteen : Says text OwnAddress → (get_or line 13 0 ≡ 13) ⊎ (get_or line 13 0 ≡ 32)
  own_at_fourteen (inl bare) = inl (ap (λ l. get_or l 13 0) (is.0 ∙ ap (λ t. t ++ 13 ∷ 10 ∷ []) bare))
  own_at_fourteen (inr says) = inr (ap (λ l. get_or l 13 0) (is.0 ∙ ap (λ t. t ++ 13 ∷ 10 ∷ []) says.1))

  no_other_word : get_or line 9 0 ≢ 52 → get_or line 13 0 ≢ 13 → get_or line 13 0 ≢ 32 → (source : ProxySource) → Says text source → ⊥
  no_other_word tenth bare space (Given source) says = tenth (given_at_ten source says)
  no_other_word tenth bare space OwnAddress says = elim (own_at_fourteen says) [ inl e ↦ bare e | inr e ↦ space e ]

pub is_of_no_ipv6 : (source : ProxySource) → IsProxyLine (ended (codes "PROXY TCP6 ::1 ::1 1 2")) source → ⊥
is_of_no_ipv6 source is =
    no_other_word _ is.1.0 is.1.1 (λ e. omega (arith, e)) (λ e. omega (arith, e)) (λ e. omega (arith, e)) source is.1.2

pub ends_its_word : (source : ProxySource) → IsProxyLine (ended (codes "PROXY UNKNOWNx")) source → ⊥
ends_its_word source is =
    no_other_word _ is.1.0 is.1.1 (λ e. omega (arith, e)) (λ e. omega (arith, e)) (λ e. omega (arith, e)) source is.1.2
