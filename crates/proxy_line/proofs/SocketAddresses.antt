-- An address has no colon and no space, so the first one behind it parts it from what follows.
use Rattle.std.proofs.Common.{◌≡◌, ℕ, ◌<◌, ◌^◌, ◌||◌, false, List, [], ◌∷◌, Option, Some, None, refl, ap, sym, ◌∙◌, subst, arith, decimal, nat_eq}
use Rattle.line_words.specs.Bytes.{has_byte}
use Rattle.proxy_line.specs.Words.{Finds, IsAddress, IsPort, IsSocketAddress, PartedAt}
use Rattle.proxy_line.proofs.Readings.{finds_none}
use Rattle.proxy_line.proofs.Parts.{lacks-append, lacks_colon, lacks_digits, parted_once}

-- an address lacks each byte that is no dot and that its numbers lack
lacks_address : (m : ℕ) → nat_eq 46 m ≡ false → ((n : ℕ) → n < 2 ^ 8 → has_byte m (decimal n) ≡ false)
    → (text ip : List ℕ) → IsAddress text ip → has_byte m text ≡ false
lacks_address m dot number text (a ∷ b ∷ c ∷ d ∷ []) is =
    let behind_dot : (rest : List ℕ) → has_byte m rest ≡ false → has_byte m (46 ∷ rest) ≡ false
    = λ rest lacks. ap (λ here. here || has_byte m rest) dot ∙ lacks in
    subst (λ t. has_byte m t ≡ false) (sym is.0)
    (lacks-append m (decimal a) _ (number a is.1) (behind_dot _
    (lacks-append m (decimal b) _ (number b is.2) (behind_dot _
    (lacks-append m (decimal c) _ (number c is.3) (behind_dot _ (number d is.4)))))))
lacks_address m dot number text _ is = absurd is

no_colon : (text ip : List ℕ) → IsAddress text ip → has_byte 58 text ≡ false
no_colon = lacks_address 58 refl (λ n small. lacks_colon n (omega (arith, small)))

pub no_space : (text ip : List ℕ) → IsAddress text ip → has_byte 32 text ≡ false
no_space = lacks_address 32 refl (λ n small. lacks_digits 32 n (omega arith) (omega (arith, small)))

module _ (text host rest : List ℕ) (parts : PartedAt 58 text host rest) where
  -- the parts of a socket address are these
  parts_once : (x : List ℕ × ℕ) (is : IsSocketAddress text x) → (host ≡ is.0) × (rest ≡ is.1)
  parts_once x is = parted_once 58 host is.0 parts.first (no_colon is.0 x.0 is.3) (sym parts.whole ∙ is.2)

  address_of : (x : List ℕ × ℕ) → IsSocketAddress text x → IsAddress host x.0
  address_of x is = subst (λ h. IsAddress h x.0) (sym (parts_once x is).0) is.3

  port_of : (x : List ℕ × ℕ) → IsSocketAddress text x → IsPort rest x.1
  port_of x is = subst (λ r. IsPort r x.1) (sym (parts_once x is).1) is.4

  pub no_address : (ip : Option (List ℕ)) → Finds (IsAddress host) ip → ip ≡ None → Finds (IsSocketAddress text) None
  no_address ip finds none = finds_none (IsSocketAddress text) (λ x is.
      let found = finds.complete x.0 (address_of x is) in absurd (cc))

  pub no_port : (port : Option ℕ) → Finds (IsPort rest) port → port ≡ None → Finds (IsSocketAddress text) None
  no_port port finds none = finds_none (IsSocketAddress text) (λ x is.
      let found = finds.complete x.1 (port_of x is) in absurd (cc))

  pub both : (ip : List ℕ) (port : ℕ) → Finds (IsAddress host) (Some ip) → Finds (IsPort rest) (Some port)
      → Finds (IsSocketAddress text) (Some (ip, port))
  both ip port address number = record {
    sound = (host, rest, parts.whole, address.sound, number.sound);
    complete = λ x is.
        let same_ip = address.complete x.0 (address_of x is) in
        let same_port = number.complete x.1 (port_of x is) in
        let at : ip ≡ x.0 = cc in
        let on : port ≡ x.1 = cc in
        ap (λ i. Some (i, port)) at ∙ ap (λ n. Some (x.0, n)) on;
  }
