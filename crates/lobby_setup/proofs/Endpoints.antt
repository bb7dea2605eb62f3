-- A text that writes no address says none.
use Rattle.std.proofs.Common.{◌≡◌, ℕ, List, Option, None, Result, Ok, Err, refl, sym, subst}
use Rattle.toml_fields.specs.declared.fault.FieldFault.{FieldFault}
use Rattle.toml_fields.specs.declared.fault.FieldFault.TheVariants.{NotAllowed}
use Rattle.proxy_line.specs.Words.{Finds, IsSocketAddress}
use Rattle.lobby_setup.specs.Written.{IsWritten}

pub no_endpoint : (said : Result (List ℕ) FieldFault) (text bytes : List ℕ) (found : Option (List ℕ × ℕ)) → Ok text ≡ said → bytes ≡ text
    → Finds (IsSocketAddress bytes) found → found ≡ None → IsWritten IsSocketAddress said (Err NotAllowed)
no_endpoint said text bytes found says same finds none =
    subst (λ s. IsWritten IsSocketAddress s (Err NotAllowed)) says (
      refl,
      λ x is.
          let written = finds.complete x (subst (λ b. IsSocketAddress b x) (sym same) is) in absurd (cc),
    )
