-- The table of a file, from what the crate `toml` says of it.
use Rattle.std.proofs.Common.{◌≡◌, ℕ, List, true, false, Some, None, refl, if◌then◌else◌}
use Rattle.std.specs.Str.{is_utf8, IsUtf8}
use Rattle.std.proofs.lemmas.Str.{IsUtf8-from_is_utf8, is_utf8-from_IsUtf8}
use Rattle.toml.specs.Data.{Members}
use Rattle.toml.specs.Parse.{parse_document}
use Rattle.toml_fields.specs.Document.{document}

pub document-read : (bytes : List ℕ) (table : Members) → IsUtf8 bytes
    × (parse_document bytes ≡ Some table) → document bytes ≡ Some table
document-read bytes table read = rw (is_utf8-from_IsUtf8 bytes read.0) read.1

pub document-refused : (bytes : List ℕ) → (IsUtf8 bytes → parse_document bytes ≡ None)
    → document bytes ≡ None
document-refused bytes refused =
    let text = IsUtf8-from_is_utf8 bytes in
    elim (is_utf8 bytes) as (λ b. (b ≡ true → IsUtf8 bytes)
    → (if b then parse_document bytes else None) ≡ None)
    [ true ↦ λ valid. refused (valid refl) | false ↦ λ valid. refl ] text
