-- Password words.
use Rattle.std.specs.Prelude.{ℕ, List}
use Rattle.md5.specs.Md5.{md5}
use Rattle.base64.specs.Engines.{standard}
use Rattle.base64.specs.GeneralPurpose.{encode_of}

-- The word of a password: the base64 text of its MD5
abbrev pub word_of : List ℕ → List ℕ
word_of password = encode_of standard (md5 password)
