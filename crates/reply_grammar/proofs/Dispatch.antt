-- A command that is known: what is read behind it.
use Rattle.std.proofs.Common.{◌≡◌, ◌∙◌, ℕ, List, Option, Some, sym, subst, ap, refl}
use Rattle.reply_kinds.specs.declared.command_word.CommandWord.{CommandWord}
use Rattle.reply_kinds.specs.declared.Reply.{Reply}
use Rattle.reply_kinds.specs.Kinds.{Values}
use Rattle.reply_kinds.specs.Replies.{kinds_of}
use Rattle.reply_fields.specs.declared.error.ReadError.{ReadError}
use Rattle.reply_fields.specs.declared.error.ReadError.TheVariants as errors
use Rattle.reply_fields.specs.Fields.{◌>>=◌, Fails}
use Rattle.reply_grammar.specs.Reading.{shaped}
use Rattle.reply_grammar.specs.Lines.{read_arguments, reply_of_values}

then_some : {A B : Type 0} (o : Option A) (f : A → Option B) (x : A) (y : B) → o ≡ Some x → f x ≡ Some y → (o >>= f) ≡ Some y
then_some o f x y is made = rw is made

pub reads_as : (c d : CommandWord) (bytes : List ℕ) (xs : Values (kinds_of d)) (r : Reply) → c ≡ d → shaped (kinds_of d) bytes ≡ Some xs → reply_of_values d xs ≡ r → read_arguments c bytes ≡ Some r
reads_as c d bytes xs r is read made =
    ap (λ (k : CommandWord). read_arguments k bytes) is ∙ then_some (shaped (kinds_of d) bytes) (λ ys. Some (reply_of_values d ys)) xs r read (ap (λ (q : Reply). Some q) made)

fails_then : {A B : Type 0} (e : ReadError) (o : Option A) (f : A → Option B) → Fails e o → Fails e (o >>= f)
fails_then errors.Memory o f h = tt
fails_then errors.Unread o f h = rw h refl

pub fails_as : (c d : CommandWord) (bytes : List ℕ) (e : ReadError) → c ≡ d → Fails e (shaped (kinds_of d) bytes) → Fails e (read_arguments c bytes)
fails_as c d bytes e is h =
    subst (λ (k : CommandWord). Fails e (read_arguments k bytes)) (sym is) (fails_then e (shaped (kinds_of d) bytes) (λ ys. Some (reply_of_values d ys)) h)
