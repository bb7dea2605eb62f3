use Rattle.std.proofs.Common.{refl, sym, subst}
use Rattle.reply_kinds.specs.Replies.{Line, ReadsAs, line_text}
use Rattle.reply_grammar.proofs.Whole.{alike}
use Rattle.reply_grammar.proofs.laws.each_reads_alone.Goals as goal

pub returns : goal.returns
returns c id reply small fits other = (
  (λ reads. sym (alike (id, reply) other small fits reads.id reads.fits reads.text)),
  (λ is. subst (λ (x : Line). ReadsAs (line_text id reply) x) (sym is) (record { id = small; fits = fits; text = refl })),
)
