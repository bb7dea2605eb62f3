-- A line reads as one reply.
use Rattle.std.proofs.Common.{◌≡◌, ◌∙◌, ℕ, List, sym}
use Rattle.reply_kinds.specs.Replies.{Line, ReadsAs}
use Rattle.reply_grammar.proofs.Whole.{alike}

pub same_reply : (line : List ℕ) (one other : Line) → ReadsAs line one → ReadsAs line other → one ≡ other
same_reply line one other a b = alike one other a.id a.fits b.id b.fits (sym a.text ∙ b.text)
