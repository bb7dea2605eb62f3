use Rattle.record_lines.proofs.Unread.{unread_reads}
use Rattle.record_lines.proofs.laws.what_stands_for_unread_lines_is_unread.Goals as goal

pub returns : goal.returns
returns c = unread_reads
