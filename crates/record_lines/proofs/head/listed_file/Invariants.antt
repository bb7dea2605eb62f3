use Rattle.std.proofs.Common.{drop}
use Rattle.toml.specs.View.{items_view}
use Rattle.account_book.specs.Entries.{descriptions}
use Rattle.account_book.specs.Fields.{shown}
use Rattle.record_lines.proofs.Listed.{Made}
use Rattle.record_lines.proofs.head.listed_file.Given as goal

-- the accounts of the entries so far are written
abbrev pub invariant-loop-entry : goal.invariant-loop-entry
invariant-loop-entry l =
    let describe = descriptions l.contents.format (shown l.contents.default) in
    Made (describe (items_view l.contents.entries.now))
    (describe (items_view (drop l.entry-index l.contents.entries.now))) l.made.items
