use Rattle.std.proofs.Common.{◌+◌, drop}
use Rattle.toml.specs.View.{items_view}
use Rattle.account_book.specs.Entries.{descriptions}
use Rattle.account_book.specs.Fields.{shown}
use Rattle.account_book.proofs.Listed.{SoFar}
use Rattle.account_book.proofs.file.add_entries.Given as goal

-- the accounts of the entries so far stand in the two books, and the rest goes on behind them
abbrev pub invariant-loop-k : goal.invariant-loop-k
invariant-loop-k l =
    let describe = descriptions l.contents.format (shown l.contents.default) in
    SoFar (describe (items_view l.contents.entries.now))
    (describe (items_view (drop l.k l.contents.entries.now))) (l.k + 1) l.book l.disabled
