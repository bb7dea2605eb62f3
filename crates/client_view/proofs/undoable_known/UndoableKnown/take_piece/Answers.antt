use Rattle.std.proofs.Common.{◌∙◌, ◌++◌, length}
use Rattle.line_framer.specs.Frames.{without_cr}
use Rattle.lobby_view.specs.View.{shown_all}
use Rattle.client_view.proofs.Follows.{read_of}
use Rattle.client_view.proofs.Lines.{none_found, none_shown, none_counted, none_spoilt}
use Rattle.client_view.proofs.undoable_known.UndoableKnown.take_piece.Goals as goal

-- no further line ends
pub returns-then-is_none-clause-known : goal.returns-then-is_none-clause-known
returns-then-is_none-clause-known c =
    let none = none_found c.args.behind.now c.next_end.result c.is_none.result c.next_end.ensures c.is_none.ensures c.if-is_none.true in
    c.in_ok-count.ensures.ok.now
    ∙ none_shown c.args.behind.now none (shown_all c.args.self.now.now (read_of (without_cr (c.args.start.now ++ c.args.end.now))))

pub returns-then-is_none-clause-count : goal.returns-then-is_none-clause-count
returns-then-is_none-clause-count c =
    let none = none_found c.args.behind.now c.next_end.result c.is_none.result c.next_end.ensures c.is_none.ensures c.if-is_none.true in
    c.in_ok-count.ensures.count
    ∙ none_counted c.args.behind.now none (length (read_of (without_cr (c.args.start.now ++ c.args.end.now))))

pub returns-then-is_none-clause-spoilt : goal.returns-then-is_none-clause-spoilt
returns-then-is_none-clause-spoilt c =
    none_spoilt c.args.behind.now (none_found c.args.behind.now c.next_end.result c.is_none.result c.next_end.ensures c.is_none.ensures c.if-is_none.true)
