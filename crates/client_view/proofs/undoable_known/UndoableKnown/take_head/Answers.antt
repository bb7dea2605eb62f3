use Rattle.std.proofs.Common.{◌≡◌, sym, subst, length}
use Rattle.std.specs.Prelude.{OnOk, IfOk}
use Rattle.reply_kinds.specs.declared.command_word.CommandWord.{CommandWord}
use Rattle.reply_grammar.specs.Lines.{read_arguments}
use Rattle.lobby_view.specs.View.{View, shown_all}
use Rattle.noted_map.specs.Undoable.{Changes}
use Rattle.client_view.specs.Told.{told}
use Rattle.client_view.proofs.undoable_known.UndoableKnown.take_head.Goals as goal

pub returns-in-ClientStatus-clause-ok : goal.returns-in-ClientStatus-clause-ok
returns-in-ClientStatus-clause-ok c =
    subst (λ (k : CommandWord). OnOk c.take_status.result (Changes (λ (v : View). shown_all v (told (read_arguments k c.args.head.arguments.now))) c.args.self.now c.take_status.new.self))
    (sym c.in-ClientStatus.is) c.take_status.ensures.ok

pub returns-in-ClientStatus-clause-count : goal.returns-in-ClientStatus-clause-count
returns-in-ClientStatus-clause-count c =
    subst (λ (k : CommandWord). IfOk c.take_status.result (λ count. count ≡ length (told (read_arguments k c.args.head.arguments.now))))
    (sym c.in-ClientStatus.is) c.take_status.ensures.count

pub returns-in-Said-clause-count : goal.returns-in-Said-clause-count
returns-in-Said-clause-count c =
    subst (λ (k : CommandWord). IfOk c.take_said.result (λ count. count ≡ length (told (read_arguments k c.args.head.arguments.now))))
    (sym c.in-Said.is) c.take_said.ensures.count
