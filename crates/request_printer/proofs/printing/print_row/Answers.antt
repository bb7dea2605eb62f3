use Rattle.std.proofs.Common.{◌≡◌, sym}
use Rattle.std.proofs.lemmas.Result.{IfErr-weaker}
use Rattle.request_printer.specs.declared.error.PrintError.TheVariants.{Memory}
use Rattle.request_printer.specs.Writing.{asked}
use Rattle.request_printer.proofs.Told.{refused, printed, line_refused, not_memory, wants_room, on_ok}
use Rattle.request_printer.proofs.printing.print_row.Goals as goal

pub returns-in-Some-clause-refused : goal.returns-in-Some-clause-refused
returns-in-Some-clause-refused g c = refused _ (asked c.args.id c.args.command.now) (sym c.in-Some.ensures)

pub returns-clause-printed : goal.returns-clause-printed
returns-clause-printed g c =
    on_ok c.print_line.result (λ e f. printed (asked c.args.id c.args.command.now) c.args.word.now c.args.out.now.items
    c.print_line.new.out.items c.requires.word (sym c.in-None.ensures) e f) c.print_line.ensures.line
    c.print_line.ensures.fits

pub returns-clause-refused : goal.returns-clause-refused
returns-clause-refused g c =
    IfErr-weaker c.print_line.result _ _ (λ e h. line_refused e (asked c.args.id c.args.command.now) c.args.word.now c.requires.word
    (sym c.in-None.ensures) h) c.print_line.ensures.refused

pub returns-in-Some-clause-wanted : goal.returns-in-Some-clause-wanted
returns-in-Some-clause-wanted g c = λ e.
    let is : c.in-Some.fault ≡ Memory = cc in
    absurd (not_memory c.in-Some.fault (asked c.args.id c.args.command.now) (sym c.in-Some.ensures) is)

pub returns-clause-wanted : goal.returns-clause-wanted
returns-clause-wanted g c = λ e.
    wants_room (asked c.args.id c.args.command.now) c.args.word.now c.args.out.now c.requires.word (c.print_line.ensures.wanted e)
