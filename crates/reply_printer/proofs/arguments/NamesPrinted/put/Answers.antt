use Rattle.std.proofs.Common.{vec_capacity}
use Rattle.std.specs.Prelude.{option_copied}
use Rattle.std.proofs.lemmas.Result.{IfOk-equal, on_err_weaker}
use Rattle.reply_printer.proofs.Kept.{on_refusal}
use Rattle.reply_printer.proofs.Parted.{put_parted, first_lack, last_lacks}
use Rattle.reply_printer.proofs.arguments.NamesPrinted.put.Goals as goal

pub returns-clause-ok : goal.returns-clause-ok
returns-clause-ok c =
    IfOk-equal _ _ _ _ c.put_last_name.ensures.ok (rw c.in_ok-put_names.ensures.ok (put_parted c.args.out.now.items c.parts.result.0.now (option_copied c.parts.result.1) c.args.self.now c.parts.ensures))

pub returns-in_err-put_names-clause-wanted : goal.returns-in_err-put_names-clause-wanted
returns-in_err-put_names-clause-wanted c =
    on_refusal c.from_residual.result (first_lack c.args.out.now.items c.parts.result.0.now (option_copied c.parts.result.1)
    c.args.self.now (vec_capacity c.args.out.now) c.parts.ensures c.in_err-put_names.ensures.wanted)

pub returns-clause-wanted : goal.returns-clause-wanted
returns-clause-wanted c =
    on_err_weaker c.put_last_name.result
    (last_lacks c.args.out.now.items c.put_names.new.out.items c.parts.result.0.now (option_copied c.parts.result.1)
    c.args.self.now (vec_capacity c.put_names.new.out) (vec_capacity c.args.out.now) c.parts.ensures c.in_ok-put_names.ensures.ok
    c.in_ok-put_names.ensures.room) c.put_last_name.ensures.wanted
