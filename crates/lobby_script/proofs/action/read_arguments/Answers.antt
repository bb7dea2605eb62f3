use Rattle.std.proofs.Common.{◌≡◌, codes, sym, true, List, ℕ}
use Rattle.std.specs.Str.{bytes_eq}
use Rattle.std.proofs.lemmas.Result.{IfOk-weaker}
use Rattle.std.proofs.lemmas.Slice.Eq.{bytes_eq-Decides}
use Rattle.lobby_script.specs.Actions.{IsAccount, IsLimit, IsMotd, IsOpen, IsPlain, IsRead, IsSend}
use Rattle.lobby_script.specs.declared.action.Order.TheVariants as order
use Rattle.lobby_script.proofs.ActionLemmas.{found, account_is, account_only, motd_is, motd_only, limit_is, limit_only, open_is, open_only, send_is, send_only, take_is, take_only, all_is, all_only, read_is, read_only, shut_is, shut_only, show_is, show_only}
use Rattle.lobby_script.proofs.action.read_arguments.Goals as goal

the_verb : (verb name : List ℕ) → true ≡ bytes_eq verb name → verb ≡ name
the_verb verb name h = (bytes_eq-Decides verb name).0 (sym h)

pub returns-then-eq : goal.returns-then-eq
returns-then-eq c = IfOk-weaker c.account.result _ _ (λ o. found (IsAccount c.args.text.now) c.args.verb.now (codes "account") c.args.text.now o (the_verb _ _ c.if-eq.ensures) (account_is c.args.text.now) (account_only c.args.text.now)) c.account.ensures

pub returns-then-eq-2 : goal.returns-then-eq-2
returns-then-eq-2 c = IfOk-weaker c.motd.result _ _ (λ o. found (IsMotd c.args.text.now) c.args.verb.now (codes "motd") c.args.text.now o (the_verb _ _ c.if-eq-2.ensures) (motd_is c.args.text.now) (motd_only c.args.text.now)) c.motd.ensures

pub returns-then-eq-3 : goal.returns-then-eq-3
returns-then-eq-3 c = found (IsLimit c.args.text.now) c.args.verb.now (codes "limit") c.args.text.now c.limit.result (the_verb _ _ c.if-eq-3.ensures) (limit_is c.args.text.now) (limit_only c.args.text.now) c.limit.ensures

pub returns-then-eq-4 : goal.returns-then-eq-4
returns-then-eq-4 c = found (IsOpen c.args.text.now) c.args.verb.now (codes "open") c.args.text.now c.open.result (the_verb _ _ c.if-eq-4.ensures) (open_is c.args.text.now) (open_only c.args.text.now) c.open.ensures

pub returns-then-eq-5 : goal.returns-then-eq-5
returns-then-eq-5 c = IfOk-weaker c.send.result _ _ (λ o. found (IsSend c.args.text.now) c.args.verb.now (codes "send") c.args.text.now o (the_verb _ _ c.if-eq-5.ensures) (send_is c.args.text.now) (send_only c.args.text.now)) c.send.ensures

pub returns-then-eq-6 : goal.returns-then-eq-6
returns-then-eq-6 c = found (IsPlain c.args.text.now order.Take) c.args.verb.now (codes "take") c.args.text.now c.plain.result (the_verb _ _ c.if-eq-6.ensures) (take_is c.args.text.now) (take_only c.args.text.now) c.plain.ensures

pub returns-then-eq-7 : goal.returns-then-eq-7
returns-then-eq-7 c = found (IsPlain c.args.text.now order.All) c.args.verb.now (codes "all") c.args.text.now c.plain-then-eq-7.result (the_verb _ _ c.if-eq-7.ensures) (all_is c.args.text.now) (all_only c.args.text.now) c.plain-then-eq-7.ensures

pub returns-then-eq-8 : goal.returns-then-eq-8
returns-then-eq-8 c = found (IsRead c.args.text.now) c.args.verb.now (codes "read") c.args.text.now c.read.result (the_verb _ _ c.if-eq-8.ensures) (read_is c.args.text.now) (read_only c.args.text.now) c.read.ensures

pub returns-then-eq-9 : goal.returns-then-eq-9
returns-then-eq-9 c = found (IsPlain c.args.text.now order.Shut) c.args.verb.now (codes "shut") c.args.text.now c.plain-then-eq-9.result (the_verb _ _ c.if-eq-9.ensures) (shut_is c.args.text.now) (shut_only c.args.text.now) c.plain-then-eq-9.ensures

pub returns-then-eq-10 : goal.returns-then-eq-10
returns-then-eq-10 c = found (IsPlain c.args.text.now order.Show) c.args.verb.now (codes "show") c.args.text.now c.plain-then-eq-10.result (the_verb _ _ c.if-eq-10.ensures) (show_is c.args.text.now) (show_only c.args.text.now) c.plain-then-eq-10.ensures
