use Rattle.std.proofs.Common.{◌≡◌, refl}
use Rattle.reply_kinds.specs.declared.Reply.TheVariants as reply
use Rattle.client_view.specs.Told.{IsNoLogin}
use Rattle.client_view.proofs.undoable_known.UndoableKnown.fold.Goals as goal

pub fold-requires : goal.fold-requires
fold-requires c =
    elim c.args.reply.now as (λ r. c.args.reply.now ≡ r → IsNoLogin r) [
      | reply.Accepted user ↦ λ e. absurd (c.in_default.not-Accepted user e)
      | r ↦ λ e. tt
    ] refl
