use Rattle.std.proofs.Common.{◌≡◌, ℕ, List, true, false, length, sym, ◌∙◌, subst}
use Rattle.std.specs.Prelude.{Some, None, if◌then◌else◌}
use Rattle.std.proofs.lemmas.Option.{same_Some, none-some}
use Rattle.lobby_post.specs.Dues.{is_long, share_of}
use Rattle.lobby_model.specs.Touched.{is_touched}
use Rattle.lobby_post.specs.Mail.{PutsFirst}
use Rattle.lobby_post.proofs.slot.Slot.put.Goals as goal

-- a share has the bytes of its piece
whole : (bytes share : List ℕ) → Some share ≡ share_of bytes → share ≡ bytes
whole bytes share =
    elim (is_long (length bytes)) as (λ b. Some share ≡ (if b then Some bytes else None) → share ≡ bytes) [
      | true ↦ λ is. same_Some share bytes is
      | false ↦ λ is. absurd (none-some share (sym is))
    ]

pub returns-in-Some-clause-client : goal.returns-in-Some-clause-client
returns-in-Some-clause-client c =
    subst (λ (bytes : List ℕ). PutsFirst c.args.self.now.limit c.args.self.now.due.bytes bytes c.args.self.now.client c.put_long.new.self.client)
    (whole c.args.piece.now c.in-Some.share (sym c.in-Some.is ∙ c.requires.share))
    c.put_long.ensures.client

pub returns-in-Some-clause-touched : goal.returns-in-Some-clause-touched
returns-in-Some-clause-touched c =
    subst (λ (bytes : List ℕ). c.put_long.result ≡ is_touched c.args.self.now.limit bytes c.args.self.now.client)
    (whole c.args.piece.now c.in-Some.share (sym c.in-Some.is ∙ c.requires.share))
    c.put_long.ensures.touched
