use Rattle.std.proofs.Common.{◌≡◌, ◌∙◌, ◌+◌, ◌∷◌, ◌++◌, List, ℕ, ap, sym, subst, length, take, drop, ◌-◌, true, false}
use Rattle.std.specs.Prelude.{IfOk}
use Rattle.std.proofs.lemmas.List.{take_rest}
use Rattle.client_view.specs.Following.{Following, TookIn, HasNew}
use Rattle.client_view.proofs.Follows.{spoilt_follows}
use Rattle.client_view.proofs.Feeding.{parted}
use Rattle.client_view.proofs.view.View.feed.Goals as goal

pub returns-then-self-clause-too_long : goal.returns-then-self-clause-too_long
returns-then-self-clause-too_long c = λ _.
    let met : c.args.self.now.spoilt ≡ true = sym (ap (λ (f : Following). f.spoilt) c.self.view_is) ∙ c.if-self.true in
    (λ bytes followed. spoilt_follows c.args.self.now bytes c.args.piece.now followed met, met)

pub returns-in-Some-clause-ok : goal.returns-in-Some-clause-ok
returns-in-Some-clause-ok c =
    let piece = c.args.piece.now in
    let end = c.in-Some.end in
    let whole : take end piece ++ 10 ∷ take (length piece - (end + 1)) (drop (end + 1) piece) ≡ piece =
    ap (λ (xs : List ℕ). take end piece ++ 10 ∷ xs) (take_rest piece (end + 1)) ∙ parted piece end c.in-Some.ensures in
    subst (λ (p : List ℕ). IfOk c.feed_lines.result (λ count. TookIn c.args.self.now p c.feed_lines.new.self × (c.feed_lines.new.self.spoilt ≡ false) × HasNew c.args.self.now p count))
    whole c.feed_lines.ensures.ok
