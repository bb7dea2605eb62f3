use Rattle.std.proofs.Common.{◌≡◌, ℕ, suc, true, List, ◌++◌, sym, ◌∙◌, subst, append_assoc}
use Rattle.account_book.specs.Account.{Account}
use Rattle.lobby_model.specs.declared.event.Event.{Event}
use Rattle.lobby_model.specs.declared.schedule.Step.TheVariants as step
use Rattle.lobby_model.specs.Configuration.{Configuration}
use Rattle.lobby_model.specs.Schedule.{World}
use Rattle.lobby_hall.specs.Standing.{Kept, Stands, StandsAfter, is_ready}
use Rattle.lobby_script.specs.Acts.{Takes}
use Rattle.lobby_script.specs.Halls.{Moves}
use Rattle.lobby_script.proofs.Takings.{take_lessens, taken_more}
use Rattle.lobby_script.proofs.orders.take_all.Goals as goal

pub loop-hall-smaller : goal.loop-hall-smaller
loop-hall-smaller c =
    let (settings, accounts, events, world, stands) = c.loop-hall.invariant.standing in
    take_lessens c.loop-hall.hall c.step.new.self c.args.client settings accounts events world stands (sym (c.ready.ensures settings accounts events world stands) ∙ c.loop-hall-test.true) (c.in_ok-step.ensures.ok settings accounts events world stands)

after_one : (hall new : Kept) (c : ℕ) (settings : Configuration) (accounts : List Account) (events : List Event) (world : World) (n : ℕ) → Moves hall settings accounts events (Takes n world c)
    → ((s : Configuration) (a : List Account) (e : List Event) (w : World) → Stands hall s a e w → is_ready w c ≡ true)
    → ((s : Configuration) (a : List Account) (e : List Event) (w : World) → Stands hall s a e w → StandsAfter new s a e w (step.Take c))
    → Moves new settings accounts events (Takes (suc n) world c)
after_one hall new c settings accounts events world n (here, mid, taken, stands) ready goes =
    let next = goes settings accounts (events ++ here) mid stands in
    (here ++ next.0, next.1, taken_more n world mid next.1 c here next.0 taken (ready settings accounts (events ++ here) mid stands) next.2, subst (λ e. Stands new settings accounts e next.1) (append_assoc events here next.0) next.3)

pub loop-hall-preserved : goal.loop-hall-preserved
loop-hall-preserved c =
    let ready = λ (s : Configuration) (a : List Account) (e : List Event) (w : World) (h : Stands c.loop-hall.hall s a e w). sym (c.ready.ensures s a e w h) ∙ c.loop-hall-test.true in record {
      standing =
          let (settings, accounts, events, world, stands) = c.loop-hall.invariant.standing in
          let next = c.in_ok-step.ensures.ok settings accounts events world stands in
          (settings, accounts, events ++ next.0, next.1, next.3);
      taken = λ settings accounts events world stands.
          let so_far = c.loop-hall.invariant.taken settings accounts events world stands in
          (suc so_far.0, after_one c.loop-hall.hall c.step.new.self c.args.client settings accounts events world so_far.0 so_far.1 ready c.in_ok-step.ensures.ok);
    }

pub returns : goal.returns
returns c = λ settings accounts events world stands.
    let so_far = c.loop-hall.invariant.taken settings accounts events world stands in
    let moves = so_far.1 in
    (moves.0, moves.1, (so_far.0, moves.2, sym (c.ready.ensures settings accounts (events ++ moves.0) moves.1 moves.3) ∙ c.loop-hall-test.false), moves.3)
