use Rattle.std.proofs.lemmas.Grind.{common_steps}
use Rattle.std.proofs.Common.{◌≡◌, ◌<◌, [], take, length, arith}
use Rattle.std.proofs.lemmas.Option.{slice_get-get_or}
use Rattle.std.specs.Prelude.{slice_get, Some}
use Rattle.std.specs.Map.{keys_of}
use Rattle.lobby_lines.specs.Layout.{place, itself}
use Rattle.lobby_lines.proofs.Laying.{next_taken, one_more}
use Rattle.lobby_lines.proofs.views.channel_table.Goals as goal
use Rattle.lobby_lines.proofs.views.channel_table.Goals.{in-Some+in_ok-row+in_ok-push, in_default}

pub loop-k-preserved : goal.loop-k-preserved
loop-k-preserved c =
    let named = c.name_at.ensures.name in
    let below = c.loop-k-test.true in
    let counted = c.len-k-end.ensures in
    elim c.match-name_at.branch [
      | in-Some+in_ok-row+in_ok-push w ↦
          let made = w.in_ok-row.ensures.place in
          let items = w.in_ok-push.ensures.items in
          let is : slice_get (keys_of c.args.channels.now) c.loop-k.k ≡ Some w.in-Some.name.now = grind (arith, common_steps) in
          one_more place itself (take c.loop-k.k (keys_of c.args.channels.now)) _ c.loop-k.rows.items _ c.loop-k.text.items _ w.in-Some.name.now
          (next_taken (keys_of c.args.channels.now) c.loop-k.k w.in-Some.name.now is) c.loop-k.invariant
          (grind (arith, common_steps)) (grind (arith, common_steps))
      | in_default w ↦
          let none = w.in_default in
          let inside : c.loop-k.k < length (keys_of c.args.channels.now) = grind (arith, common_steps) in
          let some = slice_get-get_or (keys_of c.args.channels.now) c.loop-k.k [] inside in
          (grind (arith, common_steps), grind (arith, common_steps))
    ]
