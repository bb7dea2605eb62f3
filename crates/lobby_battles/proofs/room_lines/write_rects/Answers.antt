use Rattle.std.proofs.Common.{◌≡◌, ◌∙◌, ap, sym, ℕ, ◌<◌, [], ◌∷◌, map, length, arith}
use Rattle.std.specs.Prelude.{None, Some}
use Rattle.std.proofs.lemmas.List.{take_all}
use Rattle.room_lists.specs.Room.{Rect}
use Rattle.lobby_model.specs.Battles.{rect_line}
use Rattle.lobby_battles.specs.Recipients.{written}
use Rattle.lobby_battles.proofs.Written.{settled, written_more}
use Rattle.lobby_battles.proofs.RoomLines.{rect_told, rects_told, placed, same_place}
use Rattle.lobby_battles.proofs.room_lines.write_rects.Goals as goal
use Rattle.lobby_battles.proofs.room_lines.write_rects.Goals.{in-Some+in_ok-write_line, in_default}

pub loop-ally-init : goal.loop-ally-init
loop-ally-init c = record { all = λ h. absurd (omega (arith, h)); told = sym c.requires }

pub loop-ally-preserved : goal.loop-ally-preserved
loop-ally-preserved c =
    let within : c.loop-ally.ally < length c.rects-places.result.now = omega (arith, c.type_inv.places, c.loop-ally-test.true) in
    record {
      all = λ h. c.type_inv.places;
      told = rect_told (written c.args.recipient) (written_more c.args.recipient) c.args.post.now c.loop-ally.post c.match-places-from.post c.rects-places.result.now c.loop-ally.ally None within
          c.loop-ally.invariant.told (elim c.match-places-from.branch [
            | in-Some+in_ok-write_line w ↦ w.post-is ∙ w.in_ok-write_line.ensures
                ∙ ap (λ (r : Rect). written c.args.recipient c.loop-ally.post (rect_line c.loop-ally.ally r ∷ [])) w.rect.view_is
                ∙ ap (λ o. written c.args.recipient c.loop-ally.post (map (λ (e : ℕ × Rect). rect_line e.0 e.1) (placed c.loop-ally.ally o)))
                (sym (same_place c.rects-places.result.now c.loop-ally.ally c.from.result None _ (Some w.in-Some.rect) within c.from.ensures w.in-Some.is))
            | in_default w ↦ w.post-is ∙ sym (settled c.args.recipient c.args.post.now c.loop-ally.post _ c.loop-ally.invariant.told)
                ∙ ap (λ o. written c.args.recipient c.loop-ally.post (map (λ (e : ℕ × Rect). rect_line e.0 e.1) (placed c.loop-ally.ally o)))
                (sym (same_place c.rects-places.result.now c.loop-ally.ally c.from.result None _ None within c.from.ensures w.in_default.is))
          ]);
    }

pub returns : goal.returns
returns c =
    let reached : 0 < c.loop-ally.ally = omega (arith, c.loop-ally-test.false) in
    let long : length c.rects-places.result.now ≡ 16 = c.loop-ally.invariant.all reached in
    c.loop-ally.invariant.told
    ∙ ap (λ places. written c.args.recipient c.args.post.now (rects_told places)) (take_all c.loop-ally.ally c.rects-places.result.now
    (omega (arith, long, c.loop-ally-test.false)))
    ∙ ap (λ rects. written c.args.recipient c.args.post.now (map (λ (e : ℕ × Rect). rect_line e.0 e.1) rects)) (sym c.rects-places.ensures)
