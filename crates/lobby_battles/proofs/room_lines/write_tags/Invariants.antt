use Rattle.std.proofs.Common.{◌≡◌, [], ◌∷◌, map, take}
use Rattle.reply_kinds.specs.declared.Reply.TheVariants as reply
use Rattle.lobby_battles.specs.Recipients.{written}
use Rattle.lobby_battles.proofs.room_lines.write_tags.Given as goal

abbrev pub invariant-loop-pair : goal.invariant-loop-pair
invariant-loop-pair l = l.post ≡ written l.recipient l.initial.post (map (λ t. reply.SetScriptTags (t ∷ [])) (take l.pair-index l.pair-items))
