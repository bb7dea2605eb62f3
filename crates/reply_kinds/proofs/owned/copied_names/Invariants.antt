use Rattle.std.proofs.Common.{◌≡◌, take}
use Rattle.reply_kinds.proofs.owned.copied_names.Given as goal

abbrev pub invariant-loop-name : goal.invariant-loop-name
invariant-loop-name l = l.copied.items ≡ take l.name-index l.names
