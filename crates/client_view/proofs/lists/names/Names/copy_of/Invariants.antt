use Rattle.std.proofs.Common.{◌≡◌, take}
use Rattle.client_view.proofs.lists.names.Names.copy_of.Given as goal

abbrev pub invariant-loop-name : goal.invariant-loop-name
invariant-loop-name l = l.copied.items ≡ take l.name-index l.names
