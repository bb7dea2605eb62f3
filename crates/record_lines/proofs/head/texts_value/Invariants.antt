use Rattle.std.proofs.Common.{◌≡◌, map, take}
use Rattle.std.specs.Str.Lossy.{utf8_lossy}
use Rattle.toml.specs.View.{items_view}
use Rattle.record_lines.specs.Head.{text_items}
use Rattle.record_lines.proofs.head.texts_value.Given as goal

abbrev pub invariant-loop-text : goal.invariant-loop-text
invariant-loop-text l = items_view l.values.items ≡ text_items (map utf8_lossy (take l.text-index l.texts))
