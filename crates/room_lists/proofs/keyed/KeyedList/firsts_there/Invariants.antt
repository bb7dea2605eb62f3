use Rattle.std.proofs.Common.{◌≡◌, ◌<◌, [], ◌++◌, drop, map, length, get_or, false, ℕ, List}
use Rattle.line_words.specs.Table.{is_among}
use Rattle.room_lists.specs.Keyed.{place_of}
use Rattle.room_lists.proofs.Picked.{is_there, picked}
use Rattle.room_lists.proofs.keyed.KeyedList.firsts_there.Given as goal

abbrev pub invariant-loop-key : goal.invariant-loop-key
invariant-loop-key g l =
    let test = is_there g.T.Keyed.key_of l.self in
    let place = λ (word : List ℕ). place_of g.T.Keyed.key_of word l.self in
    let keys = map (λ first. first.now) l.firsts.items in
    record {
      found : keys ++ picked test keys (drop l.key-index l.keys) ≡ picked test [] l.keys;
      met : (word : List ℕ) → place word < length l.self → get_or l.is_met.items (place word) false ≡ is_among word keys;
      places : length l.is_met.items ≡ length l.self;
    }
