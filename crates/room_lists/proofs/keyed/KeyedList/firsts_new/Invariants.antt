use Rattle.std.proofs.Common.{◌≡◌, ◌≤◌, [], ◌++◌, drop, map, length, true, ℕ, List}
use Rattle.line_words.specs.Table.{is_among}
use Rattle.room_lists.proofs.Picked.{is_missing, picked}
use Rattle.room_lists.proofs.Seen.{words_of}
use Rattle.room_lists.proofs.keyed.KeyedList.firsts_new.Given as goal

abbrev pub invariant-loop-item : goal.invariant-loop-item
invariant-loop-item g l =
    let test = is_missing g.T.Keyed.key_of l.self in
    let keys = map (λ first. g.T.Keyed.key_of first.now) l.firsts.items in
    record {
      found : keys ++ picked test keys (drop l.item-index (map g.T.Keyed.key_of l.items)) ≡ picked test [] (map g.T.Keyed.key_of l.items);
      seen : (word : List ℕ) → test word ≡ true → is_among word (words_of l.seen.keys) ≡ is_among word keys;
      few : length keys ≤ l.most;
    }
