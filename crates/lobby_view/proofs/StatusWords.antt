-- Status words fit 32 bits.
use Rattle.std.proofs.Common.{◌≡◌, ℕ, ◌+◌, ◌*◌, ◌/◌, ◌%◌, ◌^◌, ◌<◌, ◌≤◌, Bool, true, false, arith}
use Rattle.std.specs.Prelude.{◌==◌, nat_le, if◌then◌else◌}
use Rattle.std.proofs.lemmas.Bool.{and_from, le-leb}
use Rattle.std.proofs.lemmas.Nat.{mod_below}
use Rattle.reply_kinds.specs.Kinds.{fits}
use Rattle.reply_kinds.specs.Replies.{status_word}
use Rattle.status_bits.specs.Fields.{Field, merge, with_number, number_in}
use Rattle.status_bits.specs.UserWord.{user_table}
use Rattle.status_bits.specs.BattleWord.{battle_table, ready, team, ally, player, handicap, sync, side}

pub word_fits : (n : ℕ) → n ≤ 4294967295 → fits status_word n ≡ true
word_fits n h = and_from (nat_le 0 n) (nat_le n 4294967295) (le-leb 0 n (omega arith)) (le-leb n 4294967295 h)

pub user_merge_fits : (old asked : ℕ) → fits status_word (merge user_table old asked) ≡ true
user_merge_fits old asked =
    let a = mod_below (asked / 2 ^ 0) 2 (omega arith) in
    let b = mod_below (asked / 2 ^ 1) 2 (omega arith) in
    let c = mod_below (old / 2 ^ 2) 8 (omega arith) in
    let d = mod_below (old / 2 ^ 5) 2 (omega arith) in
    let e = mod_below (old / 2 ^ 6) 2 (omega arith) in
    word_fits (merge user_table old asked) (omega arith)

pub battle_merge_fits : (old asked : ℕ) → fits status_word (merge battle_table old asked) ≡ true
battle_merge_fits old asked =
    let a = mod_below (asked / 2 ^ 1) 2 (omega arith) in
    let b = mod_below (asked / 2 ^ 2) 16 (omega arith) in
    let c = mod_below (asked / 2 ^ 6) 16 (omega arith) in
    let d = mod_below (asked / 2 ^ 10) 2 (omega arith) in
    let e = mod_below (old / 2 ^ 11) 128 (omega arith) in
    let f = mod_below (asked / 2 ^ 22) 4 (omega arith) in
    let g = mod_below (asked / 2 ^ 24) 16 (omega arith) in
    word_fits (merge battle_table old asked) (omega arith)

either : (b : Bool) (m n : ℕ) → m ≤ 127 → n < 128 → (if b then m else n) ≤ 127
either true m n h k = h
either false m n h k = omega arith

sum_fits : (a b c d e f g : ℕ) → a ≤ 127 → b ≤ 127 → c ≤ 127 → d ≤ 127 → e ≤ 127 → f ≤ 127 → g ≤ 127
    → 0 + a * 2 ^ 1 + b * 2 ^ 2 + c * 2 ^ 6 + d * 2 ^ 10 + e * 2 ^ 11 + f * 2 ^ 22 + g * 2 ^ 24 ≤ 4294967295
sum_fits a b c d e f g h i j k l m n = omega arith

small : (x width : ℕ) → 0 < width → width ≤ 128 → x % width < 128
small x width h k = let below = mod_below x width h in omega arith

-- one field forced to a number of at most 127
pub forced_fits : (field : Field) (number old : ℕ) → number ≤ 127 → fits status_word (with_number battle_table field number old) ≡ true
forced_fits field number old h =
    word_fits (with_number battle_table field number old) (sum_fits _ _ _ _ _ _ _
    (either (ready.first == field.first) number (number_in ready old) h (small (old / 2 ^ 1) 2 (omega arith) (omega arith)))
    (either (team.first == field.first) number (number_in team old) h (small (old / 2 ^ 2) 16 (omega arith) (omega arith)))
    (either (ally.first == field.first) number (number_in ally old) h (small (old / 2 ^ 6) 16 (omega arith) (omega arith)))
    (either (player.first == field.first) number (number_in player old) h (small (old / 2 ^ 10) 2 (omega arith) (omega arith)))
    (either (handicap.first == field.first) number (number_in handicap old) h (small (old / 2 ^ 11) 128 (omega arith) (omega arith)))
    (either (sync.first == field.first) number (number_in sync old) h (small (old / 2 ^ 22) 4 (omega arith) (omega arith)))
    (either (side.first == field.first) number (number_in side old) h (small (old / 2 ^ 24) 16 (omega arith) (omega arith))))
