-- What keeps a row from being read back, of its first argument and of those behind it.
use Rattle.std.proofs.Common.{◌≡◌, List, [], ◌∷◌, length, refl, Bool, true, false, Some, None}
use Rattle.std.specs.Prelude.{◌&&◌, ◌||◌, not, nat_le}
use Rattle.line_words.specs.Kinds.{is_wide}
use Rattle.command_grammar.specs.Table as kind
use Rattle.command_grammar.specs.Table.{Kind, Value, Values}
use Rattle.request_printer.specs.Faults.{in_range, all_listed, all_absent, has_gap}

out_of_range : (ks : List Kind) (xs : Values ks) → in_range false ks xs ≡ false
out_of_range [] xs = refl
out_of_range (kind.Natural high ∷ ks) xs = out_of_range ks xs.1
out_of_range (kind.Wide ∷ ks) xs = out_of_range ks xs.1
out_of_range (k ∷ ks) xs = out_of_range ks xs.1

range_by : (t : Bool) (ks : List Kind) (xs : Values ks) → in_range t ks xs ≡ (t && in_range true ks xs)
range_by true ks xs = refl
range_by false ks xs = out_of_range ks xs

pub range_first : (k : Kind) (x : Value k) (ks : List Kind) (xs : Values ks)
    → in_range true (k ∷ ks) (x, xs) ≡ (in_range true (k ∷ []) (x, tt) && in_range true ks xs)
range_first (kind.Natural high) x ks xs = range_by (nat_le x high) ks xs
range_first kind.Wide x ks xs = range_by (is_wide x) ks xs
range_first k x ks xs = refl

unlisted : (ks : List Kind) (xs : Values ks) → all_listed false ks xs ≡ false
unlisted [] xs = refl
unlisted (kind.Pairs ∷ ks) xs = unlisted ks xs.1
unlisted (kind.Words ∷ ks) xs = unlisted ks xs.1
unlisted (k ∷ ks) xs = unlisted ks xs.1

listed_by : (t : Bool) (ks : List Kind) (xs : Values ks) → all_listed t ks xs ≡ (t && all_listed true ks xs)
listed_by true ks xs = refl
listed_by false ks xs = unlisted ks xs

pub listed_first : (k : Kind) (x : Value k) (ks : List Kind) (xs : Values ks)
    → all_listed true (k ∷ ks) (x, xs) ≡ (all_listed true (k ∷ []) (x, tt) && all_listed true ks xs)
listed_first kind.Pairs x ks xs = listed_by (nat_le 1 (length x)) ks xs
listed_first kind.Words x ks xs = listed_by (nat_le 1 (length x)) ks xs
listed_first k x ks xs = refl

pub gap_first : (k : Kind) (x : Value k) (ks : List Kind) (xs : Values ks)
    → has_gap (k ∷ ks) (x, xs)
    ≡ ((has_gap (k ∷ kind.Word ∷ []) (x, ([], tt)) && not (all_absent ks xs)) || has_gap ks xs)
gap_first kind.OptionalWord None ks xs = by (all_absent ks xs) (has_gap ks xs)
  where
    by : (t g : Bool) → ((not t && true) || g) ≡ ((true && not t) || g)
    by true g = refl
    by false g = refl
gap_first kind.OptionalWord (Some w) ks xs = by (all_absent ks xs) (has_gap ks xs)
  where
    by : (t g : Bool) → ((not t && false) || g) ≡ ((false && not t) || g)
    by true g = refl
    by false g = refl
gap_first k x ks xs = refl
