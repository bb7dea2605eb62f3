-- Laws of tests that std does not state in these forms.
use Rattle.std.proofs.Common.{◌≡◌, refl, Bool, true, false, not}
use Rattle.std.specs.Prelude.{◌||◌, ◌&&◌}

pub and_neither : (a b c : Bool) → ((a && not b) && not c) ≡ (a && not (b || c))
and_neither true true c = refl
and_neither true false c = refl
and_neither false b c = refl

pub or_again : (a b : Bool) → (a || b) ≡ ((a || b) || a)
or_again true b = refl
or_again false true = refl
or_again false false = refl

pub neither : (a b : Bool) → not (a || b) ≡ (not a && not b)
neither true b = refl
neither false b = refl
