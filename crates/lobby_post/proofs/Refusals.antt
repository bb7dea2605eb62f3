-- What holds in any case holds where a call is refused.
use Rattle.std.specs.Prelude.{Result, Ok, Err, OnErr}

pub on_err : {A E P : Type 0} (r : Result A E) → P → OnErr r P
on_err (Ok a) p = tt
on_err (Err e) p = p
