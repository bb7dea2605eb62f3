use Rattle.std.proofs.Common.{◌≡◌, ◌∙◌, ap, sym, subst, map, not, length, is_some, Vec, Global}
use Rattle.std.specs.Prelude.{ℕ, List, nat_lt, Option, IfSome}
use Rattle.std.specs.Borrow.{Bor}
use Rattle.line_words.specs.declared.kinds.words.WordBuf.{WordBuf}
use Rattle.std.proofs.lemmas.List.{map-id}
use Rattle.room_lists.specs.Units.{with_units, words_new}
use Rattle.room_lists.proofs.Listed.{new_alone, with_units_are}
use Rattle.room_lists.proofs.units.Units.words_new.Goals as goal

pub returns-in_ok-copies_of_lent-in-Some-clause-alike : goal.returns-in_ok-copies_of_lent-in-Some-clause-alike
returns-in_ok-copies_of_lent-in-Some-clause-alike c =
    let firsts : map (λ (first : Bor WordBuf). first.now) c.in-Some.new.items
    ≡ words_new (map (λ (unit : List ℕ). unit) c.self.inside.units) (map (λ (word : List ℕ). word) c.args.words.now) =
    subst (λ (new : Option (Vec (Bor WordBuf) Global)). IfSome new (λ new. map (λ first. first.now) new.items
    ≡ words_new (map (λ (unit : List ℕ). unit) c.self.inside.units) (map (λ (word : List ℕ). word) c.args.words.now)))
    c.in-Some.is c.in_ok-new.ensures.new in
    let is : c.new.result ≡ words_new c.args.self.now c.args.words.now =
    c.new.ensures ∙ c.in_ok-copies_of_lent-in-Some.ensures ∙ ap (map (λ (first : Bor WordBuf). first.now)) c.deref.ensures.value ∙ firsts
    ∙ ap (λ (us : List (List ℕ)). words_new us (map (λ (word : List ℕ). word) c.args.words.now)) (map-id c.self.inside.units ∙ c.self.view_is)
    ∙ ap (words_new c.args.self.now) (map-id c.args.words.now) in
    ap (with_units c.args.self.now) is ∙ new_alone c.args.words.now c.args.self.now

pub returns-in_ok-copies_of_lent-in-Some-clause-room : goal.returns-in_ok-copies_of_lent-in-Some-clause-room
returns-in_ok-copies_of_lent-in-Some-clause-room c =
    sym (ap is_some c.in-Some.is) ∙ c.in_ok-new.ensures.room
    ∙ ap (λ (us : List (List ℕ)). not (nat_lt 1024 (length us)))
    (with_units_are c.self.inside.units c.args.words.now ∙ ap (λ (us : List (List ℕ)). with_units us c.args.words.now) c.self.view_is)

pub returns-in-None-clause-room : goal.returns-in-None-clause-room
returns-in-None-clause-room c =
    sym (ap is_some c.in-None.is) ∙ c.in_ok-new.ensures.room
    ∙ ap (λ (us : List (List ℕ)). not (nat_lt 1024 (length us)))
    (with_units_are c.self.inside.units c.args.words.now ∙ ap (λ (us : List (List ℕ)). with_units us c.args.words.now) c.self.view_is)
