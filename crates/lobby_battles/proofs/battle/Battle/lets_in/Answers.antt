use Rattle.std.proofs.Common.{◌≡◌, ◌∙◌, ap, sym, false}
use Rattle.std.specs.Prelude.{◌||◌}
use Rattle.std.specs.Str.{bytes_eq}
use Rattle.std.proofs.lemmas.Map.Text.{is_eq-slice_cmp}
use Rattle.line_words.specs.Table.{same_name}
use Rattle.lobby_model.specs.Battles.{no_password}
use Rattle.lobby_battles.proofs.battle.Battle.lets_in.Goals as goal

pub returns-else-eq : goal.returns-else-eq
returns-else-eq c =
    let closed : same_name c.self.inside.password no_password ≡ false = is_eq-slice_cmp c.self.inside.password no_password
    ∙ ap (λ own. bytes_eq own no_password) (sym c.as_slice-own.ensures.value) ∙ sym c.eq.ensures ∙ c.if-eq.false in
    let same : c.eq-else-eq.result ≡ same_name c.self.inside.password c.in-Some.given.now = c.eq-else-eq.ensures
    ∙ (λ i. bytes_eq (c.as_slice-own.ensures.value i) (c.as_slice.ensures.value i))
    ∙ sym (is_eq-slice_cmp c.self.inside.password c.in-Some.given.now) in
    rw (← c.self.view_is) (rw c.in-Some.is (same ∙ ap (λ b. b || same_name c.self.inside.password c.in-Some.given.now) (sym closed)))

pub returns-in-None : goal.returns-in-None
returns-in-None c =
    rw (← c.self.view_is) (rw c.in-None.is (c.eq-in-None.ensures ∙ ap (λ own. bytes_eq own no_password) c.as_slice-own.ensures.value
    ∙ sym (is_eq-slice_cmp c.self.inside.password no_password)))
