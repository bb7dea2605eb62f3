use Rattle.std.proofs.Common.{◌∙◌, sym, subst, arith, List, ℕ}
use Rattle.std.specs.Bool.{IsTrue}
use Rattle.line_words.specs.Bytes.{is_word}
use Rattle.battle_rules.proofs.InBattles.{dots_put, dotted_is_word}
use Rattle.battle_rules.proofs.battles.dotted.Goals as goal

pub copy_of-requires : goal.copy_of-requires
copy_of-requires c =
    let text = c.as_slice.ensures.value ∙ dots_put c.args.a c.args.b c.args.c c.args.d _ _ _ _ _ c.new-text.ensures.items
    c.in_ok-put_number.ensures c.in_ok-put_dotted.ensures c.in_ok-put_dotted-2.ensures c.in_ok-put_dotted-3.ensures in
    subst (λ (bytes : List ℕ). IsTrue (is_word bytes)) (sym text)
    (dotted_is_word c.args.a c.args.b c.args.c c.args.d (omega (arith, c.ranges.a.fits)) (omega (arith, c.ranges.b.fits))
    (omega (arith, c.ranges.c.fits)) (omega (arith, c.ranges.d.fits)))

pub returns : goal.returns
returns c =
    c.in_ok-copy_of.ensures ∙ c.as_slice.ensures.value
    ∙ dots_put c.args.a c.args.b c.args.c c.args.d _ _ _ _ _ c.new-text.ensures.items c.in_ok-put_number.ensures
    c.in_ok-put_dotted.ensures c.in_ok-put_dotted-2.ensures c.in_ok-put_dotted-3.ensures
