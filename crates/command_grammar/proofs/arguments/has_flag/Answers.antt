use Rattle.std.proofs.Common.{sym, ap, ◌∙◌, refl}
use Rattle.std.specs.Prelude.{codes, ◌||◌}
use Rattle.line_words.specs.Table.{is_among}
use Rattle.command_grammar.specs.Readers.{words_in}
use Rattle.command_grammar.proofs.Sequences.{no_words, words_next}
use Rattle.command_grammar.proofs.Checks.{flags_among}
use Rattle.command_grammar.proofs.arguments.has_flag.Goals as goal

pub loop-flag-init : goal.loop-flag-init
loop-flag-init c = rw (c.new-left.ensures) (flags_among c.args.flags.now)

pub returns-then-is_flag : goal.returns-then-is_flag
returns-then-is_flag c =
    sym (ap (λ ws. is_among (codes "b") ws) (words_next c.in-Some.ensures.word)
    ∙ ap (λ b. b || is_among (codes "b") (words_in c.next_word.new.self)) (sym c.is_flag.ensures ∙ c.if-is_flag.true))
    ∙ c.loop-flag.invariant

pub loop-flag-preserved : goal.loop-flag-preserved
loop-flag-preserved c =
    sym (ap (λ ws. is_among (codes "b") ws) (words_next c.in-Some.ensures.word)
    ∙ ap (λ b. b || is_among (codes "b") (words_in c.next_word.new.self)) (sym c.is_flag.ensures ∙ c.if-is_flag.false))
    ∙ c.loop-flag.invariant

pub returns : goal.returns
returns c =
    sym (ap (λ ws. is_among (codes "b") ws) (no_words c.loop-flag.left (c.in_default.ensures.none.0 refl))) ∙ c.loop-flag.invariant
