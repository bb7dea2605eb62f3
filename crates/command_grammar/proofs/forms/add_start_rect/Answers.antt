use Rattle.command_grammar.proofs.forms.add_start_rect.Goals as goal

pub returns : goal.returns
returns c = rw (c.in_ok-ally_no.ensures.value, c.in_ok-left.ensures.value, c.in_ok-top.ensures.value) c.lower_right.ensures
