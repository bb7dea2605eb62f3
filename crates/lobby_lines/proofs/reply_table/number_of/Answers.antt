use Rattle.lobby_lines.proofs.Numbers.{number_again}
use Rattle.lobby_lines.proofs.reply_table.number_of.Goals as goal

pub returns : goal.returns
returns c = number_again c.args.command
