use Rattle.record_lines.proofs.Masked.{same_account, same_answer, name_stays, hidden_sound}
use Rattle.record_lines.proofs.laws.each_login_is_answered_as_it_was.Goals as goal

pub returns-clause-answers : goal.returns-clause-answers
returns-clause-answers c = same_answer

pub returns-clause-written : goal.returns-clause-written
returns-clause-written c = same_account

pub returns-clause-names : goal.returns-clause-names
returns-clause-names c = name_stays

pub returns-clause-accounts : goal.returns-clause-accounts
returns-clause-accounts c = hidden_sound
