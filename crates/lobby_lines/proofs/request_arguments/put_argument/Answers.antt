use Rattle.lobby_lines.proofs.request_arguments.put_argument.Goals as goal

pub returns-in-Word-clause-put : goal.returns-in-Word-clause-put
returns-in-Word-clause-put c = rw (c.in-Word.is) c.put_word.ensures.put

pub returns-in-Word-clause-blamed : goal.returns-in-Word-clause-blamed
returns-in-Word-clause-blamed c = rw (c.in-Word.is) c.put_word.ensures.blamed

pub returns-in-OptionalWord-clause-put : goal.returns-in-OptionalWord-clause-put
returns-in-OptionalWord-clause-put c = rw (c.in-OptionalWord.is) c.put_optional_word.ensures.put

pub returns-in-OptionalWord-clause-blamed : goal.returns-in-OptionalWord-clause-blamed
returns-in-OptionalWord-clause-blamed c = rw (c.in-OptionalWord.is) c.put_optional_word.ensures.blamed

pub returns-in-Name-clause-put : goal.returns-in-Name-clause-put
returns-in-Name-clause-put c = rw (c.in-Name.is) c.put_name.ensures.put

pub returns-in-Name-clause-blamed : goal.returns-in-Name-clause-blamed
returns-in-Name-clause-blamed c = rw (c.in-Name.is) c.put_name.ensures.blamed

pub returns-in-Natural-clause-put : goal.returns-in-Natural-clause-put
returns-in-Natural-clause-put c = rw (c.in-Natural.is) c.put_natural.ensures.put

pub returns-in-Natural-clause-blamed : goal.returns-in-Natural-clause-blamed
returns-in-Natural-clause-blamed c = rw (c.in-Natural.is) c.put_natural.ensures.blamed

pub returns-in-Wide-clause-put : goal.returns-in-Wide-clause-put
returns-in-Wide-clause-put c = rw (c.in-Wide.is) c.put_wide.ensures.put

pub returns-in-Wide-clause-blamed : goal.returns-in-Wide-clause-blamed
returns-in-Wide-clause-blamed c = rw (c.in-Wide.is) c.put_wide.ensures.blamed

pub returns-in-Flag-clause-put : goal.returns-in-Flag-clause-put
returns-in-Flag-clause-put c = rw (c.in-Flag.is) c.put_flag.ensures.put

pub returns-in-Flag-clause-blamed : goal.returns-in-Flag-clause-blamed
returns-in-Flag-clause-blamed c = rw (c.in-Flag.is) c.put_flag.ensures.blamed

pub returns-in-Sentence-clause-put : goal.returns-in-Sentence-clause-put
returns-in-Sentence-clause-put c = rw (c.in-Sentence.is) c.put_sentence.ensures.put

pub returns-in-Sentence-clause-blamed : goal.returns-in-Sentence-clause-blamed
returns-in-Sentence-clause-blamed c = rw (c.in-Sentence.is) c.put_sentence.ensures.blamed

pub returns-in-Text-clause-put : goal.returns-in-Text-clause-put
returns-in-Text-clause-put c = rw (c.in-Text.is) c.put_text.ensures.put

pub returns-in-Text-clause-blamed : goal.returns-in-Text-clause-blamed
returns-in-Text-clause-blamed c = rw (c.in-Text.is) c.put_text.ensures.blamed

pub returns-in-OptionalText-clause-put : goal.returns-in-OptionalText-clause-put
returns-in-OptionalText-clause-put c = rw (c.in-OptionalText.is) c.put_optional_text.ensures.put

pub returns-in-OptionalText-clause-blamed : goal.returns-in-OptionalText-clause-blamed
returns-in-OptionalText-clause-blamed c = rw (c.in-OptionalText.is) c.put_optional_text.ensures.blamed

pub returns-in-LoginFlags-clause-put : goal.returns-in-LoginFlags-clause-put
returns-in-LoginFlags-clause-put c = rw (c.in-LoginFlags.is) c.put_login_flags.ensures.put

pub returns-in-LoginFlags-clause-blamed : goal.returns-in-LoginFlags-clause-blamed
returns-in-LoginFlags-clause-blamed c = rw (c.in-LoginFlags.is) c.put_login_flags.ensures.blamed

pub returns-in-Pairs-clause-put : goal.returns-in-Pairs-clause-put
returns-in-Pairs-clause-put c = rw (c.in-Pairs.is) c.put_pairs.ensures.put

pub returns-in-Pairs-clause-blamed : goal.returns-in-Pairs-clause-blamed
returns-in-Pairs-clause-blamed c = rw (c.in-Pairs.is) c.put_pairs.ensures.blamed

pub returns-in-Words-clause-put : goal.returns-in-Words-clause-put
returns-in-Words-clause-put c = rw (c.in-Words.is) c.put_words.ensures.put

pub returns-in-Words-clause-blamed : goal.returns-in-Words-clause-blamed
returns-in-Words-clause-blamed c = rw (c.in-Words.is) c.put_words.ensures.blamed
