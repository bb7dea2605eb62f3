use Rattle.lobby_lines.proofs.reply_arguments.put_argument.Goals as goal

pub returns-in-Word-clause-read : goal.returns-in-Word-clause-read
returns-in-Word-clause-read c = rw (c.in-Word.is) c.put_word.ensures.read

pub returns-in-Word-clause-unread : goal.returns-in-Word-clause-unread
returns-in-Word-clause-unread c = rw (c.in-Word.is) c.put_word.ensures.unread

pub returns-in-Name-clause-read : goal.returns-in-Name-clause-read
returns-in-Name-clause-read c = rw (c.in-Name.is) c.put_name.ensures.read

pub returns-in-Name-clause-unread : goal.returns-in-Name-clause-unread
returns-in-Name-clause-unread c = rw (c.in-Name.is) c.put_name.ensures.unread

pub returns-in-Battle-clause-read : goal.returns-in-Battle-clause-read
returns-in-Battle-clause-read c = rw (c.in-Battle.is) c.put_battle.ensures.read

pub returns-in-Battle-clause-unread : goal.returns-in-Battle-clause-unread
returns-in-Battle-clause-unread c = rw (c.in-Battle.is) c.put_battle.ensures.unread

pub returns-in-Status-clause-read : goal.returns-in-Status-clause-read
returns-in-Status-clause-read c = rw (c.in-Status.is) c.put_status.ensures.read

pub returns-in-Status-clause-unread : goal.returns-in-Status-clause-unread
returns-in-Status-clause-unread c = rw (c.in-Status.is) c.put_status.ensures.unread

pub returns-in-Port-clause-read : goal.returns-in-Port-clause-read
returns-in-Port-clause-read c = rw (c.in-Port.is) c.put_port.ensures.read

pub returns-in-Port-clause-unread : goal.returns-in-Port-clause-unread
returns-in-Port-clause-unread c = rw (c.in-Port.is) c.put_port.ensures.unread

pub returns-in-Small-clause-read : goal.returns-in-Small-clause-read
returns-in-Small-clause-read c = rw (c.in-Small.is) c.put_small.ensures.read

pub returns-in-Small-clause-unread : goal.returns-in-Small-clause-unread
returns-in-Small-clause-unread c = rw (c.in-Small.is) c.put_small.ensures.unread

pub returns-in-Wide-clause-read : goal.returns-in-Wide-clause-read
returns-in-Wide-clause-read c = rw (c.in-Wide.is) c.put_wide.ensures.read

pub returns-in-Wide-clause-unread : goal.returns-in-Wide-clause-unread
returns-in-Wide-clause-unread c = rw (c.in-Wide.is) c.put_wide.ensures.unread

pub returns-in-Flag-clause-read : goal.returns-in-Flag-clause-read
returns-in-Flag-clause-read c = rw (c.in-Flag.is) c.put_flag.ensures.read

pub returns-in-Flag-clause-unread : goal.returns-in-Flag-clause-unread
returns-in-Flag-clause-unread c = rw (c.in-Flag.is) c.put_flag.ensures.unread

pub returns-in-OptionalWord-clause-read : goal.returns-in-OptionalWord-clause-read
returns-in-OptionalWord-clause-read c = rw (c.in-OptionalWord.is) c.put_optional.ensures.read

pub returns-in-OptionalWord-clause-unread : goal.returns-in-OptionalWord-clause-unread
returns-in-OptionalWord-clause-unread c = rw (c.in-OptionalWord.is) c.put_optional.ensures.unread

pub returns-in-Words-clause-read : goal.returns-in-Words-clause-read
returns-in-Words-clause-read c = rw (c.in-Words.is) c.put_words.ensures.read

pub returns-in-Words-clause-unread : goal.returns-in-Words-clause-unread
returns-in-Words-clause-unread c = rw (c.in-Words.is) c.put_words.ensures.unread

pub returns-in-Names-clause-read : goal.returns-in-Names-clause-read
returns-in-Names-clause-read c = rw (c.in-Names.is) c.put_names.ensures.read

pub returns-in-Names-clause-unread : goal.returns-in-Names-clause-unread
returns-in-Names-clause-unread c = rw (c.in-Names.is) c.put_names.ensures.unread

pub returns-in-Sentence-clause-read : goal.returns-in-Sentence-clause-read
returns-in-Sentence-clause-read c = rw (c.in-Sentence.is) c.put_sentence.ensures.read

pub returns-in-Sentence-clause-unread : goal.returns-in-Sentence-clause-unread
returns-in-Sentence-clause-unread c = rw (c.in-Sentence.is) c.put_sentence.ensures.unread

pub returns-in-NextSentence-clause-read : goal.returns-in-NextSentence-clause-read
returns-in-NextSentence-clause-read c = rw (c.in-NextSentence.is) c.put_next_sentence.ensures.read

pub returns-in-NextSentence-clause-unread : goal.returns-in-NextSentence-clause-unread
returns-in-NextSentence-clause-unread c = rw (c.in-NextSentence.is) c.put_next_sentence.ensures.unread

pub returns-in-Text-clause-read : goal.returns-in-Text-clause-read
returns-in-Text-clause-read c = rw (c.in-Text.is) c.put_text.ensures.read

pub returns-in-Text-clause-unread : goal.returns-in-Text-clause-unread
returns-in-Text-clause-unread c = rw (c.in-Text.is) c.put_text.ensures.unread

pub returns-in-Pairs-clause-read : goal.returns-in-Pairs-clause-read
returns-in-Pairs-clause-read c = rw (c.in-Pairs.is) c.put_pairs.ensures.read

pub returns-in-Pairs-clause-unread : goal.returns-in-Pairs-clause-unread
returns-in-Pairs-clause-unread c = rw (c.in-Pairs.is) c.put_pairs.ensures.unread
