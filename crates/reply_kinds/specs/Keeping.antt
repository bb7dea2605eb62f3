-- What is lent or owned, either way.
use Rattle.std.specs.Prelude.{ℕ, List, [], ◌∷◌, ◌++◌, Option, Some, None}
use Rattle.line_words.specs.declared.lists.Pair.{Pair}
use Rattle.reply_kinds.specs.declared.held.Held.{Held}
use Rattle.reply_kinds.specs.declared.held.Held.TheVariants as held
use Rattle.reply_kinds.specs.declared.held.HeldWord.{HeldWord}
use Rattle.reply_kinds.specs.declared.held.HeldWord.TheVariants as word
use Rattle.reply_kinds.specs.declared.held.HeldText.{HeldText}
use Rattle.reply_kinds.specs.declared.held.HeldText.TheVariants as text
use Rattle.reply_kinds.specs.declared.held.HeldNames.{HeldNames}
use Rattle.reply_kinds.specs.declared.held.HeldNames.TheVariants as names
use Rattle.reply_kinds.specs.declared.held.HeldWords.{HeldWords}
use Rattle.reply_kinds.specs.declared.held.HeldWords.TheVariants as words
use Rattle.reply_kinds.specs.declared.held.HeldPairs.{HeldPairs}
use Rattle.reply_kinds.specs.declared.held.HeldPairs.TheVariants as pairs
use Rattle.reply_kinds.specs.declared.held.HeldOpened.{HeldOpened}
use Rattle.reply_kinds.specs.declared.held.HeldOpened.TheVariants as opened
use Rattle.reply_kinds.specs.declared.opened_battle.OpenedBattle.{OpenedBattle}

abbrev pub kept : {T : Type 0} → Held T → T
kept (held.Lent x) = x.now
kept (held.Owned x) = x

abbrev pub word_of : HeldWord → List ℕ
word_of (word.Lent w) = w
word_of (word.Owned w) = w

abbrev pub text_of : HeldText → List ℕ
text_of (text.Fixed t) = t.now
text_of (text.Lent t) = t.now
text_of (text.Owned t) = t

-- names, and one more behind them, if there is one
abbrev pub with_last : List (List ℕ) → Option (List ℕ) → List (List ℕ)
with_last ns None = ns
with_last ns (Some n) = ns ++ n ∷ []

abbrev pub names_of : HeldNames → List (List ℕ)
names_of (names.Lent ns) = ns.now
names_of (names.LentAndLast ns n) = ns.now ++ n.now ∷ []
names_of (names.Owned ns) = ns

abbrev pub words_of : HeldWords → List (List ℕ)
words_of (words.Lent ws) = ws.now
words_of (words.Owned ws) = ws

abbrev pub pairs_of : HeldPairs → List Pair
pairs_of (pairs.Lent ps) = ps.now
pairs_of (pairs.Owned ps) = ps

abbrev pub opened_of : HeldOpened → OpenedBattle
opened_of (opened.Lent b) = b.now
opened_of (opened.Owned b) = b.value
