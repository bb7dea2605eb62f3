-- A command has one word: that of its place in the table.
use Rattle.std.proofs.Common.{◌≡◌, ℕ, List, [], ◌∷◌, length, refl, sym, ap, subst, ◌∙◌, Bool, true, false, cond, inl}
use Rattle.std.proofs.Common.{inr, Option, Some, arith, rules}
use Rattle.std.specs.Prelude.{codes, nat_eq, IfSome, None}
use Rattle.std.proofs.lemmas.Bool.{and_parts}
use Rattle.command_grammar.specs.declared.command.Command.{Command}
use Rattle.command_grammar.specs.declared.command.Command.TheVariants as command
use Rattle.command_grammar.specs.Forms.{applied, is_same, entry_named, command_named}
use Rattle.command_grammar.specs.Table.{Values, Entry, arguments_of, entries, battle_entries, room_entries, host_entries}
use Rattle.request_printer.specs.Writing.{HasWord}

-- Written by tools/protocol.py of protocol/commands.toml: words.
-- the word of each command; of a line that was not read there is none
abbrev pub word_named : Command → Option (List ℕ)
word_named command.Blank = Some []
word_named (command.Unread fault) = None
word_named (command.Handicap a b) = Some (codes "HANDICAP")
word_named (command.ForceTeamNo a b) = Some (codes "FORCETEAMNO")
word_named (command.ForceAllyNo a b) = Some (codes "FORCEALLYNO")
word_named (command.ForceTeamColor a b) = Some (codes "FORCETEAMCOLOR")
word_named (command.ForceSpectatorMode a) = Some (codes "FORCESPECTATORMODE")
word_named (command.KickFromBattle a) = Some (codes "KICKFROMBATTLE")
word_named (command.Ring a) = Some (codes "RING")
word_named (command.AddBot a b c d) = Some (codes "ADDBOT")
word_named (command.UpdateBot a b c) = Some (codes "UPDATEBOT")
word_named (command.RemoveBot a) = Some (codes "REMOVEBOT")
word_named (command.AddStartRect a b c d e) = Some (codes "ADDSTARTRECT")
word_named (command.RemoveStartRect a) = Some (codes "REMOVESTARTRECT")
word_named (command.SetScriptTags a) = Some (codes "SETSCRIPTTAGS")
word_named (command.RemoveScriptTags a) = Some (codes "REMOVESCRIPTTAGS")
word_named (command.DisableUnits a) = Some (codes "DISABLEUNITS")
word_named (command.EnableUnits a) = Some (codes "ENABLEUNITS")
word_named command.EnableAllUnits = Some (codes "ENABLEALLUNITS")
word_named (command.OpenBattle a b c d e f g h i j k l m) = Some (codes "OPENBATTLE")
word_named (command.JoinBattle a b c) = Some (codes "JOINBATTLE")
word_named (command.JoinBattleAccept a) = Some (codes "JOINBATTLEACCEPT")
word_named (command.JoinBattleDeny a b) = Some (codes "JOINBATTLEDENY")
word_named command.LeaveBattle = Some (codes "LEAVEBATTLE")
word_named (command.UpdateBattleInfo a b c d) = Some (codes "UPDATEBATTLEINFO")
word_named (command.MyBattleStatus a b) = Some (codes "MYBATTLESTATUS")
word_named (command.SayBattle a) = Some (codes "SAYBATTLE")
word_named (command.SayBattleEx a) = Some (codes "SAYBATTLEEX")
word_named command.Ping = Some (codes "PING")
word_named command.Exit = Some (codes "EXIT")
word_named (command.Login a b c d e f) = Some (codes "LOGIN")
word_named (command.MyStatus a) = Some (codes "MYSTATUS")
word_named command.Channels = Some (codes "CHANNELS")
word_named (command.Join a b) = Some (codes "JOIN")
word_named (command.Leave a) = Some (codes "LEAVE")
word_named (command.Say a b) = Some (codes "SAY")
word_named (command.SayEx a b) = Some (codes "SAYEX")
word_named (command.SayPrivate a b) = Some (codes "SAYPRIVATE")

-- End of what is written: words.

-- a command that the table makes under a word has that word
made : {word : List ℕ} {e : Entry} → command_named word ≡ Some e → word ≡ e.word → (xs : Values e.kinds)
    → HasWord (applied e.kinds e.maker xs) word
made {word} {e} found is xs = inr (record { entry = e; named = found; word_is = is; values = xs; made = refl })

has_word : (c : Command) → IfSome (word_named c) (HasWord c)
unfolding entries battle_entries room_entries host_entries
has_word command.Blank = inl (refl, refl)
has_word (command.Unread fault) = tt
has_word c = made refl refl (arguments_of c).values

pub named : (c : Command) (word : List ℕ) → word_named c ≡ Some word → HasWord c word
named c word is = subst (λ o. IfSome o (HasWord c)) is (has_word c)

-- No other entry makes the command

abbrev pub IsNamed : List ℕ → Entry → Type 0
IsNamed name e =
    ((xs : Values e.kinds) → word_named (applied e.kinds e.maker xs) ≡ Some e.word) × (length name ≡ length e.word)

abbrev pub EachWord : List Entry → Type 0
EachWord [] = Unit {0}
EachWord (e ∷ es) = ((xs : Values e.kinds) → word_named (applied e.kinds e.maker xs) ≡ Some e.word) × EachWord es

pub each_word : EachWord entries
unfolding entries battle_entries room_entries host_entries
each_word = search rules

pub same_length : (a b : List ℕ) → is_same a b ≡ true → length a ≡ length b
same_length [] [] h = refl
same_length [] (y ∷ b) h = absurd (let n : ⊥ = cc in n)
same_length (x ∷ a) [] h = absurd (let n : ⊥ = cc in n)
same_length (x ∷ a) (y ∷ b) h = let rest = same_length a b (and_parts (nat_eq x y) (is_same a b) h).1 in omega arith

named_so : (es : List Entry) → EachWord es → (name : List ℕ) (e : Entry) → entry_named es name ≡ Some e
    → (xs : Values e.kinds) → word_named (applied e.kinds e.maker xs) ≡ Some e.word
named_so es h name e named =
    subst (λ o. IfSome o (λ d. (xs : Values d.kinds) → word_named (applied d.kinds d.maker xs) ≡ Some d.word)) named
    (among es h)
  where
    among : (es : List Entry) → EachWord es
        → IfSome (entry_named es name)
        (λ d. (xs : Values d.kinds) → word_named (applied d.kinds d.maker xs) ≡ Some d.word)
    among [] h = tt
    among (d ∷ es) h = by (is_same name d.word) (entry_named es name) (among es h.1)
      where
        by : (t : Bool) (o : Option Entry)
            → IfSome o (λ d. (xs : Values d.kinds) → word_named (applied d.kinds d.maker xs) ≡ Some d.word)
            → IfSome (cond t (Some d) o) (λ d. (xs : Values d.kinds)
            → word_named (applied d.kinds d.maker xs) ≡ Some d.word)
        by true o others = h.0
        by false o others = others

pub word_only : (c : Command) (word : List ℕ) → HasWord c word → word_named c ≡ Some word
word_only c word (inl b) = ap word_named b.0 ∙ ap Some (sym b.1)
word_only c word (inr h) =
    ap word_named h.made ∙ named_so entries each_word word h.entry h.named h.values ∙ ap Some (sym h.word_is)
