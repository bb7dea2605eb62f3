-- The arguments of each command keep their kinds and fit into the rest of the line that they are read from.
use Rattle.std.proofs.Common.{◌≡◌, ℕ, ◌≤◌, List, [], ◌∷◌, length, refl, sym, ap, subst, ◌∙◌, Bool, true, false, cond, inl, inr, arith, rules}
use Rattle.std.specs.Prelude.{◌&&◌, IsTrue, IfSome, Option, Some, None}
use Rattle.std.proofs.lemmas.Bool.{and_from}
use Rattle.line_words.specs.Bytes.{is_text}
use Rattle.command_grammar.specs.declared.command.Command.{Command}
use Rattle.command_grammar.specs.Forms.{applied, is_same, entry_named, command_named, Form}
use Rattle.command_grammar.specs.Kinds.{fits, all_fit, keeps_kinds}
use Rattle.command_grammar.specs.Sizes.{sizes_of, argument_bytes}
use Rattle.command_grammar.specs.Table.{Kind, Values, Arguments, Entry, entries, battle_entries, room_entries, host_entries, given, arguments_of}
use Rattle.command_grammar.proofs.Taken.{IsUnread, EachFits, row_taken}

-- the arguments of a command that an entry makes are the values that it is made of
abbrev pub Again : Entry → Type 0
Again e = (xs : Values e.kinds) → arguments_of (applied e.kinds e.maker xs) ≡ given e.kinds xs

abbrev EachAgain : List Entry → Type 0
EachAgain [] = Unit {0}
EachAgain (e ∷ es) = Again e × EachAgain es

each_again : EachAgain entries
unfolding entries battle_entries room_entries host_entries
each_again = search rules

again : (es : List Entry) → EachAgain es → (name : List ℕ) → IfSome (entry_named es name) Again
again [] h name = tt
again (e ∷ es) h name = by (is_same name e.word) (entry_named es name) (again es h.1 name)
  where
    by : (t : Bool) (o : Option Entry) → IfSome o Again → IfSome (cond t (Some e) o) Again
    by true o others = h.0
    by false o others = others

pub entry_again : (name : List ℕ) (e : Entry) → command_named name ≡ Some e → Again e
entry_again name e named = subst (λ o. IfSome o Again) named (again entries each_again name)

all_fit_after : (before : Bool) (ks : List Kind) (xs : Values ks) → IsTrue before → EachFits ks xs → IsTrue (all_fit before ks xs)
all_fit_after before [] xs b h = b
all_fit_after before (k ∷ ks) xs b h = all_fit_after (before && fits k xs.0) ks xs.1 (and_from before (fits k xs.0) b h.0) h.1

-- arguments of their kinds, of so many bytes at most
pub record Bounded (c : Command) (most : ℕ) : Type 0 where
  pub kinds : IsTrue (keeps_kinds c)
  pub bytes : argument_bytes c ≤ most

pub unread_bounded : {c : Command} {most : ℕ} → IsUnread c → Bounded c most
unread_bounded {c} {most} f = subst (λ d. Bounded d most) (sym f.1) (record { kinds = refl; bytes = omega arith })

form_bounded : (o : Option Entry) → IfSome o Again → (rest : List ℕ) (c : Command) → IsTrue (is_text rest) → Form o rest c → Bounded c (length rest)
form_bounded None a rest c h m = unread_bounded (_, m)
form_bounded (Some e) a rest c h m = elim (row_taken e.kinds e.maker rest c h m) [
  | inl f ↦ unread_bounded f
  | inr t ↦
      let is : given e.kinds t.values ≡ arguments_of c = sym (ap arguments_of t.made ∙ a t.values) in
      record {
        kinds = subst (λ (a : Arguments). IsTrue (all_fit true a.kinds a.values)) is (all_fit_after true e.kinds t.values refl t.fit);
        bytes = subst (λ (a : Arguments). sizes_of a.kinds a.values ≤ length rest) is t.room;
      }
]

-- what a word and the rest behind it make
pub named_bounded : (name rest : List ℕ) (c : Command) → IsTrue (is_text rest) → Form (command_named name) rest c → Bounded c (length rest)
named_bounded name rest c h m = form_bounded (command_named name) (again entries each_again name) rest c h m
