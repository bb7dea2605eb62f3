-- The fields that are read are those of the reply.
use Rattle.std.proofs.Common.{◌≡◌, ◌++◌, ℕ, List, [], ◌∷◌, length, refl, sym, ap, subst, ◌∙◌, append_assoc, cond}
use Rattle.std.specs.Prelude.{Option, Some, None, Bool, true, false, ◌==◌}
use Rattle.std.proofs.lemmas.List.{append-nil}
use Rattle.lobby_lines.specs.Layout.{IsTable}
use Rattle.reply_kinds.specs.declared.command_word.CommandWord.{CommandWord}
use Rattle.reply_kinds.specs.declared.command_word.CommandWord.TheVariants as command
use Rattle.reply_kinds.specs.Kinds.{Kind, Value, Values}
use Rattle.reply_kinds.specs.Replies.{kinds_of, command_of, Line, ReadsAs}
use Rattle.reply_fields.specs.Fields.{◌>>=◌, if_end}
use Rattle.reply_grammar.specs.Reading.{field, fields, shaped}
use Rattle.reply_grammar.specs.Lines.{read_arguments, read_line, reply_of_values}
use Rattle.reply_grammar.specs.Heads.{with_id}
use Rattle.reply_grammar.proofs.Behind.{reads_reply, reads_none}
use Rattle.lobby_lines.specs.declared.fields.FieldRow.{FieldRow}
use Rattle.lobby_lines.specs.declared.fields.HeadRow.{HeadRow}
use Rattle.lobby_lines.specs.Fields.{Field, Laid, laid, Adds, field_row, field_shown}
use Rattle.lobby_lines.specs.Reading.{seen_from, TookAll}
use Rattle.lobby_lines.specs.Replies.{shown, all_shown, fields_of, numbered, IdIs, HeadOf}

-- reading fields shows the values that are read
seen_shown : (done : List Field) (ks : List Kind) (bytes : List ℕ)
    → seen_from done ks bytes ≡ (fields ks bytes >>= λ x. if_end (done ++ all_shown ks x.0) x.1)
seen_shown done [] bytes = ap (λ (d : List Field). if_end d bytes) (sym (append-nil done))
seen_shown done (k ∷ ks) bytes = by (field k bytes) (λ x. seen_shown (done ++ shown k x.0) ks x.1)
  where
    both : Value k → Values ks × List ℕ → Values (k ∷ ks) × List ℕ
    both x y = ((x, y.0), y.1)

    seen : Value k × List ℕ → List Field × List ℕ
    seen x = (shown k x.0, x.1)

    then : (x : Value k) (o : Option (Values ks × List ℕ))
        → (o >>= λ y. if_end ((done ++ shown k x) ++ all_shown ks y.0) y.1)
        ≡ ((o >>= λ y. Some (both x y)) >>= λ z. if_end (done ++ (shown k z.0.0 ++ all_shown ks z.0.1)) z.1)
    then x None = refl
    then x (Some y) = ap (λ (d : List Field). if_end d y.1) (append_assoc done (shown k x) (all_shown ks y.0))

    by : (o : Option (Value k × List ℕ))
        → ((x : Value k × List ℕ) → seen_from (done ++ shown k x.0) ks x.1 ≡ (fields ks x.1 >>= λ y. if_end ((done ++ shown k x.0) ++ all_shown ks y.0) y.1))
        → ((o >>= λ x. Some (seen x)) >>= λ x. seen_from (done ++ x.0) ks x.1)
        ≡ ((o >>= λ x. fields ks x.1 >>= λ y. Some (both x.0 y)) >>= λ z. if_end (done ++ (shown k z.0.0 ++ all_shown ks z.0.1)) z.1)
    by None more = refl
    by (Some x) more = more x ∙ then x.0 (fields ks x.1)

end_map : {A B : Type 0} (f : A → B) (x : A) (rest : List ℕ) → if_end (f x) rest ≡ (if_end x rest >>= λ y. Some (f y))
end_map f x rest = by (length rest == 0)
  where
    by : (t : Bool) → cond t (Some (f x)) None ≡ (cond t (Some x) None >>= λ y. Some (f y))
    by true = refl
    by false = refl

-- the fields of all arguments
pub all_seen : (ks : List Kind) (bytes : List ℕ) → seen_from [] ks bytes ≡ (shaped ks bytes >>= λ xs. Some (all_shown ks xs))
unfolding shaped
all_seen ks bytes = seen_shown [] ks bytes ∙ by (fields ks bytes)
  where
    by : (o : Option (Values ks × List ℕ)) → (o >>= λ x. if_end (all_shown ks x.0) x.1) ≡ ((o >>= λ x. if_end x.0 x.1) >>= λ xs. Some (all_shown ks xs))
    by None = refl
    by (Some x) = end_map (all_shown ks) x.0 x.1

-- those of the reply that they make
made_shown : (c : CommandWord) (xs : Values (kinds_of c)) → fields_of (reply_of_values c xs) ≡ all_shown (kinds_of c) xs
made_shown command.TasServer xs = refl
made_shown c xs = refl

made_word : (c : CommandWord) (xs : Values (kinds_of c)) → command_of (reply_of_values c xs) ≡ c
made_word command.TasServer xs = refl
made_word c xs = refl

-- a line that reads as a reply with this id and command word, whose fields were added to none
pub record Told (line : List ℕ) (id : Option ℕ) (c : CommandWord) (new : Laid) : Type 0 where
  pub pair : Line
  pub reads : ReadsAs line pair
  pub id_is : pair.0 ≡ id
  pub word : command_of pair.1 ≡ c
  pub added : Adds (fields_of pair.1) (laid [] []) new

pub told : (line bytes : List ℕ) (id : Option ℕ) (c : CommandWord) (ks : List Kind) (new : Laid)
    → read_line line ≡ with_id id (read_arguments c bytes) → ks ≡ kinds_of c → TookAll (seen_from [] ks bytes) (laid [] []) new
    → Told line id c new
told line bytes id c ks new head kinds took =
    by (shaped (kinds_of c) bytes) refl
    (subst (λ o. TookAll o (laid [] []) new) (ap (λ k. seen_from [] k bytes) kinds ∙ all_seen (kinds_of c) bytes) took)
  where
    by : (o : Option (Values (kinds_of c))) → shaped (kinds_of c) bytes ≡ o
        → TookAll (o >>= λ xs. Some (all_shown (kinds_of c) xs)) (laid [] []) new → Told line id c new
    by None is took = absurd took
    by (Some xs) is took = record {
      pair = (id, reply_of_values c xs);
      reads = reads_reply line id (read_arguments c bytes) (reply_of_values c xs) head (ap (λ o. o >>= λ ys. Some (reply_of_values c ys)) is);
      id_is = refl;
      word = made_word c xs;
      added = subst (λ fs. Adds fs (laid [] []) new) (sym (made_shown c xs)) took;
    }

pub untold : (line bytes : List ℕ) (id : Option ℕ) (c : CommandWord) (ks : List Kind)
    → read_line line ≡ with_id id (read_arguments c bytes) → ks ≡ kinds_of c → seen_from [] ks bytes ≡ None
    → (pair : Line) → ReadsAs line pair → ⊥
untold line bytes id c ks head kinds none =
    reads_none line id (read_arguments c bytes) head
    (by (shaped (kinds_of c) bytes) (sym (ap (λ k. seen_from [] k bytes) kinds ∙ all_seen (kinds_of c) bytes) ∙ none))
  where
    by : (o : Option (Values (kinds_of c))) → (o >>= λ xs. Some (all_shown (kinds_of c) xs)) ≡ None
        → (o >>= λ xs. Some (reply_of_values c xs)) ≡ None
    by None is = refl
    by (Some xs) is = absurd (let n : ⊥ = cc in n)

-- the head of such a line, and the table of its fields
pub read : (line : List ℕ) (id : Option ℕ) (c : CommandWord) (new : Laid) (head : HeadRow) (rows : List FieldRow) (text : List ℕ)
    → Told line id c new → numbered head.kind ≡ Some c → IdIs head id → laid rows text ≡ new
    → (pair : Line) × ReadsAs line pair × HeadOf head pair × IsTable field_row field_shown (fields_of pair.1) rows text
read line id c new head rows text t kind is laid_so = (
  t.pair,
  t.reads,
  record { kind = kind ∙ ap Some (sym t.word); id = subst (IdIs head) (sym t.id_is) is },
  (ap (λ l. l.rows) laid_so ∙ t.added.rows, ap (λ l. l.text) laid_so ∙ t.added.text),
)
