-- Arguments that are read one behind the other.
use Rattle.std.proofs.Common.{◌≡◌, ◌++◌, ◌+◌, ◌<◌, ◌≤◌, List, [], ◌∷◌, ℕ, length, refl, sym, ap, ◌∙◌, subst, map, drop, get_or, cond}
use Rattle.std.proofs.lemmas.List.{drop_more, drop_all}
use Rattle.std.specs.Prelude.{Option, Some, None, Bool, true, false, ◌==◌, Result, Ok, Err, IfOk, IfErr}
use Rattle.reply_kinds.specs.Kinds.{Kind}
use Rattle.reply_fields.specs.Fields.{◌>>=◌, Fails, Gives, if_end}
use Rattle.reply_fields.specs.declared.error.ReadError.{ReadError}
use Rattle.reply_fields.specs.declared.error.ReadError.TheVariants as errors
use Rattle.lobby_lines.specs.declared.reply_table.ReplyKind.{ReplyKind}
use Rattle.lobby_lines.specs.Replies.{kind_of}
use Rattle.lobby_lines.specs.Fields.{Field, Laid, Adds}
use Rattle.lobby_lines.specs.Reading.{field_seen, seen_from, Took, TookAll}
use Rattle.lobby_lines.proofs.Adding.{adds_none, adds_both}

-- these kinds and bytes are left of all, and the fields of the others were added
pub record Going (ks all : List Kind) (rest bytes : List ℕ) (old new : Laid) : Type 0 where
  pub done : List Field
  pub added : Adds done old new
  pub same : seen_from [] all bytes ≡ seen_from done ks rest

pub starts : (all : List Kind) (bytes : List ℕ) (old : Laid) → Going all all bytes bytes old old
starts all bytes old = record { done = []; added = adds_none old; same = refl }

pub goes_on : (k : Kind) (ks all : List Kind) (rest bytes next : List ℕ) (old now new : Laid) → Going (k ∷ ks) all rest bytes old now
    → Took (field_seen k rest) next now new → Going ks all next bytes old new
goes_on k ks all rest bytes next old now new g took = by (field_seen k rest) g.same took
  where
    by : (o : Option (List Field × List ℕ)) → seen_from [] all bytes ≡ (o >>= λ x. seen_from (g.done ++ x.0) ks x.1) → Took o next now new
        → Going ks all next bytes old new
    by None same took = absurd took
    by (Some x) same took = record {
      done = g.done ++ x.0;
      added = adds_both g.done x.0 old now new g.added took.1;
      same = subst (λ r. seen_from [] all bytes ≡ seen_from (g.done ++ x.0) ks r) (sym took.0) same;
    }

pub stops : (e : ReadError) (k : Kind) (ks all : List Kind) (rest bytes : List ℕ) (old now : Laid) → Going (k ∷ ks) all rest bytes old now
    → Fails e (field_seen k rest) → Fails e (seen_from [] all bytes)
stops errors.Memory k ks all rest bytes old now g fails = tt
stops errors.Unread k ks all rest bytes old now g fails = subst (λ o. seen_from [] all bytes ≡ (o >>= λ x. seen_from (g.done ++ x.0) ks x.1)) fails g.same

-- what is left decides
pub at_end : {A : Type 0} (x : A) (rest : List ℕ) → if_end x rest ≡ (if_end {A = Unit {0}} tt rest >>= λ u. Some x)
at_end x rest = by (length rest == 0)
  where
    by : (t : Bool) → cond t (Some x) None ≡ (cond t (Some (tt {0})) None >>= λ u. Some x)
    by true = refl
    by false = refl

pub ends : (all : List Kind) (rest bytes : List ℕ) (old now : Laid) → Going [] all rest bytes old now → if_end {A = Unit {0}} tt rest ≡ Some tt
    → TookAll (seen_from [] all bytes) old now
ends all rest bytes old now g end =
    let is : seen_from [] all bytes ≡ Some g.done = g.same ∙ at_end g.done rest ∙ ap (λ o. o >>= λ u. Some g.done) end in
    subst (λ o. TookAll o old now) (sym is) g.added

pub left_over : (e : ReadError) (all : List Kind) (rest bytes : List ℕ) (old now : Laid) → Going [] all rest bytes old now
    → Fails e (if_end {A = Unit {0}} tt rest) → Fails e (seen_from [] all bytes)
left_over errors.Memory all rest bytes old now g fails = tt
left_over errors.Unread all rest bytes old now g fails = g.same ∙ at_end g.done rest ∙ ap (λ o. o >>= λ u. Some g.done) fails

pub ends_so : (r : Result (Unit {0}) ReadError) (all : List Kind) (rest bytes : List ℕ) (old now : Laid) → Gives (λ x. x) r (if_end tt rest)
    → Going [] all rest bytes old now
    → IfOk r (λ _. TookAll (seen_from [] all bytes) old now) × IfErr r (λ e. Fails e (seen_from [] all bytes))
ends_so (Ok u) all rest bytes old now end g = (ends all rest bytes old now g end, tt)
ends_so (Err e) all rest bytes old now end g = (tt, left_over e all rest bytes old now g end)

-- the next kind that a loop takes
pub next_kind : (kinds : List ReplyKind) (i : ℕ) (d : ReplyKind) (all : List Kind) (rest bytes : List ℕ) (old now : Laid) → i < length kinds
    → Going (map kind_of (drop i kinds)) all rest bytes old now → Going (kind_of (get_or kinds i d) ∷ map kind_of (drop (i + 1) kinds)) all rest bytes old now
next_kind kinds i d all rest bytes old now within g = subst (λ ks. Going (map kind_of ks) all rest bytes old now) (drop_more kinds i d within) g

pub no_kind : (kinds : List ReplyKind) (i : ℕ) (all : List Kind) (rest bytes : List ℕ) (old now : Laid) → length kinds ≤ i
    → Going (map kind_of (drop i kinds)) all rest bytes old now → Going [] all rest bytes old now
no_kind kinds i all rest bytes old now past g = subst (λ ks. Going (map kind_of ks) all rest bytes old now) (drop_all i kinds past) g
