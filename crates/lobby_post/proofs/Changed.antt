-- A client is changed, where it is there, and its listing and what is due to it stay: so does what is known of all clients.
use Rattle.std.proofs.Common.{◌≡◌, ℕ, List, refl, sym, ap, ◌∙◌, true, map}
use Rattle.std.specs.Prelude.{Some, None}
use Rattle.std.specs.List.Sorted.{IsStrictlySortedBy}
use Rattle.std.specs.Ordering.{nat_cmp}
use Rattle.std.specs.BTreeMap.{is_at}
use Rattle.std.specs.Map.{lookup, set_value}
use Rattle.line_words.specs.Table.{ByNumber, change_number}
use Rattle.lobby_model.specs.State.{Client, is_live}
use Rattle.lobby_post.specs.declared.clients.Clients.TheInside.{Inside}
use Rattle.lobby_post.specs.Mail.{Mailbox, AreDue, AreReady, HaveLimit, IsReady, plain}
use Rattle.lobby_post.specs.Dirty.{listings_of}
use Rattle.lobby_post.proofs.Crowds.{written_through, due_kept, plain_changed, plain_unchanged}
use Rattle.lobby_post.proofs.Listed.{listings_kept}
use Rattle.lobby_post.proofs.Rounds.{ready_next, limits_next}

pub record IsChanged (c : ℕ) (f : Client → Client) (old new : Inside) : Type 0 where
  pub clients : plain new.slots ≡ change_number (plain old.slots) c f
  pub due : (pieces : ByNumber (List ℕ)) → AreDue pieces old.slots → AreDue pieces new.slots
  pub ready : AreReady old.slots → AreReady new.slots
  pub limit : new.limit ≡ old.limit
  pub limits : HaveLimit old.limit old.slots → HaveLimit new.limit new.slots
  pub listings : listings_of new.slots ≡ listings_of old.slots
  pub dirty : new.dirty ≡ old.dirty

module _ (c : ℕ) (f : Client → Client) (old : Inside) where
  -- its slot x is written, and is w then
  pub written : ((client : Client) → (f client).home ≡ client.home) → (x w : Mailbox) → IsStrictlySortedBy nat_cmp (map (λ e. e.0) old.slots)
      → Some x ≡ lookup (is_at (nat_cmp c)) old.slots → w.client ≡ f x.client → w.limit ≡ x.limit → w.listed ≡ x.listed → (is_live w.client ≡ true → is_live x.client ≡ true) → w.due ≡ x.due
      → (IsReady x → IsReady w) → IsChanged c f old (record old { slots = set_value (is_at (nat_cmp c)) old.slots w })
  written stays x w rising found client limit listed heard due ready =
      let after = written_through c x w old.slots found in
      record {
        clients = plain_changed c old.slots f x w _ rising refl found client;
        due = λ pieces all. due_kept pieces c x w old.slots _ after found heard due all;
        ready = λ all. ready_next c x w old.slots _ after found (ready (all c x (sym found))) all;
        limit = refl;
        limits = λ all. limits_next old.limit c x w old.slots _ after found limit all;
        listings = listings_kept c x w old.slots _ refl found (ap (λ (k : Client). k.home) client ∙ stays x.client) listed;
        dirty = refl;
      }

  -- it is not there
  pub absent : None ≡ lookup (is_at (nat_cmp c)) old.slots → IsChanged c f old old
  absent none = record {
    clients = plain_unchanged c old.slots f none;
    due = λ pieces all. all;
    ready = λ all. all;
    limit = refl;
    limits = λ all. all;
    listings = refl;
    dirty = refl;
  }
