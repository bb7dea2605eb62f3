use Rattle.std.proofs.Common.{◌≡◌, ℕ, ◌^◌, ◌<◌, drop}
use Rattle.std.specs.Prelude.{◌||◌}
use Rattle.std.specs.List.{AllByRecursion}
use Rattle.lobby_post.specs.Mask.{has_home}
use Rattle.lobby_post.specs.Dues.{shares_of}
use Rattle.lobby_post.specs.Pieces.{LiesIn, pieces_of}
use Rattle.std.specs.Map.{keys_of}
use Rattle.lobby_post.specs.Amounts.{bytes_in_all, counted_on}
use Rattle.lobby_post.specs.Mail.{AreDue, AreReady, HaveLimit, bytes_for, plain, deliver, wakes_home}
use Rattle.lobby_post.specs.Dirty.{AreKnown, line_of, listings_of, stands}
use Rattle.lobby_post.proofs.Underway.{IsUnderway}
use Rattle.lobby_post.proofs.delivery.deliver.Given as goal

abbrev pub invariant-loop-piece : goal.invariant-loop-piece
invariant-loop-piece l = record {
  inside : AllByRecursion (LiesIn l.text) (drop l.piece-index l.pieces);
  due : AreDue (pieces_of l.text (drop l.piece-index l.pieces)) l.clients;
  ready : AreReady l.clients;
  shares : l.shares.items ≡ shares_of (pieces_of l.text (drop l.piece-index l.pieces));
  told : counted_on l.count (bytes_in_all (bytes_for (pieces_of l.text (drop l.piece-index l.pieces))) (keys_of l.clients))
      ≡ counted_on l.initial.told (bytes_in_all (bytes_for (pieces_of l.text l.pieces)) (keys_of l.initial.clients));
  small : l.count < 2 ^ 64;
  limits : (limit : ℕ) → HaveLimit limit l.initial.clients → HaveLimit limit l.clients;
  clients : (limit : ℕ) → HaveLimit limit l.initial.clients
      → deliver limit (pieces_of l.text (drop l.piece-index l.pieces)) (plain l.clients)
      ≡ deliver limit (pieces_of l.text l.pieces) (plain l.initial.clients);
  wakes : (limit home : ℕ) → (has_home l.wakes home || wakes_home limit (pieces_of l.text (drop l.piece-index l.pieces)) (plain l.clients) home)
      ≡ wakes_home limit (pieces_of l.text l.pieces) (plain l.initial.clients) home;
  homes : (home c : ℕ) → stands (listings_of l.clients) home c ≡ stands (listings_of l.initial.clients) home c;
  underway : (n : ℕ) → AreKnown (listings_of l.initial.clients) (line_of l.initial.dirty) n
      → IsUnderway (pieces_of l.text l.pieces) (pieces_of l.text (drop l.piece-index l.pieces)) l.initial.clients l.clients
      (line_of l.initial.dirty) (line_of l.dirty) n;
}
