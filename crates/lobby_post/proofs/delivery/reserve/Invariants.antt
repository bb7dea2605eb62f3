use Rattle.std.proofs.Common.{◌≡◌, ℕ, take, drop}
use Rattle.std.specs.List.{AllByRecursion}
use Rattle.lobby_post.specs.Pieces.{LiesIn, pieces_of}
use Rattle.lobby_post.specs.Mail.{AllSlots, AreDue, AreReady, HaveLimit, plain}
use Rattle.lobby_post.specs.Dirty.{listings_of}
use Rattle.lobby_post.proofs.Rounds.{CameFrom}
use Rattle.lobby_post.proofs.delivery.reserve.Given as goal

abbrev pub invariant-loop-i : goal.invariant-loop-i
invariant-loop-i l = record {
  inside : AllByRecursion (LiesIn l.text) (drop l.i l.pieces);
  due : AreDue (pieces_of l.text (take l.i l.pieces)) l.clients;
  ready : AreReady l.clients;
  came : AllSlots (CameFrom l.initial.clients) l.clients;
  limits : (limit : ℕ) → HaveLimit limit l.initial.clients → HaveLimit limit l.clients;
  clients : plain l.clients ≡ plain l.initial.clients;
  listings : listings_of l.clients ≡ listings_of l.initial.clients;
}
