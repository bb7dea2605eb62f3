use Rattle.std.proofs.Common.{◌≡◌, ℕ, drop}
use Rattle.std.specs.List.{AllByRecursion}
use Rattle.lobby_post.specs.Pieces.{LiesIn, pieces_of}
use Rattle.lobby_post.specs.Mail.{HaveLimit, plain}
use Rattle.lobby_post.specs.Dirty.{listings_of}
use Rattle.lobby_post.proofs.Rounds.{AreLeft}
use Rattle.lobby_post.proofs.delivery.cancel.Given as goal

abbrev pub invariant-loop-piece : goal.invariant-loop-piece
invariant-loop-piece l = record {
  inside : AllByRecursion (LiesIn l.text) (drop l.piece-index l.pieces);
  due : AreLeft (pieces_of l.text (drop l.piece-index l.pieces)) l.clients;
  limits : (limit : ℕ) → HaveLimit limit l.initial.clients → HaveLimit limit l.clients;
  clients : plain l.clients ≡ plain l.initial.clients;
  listings : listings_of l.clients ≡ listings_of l.initial.clients;
}
