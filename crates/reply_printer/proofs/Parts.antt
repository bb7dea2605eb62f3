-- The parts of what is told of a battle, and all of it.
use Rattle.std.proofs.Common.{◌≡◌, ℕ, List, [], ◌++◌, append_assoc}
use Rattle.std.proofs.lemmas.List.{append-nil}

pub regroup : (out kind nat founder ip port players flag rank hash engine version map title game : List ℕ)
    → ((out ++ (kind ++ (nat ++ (founder ++ (ip ++ port))))) ++ (players ++ (flag ++ (rank ++ hash)))) ++ (engine ++ (version ++ (map ++ (title ++ game))))
    ≡ out ++ (kind ++ (nat ++ (founder ++ (ip ++ (port ++ (players ++ (flag ++ (rank ++ (hash ++ (engine ++ (version ++ (map ++ (title ++ (game ++ []))))))))))))))
regroup out kind nat founder ip port players flag rank hash engine version map title game = simp (append_assoc, append-nil)
