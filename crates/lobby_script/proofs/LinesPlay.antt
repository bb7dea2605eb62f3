-- Lines that play, and the first that is bad.
use Rattle.std.proofs.Common.{◌≡◌, ◌≢◌, ℕ, ◌+◌, length, take, false, List, [], ◌∷◌, ◌++◌, inr, refl, sym, ap, ◌∙◌, subst, append_assoc, append-nil, length-append}
use Rattle.std.specs.Prelude.{Option, Some, None}
use Rattle.std.proofs.Math.Seq.{take-append_seam}
use Rattle.lobby_script.specs.declared.action.Action.{Action}
use Rattle.lobby_script.specs.declared.player.Player.{Player}
use Rattle.proxy_line.specs.Words.{Finds}
use Rattle.lobby_script.specs.Actions.{Says}
use Rattle.lobby_script.specs.Scene.{Scene, is_allowed}
use Rattle.lobby_script.specs.Lines.{lines_of}
use Rattle.lobby_script.specs.Script.{LinePlays, IsBad, Played, PlaysTo, OutputOfFront, StopsAt}
use Rattle.lobby_script.specs.Player.{IsAt, Performed}

-- what was found is what the line says
pub says_it_found : (line : List ℕ) (o : Option Action) (a : Action) → Finds (Says line) o → o ≡ Some a → Says line a
says_it_found line o a found is = (subst (Finds (Says line)) is found).sound

pub line_plays : (new : Player) (s : Scene) (line out : List ℕ) (o : Option Action) (a : Action) → Finds (Says line) o → o ≡ Some a → Performed new s a out → (x : Scene) × LinePlays s line out x × IsAt new x
line_plays new s line out o a found is does = (does.1.0, inr (a, (subst (Finds (Says line)) is found).sound, does.0, does.1.1), does.1.2)

pub line_is_bad : (s : Scene) (line : List ℕ) (o : Option Action) (a : Action) → line ≢ [] → Finds (Says line) o → o ≡ Some a → is_allowed s a ≡ false → IsBad s line
line_is_bad s line o a some found is refused =
    (some, λ b says. let only = found.complete b says in let same : a ≡ b = cc in subst (λ x. is_allowed s x ≡ false) same refused)

pub says_nothing : (s : Scene) (line : List ℕ) (o : Option Action) → line ≢ [] → Finds (Says line) o → o ≡ None → IsBad s line
says_nothing s line o some found is = (some, λ b says. let only = found.complete b says in absurd cc)

-- one line more
pub played_more : (front : List (List ℕ)) (s mid new : Scene) (out here line : List ℕ) → Played s front out mid → LinePlays mid line here new → Played s (front ++ line ∷ []) (out ++ here) new
played_more [] s mid new out here line (none, same) plays = (here, new, [], subst (λ x. LinePlays x line here new) same plays, (refl, refl), ap (λ l. l ++ here) none ∙ sym (append-nil here))
played_more (first ∷ front) s mid new out here line (begins, between, later, one, others, whole) plays =
    (begins, between, later ++ here, one, played_more front between mid new later here line others plays, ap (λ l. l ++ here) whole ∙ append_assoc begins later here)

pub one_line_on : (script : List ℕ) (front : List (List ℕ)) (line : List ℕ) (left behind : List (List ℕ)) → lines_of script ≡ front ++ left → left ≡ line ∷ behind → lines_of script ≡ (front ++ line ∷ []) ++ behind
one_line_on script front line left behind whole next = whole ∙ ap (λ l. front ++ l) next ∙ sym (append_assoc front (line ∷ []) behind)

pub counted_on : (front : List (List ℕ)) (line : List ℕ) (before : ℕ) → before ≡ length front → before + 1 ≡ length (front ++ line ∷ [])
counted_on front line before counted = ap (λ n. n + 1) counted ∙ sym (length-append front (line ∷ []))

-- the lines before some others play
pub plays_front : (script : List ℕ) (front left : List (List ℕ)) (out : List ℕ) (scene : Scene) → lines_of script ≡ front ++ left → PlaysTo front out scene → OutputOfFront script out
plays_front script front left out scene whole plays = (length front, scene, subst (λ l. PlaysTo l out scene) (sym (ap (take (length front)) whole ∙ take-append_seam front left)) plays)

-- the line after those that played is bad
pub stops_at : (script : List ℕ) (front : List (List ℕ)) (line : List ℕ) (left behind : List (List ℕ)) (before number : ℕ) (out : List ℕ) (scene : Scene) → lines_of script ≡ front ++ left → left ≡ line ∷ behind → before ≡ length front → number ≡ before + 1
    → PlaysTo front out scene → IsBad scene line → StopsAt script number out
stops_at script front line left behind before number out scene whole next counted one_more plays bad = record {
  front = front;
  line = line;
  behind = behind;
  whole = whole ∙ ap (λ l. front ++ l) next;
  number = one_more ∙ ap (λ n. n + 1) counted;
  scene = scene;
  plays = plays;
  bad = bad;
}
