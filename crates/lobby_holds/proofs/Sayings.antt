-- How lines are said to the lobby in a hold, one after another.
use Rattle.std.proofs.Common.{◌≡◌, ◌⊎◌, ℕ, ◌+◌, ◌-◌, ◌%◌, ◌^◌, ◌<◌, ◌≤◌, true, false, List, [], ◌∷◌, ◌++◌, length, refl, sym, ap, ◌∙◌, subst, inl, inr, arith, length-append, true≢false}
use Rattle.std.proofs.Math.Bool.{or-false}
use Rattle.std.specs.Prelude.{◌||◌, Bool, Option, Some, IfSome}
use Rattle.command_grammar.specs.declared.command.Request.{Request}
use Rattle.lobby_model.specs.declared.event.Event.{Event}
use Rattle.lobby_model.specs.declared.event.Event.TheVariants as event
use Rattle.lobby_model.specs.Touched.{touches}
use Rattle.lobby_post.specs.Mask.{has_home}
use Rattle.lobby_lock.specs.Passes.{ShownPass, ShownHold, pass_after}
use Rattle.client_session.specs.Serving.{Serving}
use Rattle.client_session.specs.declared.session.Next.TheVariants.{Line}
use Rattle.client_session.specs.OneSession.{HasLineNext, IsNextOf}
use Rattle.client_session.proofs.Lines.{asks_line}
use Rattle.lobby_holds.specs.declared.holds.Chunk.{Chunk}
use Rattle.lobby_holds.specs.declared.holds.Said.{Said}
use Rattle.lobby_holds.specs.Wire.{Wire}
use Rattle.lobby_holds.specs.Moments.{Moment, moment, requests, told_behind, touched}
use Rattle.lobby_holds.proofs.Counted.{counted_from_none, told_behind-append}
use Rattle.lobby_holds.specs.Snapshot.{Carried, Snapshot, among}
use Rattle.lobby_holds.specs.Holds.{IsTaken, Made, AreSaid, SaysLines, SaysThenDrains, HasNoLineNext, HasLoudNext, HasTold, StopsAt, short, all_said, none_left, full, enough}
use Rattle.lobby_holds.proofs.Joins.{held_none}
use Rattle.lobby_holds.proofs.Parts.{requests-append, went_none, went_then, went_held}
use Rattle.lobby_holds.proofs.Talks.{are_talk-append, touched-append, calm-append}

pub says_none : (a : Snapshot) (wakes told : ℕ) → ((home : ℕ) → has_home wakes home ≡ false) → SaysLines a a 0 wakes told told
says_none a wakes told none = record {
  talk = [];
  went = went_none a;
  said = record { own = tt; calm = refl; lines_are = refl; only = refl; wakes_are = none; told_is = refl };
  unwritten = refl;
}

pub says_one : (a b : Snapshot) (request : Request) (wakes before after : ℕ) → Made a b (event.Say a.conn.session.client request) wakes before after
    → b.conn.unwritten ≡ a.conn.unwritten → SaysLines a b 1 wakes before after
says_one a b request wakes before after m unwritten = record {
  talk = moment m.met (event.Say a.conn.session.client request) ∷ [];
  went = m.went;
  said = record {
    own = (refl, tt);
    calm = refl;
    lines_are = refl;
    only = refl;
    wakes_are = λ home. m.wakes_are home ∙ sym (or-false (touches m.met (event.Say a.conn.session.client request) home));
    told_is = m.told_is;
  };
  unwritten = unwritten;
}

-- what was said and then what was said, of one client
pub said_then : (c : ℕ) (t u : List Moment) (m n wakes more all x y z : ℕ) → AreSaid c t m wakes x y → AreSaid c u n more y z
    → ((home : ℕ) → has_home all home ≡ (has_home wakes home || has_home more home)) → AreSaid c (t ++ u) (m + n) all x z
said_then c t u m n wakes more all x y z h k both = record {
  own = are_talk-append c t u h.own k.own;
  calm = calm-append t u h.calm k.calm;
  lines_are = ap length (requests-append t u) ∙ length-append (requests t) (requests u) ∙ ap (λ x. x + length (requests u)) h.lines_are ∙ ap (λ x. m + x) k.lines_are;
  only = omega (arith, length-append t u, h.only, k.only);
  wakes_are = λ home.
      both home
      ∙ ap (λ x. x || has_home more home) (h.wakes_are home)
      ∙ ap (λ x. touched t home || x) (k.wakes_are home)
      ∙ sym (touched-append t u home);
  told_is = told_behind-append x t u ∙ ap (λ told. told_behind told u) h.told_is ∙ k.told_is;
}

pub says_then : (a b c : Snapshot) (m n wakes more all x y z : ℕ) → SaysLines a b m wakes x y → SaysLines b c n more y z
    → ((home : ℕ) → has_home all home ≡ (has_home wakes home || has_home more home)) → SaysLines a c (m + n) all x z
says_then a b c m n wakes more all x y z h k both = record {
  talk = h.talk ++ k.talk;
  went = went_then a b c h.talk k.talk h.went k.went;
  said = said_then a.conn.session.client h.talk k.talk m n wakes more all x y z h.said (subst (λ (d : ℕ). AreSaid d k.talk n more y z) h.went.client k.said) both;
  unwritten = k.unwritten ∙ h.unwritten;
}

-- a refused line leaves what there was
pub says_still : (o : List ℕ) (a : Snapshot) (x y : Carried) (wire : Wire) (h k : ShownHold) (lines wakes before after : ℕ) → (y ≡ x) × (k ≡ h)
    → SaysLines a (among o x wire (pass_after h)) lines wakes before after → SaysLines a (among o y wire (pass_after k)) lines wakes before after
says_still o a x y wire h k lines wakes before after same s =
    subst (λ (z : Carried × ShownHold). SaysLines a (among o z.0 wire (pass_after z.1)) lines wakes before after) (λ i. (sym same.0 i, sym same.1 i)) s

-- the lobby's count went on from x to y, which were read as numbers of 64 bits
pub says_counted : (a b : Snapshot) (lines wakes x y before now told : ℕ) → before ≡ x → now ≡ y → before < 2 ^ 64
    → told ≡ (now + (2 ^ 64 - before)) % 2 ^ 64 → SaysLines a b lines wakes x y → SaysLines a b lines wakes 0 told
says_counted a b lines wakes x y before now told first last small is s = record {
  talk = s.talk;
  went = s.went;
  said = record {
    own = s.said.own;
    calm = s.said.calm;
    lines_are = s.said.lines_are;
    only = s.said.only;
    wakes_are = s.said.wakes_are;
    told_is = counted_from_none before now s.talk small (ap (λ n. told_behind n s.talk) first ∙ s.said.told_is ∙ sym last) ∙ sym is;
  };
  unwritten = s.unwritten;
}

-- what a hold said, from the take on
says_after : (o : List ℕ) (old : Carried) (wire : Wire) (p : ShownPass) (h : ShownHold) (b : Snapshot) (lines wakes before after : ℕ) → IsTaken p h
    → SaysLines (among o old wire (pass_after h)) b lines wakes before after → SaysLines (among o old wire p) b lines wakes before after
says_after o old wire p h b lines wakes before after taken s = record {
  talk = s.talk;
  went = went_then (among o old wire p) (among o old wire (pass_after h)) b [] s.talk (went_held o old wire p (pass_after h) (held_none p (pass_after h) h h taken refl refl)) s.went;
  said = s.said;
  unwritten = s.unwritten;
}

-- the whole hold, from the take to the give
pub says_then_drains_held : (o : List ℕ) (old new : Carried) (wire : Wire) (p q : ShownPass) (h k : ShownHold) (said : Said) (drained : Option Chunk) → IsTaken p h → q ≡ pass_after k
    → SaysThenDrains (among o old wire (pass_after h)) (among o new wire (pass_after k)) said drained
    → SaysThenDrains (among o old wire p) (among o new wire q) said drained
says_then_drains_held o old new wire p q h k said drained taken is s =
    subst (λ (x : ShownPass). SaysThenDrains (among o old wire p) (among o new wire x) said drained) (sym is) (record {
      between = s.between;
      says = says_after o old wire p h s.between said.lines said.wakes 0 said.told taken s.says;
      wire = s.wire;
      unfed = s.unfed;
      behind = s.behind;
    })

-- ---- why no more is said

-- the line that was refused is still next
pub refused_line : (x y : Carried) (request : Request) → y ≡ x → IsNextOf (Some x.session) (Line request) → HasLineNext y.session
refused_line x y request same next = subst (λ (z : Carried). HasLineNext z.session) (sym same) (asks_line x.session request next)

pub stops_none : (most : ℕ) (allowance : Option ℕ) (is_enough : Bool) (session : Serving) (said : Said) (events : List Event) (count : ℕ) → count ≡ length events → said.refused ≡ false
    → (is_enough ≡ true → HasTold allowance said.told)
    → (32 ≤ length events) ⊎ (HasNoLineNext session ⊎ ((is_enough ≡ true) × HasLoudNext session)) → StopsAt most allowance session count said
stops_none most allowance is_enough session said events count counts accepted told (inl many) = full accepted (omega (arith, counts, many))
stops_none most allowance is_enough session said events count counts accepted told (inr (inl none)) = none_left accepted none
stops_none most allowance is_enough session said events count counts accepted told (inr (inr next)) = enough accepted (told next.0) next.1

-- what is not quiet is a line
pub loud_is_line : (session : Serving) → HasLoudNext session → HasLineNext session
loud_is_line session loud = asks_line session loud.0 loud.1

-- what a hold stopped at refused tells what is next
pub stays_next : (most : ℕ) (allowance : Option ℕ) (session : Serving) (events : ℕ) (said : Said) → StopsAt most allowance session events said → said.refused ≡ true → HasLineNext session
stays_next most allowance session events said (short refused next) is = next
stays_next most allowance session events said (all_said accepted e) is = absurd (true≢false (sym is ∙ accepted))
stays_next most allowance session events said (none_left accepted e) is = absurd (true≢false (sym is ∙ accepted))
stays_next most allowance session events said (full accepted e) is = absurd (true≢false (sym is ∙ accepted))
stays_next most allowance session events said (enough accepted told next) is = absurd (true≢false (sym is ∙ accepted))

-- what a clause says of a value that is known
pub from_some : {A : Type 0} (o : Option A) (x : A) (P : A → Type 0) → o ≡ Some x → IfSome o P → P x
from_some o x P e h = subst (λ (s : Option _). IfSome s P) e h
