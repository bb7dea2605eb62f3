use Rattle.std.proofs.Common.{◌∙◌, ◌+◌, ◌++◌, List, ℕ, ap, sym, subst, refl, length, true, T}
use Rattle.line_framer.specs.Frames.{frames, without_cr}
use Rattle.lobby_view.specs.View.{View, shown_all}
use Rattle.lobby_view.specs.Bytes.{frame_limit, all_read}
use Rattle.client_view.specs.Following.{Following}
use Rattle.client_view.proofs.Follows.{read_of}
use Rattle.client_view.proofs.Feeding.{is_long, is_short, line_long, lines_taken, lines_count}
use Rattle.client_view.proofs.view.View.feed_lines.Goals as goal

-- the end of the unfinished line makes it too long
pub returns-then-is_too_long-clause-too_long : goal.returns-then-is_too_long-clause-too_long
returns-then-is_too_long-clause-too_long c = λ _.
    let old = c.args.self.now in
    let line = c.args.end.now in
    let long = is_long old.rest line (sym c.is_too_long.ensures ∙ c.if-is_too_long.true) in (
      line_long old line c.args.behind.now c.requires.line c.requires.live long
          _
          ((λ i. (c.self-inside-inside.view_is i).0.0.known.now) ∙ (λ i. (c.self-inside.view_is i).known.now) ∙ ap (λ (f : Following). f.known) c.self.view_is)
          refl,
      refl,
    )

-- a line behind it is too long
pub returns-then-taken-clause-too_long : goal.returns-then-taken-clause-too_long
returns-then-taken-clause-too_long c = λ _.
    let old = c.args.self.now in
    let line = c.args.end.now in
    let behind = c.args.behind.now in
    let small = is_short old.rest line (sym c.is_too_long.ensures ∙ c.if-is_too_long.false) in
    let start_is = c.deref.ensures.value ∙ ap (λ (f : Following). f.rest) c.self.view_is in
    let known_is = ap (λ (f : Following). f.known) c.self.view_is in (
      lines_taken old line behind c.requires.line c.requires.live small
          (record { known = c.take_piece.new.self.now; rest = c.self.inside.rest.items; spoilt = true })
          (c.in_ok-taken.ensures.known
          ∙ ap (λ (l : List ℕ). shown_all (shown_all c.self.inside.known.now (read_of (without_cr (l ++ line)))) (all_read (frames behind frame_limit))) start_is
          ∙ ap (λ (v : View). shown_all (shown_all v (read_of (without_cr (old.rest ++ line)))) (all_read (frames behind frame_limit))) known_is)
          (sym c.if-taken.true ∙ c.in_ok-taken.ensures.spoilt)
          (λ e. absurd (subst T e tt)),
      refl,
    )

pub returns-clause-ok : goal.returns-clause-ok
returns-clause-ok c =
    let old = c.args.self.now in
    let line = c.args.end.now in
    let behind = c.args.behind.now in
    let small = is_short old.rest line (sym c.is_too_long.ensures ∙ c.if-is_too_long.false) in
    let start_is = c.deref.ensures.value ∙ ap (λ (f : Following). f.rest) c.self.view_is in
    let known_is = ap (λ (f : Following). f.known) c.self.view_is in
    let live = ap (λ (f : Following). f.spoilt) c.self.view_is ∙ c.requires.live in (
      lines_taken old line behind c.requires.line c.requires.live small
          (record { known = c.take_piece.new.self.now; rest = c.in_ok-rest.rest.items; spoilt = c.self.inside.spoilt })
          (c.in_ok-taken.ensures.known
          ∙ ap (λ (l : List ℕ). shown_all (shown_all c.self.inside.known.now (read_of (without_cr (l ++ line)))) (all_read (frames behind frame_limit))) start_is
          ∙ ap (λ (v : View). shown_all (shown_all v (read_of (without_cr (old.rest ++ line)))) (all_read (frames behind frame_limit))) known_is)
          (live ∙ sym c.if-taken.false ∙ c.in_ok-taken.ensures.spoilt)
          (λ e. c.in_ok-rest.ensures.items ∙ c.unfinished.ensures),
      live,
      lines_count old line behind c.requires.line c.requires.live small c.in_ok-taken.taken.count
          (c.in_ok-taken.ensures.count
          ∙ ap (λ (l : List ℕ). length (read_of (without_cr (l ++ line))) + length (all_read (frames behind frame_limit))) start_is),
    )
