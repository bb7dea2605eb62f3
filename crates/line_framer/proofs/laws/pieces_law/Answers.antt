use Rattle.line_framer.proofs.Stands.{frames-append, spoilt-append, rest-append, spoilt_for_good}
use Rattle.line_framer.proofs.laws.pieces_law.Goals as goal

pub returns-clause-sound : goal.returns-clause-sound
returns-clause-sound c = λ bytes more limit sound. record {
  frames_are = frames-append bytes more limit sound;
  spoilt_is = spoilt-append bytes more limit sound;
  rest_is = rest-append bytes more limit sound;
}

pub returns-clause-spoilt : goal.returns-clause-spoilt
returns-clause-spoilt c = λ bytes more limit spoilt.
    let same = spoilt_for_good bytes more limit spoilt in
    record { frames_are = same.1; spoilt_is = same.0 }
