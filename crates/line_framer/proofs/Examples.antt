-- Worked examples of frames. LF is 10 and CR is 13.
use Rattle.std.proofs.Common.{◌≡◌, ℕ, List, [], ◌∷◌, ◌++◌, refl, true, false, codes}
use Rattle.line_framer.specs.Frames.{frames, is_spoilt, rest_of}

abbrev lf : List ℕ
lf = 10 ∷ []

abbrev cr : List ℕ
cr = 13 ∷ []

-- three pieces are one frame, and its CR is dropped though its LF comes later
one_frame_of_three_pieces : frames ((codes "PI" ++ (codes "NG" ++ cr)) ++ lf) 8192 ≡ codes "PING" ∷ []
one_frame_of_three_pieces = refl

-- a CR at the end of what came so far belongs to the unfinished line
cr_before_no_lf_waits : rest_of (codes "PING" ++ cr) ≡ codes "PING" ++ cr
cr_before_no_lf_waits = refl

cr_in_a_line_stays : frames ((codes "PI" ++ cr) ++ (codes "NG" ++ lf)) 8192 ≡ ((codes "PI" ++ cr) ++ codes "NG") ∷ []
cr_in_a_line_stays = refl

one_cr_of_two_is_dropped : frames (codes "PING" ++ (cr ++ (cr ++ lf))) 8192 ≡ (codes "PING" ++ cr) ∷ []
one_cr_of_two_is_dropped = refl

an_empty_line_is_a_frame : frames (lf ++ (cr ++ lf)) 8192 ≡ [] ∷ ([] ∷ [])
an_empty_line_is_a_frame = refl

-- a line may have as many bytes as the limit says
line_at_the_limit : frames (codes "PING" ++ lf) 4 ≡ codes "PING" ∷ []
line_at_the_limit = refl

line_at_the_limit_is_sound : is_spoilt (codes "PING" ++ lf) 4 ≡ false
line_at_the_limit_is_sound = refl

-- one more spoils the stream there, and what stands before is kept
lines_before_the_spoilt_place : frames ((codes "PING" ++ lf) ++ ((codes "PINGS" ++ lf) ++ (codes "EXIT" ++ lf))) 4 ≡ codes "PING" ∷ []
lines_before_the_spoilt_place = refl

line_over_the_limit_spoils : is_spoilt ((codes "PING" ++ lf) ++ ((codes "PINGS" ++ lf) ++ (codes "EXIT" ++ lf))) 4 ≡ true
line_over_the_limit_spoils = refl

-- also where it has not ended
unfinished_line_over_the_limit_spoils : is_spoilt (codes "PING" ++ (lf ++ codes "PINGS")) 4 ≡ true
unfinished_line_over_the_limit_spoils = refl

-- the dropped CR counts
cr_counts : is_spoilt (codes "PING" ++ (cr ++ lf)) 4 ≡ true
cr_counts = refl
