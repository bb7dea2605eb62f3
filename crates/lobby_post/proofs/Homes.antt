-- A thing for each of the first workers, and the lines of the 64.
use Rattle.std.proofs.Common.{◌≡◌, ℕ, zero, suc, ◌<◌, ◌≤◌, List, [], ◌∷◌, ◌++◌, length, slice_index_or, refl, sym, ap, subst, ◌∙◌, inl, inr, arith, length-append}
use Rattle.std.proofs.Math.ListN.{get_or-append}
use Rattle.std.proofs.Math.Nat.{eq-or-lt_of_le}
use Rattle.std.proofs.Math.Seq.{get_or-append_seam}
use Rattle.line_words.specs.Table.{ByNumber}
use Rattle.lobby_post.specs.Mail.{Line}
use Rattle.lobby_post.specs.Dirty.{Roomy, Listing, AreKnown, line_of, none_waits, times}
use Rattle.lobby_post.specs.Crowd.{for_homes, line_at, lines_of}

pub length-homes : {X : Type 0} (f : ℕ → X) (n : ℕ) → length (for_homes n f) ≡ n
length-homes f zero = refl
length-homes f (suc n) =
    let l = length-append (for_homes n f) (f n ∷ []) in
    let h = length-homes f n in
    omega (arith, l, h)

pub at_home : {X : Type 0} (f : ℕ → X) (d : X) (n h : ℕ) → h < n → slice_index_or (for_homes n f) h d ≡ f h
at_home f d zero h within = absurd (omega (arith, within))
at_home f d (suc n) h within =
    let long = length-homes f n in
    let most : h ≤ n = omega (arith, within) in
    elim (eq-or-lt_of_le most) as (λ o. slice_index_or (for_homes n f ++ f n ∷ []) h d ≡ f h) [
      | inl last ↦ ap (λ k. slice_index_or (for_homes n f ++ f n ∷ []) k d) (last ∙ sym long)
          ∙ get_or-append_seam (for_homes n f) (f n) [] d ∙ ap f (sym last)
      | inr less ↦ get_or-append (for_homes n f) (f n ∷ []) d h (omega (arith, long, less)) ∙ at_home f d n h less
    ]

-- the line of one of the 64
pub line-at : (lists : List Roomy) (h : ℕ) → h < 64 → line_at (lines_of lists) h ≡ line_of lists h
unfolding lines_of
line-at lists h within = at_home (line_of lists) none_waits 64 h within

pub same_lines : (lists others : List Roomy) → ((h : ℕ) → line_of others h ≡ line_of lists h) → lines_of others ≡ lines_of lists
unfolding lines_of
same_lines lists others same = λ i. for_homes 64 (λ h. same h i)

-- what is known of the lines of the 64 holds of others that are the same there
module _ (listings : ByNumber Listing) (lines others : ℕ → Line) (same : (h : ℕ) → h < 64 → others h ≡ lines h) (last : ℕ) where
  pub known_same : AreKnown listings lines last → AreKnown listings others last
  known_same k = record {
    homes = k.homes;
    placed = λ c listing found. ap (λ (l : Line). times c l.waiting) (same listing.home (k.homes c listing found)) ∙ k.placed c listing found;
    counted = λ h within. ap (λ (l : Line). l.idle) (same h within) ∙ k.counted h within;
    settled = λ h within. ap (λ (l : Line). l.fresh) (same h within) ∙ k.settled h within;
    numbered = k.numbered;
    past = λ h c within stands. k.past h c within (subst (λ (l : Line). 0 < times c l.waiting) (same h within) stands);
  }

pub known_of_lists : (listings : ByNumber Listing) (lists : List Roomy) (last : ℕ) → AreKnown listings (line_at (lines_of lists)) last → AreKnown listings (line_of lists) last
known_of_lists listings lists last =
    known_same listings (line_at (lines_of lists)) (line_of lists) (λ h within. sym (line-at lists h within)) last

pub known_of_lines : (listings : ByNumber Listing) (lists : List Roomy) (last : ℕ) → AreKnown listings (line_of lists) last → AreKnown listings (line_at (lines_of lists)) last
known_of_lines listings lists last = known_same listings (line_of lists) (line_at (lines_of lists)) (line-at lists) last

-- where there is no client
pub known_of_nobody : AreKnown [] (line_at (lines_of [])) 0
known_of_nobody = known_of_lines [] [] 0 (record {
  homes = λ c listing found. absurd (cc);
  placed = λ c listing found. absurd (cc);
  counted = λ h within. refl;
  settled = λ h within. refl;
  numbered = λ c listing found. absurd (cc);
  past = λ h c within stood. absurd (omega (arith, stood));
})
