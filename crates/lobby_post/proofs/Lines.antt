-- The line that is being told, at the end of the text.
use Rattle.std.proofs.Common.{◌≡◌, ℕ, ◌+◌, ◌-◌, ◌≤◌, List, [], ◌∷◌, ◌++◌, length, take, drop, refl, sym, ap, subst, ◌∙◌, true, false, append_assoc, arith, length-append}
use Rattle.std.specs.Prelude.{Option, None, if◌then◌else◌}
use Rattle.std.specs.List.{AllByRecursion}
use Rattle.std.proofs.Math.Seq.{drop-append_seam, drop-length}
use Rattle.std.proofs.lemmas.List.{drop-append-le, take-append-le, length-drop, map-append, take_all}
use Rattle.reply_kinds.specs.declared.Reply.{Reply}
use Rattle.reply_kinds.specs.Replies.{id_text, body, printed_line}
use Rattle.lobby_post.specs.declared.delivery.Delivery.{Delivery}
use Rattle.line_words.specs.Table.{ByNumber}
use Rattle.lobby_post.specs.Dues.{is_long, shares_of, with_share}
use Rattle.lobby_post.specs.Pieces.{LiesIn, bytes_of, pieces_of}
use Rattle.lobby_post.specs.Posted.{Posted}

bytes_same : (text more : List ℕ) (p : Delivery) → LiesIn text p → bytes_of (text ++ more) p ≡ bytes_of text p
bytes_same text more p h =
    let rises : p.from ≤ p.to = h.0 in
    let ends : p.to ≤ length text = h.1 in
    let long : length (drop p.from text) ≡ length text - p.from = length-drop p.from text in
    ap (take (p.to - p.from)) (drop-append-le p.from text more (omega (arith, rises, ends)))
    ∙ take-append-le (p.to - p.from) (drop p.from text) more (omega (arith, rises, ends, long))

pub pieces_same : (text more : List ℕ) (ps : List Delivery) → AllByRecursion (LiesIn text) ps → pieces_of (text ++ more) ps ≡ pieces_of text ps
pieces_same text more [] h = refl
pieces_same text more (p ∷ ps) h = λ i. (p.key.number, bytes_same text more p h.0 i) ∷ pieces_same text more ps h.1 i

inside_more : (text more : List ℕ) (ps : List Delivery) → AllByRecursion (LiesIn text) ps → AllByRecursion (LiesIn (text ++ more)) ps
inside_more text more [] h = tt
inside_more text more (p ∷ ps) h =
    let ends : p.to ≤ length text = h.0.1 in
    let long = length-append text more in
    ((h.0.0, omega (arith, ends, long)), inside_more text more ps h.1)

pub inside_and : (text : List ℕ) (ps : List Delivery) (p : Delivery) → AllByRecursion (LiesIn text) ps → LiesIn text p → AllByRecursion (LiesIn text) (ps ++ p ∷ [])
inside_and text [] p h here = (here, tt)
inside_and text (q ∷ ps) p h here = (h.0, inside_and text ps p h.1 here)

-- the pieces and their shares, where more is printed
pub parts_more : (text more out : List ℕ) (ps : List Delivery) (shares : List (List ℕ)) → out ≡ text ++ more → AllByRecursion (LiesIn text) ps
    → shares ≡ shares_of (pieces_of text ps) → AllByRecursion (LiesIn out) ps × (shares ≡ shares_of (pieces_of out ps))
parts_more text more out ps shares is inside all =
    subst (λ t. AllByRecursion (LiesIn t) ps × (shares ≡ shares_of (pieces_of t ps))) (sym is)
    (inside_more text more ps inside, all ∙ ap shares_of (sym (pieces_same text more ps inside)))

-- what is left of the text from a place on
pub whole_part : (text seen : List ℕ) (from to starts : ℕ) → seen ≡ text → to ≡ length text → from ≡ starts → take (to - from) (drop from seen)
    ≡ drop starts text
whole_part text seen from to starts same ends begins =
    let long : length (drop starts text) ≡ length text - starts = length-drop starts text in
    (λ i. take (ends i - begins i) (drop (begins i) (same i))) ∙ take_all (length text - starts) (drop starts text) (omega (arith, long))

shares-append : (sent : ByNumber (List ℕ)) (c : ℕ) (bytes : List ℕ) → shares_of (sent ++ (c, bytes) ∷ []) ≡ shares_of sent ++ with_share bytes []
shares-append [] c bytes = refl
shares-append (p ∷ sent) c bytes =
    elim (is_long (length p.1)) as (λ b. (if b then p.1 ∷ shares_of (sent ++ (c, bytes) ∷ []) else shares_of (sent ++ (c, bytes) ∷ []))
    ≡ (if b then p.1 ∷ shares_of sent else shares_of sent) ++ with_share bytes []) [
      | true ↦ ap (λ rest. p.1 ∷ rest) (shares-append sent c bytes)
      | false ↦ shares-append sent c bytes
    ]

-- one more piece with its share
pub shares_more : (text : List ℕ) (ps : List Delivery) (p : Delivery) (old new : List (List ℕ)) → old ≡ shares_of (pieces_of text ps)
    → new ≡ old ++ with_share (bytes_of text p) [] → new ≡ shares_of (pieces_of text (ps ++ p ∷ []))
shares_more text ps p old new all added =
    added ∙ ap (λ rest. rest ++ with_share (bytes_of text p) []) all ∙ sym (shares-append (pieces_of text ps) p.key.number (bytes_of text p))
    ∙ ap shares_of (sym (map-append _ ps (p ∷ [])))

whole_line : (id : Option ℕ) (r : Reply) → id_text id ++ printed_line None r ≡ printed_line id r
whole_line id r = sym (append_assoc (id_text id) (body r) (10 ∷ []))

pub written : (issuer : ℕ) (id : Option ℕ) (text mid out : List ℕ) (ps : List Delivery) (r : Reply) (own shared : ℕ) → mid ≡ text ++ id_text id → out
    ≡ mid ++ printed_line None r → own ≡ length text → shared ≡ length mid → AllByRecursion (LiesIn text) ps
    → ◌≡◌ {A = Posted} (record { issuer = issuer; id = id; text = length out; own = drop own out; shared = drop shared out; sent = pieces_of out ps })
    (record { issuer = issuer; id = id; text = length text + length (printed_line id r); own = printed_line id r; shared = printed_line None r; sent = pieces_of text ps })
written issuer id text mid out ps r own shared m o begins line h =
    let all : out ≡ text ++ (id_text id ++ printed_line None r) = o ∙ ap (λ t. t ++ printed_line None r) m ∙ append_assoc text _ _ in
    let first : drop own out ≡ printed_line id r = (λ i. drop (begins i) (all i)) ∙ drop-append_seam text _ ∙ whole_line id r in
    let second : drop shared out ≡ printed_line None r = (λ i. drop (line i) (o i)) ∙ drop-append_seam mid _ in
    let rest : pieces_of out ps ≡ pieces_of text ps = ap (λ t. pieces_of t ps) all ∙ pieces_same text _ ps h in
    let long : length out ≡ length text + length (printed_line id r) = ap length (all ∙ ap (λ line. text ++ line) (whole_line id r)) ∙ length-append text _ in
    λ i. record { issuer = issuer; id = id; text = long i; own = first i; shared = second i; sent = rest i }

pub written_for_others : (issuer : ℕ) (id : Option ℕ) (text out : List ℕ) (ps : List Delivery) (r : Reply) (own shared : ℕ) → out ≡ text
    ++ printed_line None r → shared ≡ length text → own ≡ length out → AllByRecursion (LiesIn text) ps
    → ◌≡◌ {A = Posted} (record { issuer = issuer; id = id; text = length out; own = drop own out; shared = drop shared out; sent = pieces_of out ps })
    (record { issuer = issuer; id = id; text = length text + length (printed_line None r); own = []; shared = printed_line None r; sent = pieces_of text ps })
written_for_others issuer id text out ps r own shared o line ends h =
    let first : drop own out ≡ [] = ap (λ n. drop n out) ends ∙ drop-length out in
    let second : drop shared out ≡ printed_line None r = (λ i. drop (line i) (o i)) ∙ drop-append_seam text _ in
    let rest : pieces_of out ps ≡ pieces_of text ps = ap (λ t. pieces_of t ps) o ∙ pieces_same text _ ps h in
    λ i. record { issuer = issuer; id = id; text = (ap length o ∙ length-append text _) i; own = first i; shared = second i; sent = rest i }

-- more at the end of the text
behind : (n : ℕ) (text line out : List ℕ) → out ≡ text ++ line → n ≤ length text → drop n out ≡ drop n text ++ line
behind n text line out is within = ap (drop n) is ∙ drop-append-le n text line within

module _ (issuer : ℕ) (id : Option ℕ) (text line out : List ℕ) (ps : List Delivery) (own shared : ℕ) (is : out ≡ text ++ line)
    (h : AllByRecursion (LiesIn text) ps) (within : shared ≤ length text) where
  longer : length out ≡ length text + length line
  longer = ap length is ∙ length-append text line

  pub written_own : own ≤ length text
      → ◌≡◌ {A = Posted} (record { issuer = issuer; id = id; text = length out; own = drop own out; shared = drop shared out; sent = pieces_of out ps })
      (record { issuer = issuer; id = id; text = length text + length line; own = drop own text ++ line; shared = drop shared text ++ line; sent = pieces_of text ps })
  written_own starts =
      let rest : pieces_of out ps ≡ pieces_of text ps = ap (λ t. pieces_of t ps) is ∙ pieces_same text line ps h in
      λ i. record { issuer = issuer; id = id; text = longer i; own = behind own text line out is starts i; shared = behind shared text line out is within i; sent = rest i }

  pub written_more_for_others : own ≡ length out
      → ◌≡◌ {A = Posted} (record { issuer = issuer; id = id; text = length out; own = drop own out; shared = drop shared out; sent = pieces_of out ps })
      (record { issuer = issuer; id = id; text = length text + length line; own = []; shared = drop shared text ++ line; sent = pieces_of text ps })
  written_more_for_others ends =
      let rest : pieces_of out ps ≡ pieces_of text ps = ap (λ t. pieces_of t ps) is ∙ pieces_same text line ps h in
      let none : drop own out ≡ [] = ap (λ n. drop n out) ends ∙ drop-length out in
      λ i. record { issuer = issuer; id = id; text = longer i; own = none i; shared = behind shared text line out is within i; sent = rest i }
