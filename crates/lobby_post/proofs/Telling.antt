-- Letters told, from the pieces sent.
use Rattle.std.proofs.Common.{◌≡◌, ℕ, ◌+◌, List, [], ◌∷◌, ◌++◌, length, refl, sym, ap, ◌∙◌, Bool, true, false, not, map, append_assoc, append-nil, arith, length-append}
use Rattle.std.specs.Prelude.{Option, None, ◌&&◌, ◌||◌, if◌then◌else◌}
use Rattle.reply_kinds.specs.declared.Reply.{Reply}
use Rattle.reply_kinds.specs.Replies.{print_all, printed_line}
use Rattle.line_words.specs.Table.{ByNumber, same_number}
use Rattle.lobby_model.specs.State.{State}
use Rattle.lobby_model.specs.Outcome.{Audience, Letter, Reader, lines_for, tell, issuer}
use Rattle.lobby_model.specs.Events.{reader_of, under}
use Rattle.lobby_model.proofs.Delivered.{same_number_is}
use Rattle.lobby_post.specs.Mail.{bytes_for}
use Rattle.lobby_post.specs.Posted.{Posted, face, copy_to, addressed, blank, telling, with_own, has_number, AreApart, Reaches, Sends, Told, but_issuer}

pub bytes-append : (ps qs : ByNumber (List ℕ)) (d : ℕ) → bytes_for (ps ++ qs) d ≡ bytes_for ps d ++ bytes_for qs d
bytes-append [] qs d = refl
bytes-append (p ∷ ps) qs d =
    elim (same_number d p.0) as (λ b. (if b then p.1 ++ bytes_for (ps ++ qs) d else bytes_for (ps ++ qs) d)
    ≡ (if b then p.1 ++ bytes_for ps d else bytes_for ps d) ++ bytes_for qs d) [
      | true ↦ ap (λ bs. p.1 ++ bs) (bytes-append ps qs d) ∙ sym (append_assoc p.1 _ _)
      | false ↦ bytes-append ps qs d
    ]

-- THE walk: clients that are apart get one piece each, and others none
pub copies_for : (post : Posted) (cs : List ℕ) (d : ℕ) → AreApart cs → bytes_for (map (copy_to post) cs) d ≡ (if has_number cs d then face post d else [])
copies_for post [] d apart = refl
copies_for post (c ∷ cs) d apart =
    elim (same_number d c) as (λ b. same_number d c ≡ b
    → (if b then face post c ++ bytes_for (map (copy_to post) cs) d else bytes_for (map (copy_to post) cs) d)
    ≡ (if b || has_number cs d then face post d else [])) [
      | true ↦ λ t.
          let key : d ≡ c = same_number_is d c t in
          ap (λ bs. face post c ++ bs) (copies_for post cs d apart.1 ∙ ap (λ b. if b then face post d else []) (ap (has_number cs) key ∙ apart.0))
          ∙ append-nil _ ∙ ap (face post) (sym key)
      | false ↦ λ t. copies_for post cs d apart.1
    ] refl

pub print-append : (id : Option ℕ) (xs ys : List Reply) → print_all (under id (xs ++ ys)) ≡ print_all (under id xs) ++ print_all (under id ys)
print-append id [] ys = refl
print-append id (x ∷ xs) ys = ap (λ bs. printed_line id x ++ bs) (print-append id xs ys) ∙ sym (append_assoc (printed_line id x) _ _)

pub lines-append : (reader : Reader) (xs ys : List Letter) → lines_for reader (xs ++ ys) ≡ lines_for reader xs ++ lines_for reader ys
lines-append reader [] ys = refl
lines-append reader (x ∷ xs) ys = ap (λ ls. (if x.to reader then x.lines else []) ++ ls) (lines-append reader xs ys)
    ∙ sym (append_assoc (if x.to reader then x.lines else []) _ _)

-- lines for an audience, as one reader gets them: its issuer, where it is meant, behind the id
lines_seen : (mine goes : Bool) (id : Option ℕ) (lines : List Reply) (own shared : List ℕ) → own ≡ print_all (under id lines) → shared
    ≡ print_all (under None lines)
    → (if goes then (if mine then own else shared) else []) ≡ print_all (under (if mine then id else None) ((if goes then lines else []) ++ []))
lines_seen true true id lines own shared o s = o ∙ ap (λ ls. print_all (under id ls)) (sym (append-nil lines))
lines_seen false true id lines own shared o s = s ∙ ap (λ ls. print_all (under None ls)) (sym (append-nil lines))
lines_seen true false id lines own shared o s = refl
lines_seen false false id lines own shared o s = refl

-- lines that their issuer does not get
lines_hidden : (mine goes : Bool) (id : Option ℕ) (lines : List Reply) (own shared : List ℕ) → own ≡ [] → shared ≡ print_all (under None lines)
    → (if goes then (if mine then own else shared) else [])
    ≡ print_all (under (if mine then id else None) ((if not mine && goes then lines else []) ++ []))
lines_hidden true true id lines own shared o s = o
lines_hidden false true id lines own shared o s = s ∙ ap (λ ls. print_all (under None ls)) (sym (append-nil lines))
lines_hidden true false id lines own shared o s = refl
lines_hidden false false id lines own shared o s = refl

-- lines that their issuer alone gets
lines_own : (mine goes : Bool) (id : Option ℕ) (lines : List Reply) (own shared : List ℕ) → (mine || false) ≡ goes → own ≡ print_all (under id lines)
    → (if mine || false then (if mine then own else shared) else []) ≡ print_all (under (if mine then id else None) ((if goes then lines else []) ++ []))
lines_own true goes id lines own shared is o = o ∙ ap (λ ls. print_all (under id ls)) (sym (append-nil lines))
    ∙ ap (λ b. print_all (under id ((if b then lines else []) ++ []))) is
lines_own false goes id lines own shared is o = ap (λ b. print_all (under None ((if b then lines else []) ++ []))) is

-- the lines that are told: as the issuer gets them and as others get them
module _ (s : State) (old mid new : Posted) (text : ℕ) (own shared : List ℕ) (written : mid ≡ record old { text = text; own = own; shared = shared }) where
  -- all that is told to these clients
  told_at : (clients : List ℕ) (letters : List Letter) → AreApart clients → new ≡ addressed mid clients
      → ((d : ℕ) → (if has_number clients d then (if same_number d old.issuer then own else shared) else [])
      ≡ print_all (under (if same_number d old.issuer then old.id else None) (lines_for (reader_of s old.issuer d) letters)))
      → Told s old new letters
  told_at clients letters once is seen =
      let all : new ≡ addressed (record old { text = text; own = own; shared = shared }) clients = is ∙ ap (λ (p : Posted). addressed p clients) written in
      record {
        issuer = ap (λ (p : Posted). p.issuer) all;
        id = ap (λ (p : Posted). p.id) all;
        bytes = λ d.
            ap (λ (p : Posted). bytes_for p.sent d) all ∙ bytes-append old.sent _ d
            ∙ ap (λ bs. bytes_for old.sent d ++ bs) (copies_for (record old { text = text; own = own; shared = shared }) clients d once ∙ seen d);
      }

  module _ (lines : List Reply) (to : Audience) where
    -- lines that all of the audience get
    pub told_lines : Sends s mid new to → own ≡ print_all (under old.id lines) → shared ≡ print_all (under None lines)
        → Told s old new (tell to lines ∷ [])
    told_lines sends o h =
        told_at sends.clients _ sends.reached.once sends.is
        (λ d. ap (λ b. if b then (if same_number d old.issuer then own else shared) else [])
        (sends.reached.exact d ∙ ap (λ (p : Posted). to (reader_of s p.issuer d)) written)
        ∙ lines_seen (same_number d old.issuer) _ old.id lines own shared o h)

    -- lines that their issuer does not get
    pub told_lines_to_others : Sends s mid new to → own ≡ [] → shared ≡ print_all (under None lines) → Told s old new (tell (but_issuer to) lines ∷ [])
    told_lines_to_others sends o h =
        told_at sends.clients _ sends.reached.once sends.is
        (λ d. ap (λ b. if b then (if same_number d old.issuer then own else shared) else [])
        (sends.reached.exact d ∙ ap (λ (p : Posted). to (reader_of s p.issuer d)) written)
        ∙ lines_hidden (same_number d old.issuer) _ old.id lines own shared o h)

    -- lines that their issuer alone gets
    pub told_own : Reaches s old.issuer (old.issuer ∷ []) to → new ≡ addressed mid (mid.issuer ∷ []) → own ≡ print_all (under old.id lines)
        → Told s old new (tell to lines ∷ [])
    told_own reached is o =
        told_at (old.issuer ∷ []) _ reached.once (is ∙ ap (λ (p : Posted). addressed mid (p.issuer ∷ [])) written)
        (λ d. lines_own (same_number d old.issuer) _ old.id lines own shared (reached.exact d) o)

-- one line
module _ (s : State) (old mid new : Posted) (r : Reply) (to : Audience) (sends : Sends s mid new to) where
  pub told_all : mid ≡ telling old (printed_line old.id r) (printed_line None r) (length (printed_line old.id r)) → Told s old new (tell to (r ∷ []) ∷ [])
  told_all written = told_lines s old mid new _ _ _ written (r ∷ []) to sends (sym (append-nil _)) (sym (append-nil _))

  pub told_others : mid ≡ telling old [] (printed_line None r) (length (printed_line None r)) → Told s old new (tell (but_issuer to) (r ∷ []) ∷ [])
  told_others written = told_lines_to_others s old mid new _ _ _ written (r ∷ []) to sends refl (sym (append-nil _))

pub told_nothing : (s : State) (post : Posted) → Told s post post []
told_nothing s post = record { issuer = refl; id = refl; bytes = λ d. sym (append-nil _) }

pub told_then : (s : State) (a b c : Posted) (xs ys : List Letter) → Told s a b xs → Told s b c ys → Told s a c (xs ++ ys)
told_then s a b c xs ys first second = record {
  issuer = second.issuer ∙ first.issuer;
  id = second.id ∙ first.id;
  bytes = λ d.
      let lines : Option ℕ → List Letter → List ℕ = λ id ls. print_all (under id (lines_for (reader_of s a.issuer d) ls)) in
      let mine : Option ℕ = if same_number d a.issuer then a.id else None in
      second.bytes d
      ∙ (λ i. first.bytes d i ++ print_all (under (if same_number d (first.issuer i) then first.id i else None)
      (lines_for (reader_of s (first.issuer i) d) ys)))
      ∙ append_assoc (bytes_for a.sent d) _ _
      ∙ ap (λ bs. bytes_for a.sent d ++ bs) (sym (ap (λ ls. print_all (under mine ls)) (lines-append (reader_of s a.issuer d) xs ys)
      ∙ print-append mine _ _));
}

joined_lines : (goes : Bool) (xs ys : List Reply) → (if goes then xs else []) ++ ((if goes then ys else []) ++ []) ≡ (if goes then xs ++ ys else []) ++ []
joined_lines true xs ys = sym (append_assoc xs ys [])
joined_lines false xs ys = refl

-- letters to one audience are one letter
pub told_as_one : (s : State) (a b : Posted) (to : Audience) (xs ys : List Reply) → Told s a b (tell to xs ∷ tell to ys ∷ [])
    → Told s a b (tell to (xs ++ ys) ∷ [])
told_as_one s a b to xs ys told = record {
  issuer = told.issuer;
  id = told.id;
  bytes = λ d. told.bytes d ∙ ap (λ ls. bytes_for a.sent d ++ print_all (under (if same_number d a.issuer then a.id else None) ls))
      (joined_lines (to (reader_of s a.issuer d)) xs ys);
}

-- the issuer alone
pub reaches_issuer : (s : State) (c : ℕ) → Reaches s c (c ∷ []) issuer
reaches_issuer s c = record { once = (refl, tt); exact = λ d. elim (same_number d c) as (λ b. (b || false) ≡ b) [ true ↦ refl | false ↦ refl ] }

pub told_issuer : (s : State) (old mid new : Posted) (r : Reply) → mid ≡ telling old (printed_line old.id r) (printed_line None r) (length (printed_line old.id r))
    → new ≡ addressed mid (mid.issuer ∷ [])
    → Told s old new (tell issuer (r ∷ []) ∷ [])
told_issuer s old mid new r written is = told_own s old mid new _ _ _ written (r ∷ []) issuer (reaches_issuer s old.issuer) is (sym (append-nil _))

-- lines for the issuer alone, one behind another
pub with_own_none : (post : Posted) → with_own post [] ≡ post
with_own_none post = λ i. record post { text = same post.text i; own = append-nil post.own i; shared = append-nil post.shared i }
  where
    same : (n : ℕ) → n + 0 ≡ n
    same n = omega arith

pub with_own_more : (post : Posted) (xs ys : List Reply) → with_own (with_own post xs) ys ≡ with_own post (xs ++ ys)
with_own_more post xs ys =
    let more : (bytes : List ℕ) → (bytes ++ print_all (under post.id xs)) ++ print_all (under post.id ys) ≡ bytes ++ print_all (under post.id (xs ++ ys)) =
    λ bytes. append_assoc bytes _ _ ∙ ap (λ bs. bytes ++ bs) (sym (print-append post.id xs ys)) in
    let long : (post.text + length (print_all (under post.id xs))) + length (print_all (under post.id ys)) ≡ post.text + length (print_all (under post.id (xs ++ ys))) =
    omega (arith, ap length (print-append post.id xs ys), length-append (print_all (under post.id xs)) (print_all (under post.id ys))) in
    λ i. record post { text = long i; own = more post.own i; shared = more post.shared i }

pub told_own_lines : (s : State) (old mid new : Posted) (lines : List Reply) → mid ≡ with_own (blank old) lines → new
    ≡ addressed mid (mid.issuer ∷ []) → Told s old new (tell issuer lines ∷ [])
told_own_lines s old mid new lines written is = told_own s old mid new _ _ _ written lines issuer (reaches_issuer s old.issuer) is refl

-- an audience of nobody is told its lines as it is
pub told_nobody : (s : State) (post : Posted) (to : Audience) (lines : List Reply) → ((d : ℕ) → to (reader_of s post.issuer d) ≡ false)
    → Told s post post (tell to lines ∷ [])
told_nobody s post to lines nobody = record {
  issuer = refl;
  id = refl;
  bytes = λ d.
      sym (append-nil (bytes_for post.sent d))
      ∙ ap (λ b. bytes_for post.sent d ++ print_all (under (if same_number d post.issuer then post.id else None) ((if b then lines else []) ++ [])))
      (sym (nobody d));
}
