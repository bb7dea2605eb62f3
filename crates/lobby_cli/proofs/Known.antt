-- Bytes that a reader lost and that a writer gained, in two steps.
use Rattle.std.proofs.Common.{ℕ, ◌+◌, List, [], ◌∷◌, ◌++◌, take, drop, Option, Some, None, refl, ap, sym, ◌∙◌, append_assoc, append-nil, take-add}
use Rattle.std.specs.Io.KnownBytes.{Appends, Consumes, Keeps}

-- a reader lost a front and then one more byte
pub Consumes-push : (old mid new : Option (List ℕ)) (front : List ℕ) (byte : ℕ)
    → Consumes old mid front → Consumes mid new (byte ∷ []) → Consumes old new (front ++ byte ∷ [])
Consumes-push None mid new front byte first next = tt
Consumes-push (Some xs) (Some ys) (Some zs) front byte first next = first
    ∙ ap (λ rest. front ++ rest) next ∙ sym (append_assoc front (byte ∷ []) zs)
Consumes-push (Some xs) (Some ys) None front byte first next = next
Consumes-push (Some xs) None new front byte first next = absurd first

-- a reader that kept its bytes has lost the same ones
pub Consumes-Keeps : (old mid new : Option (List ℕ)) (front : List ℕ) → Consumes old mid front
    → Keeps mid new → Consumes old new front
Consumes-Keeps None mid new front first next = tt
Consumes-Keeps (Some xs) (Some ys) (Some zs) front first next = first
    ∙ ap (λ rest. front ++ rest) (sym next)
Consumes-Keeps (Some xs) (Some ys) None front first next = next
Consumes-Keeps (Some xs) None new front first next = absurd first

pub Consumes-nothing : (known : Option (List ℕ)) → Consumes known known []
Consumes-nothing None = tt
Consumes-nothing (Some xs) = refl

-- a writer gained one part of a text and then the next
pub Appends-more : (old mid new : Option (List ℕ)) (text : List ℕ) (n count : ℕ)
    → Appends old mid (take n text) → Appends mid new (take count (drop n text))
    → Appends old new (take (n + count) text)
Appends-more None mid new text n count first next = tt
Appends-more (Some xs) (Some ys) (Some zs) text n count first next =
    next ∙ ap (λ front. front ++ take count (drop n text)) first
    ∙ append_assoc xs (take n text) (take count (drop n text))
    ∙ ap (λ rest. xs ++ rest) (sym (take-add n count text))
Appends-more (Some xs) (Some ys) None text n count first next = next
Appends-more (Some xs) None new text n count first next = absurd first

pub Appends-Keeps : (old mid new : Option (List ℕ)) (part : List ℕ) → Appends old mid part
    → Keeps mid new → Appends old new part
Appends-Keeps None mid new part first next = tt
Appends-Keeps (Some xs) (Some ys) (Some zs) part first next = next ∙ first
Appends-Keeps (Some xs) (Some ys) None part first next = next
Appends-Keeps (Some xs) None new part first next = absurd first

pub Appends-nothing : (known : Option (List ℕ)) (text : List ℕ) → Appends known known (take 0 text)
Appends-nothing None text = tt
Appends-nothing (Some xs) text = sym (append-nil xs)
