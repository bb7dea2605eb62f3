-- The arguments of each command keep their kinds and fit into its line, and the id its limit.
use Rattle.std.proofs.Common.{ℕ, ◌≤◌, List, [], ◌∷◌, ◌++◌, length, length-append, refl, sym, ap, subst, inl, inr, arith}
use Rattle.std.specs.Prelude.{IsTrue, IfSome, Option, Some, None}
use Rattle.line_words.specs.Bytes.{is_text}
use Rattle.command_grammar.specs.declared.command.Command.{Command}
use Rattle.command_grammar.specs.declared.command.Request.{Request}
use Rattle.command_grammar.specs.Kinds.{keeps_kinds}
use Rattle.command_grammar.specs.Sizes.{argument_bytes}
use Rattle.command_grammar.proofs.ArgumentBounds.{Bounded, unread_bounded, named_bounded}
use Rattle.command_grammar.proofs.Slices.{text_back}
use Rattle.command_grammar.proofs.Taken.{if_so}
use Rattle.command_grammar.specs.Reads.{id_limit, Carries, Asks, Reads}

asks_bounded : (text : List ℕ) (c : Command) → Asks text c → Bounded c (length text)
asks_bounded [] c m = subst (λ d. Bounded d 0) (sym m) (record { kinds = refl; bytes = omega arith })
asks_bounded (b ∷ bs) c m = elim (if_so (is_text (b ∷ bs)) _ c _ m) [
  | inl f ↦ unread_bounded f
  | inr y ↦
      let one = named_bounded y.1.name y.1.rest c (text_back y.1.name y.1.rest (subst (λ t. IsTrue (is_text t)) y.1.whole y.0)) y.1.form in
      let whole = ap length y.1.whole in
      let bytes = one.bytes in
      record { kinds = one.kinds; bytes = omega (arith, whole, length-append y.1.name y.1.rest) }
]

pub request_keeps : (line : List ℕ) (r : Request) → Reads line r → IsTrue (keeps_kinds r.command)
request_keeps line r h = (asks_bounded h.text r.command h.asks).kinds

id_keeps : (line text : List ℕ) (id : Option ℕ) → Carries line id text → IfSome id (λ i. i ≤ id_limit)
id_keeps line text None h = tt
id_keeps line text (Some id) h = h.fits

pub request_id_keeps : (line : List ℕ) (r : Request) → Reads line r → IfSome r.id (λ i. i ≤ id_limit)
request_id_keeps line r h = id_keeps h.trimmed h.text r.id h.carries

carried : (line text : List ℕ) (id : Option ℕ) → Carries line id text → length text ≤ length line
carried line text None h = let e = ap length h.0 in omega arith
carried line text (Some id) h =
    let whole = ap length h.whole in
    omega (arith, whole, length-append h.digits (h.gap ++ text), length-append h.gap text)

pub request_fits : (line : List ℕ) (r : Request) → Reads line r → argument_bytes r.command ≤ length line
request_fits line r h =
    let one = (asks_bounded h.text r.command h.asks).bytes in
    let id = carried h.trimmed h.text r.id h.carries in
    let skips = ap length h.skips.whole in
    omega (arith, skips, length-append h.skips.gap h.trimmed)
