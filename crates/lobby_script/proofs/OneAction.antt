-- A line says one action alone.
use Rattle.std.proofs.Common.{◌≡◌, ℕ, List, sym, ap, ◌∙◌, subst, arith}
use Rattle.lobby_script.specs.declared.action.Action.{Action}
use Rattle.lobby_script.specs.declared.action.Action.TheVariants as action
use Rattle.lobby_script.specs.declared.action.Setting.TheVariants as setting
use Rattle.lobby_script.specs.declared.action.Order.TheVariants as order
use Rattle.proxy_line.specs.Words.{IsNumber, IsAddress}
use Rattle.record_lines.specs.Escapes.{StandsForBytes}
use Rattle.lobby_script.specs.Actions.{Arguments, Says, verb_of}
use Rattle.proxy_line.proofs.Parts.{parted_once}
use Rattle.lobby_script.proofs.ActionLemmas.{no_space, account_only, motd_only, limit_only, open_only, send_only, take_only, all_only, read_only, shut_only, show_only}
use Rattle.lobby_script.proofs.OneWriting.{same_number, same_lead, same_address, same_bytes, same_account}

-- those with something behind the label
module _ (text : List ℕ) (label other : ℕ) where
  same_open : (ip place : List ℕ) → Arguments text (action.Open label ip) → Arguments text (action.Open other place) → action.Open label ip ≡ action.Open other place
  same_open ip place p q =
      let lead = same_lead 32 text label other p.0 q.0 (omega arith) p.1 q.1 in
      let address = same_address q.0 ip place (subst (λ r. IsAddress r ip) lead.1 p.2) q.2 in
      (λ i. action.Open (lead.0 i) (address i))

  same_send : (bytes others : List ℕ) → Arguments text (action.Client label (order.Send bytes)) → Arguments text (action.Client other (order.Send others)) → action.Client label (order.Send bytes) ≡ action.Client other (order.Send others)
  same_send bytes others p q =
      let lead = same_lead 32 text label other p.0 q.0 (omega arith) p.1 q.1 in
      let sent = same_bytes q.0 bytes others (subst (λ r. StandsForBytes r bytes) lead.1 p.2) q.2 in
      (λ i. action.Client (lead.0 i) (order.Send (sent i)))

  same_read : (count number : ℕ) → Arguments text (action.Client label (order.Read count)) → Arguments text (action.Client other (order.Read number)) → action.Client label (order.Read count) ≡ action.Client other (order.Read number)
  same_read count number p q =
      let lead = same_lead 32 text label other p.0 q.0 (omega arith) p.1 q.1 in
      let counted = same_number q.0 count number (subst (λ r. IsNumber r count) lead.1 p.2) q.2 in
      (λ i. action.Client (lead.0 i) (order.Read (counted i)))

-- the actions of one verb, by verb
same_action : (text : List ℕ) (a b : Action) → verb_of a ≡ verb_of b → Arguments text a → Arguments text b → a ≡ b
same_action text (action.Set (setting.Account account)) b e p q = let other = account_only text b e q in ap (λ x. action.Set (setting.Account x)) (same_account text account other.0 p.0 other.2.0) ∙ sym other.1
same_action text (action.Set (setting.Motd line)) b e p q = let other = motd_only text b e q in ap (λ l. action.Set (setting.Motd l)) (sym p.0) ∙ sym other.0
same_action text (action.Set (setting.Limit bytes)) b e p q = let other = limit_only text b e q in ap (λ n. action.Set (setting.Limit n)) (same_number text bytes other.0 p other.2) ∙ sym other.1
same_action text (action.Open label ip) b e p q = let other = open_only text b e q in same_open text label other.0 ip other.1 p (subst (Arguments text) other.2 other.3) ∙ sym other.2
same_action text (action.Client label (order.Send bytes)) b e p q = let other = send_only text b e q in same_send text label other.0 bytes other.1 p (subst (Arguments text) other.2 other.3) ∙ sym other.2
same_action text (action.Client label order.Take) b e p q = let other = take_only text b e q in ap (λ n. action.Client n order.Take) (same_number text label other.0 p other.2) ∙ sym other.1
same_action text (action.Client label order.All) b e p q = let other = all_only text b e q in ap (λ n. action.Client n order.All) (same_number text label other.0 p other.2) ∙ sym other.1
same_action text (action.Client label (order.Read count)) b e p q = let other = read_only text b e q in same_read text label other.0 count other.1 p (subst (Arguments text) other.2 other.3) ∙ sym other.2
same_action text (action.Client label order.Shut) b e p q = let other = shut_only text b e q in ap (λ n. action.Client n order.Shut) (same_number text label other.0 p other.2) ∙ sym other.1
same_action text (action.Client label order.Show) b e p q = let other = show_only text b e q in ap (λ n. action.Client n order.Show) (same_number text label other.0 p other.2) ∙ sym other.1

pub says_same : (line : List ℕ) (a b : Action) → Says line a → Says line b → a ≡ b
says_same line a b p q =
    let parts = parted_once 32 (verb_of a) (verb_of b) (no_space a) (no_space b) (sym p.whole ∙ q.whole) in
    same_action q.rest a b parts.0 (subst (λ t. Arguments t a) parts.1 p.arguments) q.arguments
