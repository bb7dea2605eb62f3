-- The verb of a line decides which action it says.
use Rattle.std.proofs.Common.{◌≡◌, ℕ, ◌+◌, ◌*◌, false, List, ◌∷◌, ◌++◌, get_or, Option, Some, None, refl, sym, ap, ◌∙◌, subst, arith, codes}
use Rattle.line_words.specs.Bytes.{is_text, has_byte}
use Rattle.lobby_script.specs.declared.action.Action.{Action}
use Rattle.lobby_script.specs.declared.action.Action.TheVariants as action
use Rattle.lobby_script.specs.declared.action.Setting.TheVariants as setting
use Rattle.lobby_script.specs.declared.action.Order.TheVariants as order
use Rattle.proxy_line.specs.Words.{Finds, PartedAt}
use Rattle.proxy_line.proofs.Parts.{parted_once}
use Rattle.lobby_script.specs.Actions.{Arguments, IsAccount, IsLimit, IsMotd, IsOpen, IsPlain, IsRead, IsSend, Says, verb_of}

finds_same : {X : Type 0} (P Q : X → Type 0) (o : Option X) → ((x : X) → P x → Q x) → ((x : X) → Q x → P x) → Finds P o → Finds Q o
finds_same P Q None to from h = record { sound = tt; complete = λ x q. h.complete x (from x q) }
finds_same P Q (Some y) to from h = record { sound = to y h.sound; complete = λ x q. h.complete x (from x q) }

-- the second and third letters tell the verbs apart
abbrev letters : List ℕ → ℕ
letters verb = 256 * get_or verb 1 0 + get_or verb 2 0

abbrev Chosen : List ℕ → List ℕ → Action → Type 0
Chosen verb text a = (verb ≡ verb_of a) × Arguments text a

-- what is found for a verb is the action that the line says
pub found : (P : Action → Type 0) (verb name text : List ℕ) (o : Option Action) → verb ≡ name → ((a : Action) → P a → Chosen name text a) → ((a : Action) → name ≡ verb_of a → Arguments text a → P a) → Finds P o → Finds (Chosen verb text) o
found P verb name text o is to only = finds_same P (Chosen verb text) o (λ a h. let chosen = to a h in (is ∙ chosen.0, chosen.1)) (λ a h. only a (sym is ∙ h.0) h.1)

module _ (text : List ℕ) where
  pub account_is : (a : Action) → IsAccount text a → Chosen (codes "account") text a
  account_is a h = subst (Chosen (codes "account") text) (sym h.1) (refl, h.2)

  pub account_only : (a : Action) → codes "account" ≡ verb_of a → Arguments text a → IsAccount text a
  account_only (action.Set (setting.Account account)) e h = (account, refl, h)
  account_only (action.Client label order.Take) e h = absurd (omega (arith, ap letters e))
  account_only (action.Set (setting.Limit bytes)) e h = absurd (omega (arith, ap letters e))
  account_only _ e h = absurd (omega (arith, ap letters e))

  pub motd_is : (a : Action) → IsMotd text a → Chosen (codes "motd") text a
  motd_is a h = subst (Chosen (codes "motd") text) (sym h.0) (refl, (refl, h.1))

  pub motd_only : (a : Action) → codes "motd" ≡ verb_of a → Arguments text a → IsMotd text a
  motd_only (action.Set (setting.Motd line)) e h = (ap (λ l. action.Set (setting.Motd l)) (sym h.0), ap is_text h.0 ∙ h.1)
  motd_only (action.Client label order.Take) e h = absurd (omega (arith, ap letters e))
  motd_only (action.Set (setting.Limit bytes)) e h = absurd (omega (arith, ap letters e))
  motd_only _ e h = absurd (omega (arith, ap letters e))

  pub limit_is : (a : Action) → IsLimit text a → Chosen (codes "limit") text a
  limit_is a h = subst (Chosen (codes "limit") text) (sym h.1) (refl, h.2)

  pub limit_only : (a : Action) → codes "limit" ≡ verb_of a → Arguments text a → IsLimit text a
  limit_only (action.Set (setting.Limit bytes)) e h = (bytes, refl, h)
  limit_only (action.Client label order.Take) e h = absurd (omega (arith, ap letters e))
  limit_only _ e h = absurd (omega (arith, ap letters e))

  pub open_is : (a : Action) → IsOpen text a → Chosen (codes "open") text a
  open_is a h = (ap verb_of (sym h.2), h.3)

  pub open_only : (a : Action) → codes "open" ≡ verb_of a → Arguments text a → IsOpen text a
  open_only (action.Open label ip) e h = (label, ip, refl, h)
  open_only (action.Client label order.Take) e h = absurd (omega (arith, ap letters e))
  open_only (action.Set (setting.Limit bytes)) e h = absurd (omega (arith, ap letters e))
  open_only _ e h = absurd (omega (arith, ap letters e))

  pub send_is : (a : Action) → IsSend text a → Chosen (codes "send") text a
  send_is a h = (ap verb_of (sym h.2), h.3)

  pub send_only : (a : Action) → codes "send" ≡ verb_of a → Arguments text a → IsSend text a
  send_only (action.Client label (order.Send bytes)) e h = (label, bytes, refl, h)
  send_only (action.Set (setting.Limit bytes)) e h = absurd (omega (arith, ap letters e))
  send_only _ e h = absurd (omega (arith, ap letters e))

  pub take_is : (a : Action) → IsPlain text order.Take a → Chosen (codes "take") text a
  take_is a h = subst (Chosen (codes "take") text) (sym h.1) (refl, h.2)

  pub take_only : (a : Action) → codes "take" ≡ verb_of a → Arguments text a → IsPlain text order.Take a
  take_only (action.Client label order.Take) e h = (label, refl, h)
  take_only (action.Set (setting.Limit bytes)) e h = absurd (omega (arith, ap letters e))
  take_only _ e h = absurd (omega (arith, ap letters e))

  pub all_is : (a : Action) → IsPlain text order.All a → Chosen (codes "all") text a
  all_is a h = subst (Chosen (codes "all") text) (sym h.1) (refl, h.2)

  pub all_only : (a : Action) → codes "all" ≡ verb_of a → Arguments text a → IsPlain text order.All a
  all_only (action.Client label order.All) e h = (label, refl, h)
  all_only (action.Set (setting.Limit bytes)) e h = absurd (omega (arith, ap letters e))
  all_only _ e h = absurd (omega (arith, ap letters e))

  pub read_is : (a : Action) → IsRead text a → Chosen (codes "read") text a
  read_is a h = (ap verb_of (sym h.2), h.3)

  pub read_only : (a : Action) → codes "read" ≡ verb_of a → Arguments text a → IsRead text a
  read_only (action.Client label (order.Read count)) e h = (label, count, refl, h)
  read_only (action.Set (setting.Limit bytes)) e h = absurd (omega (arith, ap letters e))
  read_only _ e h = absurd (omega (arith, ap letters e))

  pub shut_is : (a : Action) → IsPlain text order.Shut a → Chosen (codes "shut") text a
  shut_is a h = subst (Chosen (codes "shut") text) (sym h.1) (refl, h.2)

  pub shut_only : (a : Action) → codes "shut" ≡ verb_of a → Arguments text a → IsPlain text order.Shut a
  shut_only (action.Client label order.Shut) e h = (label, refl, h)
  shut_only (action.Set (setting.Limit bytes)) e h = absurd (omega (arith, ap letters e))
  shut_only _ e h = absurd (omega (arith, ap letters e))

  pub show_is : (a : Action) → IsPlain text order.Show a → Chosen (codes "show") text a
  show_is a h = subst (Chosen (codes "show") text) (sym h.1) (refl, h.2)

  pub show_only : (a : Action) → codes "show" ≡ verb_of a → Arguments text a → IsPlain text order.Show a
  show_only (action.Client label order.Show) e h = (label, refl, h)
  show_only (action.Set (setting.Limit bytes)) e h = absurd (omega (arith, ap letters e))
  show_only _ e h = absurd (omega (arith, ap letters e))

pub no_space : (a : Action) → has_byte 32 (verb_of a) ≡ false
no_space (action.Set (setting.Limit bytes)) = refl
no_space (action.Client label order.Take) = refl
no_space _ = refl

-- a line whose parts say an action says it, and no other
pub says_it : (line verb text : List ℕ) (o : Option Action) → PartedAt 32 line verb text → Finds (Chosen verb text) o → Finds (Says line) o
says_it line verb text o parts =
    finds_same (Chosen verb text) (Says line) o
    (λ a h. record { rest = text; whole = parts.whole ∙ ap (λ v. v ++ 32 ∷ text) h.0; arguments = h.1 })
    (λ a h.
    let same = parted_once 32 verb (verb_of a) parts.first (no_space a) (sym parts.whole ∙ h.whole) in
    (same.0, subst (λ t. Arguments t a) (sym same.1) h.arguments))
