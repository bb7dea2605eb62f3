use Rattle.std.proofs.Common.{◌≡◌, ◌∙◌, ◌+◌, ℕ, ap, arith, inl, inr, length, sym}
use Rattle.lobby_machine.specs.Work.{list_length}
use Rattle.lobby_machine.proofs.lobby.list_len.Goals as goal

-- nothing stands beside the one list
none_more : (n : ℕ) → n ≡ n + 0
none_more n = omega arith

pub returns-in-SetScriptTags : goal.returns-in-SetScriptTags
returns-in-SetScriptTags c =
    ap length c.as_slice.ensures ∙ none_more (length c.in-SetScriptTags.pairs) ∙ sym (ap list_length c.in-SetScriptTags.is)

pub returns-in-RemoveScriptTags : goal.returns-in-RemoveScriptTags
returns-in-RemoveScriptTags c =
    ap length c.as_slice-in-RemoveScriptTags.ensures ∙ none_more (length c.in-RemoveScriptTags.keys) ∙ sym (ap list_length c.in-RemoveScriptTags.is)

pub returns-in-DisableUnits : goal.returns-in-DisableUnits
returns-in-DisableUnits c =
    ap length c.as_slice-in-DisableUnits.ensures ∙ none_more (length c.in-DisableUnits.units)
    ∙ (elim c.in-DisableUnits.is as (λ _. length c.in-DisableUnits.units + 0 ≡ list_length c.args.command.now) [
      | inl e ↦ sym (ap list_length e)
      | inr e ↦ sym (ap list_length e)
    ])
