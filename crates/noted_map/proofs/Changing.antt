-- One change, noted or not.
use Rattle.std.proofs.Common.{◌≡◌, Bool, true, false, refl, sym, subst, ◌∙◌}
use Rattle.noted_map.specs.Undoable.{Undoable, Changes}

module _ {A : Type 0} (f : A → A) (now before next last : A) (noting : Bool) (old : Undoable A) (seen : record { now = now; before = before; noting = noting } ≡ old) where
  pub unnoted : noting ≡ false → next ≡ f now → Changes f old (record { now = next; before = last; noting = noting })
  unnoted not changed =
      subst (λ (o : Undoable A). Changes f o (record { now = next; before = last; noting = noting })) seen (record {
        now = changed;
        before = λ t. let no : true ≡ false = sym t ∙ not in absurd (cc);
        noting = refl;
      })
