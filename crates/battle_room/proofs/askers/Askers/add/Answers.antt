use Rattle.std.proofs.Common.{◌≡◌, ◌∙◌, [], ◌∷◌, ◌++◌, ap, sym, false}
use Rattle.std.specs.Prelude.{ℕ, List, map}
use Rattle.line_words.specs.Table.{is_among}
use Rattle.room_lists.specs.Room as room
use Rattle.battle_room.proofs.Named.{index_more, values_more}
use Rattle.battle_room.proofs.askers.Askers.add.Goals as goal

pub invariant_of-self-2 : goal.invariant_of-self-2
invariant_of-self-2 c =
    let none : is_among c.copy.result (map (λ (a : room.Asker). a.name) c.args.self.now) ≡ false =
    ap (λ (name : List ℕ). is_among name (map (λ (a : room.Asker). a.name) c.args.self.now)) c.copy.ensures ∙ c.requires in (
      index_more (λ (a : room.Asker). a.name) c.self.inside.by_name c.copy.result c.new.result c.insert.new.self.entries c.self.invariant.0 c.args.self.now c.self.view_is none c.in_ok-insert.ensures.entries
          (c.copy.ensures ∙ sym (ap (λ (a : room.Asker). a.name) c.new.ensures)),
      c.insert.ensures.unique,
    )

pub returns-clause-ok : goal.returns-clause-ok
returns-clause-ok c =
    let none : is_among c.copy.result (map (λ (a : room.Asker). a.name) c.args.self.now) ≡ false =
    ap (λ (name : List ℕ). is_among name (map (λ (a : room.Asker). a.name) c.args.self.now)) c.copy.ensures ∙ c.requires in
    values_more (λ (a : room.Asker). a.name) c.self.inside.by_name c.copy.result c.new.result c.insert.new.self.entries c.self.invariant.0 c.args.self.now c.self.view_is none c.in_ok-insert.ensures.entries
    ∙ ap (λ (new : room.Asker). c.args.self.now ++ new ∷ []) c.new.ensures
