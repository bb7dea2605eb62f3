use Rattle.std.proofs.Common.{◌≡◌, ◌∙◌, sym, ap, w64, rules, not, List, ℕ}
use Rattle.std.proofs.lemmas.Int.{to_z-of_z}
use Rattle.std.proofs.lemmas.Map.Text.{is_eq-slice_cmp}
use Rattle.std.specs.Prelude.{false}
use Rattle.std.specs.Str.{bytes_eq}
use Rattle.line_words.specs.Table.{same_name}
use Rattle.room_lists.specs.Room.{new_room}
use Rattle.lobby_model.specs.Battles.{no_password, open_battle}
use Rattle.battle_rules.proofs.battles.opened_by.Goals as goal

pub returns : goal.returns
returns c =
    let asked = c.args.opening.now in
    let given = c.in_ok-texts.ensures.given in
    let passworded : c.ne.result ≡ not (same_name asked.password.now no_password) = c.ne.ensures
    ∙ ap (λ (bytes : List ℕ). not (bytes_eq bytes no_password)) c.as_slice.ensures.value
    ∙ ap not (sym (is_eq-slice_cmp asked.password.now no_password)) in
    (λ i. open_battle c.args.by.now.maps.now.plain c.args.by.now.me.now (record {
      info = record {
        battle_type = asked.battle_type;
        nat_type = asked.nat_type;
        founder = sym c.copy.ensures i;
        ip = sym c.in_ok-texts.ensures.ip i;
        port = asked.port;
        max_players = asked.max_players;
        passworded = sym passworded i;
        rank = sym (to_z-of_z w64 asked.rank (search rules)) i;
        map_hash = sym (to_z-of_z w64 asked.map_hash (search rules)) i;
        engine_name = sym given.0 i;
        engine_version = sym given.1 i;
        map = sym given.2 i;
        title = sym given.3 i;
        game_name = sym given.4 i;
        spectators = 0;
        locked = false;
      };
      password = asked.password.now;
      game_hash = asked.game_hash;
      room = new_room c.args.by.now.me.now;
    }))
