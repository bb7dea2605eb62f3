use Rattle.std.proofs.Common.{◌≡◌, [], ◌++◌, ap, arith}
use Rattle.std.specs.Prelude.{IfNone}
use Rattle.std.specs.Option.{option_to_list}
use Rattle.line_words.specs.Table.{ByNumber}
use Rattle.lobby_model.specs.State.{Client}
use Rattle.lobby_battles.specs.OnlineUsers.{users_of}
use Rattle.lobby_maps.specs.Shown.{lobby_of}
use Rattle.lobby_maps.proofs.Fitting.{fit_same}
use Rattle.lobby_maps.proofs.Lists.{listed_as}
use Rattle.lobby_maps.proofs.maps.Maps.next_dirty.Goals as goal

pub invariant_of-self : goal.invariant_of-self
invariant_of-self c = (
  c.self.invariant.0,
  fit_same _ c.self.inside.clients c.next_dirty.new.self _ _ _ _ _ c.next_dirty.ensures.clients c.next_dirty.ensures.limit
      (c.next_dirty.ensures.due [] c.self.invariant.1.rest) (c.next_dirty.ensures.known _ c.self.invariant.1.known) c.self.invariant.1,
)

pub returns-clause-plain : goal.returns-clause-plain
returns-clause-plain c = rw (← c.self.view_is) (ap (λ (m : ByNumber Client). lobby_of c.self.inside.settings c.self.inside.accounts m
    (users_of c.self.inside.online.users.entries) c.self.inside.channels c.self.inside.battles.by_number.entries c.self.inside.last_client c.self.inside.battles.last)
    c.next_dirty.ensures.clients)

pub returns-clause-first : goal.returns-clause-first
returns-clause-first c = rw (← c.self.view_is) (listed_as (λ old new. old ≡ option_to_list c.next_dirty.result ++ new)
    c.self.inside.clients c.next_dirty.new.self c.args.home (omega arith) c.next_dirty.ensures.first)

pub returns-clause-nobody : goal.returns-clause-nobody
returns-clause-nobody c = rw (← c.self.view_is) (listed_as (λ old new. IfNone c.next_dirty.result (old ≡ []))
    c.self.inside.clients c.next_dirty.new.self c.args.home (omega arith) c.next_dirty.ensures.nobody)

pub returns-clause-others : goal.returns-clause-others
returns-clause-others c = rw (← c.self.view_is) (λ worker within other. listed_as (λ old new. new ≡ old)
    c.self.inside.clients c.next_dirty.new.self worker within (c.next_dirty.ensures.others worker (omega (arith, within)) other))
