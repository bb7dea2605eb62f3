-- What contracts see of a worker's connections, from what it is made of.
use Rattle.std.specs.Prelude.{◌-◌, min}
use Rattle.std.specs.HashMap.{spare}
use Rattle.slab.specs.Slab.{slab_len}
use Rattle.lobby_connections.specs.Claims.{claims_of}
use Rattle.lobby_connections.specs.Table.{Table}
use Rattle.lobby_connections.specs.declared.connections.Connections.TheInside.{Inside}

abbrev pub shown : Inside → Table
shown c = record {
  due = c.due.items;
  is_each_due = c.is_each_due;
  served = c.served;
  left = c.left.items;
  is_each_left = c.is_each_left;
  told = c.told;
  round_most = c.round_most;
  called = c.called.items;
  named = c.named.items;
  is_pending = c.is_pending;
  to_wake = c.to_wake;
  timeout = c.timeout;
  count = slab_len c.slab;
  key_bound = c.slab.capacity;
  room = min (c.slab.capacity - slab_len c.slab) (spare c.keys);
  claims = claims_of c.slab;
  keys = c.keys.entries;
}
