use Rattle.std.proofs.Common.{◌∙◌, [], ◌∷◌, map, ap, sym}
use Rattle.std.proofs.lemmas.List.{map-append}
use Rattle.std.specs.Map.Iter.{deref}
use Rattle.lobby_post.specs.Posted.{addressed}
use Rattle.lobby_maps.proofs.Walks.{addressed_none, addressed_next}
use Rattle.lobby_maps.proofs.audiences.address_all.Goals as goal

pub loop-client-init : goal.loop-client-init
loop-client-init c = addressed_none _

pub loop-client-preserved : goal.loop-client-preserved
loop-client-preserved c =
    addressed_next c.args.post.now c.loop-client.post c.address_key.new.self
    (map deref c.loop-client.yielded) c.in-Some.client.now c.loop-client.invariant
    (c.in_ok-address_key.ensures ∙ ap (λ client. addressed c.loop-client.post (client ∷ [])) c.likely_key_of.ensures)
    ∙ ap (addressed c.args.post.now) (sym (map-append deref c.loop-client.yielded (c.in-Some.client ∷ [])))
