use Rattle.std.proofs.Common.{◌≡◌, ◌∙◌, [], ap, rules}
use Rattle.room_lists.specs.Tags.{tag_key, with_tags}
use Rattle.room_lists.proofs.Last.{last_alone}
use Rattle.room_lists.proofs.tags.Tags.last_pairs.Goals as goal

pub returns-in-Some-clause-alike : goal.returns-in-Some-clause-alike
returns-in-Some-clause-alike c =
    let is : c.new.result ≡ with_tags [] c.args.pairs.now = search rules in
    ap (with_tags c.args.self.now) is ∙ last_alone tag_key c.args.pairs.now c.args.self.now
