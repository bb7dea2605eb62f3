use Rattle.std.proofs.Common.{◌≡◌, ◌∙◌, ap, sym, subst, rules, is_some, false}
use Rattle.std.specs.Str.{bytes_eq}
use Rattle.account_faults.specs.Names.{place_of}
use Rattle.account_faults.proofs.Places.{from_ok, insert_entry-push, seen-noted}
use Rattle.account_faults.proofs.names.Names.note.Goals as goal

pub returns : goal.returns
returns c =
    let unknown : is_some (place_of c.args.name.now c.args.self.now) ≡ false = search rules in
    let key : c.in_ok-name.name.items ≡ c.args.name.now = c.in_ok-name.ensures.items in
    seen-noted c.self.inside.places.entries c.insert.new.self.entries c.in_ok-name.name c.args.name.now c.args.place c.args.self.now
    (from_ok c.insert.result _ (sym c.if-is_err.ensures.value) c.insert.ensures.entries
    ∙ insert_entry-push _ c.in_ok-name.name c.args.name.now (λ other. ap (λ name. bytes_eq name other.items) key) c.args.place
    c.self.inside.places.entries (subst (λ names. is_some (place_of c.args.name.now names) ≡ false) (sym c.self.view_is) unknown))
    key c.self.view_is unknown
