use Rattle.std.proofs.Common.{◌≡◌, [], drop, sym, ◌∙◌, subst, arith}
use Rattle.std.proofs.lemmas.Grind.{common_steps}
use Rattle.toml.specs.View.{items_view}
use Rattle.account_book.specs.Entries.{descriptions}
use Rattle.account_book.specs.Fields.{shown, shown_contents}
use Rattle.account_book.specs.File.{entries_in}
use Rattle.account_book.proofs.Index.{from_ok}
use Rattle.record_lines.proofs.Listed.{Made, Made-next, Made-start, Made-whole}
use Rattle.record_lines.proofs.head.listed_file.Goals as goal

pub loop-entry-init : goal.loop-entry-init
loop-entry-init c = Made-start _ _ c.new-made.ensures.items

pub loop-entry-preserved : goal.loop-entry-preserved
loop-entry-preserved c =
    Made-next (entries_in (shown_contents c.args.contents.now)) c.args.contents.now.format (shown c.args.contents.now.default) c.args.contents.now.entries.now
    c.loop-entry.entry-index c.entry-item.result c.in-Some.listing c.loop-entry.made.items c.put_listing.new.out.items
    c.loop-entry.invariant (omega arith) c.entry-item.is (sym c.in-Ok.ensures ∙ c.in-Some.is)
    (from_ok c.put_listing.result _ (sym c.is_err.ensures.value ∙ c.if-is_err.false) c.put_listing.ensures)

pub returns : goal.returns
returns c =
    let none : drop c.loop-entry.entry-index c.args.contents.now.entries.now ≡ [] = grind (arith, common_steps) in
    λ accounts is. Made-whole (entries_in (shown_contents c.args.contents.now)) c.loop-entry.made.items accounts
    (subst (λ left. Made (entries_in (shown_contents c.args.contents.now))
    (descriptions c.args.contents.now.format (shown c.args.contents.now.default) (items_view left)) c.loop-entry.made.items)
    none c.loop-entry.invariant) is
