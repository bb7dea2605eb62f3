use Rattle.std.proofs.Common.{◌≤◌, refl, sym, ◌∙◌, ap, subst}
use Rattle.lobby_connections.proofs.Lines.{over_all, over_table, stays_attended}
use Rattle.lobby_connections.specs.Attended.{IsAttended}
use Rattle.lobby_connections.specs.Table.{due_count}
use Rattle.lobby_connections.specs.contracts.connections.Connections.{the_view}
use Rattle.lobby_connections.proofs.connections.Connections.go_over.Goals as goal

pub invariant_of-self : goal.invariant_of-self
invariant_of-self c =
    let i = c.self.inside in
    let d = subst (λ t. due_count t ≤ i.served) (sym c.self.view_is) (subst (λ n. n ≤ i.served) c.due.ensures c.if-self-due.true) in
    over_table _ _ _ c.self.invariant d (ap (λ v. v.items) c.swap.ensures.x_after) (ap (λ v. v.items) c.swap.ensures.y_after ∙ c.clear.ensures.items)

pub returns-then-self-due-clause-attended : goal.returns-then-self-due-clause-attended
returns-then-self-due-clause-attended c rest a =
    let i = c.self.inside in
    let d = subst (λ t. due_count t ≤ i.served) (sym c.self.view_is) (subst (λ n. n ≤ i.served) c.due.ensures c.if-self-due.true) in
    let b = subst (λ t. IsAttended t rest) (sym c.self.view_is) a in
    stays_attended (the_view i) _ rest rest b refl (over_all _ _ _ c.self.invariant d (ap (λ v. v.items) c.swap.ensures.x_after) (ap (λ v. v.items) c.swap.ensures.y_after ∙ c.clear.ensures.items) rest b.all)
