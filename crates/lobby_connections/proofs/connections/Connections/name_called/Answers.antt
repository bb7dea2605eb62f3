use Rattle.std.proofs.Common.{◌≡◌, ℕ, List, [], ◌++◌, refl, sym, ◌∙◌, ap, subst, ⊎_elim, inl, inr}
use Rattle.std.specs.Prelude.{IfSome, None, Option, Some}
use Rattle.std.specs.List.{Contains}
use Rattle.std.proofs.lemmas.List.Elements.{Contains-push_cases}
use Rattle.lobby_connections.proofs.Lines.{nobody_in}
use Rattle.lobby_connections.specs.Attended.{AllBut, IsThere, Owes}
use Rattle.lobby_connections.specs.Table.{Table, key_in}
use Rattle.lobby_connections.proofs.connections.Connections.name_called.Goals as goal

if_some : (o : Option ℕ) (P Q : ℕ → Type 0) → ((k : ℕ) → P k → Q k) → IfSome o P → IfSome o Q
if_some None P Q f h = h
if_some (Some k) P Q f h = f k h

pub loop-client-init : goal.loop-client-init
loop-client-init c = record { named = λ client m. inl m; keys = refl; pending = refl; attended = λ rest all. all }

pub loop-client-preserved : goal.loop-client-preserved
loop-client-preserved c =
    let i = c.loop-client.invariant in
    let n = c.next_called.ensures in
    let e = c.name_client.ensures in
    let p = c.next_called.new.self in
    let q = c.name_client.new.self in
    let ks = c.args.self.now.keys in
    let same : p.keys ≡ ks = ap (λ (t : Table). t.keys) n.rest ∙ i.keys in
    record {
      named = λ client m.
          ⊎_elim
          (λ h. ⊎_elim
          (λ h. inl (subst (λ xs. Contains xs client) (sym e.called.0) h))
          (λ s. inr (subst (λ k. IfSome (key_in ks k) (λ key. IsThere q key → Owes q key)) s (subst (λ ks. IfSome (key_in ks c.in-Some.client) (λ key. IsThere q key → Owes q key)) same e.named)))
          (Contains-push_cases p.called c.in-Some.client client (subst (λ xs. Contains xs client) c.in-Some.ensures.called h)))
          (λ h. inr (if_some (key_in ks client) (λ key. IsThere p key → Owes p key) (λ key. IsThere q key → Owes q key) (λ key f w. e.claims.owes key (f (e.claims.there key w)))
          (subst (λ t. IfSome (key_in ks client) (λ key. IsThere t key → Owes t key)) (sym n.rest) h)))
          (i.named client m);
      keys = e.called.1 ∙ same;
      pending = e.rest.0 ∙ (ap (λ (t : Table). t.is_pending) n.rest ∙ i.pending);
      attended = λ rest all. e.attended rest (subst (λ t. AllBut t rest) (sym n.rest) (i.attended rest all));
    }

pub returns-clause-called : goal.returns-clause-called
returns-clause-called c = c.next_called.ensures.nobody c.in_default.is

pub returns-clause-named : goal.returns-clause-named
returns-clause-named c client m =
    let n = c.next_called.ensures in
    let none : c.loop-client.self.called ≡ [] = c.in_default.ensures.called ∙ ap (λ (xs : List ℕ). xs ++ []) (n.nobody c.in_default.is) in
    ⊎_elim
    (λ h. absurd (nobody_in client (subst (λ xs. Contains xs client) none h)))
    (λ h. subst (λ t. IfSome (key_in c.args.self.now.keys client) (λ key. IsThere t key → Owes t key)) (sym n.rest) h)
    (c.loop-client.invariant.named client m)

pub returns-clause-attended : goal.returns-clause-attended
returns-clause-attended c rest a =
    let n = c.next_called.ensures in
    record {
      all = subst (λ t. AllBut t rest) (sym n.rest) (c.loop-client.invariant.attended rest a);
      called = n.nobody c.in_default.is;
    }
