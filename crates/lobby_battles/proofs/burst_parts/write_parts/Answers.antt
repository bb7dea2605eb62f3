use Rattle.std.proofs.Common.{◌≡◌, ◌∙◌, ◌++◌, ◌∷◌, map, true, ap, sym, refl, rules}
use Rattle.std.proofs.lemmas.Map.Iter.{iter_end}
use Rattle.std.specs.Prelude.{if◌then◌else◌, []}
use Rattle.std.specs.Map.Iter.{deref_pair}
use Rattle.std.specs.declared.cmp.Ordering.TheVariants.{Greater}
use Rattle.line_words.specs.Table.{name_cmp}
use Rattle.lobby_post.specs.Posted.{Posted, with_own}
use Rattle.lobby_post.proofs.Telling.{with_own_none}
use Rattle.lobby_battles.specs.OnlineUsers.{plain_user}
use Rattle.lobby_battles.specs.BurstParts.{part_of}
use Rattle.lobby_battles.proofs.Newcomer.{Tells, first_told, other_told, order_at, users_lent, tells_next, tells_all}
use Rattle.lobby_battles.proofs.burst_parts.write_parts.Goals as goal
use Rattle.lobby_battles.proofs.burst_parts.write_parts.Goals.{After-is_ne, then-is_told, else-is_told, then-is_le+in_ok-write_part, else-is_le}

pub loop-user-init : goal.loop-user-init
loop-user-init c = λ rest. refl

-- what is told once the other user is, if it is
next : (c : After-is_ne) (more : Posted) → more ≡ with_own c.if-is_le.post
    (other_told c.args.part c.args.name.now (plain_user c.args.online_user.now) c.is_ne.result (c.in-Some.user.now, plain_user c.in-Some.other.now))
    → Tells c.args.part c.args.name.now (plain_user c.args.online_user.now) c.args.post.now more
    (users_lent (c.loop-user.yielded ++ (c.in-Some.user, c.in-Some.other) ∷ [])) c.if-is_le.is_told
next c more last =
    let order : c.if-is_told.order ≡ order_at c.args.part c.args.name.now
    (plain_user c.args.online_user.now) c.loop-user.is_told c.in-Some.user.now = elim c.if-is_told.branch [
      | then-is_told w ↦ w.order-is ∙ ap (λ b. if b then Greater else name_cmp c.args.name.now c.in-Some.user.now) (sym w.if-is_told.true)
      | else-is_told w ↦ w.order-is ∙ w.cmp-order.ensures
          ∙ ap (λ b. if b then Greater else name_cmp c.args.name.now c.in-Some.user.now) (sym w.if-is_told.false)
    ] in
    let first : c.if-is_le.post ≡ with_own c.loop-user.post (first_told c.args.part c.args.name.now (plain_user c.args.online_user.now) c.is_le.result) = elim
    c.if-is_le.branch [
      | then-is_le+in_ok-write_part w ↦ w.post-is ∙ w.in_ok-write_part.ensures
          ∙ ap (λ b. with_own c.loop-user.post (first_told c.args.part c.args.name.now (plain_user c.args.online_user.now) b)) (sym w.if-is_le.true)
      | else-is_le w ↦ w.post-is ∙ sym (with_own_none c.loop-user.post)
          ∙ ap (λ b. with_own c.loop-user.post (first_told c.args.part c.args.name.now (plain_user c.args.online_user.now) b)) (sym w.if-is_le.false)
    ] in
    let after : c.if-is_le.is_told ≡ (if c.is_le.result then true else c.loop-user.is_told) = elim c.if-is_le.branch [
      | then-is_le+in_ok-write_part w ↦ w.is_told-is ∙ ap (λ b. if b then true else c.loop-user.is_told) (sym w.if-is_le.true)
      | else-is_le w ↦ w.is_told-is ∙ ap (λ b. if b then true else c.loop-user.is_told) (sym w.if-is_le.false)
    ] in
    tells_next c.args.part c.args.name.now (plain_user c.args.online_user.now) _ c.loop-user.post c.loop-user.yielded _
    (c.in-Some.user, c.in-Some.other) c.if-is_told.order c.if-is_le.post more _ c.loop-user.invariant order
    (first ∙ ap (λ b. with_own c.loop-user.post (first_told c.args.part c.args.name.now (plain_user c.args.online_user.now) b)) c.is_le.ensures)
    (after ∙ ap (λ b. if b then true else c.loop-user.is_told) c.is_le.ensures)
    (last ∙ ap (λ b. with_own c.if-is_le.post (other_told c.args.part c.args.name.now (plain_user c.args.online_user.now) b
    (c.in-Some.user.now, plain_user c.in-Some.other.now))) c.is_ne.ensures)

pub loop-user-preserved-in-Continue-branch-2 : goal.loop-user-preserved-in-Continue-branch-2
loop-user-preserved-in-Continue-branch-2 c =
    next (goal.at.loop-user-preserved-in-Continue-branch-2 c).After-is_ne _
    (c.in_ok-write_part-2.ensures ∙ ap (λ b. with_own c.if-is_le.post
    (other_told c.args.part c.args.name.now (plain_user c.args.online_user.now) b (c.in-Some.user.now, plain_user c.in-Some.other.now))) (sym c.if-is_ne.true))

pub loop-user-preserved : goal.loop-user-preserved
loop-user-preserved c =
    next (goal.at.loop-user-preserved c).After-is_ne _
    (sym (with_own_none c.if-is_le.post) ∙ ap (λ b. with_own c.if-is_le.post
    (other_told c.args.part c.args.name.now (plain_user c.args.online_user.now) b (c.in-Some.user.now, plain_user c.in-Some.other.now)))
    (sym c.if-is_ne.false))

pub returns-in_ok-write_part-3 : goal.returns-in_ok-write_part-3
returns-in_ok-write_part-3 c =
    let all : map deref_pair c.loop-user.yielded ≡ c.args.users.now.entries = search (rules, iter_end) in
    let last = c.in_ok-write_part-3.ensures ∙ ap (λ b. with_own c.loop-user.post
    (if b then [] else part_of c.args.part c.args.name.now (plain_user c.args.online_user.now))) (sym c.if-not-is_told.true) in
    tells_all c.args.part c.args.name.now (plain_user c.args.online_user.now) _ c.loop-user.post _ c.loop-user.yielded _ _ c.loop-user.invariant all last

pub returns-else-not-is_told : goal.returns-else-not-is_told
returns-else-not-is_told c =
    let all : map deref_pair c.loop-user.yielded ≡ c.args.users.now.entries = search (rules, iter_end) in
    let last = sym (with_own_none c.loop-user.post) ∙ ap (λ b. with_own c.loop-user.post
    (if b then [] else part_of c.args.part c.args.name.now (plain_user c.args.online_user.now))) (sym c.if-not-is_told.false) in
    tells_all c.args.part c.args.name.now (plain_user c.args.online_user.now) _ c.loop-user.post _ c.loop-user.yielded _ _ c.loop-user.invariant all last
