-- `close` takes the box apart, and keeps its pointer. Assumes `Logic`.
use Rattle.std.proofs.Common.{◌≡◌, List, [], ◌∷◌, ◌++◌, refl, sym, ap, subst}
use Rattle.std.specs.Prelude.{Some}
use mir.Syntax.{Fn, method}
use mir.Val.{Val}
use base.Logic.{SProp, ent, emp, id⊢}
use base.Fraction.{full_share}
use base.Fml.{ftrue, flft}
use prog.Wp.{WpFn}
use contract.Monad.{fact, fact_i}
use contract.BorrowLft.{◌⊑◌, ⊑_refl}
use contract.Running.{tables}
use types.Kit.{‵, raw, ◌⊛◌, some, later, ◌$◌, ◌∵◌, !, qed, by, move, keep, drop, use0, use1, split, join, fsplit, fjoin, feq_l, pick, suffices, await}
use types.Part.{agg}
use types.Run.{of_opd, no_more, and_then, returns, enter}
use types.ByLocal.{alloc_all, pass_all, free_all, look_at, get, sets, lands_as}
use denote.RattleType.{RattleType, owns}
use denote.RawPtr.{Ptr}
use denote.Builtin.{RawPtr}
use denote.Param.NoDrop as nodrop
use denote.Signature.{types_at, plain}
use denote.Steps.{nothing, only}
use denote.Triple.Call.{calls_at}
use denote.Triple.Clauses.{Lasts, lasts, at_exit}
use denote.Triple.Entry.{alive}
use denote.Triple.Spec.{triple_of}
use denote.Triple.Table.{framed}
use denote.Triple.Walked.{Stays, Fit, stay_dropped, walk_of}
use Rattle.std.proofs.alloc.Calls.{Goes-blank}
use Rattle.std.proofs.raw_atomic.Walks.{proved_at, leaves}
use Rattle.std.specs.contracts.alloc.Global as global
use Rattle.std.specs.contracts.boxed.Box as boxed
use Rattle.client_view.specs.contracts.view.View as view
use Rattle.lobby_c.specs.Slot.{heap-token, slot_owns}
use Rattle.std_alloc.proofs.BoxSteps.Form as box
use Rattle.std_alloc.proofs.BoxSteps.Steps.{box_out, box_in}
use Rattle.std.proofs.impls.GlobalAllocator.TheImpl.Met as heap
use Rattle.std.specs.contracts.impls.GlobalAllocator.TheImpl.{ghosts, dict}
use Rattle.std_alloc.specs.contracts.boxed.Box.into_raw as callee
use Rattle.std_alloc.proofs.boxed.Box.into_raw.Met.{met}
use Rattle.client_view.proofs.view.View.drop.Met as dropped
use Rattle.client_view.proofs.view.View.drop.Kinds as drops
use Rattle.client_view.proofs.view.View.drop.Reads as reads
use Rattle.client_view.proofs.view.View.drop.Symbol as symbol
use Rattle.lobby_c.proofs.Destruct++none.drop.Code as plain_drop
use borrow.Fn.Glue.{glue_by, glue_ps}
use borrow.Fn.Impl.{via_longer, method_Known}
use borrow.Fn.Kinds.{ended_of, stays, r_unit}
use borrow.Fn.Run.{Over}
use denote.Param.{layouts}
use denote.Triple.Carry.{AllWithin}
use Rattle.lobby_c.proofs.Callee.{V, V-laws, V-drop, A, A-laws, A-drop, E}
use Rattle.lobby_c.proofs.Values.{ptr_typed, slot_val, slot_own, slot_made, slot_typed}
use Rattle.lobby_c.specs.contracts.slot.Slot as slot
use Rattle.lobby_c.specs.contracts.slot.Slot.close.{ended, clauses}
use Rattle.lobby_c.specs.contracts.slot.Slot.close.Key.{name as #self}
use Rattle.lobby_c.proofs.slot.Slot.close.Statement.{statement}
use Rattle.lobby_c.proofs.slot.Slot.close.Code as code

pub close_spec : {M : Type 1} → statement M
unfolding plain_drop.code
close_spec {M = M} 𝓤 𝓛 𝓜 𝓡 wired =
    let H = 𝓛.H in let 𝓣 = tables 𝓤 H 𝓜 𝓡 𝓡.env in let c = clauses 𝓛 𝓜.mem 𝓡.returns in
    let fn : Fn = code.function in let Boxed : RattleType = boxed.the_row view.the_row global.the_row ghosts in
    let hs : Stays ended.signature.params ended.kept = (stay_dropped (plain (λ _. Boxed)) ended.kept.0, tt) in
    let heap_met = heap.passed 𝓡.env (code.calls-std_heap::GlobalAllocator::allocate 𝓡.env wired) (code.calls-std_heap::GlobalAllocator::deallocate 𝓡.env wired) (code.calls-std_heap::GlobalAllocator::grow 𝓡.env wired) (code.calls-std_heap::GlobalAllocator::shrink 𝓡.env wired) M 𝓤 𝓛 𝓜 𝓡 in
    let heap_drops = nodrop.glues "lobby_c::Destruct++none::drop" 𝓡.env (code.calls-lobby_c::Destruct++none::drop 𝓡.env wired) A A-laws M 𝓤 𝓛 𝓜 𝓡 in
    -- `View`'s `drop` as what lets a value of a type parameter go
    let view_drops =
    glue_by V V-laws (record { M = M; 𝓤 = 𝓤; 𝓛 = 𝓛; 𝓜 = 𝓜; 𝓡 = 𝓡 }) V-drop 𝓡.env
    (λ κs a. Lasts (ended_of 0 drops.ps drops.r) tt a) (λ κs a. lasts (ended_of 0 drops.ps drops.r) tt a)
    (λ κs a x ws. Fit (ended_of 0 drops.ps drops.r) (stays drops.ps) tt a ws × reads.Learnt tt a x (at_exit (ended_of 0 drops.ps drops.r) tt a ws))
    (λ κs a. AllWithin 1 (κs.0, tt) (V.lives, tt) × Unit {0}) 0 tt (λ κs a h. ((h, tt), tt))
    (via_longer 𝓛 (Over 𝓛 𝓜 𝓡 𝓡.env) 1 (glue_ps V V-laws) r_unit
    (λ κs a. Lasts (ended_of 0 drops.ps drops.r) tt a) (λ κs a. lasts (ended_of 0 drops.ps drops.r) tt a)
    (λ κs a x ws. Fit (ended_of 0 drops.ps drops.r) (stays drops.ps) tt a ws × reads.Learnt tt a x (at_exit (ended_of 0 drops.ps drops.r) tt a ws))
    (λ κs a. AllWithin 1 (κs.0, tt) (V.lives, tt) × Unit {0}) (method V-drop 0 (layouts [] tt)) 0 tt (λ κs. tt) (λ κs a. reads.Asked tt a) (λ κs a p. (tt, tt))
    (λ κs bd within a vss qs. method_Known 0 drops.ps drops.r reads.requires reads.ensures reads.Asked reads.Learnt reads.known (record { M = M; 𝓤 = 𝓤; 𝓛 = 𝓛; 𝓜 = 𝓜; 𝓡 = 𝓡 }) symbol.name (method V-drop 0 (layouts [] tt))
    (symbol.as_method 𝓡.env (code.calls-client_view::view::View::drop 𝓡.env wired) (method V-drop 0 (layouts [] tt)) refl) (dropped.met 𝓤 𝓛 𝓜 𝓡 (code.calls-client_view::view::View::drop 𝓡.env wired)) ((tt, qs, tt, a, vss), tt))) in
    let k = triple_of 𝓛 (callee.signature V A ghosts dict A-drop V-drop) (callee.spec V A ghosts dict A-drop V-drop 𝓛 𝓜.mem 𝓡.returns) in
    let called = met 𝓤 𝓛 𝓜 𝓡 (code.calls-std_alloc::boxed::Box::into_raw 𝓡.env wired) V A V-laws A-laws ghosts dict A-drop V-drop heap_met heap_drops view_drops in
    let toks = ‵ (flft [] full_share) ⊛ ‵ (flft [] full_share) ⊛ ‵ ftrue in
    proved_at 𝓛 ended hs c 𝓜 𝓡 (Goes-blank 𝓛 0 (plain (λ _. Boxed)) ended.kept.0 (λ κs x f. tt), tt) #self fn (code.unfolded 𝓤 H 𝓜 𝓡 wired) (λ z are.
    let v = z.0.3.0 in let vs = z.0.4.0 in let Post : Val → SProp 𝓤 = (walk_of 𝓛 ended hs c).post z in let Run : List Val → SProp 𝓤 = λ ws. WpFn 𝓤 H 𝓣.C 𝓣.Λ fn ws Post in
    qed 𝓛 ((raw (alive 𝓛 ended.signature z.0.0 z.0.1) ⊛ ‵ (owns (types_at ended.signature.params z.0.0) z.0.3 z.0.4)) ∷ raw ((c z.0.0 z.0.3).requires z.1) ∷ []) ∵ split ! $ move ! (1 ∷ []) $ fsplit ! $ keep ! (0 ∷ 2 ∷ []) $
    use1 𝓛 (‵ ((box.B E).own_val v vs)) (id⊢ 𝓤 _) $ box_out E ! v vs (λ b o h e ws fits. box_in E ! v b o v.value e refl $
    let w : Val = box.word E h b o in let typed = box.box_typed E h b o fits in
    let y : k.Ghost = ((([], ([], tt)), (full_share, (full_share, tt)), tt, (v, tt), (w ∷ [], tt)), tt) in
    -- [the box; the tokens of this call]
    nothing ! $ use0 𝓛 (raw (fact 𝓤 ([] ⊑ A.lives))) (fact_i 𝓤 ([] ⊑ A.lives) (emp 𝓤) (⊑_refl [])) $ join ! $ use0 𝓛 (raw (fact 𝓤 ([] ⊑ V.lives))) (fact_i 𝓤 ([] ⊑ V.lives) (emp 𝓤) (⊑_refl [])) $ join ! $
    nothing ! $ move ! (2 ∷ 0 ∷ []) $ fjoin ! $
    nothing ! $ use0 𝓛 (‵ (flft [] full_share)) (𝓛.lfts.lft-nil full_share) $ join ! $ use0 𝓛 (‵ (flft [] full_share)) (𝓛.lfts.lft-nil full_share) $ join ! $ join ! $ join ! $
    use1 𝓛 (raw (k.pre y)) (id⊢ 𝓤 _) $
    suffices ! (Run (w ∷ [])) (subst (λ (us : List Val). ent 𝓤 (Run (w ∷ [])) (Run us)) (sym (λ i. ws i ++ [])) (id⊢ 𝓤 (Run (w ∷ [])))) $
    enter ! 𝓣.C 𝓣.Λ fn (w ∷ []) Post $ alloc_all ! (λ l. pass_all ! refl (typed, tt) $ sets ! (of_opd ! (get ! refl)) refl typed $
    calls_at ! (framed 𝓤 H 𝓜 𝓣) k called y (and_then ! (get ! refl) (no_more !)) (λ u.
    use1 𝓛 (later (some (λ (r : Ptr). (toks ⊛ ‵ (RawPtr.own_val r (u ∷ []))) ⊛ some (λ (ls : Lasts (callee.ended V A ghosts dict A-drop V-drop) y.0.0 y.0.3). ‵ (lasts (callee.ended V A ghosts dict A-drop V-drop) y.0.0 y.0.3 ls) ⊛ ‵ (slot_owns heap-token view.the_row r (Some v.value)))))) (id⊢ 𝓤 (k.post y u)) $
    await ! tt $ pick ! (λ r. split ! $ move ! (1 ∷ []) $ pick ! (λ _. split ! $ drop ! $ move ! (1 ∷ []) $ split ! $ drop ! $ feq_l ! (λ is.
    lands_as ! (ap only is) refl (ptr_typed r) $ sets ! (of_opd ! (get ! refl)) refl (ptr_typed r) $ sets ! (agg ! (and_then ! (get ! refl) (no_more !))) refl (slot_typed r) $
    returns ! (look_at ! 0 refl) $ free_all ! refl $
    let x : (slot.the_row).Denot = record { at = r; held = Some v.value } in let Said : Type 0 = x.held ≡ Some v.value in
    use0 𝓛 (‵ (slot_own r (slot_val r ∷ []))) (slot_made 𝓛 r) $ fjoin ! $ use0 𝓛 (raw (fact 𝓤 Said)) (fact_i 𝓤 Said (emp 𝓤) refl) $ nothing ! $ nothing ! $ fjoin ! $ move ! (3 ∷ 0 ∷ 2 ∷ 1 ∷ []) $
    by ! (leaves 𝓛 ended hs c z (slot_val r) x (tt, tt) (tt, tt)))))))))
