-- `open` makes the box again from the pointer. Assumes `Logic`.
use Rattle.std.proofs.Common.{◌≡◌, ℕ, List, [], ◌∷◌, ◌++◌, refl, sym, ap, subst}
use Rattle.std.specs.Prelude.{Option}
use mir.Syntax.{Fn}
use mir.Val.{Val}
use base.Logic.{SProp, ent, emp, id⊢}
use base.Fraction.{full_share}
use base.Fml.{ftrue, flft}
use prog.Wp.{WpFn}
use contract.Monad.{fact, fact_i}
use contract.BorrowLft.{◌⊑◌, ⊑_refl}
use contract.Running.{tables}
use types.Kit.{‵, raw, ◌⊛◌, some, later, at_ret, ◌$◌, ◌∵◌, !, qed, by, move, drop, use0, use1, split, split3, join, fsplit, fjoin, feq_i, pick, suffices, await, rewrite}
use types.Part.{sub, whole}
use types.Run.{stop, fld, of_opd, no_more, and_then, first, blocks, exec, returns, enter}
use types.ByLocal.{alloc_all, pass_all, free_all, look_at, get, get_in, sets, lands_last, env}
use denote.RattleType.{RattleType, owns}
use denote.RawPtr.{Ptr, ptr_val}
use denote.Param.{layout}
use denote.Param.NoDrop as nodrop
use denote.Signature.{types_at, plain}
use denote.Steps.{nothing, only, heard}
use denote.Triple.Call.{calls_at_last}
use denote.Triple.Clauses.{Lasts, lasts}
use denote.Triple.Entry.{alive}
use denote.Triple.Spec.{triple_of}
use denote.Triple.Table.{framed}
use denote.Triple.Walked.{Stays, stay_dropped, walk_of}
use Rattle.std.proofs.alloc.Calls.{Goes-blank, handle_tells}
use Rattle.std.proofs.VecSteps.Shapes.{after}
use Rattle.std.proofs.raw_atomic.Walks.{proved_at, leaves}
use Rattle.std.specs.contracts.alloc.Global as global
use Rattle.client_view.specs.contracts.view.View as view
use Rattle.lobby_c.specs.Slot.{heap-token, slot_owns, content, IsFull}
use Rattle.std_alloc.proofs.BoxSteps.Form as box
use Rattle.std_alloc.proofs.BoxSteps.Steps.{box_out, box_in}
use Rattle.std.proofs.impls.GlobalAllocator.TheImpl.Met as heap
use Rattle.std.specs.contracts.impls.GlobalAllocator.TheImpl.{ghosts, dict}
use Rattle.std_alloc.specs.contracts.boxed.Box.from_raw as callee
use Rattle.std_alloc.proofs.boxed.Box.from_raw.Met.{met}
use Rattle.lobby_c.proofs.Destruct++none.drop.Code as plain_drop
use Rattle.client_view.specs.Following.{Following}
use Rattle.lobby_c.proofs.Callee.{V, V-laws, A, A-laws, A-drop, E}
use Rattle.lobby_c.proofs.Values.{Good, ptr_typed, slot_val, slot_told, slot_typed}
use Rattle.lobby_c.specs.contracts.slot.Slot as slot
use Rattle.lobby_c.specs.contracts.slot.Slot.open.{ended, clauses}
use Rattle.lobby_c.specs.contracts.slot.Slot.open.Key.{name as #self}
use Rattle.lobby_c.proofs.slot.Slot.open.Statement.{statement}
use Rattle.lobby_c.proofs.slot.Slot.open.Code as code

pub open_spec : {M : Type 1} → statement M
unfolding plain_drop.code
open_spec {M = M} 𝓤 𝓛 𝓜 𝓡 wired =
    let H = 𝓛.H in let 𝓣 = tables 𝓤 H 𝓜 𝓡 𝓡.env in let c = clauses 𝓛 𝓜.mem 𝓡.returns in
    let fn : Fn = code.function in let B : RattleType = box.B E in
    let hs : Stays ended.signature.params ended.kept = (stay_dropped (plain (λ _. slot.the_row)) ended.kept.0, (stay_dropped (plain (λ _. global.the_row)) ended.kept.1.0, tt)) in
    let heap_met = heap.passed 𝓡.env (code.calls-std_heap::GlobalAllocator::allocate 𝓡.env wired) (code.calls-std_heap::GlobalAllocator::deallocate 𝓡.env wired) (code.calls-std_heap::GlobalAllocator::grow 𝓡.env wired) (code.calls-std_heap::GlobalAllocator::shrink 𝓡.env wired) M 𝓤 𝓛 𝓜 𝓡 in
    let heap_drops = nodrop.glues "lobby_c::Destruct++none::drop" 𝓡.env (code.calls-lobby_c::Destruct++none::drop 𝓡.env wired) A A-laws M 𝓤 𝓛 𝓜 𝓡 in
    let k = triple_of 𝓛 (callee.signature V A ghosts dict A-drop) (callee.spec V A ghosts dict A-drop 𝓛 𝓜.mem 𝓡.returns) in
    let called = met 𝓤 𝓛 𝓜 𝓡 (code.calls-std_alloc::boxed::Box::from_raw 𝓡.env wired) V A V-laws A-laws ghosts dict A-drop heap_met heap_drops in
    let toks = ‵ (flft [] full_share) ⊛ ‵ (flft [] full_share) ⊛ ‵ ftrue in
    proved_at 𝓛 ended hs c 𝓜 𝓡 (Goes-blank 𝓛 0 (plain (λ _. slot.the_row)) ended.kept.0 (λ κs x f. tt), (Goes-blank 𝓛 0 (plain (λ _. global.the_row)) ended.kept.1.0 (λ κs x f. tt), tt)) #self fn (code.unfolded 𝓤 H 𝓜 𝓡 wired) (λ z are.
    let s = z.0.3.0 in let a = z.0.3.1.0 in let p : Ptr = s.at in let told = slot_told p z.0.4.0 are.0.0 in let xs : Following = content s.held in
    let Post : Val → SProp 𝓤 = (walk_of 𝓛 ended hs c).post z in let Run : List Val → SProp 𝓤 = λ ws. WpFn 𝓤 H 𝓣.C 𝓣.Λ fn ws Post in let Asked : Type 0 = IsFull s.held in
    qed 𝓛 ((raw (alive 𝓛 ended.signature z.0.0 z.0.1) ⊛ ‵ (owns (types_at ended.signature.params z.0.0) z.0.3 z.0.4)) ∷ raw (fact 𝓤 Asked) ∷ []) ∵ move ! (1 ∷ []) $ heard ! Asked (λ asked. split ! $ move ! (1 ∷ []) $
    fsplit ! $ fsplit ! $ drop ! $ rewrite ! 0 (λ (h : Option Following). ‵ (slot_owns heap-token view.the_row p h)) asked refl $ move ! (1 ∷ []) $ fsplit ! $ move ! (1 ∷ []) $ drop ! $
    -- [the heap's handle; the view's block; the tokens of this call]
    handle_tells E.al ! a z.0.4.1.0 (λ hv ea fa.
    let y : k.Ghost = ((([], ([], tt)), (full_share, (full_share, tt)), tt, (a, (p, tt)), (hv ∷ [], (ptr_val p ∷ [], tt))), xs) in
    move ! (1 ∷ []) $ use0 𝓛 (raw (fact 𝓤 ([] ⊑ A.lives))) (fact_i 𝓤 ([] ⊑ A.lives) (emp 𝓤) (⊑_refl [])) $ join ! $ use0 𝓛 (raw (fact 𝓤 ([] ⊑ V.lives))) (fact_i 𝓤 ([] ⊑ V.lives) (emp 𝓤) (⊑_refl [])) $ join ! $
    nothing ! $ feq_i ! (List Val) (ptr_val p ∷ []) (ptr_val p ∷ []) refl $ fjoin ! $ move ! (2 ∷ 0 ∷ []) $ fjoin ! $
    nothing ! $ use0 𝓛 (‵ (flft [] full_share)) (𝓛.lfts.lft-nil full_share) $ join ! $ use0 𝓛 (‵ (flft [] full_share)) (𝓛.lfts.lft-nil full_share) $ join ! $ join ! $ join ! $
    use1 𝓛 (raw (k.pre y)) (id⊢ 𝓤 _) $
    suffices ! (Run (slot_val p ∷ hv ∷ [])) (subst (λ (us : List Val). ent 𝓤 (Run (slot_val p ∷ hv ∷ [])) (Run us)) (sym (λ i. told i ++ (ea i ++ []))) (id⊢ 𝓤 (Run (slot_val p ∷ hv ∷ [])))) $
    enter ! 𝓣.C 𝓣.Λ fn (slot_val p ∷ hv ∷ []) Post $ alloc_all ! (λ l. pass_all ! refl (slot_typed p, (fa, tt)) $ let Ev = env fn.locals l in
    sets ! (of_opd ! (get_in ! (fld ! refl (stop !)) (sub ! 0 refl (whole !)))) refl (ptr_typed p) $ first ! $ blocks ! $ sets ! (of_opd ! (get ! refl)) refl (ptr_typed p) $
    calls_at_last ! (framed 𝓤 H 𝓜 𝓣) k called y (and_then ! (get ! refl) (and_then ! (get ! refl) (no_more !))) (λ u.
    use1 𝓛 (later (some (λ (r : B.Denot). (toks ⊛ ‵ (B.own_val r (u ∷ []))) ⊛ some (λ (ls : Lasts (callee.ended V A ghosts dict A-drop) y.0.0 y.0.3). ‵ (lasts (callee.ended V A ghosts dict A-drop) y.0.0 y.0.3 ls) ⊛ (raw (fact 𝓤 (r.value ≡ xs)) ⊛ raw (fact 𝓤 (r.alloc ≡ a))))))) (id⊢ 𝓤 (k.post y u)) $
    await ! tt $ pick ! (λ r. split ! $ move ! (1 ∷ []) $ pick ! (λ _. split3 ! $ drop ! $ heard ! (r.value ≡ xs) (λ same. drop ! $ split ! $ drop ! $
    box_out E ! r (u ∷ []) (λ b o h e us fits. box_in E ! r b o r.value e refl $ rewrite ! 0 (λ (ws : List Val). ‵ (B.own_val r ws)) (sym us) refl $
    let good : Good (layout B) u = subst (Good (layout B)) (sym (ap only us)) (box.box_typed E h b o fits) in
    lands_last ! refl good $ exec ! 𝓣.C 𝓣.Λ Ev (after 2 fn.body) (at_ret Ev Post) $ sets ! (of_opd ! (get ! refl)) refl good $
    returns ! (look_at ! 0 refl) $ free_all ! refl $
    use0 𝓛 (raw (fact 𝓤 (r.value ≡ xs))) (fact_i 𝓤 (r.value ≡ xs) (emp 𝓤) same) $ nothing ! $ nothing ! $ fjoin ! $ nothing ! $ fjoin ! $ move ! (3 ∷ 0 ∷ 2 ∷ 1 ∷ []) $
    by ! (leaves 𝓛 ended hs c z u r (tt, (tt, tt)) (tt, (tt, tt))))))))))))
