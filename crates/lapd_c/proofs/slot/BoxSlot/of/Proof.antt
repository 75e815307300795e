-- The call takes the box apart, and its word is kept, with what it owns.
use Rattle.lapd_c.proofs.Vocabulary.{◌≡◌, List, [], ◌∷◌, ◌++◌, Goes-blank, Option, refl, sym, ap, ◌∙◌, subst, ghosts, Some, fm, box_owns, box_in, box_out, proved_at, leaves}
use Rattle.lapd_c.proofs.Machine.{ !, Lasts, Ptr, RattleType, RawPtr, SProp, Stays, Val, WpFn, a_type, agg, alloc_all, and_then, await, bare, block_ptr, bounded, by, calls_at, dcons, dnil, drop, emp, ent, enter, fact, fact_i, feq_l, fjoin, flft, free_all, fsplit, fst∗, ftrue, full_share, get, heard, id⊢, in_a_block, inst_fn, join, keep, lands_as, lasts, later, layout, look_at, move, never, no}
use Rattle.lapd_c.proofs.Machine.{no_more, nothing, null_ptr, of_opd, only, owns, param, pass_all, pick, plain, ptr_val, qed, raw, returns, sem, sets, some, split, split3, stay_dropped, suffices, tables, triple_of, types_at, use0, use1, vptr, walk_of, ‵, ◌$◌, ◌∵◌, ◌⊑◌, ◌⊛◌}
use Rattle.std.specs.contracts.alloc.Global as heap
use Rattle.std_alloc.proofs.BoxSteps.Form as box
use Rattle.std_alloc.specs.contracts.boxed.Box as boxes
use Rattle.std_alloc.specs.contracts.boxed.Box.into_raw as callee
use Rattle.std_alloc.proofs.boxed.Box.into_raw.Met.{met}
use Rattle.lapd_c.proofs.Heap.{Heap, dict, forgets, glues, heap_row_laws, no_drop, on_heap, passed, ⊑_refl}
use Rattle.lapd_c.proofs.SlotPlaces.{word, slot_made}
use Rattle.lapd_c.specs.contracts.slot.BoxSlot.of as f
use Rattle.lapd_c.proofs.slot.BoxSlot.of.Statement.{statement}
use Rattle.lapd_c.proofs.slot.BoxSlot.of.Code as code

pub of_spec : {M : Type 1} → statement M
unfolding forgets
of_spec {M} 𝓤 𝓛 𝓜 𝓡 wired T L dx glue =
    let H = 𝓛.H in let 𝓣 = tables 𝓤 H 𝓜 𝓡 𝓡.env in let R : RattleType = param 0 T in let end = f.ended T dx in let c = f.clauses T dx 𝓛 𝓜.mem 𝓡.returns in
    let args = bounded (a_type ∷ []) (T, tt) (dcons dx dnil) in let fn = inst_fn args code.function in
    let E : box.Bx = record { row = T; laws = L; al = on_heap } in let B : RattleType = boxes.the_row R heap.the_row ghosts in
    let allocator = passed 𝓡.env (code.calls-std_heap::GlobalAllocator::allocate 𝓡.env wired) (code.calls-std_heap::GlobalAllocator::deallocate 𝓡.env wired)
    (code.calls-std_heap::GlobalAllocator::grow 𝓡.env wired) (code.calls-std_heap::GlobalAllocator::shrink 𝓡.env wired) M 𝓤 𝓛 𝓜 𝓡 in
    let glued = glues "lapd_c::Destruct++none::drop" 𝓡.env (code.calls-lapd_c::Destruct++none::drop 𝓡.env wired) Heap heap_row_laws M 𝓤 𝓛 𝓜 𝓡 in
    let stays : Stays end.signature.params end.kept = (stay_dropped (plain (λ _. B)) no, tt) in
    proved_at 𝓛 end stays c 𝓜 𝓡 (Goes-blank 𝓛 1 (plain (λ _. B)) no (λ κs x f. tt), tt) (f.Key.name args) fn
    (code.unfolded 𝓤 H 𝓜 𝓡 wired (T, tt) dx) (λ z are.
    let κ = z.0.0.0 in let q = z.0.1.0 in let v = z.0.3.0 in let kept : Option T.Denot = Some v.value in
    let Post : Val → SProp 𝓤 = (walk_of 𝓛 end stays c).post z in let Run : List Val → SProp 𝓤 = λ ws. WpFn 𝓤 H 𝓣.C 𝓣.Λ fn ws Post in
    let given = (‵ (flft κ q) ⊛ ‵ ftrue) ⊛ ‵ (owns (types_at end.signature.params z.0.0) z.0.3 z.0.4) in
    qed 𝓛 (given ∷ raw (fact 𝓤 (κ ⊑ T.lives)) ∷ ‵ ftrue ∷ []) ∵ move ! (1 ∷ []) $ heard ! (κ ⊑ T.lives) (λ lives. split ! $ move ! (1 ∷ []) $ fsplit ! $
    box_out E ! v z.0.4.0 (λ b o h e ws good. box_in E ! v b o v.value e refl $
    let w : Val = box.word E h b o in let typed = box.box_typed E h b o good in
    let k = triple_of 𝓛 (callee.signature T Heap ghosts dict no_drop dx) (callee.spec T Heap ghosts dict no_drop dx 𝓛 𝓜.mem 𝓡.returns) in
    let y : k.Ghost = (((κ, ([], tt)), (q, (full_share, tt)), tt, (v, tt), (w ∷ [], tt)), tt) in let tokens = ‵ (flft κ q) ⊛ ‵ (flft [] full_share) ⊛ ‵ ftrue in
    fjoin ! $ use0 𝓛 (‵ (flft [] full_share)) (𝓛.lfts.lft-nil full_share) $ move ! (2 ∷ []) $ split ! $ move ! (2 ∷ 1 ∷ []) $ join ! $ move ! (1 ∷ 0 ∷ []) $ join ! $ join ! $
    nothing ! $ use0 𝓛 (raw (fact 𝓤 ([] ⊑ Heap.lives))) (fact_i 𝓤 ([] ⊑ Heap.lives) (emp 𝓤) (⊑_refl [])) $ join ! $
    use0 𝓛 (raw (fact 𝓤 (κ ⊑ T.lives))) (fact_i 𝓤 (κ ⊑ T.lives) (emp 𝓤) lives) $ join ! $ move ! (1 ∷ 0 ∷ []) $ join ! $ use1 𝓛 (raw (k.pre y)) (id⊢ 𝓤 _) $
    suffices ! (Run (w ∷ [])) (subst (λ (us : List Val). ent 𝓤 (Run (w ∷ [])) (Run us)) (sym (λ i. ws i ++ [])) (id⊢ 𝓤 (Run (w ∷ [])))) $
    enter ! 𝓣.C 𝓣.Λ fn (w ∷ []) Post $ alloc_all ! (λ l. pass_all ! refl (typed, tt) $ sets ! (of_opd ! (get ! refl)) refl typed $
    calls_at ! (fm 𝓛 𝓜 𝓡) k (met 𝓤 𝓛 𝓜 𝓡 (code.calls-std_alloc::boxed::Box::into_raw 𝓡.env wired) T Heap L heap_row_laws ghosts dict no_drop dx allocator glued glue) y
    (and_then ! (get ! refl) (no_more !)) (λ u.
    use1 𝓛 (later (some (λ (r : Ptr). (tokens ⊛ ‵ (RawPtr.own_val r (u ∷ []))) ⊛ some (λ (ls : Lasts (callee.ended T Heap ghosts dict no_drop dx) y.0.0 y.0.3). ‵ (lasts (callee.ended T Heap ghosts dict no_drop dx) y.0.0 y.0.3 ls) ⊛ ‵ (box_owns (ghosts.dealloc_token v.alloc) R r v.value))))) (id⊢ 𝓤 _) $
    await ! tt $ pick ! (λ r. split ! $ move ! (1 ∷ []) $ pick ! (λ _. split ! $ drop ! $
    in_a_block ! r (λ p. box_owns (ghosts.dealloc_token v.alloc) R p v.value) (fst∗ 𝓤 (never 𝓤) (sem 𝓛 (ghosts.dealloc_token v.alloc (bare (layout T)) null_ptr))) (λ b' o' there.
    move ! (1 ∷ []) $ split ! $ move ! (1 ∷ []) $ feq_l ! (λ pointer. split3 ! $ move ! (1 ∷ []) $ drop ! $ join ! $ move ! (1 ∷ []) $
    lands_as ! (ap only pointer ∙ ap ptr_val there) refl (tt, tt) $
    sets ! (agg ! (and_then ! (get ! refl) (no_more !))) refl (tt, (tt, tt)) $
    slot_made R ! b' o' v.value $ use0 𝓛 (raw (fact 𝓤 (kept ≡ kept))) (fact_i 𝓤 (kept ≡ kept) (emp 𝓤) refl) $ nothing ! $ nothing ! $ fjoin ! $
    returns ! (look_at ! 0 refl) $ free_all ! refl $ keep ! (3 ∷ 0 ∷ 2 ∷ 1 ∷ []) $
    by ! (leaves 𝓛 end stays c z (word (vptr b' o')) (record { at = block_ptr b' o'; held = kept }) (tt, tt) (tt, tt)))))))))))
