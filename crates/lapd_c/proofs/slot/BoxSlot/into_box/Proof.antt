-- The call makes the box of the word and the allocator.
use Rattle.lapd_c.proofs.Vocabulary.{◌≡◌, List, [], ◌∷◌, ◌++◌, IsSome, refl, sym, ap, ◌∙◌, subst, one, ghosts, Some, fm, Good, box_in, box_out, proved_at, leaves, after}
use Rattle.lapd_c.proofs.Machine.{ !, Goes-dropped, Lasts, RattleType, SProp, Stays, Val, WpFn, a_type, alloc_all, and_then, at_ret, await, block_ptr, blocks, by, calls_at_last, drop, emp, ent, enter, env, exec, fact, fact_i, feq_i, first, fjoin, fld, flft, free_all, fsplit3, ftrue, full_share, get, get_in, heard, id⊢, inst_fn, join, keep, lands_last, lasts, later, layout, layouts, look_at, move}
use Rattle.lapd_c.proofs.Machine.{no, no_more, nothing, of_opd, only, owns, param, pass_all, pick, plain, qed, raw, returns, rewrite, sets, some, split, split3, stay_dropped, stop, sub, suffices, tables, triple_of, types_at, use0, use1, vptr, walk_of, whole, yes, ‵, ◌$◌, ◌∵◌, ◌⊑◌, ◌⊛◌}
use Rattle.std.specs.contracts.alloc.Global as heap
use Rattle.std.proofs.alloc.Global.TheLaws as heap_laws
use Rattle.std_alloc.proofs.BoxSteps.Form as box
use Rattle.std_alloc.specs.contracts.boxed.Box.from_raw as callee
use Rattle.std_alloc.proofs.boxed.Box.from_raw.Met.{met}
use Rattle.lapd_c.proofs.Heap.{Heap, dict, forgets, glues, heap_row_laws, no_drop, on_heap, passed, ⊑_refl}
use Rattle.lapd_c.proofs.SlotPlaces.{word, slot_opens}
use Rattle.lapd_c.specs.contracts.slot.BoxSlot as slot
use Rattle.lapd_c.specs.contracts.slot.BoxSlot.into_box as f
use Rattle.lapd_c.proofs.slot.BoxSlot.into_box.Statement.{statement}
use Rattle.lapd_c.proofs.slot.BoxSlot.into_box.Code as code

pub into_box_spec : {M : Type 1} → statement M
unfolding forgets
into_box_spec {M} 𝓤 𝓛 𝓜 𝓡 wired T L =
    let H = 𝓛.H in let 𝓣 = tables 𝓤 H 𝓜 𝓡 𝓡.env in let R : RattleType = param 0 T in let S : RattleType = slot.the_row R in let end = f.ended T in let c = f.clauses T 𝓛 𝓜.mem 𝓡.returns in
    let inst = layouts (a_type ∷ []) (T, tt) in let fn = inst_fn inst code.function in let Z : RattleType = heap.the_row in let LZ = heap_laws.the_row_laws in
    let E : box.Bx = record { row = T; laws = L; al = on_heap } in let B : RattleType = box.B E in
    let allocator = passed 𝓡.env (code.calls-std_heap::GlobalAllocator::allocate 𝓡.env wired) (code.calls-std_heap::GlobalAllocator::deallocate 𝓡.env wired)
    (code.calls-std_heap::GlobalAllocator::grow 𝓡.env wired) (code.calls-std_heap::GlobalAllocator::shrink 𝓡.env wired) M 𝓤 𝓛 𝓜 𝓡 in
    let glued = glues "lapd_c::Destruct++none::drop" 𝓡.env (code.calls-lapd_c::Destruct++none::drop 𝓡.env wired) Heap heap_row_laws M 𝓤 𝓛 𝓜 𝓡 in
    let stays : Stays end.signature.params end.kept = (stay_dropped (plain (λ _. S)) no, (stay_dropped (plain (λ _. Z)) yes, tt)) in
    proved_at 𝓛 end stays c 𝓜 𝓡 (Goes-dropped 𝓛 1 (plain (λ _. S)) no (λ κs x w. refl), (Goes-dropped 𝓛 1 (plain (λ _. Z)) yes (λ κs x w. refl), tt))
    (f.Key.name inst) fn (code.unfolded 𝓤 H 𝓜 𝓡 wired (T, tt)) (λ z are.
    let κ = z.0.0.0 in let q = z.0.1.0 in let v = z.0.3.0 in let a = z.0.3.1.0 in
    let Post : Val → SProp 𝓤 = (walk_of 𝓛 end stays c).post z in let Run : List Val → SProp 𝓤 = λ ws. WpFn 𝓤 H 𝓣.C 𝓣.Λ fn ws Post in
    let h = one (layout Z) z.0.4.1.0 ((LZ.lawful 𝓛).typed a z.0.4.1.0 are.1.0) in
    let given = (‵ (flft κ q) ⊛ ‵ ftrue) ⊛ ‵ (owns (types_at end.signature.params z.0.0) z.0.3 z.0.4) in
    qed 𝓛 (given ∷ raw (fact 𝓤 (κ ⊑ T.lives)) ∷ raw (fact 𝓤 (IsSome v.held)) ∷ []) ∵ move ! (1 ∷ []) $ heard ! (κ ⊑ T.lives) (λ lives. move ! (1 ∷ []) $ heard ! (IsSome v.held) (λ is.
    split ! $ move ! (1 ∷ []) $ fsplit3 ! $ rewrite ! 1 (λ (us : List Val). ‵ (Z.own_val a us)) h.1 refl $
    slot_opens R ! v.at v.held z.0.4.0 is (λ b o x _ held ws.
    let s : Val = word (vptr b o) in let tokens = ‵ (flft κ q) ⊛ ‵ (flft [] full_share) ⊛ ‵ ftrue in
    let k = triple_of 𝓛 (callee.signature T Heap ghosts dict no_drop) (callee.spec T Heap ghosts dict no_drop 𝓛 𝓜.mem 𝓡.returns) in
    let y : k.Ghost = (((κ, ([], tt)), (q, (full_share, tt)), tt, (a, (block_ptr b o, tt)), (h.0 ∷ [], (vptr b o ∷ [], tt))), x) in
    -- [what the box owns; the allocator; nothing; the token]
    move ! (2 ∷ []) $ feq_i ! (List Val) (vptr b o ∷ []) (vptr b o ∷ []) refl $ fjoin ! $ move ! (2 ∷ 0 ∷ []) $ fjoin ! $
    use0 𝓛 (‵ (flft [] full_share)) (𝓛.lfts.lft-nil full_share) $ move ! (3 ∷ []) $ split ! $ move ! (2 ∷ 1 ∷ []) $ join ! $ move ! (1 ∷ 0 ∷ []) $ join ! $ join ! $ move ! (1 ∷ []) $
    use0 𝓛 (raw (fact 𝓤 ([] ⊑ Heap.lives))) (fact_i 𝓤 ([] ⊑ Heap.lives) (emp 𝓤) (⊑_refl [])) $ join ! $
    use0 𝓛 (raw (fact 𝓤 (κ ⊑ T.lives))) (fact_i 𝓤 (κ ⊑ T.lives) (emp 𝓤) lives) $ join ! $ move ! (1 ∷ 0 ∷ []) $ join ! $ use1 𝓛 (raw (k.pre y)) (id⊢ 𝓤 _) $
    suffices ! (Run (s ∷ h.0 ∷ [])) (subst (λ (us : List Val). ent 𝓤 (Run (s ∷ h.0 ∷ [])) (Run us)) (sym (λ i. ws i ++ (h.1 i ++ []))) (id⊢ 𝓤 (Run (s ∷ h.0 ∷ [])))) $
    enter ! 𝓣.C 𝓣.Λ fn (s ∷ h.0 ∷ []) Post $ alloc_all ! (λ l. pass_all ! refl ((tt, (tt, tt)), (h.2, tt)) $ let Ev = env fn.locals l in
    sets ! (of_opd ! (get_in ! (fld ! refl (stop !)) (sub ! 0 refl (whole !)))) refl (tt, tt) $ first ! $ blocks ! $
    calls_at_last ! (fm 𝓛 𝓜 𝓡) k (met 𝓤 𝓛 𝓜 𝓡 (code.calls-std_alloc::boxed::Box::from_raw 𝓡.env wired) T Heap L heap_row_laws ghosts dict no_drop allocator glued) y
    (and_then ! (get ! refl) (and_then ! (get ! refl) (no_more !))) (λ u.
    let told = λ (r : B.Denot). raw (fact 𝓤 (r.value ≡ x)) ⊛ raw (fact 𝓤 (r.alloc ≡ a)) in let last = callee.ended T Heap ghosts dict no_drop in
    use1 𝓛 (later (some (λ (r : B.Denot). (tokens ⊛ ‵ (B.own_val r (u ∷ []))) ⊛ some (λ (ls : Lasts last y.0.0 y.0.3). ‵ (lasts last y.0.0 y.0.3 ls) ⊛ told r)))) (id⊢ 𝓤 (k.post y u)) $
    await ! tt $ pick ! (λ r. split ! $ move ! (1 ∷ []) $ pick ! (λ _. split3 ! $ drop ! $ heard ! (r.value ≡ x) (λ same. move ! (1 ∷ []) $ split ! $ split3 ! $ move ! (1 ∷ []) $ drop ! $ join ! $ move ! (1 ∷ []) $
    box_out E ! r (u ∷ []) (λ b' o' h' e' us good. box_in E ! r b' o' r.value e' refl $ rewrite ! 0 (λ (xs : List Val). ‵ (B.own_val r xs)) (sym us) refl $
    let lands : Good (layout B) u = subst (Good (layout B)) (sym (ap only us)) (box.box_typed E h' b' o' good) in
    lands_last ! refl lands $ exec ! 𝓣.C 𝓣.Λ Ev (after 2 fn.body) (at_ret Ev Post) $ sets ! (of_opd ! (get ! refl)) refl lands $
    use0 𝓛 (raw (fact 𝓤 (v.held ≡ Some r.value))) (fact_i 𝓤 (v.held ≡ Some r.value) (emp 𝓤) (held ∙ ap Some (sym same))) $ nothing ! $ nothing ! $ fjoin ! $ nothing ! $ fjoin ! $
    returns ! (look_at ! 0 refl) $ free_all ! refl $ keep ! (3 ∷ 0 ∷ 2 ∷ 1 ∷ []) $
    by ! (leaves 𝓛 end stays c z u r (tt, (tt, tt)) (tt, (tt, tt)))))))))))))
