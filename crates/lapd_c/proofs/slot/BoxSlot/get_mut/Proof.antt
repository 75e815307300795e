-- The value is lent where it lies, and its place follows it.
use Rattle.lapd_c.proofs.Vocabulary.{◌≡◌, ℕ, List, [], ◌∷◌, IsSome, refl, sym, after, ghosts, Some, heap, proved}
use Rattle.lapd_c.proofs.Machine.{ !, Fml, GName, Goes-spent_ref, Logic, MutRef, RattleType, Stays, Ura, Val, a_type, addr, alloc_all, at_ret, await, bare, block_ptr, blocks, cell_at, done, ends_at, ent, enter, env, exec, fact, first, fjoin, fld, flft, follows, fpack, frame, free_all, fsep, fsplit, fsplit3, ftrue, full_share, get, group, heard, hop, inst_fn, join, keep, later, layouts, lends_Part}
use Rattle.lapd_c.proofs.Machine.{lone, look_at, look_in, mem, move}
use Rattle.lapd_c.proofs.Machine.{mut_Tells, mut_ref_to, mut_vals, named, no, nothing, of_opd, opens, param, part_at, part_of, pass_all, pick, plain, qed, raw, returns, rewrite, says, sem, sep, sets, sets_last, some, split, split3, stay_dropped, stop, sub, suffices, tables, through, use1, vptr, walk_of, whole, ‵, ◌$◌, ◌∵◌, ◌⊑◌, ◌⊛◌}
use Rattle.lapd_c.proofs.SlotPlaces.{word, slot_made, slot_opens}
use Rattle.lapd_c.specs.SlotLends.{with_held}
use Rattle.lapd_c.specs.contracts.slot.BoxSlot as slot
use Rattle.lapd_c.specs.contracts.slot.BoxSlot.get_mut as f
use Rattle.lapd_c.proofs.slot.BoxSlot.get_mut.Statement.{statement}
use Rattle.lapd_c.proofs.slot.BoxSlot.get_mut.Code as code

module _ (R : RattleType) (h : (slot.the_row R).Denot) (b o b' o' : ℕ) where
  -- all but the value: the right to free its block, and the slot's own cell
  abbrev Rest : Fml
  Rest = fsep (ghosts.dealloc_token heap (bare (lone R.mir)) (block_ptr b' o')) (cell_at full_share (slot.the_row R).mir (word (vptr b' o') ∷ []) b o)

  back : {M : Type 1} {𝓤 : Ura M} (𝓛 : Logic 𝓤) → h.at ≡ block_ptr b' o' → (w : R.Denot)
      → ent 𝓤 (sep 𝓤 (sem 𝓛 ((mem R).own_at w b' o')) (sem 𝓛 Rest)) (sem 𝓛 ((mem (slot.the_row R)).own_at (with_held h w) b o))
  unfolding part_of
  back 𝓛 there w =
      qed 𝓛 (‵ (part_at R full_share w b' o') ∷ ‵ Rest ∷ []) ∵ move ! (1 ∷ []) $ fsplit ! $ move ! (2 ∷ 0 ∷ []) $ fjoin ! $ slot_made R ! b' o' w $
      rewrite ! 0 (λ p. ‵ ((slot.the_row R).own_val (record { at = p; held = Some w }) (word (vptr b' o') ∷ []))) (sym there) refl $ move ! (1 ∷ 0 ∷ []) $ fjoin ! $
      fpack ! (List Val) (λ us. fsep (cell_at full_share (slot.the_row R).mir us b o) ((slot.the_row R).own_val (with_held h w) us)) (word (vptr b' o') ∷ []) $ done !

pub get_mut_spec : {M : Type 1} → statement M
get_mut_spec 𝓤 𝓛 𝓜 𝓡 wired T L =
    let R : RattleType = param 0 T in let S : RattleType = slot.the_row R in let end = f.ended T in let c = f.clauses T 𝓛 𝓜.mem 𝓡.returns in
    let stays : Stays end.signature.params end.kept = (stay_dropped (mut_ref_to (0 ∷ []) tt (plain (λ _. S))) no, tt) in
    let W = walk_of 𝓛 end stays c in let 𝓣 = tables 𝓤 𝓛.H 𝓜 𝓡 𝓡.env in let inst = layouts (a_type ∷ []) (T, tt) in let fn = inst_fn inst code.function in
    proved 𝓛 end stays c 𝓜 𝓡 (Goes-spent_ref 𝓛 2 (0 ∷ []) tt (plain (λ _. S)), tt)
    (f.Key.name inst) fn (code.unfolded 𝓤 𝓛.H 𝓜 𝓡 wired (T, tt))
    (λ κs. (mut_vals, tt)) (λ κs. (mut_Tells (named 0) κs.0 S, tt)) (λ κs qs bounds a g are.
    let κ = κs.0 in let q = qs.0 in let b = a.0.ref_ptr.0 in let o = a.0.ref_ptr.1 in let γ = a.0.ghost_name in let h = a.0.now in let vs = mut_vals a.0 in
    let y : W.Ghost = ((κs, qs, bounds, a, (vs, tt)), g) in
    qed 𝓛 (((‵ (flft κ q) ⊛ ‵ (flft κs.1.0 qs.1.0) ⊛ ‵ ftrue) ⊛ ‵ ((MutRef (named 0) κ S).own_val a.0 vs) ⊛ ‵ ftrue) ∷ raw (fact 𝓤 (κs.1.0 ⊑ T.lives)) ∷ raw (fact 𝓤 (IsSome h.held)) ∷ []) ∵
    move ! (2 ∷ []) $ heard ! (IsSome h.held) (λ is. split ! $ split ! $ move ! (2 ∷ []) $ split ! $ keep ! (0 ∷ 2 ∷ 3 ∷ []) $
    enter ! _ _ _ _ _ $ alloc_all ! (λ l. pass_all ! refl ((tt, tt), tt) $
    fsplit3 ! $ move ! (1 ∷ 2 ∷ 3 ∷ []) $ opens ! tt S b o (λ us. move ! (1 ∷ []) $ slot_opens R ! h.at h.held us is (λ b' o' x there held ws.
    rewrite ! 1 (λ (ws : List Val). ‵ (cell_at full_share S.mir ws b o)) ws refl $ fsplit ! $
    -- [the value; the right to free it; the slot's cell; the open borrow; obs; auth; the tokens of T]
    first ! $ blocks ! $ sets_last ! (addr ! (through ! refl (fld ! refl (hop ! (look_in ! 2 (sub ! 0 refl (whole !))) (stop !))))) refl (tt, tt) $
    exec ! 𝓣.C 𝓣.Λ (env fn.locals l) (after 1 fn.body) (at_ret _ (W.post y)) $ sets ! (of_opd ! (get ! refl)) refl (tt, tt) $
    move ! (1 ∷ 2 ∷ []) $ fjoin ! $ move ! (2 ∷ 3 ∷ 4 ∷ 1 ∷ 0 ∷ []) $ group ! 5 $
    use1 𝓛 (later (some (λ (γ' : GName). ‵ ((MutRef (named 0) κ R).own_val (record { ref_ptr = (b', o'); ghost_name = γ'; now = x }) (vptr b' o' ∷ [])) ⊛ ‵ (flft κ q) ⊛ ‵ (follows S R γ γ' (with_held h)))))
    (lends_Part 𝓛 S R (with_held h) (named 0) κ q b o b' o' γ (sem 𝓛 (Rest R h b o b' o')) (back R h b o b' o' 𝓛 there) (S.coded.code h) (S.coded.code h) x) $ await ! tt $ pick ! (λ γ'. split3 ! $
    returns ! (look_at ! 0 refl) $ free_all ! refl $ keep ! (0 ∷ 1 ∷ 2 ∷ 4 ∷ []) $
    suffices ! _ (ends_at 𝓛 end stays c y (vptr b' o') (record { ref_ptr = (b', o'); ghost_name = γ'; now = x }) (tt, tt) (tt, tt)) $
    nothing ! $ nothing ! $ fjoin ! $ join ! $ move ! (1 ∷ 3 ∷ []) $ join ! $ join ! $ frame ! $ says ! held $ done !))))))
