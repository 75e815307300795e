-- The two have the same word, and own the same.
use Rattle.lapd_c.proofs.Vocabulary.{[], ◌∷◌, refl, clock_row, after, proved}
use Rattle.lapd_c.proofs.Machine.{ !, GName, Goes-spent_ref, MutRef, RattleType, Stays, addr, alloc_all, at_ret, await, blocks, done, ends_at, enter, env, exec, first, fjoin, flft, follows, frame, free_all, fsplit3, fst∗, ftrue, get, group, id⊢, join, keep, later, lends_Part, look_at, mem, move, mut_Tells, mut_ref_to, mut_vals, named, no, nothing, of_opd, open_ref, part_of, pass_all, pick, plain}
use Rattle.lapd_c.proofs.Machine.{qed, returns, says, sem, sets, sets_last, some, split, split3, stay_dropped, stop, suffices, tables, through, use1, vptr, walk_of, ‵, ◌$◌, ◌∵◌, ◌⊛◌}
use Rattle.lapd_c.specs.contracts.slot.ClockSlot as kept
use Rattle.lapd_c.specs.contracts.slot.BoxSlot as slot
use Rattle.lapd_c.specs.contracts.slot.ClockSlot.as_slot as f
use Rattle.lapd_c.proofs.slot.ClockSlot.as_slot.Statement.{statement}
use Rattle.lapd_c.proofs.slot.ClockSlot.as_slot.Code as code

pub as_slot_spec : {M : Type 1} → statement M
unfolding part_of
as_slot_spec 𝓤 𝓛 𝓜 𝓡 wired =
    let S : RattleType = kept.the_row in let G : RattleType = slot.the_row clock_row in let c = f.clauses 𝓛 𝓜.mem 𝓡.returns in let 𝓣 = tables 𝓤 𝓛.H 𝓜 𝓡 𝓡.env in let back : G.Denot → S.Denot = λ w. record { at = w.at; clock = w.held } in
    let stays : Stays f.ended.signature.params f.ended.kept = (stay_dropped (mut_ref_to (0 ∷ []) tt (plain (λ _. S))) no, tt) in let W = walk_of 𝓛 f.ended stays c in
    proved 𝓛 f.ended stays c 𝓜 𝓡 (Goes-spent_ref 𝓛 1 (0 ∷ []) tt (plain (λ _. S)), tt)
    f.Key.name code.function (code.unfolded 𝓤 𝓛.H 𝓜 𝓡 wired)
    (λ κs. (mut_vals, tt)) (λ κs. (mut_Tells (named 0) κs.0 S, tt)) (λ κs qs bounds a g are.
    let κ = κs.0 in let q = qs.0 in let b = a.0.ref_ptr.0 in let o = a.0.ref_ptr.1 in let γ = a.0.ghost_name in let h = a.0.now in let m : G.Denot = record { at = h.at; held = h.clock } in let vs = mut_vals a.0 in
    let y : W.Ghost = ((κs, qs, bounds, a, (vs, tt)), g) in
    qed 𝓛 (((‵ (flft κ q) ⊛ ‵ ftrue) ⊛ ‵ ((MutRef (named 0) κ S).own_val a.0 vs) ⊛ ‵ ftrue) ∷ ‵ ftrue ∷ []) ∵
    split ! $ split ! $ move ! (2 ∷ []) $ split ! $ keep ! (0 ∷ 2 ∷ []) $
    enter ! _ _ _ _ _ $ alloc_all ! (λ l. pass_all ! refl ((tt, tt), tt) $
    first ! $ blocks ! $ sets ! (addr ! (through ! refl (stop !))) refl (tt, tt) $ sets ! (of_opd ! (get ! refl)) refl (tt, tt) $
    sets_last ! (addr ! (through ! refl (stop !))) refl (tt, tt) $
    exec ! 𝓣.C 𝓣.Λ (env code.Mir.locals l) (after 1 code.function.body) (at_ret _ (W.post y)) $ sets ! (of_opd ! (get ! refl)) refl (tt, tt) $
    fsplit3 ! $ move ! (1 ∷ 2 ∷ 3 ∷ []) $ open_ref ! tt (mem S) $ use1 𝓛 (‵ ((mem G).own_at m b o)) (id⊢ 𝓤 _) $ nothing ! $
    move ! (2 ∷ 3 ∷ 4 ∷ 1 ∷ 0 ∷ []) $ group ! 5 $
    use1 𝓛 (later (some (λ (γ' : GName). ‵ ((MutRef (named 0) κ G).own_val (record { ref_ptr = (b, o); ghost_name = γ'; now = m }) (vptr b o ∷ [])) ⊛ ‵ (flft κ q) ⊛ ‵ (follows S G γ γ' back))))
    (lends_Part 𝓛 S G back (named 0) κ q b o b o γ (sem 𝓛 ftrue) (λ w. fst∗ 𝓤 (sem 𝓛 ((mem G).own_at w b o)) (sem 𝓛 ftrue)) (S.coded.code h) (S.coded.code h) m) $ await ! tt $ pick ! (λ γ'. split3 ! $
    returns ! (look_at ! 0 refl) $ free_all ! refl $ keep ! (0 ∷ 1 ∷ 2 ∷ []) $
    suffices ! _ (ends_at 𝓛 f.ended stays c y (vptr b o) (record { ref_ptr = (b, o); ghost_name = γ'; now = m }) (tt, tt) (tt, tt)) $
    nothing ! $ nothing ! $ fjoin ! $ join ! $ nothing ! $ move ! (2 ∷ 0 ∷ []) $ join ! $ join ! $ frame ! $ says ! refl $ done !)))
