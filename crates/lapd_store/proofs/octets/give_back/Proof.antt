-- `give_back` makes one room of the octets, and hands it back with the token.
use Rattle.lapd_store.proofs.Vocabulary.{◌≡◌, ℕ, ◌*◌, ◌^◌, ◌<◌, List, [], ◌∷◌, ◌++◌, length, refl, sym, ap, subst, ◌∙◌, arith, lit<, w64, proved_at, leaves, Al, seen, Goes-blank, Gives, at_gives, Gives-goes, Gives-Gives, after, block_of, octets_own, ended, clauses, name}
use Rattle.lapd_store.proofs.Pointers.{SProp, never, emp, id⊢, Lft, Share, ftrue, flft, froom, ◌⊑◌, ⊑_trans, fact, tables, bounded, owns, Ptr, block_ptr, in_a_block, types_at, nothing, heard, calls_at_last, alive, framed, Stays, stay_dropped, Goes-dropped, walk_of, inst_fn, Ty, Fn, Args, a_type, dcons, dnil, ty_unit, Val, vint, vptr, vunit, capped_is, Env, WpFn, alloc_all, pass_all, free_all}
use Rattle.lapd_store.proofs.Pointers.{look_at, get, get_in, sets, lands_last, env, ‵, raw, ◌⊛◌, given, later, prop, at_ret, ◌$◌, ◌∵◌, !, qed, by, move, drop, use0, use1, split, join, group, learn, rewrite, regoal, fsplit, fsplit3, fjoin, feq_i, await, whole, sub, stop, fld, lit, unit_lit, of_opd, no_more, and_then, first, blocks, exec, returns, enter}
use Rattle.lapd_store.proofs.Memory.{to_room}
use Rattle.lapd_store.proofs.Values.{Typed, slot_at, base_val, base_told, base_typed, octets_val, octets_told, deed_val, deed_told}
use Rattle.lapd_store.proofs.octets.give_back.Statement.{statement}
use Rattle.lapd_store.proofs.octets.give_back.Code as code

pub give_back_spec : {M : Type 1} → statement M
give_back_spec 𝓤 𝓛 𝓜 𝓡 wired A L g d dd met md =
    let H = 𝓛.H in
    let S = ended A g d dd in
    let c = clauses A g d dd 𝓛 𝓜.mem 𝓡.returns in
    let args : Args = bounded (a_type ∷ []) (A, tt) (dcons d (dcons dd dnil)) in
    let fn : Fn = inst_fn args code.function in
    let p = λ (k : ℕ). slot_at k S.signature.params in
    let stays : Stays S.signature.params S.kept = (stay_dropped (p 0) S.kept.0, (stay_dropped (p 1) S.kept.1.0, (stay_dropped (p 2) S.kept.1.1.0, (stay_dropped (p 3) S.kept.1.1.1.0, (stay_dropped (p 4) S.kept.1.1.1.1.0, tt))))) in
    let 𝓣 = tables 𝓤 H 𝓜 𝓡 𝓡.env in
    let C = 𝓣.C in
    let Λ = 𝓣.Λ in
    proved_at 𝓛 S stays c 𝓜 𝓡
    (Goes-dropped 𝓛 2 (p 0) S.kept.0 (λ κs x f. refl), (Goes-dropped 𝓛 2 (p 1) S.kept.1.0 (λ κs x f. refl), (Goes-dropped 𝓛 2 (p 2) S.kept.1.1.0 (λ κs x f. refl), (Goes-blank 𝓛 2 (p 3) S.kept.1.1.1.0 (λ κs x f. tt), (Goes-blank 𝓛 2 (p 4) S.kept.1.1.1.1.0 (λ κs x f. tt), tt)))))
    (name args) fn (code.unfolded 𝓤 H 𝓜 𝓡 wired (A, tt) d dd) (λ z are.
    let Post : Val → SProp 𝓤 = (walk_of 𝓛 S stays c).post z in
    let a = z.0.3 in
    let vss = z.0.4 in
    let Y : Al = record { row = A; laws = L; g = g; d = d; drops = dd } in
    let κ : Lft = z.0.0.0 in
    let q : Share = z.0.1.0 in
    let h = a.0.now in
    let handle = a.0.ref_ptr in
    let base = a.1.0 in
    let n = a.1.1.0 in
    let cells = a.1.1.1.0 in
    let right = a.1.1.1.1.0 in
    let fits = are.1.1.0.1 in
    let Asked : Type 0 = (cells.at ≡ base.ptr) × (length cells.written ≡ n) × (n < 2 ^ 63) × (right.at ≡ base.ptr) × (right.size ≡ n) × (right.alloc ≡ h) in
    qed 𝓛 ((raw (alive 𝓛 S.signature z.0.0 z.0.1) ⊛ ‵ (owns (types_at S.signature.params z.0.0) a vss)) ∷ (raw (fact 𝓤 (z.0.0.1.0 ⊑ A.lives)) ⊛ raw (fact 𝓤 Asked)) ∷ []) ∵
    move ! (1 ∷ []) $ split ! $ heard ! (z.0.0.1.0 ⊑ A.lives) (λ le. heard ! Asked (λ asked. split ! $ move ! (1 ∷ []) $
    fsplit ! $ fsplit ! $ drop ! $ use1 𝓛 (‵ (seen Y κ handle h)) (id⊢ 𝓤 _) $ move ! (1 ∷ []) $ fsplit ! $ drop ! $ fsplit ! $ drop ! $ fsplit3 ! $ fsplit ! $ drop ! $
    -- [the octets; the deed; nothing; the allocator; the tokens]
    in_a_block ! cells.at (λ p. octets_own p cells.written) (id⊢ 𝓤 (never 𝓤)) (λ b o at.
    use1 𝓛 (‵ (froom (block_of (length cells.written)) b o)) (to_room 𝓛 b cells.written o) $
    rewrite ! 0 (λ (k : ℕ). ‵ (froom (block_of k) b o)) asked.1 refl $
    move ! (1 ∷ []) $ fsplit ! $ drop ! $
    rewrite ! 0 (λ (u : A.Denot × ℕ × Ptr). ‵ (g.dealloc_token u.0 (block_of u.1) u.2)) (λ i. (asked.5 i, asked.4 i, (asked.3 ∙ sym asked.0 ∙ at) i)) refl $
    move ! (2 ∷ []) $ drop ! $ move ! (3 ∷ []) $ use1 𝓛 (‵ (flft κ q) ⊛ ‵ (flft z.0.0.1.0 z.0.1.1.0) ⊛ ‵ ftrue) (id⊢ 𝓤 _) $ split ! $ move ! (3 ∷ 2 ∷ 4 ∷ 0 ∷ []) $
    let τ : Ty = block_of n in
    let y = at_gives Y 𝓛 𝓜.mem 𝓡.returns κ q handle h b o n 1 τ in
    regoal ! (λ (us : List Val). prop (WpFn 𝓤 H C Λ fn us Post))
    (λ i. are.0.0 i ++ ((base_told base.ptr vss.1.0 are.1.0 ∙ ap (λ (p : Ptr). base_val p ∷ []) (sym asked.0 ∙ at)) i ++ (are.1.1.0.0 i ++ (octets_told vss.1.1.1.0 are.1.1.1.0.0 i ++ (deed_told vss.1.1.1.1.0 are.1.1.1.1.0.0 i ++ []))))) refl $
    enter ! C Λ fn (vptr handle.0 handle.1 ∷ base_val (block_ptr b o) ∷ vint w64 n ∷ octets_val ∷ deed_val ∷ []) Post $
    alloc_all ! (λ l. pass_all ! refl ((tt, tt), (base_typed (block_ptr b o), ((tt, record { fits = fits }), ((tt, tt), ((tt, (tt, tt)), tt))))) $ let En : Env 𝓤 H = env fn.locals l in
    first ! $ blocks ! $ group ! 4 $
    use1 𝓛 (raw ((Gives Y 𝓛 𝓜.mem 𝓡.returns).pre y)) (Gives-goes Y 𝓛 𝓜.mem 𝓡.returns κ q handle h (⊑_trans κ z.0.0.1.0 A.lives z.0.2.0 le) b o n 1 τ (capped_is (n * 1) (omega arith) ∙ omega arith) refl fits (lit< tt)) $
    calls_at_last ! (framed 𝓤 H 𝓜 𝓣) (Gives Y 𝓛 𝓜.mem 𝓡.returns) (met.deallocate dd) y
    (and_then ! (get ! refl) (and_then ! (get_in ! (fld ! refl (stop !)) (sub ! 0 refl (whole !))) (and_then ! (get ! refl) (and_then ! (lit ! tt) (no_more !))))) (λ v.
    use1 𝓛 (later (given (v ≡ vunit) (‵ (flft κ q)))) (Gives-Gives Y 𝓛 𝓜.mem 𝓡.returns κ q handle h b o n 1 τ v) $ await ! tt $ learn ! (λ e.
    lands_last ! refl (subst (λ (w : Val). Typed ty_unit w) (sym e) (tt, tt)) $
    exec ! C Λ En (after 1 fn.body) (at_ret En Post) $
    sets ! (of_opd ! (unit_lit !)) refl (tt, tt) $
    returns ! (look_at ! 0 refl) $ free_all ! refl $
    -- [two tokens of lifetimes]
    join ! $ feq_i ! (List Val) (vunit ∷ []) (vunit ∷ []) refl $ use0 𝓛 (raw (emp 𝓤)) (id⊢ 𝓤 (emp 𝓤)) $
    nothing ! $ nothing ! $ fjoin ! $ nothing ! $ fjoin ! $ nothing ! $ fjoin ! $ nothing ! $ fjoin ! $ nothing ! $ fjoin ! $ move ! (3 ∷ 0 ∷ 2 ∷ 1 ∷ []) $
    by ! (leaves 𝓛 S stays c z vunit tt (tt, (tt, (tt, (tt, (tt, tt))))) (tt, (tt, (tt, (tt, (tt, tt)))))))))))))
