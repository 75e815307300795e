-- `write` takes one octet out of the row, writes it and puts it back.
use Rattle.lapd_store.proofs.Vocabulary.{◌≡◌, ℕ, ◌+◌, ◌<◌, List, [], ◌∷◌, ◌++◌, length, set, Some, refl, sym, ◌∙◌, w8, w64, full_share, u8, proved_at, leaves, after, octet, octets, octets_own}
use Rattle.lapd_store.proofs.Pointers.{SProp, wand, never, emp, id⊢, apply∗, Lft, Share, ftrue, fat, flft, froom, fact, fact_i, tables, yes, uint_in, layout, owns, Ptr, in_a_block, usize, plain, types_at, nothing, opens, closes, heard, alive, Stays, stay_dropped, stay_ref, Goes-dropped, Goes-ref, walk_of, ty_int, Val, vint, vptr, vunit, WpFn, Env, sem, alloc_all, pass_all, free_all, look_at, get}
use Rattle.lapd_store.proofs.Pointers.{get_in, through, sets, take_at, give_at, env, ‵, raw, ◌⊛◌, prop, at_ret, ◌$◌, ◌∵◌, !, qed, by, move, keep, use0, use1, use2, split, join, rewrite, regoal, fsplit, fsplit3, fjoin, fjoin3, feq_i, feq_l, whole, sub, stop, fld, init, bin, of_opd, unit_lit, assigns_last, first, blocks, exec, returns, enter}
use Rattle.lapd_store.specs.contracts.octets.Octets.{the_row as R}
use Rattle.lapd_store.specs.contracts.octets.Base.{the_row as B}
use Rattle.lapd_store.specs.contracts.octets.Octets.write as f
use Rattle.lapd_store.proofs.Memory.{one_out}
use Rattle.lapd_store.proofs.Values.{base_val, base_told, base_typed}
use Rattle.lapd_store.proofs.octets.Octets.write.Statement.{statement}
use Rattle.lapd_store.proofs.octets.Octets.write.Code as code

abbrev stayed : Stays f.ended.signature.params f.ended.kept
stayed = (stay_ref (0 ∷ []) tt (plain (λ _. R)), (stay_dropped _ yes, (stay_dropped _ yes, (stay_dropped _ yes, tt))))

pub write_spec : {M : Type 1} → statement M
write_spec 𝓤 𝓛 𝓜 𝓡 wired =
    let H = 𝓛.H in
    let c = f.clauses 𝓛 𝓜.mem 𝓡.returns in
    let fn = code.function in
    let 𝓣 = tables 𝓤 H 𝓜 𝓡 𝓡.env in
    proved_at 𝓛 f.ended stayed c 𝓜 𝓡
    (Goes-ref 𝓛 1 0 tt (plain (λ _. R)), (Goes-dropped 𝓛 1 (plain (λ _. B)) yes (λ κs x w. refl), (Goes-dropped 𝓛 1 (plain (λ _. usize)) yes (λ κs x w. refl), (Goes-dropped 𝓛 1 (plain (λ _. u8)) yes (λ κs x w. refl), tt))))
    f.Key.name fn (code.unfolded 𝓤 H 𝓜 𝓡 wired) (λ z are.
    let Post : Val → SProp 𝓤 = (walk_of 𝓛 f.ended stayed c).post z in
    let a = z.0.3 in
    let vss = z.0.4 in
    let κ : Lft = z.0.0.0 in
    let q : Share = z.0.1.0 in
    let d = a.0.now in
    let rb = a.0.ref_ptr.0 in
    let ro = a.0.ref_ptr.1 in
    let base = a.1.0 in
    let index = a.1.1.0 in
    let x = a.1.1.1.0 in
    let Asked : Type 0 = (base.ptr ≡ d.at) × (index < length d.written) in
    let new = record d { written = set d.written index (Some x) } in
    qed 𝓛 ((raw (alive 𝓛 f.ended.signature z.0.0 z.0.1) ⊛ ‵ (owns (types_at f.ended.signature.params z.0.0) a vss)) ∷ raw (fact 𝓤 Asked) ∷ []) ∵
    move ! (1 ∷ []) $ heard ! Asked (λ asked. split ! $ move ! (1 ∷ []) $ fsplit ! $ fsplit3 ! $ feq_l ! (λ passed.
    move ! (3 ∷ []) $ use1 𝓛 (‵ (flft κ q) ⊛ ‵ ftrue) (id⊢ 𝓤 _) $ split ! $ keep ! (2 ∷ 3 ∷ 0 ∷ []) $
    regoal ! (λ (us : List Val). prop (WpFn 𝓤 H 𝓣.C 𝓣.Λ fn us Post)) (λ i. passed i ++ (base_told base.ptr vss.1.0 are.1.0 i ++ (are.1.1.0.0 i ++ (are.1.1.1.0.0 i ++ [])))) refl $
    enter ! 𝓣.C 𝓣.Λ fn (vptr rb ro ∷ base_val base.ptr ∷ vint w64 index ∷ vint w8 x ∷ []) Post $
    alloc_all ! (λ l. pass_all ! refl ((tt, tt), (base_typed base.ptr, ((tt, record { fits = are.1.1.0.1 }), ((tt, record { fits = are.1.1.1.0.1 }), tt)))) $
    let En : Env 𝓤 H = env fn.locals l in
    -- [what self is seen at; its borrow; the token]
    opens ! tt R {h = d} rb ro (λ us. move ! (1 ∷ []) $ fsplit ! $ move ! (1 ∷ []) $
    in_a_block ! d.at (λ p. octets_own p d.written) (id⊢ 𝓤 (never 𝓤)) (λ b o e.
    let at : ℕ = index + o in
    let Way : SProp 𝓤 = wand 𝓤 (sem 𝓛 (octet b at (Some x))) (sem 𝓛 (octets b o new.written)) in
    take_at ! 2 $ rewrite ! 0 (λ (p : Ptr). ‵ (fat full_share (layout B) (l 2) 0 (base_val p))) (asked.0 ∙ e) refl $ give_at ! 2 $ first ! $ blocks ! $
    sets ! (bin ! (get_in ! (fld ! refl (stop !)) (sub ! 0 refl (whole !))) (get ! refl) tt) refl (tt, tt) $
    use1 𝓛 (‵ (froom (ty_int w8) b at) ⊛ raw Way) (one_out 𝓛 b d.written index o at x asked.1 refl) $ split ! $
    -- [room for the octet; the way back; the fields; self's cell; the open borrow]
    assigns_last ! (of_opd ! (get ! refl)) (through ! refl (stop !)) (init ! 0 refl (tt, record { fits = are.1.1.1.0.1 })) $
    exec ! 𝓣.C 𝓣.Λ En (after 1 fn.body) (at_ret En Post) $
    sets ! (of_opd ! (unit_lit !)) refl (tt, tt) $
    use1 𝓛 (‵ (octet b at (Some x))) (uint_in 𝓛 full_share w8 x b at) $
    use2 𝓛 (‵ (octets b o new.written)) (apply∗ 𝓤 (sem 𝓛 (octet b at (Some x))) (sem 𝓛 (octets b o new.written))) $
    rewrite ! 0 (λ (p : Ptr). ‵ (octets_own p new.written)) (sym e) refl $ move ! (1 ∷ 0 ∷ []) $ fjoin ! $ move ! (1 ∷ 0 ∷ []) $ closes ! tt R new us rb ro $
    returns ! (look_at ! 0 refl) $ free_all ! refl $
    -- [what self is seen at; its borrow; the token]
    let Given : Type 0 = (d.at ≡ d.at) × (new.written ≡ set d.written index (Some x)) in
    keep ! (2 ∷ 0 ∷ 1 ∷ []) $ nothing ! $ move ! (1 ∷ 0 ∷ []) $ join ! $
    move ! (1 ∷ 2 ∷ []) $ feq_i ! (List Val) vss.0 (vptr rb ro ∷ []) passed $ fjoin3 ! $ nothing ! $ nothing ! $ fjoin ! $ nothing ! $ fjoin ! $ nothing ! $ fjoin ! $ move ! (1 ∷ 0 ∷ []) $ fjoin ! $
    feq_i ! (List Val) (vunit ∷ []) (vunit ∷ []) refl $ use0 𝓛 (raw (fact 𝓤 Given)) (fact_i 𝓤 Given (emp 𝓤) (refl, refl)) $ move ! (3 ∷ 2 ∷ 1 ∷ 0 ∷ []) $
    by ! (leaves 𝓛 f.ended stayed c z vunit tt (new, (tt, (tt, (tt, tt)))) (tt, (tt, (tt, (tt, tt)))))))))))
