-- `take` is given a block and cuts it into octets that were not written.
use Rattle.lapd_store.proofs.Vocabulary.{◌≡◌, ℕ, ◌*◌, ◌^◌, ◌<◌, List, [], ◌∷◌, ◌++◌, replicate, None, true, false, refl, ◌∙◌, arith, lit<, w64, Ok, Err, proved_at, leaves, Al, seen, Takes, at_takes, Answered, Answer-typed, Takes-goes, Takes-gives, answers, after, head, arm_body, first_Good, ok_of, err_of, block_of, octets}
use Rattle.std.specs.contracts.alloc.AllocError as error
use Rattle.lapd_store.proofs.Pointers.{SProp, emp, id⊢, Lft, Share, ftrue, flft, ◌⊑◌, ⊑_trans, fact, fact_i, tables, Is, param, bounded, layout, RattleType, owns, Ptr, block_ptr, types_at, type_at, nothing, heard, owned, Struct, Struct-Makes, Tuple, calls_at, alive, framed, Stays, stay_dropped, Goes-dropped, walk_of, inst_fn, Ty, Fn, Args, Body, a_type, dcons, dnil, Val, vint, vptr, vstruct}
use Rattle.lapd_store.proofs.Pointers.{vcons, vnil, capped_is, Env, WpFn, Wp, after_seq, at_return, alloc_all, pass_all, free_all, look_at, get, get_in, get_tag, sets, sets_last, lands_as, env, Post as After, any_q, ‵, raw, ◌⊛◌, later, prop, at_ret, ◌$◌, ◌∵◌, !, qed, by, move, drop, use0, use1, use2, use3, split, join, regoal, fsplit, fjoin, await, live, vrt, in_variant, whole, agg, stop, fld}
use Rattle.lapd_store.proofs.Pointers.{lit, of_opd, no_more, and_then, first, switches_on, exec, returns, enter}
use denote.Struct.Declared as Declared
use Rattle.lapd_store.specs.contracts.octets.Base as begin
use Rattle.lapd_store.specs.contracts.octets.Octets as octs
use Rattle.lapd_store.specs.contracts.octets.Deed as deed
use Rattle.lapd_store.specs.contracts.octets.take.{ended, clauses}
use Rattle.lapd_store.specs.contracts.octets.take.Key.{name}
use Rattle.lapd_store.proofs.Memory.{of_room}
use Rattle.lapd_store.proofs.Values.{Typed, slot_at, base_val, base_typed, base_own, base_made, octets_val, octets_fields, octets_made, deed_val, deed_fields, deed_made, three_val, three_of}
use Rattle.lapd_store.proofs.octets.take.Statement.{statement}
use Rattle.lapd_store.proofs.octets.take.Code as code

pub take_spec : {M : Type 1} → statement M
take_spec 𝓤 𝓛 𝓜 𝓡 wired A L g d dd met md =
    let H = 𝓛.H in
    let S = ended A g d dd in
    let c = clauses A g d dd 𝓛 𝓜.mem 𝓡.returns in
    let args : Args = bounded (a_type ∷ []) (A, tt) (dcons d (dcons dd dnil)) in
    let fn : Fn = inst_fn args code.function in
    let p = λ (k : ℕ). slot_at k S.signature.params in
    let stays : Stays S.signature.params S.kept = (stay_dropped (p 0) S.kept.0, (stay_dropped (p 1) S.kept.1.0, tt)) in
    let 𝓣 = tables 𝓤 H 𝓜 𝓡 𝓡.env in
    let C = 𝓣.C in
    let Λ = 𝓣.Λ in
    proved_at 𝓛 S stays c 𝓜 𝓡 (Goes-dropped 𝓛 2 (p 0) S.kept.0 (λ κs x f. refl), (Goes-dropped 𝓛 2 (p 1) S.kept.1.0 (λ κs x f. refl), tt)) (name args) fn (code.unfolded 𝓤 H 𝓜 𝓡 wired (A, tt) d dd) (λ z are.
    let Post : Val → SProp 𝓤 = (walk_of 𝓛 S stays c).post z in
    let a = z.0.3 in
    let vss = z.0.4 in
    let Y : Al = record { row = A; laws = L; g = g; d = d; drops = dd } in
    let κ : Lft = z.0.0.0 in
    let q : Share = z.0.1.0 in
    let Z : RattleType = param 0 A in
    let h = a.0.now in
    let at = a.0.ref_ptr in
    let n = a.1.0 in
    let τ : Ty = block_of n in
    let fits = are.1.0.1 in
    let y = at_takes Y 𝓛 𝓜.mem 𝓡.returns κ q at h n 1 τ in
    let Out : RattleType = type_at S.signature.result z.0.0 in
    let Dd : RattleType = deed.the_row Z g in
    let Three : RattleType = Tuple (begin.the_row ∷ octs.the_row ∷ Dd ∷ []) in
    let Asked : Type 0 = n < 2 ^ 63 in
    qed 𝓛 ((raw (alive 𝓛 S.signature z.0.0 z.0.1) ⊛ ‵ (owns (types_at S.signature.params z.0.0) a vss)) ∷ (raw (fact 𝓤 (z.0.0.1.0 ⊑ A.lives)) ⊛ raw (fact 𝓤 Asked)) ∷ []) ∵
    move ! (1 ∷ []) $ split ! $ heard ! (z.0.0.1.0 ⊑ A.lives) (λ le. heard ! Asked (λ asked. split ! $ move ! (1 ∷ []) $
    fsplit ! $ fsplit ! $ drop ! $ move ! (1 ∷ []) $ drop ! $ use1 𝓛 (‵ (seen Y κ at h)) (id⊢ 𝓤 _) $ move ! (1 ∷ []) $
    use1 𝓛 (‵ (flft κ q) ⊛ ‵ (flft z.0.0.1.0 z.0.1.1.0) ⊛ ‵ ftrue) (id⊢ 𝓤 _) $ split ! $ move ! (2 ∷ 0 ∷ []) $
    regoal ! (λ (us : List Val). prop (WpFn 𝓤 H C Λ fn us Post)) (λ i. are.0.0 i ++ (are.1.0.0 i ++ [])) refl $
    enter ! C Λ fn (vptr at.0 at.1 ∷ vint w64 n ∷ []) Post $
    alloc_all ! (λ l. pass_all ! refl ((tt, tt), ((tt, record { fits = fits }), tt)) $ let En : Env 𝓤 H = env fn.locals l in
    let both : Body = head (after 1 fn.body) in
    let Then : After 𝓤 H = any_q (after_seq 𝓤 H (Wp 𝓤 H C Λ En (after 2 fn.body) (at_return 𝓤 H En Post)) (at_return 𝓤 H En Post)) in
    use2 𝓛 (raw ((Takes Y 𝓛 𝓜.mem 𝓡.returns).pre y)) (Takes-goes Y 𝓛 𝓜.mem 𝓡.returns κ q at h (⊑_trans κ z.0.0.1.0 A.lives z.0.2.0 le) n 1 τ (capped_is (n * 1) (omega arith) ∙ omega arith) refl fits (lit< tt)) $
    calls_at ! (framed 𝓤 H 𝓜 𝓣) (Takes Y 𝓛 𝓜.mem 𝓡.returns) (met.allocate dd) y (and_then ! (get ! refl) (and_then ! (get ! refl) (and_then ! (lit ! tt) (no_more !)))) (λ v.
    use1 𝓛 (later (raw (Answered Y 𝓛 𝓜.mem 𝓡.returns h τ v) ⊛ ‵ (flft κ q))) (Takes-gives Y 𝓛 𝓜.mem 𝓡.returns κ q at h n 1 τ v) $ await ! tt $ split ! $
    answers Y ! 𝓜.mem 𝓡.returns h τ v
    (λ b o e.
    -- [the room; the token; two tokens of lifetimes]
    let place : Ptr = block_ptr b o in
    let x : begin.the_row.Denot = record { ptr = place } in
    let cells : octs.the_row.Denot = record { at = place; written = replicate n None } in
    let right : Dd.Denot = record { mark = record {}; at = place; size = n; alloc = h } in
    let made : Val = three_val (base_val place) octets_val deed_val in
    let typed : Typed (layout Three) made = (tt, ((tt, tt), (tt, ((tt, tt), tt)))) in
    let ok = first_Good (layout Three) made typed in
    let Given : Type 0 = (place ≡ place) × (replicate n None ≡ replicate n None) × (place ≡ place) × (n ≡ n) × (h ≡ h) in
    move ! (2 ∷ 3 ∷ []) $ join ! $ move ! (1 ∷ 2 ∷ []) $ lands_as ! e refl (Answer-typed true b o) $
    first ! $ switches_on ! (get_tag ! (vrt ! refl (fld ! refl (stop !))) (whole !)) $ exec ! C Λ En (arm_body 0 both) Then $
    sets ! (of_opd ! (get_in ! (vrt ! refl (fld ! refl (stop !))) (in_variant ! 0 0 refl refl (whole !)))) refl (tt, tt) $
    sets ! (agg ! (no_more !)) refl (tt, tt) $
    sets ! (agg ! (and_then ! (get ! refl) (no_more !))) refl (base_typed place) $
    sets ! (agg ! (no_more !)) refl (tt, tt) $
    sets ! (agg ! (and_then ! (get ! refl) (no_more !))) refl (tt, (tt, tt)) $
    sets ! (agg ! (and_then ! (get ! refl) (and_then ! (get ! refl) (and_then ! (get ! refl) (no_more !))))) refl typed $
    sets_last ! (agg ! (and_then ! (lit ! tt) (and_then ! (get ! refl) (no_more !)))) refl ok $
    exec ! C Λ En (after 2 fn.body) (at_ret En Post) $
    sets ! (of_opd ! (get ! refl)) refl ok $
    returns ! (look_at ! 0 refl) $ free_all ! refl $
    use1 𝓛 (‵ (octets b o (replicate n None))) (of_room 𝓛 b n o) $ use0 𝓛 (‵ (octets_fields (octets_val ∷ []))) (octets_made 𝓛) $ fjoin ! $ move ! (1 ∷ []) $
    use0 𝓛 (‵ (deed_fields (deed_val ∷ []))) (deed_made 𝓛) $ fjoin ! $ move ! (1 ∷ 0 ∷ []) $ use0 𝓛 (‵ (base_own place (base_val place ∷ []))) (base_made 𝓛 place) $
    use3 𝓛 (‵ (Three.own_val (x, cells, right) (made ∷ []))) (three_of 𝓛 begin.the_row octs.the_row Dd x cells right (base_val place) octets_val deed_val) $
    use1 𝓛 (‵ (Out.own_val (Ok (x, cells, right)) (live 0 (vcons made vnil) ∷ []))) (ok_of 𝓛 Three error.the_row (x, cells, right) made) $
    use0 𝓛 (raw (fact 𝓤 Given)) (fact_i 𝓤 Given (emp 𝓤) (refl, refl, refl, refl, refl)) $
    nothing ! $ nothing ! $ fjoin ! $ nothing ! $ fjoin ! $ move ! (3 ∷ 0 ∷ 2 ∷ 1 ∷ []) $
    by ! (leaves 𝓛 S stays c z (live 0 (vcons made vnil)) (Ok (x, cells, right)) (tt, (tt, tt)) (tt, (tt, tt))))
    (λ e.
    let Refusal : RattleType = Struct (Declared.shape error.the_type) in
    let none : Val = live 1 (vcons (vstruct vnil) vnil) in
    join ! $ lands_as ! e refl (Answer-typed false 0 0) $
    first ! $ switches_on ! (get_tag ! (vrt ! refl (fld ! refl (stop !))) (whole !)) $ exec ! C Λ En (arm_body 1 both) Then $
    sets ! (of_opd ! (get_in ! (vrt ! refl (fld ! refl (stop !))) (in_variant ! 1 0 refl refl (whole !)))) refl (tt, tt) $
    sets_last ! (agg ! (and_then ! (lit ! tt) (and_then ! (get ! refl) (no_more !)))) refl (tt, (record { fits = lit< tt }, (tt, tt))) $
    exec ! C Λ En (after 2 fn.body) (at_ret En Post) $
    sets ! (of_opd ! (get ! refl)) refl (tt, (record { fits = lit< tt }, (tt, tt))) $
    returns ! (look_at ! 0 refl) $ free_all ! refl $
    owned ! Refusal (Is Refusal) (Struct-Makes 𝓛 (Declared.shape error.the_type) tt) tt (vstruct vnil ∷ []) (tt, (refl, tt)) $
    use1 𝓛 (‵ (Out.own_val (Err (record {})) (none ∷ []))) (err_of 𝓛 Three error.the_row (record {}) (vstruct vnil)) $
    use0 𝓛 (raw (fact 𝓤 (Unit {0}))) (fact_i 𝓤 (Unit {0}) (emp 𝓤) tt) $ nothing ! $ nothing ! $ fjoin ! $ nothing ! $ fjoin ! $ move ! (3 ∷ 0 ∷ 2 ∷ 1 ∷ []) $
    by ! (leaves 𝓛 S stays c z none (Err (record {})) (tt, (tt, tt)) (tt, (tt, tt)))))))))
