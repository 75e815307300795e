-- `lend` shows a run of written octets as a slice.
use Rattle.lapd_store.proofs.Vocabulary.{◌≡◌, ℕ, ◌+◌, ◌*◌, ◌^◌, ◌<◌, ◌≤◌, List, [], ◌∷◌, ◌++◌, map, length, take, drop, Some, refl, sym, ap, ◌∙◌, arith, w64, length-take, length-drop, length-map, full_share, u8, proved_at, leaves, after, octets_lent}
use Rattle.lapd_store.proofs.Pointers.{SProp, never, emp, id⊢, Lft, Share, fat, fact, fact_i, tables, yes, layout, owns, Ptr, in_a_block, usize, RefOf, hide, unhide, plain, types_at, ShrSlice, slice_val, elements_shared, nothing, heard, alive, Stays, stay_dropped, Goes-dropped, walk_of, named, Val, vint, vptr, WpFn, Env, alloc_all, pass_all, free_all, look_at, get, get_in, sets, sets_last}
use Rattle.lapd_store.proofs.Pointers.{take_at, give_at, env, ‵, raw, ◌⊛◌, prop, at_ret, ◌$◌, ◌∵◌, !, qed, by, move, keep, drop as skip, use0, use1, split, rewrite, regoal, fsplit, fjoin, feq_i, flt_i, whole, sub, agg, stop, fld, bin, of_opd, and_then, no_more, first, blocks, exec, returns, enter}
use Rattle.lapd_store.specs.contracts.octets.Octets.{the_row as R}
use Rattle.lapd_store.specs.contracts.octets.Base.{the_row as B}
use Rattle.lapd_store.specs.contracts.octets.Octets.lend as f
use Rattle.lapd_store.proofs.Memory.{run_seen}
use Rattle.lapd_store.proofs.Values.{base_val, base_told, base_typed}
use Rattle.lapd_store.proofs.octets.Octets.lend.Statement.{statement}
use Rattle.lapd_store.proofs.octets.Octets.lend.Code as code

abbrev stayed : Stays f.ended.signature.params f.ended.kept
stayed = (stay_dropped _ yes, (stay_dropped _ yes, (stay_dropped _ yes, (stay_dropped _ yes, tt))))

pub lend_spec : {M : Type 1} → statement M
lend_spec 𝓤 𝓛 𝓜 𝓡 wired =
    let H = 𝓛.H in
    let c = f.clauses 𝓛 𝓜.mem 𝓡.returns in
    let fn = code.function in
    let 𝓣 = tables 𝓤 H 𝓜 𝓡 𝓡.env in
    proved_at 𝓛 f.ended stayed c 𝓜 𝓡
    (Goes-dropped 𝓛 1 (RefOf (0 ∷ []) tt (plain (λ _. R)) (λ _. tt)) yes (λ κs x w. refl), (Goes-dropped 𝓛 1 (plain (λ _. B)) yes (λ κs x w. refl), (Goes-dropped 𝓛 1 (plain (λ _. usize)) yes (λ κs x w. refl), (Goes-dropped 𝓛 1 (plain (λ _. usize)) yes (λ κs x w. refl), tt))))
    f.Key.name fn (code.unfolded 𝓤 H 𝓜 𝓡 wired) (λ z are.
    let Post : Val → SProp 𝓤 = (walk_of 𝓛 f.ended stayed c).post z in
    let a = z.0.3 in
    let vss = z.0.4 in
    let κ : Lft = z.0.0.0 in
    let q : Share = z.0.1.0 in
    let d = a.0.now in
    let rb = a.0.ref_ptr.0 in
    let ro = a.0.ref_ptr.1 in
    let base = a.1.0 in
    let from = a.1.1.0 in
    let len = a.1.1.1.0 in
    let fits_from = are.1.1.0.1 in
    let fits_len = are.1.1.1.0.1 in
    let Asked : Type 0 = (base.ptr ≡ d.at) × (from + len ≤ length d.written) × ((octets : List ℕ) × (take len (drop from d.written) ≡ map Some octets)) × (length d.written < 2 ^ 63) in
    qed 𝓛 ((raw (alive 𝓛 f.ended.signature z.0.0 z.0.1) ⊛ ‵ (owns (types_at f.ended.signature.params z.0.0) a vss)) ∷ raw (fact 𝓤 Asked) ∷ []) ∵
    move ! (1 ∷ []) $ heard ! Asked (λ asked.
    let within = asked.1 in
    let small = asked.3 in
    let xs : List ℕ = asked.2.0 in
    let run = asked.2.1 in
    let long : length xs ≡ len = omega (arith, ap length run, length-map xs Some, length-take len (drop from d.written), length-drop from d.written) in
    split ! $ move ! (1 ∷ []) $ fsplit ! $ fsplit ! $ skip ! $ move ! (0 ∷ 2 ∷ []) $
    -- [what self lends; the tokens; the other parameters]
    regoal ! (λ (us : List Val). prop (WpFn 𝓤 H 𝓣.C 𝓣.Λ fn us Post)) (λ i. are.0.0 i ++ (base_told base.ptr vss.1.0 are.1.0 i ++ (are.1.1.0.0 i ++ (are.1.1.1.0.0 i ++ [])))) refl $
    keep ! (0 ∷ 1 ∷ []) $
    enter ! 𝓣.C 𝓣.Λ fn (vptr rb ro ∷ base_val base.ptr ∷ vint w64 from ∷ vint w64 len ∷ []) Post $
    alloc_all ! (λ l. pass_all ! refl ((tt, tt), (base_typed base.ptr, ((tt, record { fits = fits_from }), ((tt, record { fits = fits_len }), tt)))) $
    let En : Env 𝓤 H = env fn.locals l in
    unhide ! $ fsplit ! $ skip ! $ in_a_block ! d.at (λ p. octets_lent p d.written κ) (id⊢ 𝓤 (never 𝓤)) (λ b o e.
    let at : ℕ × ℕ = (b, from + o) in
    take_at ! 2 $ rewrite ! 0 (λ (p : Ptr). ‵ (fat full_share (layout B) (l 2) 0 (base_val p))) (asked.0 ∙ e) refl $ give_at ! 2 $ first ! $ blocks ! $
    sets ! (bin ! (get_in ! (fld ! refl (stop !)) (sub ! 0 refl (whole !))) (get ! refl) tt) refl (tt, tt) $
    use1 𝓛 (‵ (elements_shared u8 xs b (from + o) κ)) (run_seen 𝓛 b κ o d.written from len xs (omega arith) run) $ hide ! $
    sets_last ! (agg ! (and_then ! (get ! refl) (and_then ! (get ! refl) (no_more !)))) refl (tt, (tt, (record { fits = fits_len }, tt))) $
    exec ! 𝓣.C 𝓣.Λ En (after 1 fn.body) (at_ret En Post) $
    sets ! (of_opd ! (get ! refl)) refl (tt, (tt, (record { fits = fits_len }, tt))) $
    flt_i ! (length xs * 1) (2 ^ 63) (omega arith) $ flt_i ! (length xs) (2 ^ 64) (omega arith) $ fjoin ! $
    feq_i ! (List Val) (slice_val at len ∷ []) (slice_val at (length xs) ∷ []) (ap (λ k. slice_val at k ∷ []) (sym long)) $ fjoin ! $ fjoin ! $
    returns ! (look_at ! 0 refl) $ free_all ! refl $
    -- [the slice; the tokens]
    let r : (ShrSlice (named 0) κ u8).Denot = record { ref_ptr = at; now = xs } in
    nothing ! $ nothing ! $ fjoin ! $ nothing ! $ fjoin ! $ nothing ! $ fjoin ! $ nothing ! $ fjoin ! $
    use0 𝓛 (raw (fact 𝓤 (take len (drop from d.written) ≡ map Some xs))) (fact_i 𝓤 (take len (drop from d.written) ≡ map Some xs) (emp 𝓤) run) $
    move ! (3 ∷ 1 ∷ 2 ∷ 0 ∷ []) $
    by ! (leaves 𝓛 f.ended stayed c z (slice_val at len) r (tt, (tt, (tt, (tt, tt)))) (tt, (tt, (tt, (tt, tt)))))))))
