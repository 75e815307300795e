-- A null word owns nothing.
use Rattle.lapd_c.proofs.Vocabulary.{◌≡◌, List, [], ◌∷◌, Option, refl, lit<, proved_at, leaves}
use Rattle.std.specs.declared.option.Option.TheVariants.{None}
use Rattle.lapd_c.proofs.Machine.{ !, RattleType, RawPtr, SProp, Stays, Val, Valss, a_type, agg, alive, alloc_all, and_then, by, emp, enter, fact, fact_i, feq_i, fjoin, fpack, free_all, inst_fn, keep, layouts, lit, look_at, no_more, nothing, null_ptr, owns, param, pass_all, qed, raw, returns, sets, shape, split, tables, types_at, use0, vcons, vnil, vnull, vstruct, walk_of, within, ‵, ◌$◌, ◌∵◌}
use Rattle.lapd_c.proofs.Machine.{◌⊛◌}
use Rattle.lapd_c.specs.contracts.slot.BoxSlot as slot
use Rattle.lapd_c.specs.contracts.slot.BoxSlot.none as f
use Rattle.lapd_c.proofs.slot.BoxSlot.none.Statement.{statement}
use Rattle.lapd_c.proofs.slot.BoxSlot.none.Code as code

pub none_spec : {M : Type 1} → statement M
none_spec 𝓤 𝓛 𝓜 𝓡 wired T L =
    let H = 𝓛.H in let 𝓣 = tables 𝓤 H 𝓜 𝓡 𝓡.env in let R : RattleType = param 0 T in let end = f.ended T in let c = f.clauses T 𝓛 𝓜.mem 𝓡.returns in
    let inst = layouts (a_type ∷ []) (T, tt) in let fn = inst_fn inst code.function in let stays : Stays end.signature.params end.kept = tt in
    proved_at 𝓛 end stays c 𝓜 𝓡 tt (f.Key.name inst) fn (code.unfolded 𝓤 H 𝓜 𝓡 wired (T, tt)) (λ z are.
    let κs = z.0.0 in let Post : Val → SProp 𝓤 = (walk_of 𝓛 end stays c).post z in
    let none : Option T.Denot = None in let w : Val = vstruct (vcons vnull vnil) in
    let given = raw (alive 𝓛 end.signature κs z.0.1) ⊛ ‵ (owns (types_at end.signature.params κs) z.0.3 z.0.4) in
    qed 𝓛 (given ∷ raw ((c κs z.0.3).requires z.1) ∷ []) ∵ split ! $
    enter ! 𝓣.C 𝓣.Λ fn [] Post $ alloc_all ! (λ l. pass_all ! refl tt $
    sets ! (agg ! (and_then ! (lit ! tt) (no_more !))) refl (tt, (record { fits = lit< tt }, tt)) $
    nothing ! $ nothing ! $ feq_i ! (List Val) (vnull ∷ []) (vnull ∷ []) refl $ fjoin ! $ feq_i ! (List Val) (w ∷ []) (w ∷ []) refl $ fjoin ! $
    fpack ! (Valss (RawPtr ∷ [])) (within (shape (slot.the_type R)) (null_ptr, tt) (w ∷ [])) (vnull ∷ [], tt) $ fjoin ! $
    use0 𝓛 (raw (fact 𝓤 (none ≡ none))) (fact_i 𝓤 (none ≡ none) (emp 𝓤) refl) $ nothing ! $
    returns ! (look_at ! 0 refl) $ free_all ! refl $ keep ! (3 ∷ 0 ∷ 2 ∷ 1 ∷ []) $
    by ! (leaves 𝓛 end stays c z w (record { at = null_ptr; held = none }) tt tt)))
