-- What the walks of the functions on pointers share: octets taken out of a row, put back, or seen.
use Rattle.lapd_store.proofs.Vocabulary.{◌≡◌, ℕ, zero, suc, ◌+◌, ◌<◌, ◌≤◌, List, [], ◌∷◌, ◌++◌, map, length, take, drop, set, replicate, Option, Some, None, refl, sym, ap, subst, ◌∙◌, arith, take-append-drop, full_share, u8, octet, octets, octet_lent, lent}
use Rattle.lapd_store.proofs.Pointers.{Ura, ent, sep, wand, via, snd∗, id⊢, mono_r, apply∗, Lft, froom, ty_int, w8, ty_array, vint, Logic, sem, ‵, raw, ◌⊛◌, ◌$◌, ◌∵◌, !, qed, by, move, keep, use1, use2, split, fjoin, rewrite, frame, assume, done, uint_out, elements_shared}

module _ {M : Type 1} {𝓤 : Ura M} (𝓛 : Logic 𝓤) (b : ℕ) where
  open 𝓛 use {H}

  -- room for n octets is a row of n that were not written
  pub of_room : (n o : ℕ) → ent 𝓤 (H.room (ty_array (ty_int w8) n) b o) (sem 𝓛 (octets b o (replicate n None)))
  of_room zero o = qed 𝓛 (‵ (froom (ty_array (ty_int w8) 0) b o) ∷ []) ∵ keep ! [] $ done !
  of_room (suc n) o =
      qed 𝓛 (‵ (froom (ty_array (ty_int w8) (suc n)) b o) ∷ []) ∵
      use1 𝓛 (‵ (froom (ty_int w8) b o) ⊛ ‵ (froom (ty_array (ty_int w8) n) b (o + 1))) (𝓛.laws.room_uncons (ty_int w8) n b o) $ split ! $ frame ! $ by ! (of_room n (o + 1))

  octet_room : (o : ℕ) (c : Option ℕ) → ent 𝓤 (sem 𝓛 (octet b o c)) (H.room (ty_int w8) b o)
  octet_room o None = id⊢ 𝓤 _
  octet_room o (Some x) = via 𝓤 _ (uint_out 𝓛 full_share w8 x b o) (𝓛.laws.at_room (ty_int w8) b o (vint w8 x))

  -- and any row is room, whatever was written
  pub to_room : (cs : List (Option ℕ)) (o : ℕ) → ent 𝓤 (sem 𝓛 (octets b o cs)) (H.room (ty_array (ty_int w8) (length cs)) b o)
  to_room [] o = 𝓛.laws.room_nil (ty_int w8) b o
  to_room (c ∷ cs) o =
      qed 𝓛 (‵ (octet b o c) ∷ ‵ (octets b (o + 1) cs) ∷ []) ∵
      use1 𝓛 (‵ (froom (ty_int w8) b o)) (octet_room o c) $ move ! (1 ∷ []) $
      use1 𝓛 (‵ (froom (ty_array (ty_int w8) (length cs)) b (o + 1))) (to_room cs (o + 1)) $ move ! (1 ∷ []) $ by ! (𝓛.laws.room_cons (ty_int w8) (length cs) b o)

  -- the i-th octet is taken out as room, and makes the row whole again once it is written
  pub one_out : (cs : List (Option ℕ)) (i o at x : ℕ) → i < length cs → at ≡ i + o
      → ent 𝓤 (sem 𝓛 (octets b o cs)) (sep 𝓤 (H.room (ty_int w8) b at) (wand 𝓤 (sem 𝓛 (octet b at (Some x))) (sem 𝓛 (octets b o (set cs i (Some x))))))
  one_out [] i o at x lt e = absurd (omega arith)
  one_out (c ∷ cs) zero o at x lt e =
      let same : o ≡ at = omega arith in
      qed 𝓛 (‵ (octet b o c) ∷ ‵ (octets b (o + 1) cs) ∷ []) ∵
      use1 𝓛 (‵ (froom (ty_int w8) b o)) (octet_room o c) $ rewrite ! 0 (λ (k : ℕ). ‵ (froom (ty_int w8) b k)) same refl $ frame ! $
      assume ! (‵ (octet b at (Some x))) $ rewrite ! 0 (λ (k : ℕ). ‵ (octet b k (Some x))) (sym same) refl $ fjoin ! $ done !
  one_out (c ∷ cs) (suc i) o at x lt e =
      let Way = wand 𝓤 (sem 𝓛 (octet b at (Some x))) (sem 𝓛 (octets b (o + 1) (set cs i (Some x)))) in
      qed 𝓛 (‵ (octet b o c) ∷ ‵ (octets b (o + 1) cs) ∷ []) ∵ move ! (1 ∷ []) $
      use1 𝓛 (‵ (froom (ty_int w8) b at) ⊛ raw Way) (one_out cs i (o + 1) at x (omega arith) (omega arith)) $ split ! $ frame ! $
      assume ! (‵ (octet b at (Some x))) $ move ! (0 ∷ 1 ∷ []) $
      use2 𝓛 (‵ (octets b (o + 1) (set cs i (Some x)))) (apply∗ 𝓤 (sem 𝓛 (octet b at (Some x))) (sem 𝓛 (octets b (o + 1) (set cs i (Some x))))) $
      move ! (1 ∷ 0 ∷ []) $ fjoin ! $ done !

  module _ (κ : Lft) where
    from_on : (cs : List (Option ℕ)) (i o at : ℕ) → i ≤ length cs → at ≡ i + o → ent 𝓤 (sem 𝓛 (lent b o cs κ)) (sem 𝓛 (lent b at (drop i cs) κ))
    from_on cs zero o at le e = let same : o ≡ at = omega arith in subst (λ k. ent 𝓤 (sem 𝓛 (lent b o cs κ)) (sem 𝓛 (lent b k cs κ))) same (id⊢ 𝓤 _)
    from_on [] (suc i) o at le e = absurd (omega arith)
    from_on (c ∷ cs) (suc i) o at le e =
        via 𝓤 (sem 𝓛 (lent b (o + 1) cs κ)) (snd∗ 𝓤 (sem 𝓛 (octet_lent b o c κ)) (sem 𝓛 (lent b (o + 1) cs κ))) (from_on cs i (o + 1) at (omega arith) (omega arith))

    up_to : (xs : List ℕ) (rest : List (Option ℕ)) (o : ℕ) → ent 𝓤 (sem 𝓛 (lent b o (map Some xs ++ rest) κ)) (sem 𝓛 (elements_shared u8 xs b o κ))
    up_to [] rest o = qed 𝓛 (‵ (lent b o rest κ) ∷ []) ∵ keep ! [] $ done !
    up_to (x ∷ xs) rest o = mono_r 𝓤 (sem 𝓛 (octet_lent b o (Some x) κ)) (up_to xs rest (o + 1))

    -- a run of written octets is seen as a slice's
    pub run_seen : (o : ℕ) (cs : List (Option ℕ)) (i n : ℕ) (xs : List ℕ) → i ≤ length cs → take n (drop i cs) ≡ map Some xs
        → ent 𝓤 (sem 𝓛 (lent b o cs κ)) (sem 𝓛 (elements_shared u8 xs b (i + o) κ))
    run_seen o cs i n xs le e =
        qed 𝓛 (‵ (lent b o cs κ) ∷ []) ∵ use1 𝓛 (‵ (lent b (i + o) (drop i cs) κ)) (from_on cs i o (i + o) le refl) $
        rewrite ! 0 (λ (l : List (Option ℕ)). ‵ (lent b (i + o) l κ)) (sym (take-append-drop n (drop i cs)) ∙ ap (λ l. l ++ drop n (drop i cs)) e) refl $ by ! (up_to xs (drop n (drop i cs)) (i + o))
