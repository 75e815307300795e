-- The lines of a text whose line feed has come.
use Rattle.lapd_sim.proofs.Vocabulary.{◌≡◌, ◌≢◌, ℕ, ◌++◌, List, [], ◌∷◌, Bool, true, false, cond, refl, sym, ap, ◌∙◌, subst, append_assoc, arith, ◌||◌, drop, filter, flat_map, flat_map-append, ne_eqb, All-weaker, list_any_none, pieces_of, with_octet, is_whole, whole_lines, ◌==◌, All, piece_last}

-- The pieces of a text, joined, are the text.
abbrev pub join : List (List ℕ) → List ℕ
join ps = flat_map (λ p. p) ps

join_with : (o : ℕ) (ps : List (List ℕ)) → join (with_octet o ps) ≡ o ∷ join ps
join_with o [] = refl
join_with o (p ∷ ps) = refl

pub joins : (t : List ℕ) → join (pieces_of t) ≡ t
joins [] = refl
joins (o ∷ t) = go (o == 10) (joins t) where
  go : (b : Bool) → join (pieces_of t) ≡ t → join (cond b ((o ∷ []) ∷ pieces_of t) (with_octet o (pieces_of t))) ≡ o ∷ t
  go true e = ap (λ xs. o ∷ xs) e
  go false e = join_with o (pieces_of t) ∙ ap (λ xs. o ∷ xs) e

-- Where the first piece has its line feed, it is the first of whatever follows it,
abbrev Closes : List (List ℕ) → Type 0
Closes [] = Unit {0}
Closes (p ∷ ps) = is_whole p ≡ true → (x : List ℕ) → pieces_of (p ++ x) ≡ p ∷ pieces_of x

closes_with : (o : ℕ) (ps : List (List ℕ)) → (o == 10) ≡ false → Closes ps → Closes (with_octet o ps)
closes_with o ps e h = grind arith

closes_first : (o : ℕ) (ps : List (List ℕ)) → (o == 10) ≡ true → Closes ((o ∷ []) ∷ ps)
closes_first o ps e = λ w x. ap (λ b. cond b ((o ∷ []) ∷ pieces_of x) (with_octet o (pieces_of x))) e

-- and where others follow, each of them has.
abbrev Follows : List (List ℕ) → Type 0
Follows [] = Unit {0}
Follows (p ∷ []) = Unit {0}
Follows (p ∷ q ∷ ps) = (is_whole p ≡ true) × Follows (q ∷ ps)

follows_with : (o : ℕ) (ps : List (List ℕ)) → (o == 10) ≡ false → Follows ps → Follows (with_octet o ps)
follows_with o (p ∷ q ∷ ps) e h = (ap (λ b. b || is_whole p) e ∙ h.0, h.1)
follows_with o _ e h = tt

follows_first : (o : ℕ) (ps : List (List ℕ)) → (o == 10) ≡ true → Follows ps → Follows ((o ∷ []) ∷ ps)
follows_first o [] e h = tt
follows_first o (p ∷ ps) e h = (ap (λ b. b || false) e, h)

pieces_are : (t : List ℕ) → Closes (pieces_of t) × Follows (pieces_of t)
pieces_are [] = (tt, tt)
pieces_are (o ∷ t) = go (o == 10) refl (pieces_are t) where
  go : (b : Bool) → (o == 10) ≡ b → Closes (pieces_of t) × Follows (pieces_of t)
      → let ps = cond b ((o ∷ []) ∷ pieces_of t) (with_octet o (pieces_of t)) in Closes ps × Follows ps
  go true e h = (closes_first o (pieces_of t) e, follows_first o (pieces_of t) e h.1)
  go false e h = (closes_with o (pieces_of t) e h.0, follows_with o (pieces_of t) e h.1)

-- All of them have their line feed:
abbrev pub AreWhole : List (List ℕ) → Type 0
AreWhole [] = Unit {0}
AreWhole (p ∷ ps) = (is_whole p ≡ true) × AreWhole ps

-- those that another follows,
pub whole_before : (t : List ℕ) (done : List (List ℕ)) (q : List ℕ) (qs : List (List ℕ)) → pieces_of t ≡ done ++ q ∷ qs → AreWhole done
whole_before t done q qs is = go done (subst Follows is (pieces_are t).1) where
  go : (ps : List (List ℕ)) → Follows (ps ++ q ∷ qs) → AreWhole ps
  go [] h = tt
  go (p ∷ []) h = (h.0, tt)
  go (p ∷ r ∷ ps) h = (h.0, go (r ∷ ps) h.1)

-- and one more.
pub whole_more : (done : List (List ℕ)) (piece : List ℕ) → AreWhole done → is_whole piece ≡ true → AreWhole (done ++ piece ∷ [])
whole_more [] piece h e = (e, tt)
whole_more (p ∷ done) piece h e = (h.0, whole_more done piece h.1 e)

-- A text without line feed is no whole line.
none_whole : (t : List ℕ) → All (λ octet. octet ≢ 10) t → whole_lines t ≡ []
none_whole [] h = refl
none_whole (o ∷ t) h =
    ap (filter is_whole) (piece_last (o ∷ t) (omega arith) h)
    ∙ ap (λ b. cond b ((o ∷ t) ∷ []) []) (list_any_none (λ octet. octet == 10) (o ∷ t) (All-weaker (λ octet. octet ≢ 10) (λ octet. (octet == 10) ≡ false) (λ x d. ne_eqb x 10 d) (o ∷ t) h))

-- the text is the pieces so far and the rest
pub text_is : (text : List ℕ) (done : List (List ℕ)) (left : List ℕ) → pieces_of text ≡ done ++ pieces_of left → text ≡ join done ++ left
text_is text done left is = sym (joins text) ∙ ap join is ∙ flat_map-append (λ p. p) done (pieces_of left) ∙ ap (λ l. join done ++ l) (joins left)

-- what was read of a text: whole lines, and a beginning of one
pub read_whole : (done : List (List ℕ)) (text left begun : List ℕ) → pieces_of text ≡ done ++ pieces_of left → AreWhole done → All (λ octet. octet ≢ 10) begun
    → whole_lines (join done ++ begun) ≡ done
read_whole [] text left begun is w h = none_whole begun h
read_whole (p ∷ done) text left begun is w h =
    let closed : (x : List ℕ) → pieces_of (p ++ x) ≡ p ∷ pieces_of x = (subst Closes is (pieces_are text).0) w.0 in
    let later = join (done ++ pieces_of left) in
    let rest : pieces_of later ≡ done ++ pieces_of left = ap (drop 1) (sym (closed later) ∙ ap pieces_of (sym (sym (joins text) ∙ ap join is)) ∙ is) in
    ap whole_lines (append_assoc p (join done) begun) ∙ ap (filter is_whole) (closed (join done ++ begun))
    ∙ ap (λ b. cond b (p ∷ whole_lines (join done ++ begun)) (whole_lines (join done ++ begun))) w.0
    ∙ ap (λ l. p ∷ l) (read_whole done later left begun rest w.1 h)
