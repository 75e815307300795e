-- Writes one after the other.
use Rattle.lapd_transcript.proofs.Vocabulary.{◌≡◌, ℕ, ◌+◌, List, [], ◌∷◌, ◌++◌, length, take, drop, Some, None, Ok, Err, Result, Option, refl, sym, ap, ◌∙◌, subst, append_assoc, arith, Bor, suc, zero, get_or, ◌<◌, ◌≤◌, ◌-◌, take_all, length-drop, length-append, false, IsOk, IsErr, OnOk, OnErr, is_ok, false≢true, flat_map, take-append-add, take-append_seam, append-nil, take-append-drop, take_more}
use Rattle.lapd_transcript.proofs.Vocabulary.{flat_map-append, Appends, Keeps, WriteFailed, Taken, IsWritten, IsBroken, Writes, Output, IsPut, IsStuck, Puts, one_failure_more}
use Rattle.std.specs.Prelude.{codes, decimal, unwrap_or, option_copied}
use Rattle.model_bits.specs.declared.heard.Cause.{Cause}
use Rattle.lapd_frame.specs.declared.notes.Note.{Note}
use Rattle.lapd_transcript.specs.Text.{line_text, note_text, dropped_text, lost_text, report_text}

appends_then : (a b c : Option (List ℕ)) (x y : List ℕ) → Appends a b x → Appends b c y → Appends a c (x ++ y)
appends_then a b c x y h k = grind (arith, append_assoc)

pub writes_then : (r : Result Unit WriteFailed) (a b c : Taken) (x y : List ℕ) → IsWritten a b x → Writes r b c y → Writes r a c (x ++ y)
writes_then (Ok u) a b c x y h k = record { whole = appends_then a.contents b.contents c.contents x y h.whole k.whole; steady = k.steady ∙ h.steady }
writes_then (Err e) a b c x y h k = record {
  begun = (
    length x + k.begun.0,
    subst (λ text. Appends a.contents c.contents text) (sym (take-append-add x y k.begun.0)) (appends_then a.contents b.contents c.contents x (take k.begun.0 y) h.whole k.begun.1),
    λ out. let less = k.begun.2 out in simp length-append (omega (arith, less)),
  );
  failed = k.failed ∙ ap one_failure_more h.steady;
}

take_begun : (n : ℕ) (x y : List ℕ) → (m : ℕ) × (take m (x ++ y) ≡ take n x) × (m ≤ n)
take_begun zero x y = (0, refl, omega arith)
take_begun (suc n) [] y = (0, refl, omega arith)
take_begun (suc n) (octet ∷ x) y = let m = take_begun n x y in (suc m.0, ap (λ text. octet ∷ text) m.1, let low = m.2 in omega (arith, low))

pub broken_more : (a b : Taken) (x y : List ℕ) → IsBroken a b x → IsBroken a b (x ++ y)
broken_more a b x y h =
    let m : (m : ℕ) × (take m (x ++ y) ≡ take h.begun.0 x) × (m ≤ h.begun.0) = take_begun h.begun.0 x y in
    record {
      begun = (m.0, subst (λ text. Appends a.contents b.contents text) (sym m.1) h.begun.1, λ out. let less = h.begun.2 out in let low = m.2 in simp length-append (omega (arith, less, low)));
      failed = h.failed;
    }

flat_map-take_more : {X : Type 0} (f : X → List ℕ) (xs : List X) (i : ℕ) (d : X) → i < length xs → flat_map f (take (i + 1) xs) ≡ flat_map f (take i xs) ++ f (get_or xs i d)
flat_map-take_more f xs i d h =
    ap (flat_map f) (take_more xs i d h) ∙ flat_map-append f (take i xs) (get_or xs i d ∷ []) ∙ ap (λ text. flat_map f (take i xs) ++ text) (append-nil (f (get_or xs i d)))

-- One text after another.
pub puts_then : (r : Result Unit WriteFailed) (a b c : Output) (x y : List ℕ) → IsPut a b x → Puts r b c y → Puts r a c (x ++ y)
puts_then (Ok v) a b c x y h k = record {
  same = k.same ∙ h.same;
  follows = λ later end more w. subst (λ text. Writes later a.taken end (a.page ++ text)) (sym (append_assoc x y more)) (h.follows later end (y ++ more) (k.follows later end more w));
}
puts_then (Err e) a b c x y h k = record {
  same = k.same ∙ h.same;
  broken = λ more. subst (λ text. IsBroken a.taken c.taken (a.page ++ text)) (sym (append_assoc x y more)) (h.follows (Err e) c.taken (y ++ more) (k.broken more));
}

pub stuck_more : (a c : Output) (x y : List ℕ) → IsStuck a c x → IsStuck a c (x ++ y)
stuck_more a c x y h = record { same = h.same; broken = λ more. subst (λ text. IsBroken a.taken c.taken (a.page ++ text)) (sym (append_assoc x y more)) (h.broken (y ++ more)) }

-- where a `?` leaves
pub leaves : (r : Result Unit WriteFailed) (a c : Output) (x : List ℕ) → IsErr r → IsStuck a c x → Puts r a c x
leaves (Ok u) a c x e h = absurd (false≢true e)
leaves (Err why) a c x e h = h

pub puts_nothing : (a : Output) → IsPut a a []
puts_nothing a = record { same = refl; follows = λ later end more w. w }

-- A page that goes to the target at the end.
pub puts_written : (r : Result Unit WriteFailed) (a b : Output) (c : Taken) (x : List ℕ) → IsPut a b x → Writes r b.taken c b.page → Writes r a.taken c (a.page ++ x)
puts_written r a b c x h w = subst (λ text. Writes r a.taken c (a.page ++ text)) (append-nil x) (h.follows r c [] (subst (λ text. Writes r b.taken c text) (sym (append-nil b.page)) w))

pub puts_unwritten : (a b : Output) (x : List ℕ) → IsStuck a b x → IsBroken a.taken b.taken (a.page ++ x)
puts_unwritten a b x h = subst (λ text. IsBroken a.taken b.taken (a.page ++ text)) (append-nil x) (h.broken [])

-- One piece: the page goes out before it, and it goes out itself or stands on the page after it.
module _ (a b : Taken) (page piece : List ℕ) (name : ℕ) where
  pub puts_out : (r : Result Unit WriteFailed) (c : Taken) → IsWritten a b page → Writes r b c piece → Puts r (record { taken = a; page = page; name = name }) (record { taken = c; page = []; name = name }) piece
  puts_out (Ok u) c h k = record { same = refl; follows = λ later end more w. writes_then later a b end page (piece ++ more) h (writes_then later b c end piece more k w) }
  puts_out (Err e) c h k = record { same = refl; broken = λ more. writes_then (Err e) a b c page (piece ++ more) h (broken_more b c piece more k) }

  pub puts_behind : IsWritten a b page → IsPut (record { taken = a; page = page; name = name }) (record { taken = b; page = piece; name = name }) piece
  puts_behind h = record { same = refl; follows = λ later end more w. writes_then later a b end page (piece ++ more) h w }

  pub puts_stuck : (last : List ℕ) → IsBroken a b page → IsStuck (record { taken = a; page = page; name = name }) (record { taken = b; page = last; name = name }) piece
  puts_stuck last h = record { same = refl; broken = λ more. broken_more a b page (piece ++ more) h }

-- A loop over pieces.
pub puts_stop : {X : Type 0} (f : X → List ℕ) (xs : List X) (i : ℕ) (d : X) (a b c : Output) → i < length xs
    → IsPut a b (flat_map f (take i xs)) → IsStuck b c (f (get_or xs i d)) → IsStuck a c (flat_map f xs)
puts_stop f xs i d a b c h p q =
    subst (λ text. IsStuck a c text)
    (ap (λ text. text ++ flat_map f (drop (i + 1) xs)) (sym (flat_map-take_more f xs i d h)) ∙ sym (flat_map-append f (take (i + 1) xs) (drop (i + 1) xs)) ∙ ap (flat_map f) (take-append-drop (i + 1) xs))
    (stuck_more a c _ (flat_map f (drop (i + 1) xs)) (puts_then (Err (record {})) a b c _ _ p q))

-- What a writer of std takes.
pub appends_keeps : (a b c : Option (List ℕ)) (x : List ℕ) → Appends a b x → Keeps b c → Appends a c x
appends_keeps a b c x h k = grind arith

pub appends_nothing : (a : Option (List ℕ)) → Appends a a []
appends_nothing None = tt
appends_nothing (Some old) = sym (append-nil old)

-- a part of a text is handed on, and the rest is left
pub record IsHanded (before after : Option (List ℕ)) (text rest : List ℕ) : Type 0 where
  pub done : List ℕ
  pub split : done ++ rest ≡ text
  pub handed : Appends before after done

pub handed_more : (a b c : Option (List ℕ)) (text rest : List ℕ) (n : ℕ) → IsHanded a b text rest → Appends b c (take n rest) → IsHanded a c text (drop n rest)
handed_more a b c text rest n h k = grind (arith, append_assoc, take-append-drop, appends_then)

pub handed_part : (a b c : Option (List ℕ)) (text rest : List ℕ) → IsHanded a b text rest → Keeps b c → (n : ℕ) × Appends a c (take n text)
handed_part a b c text rest h k =
    (length h.done, subst (λ list. Appends a c list) (sym (take-append_seam h.done rest) ∙ ap (take (length h.done)) h.split) (appends_keeps a b c h.done h.handed k))

pub handed_now : (a b : Option (List ℕ)) (text rest : List ℕ) → IsHanded a b text rest → (n : ℕ) × Appends a b (take n text)
handed_now a b text rest h =
    (length h.done, subst (λ list. Appends a b list) (sym (take-append_seam h.done rest) ∙ ap (take (length h.done)) h.split) h.handed)

pub handed_on : (a b c : Option (List ℕ)) (text rest : List ℕ) (n : ℕ) → IsHanded a b text rest → Appends b c (take n rest) → IsHanded a c text (take (length rest - n) (drop n rest))
handed_on a b c text rest n h k = subst (λ list. IsHanded a c text list) (sym (take_all _ _ (rw length-drop (omega arith)))) (handed_more a b c text rest n h k)

-- What a result says.
pub ok_gives : {A E P : Type 0} (r : Result A E) → IsOk r → OnOk r P → P
ok_gives (Ok x) h p = p
ok_gives (Err e) h p = absurd (false≢true h)

pub err_gives : {A E P : Type 0} (r : Result A E) → false ≡ is_ok r → OnErr r P → P
err_gives (Ok x) h p = absurd (false≢true h)
err_gives (Err e) h p = p

pub on_err : {A E P : Type 0} (r : Result A E) → P → OnErr r P
on_err (Ok x) p = tt
on_err (Err e) p = p

abbrev pub nowhere : Bor (List ℕ)
nowhere = record { ref_ptr = (0, 0); now = [] }

-- What an event brought is said of contents that were delivered, or of none.
lent_is : (contents : Option (Bor (List ℕ))) (lent none : Bor (List ℕ)) → lent ≡ unwrap_or contents none → none.now ≡ [] → lent.now ≡ unwrap_or (option_copied contents) []
lent_is None lent none e h = ap (λ l. l.now) e ∙ h
lent_is (Some some) lent none e h = ap (λ l. l.now) e

pub reported : (r : Result Unit WriteFailed) (a c : Output) (line lost : ℕ) (notes : List Note) (cause : Option Cause) (contents : Option (Bor (List ℕ))) (lent none : Bor (List ℕ)) → lent ≡ unwrap_or contents none → none.now ≡ []
    → Puts r a c (flat_map (note_text line lent.now) notes ++ dropped_text line cause ++ lost_text line lost) → Puts r a c (report_text line notes (option_copied contents) cause lost)
reported r a c line lost notes cause contents lent none e h told =
    subst (λ text. Puts r a c (flat_map (note_text line text) notes ++ dropped_text line cause ++ lost_text line lost)) (lent_is contents lent none e h) told

-- The number of a line, a space, the words and a line feed are the line.
pub lined : (r : Result Unit WriteFailed) (a c : Output) (line : ℕ) (digits words : List ℕ) → digits ≡ decimal line
    → Puts r a c (digits ++ (codes " " ++ []) ++ words ++ codes "\n") → Puts r a c (line_text line words)
lined r a c line digits words e h =
    subst (λ text. Puts r a c (text ++ words ++ codes "\n")) (ap (λ space. digits ++ space) (append-nil (codes " ")) ∙ ap (λ number. number ++ codes " ") e) h
