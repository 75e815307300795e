-- When the page goes out: before more is read, and at the end of a script.
use Rattle.lapd_sim.proofs.Vocabulary.{◌≡◌, ℕ, ◌++◌, List, [], Bool, true, false, Option, Result, Ok, Err, refl, sym, subst, arith, true≢false, IfOk, IfErr, IsTrue, Taken, IsWritten, IsBroken, Writes, Output, IsPut, IsSent, IsStuck, one_failure_more, WriteFailed, appends_nothing, writes_then, broken_more, puts_nothing, puts_written, puts_unwritten, transcript, PlayFault, Read, Write, Script}
use Rattle.lapd_sim.proofs.Vocabulary.{OutOfMemory, ScriptLines, reads_failed, writes_failed, writes_failed_by, PutsSome, PutsNone, Reaches, is_cut, Plays, PlaysOn, Advances}
use Rattle.std.specs.Prelude.{◌<◌}
use Rattle.lapd_sim.proofs.Vocabulary.{◌∷◌, ◌∙◌, ap, inr, fold-append, Played, not_begun, one_more, pieces_of, played}
use Rattle.std.proofs.Common.{inl}
use Rattle.lapd_sim.proofs.Playing.{grows as writes_on}

-- ---- the end

-- What was put since a page was empty has been written where the page goes out.
goes : (r : Result Unit WriteFailed) (a b : Output) (c : Taken) (text : List ℕ) → a.page ≡ [] → IsPut a b text → Writes r b.taken c b.page → Writes r a.taken c text
goes r a b c text none put sent = subst (λ page. Writes r a.taken c (page ++ text)) none (puts_written r a b c text put sent)

gone : (a b : Output) (text : List ℕ) → a.page ≡ [] → b.page ≡ [] → IsPut a b text → IsWritten a.taken b.taken text
gone a b text none out put = goes (Ok tt) a b b.taken text none put (subst (λ page. IsWritten b.taken b.taken page) (sym out) (record { whole = appends_nothing b.taken.contents; steady = refl }))

stuck : (a b : Output) (text : List ℕ) → a.page ≡ [] → IsStuck a b text → IsBroken a.taken b.taken text
stuck a b text none h = subst (λ page. IsBroken a.taken b.taken (page ++ text)) none (puts_unwritten a b text h)

-- after a failed read or write it does not
pub cut_failures : (r : Result Unit PlayFault) (a b : Output) → a.page ≡ [] → is_cut r ≡ true → PutsSome r a b → b.taken.failures ≡ writes_failed_by r a.taken.failures
cut_failures (Err Read) a b none cut h = (gone a b h.1.0 none h.0 h.1.1).steady
cut_failures (Err Write) a b none cut h = (stuck a b h.0 none h.1).failed
cut_failures _ a b none cut h = absurd (true≢false (sym cut))

pub cut_ends : (r : Result Unit PlayFault) (a b : Output) (text : List ℕ) (remaining : Option (List ℕ)) → a.page ≡ [] → is_cut r ≡ true → PutsSome r a b
    → PlaysOn r text remaining a b → Plays r text remaining a.taken b.taken
cut_ends (Err Read) a b text remaining none cut h p = record {
  read = p.read;
  unread = p.unread;
  is = p.is;
  tells = p.tells;
  answered = record { sound = p.answered.sound; written = gone a b _ none h.0 p.answered.written };
}
cut_ends (Err Write) a b text remaining none cut h p = stuck a b (transcript text) none p
cut_ends _ a b text remaining none cut h p = absurd (true≢false (sym cut))

-- after any other end it does,
pub sent_failures : (r : Result Unit PlayFault) (a b : Output) (c : Taken) → a.page ≡ [] → is_cut r ≡ false → IsWritten b.taken c b.page
    → PutsSome r a b → c.failures ≡ writes_failed_by r a.taken.failures
sent_failures (Err Read) a b c none open_is sent h = absurd (true≢false open_is)
sent_failures (Err Write) a b c none open_is sent h = absurd (true≢false open_is)
sent_failures _ a b c none open_is sent h = (goes (Ok tt) a b c h.0 none h.1 sent).steady

pub sent_ends : (r : Result Unit PlayFault) (a b : Output) (c : Taken) (text : List ℕ) (remaining : Option (List ℕ)) → a.page ≡ [] → is_cut r ≡ false → IsWritten b.taken c b.page
    → PlaysOn r text remaining a b → Plays r text remaining a.taken c
sent_ends (Ok u) a b c text remaining none open_is sent h = (h.0, goes (Ok tt) a b c _ none h.1 sent, h.2)
sent_ends (Err (Script number kind)) a b c text remaining none open_is sent h = (h.0, goes (Ok tt) a b c _ none h.1 sent)
sent_ends (Err OutOfMemory) a b c text remaining none open_is sent (inl h) = inl (goes (Ok tt) a b c _ none h.0 sent, h.1)
sent_ends (Err OutOfMemory) a b c text remaining none open_is sent (inr h) = inr (record {
  before = h.before;
  piece = h.piece;
  after = h.after;
  pieces = h.pieces;
  card = h.card;
  was = h.was;
  starts = h.starts;
  answered = record { sound = h.answered.sound; written = goes (Ok tt) a b c _ none h.answered.written sent };
  read = h.read;
  unread = h.unread;
  is = h.is;
  tells = h.tells;
})
sent_ends _ a b c text remaining none open_is sent h = absurd (true≢false open_is)

-- or a write of it fails
pub unsent_failures : (r : Result Unit PlayFault) (e : WriteFailed) (a b : Output) (c : Taken) → a.page ≡ [] → is_cut r ≡ false → IsBroken b.taken c b.page
    → PutsSome r a b → c.failures ≡ one_failure_more a.taken.failures
unsent_failures (Err Read) e a b c none open_is sent h = absurd (true≢false open_is)
unsent_failures (Err Write) e a b c none open_is sent h = absurd (true≢false open_is)
unsent_failures _ e a b c none open_is sent h = (goes (Err e) a b c h.0 none h.1 sent).failed

pub unsent_ends : (r : Result Unit PlayFault) (e : WriteFailed) (a b : Output) (c : Taken) (text : List ℕ) (remaining : Option (List ℕ)) → a.page ≡ [] → is_cut r ≡ false → IsBroken b.taken c b.page
    → PlaysOn r text remaining a b → IsBroken a.taken c (transcript text)
unsent_ends (Ok u) e a b c text remaining none open_is sent h = goes (Err e) a b c _ none h.1 sent
unsent_ends (Err (Script number kind)) e a b c text remaining none open_is sent h = goes (Err e) a b c _ none h.1 sent
unsent_ends (Err OutOfMemory) e a b c text remaining none open_is sent (inl h) = broken_more a.taken c [] (transcript text) (goes (Err e) a b c _ none h.0 sent)
unsent_ends (Err OutOfMemory) e a b c text remaining none open_is sent (inr h) =
    let more = writes_on (h.piece ∷ pieces_of h.after) (played h.before) in
    subst (λ t. IsBroken a.taken c t) (sym (ap (λ pieces. (played pieces).written) h.pieces ∙ ap (λ p. Played.written p) (fold-append one_more not_begun h.before (h.piece ∷ pieces_of h.after)) ∙ more.0.1))
    (broken_more a.taken c (played h.before).written more.0.0 (goes (Err e) a b c _ none h.answered.written sent))
unsent_ends _ e a b c text remaining none open_is sent h = absurd (true≢false open_is)

-- Whatever was put, it was put on its way to the same target.
pub same_target : (r : Result Unit PlayFault) (a b : Output) → PutsSome r a b → b.name ≡ a.name
same_target r a b h = grind arith

-- ---- before more is read

-- a count that is not at its greatest value grows by a failure
grows : one_failure_more 0 ≡ 0 → ⊥
grows h = absurd (omega (arith, h))

-- no more was read
pub ready_puts : (fault : PlayFault) (a : Output) → ((count : ℕ) → (reads_failed fault count ≡ count) × (writes_failed fault count ≡ count)) → PutsNone {A = Bool} (Err fault) a a
ready_puts Read a steady = absurd (grows (steady 0).0)
ready_puts Write a steady = absurd (grows (steady 0).1)
ready_puts _ a steady = puts_nothing a

pub ready_reaches : (fault : PlayFault) (old new : ScriptLines) (remaining : Option (List ℕ)) (text : List ℕ) → Advances (Err fault) old new remaining text → Reaches (Err fault) old new remaining text
ready_reaches Write old new remaining text h = tt
ready_reaches _ old new remaining text h = h

-- the page is out, and more was read
goes_out : (a b : Output) → IsSent {A = Unit {0}} {E = WriteFailed} (Ok tt) a b → IsPut a b []
goes_out a b sent = grind (arith, writes_then)

pub read_puts : (r : Result Bool PlayFault) (a b : Output) → IsSent {A = Unit {0}} {E = WriteFailed} (Ok tt) a b → IfErr r (λ fault. (count : ℕ) → writes_failed fault count ≡ count) → PutsNone r a b
read_puts (Err Read) a b sent steady = (sent.cleared, goes_out a b sent)
read_puts (Err Write) a b sent steady = absurd (grows (steady 0))
read_puts _ a b sent steady = goes_out a b sent

-- or it is not, and nothing was read
pub send_stuck : (e : WriteFailed) (a b : Output) → IsSent {A = Unit {0}} (Err e) a b → IsStuck a b []
send_stuck e a b sent = record { same = sent.same; broken = λ more. broken_more a.taken b.taken a.page more sent.written }

pub read_grows : (r : Result Bool PlayFault) (old mid new : ScriptLines) → mid ≡ old → IfOk r (λ more. IsTrue more → mid.octets < new.octets) → IfOk r (λ more. IsTrue more → old.octets < new.octets)
read_grows r old mid new same h = subst (λ (lines : ScriptLines). IfOk r (λ more. IsTrue more → lines.octets < new.octets)) same h

pub read_reaches : (r : Result Bool PlayFault) (old mid new : ScriptLines) (remaining : Option (List ℕ)) (text : List ℕ) → mid ≡ old → Advances r mid new remaining text → Reaches r old new remaining text
read_reaches r old mid new remaining text same h = grind arith
