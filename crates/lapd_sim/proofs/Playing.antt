-- How far a script has been played.
use Rattle.lapd_sim.proofs.Vocabulary.{arith, ◌≡◌, ℕ, ◌+◌, ◌^◌, ◌<◌, ◌≤◌, ◌++◌, List, [], ◌∷◌, length, fold, true, false, cond, Bool, Option, None, Some, Result, Ok, Err, refl, sym, ap, ◌∙◌, subst, append_assoc, nat_lt, inr, ◌||◌, lt-ltb, le-ltb, ltb-false, true≢false, none-some, append-nil, fold-append, FaultKind, TooLong, Meaning, read, Output, IsPut, IsStuck, puts_then, stuck_more}
use Rattle.lapd_sim.proofs.Vocabulary.{puts_nothing, pieces_of, line_in, Played, Fault, played, one_more, not_begun, counted, faulty, is_too_long, after_reading, after_meaning, after_bench, after_scene, after_piece, unless_faulty, transcript, first_fault, Scene, with_card, without_card, LineFault, Faulty, PlayFault, Read, Write, Script, OutOfMemory, ScriptLines, fault_at, PutsSome, AreLeft}
use Rattle.lapd_sim.proofs.Vocabulary.{IsTooLong, Advances, held, Said, Does, Obeys, ObeysLine, StartsBy, said, said_by, said_of, said_with, said_without, scene, PlaysOn, AreAnswered, Has, SetupStands, IsNext}
use Rattle.lapd_sim.specs.machine.Setup as machine
use Rattle.lapd_sim.specs.declared.setup.Setup.{Setup}
use Rattle.lapd_script.specs.declared.faults.LineFault.TheVariants as line
use Rattle.lapd_sim.proofs.Wholes.{AreWhole, join, whole_before, whole_more, text_is, read_whole}

-- These pieces of the text have been played without a fault, and what is left of it is still to be read.
pub record IsPlayed (lines : ScriptLines) (setup : Option Setup) (remaining : Option (List ℕ)) (text : List ℕ) : Type 0 where
  pub done : List (List ℕ)
  pub left : List ℕ
  pub is : pieces_of text ≡ done ++ pieces_of left
  pub unread : AreLeft lines remaining left
  pub number : lines.number ≡ (played done).lines
  pub octets : lines.octets ≡ (played done).octets
  pub sound : (played done).fault ≡ None
  pub has : Has setup (played done).setup
  -- they are whole lines unless they are all that the source gave
  pub whole : lines.is_at_end ≡ false → AreWhole done

-- Their transcript has been put.
abbrev pub HasPlayed : ScriptLines → Option Setup → Option (List ℕ) → List ℕ → Output → Output → Type 0
HasPlayed lines setup remaining text old new = (p : IsPlayed lines setup remaining text) × IsPut old new (played p.done).written

-- What a line leads to, by what it says.
abbrev pub after_said : List ℕ → Result Said FaultKind → Played → Played
after_said piece (Ok s) p = record (counted piece p) { setup = s.setup; written = p.written ++ s.text }
after_said piece (Err kind) p = faulty kind p

started : (piece : List ℕ) (x : Result (Option machine.Setup) FaultKind) (p : Played) → after_bench piece x p ≡ after_said piece (said_without x) p
started piece (Ok setup) p = ap (λ written. record (counted piece p) { setup = setup; written = written }) (sym (append-nil p.written))
started piece (Err kind) p = refl

went_on : (piece : List ℕ) (x : Result Scene FaultKind) (p : Played) → after_scene piece x p ≡ after_said piece (said_with x) p
went_on piece (Ok s) p = refl
went_on piece (Err kind) p = refl

meant_is : (piece : List ℕ) (m : Meaning) (setup : Option machine.Setup) (p : Played) → after_meaning piece m setup p ≡ after_said piece (said_of m setup) p
meant_is piece m None p = started piece (without_card m) p
meant_is piece m (Some setup) p = went_on piece (with_card m (scene setup)) p

pub read_is : (piece : List ℕ) (r : Result Meaning FaultKind) (p : Played) → after_reading piece r p ≡ after_said piece (said_by r p.setup) p
read_is piece (Err kind) p = refl
read_is piece (Ok m) p = meant_is piece m p.setup p

-- one piece more, where no fault came before
unless_is : (piece : List ℕ) (fault : Option Fault) (p : Played) → fault ≡ None → unless_faulty piece fault p ≡ after_piece piece p
unless_is piece None p e = refl
unless_is piece (Some fault) p e = absurd (none-some fault (sym e))

-- the pieces so far, and one more
pub played_more : (done : List (List ℕ)) (piece : List ℕ) → (played done).fault ≡ None → played (done ++ piece ∷ []) ≡ after_piece piece (played done)
played_more done piece sound = fold-append one_more not_begun done (piece ∷ []) ∙ unless_is piece (played done).fault (played done) sound

-- a line that is not too long
not_long : (long far : Bool) (p q : Played) → long ≡ false → far ≡ false → cond (long || far) p q ≡ q
not_long long far p q e f = grind arith

pub short_is : (piece : List ℕ) (p : Played) → length (line_in piece) ≤ 4096 → p.octets + length piece ≤ 2 ^ 63
    → after_piece piece p ≡ after_said piece (said (line_in piece) p.setup) p
short_is piece p short near = grind (arith, not_long, nat_lt, le-ltb, read_is)

is_long : (long far : Bool) (p q : Played) → (long ≡ false → far ≡ true) → cond (long || far) p q ≡ p
is_long long far p q h = grind arith

pub long_is : (piece : List ℕ) (p : Played) → (length (line_in piece) ≤ 4096 → 2 ^ 63 < p.octets + length piece) → after_piece piece p ≡ faulty TooLong p
long_is piece p h = grind (arith, is_long, nat_lt, lt-ltb, ltb-false)

-- after a fault nothing more is played
stays_one : (piece : List ℕ) (o : Option Fault) (fault : Fault) (p : Played) → o ≡ Some fault → unless_faulty piece o p ≡ p
stays_one piece None fault p e = absurd (none-some fault e)
stays_one piece (Some f) fault p e = refl

pub stays : (pieces : List (List ℕ)) (p : Played) (fault : Fault) → p.fault ≡ Some fault → fold one_more p pieces ≡ p
stays [] p fault e = refl
stays (piece ∷ pieces) p fault e = ap (λ q. fold one_more q pieces) (stays_one piece p.fault fault p e) ∙ stays pieces p fault e

-- What has been written stays written; and where there is no card yet, nothing has been.
abbrev Silent : Played → Type 0
Silent p = p.setup ≡ None → p.written ≡ []

abbrev Grows : Played → Played → Type 0
Grows p q = ((more : List ℕ) × (q.written ≡ p.written ++ more)) × (Silent p → Silent q)

grows_not : (p : Played) → Grows p p
grows_not p = (([], sym (append-nil p.written)), λ h. h)

silent_start : (piece : List ℕ) (x : Result (Option machine.Setup) FaultKind) (p : Played) → p.written ≡ [] → Silent (after_said piece (said_without x) p)
silent_start piece (Ok setup) p h = λ e. append-nil p.written ∙ h
silent_start piece (Err kind) p h = λ e. h

silent_with : (piece : List ℕ) (x : Result Scene FaultKind) (p : Played) → Silent p → Silent (after_said piece (said_with x) p)
silent_with piece (Ok s) p h = λ e. absurd (none-some s.setup (sym e))
silent_with piece (Err kind) p h = h

silent_meant : (piece : List ℕ) (m : Meaning) (setup : Option machine.Setup) (p : Played) → setup ≡ p.setup → Silent p → Silent (after_said piece (said_of m setup) p)
silent_meant piece m None p e h = silent_start piece (without_card m) p (h (sym e))
silent_meant piece m (Some setup) p e h = silent_with piece (with_card m (scene setup)) p h

silent_read : (piece : List ℕ) (r : Result Meaning FaultKind) (p : Played) → Silent p → Silent (after_said piece (said_by r p.setup) p)
silent_read piece (Err kind) p h = h
silent_read piece (Ok m) p h = silent_meant piece m p.setup p refl h

grows_said : (piece : List ℕ) (x : Result Said FaultKind) (p : Played) → (Silent p → Silent (after_said piece x p)) → Grows p (after_said piece x p)
grows_said piece (Ok s) p h = ((s.text, refl), h)
grows_said piece (Err kind) p h = (([], sym (append-nil p.written)), h)

grows_test : (b : Bool) (p q r : Played) → Grows p q → Grows p r → Grows p (cond b q r)
grows_test true p q r h k = h
grows_test false p q r h k = k

grows_one : (piece : List ℕ) (o : Option Fault) (p : Played) → Grows p (unless_faulty piece o p)
grows_one piece None p =
    let r = read (line_in piece) in
    grows_test (is_too_long piece p) p (faulty TooLong p) (after_reading piece r p) (([], sym (append-nil p.written)), λ h. h)
    (subst (λ q. Grows p q) (sym (read_is piece r p)) (grows_said piece (said_by r p.setup) p (silent_read piece r p)))
grows_one piece (Some fault) p = grows_not p

pub grows : (pieces : List (List ℕ)) (p : Played) → Grows p (fold one_more p pieces)
grows [] p = grows_not p
grows (piece ∷ pieces) p =
    let first = grows_one piece p.fault p in
    let rest = grows pieces (one_more p piece) in (
      (first.0.0 ++ rest.0.0, rest.0.1 ∙ ap (λ text. text ++ rest.0.0) first.0.1 ∙ append_assoc p.written first.0.0 rest.0.0),
      λ h. rest.1 (first.1 h),
    )

-- the whole text, where these pieces have been played and one is next
pub all_played : (text left : List ℕ) (done : List (List ℕ)) (piece : List ℕ) (more : List (List ℕ)) → pieces_of text ≡ done ++ pieces_of left → pieces_of left ≡ piece ∷ more
    → (played done).fault ≡ None → played (pieces_of text) ≡ fold one_more (after_piece piece (played done)) more
all_played text left done piece more is next sound = grind (arith, fold-append, unless_is)

-- a fault is the first
pub fault_is : (text left : List ℕ) (done : List (List ℕ)) (piece : List ℕ) (more : List (List ℕ)) (kind : FaultKind) → pieces_of text ≡ done ++ pieces_of left → pieces_of left ≡ piece ∷ more
    → (played done).fault ≡ None → after_piece piece (played done) ≡ faulty kind (played done) → played (pieces_of text) ≡ faulty kind (played done)
fault_is text left done piece more kind is next sound fault =
    all_played text left done piece more is next sound ∙ ap (λ p. fold one_more p more) fault
    ∙ stays more (faulty kind (played done)) (record { line = (played done).lines + 1; kind = kind }) refl

-- nothing has been played yet
pub begins : (lines : ScriptLines) (setup : Option Setup) (remaining : Option (List ℕ)) (text : List ℕ) (a : Output) → setup ≡ None → lines.number ≡ 0 → lines.octets ≡ 0
    → AreLeft lines remaining text → HasPlayed lines setup remaining text a a
begins lines setup remaining text a none number octets unread = (
  record {
    done = [];
    left = text;
    is = refl;
    unread = unread;
    number = number;
    octets = octets;
    sound = refl;
    has = subst (λ b. Has b None) (sym none) tt;
    whole = λ e. tt;
  },
  puts_nothing a,
)

-- no line is left
pub ends : (lines : ScriptLines) (setup : Option Setup) (remaining : Option (List ℕ)) (text : List ℕ) (a b : Output) (p : IsPlayed lines setup remaining text) → p.left ≡ [] → IsPut a b (played p.done).written
    → (first_fault text ≡ None) × IsPut a b (transcript text)
ends lines setup remaining text a b p none put = grind (arith, append-nil)

-- the next line is faulty,
stops_at : (lines : ScriptLines) (setup : Option Setup) (remaining : Option (List ℕ)) (text : List ℕ) (a b : Output) (p : IsPlayed lines setup remaining text) (piece more : List ℕ) (number : ℕ) (kind : FaultKind)
    → pieces_of p.left ≡ piece ∷ pieces_of more → number ≡ lines.number + 1 → after_piece piece (played p.done) ≡ faulty kind (played p.done) → IsPut a b (played p.done).written
    → (first_fault text ≡ Some (record { line = number; kind = kind })) × IsPut a b (transcript text)
stops_at lines setup remaining text a b p piece more number kind next is fault put =
    let all = fault_is text p.left p.done piece (pieces_of more) kind p.is next p.sound fault in (
      ap (λ q. Played.fault q) all ∙ ap (λ n. Some (record { line = n; kind = kind })) (sym (is ∙ ap (λ n. n + 1) p.number)),
      subst (λ t. IsPut a b t) (sym (ap (λ q. Played.written q) all)) put,
    )

-- or too long
stops_long : (lines : ScriptLines) (setup : Option Setup) (remaining : Option (List ℕ)) (text : List ℕ) (a b : Output) (p : IsPlayed lines setup remaining text) (number : ℕ) → IsTooLong lines number p.left → IsPut a b (played p.done).written
    → (first_fault text ≡ Some (record { line = number; kind = TooLong })) × IsPut a b (transcript text)
stops_long lines setup remaining text a b p number long put =
    stops_at lines setup remaining text a b p long.piece long.more number TooLong long.pieces long.number
    (long_is long.piece (played p.done) (λ short. subst (λ n. 2 ^ 63 < n + length long.piece) p.octets (long.long short))) put

-- the next line leads to what it says
next_is : (lines new : ScriptLines) (setup : Option Setup) (remaining left : Option (List ℕ)) (text : List ℕ) (p : IsPlayed lines setup remaining text) (n : IsNext lines new left p.left)
    → after_piece n.piece (played p.done) ≡ after_said n.piece (said (line_in n.piece) (played p.done).setup) (played p.done)
next_is lines new setup remaining left text p n =
    short_is n.piece (played p.done) n.short (subst (λ octets. octets ≤ 2 ^ 63) (n.octets ∙ ap (λ octets. octets + length n.piece) p.octets) new.bounded)

-- a write of it fails
stops_broken : (lines new : ScriptLines) (setup : Option Setup) (remaining left : Option (List ℕ)) (text : List ℕ) (a b c : Output) (p : IsPlayed lines setup remaining text) (n : IsNext lines new left p.left) → IsPut a b (played p.done).written
    → (s : Said) → said (line_in n.piece) (played p.done).setup ≡ Ok s → IsStuck b c s.text → IsStuck a c (transcript text)
stops_broken lines new setup remaining left text a b c p n put s fine broken =
    let next = next_is lines new setup remaining left text p n ∙ ap (λ x. after_said n.piece x (played p.done)) fine in
    let all = all_played text p.left p.done n.piece (pieces_of n.more) p.is n.pieces p.sound ∙ ap (λ q. fold one_more q (pieces_of n.more)) next in
    let rest = (grows (pieces_of n.more) (after_said n.piece (Ok s) (played p.done))).0 in
    subst (λ t. IsStuck a c t) (sym (ap (λ q. Played.written q) all ∙ rest.1))
    (stuck_more a c ((played p.done).written ++ s.text) rest.0 (puts_then (Err (record {})) a b c (played p.done).written s.text put broken))

-- it has been played
pub goes_on : (lines new : ScriptLines) (setup later : Option Setup) (remaining left : Option (List ℕ)) (text : List ℕ) (a b c : Output) (p : IsPlayed lines setup remaining text) (n : IsNext lines new left p.left) → IsPut a b (played p.done).written
    → (s : Said) → said (line_in n.piece) (played p.done).setup ≡ Ok s → IsPut b c s.text → Has later s.setup → HasPlayed new later left text a c
goes_on lines new setup later remaining left text a b c p n put s fine written has =
    let is : played (p.done ++ n.piece ∷ []) ≡ after_said n.piece (Ok s) (played p.done) =
    played_more p.done n.piece p.sound ∙ next_is lines new setup remaining left text p n ∙ ap (λ x. after_said n.piece x (played p.done)) fine in
    let next : pieces_of text ≡ p.done ++ n.piece ∷ pieces_of n.more = p.is ∙ ap (λ pieces. p.done ++ pieces) n.pieces in (
      record {
        done = p.done ++ n.piece ∷ [];
        left = n.more;
        is = next ∙ sym (append_assoc p.done (n.piece ∷ []) (pieces_of n.more));
        unread = n.left;
        number = n.number ∙ ap (λ i. i + 1) p.number ∙ sym (ap (λ q. Played.lines q) is);
        octets = n.octets ∙ ap (λ i. i + length n.piece) p.octets ∙ sym (ap (λ q. Played.octets q) is);
        sound = ap (λ q. Played.fault q) is ∙ p.sound;
        has = subst (λ q. Has later (Played.setup q)) (sym is) has;
        whole = λ e. whole_more p.done n.piece (whole_before text p.done n.piece (pieces_of n.more) next) (n.whole e);
      },
      subst (λ q. IsPut a c (Played.written q)) (sym is) (puts_then (Ok tt) a b c (played p.done).written s.text put written),
    )

-- what a line put, where it stopped the script and where it did not; and that there is a setup after it
pub does_fail : (fault : LineFault) (number : ℕ) (a b c : Output) (l : List ℕ) (m : Option machine.Setup) (has : Option machine.Setup → Type 0) (x : Result Said FaultKind) (text : List ℕ) → IsPut a b text
    → Does (Err fault) b c l m has x → PutsSome {A = Unit} (Err (fault_at fault number)) a c
does_fail line.Write number a b c l m has (Ok s) text p h = (text ++ s.text, puts_then (Err (record {})) a b c text s.text p h)
does_fail line.Write number a b c l m has (Err kind) text p h = absurd h
does_fail _ number a b c l m has x text p h = (text, subst (λ d. IsPut a d text) (sym h.0) p)

pub does_ok : (u : Unit {0}) (a b : Output) (l : List ℕ) (m : Option machine.Setup) (has : Option machine.Setup → Type 0) (x : Result Said FaultKind) → Does (Ok u) a b l m has x
    → (s : Said) × (x ≡ Ok s) × IsPut a b s.text × has s.setup
does_ok u a b l m has (Ok s) h = (s, refl, h.0, h.1)
does_ok u a b l m has (Err kind) h = absurd h

-- the next line stops the script
pub stops : (fault : LineFault) (lines new : ScriptLines) (setup : Option Setup) (remaining left : Option (List ℕ)) (text : List ℕ) (a b c : Output) (has : Option machine.Setup → Type 0)
    (p : IsPlayed lines setup remaining text) (n : IsNext lines new left p.left) → IsPut a b (played p.done).written
    → Does (Err fault) b c (line_in n.piece) (played p.done).setup has (said (line_in n.piece) (played p.done).setup)
    → PlaysOn (Err (fault_at fault new.number)) text left a c
stops (Faulty kind) lines new setup remaining left text a b c has p n put h =
    let next = next_is lines new setup remaining left text p n ∙ ap (λ x. after_said n.piece x (played p.done)) h.1 in
    let found = stops_at lines setup remaining text a b p n.piece n.more new.number kind n.pieces n.number next put in
    (found.0, subst (λ t. IsPut a t (transcript text)) (sym h.0) found.1)
stops line.Write lines new setup remaining left text a b c has p n put h =
    stops_write (said (line_in n.piece) (played p.done).setup) refl h where
      stops_write : (x : Result Said FaultKind) → said (line_in n.piece) (played p.done).setup ≡ x → Does (Err line.Write) b c (line_in n.piece) (played p.done).setup has x → IsStuck a c (transcript text)
      stops_write (Ok s) e k = stops_broken lines new setup remaining left text a b c p n put s e k
      stops_write (Err kind) e k = absurd k
stops line.OutOfMemory lines new setup remaining left text a b c has p n put h =
    let is : played (p.done ++ n.piece ∷ []) ≡ after_said n.piece (Ok (record { setup = Some h.1.card; text = [] })) (played p.done) =
    played_more p.done n.piece p.sound ∙ next_is lines new setup remaining left text p n ∙ ap (λ x. after_said n.piece x (played p.done)) h.1.begins in
    inr (record {
      before = p.done;
      piece = n.piece;
      after = n.more;
      pieces = p.is ∙ ap (λ pieces. p.done ++ pieces) n.pieces;
      card = h.1.card;
      was = h.1.was;
      starts = ap (λ q. Played.setup q) is;
      answered = record { sound = p.sound; written = subst (λ t. IsPut a t (played p.done).written) (sym h.0) put };
      read = held new;
      unread = n.left.rest;
      is = n.left.is;
      tells = n.left.tells;
    })

-- what the next line is, or that there is none
pub over : (more : Bool) (old new : ScriptLines) (remaining : Option (List ℕ)) (text : List ℕ) → more ≡ false → Advances (Ok more) old new remaining text → (text ≡ []) × (remaining ≡ Some [])
over true old new remaining text e h = absurd (true≢false e)
over false old new remaining text e h = h

pub next : (more : Bool) (old new : ScriptLines) (remaining : Option (List ℕ)) (text : List ℕ) → more ≡ true → Advances (Ok more) old new remaining text → IsNext old new remaining text
next true old new remaining text e h = h
next false old new remaining text e h = absurd (true≢false (sym e))

-- reading stops the script
pub stops_reading : (fault : PlayFault) (lines new : ScriptLines) (setup : Option Setup) (remaining left : Option (List ℕ)) (text : List ℕ) (a b : Output) (p : IsPlayed lines setup remaining text) → IsPut a b (played p.done).written
    → Advances (Err fault) lines new left p.left → PlaysOn (Err fault) text left a b
stops_reading Read lines new setup remaining left text a b p put h = record {
  read = join p.done ++ h.begun;
  unread = h.rest;
  is = text_is text p.done p.left p.is ∙ ap (λ l. join p.done ++ l) h.is ∙ sym (append_assoc (join p.done) h.begun h.rest);
  tells = h.tells;
  answered = subst (λ ps. AreAnswered ps (IsPut a b)) (sym (read_whole p.done text p.left h.begun p.is (p.whole h.goes_on) h.open_is)) (record { sound = p.sound; written = put });
}
stops_reading (Script number kind) lines new setup remaining left text a b p put h =
    let found = stops_long lines setup remaining text a b p number h.1 put in
    (found.0 ∙ ap (λ k. Some (record { line = number; kind = k })) (sym h.0), found.1)
stops_reading Write lines new setup remaining left text a b p put h = absurd h
stops_reading OutOfMemory lines new setup remaining left text a b p put h = absurd h

-- the line that starts the card, or is skipped before it
has_none : (b : Option Setup) (m : Option machine.Setup) → b ≡ None → Has b m → m ≡ None
has_none b m e h = grind (arith, none-some)

starts_as : (setup : Option Setup) (a : Output) (l : List ℕ) (x : Result (Option machine.Setup) FaultKind) → StartsBy (Ok setup) x → Does (Ok tt) a a l None (Has setup) (said_without x)
starts_as setup a l (Ok b) h = (puts_nothing a, h)
starts_as setup a l (Err kind) h = absurd h

pub starts : (before setup : Option Setup) (a : Output) (meaning : Meaning) (line : List ℕ) (m : Option machine.Setup) → before ≡ None → Has before m → Ok meaning ≡ read line
    → StartsBy (Ok setup) (without_card meaning) → Does (Ok tt) a a line m (Has setup) (said line m)
starts before setup a meaning line m e h is k = grind (arith, has_none, starts_as)

-- a line that the card obeys
goes_as : (r : Result Unit LineFault) (setup : Setup) (a b : Output) (meaning : Meaning) (l : List ℕ) (m : machine.Setup) (x : Result Scene FaultKind) → Ok meaning ≡ read l → ObeysLine meaning m r a b (SetupStands setup) x
    → Does r a b l (Some m) (Has (Some setup)) (said_with x)
goes_as (Ok u) setup a b meaning l m (Ok s) is h = h
goes_as (Ok u) setup a b meaning l m (Err kind) is h = absurd h
goes_as (Err (Faulty kind)) setup a b meaning l m x is h = (h.0, ap said_with h.1)
goes_as (Err line.Write) setup a b meaning l m (Ok s) is h = h
goes_as (Err line.Write) setup a b meaning l m (Err kind) is h = absurd h
goes_as (Err line.OutOfMemory) setup a b meaning l m x is h =
    (h.0, record { card = m; was = (sym is ∙ ap Ok h.1, refl); begins = ap said_with h.2 })

pub goes : (before : Option Setup) (old new : Setup) (r : Result Unit LineFault) (a b : Output) (meaning : Meaning) (line : List ℕ) (m : Option machine.Setup) → before ≡ Some old → Has before m → Ok meaning ≡ read line
    → ((n : machine.Setup) → SetupStands old n → ObeysLine meaning n r a b (SetupStands new) (with_card meaning (scene n))) → Does r a b line m (Has (Some new)) (said line m)
goes before old new r a b meaning line m e h is k = grind (arith, goes_as)

-- at a line that takes no memory
pub takes_none : (r : Result Unit LineFault) (a b : Output) (meaning : Meaning) (m : machine.Setup) (stands : machine.Setup → Type 0) (x : Result Scene FaultKind) → Obeys r a b stands x → ObeysLine meaning m r a b stands x
takes_none (Ok u) a b meaning m stands x h = h
takes_none (Err (Faulty kind)) a b meaning m stands x h = h
takes_none (Err line.Write) a b meaning m stands x h = h
takes_none (Err line.OutOfMemory) a b meaning m stands x h = absurd h
