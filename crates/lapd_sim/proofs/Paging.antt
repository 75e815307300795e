-- The page on its way, while a script is played.
use Rattle.lapd_sim.proofs.Vocabulary.{◌≡◌, ◌++◌, ◌∙◌, ℕ, List, [], Bool, Option, Ok, Err, sym, ap, subst, append-nil, fold-append, Output, IsPut, IsStuck, puts_then, stuck_more, pieces_of, Played, played, one_more, not_begun, transcript, PlayFault, Read, Write, Script, OutOfMemory, ScriptLines, PutsNone, PutsSome, Reaches, PlaysOn}
use Rattle.lapd_sim.specs.declared.setup.Setup.{Setup}
use Rattle.lapd_sim.proofs.Playing.{IsPlayed, grows, stops_reading}

-- the page has gone out
pub put_on : (a b c : Output) (text : List ℕ) → IsPut a b text → IsPut b c [] → IsPut a c text
put_on a b c text put out = subst (IsPut a c) (append-nil text) (puts_then (Ok tt) a b c text [] put out)

-- it could not
stops_sending : (lines : ScriptLines) (setup : Option Setup) (remaining : Option (List ℕ)) (text : List ℕ) (a b c : Output) (p : IsPlayed lines setup remaining text) → IsPut a b (played p.done).written → IsStuck b c [] → IsStuck a c (transcript text)
stops_sending lines setup remaining text a b c p put stuck =
    let rest = (grows (pieces_of p.left) (played p.done)).0 in
    let whole : transcript text ≡ (played p.done).written ++ rest.0 =
    ap (λ pieces. (played pieces).written) p.is ∙ ap (λ q. Played.written q) (fold-append one_more not_begun p.done (pieces_of p.left)) ∙ rest.1 in
    subst (IsStuck a c) (sym whole)
    (stuck_more a c (played p.done).written rest.0
    (subst (IsStuck a c) (append-nil (played p.done).written) (puts_then (Err (record {})) a b c (played p.done).written [] put stuck)))

-- where there is no next line
pub put_before : (fault : PlayFault) (a b c : Output) (text : List ℕ) → IsPut a b text → PutsNone {A = Bool} (Err fault) b c → PutsSome {A = Unit} (Err fault) a c
put_before Read a b c text put h = (h.0, (text, put_on a b c text put h.1))
put_before Write a b c text put h = (text ++ [], puts_then (Err (record {})) a b c text [] put h)
put_before _ a b c text put h = (text, put_on a b c text put h)

pub stops_before : (fault : PlayFault) (lines new : ScriptLines) (setup : Option Setup) (remaining left : Option (List ℕ)) (text : List ℕ) (a b c : Output) (p : IsPlayed lines setup remaining text) → IsPut a b (played p.done).written
    → PutsNone {A = Bool} (Err fault) b c → Reaches (Err fault) lines new left p.left → PlaysOn (Err fault) text left a c
stops_before Read lines new setup remaining left text a b c p put out h = stops_reading Read lines new setup remaining left text a c p (put_on a b c (played p.done).written put out.1) h
stops_before Write lines new setup remaining left text a b c p put out h = stops_sending lines setup remaining text a b c p put out
stops_before (Script number kind) lines new setup remaining left text a b c p put out h =
    stops_reading (Script number kind) lines new setup remaining left text a c p (put_on a b c (played p.done).written put out) h
stops_before OutOfMemory lines new setup remaining left text a b c p put out h = absurd h
