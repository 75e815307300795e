-- The Ri of each message of TEI management that waits on a line has two octets.
use Rattle.laws_trace.proofs.Vocabulary.{ℕ, ◌+◌, ◌*◌, ◌/◌, ◌%◌, ◌<◌, ◌==◌, ◌&&◌, Bool, cond, nat_le, List, [], ◌∷◌, ◌++◌, Option, Some, None, arith, All, All-nil, All-cons, All-head, All-tail, All-append, AreOctets, Management, Message, Check, Doubled, Refusal, IdentityAssigned, IdentityDenied, IdentityRemove, free_place, no_room, lose_one, send, unserved, leave, end_check}
use Rattle.laws_trace.proofs.Vocabulary.{TeiCourse as Course, cond_both, tei_after, tei_begun, tei_message, tei_assign, tei_remove, tei_check, tei_disown, tei_refusal, tei_step, tei_unless_refused, TeiEvent, tei_course}
use Rattle.std.proofs.lemmas.List.Elements.{All-take}
use Rattle.model_teis.specs.network.Rows as rows
use Rattle.lapd_frame.specs.Readings.{by_reading}
use Rattle.lapd_frame.specs.declared.readings.Reading.{Reading}
use Rattle.lapd_frame.specs.declared.readings.Reading.TheVariants.{Profile, AnnexB}
use Rattle.model_teis.specs.declared.network.messages.Message.TheVariants.{IdentityCheckRequest}
use Rattle.model_teis.specs.network.Events.{expiry, down}
use Rattle.model_teis.specs.Information.{heard_by, looked_at}
use Rattle.model_teis.specs.network.Messages.{heard_of_type, responses_in}
use Rattle.model_teis.specs.Table.{free_tei}
use Rattle.model_teis.specs.Steps.{nothing_happens}
use Rattle.model_teis.specs.network.Words.{Step, check_is, note, with_message}

abbrev pub ri_of : Message → ℕ
ri_of (IdentityAssigned ri tei) = ri
ri_of (IdentityDenied ri tei) = ri
ri_of other = 0

abbrev pub IsSmall : Message → Type 0
IsSmall m = ri_of m < 65536

abbrev AreSmall : Course → Type 0
AreSmall c = All IsSmall c.now.waiting

sent : (m : Message) (waiting : List Message) → IsSmall m → All IsSmall waiting → All IsSmall (with_message m waiting)
sent m waiting small h =
    cond_both (no_room waiting) waiting (waiting ++ m ∷ []) (All IsSmall) (λ full. h) (λ room. All-append IsSmall waiting (m ∷ []) h (All-cons IsSmall m [] small (All-nil IsSmall)))

-- The rows.
sends : (m : Message) (c : Course) → IsSmall m → AreSmall c → AreSmall (send m c)
sends m c small h = sent m c.now.waiting small h

in-both : (r : Reading) (x y : Course) → AreSmall x → AreSmall y → AreSmall (by_reading r x y)
in-both r x y h k = grind arith

either-of : (b : Bool) (f g : Step) (c : Course) → AreSmall (f c) → AreSmall (g c) → AreSmall ((cond b f g) c)
either-of b f g c h k = grind arith

answer-small : (ri : ℕ) (c : Course) → ri < 65536 → AreSmall c → AreSmall (rows.answer_request ri c)
answer-small ri c small h =
    either-of (no_room c.now.waiting) lose_one (rows.assign ri (rows.remembered_in ri c.now.remembered)) c h (by-held (rows.remembered_in ri c.now.remembered))
  where
    new : (place tei : Option ℕ) → AreSmall (rows.assign_new ri place tei c)
    new (Some place) (Some tei) = sent (IdentityAssigned ri tei) c.now.waiting small h
    new (Some place) None = sends (IdentityDenied ri 127) c small h
    new None tei = sends (IdentityDenied ri 127) c small h

    by-held : (o : Option ℕ) → AreSmall (rows.assign ri o c)
    by-held (Some tei) = sends (IdentityAssigned ri tei) c small h
    by-held None = new (free_place c.now.places) (free_tei c.now.places)

request-small : (ri : ℕ) (c : Course) → ri < 65536 → AreSmall c → AreSmall (rows.request ri c)
request-small ri c small h = grind (arith, in-both, answer-small, either-of, unserved)

end-small : (c : Course) → AreSmall c → AreSmall (end_check c)
end-small c h = grind (arith, sends)

remove-small : (tei : ℕ) (c : Course) → AreSmall c → AreSmall (leave tei (end_check (send (IdentityRemove tei) c)))
remove-small tei c h = end-small (send (IdentityRemove tei) c) (sends (IdentityRemove tei) c (omega arith) h)

count-small : (tei : ℕ) (check : Check) (c : Course) → AreSmall c → AreSmall (rows.count tei check c)
count-small tei check c h = either-of (nat_le 2 (rows.responses check)) (rows.doubled tei) (check_is (Some check)) c (remove-small tei (note (Doubled tei) c) h) h

respond-small : (tei : ℕ) (o : Option Check) (c : Course) → AreSmall c → AreSmall (rows.respond tei o c)
respond-small tei None c h = h
respond-small tei (Some check) c h = either-of (check.tei == tei) (rows.count tei (rows.counted check)) unserved c (count-small tei (rows.counted check) c h) h

among-small : (teis : Option (List ℕ)) (o : Option Check) (c : Course) → AreSmall c → AreSmall (rows.respond_among teis o c)
among-small teis None c h = h
among-small teis (Some check) c h = either-of (rows.is_among check.tei teis) (rows.count check.tei (rows.counted check)) unserved c (count-small check.tei (rows.counted check) c h) h

none-small : (teis : Option (List ℕ)) (c : Course) → AreSmall c → AreSmall (by_reading c.now.reading (unserved c) (rows.respond_among teis c.now.check c))
none-small teis c h = in-both c.now.reading (unserved c) (rows.respond_among teis c.now.check c) h (among-small teis c.now.check c h)

verify-small : (tei : ℕ) (c : Course) → AreSmall c → AreSmall (rows.verify tei c)
verify-small tei c h = grind (arith, sends)

-- A message that is served, and what octets say.
either-served : {X : Type 0} (f : X → Course) (b : Bool) (u v : X) → AreSmall (f u) → AreSmall (f v) → AreSmall (f (cond b u v))
either-served f b u v h k = grind arith

five-served : (five : List ℕ) (teis : Option (List ℕ)) (c : Course) → AreOctets five → AreSmall c → AreSmall (rows.serve (heard_by heard_of_type five) teis c)
five-served (a ∷ high ∷ low ∷ type ∷ last ∷ []) teis c octets h =
    let behind = All-tail (λ octet. octet < 256) a (high ∷ low ∷ type ∷ last ∷ []) octets in
    let first : high < 256 = All-head (λ octet. octet < 256) high (low ∷ type ∷ last ∷ []) behind in
    let second : low < 256 = All-head (λ octet. octet < 256) low (type ∷ last ∷ []) (All-tail (λ octet. octet < 256) high (low ∷ type ∷ last ∷ []) behind) in
    let ri : 256 * high + low < 65536 = omega (arith, first, second) in
    let action = last / 2 in
    either-served (λ o. rows.serve o teis c) (a == 0x0F && last % 2 == 1) _ _
    (either-served (λ o. rows.serve o teis c) (type == 1 && action == 127) _ _ (request-small (256 * high + low) c ri h)
    (either-served (λ o. rows.serve o teis c) (type == 1 && nat_le 64 action && nat_le action 126) _ _
    (in-both c.now.reading (unserved c) (send (IdentityDenied (256 * high + low) action) c) h (sends (IdentityDenied (256 * high + low) action) c ri h))
    (either-served (λ o. rows.serve o teis c) (type == 5) _ _ (respond-small action c.now.check c h)
    (either-served (λ o. rows.serve o teis c) (type == 7) _ _ (verify-small action c h) (none-small teis c h)))))
    (none-small teis c h)
five-served (a ∷ high ∷ low ∷ type ∷ last ∷ sixth ∷ more) teis c octets h = none-small teis c h
five-served (a ∷ high ∷ low ∷ type ∷ []) teis c octets h = none-small teis c h
five-served (a ∷ high ∷ low ∷ []) teis c octets h = none-small teis c h
five-served (a ∷ high ∷ []) teis c octets h = none-small teis c h
five-served (a ∷ []) teis c octets h = none-small teis c h
five-served [] teis c octets h = none-small teis c h

served : (info : List ℕ) (c : Course) → AreOctets info → AreSmall c → AreSmall (rows.hear info c)
served info c octets h = five-served (looked_at c.now.reading info) (responses_in info) c (looked c.now.reading) h
  where
    looked : (r : Reading) → AreOctets (looked_at r info)
    looked Profile = octets
    looked AnnexB = All-take (λ octet. octet < 256) 5 info octets

-- What management asks for, and an expiry.
expire-small : (c : Course) → AreSmall c → AreSmall (rows.expire c)
expire-small c h = grind (arith, sends, end-small)

take-small : (tei : ℕ) (c : Course) → AreSmall c → AreSmall (rows.take_off tei c)
take-small tei c h =
    let sent = send (IdentityRemove tei) c in let small = sends (IdentityRemove tei) c (omega arith) h in
    either-of (rows.is_checked tei sent.now.check) end_check nothing_happens sent (end-small sent small) small

put-small : (tei : ℕ) (c : Course) → AreSmall c → AreSmall (rows.put_on tei c)
put-small tei c h = grind arith

down-small : (c : Course) → AreSmall (rows.give_up c)
down-small c = grind (arith, All-nil)

-- An event of TEI management: a message is of octets.
abbrev pub IsOfOctets : TeiEvent → Type 0
IsOfOctets (tei_message octets) = AreOctets octets
IsOfOctets other = Unit {0}

unless-small : (o : Option Refusal) (e : TeiEvent) (m : Management) → All IsSmall m.waiting → AreSmall (tei_step e (tei_begun m)) → AreSmall (tei_unless_refused o (tei_step e) m)
unless-small o e m h k = grind arith

pub after-small : (e : TeiEvent) (m : Management) → IsOfOctets e → All IsSmall m.waiting → All IsSmall (tei_after e m).waiting
unfolding tei_course
after-small (tei_message octets) m o h = unless-small (tei_refusal (tei_message octets) m) (tei_message octets) m h (served octets (tei_begun m) o h)
after-small expiry m o h = unless-small (tei_refusal expiry m) expiry m h (expire-small (tei_begun m) h)
after-small (tei_assign tei) m o h = unless-small (tei_refusal (tei_assign tei) m) (tei_assign tei) m h (put-small tei (tei_begun m) h)
after-small (tei_remove tei) m o h = unless-small (tei_refusal (tei_remove tei) m) (tei_remove tei) m h (take-small tei (tei_begun m) h)
after-small (tei_check tei) m o h = unless-small (tei_refusal (tei_check tei) m) (tei_check tei) m h (sends (IdentityCheckRequest tei) (tei_begun m) (omega arith) h)
after-small (tei_disown tei) m o h = unless-small (tei_refusal (tei_disown tei) m) (tei_disown tei) m h (sends (IdentityRemove tei) (tei_begun m) (omega arith) h)
after-small down m o h = unless-small (tei_refusal down m) down m h (down-small (tei_begun m))
