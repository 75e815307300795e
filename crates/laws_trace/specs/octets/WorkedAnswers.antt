-- Worked values: SABME and a poll that come in octets, and are answered; and an answer that is not heard.
use Rattle.std.specs.Prelude.{◌≡◌, ℕ, zero, suc, ◌+◌, ◌≤◌, true, List, [], ◌∷◌, ◌++◌, map, replicate, refl}
use Rattle.std.proofs.Common.{◌∙◌, ap, arith, subst, sym}
use Rattle.std.proofs.lemmas.List.Sums.{fold-append}
use Rattle.model_bits.specs.Bits.{low_bits}
use Rattle.model_bits.specs.Stream as stream
use Rattle.lapd_frame.specs.declared.services.Service.TheVariants.{Call}
use Rattle.lapd_frame.specs.Reading.{reading, header_of, control_of, unnumbered_of, supervisory_of}
use Rattle.lapd_frame.specs.Senders.{exchanged, reading as read_by}
use Rattle.lapd_seq.specs.Circle.{named, distance_of}
use Rattle.lapd_seq.specs.Numbers.{seq}
use Rattle.model_teis.specs.network.Events as teis
use Rattle.model_line.specs.Event as line_event
use Rattle.model_line.specs.Machine as lines
use Rattle.model_line.specs.Request.{Assign}
use Rattle.laws_line.specs.WorkedPolled.{small}
use Rattle.laws_line.specs.card.WaitingIsHeard.{AreHeardSince}
use Rattle.laws_line.specs.Drains.{most_frames_before}
use Rattle.laws_trace.specs.AnswersAreGiven.{Stays, priority_added, queue, texts}
use Rattle.laws_trace.specs.Managing.{is_on, led, managed_after, none_on}
use Rattle.laws_trace.specs.octets.AnswersAreHeard.{IsPulled}
use Rattle.model_card.specs.ports.Pulls.{most_pulls_behind, pulls_of}
use Rattle.laws_trace.specs.WorkedAnswers.{none_there, sabme}
use Rattle.model_card.specs.Event as frames
use Rattle.model_card.specs.Run as runs
use Rattle.model_card.specs.ports.Card.{fresh, after, answer, meant}
use Rattle.model_card.specs.ports.Event.{Event, at}
use Rattle.model_card.specs.ports.GoingOut.{octets_given}
use Rattle.model_card.specs.ports.Port.{request, octet, pull}
use Rattle.model_card.specs.ports.Run.{moments, meant_all, after_all}

-- TEI 64 is assigned, and its SABME comes, octet by octet.
abbrev comes : List Event
comes = at 0 (request (Assign 64)) ∷ map (λ v. at 0 (octet v)) (0x7E ∷ 0x00 ∷ 0x81 ∷ 0xEF ∷ 0x50 ∷ 0xB1 ∷ 0xFD ∷ 0xFC ∷ [])

sabme_latest : meant_all (fresh small) comes ≡ frames.at 0 (line_event.request (Assign 64)) ∷ frames.at 0 sabme ∷ []
unfolding meant_all after meant lines.after lines.answer lines.takes_slot teis.course teis.refusal low_bits exchanged read_by reading header_of control_of unnumbered_of
sabme_latest = refl

on_then : is_on 64 (managed_after small 0 (frames.at 0 (line_event.request (Assign 64)) ∷ frames.at 0 sabme ∷ [])) ≡ true
unfolding teis.course teis.refusal exchanged read_by reading header_of control_of unnumbered_of
on_then = refl

-- Seven pulls behind it its UA is heard, the octets of two flags, of the frame and of its check; and with six of them it is not.
abbrev given_by : ℕ → List ℕ
given_by n = octets_given small (comes ++ replicate n (at 0 pull)) 0

ua_heard : AreHeardSince small.n201 (octets_given small comes 0) (given_by 7) (texts small Call 64 (queue small 0 Call 64 (meant_all (fresh small) comes)))
unfolding moments meant_all after_all after answer meant runs.moments runs.after_all lines.after lines.answer lines.takes_slot teis.course teis.refusal low_bits seq distance_of named exchanged read_by reading header_of control_of unnumbered_of supervisory_of
ua_heard = record { since = stream.frame (0x00 ∷ 0x81 ∷ 0x73 ∷ []) ∷ []; goes_on = refl; among = ([], [], refl, tt) }

not_yet : stream.heard_in small.n201 (given_by 6) ≡ []
unfolding moments after_all after answer meant lines.after lines.answer lines.takes_slot teis.course teis.refusal low_bits exchanged read_by reading header_of control_of unnumbered_of
not_yet = refl

-- 178 pulls are as many as the law asks for: they mean 172 calls for the next frame, while the TEI stays.
abbrev many : List Event
many = replicate 178 (at 0 pull)

abbrev calls : ℕ → List frames.Event
calls n = replicate n (frames.at 0 line_event.next)

calls_meant : meant_all (after_all (fresh small) comes) many ≡ calls 172
unfolding meant_all after_all after answer meant lines.after lines.answer lines.takes_slot teis.course teis.refusal low_bits exchanged read_by reading header_of control_of unnumbered_of
calls_meant = refl

still_on : (before : List frames.Event) → is_on 64 (managed_after small 0 (before ++ calls 1)) ≡ is_on 64 (managed_after small 0 before)
still_on before = ap (is_on 64) (fold-append (led small 0) none_on before (calls 1))

stays_on : (n : ℕ) (before : List frames.Event) → is_on 64 (managed_after small 0 before) ≡ true → Stays small 0 Call 64 before (calls n)
unfolding Stays
stays_on zero before on = on
stays_on (suc n) before on = (on, refl, stays_on n (before ++ calls 1) (still_on before ∙ on))

none_come : (n : ℕ) (before : List frames.Event) → priority_added small 0 before (calls n) ≡ 0
unfolding priority_added
none_come zero before = refl
none_come (suc n) before = let rest = none_come n (before ++ calls 1) in omega (arith, rest)

is_pulled : IsPulled small 0 Call 64 comes many
is_pulled =
    let first = meant_all (fresh small) comes in
    record {
      stays = subst (Stays small 0 Call 64 first) (sym calls_meant) (stays_on 172 first (ap (λ es. is_on 64 (managed_after small 0 es)) sabme_latest ∙ on_then));
      enough = subst (λ es. most_pulls_behind small.n201 (most_frames_before small + priority_added small 0 first es + 1) ≤ pulls_of 0 many) (sym calls_meant)
          (subst (λ n. most_pulls_behind small.n201 (most_frames_before small + n + 1) ≤ pulls_of 0 many) (sym (none_come 172 first)) (omega arith));
    }

-- Where nothing is heard since, the law is broken.
none_since : (since : List stream.Event) → [] ≡ since → (front back : List stream.Event) → since ≡ front ++ stream.frame (0x00 ∷ 0x81 ∷ 0x73 ∷ []) ∷ back → ⊥
none_since [] none front back is = none_there (stream.frame (0x00 ∷ 0x81 ∷ 0x73 ∷ [])) front back is
none_since (x ∷ since) none front back is = cc none

unheard : AreHeardSince 8 [] [] ((0x00 ∷ 0x81 ∷ 0x73 ∷ []) ∷ []) → ⊥
unheard h = let (front, back, is, rest) = h.among in none_since h.since h.goes_on front back is
