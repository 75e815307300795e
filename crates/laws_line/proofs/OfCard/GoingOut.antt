-- A control frame that waits at a line of octets goes out: a receiver hears it.
use Rattle.laws_line.proofs.Vocabulary.{List, None, Option, Some, [], ap, append-nil, append_assoc, arith, eq-eqb, false, length, map, option_map, refl, subst, sym, ℕ, ◌++◌, ◌+◌, ◌<◌, ◌∙◌, ◌∷◌, ◌≡◌, ◌≤◌, ControlFrame, next, answer as line_answer, place_at, tei_at, taken, next_of, Config, Card, line_at, at, card_after, after_all as frames_after, moments as frame_moments, CardIsSound as IsSound}
use Rattle.laws_line.proofs.Vocabulary.{control_text, most_frames_before, AreAmong, link_at, link_count, option_to_list, IsNotDeactivated, is_deactivated_at, takes_of, StaysAt, priority_added_at}
use Rattle.std.proofs.lemmas.Grind.{flat_map-append}
use Rattle.std.specs.List.{flat_map}
use Rattle.std.proofs.lemmas.List.{length-map, map-append}
use Rattle.model_bits.specs.Sent.{Item, idle}
use Rattle.model_bits.specs.Stream as stream
use Rattle.model_bits.specs.Stream.{heard_in}
use Rattle.model_line.specs.Event.{NextFrame}
unfoldable use Rattle.model_line.specs.Machine.{takes_slot}
use Rattle.model_card.specs.Event as frames
use Rattle.model_card.specs.Run as runs
use Rattle.model_card.specs.ports.Card.{OctetCard, port_at}
use Rattle.model_card.specs.ports.Codec.{frames_among}
use Rattle.model_card.specs.Takes.{frames_given, octets_of}
use Rattle.model_card.specs.ports.Event.{Event}
use Rattle.model_card.specs.ports.GoingOut.{GoOut, as_octets, call_answered, calls_answered}
use Rattle.model_card.specs.ports.Port.{Port, item_of}
use Rattle.model_card.specs.ports.Reached.{IsReached}
use Rattle.model_card.specs.ports.Run.{AreAtLines, after_all, meant_all}
use Rattle.model_card.proofs.OfPorts.AsOctets.{sent, exact}
use Rattle.model_card.proofs.OfPorts.CallsPut.{run_puts}
use Rattle.model_card.proofs.OfPorts.GoingOut.{items_sent, port_out, port_all_out}
use Rattle.model_card.proofs.OfPorts.Codec.{refines}
use Rattle.model_card.proofs.OfPorts.PortGoesOn.{frames_among-append}
use Rattle.model_card.proofs.OfPorts.Pulls.{pulls_are_takes}
use Rattle.model_card.proofs.OfPorts.Reaching.{reached_sound, reached_after_all}
use Rattle.model_card.proofs.OfPorts.Steps.{moments-append, config_stays as octets_config_stays}
use Rattle.model_card.specs.ports.Pulls.{most_pulls_behind, pulls_of}
use Rattle.laws_line.proofs.OfCard.Spelling.{head}
use Rattle.lapd_frame.specs.Grammar.{head_of}
use Rattle.lapd_frame.specs.Senders.{renamed}
use Rattle.lapd_frame.specs.Services.{sapi_of}
use Rattle.lapd_frame.proofs.Naming.{exchanged-small}
use Rattle.model_link.specs.Link.{address_at}
use Rattle.model_link.proofs.Waits.{sapi-small}
use Rattle.model_line.specs.Line.{service_at, terms}
use Rattle.laws_line.proofs.OfCard.InOrder.{among-before, among-behind, among-mapped, has-end}
use Rattle.laws_line.proofs.OfCard.Meanwhile.{call-behind, line-sound}
use Rattle.laws_line.proofs.OfCard.Wherever.{all-left, waiting-taken}
use Rattle.laws_line.specs.card.WaitingIsHeard.{AreHeardSince}

-- ---- calls among events of frames

-- What the calls of a list are answered with, one of its parts after the other.
answers-append : (number : ℕ) (card : Card) (a b : List frames.Event)
    → calls_answered number (runs.moments card (a ++ b)) ≡ calls_answered number (runs.moments card a) ++ calls_answered number (runs.moments (runs.after_all card a) b)
answers-append number card a b =
    ap (calls_answered number) (moments-append card a b) ∙ flat_map-append (call_answered number) (runs.moments card a) (runs.moments (runs.after_all card a) b)

answer-now : (number : ℕ) (card : Card) (back : List frames.Event)
    → calls_answered number (runs.moments card (at number next ∷ back))
    ≡ option_map next_of (taken card.config (line_at number card)) ∷ calls_answered number (runs.moments (card_after (at number next) card) back)
unfolding frame_moments line_answer takes_slot
answer-now number card back = grind (arith, eq-eqb)

stays-first : (number link tei : ℕ) (card : Card) (a b : List frames.Event) → StaysAt number link tei card (a ++ b) → StaysAt number link tei card a
unfolding StaysAt
stays-first number link tei card [] [] on = on
stays-first number link tei card [] (e ∷ b) on = on.0
stays-first number link tei card (e ∷ a) b on = (on.0, stays-first number link tei (card_after e card) a b on.1)

come-few : (number : ℕ) (card : Card) (a b : List frames.Event) → priority_added_at number card a ≤ priority_added_at number card (a ++ b)
unfolding priority_added_at
come-few number card [] b = omega arith
come-few number card (e ∷ a) b = let rest = come-few number (card_after e card) a b in omega (arith, rest)

-- ---- frames among what goes out

abbrev octets_in : List (Option NextFrame) → List (List ℕ)
octets_in answers = flat_map (λ o. option_to_list (option_map octets_of o)) answers

given-in : (number : ℕ) (ms : List runs.Moment) → octets_in (calls_answered number ms) ≡ frames_given number ms
given-in number [] = refl
given-in number (m ∷ ms) = grind (arith, given-in number ms, flat_map-append)

-- the frames of what calls are answered with, as they go out
abbrev texts : List (Option NextFrame) → List (List ℕ)
texts answers = frames_among (map sent (map item_of answers))

texts-are : (answers : List (Option NextFrame)) → texts answers ≡ map as_octets (octets_in answers)
texts-are [] = refl
texts-are (None ∷ a) = texts-are a
texts-are (Some x ∷ a) = ap (λ l. as_octets x.octets ∷ l) (texts-are a)

texts-append : (a b : List (Option NextFrame)) → texts (a ++ b) ≡ texts a ++ texts b
texts-append [] b = refl
texts-append (None ∷ a) b = texts-append a b
texts-append (Some x ∷ a) b = ap (λ l. as_octets x.octets ∷ l) (texts-append a b)

-- Frames that are given by the calls of a list, before the last one.
pub record AreGivenBefore (number : ℕ) (card : Card) (es : List frames.Event) (given : List (List ℕ)) : Type 0 where
  front : List (Option NextFrame)
  last : Option NextFrame
  are : calls_answered number (runs.moments card es) ≡ front ++ last ∷ []
  among : AreAmong (map as_octets given) (texts front)

pub given-before : (number : ℕ) (card : Card) (a b : List frames.Event) (given : List (List ℕ)) → AreAmong given (frames_given number (runs.moments card a))
    → AreGivenBefore number card (a ++ at number next ∷ b) given
given-before number card a b given x =
    let mid = runs.after_all card a in
    let first = calls_answered number (runs.moments card a) in
    let asked = option_map next_of (taken mid.config (line_at number mid)) in
    let rest = calls_answered number (runs.moments (card_after (at number next) mid) b) in
    let end = has-end [] asked rest in
    let now = subst (AreAmong (map as_octets given)) (ap (map as_octets) (sym (given-in number (runs.moments card a))) ∙ sym (texts-are first)) (among-mapped as_octets given (frames_given number (runs.moments card a)) x) in
    record {
      front = first ++ end.front;
      last = end.last;
      are =
          answers-append number card a (at number next ∷ b) ∙ ap (λ l. first ++ l) (answer-now number mid b ∙ end.are)
          ∙ sym (append_assoc first end.front (end.last ∷ []));
      among = subst (AreAmong (map as_octets given)) (sym (texts-append first end.front)) (among-before (map as_octets given) (texts first) (texts end.front) now);
    }

-- So it is where the calls are more by one than are enough for them.
waiting-before : (card : Card) (es : List frames.Event) → IsSound card → runs.AreAtLines card es
    → (number link tei : ℕ) → number < card.config.lines → link < link_count card.config → StaysAt number link tei card es → IsNotDeactivated number link tei es
    → most_frames_before card.config + priority_added_at number card es + 1 < takes_of number es
    → AreGivenBefore number card es (map (control_text card.config link tei) (link_at link (line_at number card)).waiting)
unfolding frames_after
waiting-before card es s all number link tei few some on up less =
    let frames = map (control_text card.config link tei) (link_at link (line_at number card)).waiting in
    let x = call-behind number (most_frames_before card.config + priority_added_at number card es + 1) es less in
    let rest = at number next ∷ x.back in
    let fewer = subst (λ l. priority_added_at number card x.front ≤ priority_added_at number card l) (sym x.split) (come-few number card x.front rest) in
    subst (λ l. AreGivenBefore number card l frames) (sym x.split)
    (given-before number card x.front x.back frames
    (waiting-taken card x.front s (all-left (runs.IsAtLine card) x.front rest (subst (runs.AreAtLines card) x.split all)) [] x.front refl number link tei few some
    (stays-first number link tei card x.front rest (subst (StaysAt number link tei card) x.split on))
    (all-left (λ e. is_deactivated_at number link tei e ≡ false) x.front rest (subst (IsNotDeactivated number link tei) x.split up))
    (omega (arith, x.before, fewer))))

-- What is heard is all but the last, at least.
all-but-last : {X : Type 0} (front heard : List X) (x : X) (left : List X) → length left ≤ 1 → front ++ x ∷ [] ≡ heard ++ left
    → (rest : List X) × (heard ≡ front ++ rest)
all-but-last [] heard x left few e = (heard, refl)
all-but-last (y ∷ front) [] x [] few e = absurd (cc e)
all-but-last (y ∷ []) [] x (z ∷ left) few e = let tail : x ∷ [] ≡ left = cc e in absurd (omega (arith, few, ap length tail))
all-but-last (y ∷ w ∷ front) [] x (z ∷ left) few e = let tail : w ∷ (front ++ x ∷ []) ≡ left = cc e in absurd (omega (arith, few, ap length tail))
all-but-last (y ∷ front) (z ∷ heard) x left few e =
    let head : y ≡ z = cc e in
    let tail : front ++ x ∷ [] ≡ heard ++ left = cc e in
    let more = all-but-last front heard x left few tail in
    (more.0, ap (λ w. w ∷ heard) (sym head) ∙ ap (λ l. y ∷ l) more.1)

-- ---- the text

-- a control frame consists of octets
text-octets : (card : Card) (number link tei : ℕ) → IsSound card → number < card.config.lines → tei_at (place_at link) (line_at number card) ≡ Some tei
    → (f : ControlFrame) → as_octets (control_text card.config link tei f) ≡ control_text card.config link tei f
text-octets card number link tei s few on f =
    let range : tei ≤ 126 = (line-sound card number s few).management.table.range (place_at link) tei on in
    let a = renamed card.config.sapi (address_at (terms card.config (service_at link) tei) f.command) in
    let h = head_of card.config.side a f.control in
    ap as_octets (append-nil h)
    ∙ exact h (head card.config.side a f.control (exchanged-small card.config.sapi (sapi_of (service_at link)) (sapi-small (service_at link))) (omega (arith, range))) ∙ sym (append-nil h)

all-octets : (spell : ControlFrame → List ℕ) → ((f : ControlFrame) → as_octets (spell f) ≡ spell f) → (fs : List ControlFrame) → map as_octets (map spell fs) ≡ map spell fs
all-octets spell same [] = refl
all-octets spell same (f ∷ fs) = ap (λ x. x ∷ map as_octets (map spell fs)) (same f) ∙ ap (λ xs. spell f ∷ xs) (all-octets spell same fs)

-- ---- what is heard

module _ (m : OctetCard) (number : ℕ) (events : List Event) (given : List (List ℕ)) (t : AreGivenBefore number m.card (meant_all m events) given)
    (old : GoOut m.card.config.n201 (port_at number m).given (frames_among (items_sent (port_at number m)))) where
  abbrev p : Port
  p = port_at number m

  abbrev p' : Port
  p' = port_at number (after_all m events)

  abbrev hear : List (List ℕ) → List stream.Event
  hear frames = map stream.frame frames

  abbrev heard : Port → List stream.Event
  heard q = heard_in m.card.config.n201 q.given

  abbrev calls : List (Option NextFrame)
  calls = calls_answered number (runs.moments m.card (meant_all m events))

  -- all that is put on the line, as it is heard, but what the last call put
  abbrev first : List stream.Event
  first = hear old.on_its_way ++ hear (texts t.front)

  abbrev but-last : List stream.Event
  but-last = heard p ++ first

  calls-are : texts calls ≡ texts t.front ++ texts (t.last ∷ [])
  calls-are = ap texts t.are ∙ texts-append t.front (t.last ∷ [])

  all-are : p'.items ≡ p.items ++ map item_of calls → hear (frames_among (items_sent p')) ≡ but-last ++ hear (texts (t.last ∷ []))
  all-are put = grind (arith, map-append, frames_among-append, calls-are, append_assoc)

  all-but : (rest : List stream.Event) → heard p' ≡ but-last ++ rest → AreHeardSince m.card.config.n201 p.given p'.given (map as_octets given)
  all-but rest is =
      record {
        since = first ++ rest;
        goes_on = is ∙ append_assoc (heard p) first rest;
        among = among-before (hear (map as_octets given)) first rest (among-behind (hear (map as_octets given)) (hear old.on_its_way) (hear (texts t.front))
            (among-mapped stream.frame (map as_octets given) (texts t.front) t.among));
      }

  heard-among : p'.items ≡ p.items ++ map item_of calls → GoOut m.card.config.n201 p'.given (frames_among (items_sent p'))
      → ((front : List Item) → p'.items ≡ front ++ idle ∷ [] → hear (frames_among (items_sent p')) ≡ heard p') → AreHeardSince m.card.config.n201 p.given p'.given (map as_octets given)
  heard-among put new flag = by-last t.last refl
    where
      by-last : (last : Option NextFrame) → t.last ≡ last → AreHeardSince m.card.config.n201 p.given p'.given (map as_octets given)
      by-last None is =
          let ends : p'.items ≡ (p.items ++ map item_of t.front) ++ idle ∷ [] =
          put ∙ ap (λ l. p.items ++ map item_of l) (t.are ∙ ap (λ x. t.front ++ x ∷ []) is) ∙ simp (append_assoc, map-append) in
          all-but [] (sym (flag _ ends) ∙ all-are put ∙ ap (λ x. but-last ++ hear (texts (x ∷ []))) is)
      by-last (Some x) is =
          let rest = all-but-last but-last (heard p') (stream.frame (as_octets x.octets)) (hear new.on_its_way) (omega (arith, new.one, length-map new.on_its_way stream.frame))
          (ap (λ x. but-last ++ hear (texts (x ∷ []))) (sym is) ∙ sym (all-are put) ∙ new.heard) in
          all-but rest.0 rest.1

-- ---- the law

-- What calls give before the last one is heard since.
given_heard : (m : OctetCard) (events : List Event) (number : ℕ) (given : List (List ℕ)) → IsReached m → AreAtLines m events → number < m.card.config.lines
    → AreGivenBefore number m.card (meant_all m events) given
    → AreHeardSince m.card.config.n201 (port_at number m).given (port_at number (after_all m events)).given (map as_octets given)
given_heard m events number given r all few t =
    let m' = after_all m events in
    let p' = port_at number m' in
    let same : m'.card.config ≡ m.card.config = octets_config_stays m events in
    let s = reached_sound m r in
    let r' = reached_after_all m events r all in
    let few' = subst (λ (x : Config). number < x.lines) (sym same) few in
    heard-among m number events given t (port_out m number r few) (run_puts m events number (omega (arith, s.count, few)))
    (subst (λ (x : Config). GoOut x.n201 p'.given (frames_among (items_sent p'))) same (port_out m' number r' few'))
    (subst (λ (x : Config). (front : List Item) → p'.items ≡ front ++ idle ∷ [] → map stream.frame (frames_among (items_sent p')) ≡ heard_in x.n201 p'.given) same
    (port_all_out m' number r' few'))

stays-now : (number link tei : ℕ) (card : Card) (es : List frames.Event) → StaysAt number link tei card es → tei_at (place_at link) (line_at number card) ≡ Some tei
unfolding StaysAt
stays-now number link tei card [] on = on
stays-now number link tei card (e ∷ es) on = on.0

-- As `WaitingIsTaken` has it of calls for the next frame, with one call more: by that the closing flag has gone, too.
abbrev WaitingIsHeard : OctetCard → List Event → Type 0
WaitingIsHeard m events =
    let c = m.card.config in
    let meant = meant_all m events in
    (number link tei : ℕ) → number < c.lines → link < link_count c → StaysAt number link tei m.card meant → IsNotDeactivated number link tei meant →
    most_pulls_behind c.n201 (most_frames_before c + priority_added_at number m.card meant + 1) ≤ pulls_of number events →
    AreHeardSince c.n201 (port_at number m).given (port_at number (after_all m events)).given
    (map (control_text c link tei) (link_at link (line_at number m.card)).waiting)

pub waiting_heard : (m : OctetCard) (events : List Event) → IsReached m → AreAtLines m events → WaitingIsHeard m events
waiting_heard m events r all number link tei few some on up enough =
    let c = m.card.config in
    let meant = meant_all m events in
    let n = most_frames_before c + priority_added_at number m.card meant + 1 in
    let s = reached_sound m r in
    let fs = (link_at link (line_at number m.card)).waiting in
    let pulls = pulls_are_takes.most m number r few n in
    subst (AreHeardSince c.n201 (port_at number m).given (port_at number (after_all m events)).given)
    (all-octets (control_text c link tei) (text-octets m.card number link tei s.card few (stays-now number link tei m.card meant on)) fs)
    (given_heard m events number (map (control_text c link tei) fs) r all few
    (waiting-before m.card meant s.card ((refines m events).at_lines all) number link tei few some on up
    (pulls_are_takes.meanwhile m events number n s all few (omega (arith, pulls, enough)))))
