-- What is heard in bits are octets, and so is what a card of octets hears.
use Rattle.model_card.proofs.OfPorts.Vocabulary.{arith, ◌≡◌, ℕ, ◌<◌, ◌-◌, Bool, true, false, cond, nat_lt, List, [], ◌∷◌, ◌++◌, length, reverse, Option, Some, None, option_map, option_and_then, option_to_list, subst, All, All-nil, All-cons, All-append, All-tail, All-head, All-take, bits, octets_sent, octets_are_those_sent, judged_as, AreOctets, Port, after, gained, meant, meant_all, port_at}
use Rattle.model_card.proofs.OfPorts.Vocabulary.{closed_by_flag, ends_flag, given_up, heard_at, heard_in, heard_until, room_for, since_flag, text_event}
use Rattle.model_bits.specs.Stream as stream
use Rattle.model_line.specs.Event as line
use Rattle.model_card.specs.Event as frames
use Rattle.model_bits.specs.StreamLaws.{HasOctets}
use Rattle.model_card.specs.ports.HeardOctets.{HearsOctets, HeardFramesAreOctets}
use Rattle.model_card.specs.ports.Port as port
use Rattle.model_card.proofs.OfPorts.Gains.{heard_with}

-- ---- in bits

-- what a text is heard as: the octets of which a sender makes it, less the check
text_octets : (room : ℕ) (text : List Bool) (o : Option (List ℕ)) → octets_sent text ≡ o → HasOctets (text_event room o)
text_octets room text None e = tt
text_octets room text (Some octets) e =
    let are : AreOctets octets = ((octets_are_those_sent text octets).0 e).1 in
    judged_as HasOctets room octets (λ cause. tt) (λ five long. tt)
    (λ five. All-take (λ octet. octet < 256) (length octets - 2) octets are)

-- what a bit brings
at_octets : (room : ℕ) (b : Bool) (flag : Bool) (o : Option (List Bool))
    → All HasOctets (option_to_list (cond flag (option_and_then (closed_by_flag room) o) (option_and_then (λ g. given_up (b ∷ g)) o)))
at_octets room b true None = All-nil HasOctets
at_octets room b true (Some g) = grind (arith, text_octets)
at_octets room b false None = All-nil HasOctets
at_octets room b false (Some g) = grind (arith, nat_lt, option_to_list)

until_octets : (room : ℕ) (past : List Bool) → All HasOctets (heard_until room past)
until_octets room [] = All-nil HasOctets
until_octets room (b ∷ past) =
    All-append HasOctets (heard_until room past) (option_to_list (heard_at room (b ∷ past))) (until_octets room past)
    (at_octets room b (ends_flag (b ∷ past)) (since_flag past))

-- ---- at a port

-- what stands behind others in a list
behind : (es fs : List stream.Event) → All HasOctets (es ++ fs) → All HasOctets fs
behind [] fs all = all
behind (e ∷ es) fs all = behind es fs (All-tail HasOctets e (es ++ fs) all)

gained_octets : (n201 : ℕ) (received : List ℕ) (value : ℕ) → All HasOctets (option_to_list (gained n201 received value))
gained_octets n201 received value =
    behind (heard_in n201 received) (option_to_list (gained n201 received value))
    (subst (All HasOctets) (heard_with n201 received value) (until_octets (room_for n201) (reverse (bits (received ++ value ∷ [])))))

-- ---- at a card

abbrev Hears : frames.Event → Type 0
Hears e = HearsOctets e.what

hears_octets : (number : ℕ) (o : Option stream.Event) → All HasOctets (option_to_list o)
    → All Hears (option_to_list (option_map (frames.at number) (option_map line.hears o)))
hears_octets number None all = All-nil Hears
hears_octets number (Some e) all = All-cons Hears (frames.at number (line.hears e)) [] (All-head HasOctets e [] all) (All-nil Hears)

asks_next : (number : ℕ) (due : Bool) → All Hears (option_to_list (option_map (frames.at number) (cond due (Some line.next) None)))
asks_next number due = grind arith

meaning_octets : (n201 number : ℕ) (e : port.Event) (p : Port) → All Hears (option_to_list (option_map (frames.at number) (port.meant n201 e p)))
meaning_octets n201 number e p = grind (arith, hears_octets, gained_octets, asks_next)

pub heard_frames_are_octets : HeardFramesAreOctets
unfolding meant meant_all
heard_frames_are_octets m [] = All-nil Hears
heard_frames_are_octets m (e ∷ events) =
    All-append Hears (option_to_list (meant e m)) (meant_all (after e m) events)
    (meaning_octets m.card.config.n201 e.line e.what (port_at e.line m)) (heard_frames_are_octets (after e m) events)
