-- What questions are answered, in words of their own: those of `lapd.h` and of the machine.
use Rattle.std.specs.Prelude.{◌≡◌, ◌≢◌, ◌≤◌, ◌<◌, ◌==◌, ℕ, ◌+◌, ◌-◌, ◌*◌, ◌%◌, nat_lt, Bool, List, [], ◌∷◌, ◌++◌, length, take, drop, flat_map, map, replicate, sum_by, Some, None, Result, Ok, Err, codes, refl, if◌then◌else◌}
use Rattle.std.specs.Option.{unwrap_or}
use Rattle.model_bits.specs.Bits.{bits, flag}
use Rattle.model_bits.specs.OpenGap.{octets_held}
use Rattle.model_bits.specs.Sent as item
use Rattle.model_bits.specs.Sent.{Item, idle}
use Rattle.model_bits.specs.Stream as stream
use Rattle.model_bits.specs.Stream.{Event, dropped, heard_in, overlong}
use Rattle.model_bits.specs.Stuffing.{stuffed}
use Rattle.lapd_frame.specs.declared.addresses.Side.TheVariants.{User, Network}
use Rattle.lapd_frame.specs.declared.services.Service.{Service}
use Rattle.lapd_frame.specs.Reading.{reading}
use Rattle.model_teis.specs.network.Events as teis
use Rattle.lapd_text.specs.Told.{told_text}
use Rattle.model_link.specs.Link.{Link}
use Rattle.model_line.specs.Event.{NextFrame, gave, next, request}
use Rattle.model_line.specs.Line.{has_tei, is_terminal, link_of}
use Rattle.model_line.specs.Machine as lines
use Rattle.model_line.specs.Request.{Assign}
use Rattle.model_line.specs.Usual.{usual}
use Rattle.model_line.specs.declared.config.Config.{Config}
use Rattle.model_card.specs.Card as cards
use Rattle.model_card.specs.Card.{Card, fresh, line_at, used}
use Rattle.model_card.specs.Event.{at}
use Rattle.model_card.specs.Machine.{after, answer}
use Rattle.model_card.specs.Stored as of_frames
use Rattle.model_timed.specs.Changes.{noted, unmarked}
use Rattle.model_card.specs.ports.Card.{OctetCard, port_at}
use Rattle.model_card.specs.ports.Port.{Port, left_of}
use Rattle.model_card.specs.ports.Stored as of_octets
use Rattle.lapd_card.specs.Kinds.{Machine, with_ports, alone, card_in}
use Rattle.lapd_c.specs.Counters.{plain_counters}
use Rattle.lapd_c.specs.LinksTold.{LinksAreTold}
use Rattle.lapd_c.specs.Changed.{changed_of}
use Rattle.lapd_c.specs.ChangesAnswered.{ChangesAreAnswered}
use Rattle.lapd_c.specs.Services.{number_of}
use Rattle.lapd_c.specs.Questions.{Has, Lacks}
use Rattle.lapd_c.specs.QuestionsServed.{QuestionsChangeNothing}
use Rattle.lapd_c.specs.QuestionWords.{begun_frame_of, begun_of, heard_frame_of, heard_of, limit_of, lines_of, link_counters_of, room_of, state_of, stored_of, waiting_from}
use Rattle.lapd_c.specs.Texts.{text_of}
use Rattle.lapd_count.specs.declared.counters.Counters.{Counters}
use Rattle.lapd_c.specs.declared.plain.counters.PlainCounters.{PlainCounters}
use Rattle.lapd_c.specs.declared.plain.counters.PlainLinkCounters.{PlainLinkCounters}
use Rattle.lapd_c.specs.declared.plain.heads.PlainHead.{PlainHead}
use Rattle.lapd_c.specs.declared.plain.rooms.PlainRoom.{PlainRoom}

-- The card of frames: itself, or the one inside a card of octets.
abbrev pub frames_in : Machine → Card
frames_in (with_ports m) = m.card
frames_in (alone m) = m

-- So many 0s, as what is for a later version has.
abbrev pub zeros : ℕ → List ℕ
zeros places = replicate places 0

-- No service has this number.
abbrev pub IsNoService : ℕ → Type 0
IsNoService number = (number ≢ 0) × (number ≢ 16)

-- The room beside a link: slots of the pool that are free, places of its queue that contents which are not acknowledged leave, and V(A).
abbrev pub room_beside : Link → Card → PlainRoom
room_beside l card = record { pool = card.config.slots - used card; queue = card.config.queue - length (drop l.a l.contents); va = l.a % 128; reserved = zeros 10 }

-- The counters of a link, as they are.
abbrev pub counters_beside : Link → PlainLinkCounters
counters_beside l = record {
  sent_again = l.counts.sent_again;
  t200_expired = l.counts.t200_expired;
  rejects_sent = l.counts.rejects_sent;
  rejects_received = l.counts.rejects_received;
  established = l.counts.established;
  reserved = zeros 11;
}

-- How a frame begins: its first four octets, with 0 after its end. Of none, its length is 0.
abbrev pub beginning : List ℕ → PlainHead
beginning octets = record { length = length octets; octets = take 4 (octets ++ zeros 4); reserved = zeros 2 }

-- The last of a list, or another value if the list is empty.
abbrev pub last_or : {A : Type 0} → A → List A → A
last_or other [] = other
last_or other (first ∷ rest) = last_or first rest

-- The frame in an item, idle flags apart; and how one begins that was heard, drops apart. Of one that is too long, the length is the
-- least that is.
abbrev pub frame_in : Item → List (List ℕ)
frame_in idle = []
frame_in (item.frame octets) = octets ∷ []

abbrev pub beginning_in : ℕ → Event → List PlainHead
beginning_in n201 (stream.frame octets) = beginning octets ∷ []
beginning_in n201 (overlong four) = record { length = n201 + 5; octets = four; reserved = zeros 2 } ∷ []
beginning_in n201 (dropped cause) = []

-- A whole frame, in front of other octets, if there is one and if it has room there; and of what was heard, the octets.
abbrev pub whole_in : List ℕ → List ℕ → Result (List ℕ × ℕ) ℕ
whole_in out octets =
    if length octets == 0 then Err 28 else if nat_lt (length out) (length octets) then Err 19
    else Ok (octets ++ drop (length octets) out, length octets)

abbrev pub octets_heard : Event → List ℕ
octets_heard (stream.frame octets) = octets
octets_heard (overlong four) = four
octets_heard (dropped cause) = []

-- The latest octet of a line has ended these: they are heard in all octets, behind what is heard in those before it.
abbrev pub HasEnded : ℕ → OctetCard → List Event → Type 0
HasEnded line m ended =
    let received = (port_at line m).received in
    heard_in m.card.config.n201 received ≡ heard_in m.card.config.n201 (take (length received - 1) received) ++ ended

-- A frame waits first on the first line, from one on, of which a call for the next frame gives one; or none waits on any.
abbrev pub GivesNone : Card → ℕ → Type 0
GivesNone card line = answer (at line next) card ≡ gave None

pub record WaitsFirst (card : Card) (from line : ℕ) : Type 0 where
  pub first : NextFrame
  pub after : from ≤ line
  pub within : line < card.config.lines
  pub gives : answer (at line next) card ≡ gave (Some first)
  pub before : (k : ℕ) → from ≤ k → k < line → GivesNone card k

abbrev pub NoneWaits : Card → ℕ → Type 0
NoneWaits card from = (k : ℕ) → from ≤ k → k < card.config.lines → GivesNone card k

-- The octets that messages and assignments of a line may have (profile).
abbrev pub most_of_messages : Config → ℕ
most_of_messages c = if is_terminal c then 8 * (c.terminals + 1) else 44

-- What octets say that a side sent: the network's is 0.
abbrev pub said_of : ℕ → List ℕ → List ℕ
said_of side octets = told_text (if side == 0 then Network else User) octets

-- The octets on their way at a port: of the frame that comes, the whole ones so far; and of the last item, if it is a frame, all of
-- it while eight bits are left.
abbrev pub octets_of : Item → List ℕ
octets_of idle = []
octets_of (item.frame octets) = octets

abbrev pub octets_on_their_way : ℕ → Port → ℕ
octets_on_their_way n201 p = octets_held n201 p.received + (if nat_lt (length (left_of p)) 8 then 0 else length (last_or [] (map octets_of p.items)))

pub record QuestionsAreAnswered : Type 0 where
  -- A question changes nothing and is told its word, whatever it asks for.
  pub served : QuestionsChangeNothing ℕ × QuestionsChangeNothing PlainHead × QuestionsChangeNothing (List ℕ × ℕ) × QuestionsChangeNothing PlainRoom
      × QuestionsChangeNothing PlainCounters × QuestionsChangeNothing PlainLinkCounters
  -- A question of a line is asked if the card has that line. One of the whole card is always asked.
  pub has : (line : ℕ) (m : Machine) → line < (card_in m).config.lines → Has (Some line) m
  pub has_any : (m : Machine) → Has None m
  pub lacks : (line : ℕ) (m : Machine) → (card_in m).config.lines ≤ line → Lacks (Some line) m
  -- A link's state is told by its number, and 0 if its TEI is not on the line; its room, and what was counted of it, if it
  -- is. No TEI of a terminal is over 126.
  pub state : (line tei : ℕ) (s : Service) (m : Machine) → state_of line (number_of s) tei m
      ≡ (if nat_lt 126 tei then Err 16 else Ok (unwrap_or (cards.state line s tei (frames_in m)) 0))
  pub room : (line tei : ℕ) (s : Service) (m : Machine) → let l = line_at line (frames_in m) in room_of line (number_of s) tei m
      ≡ (if nat_lt 126 tei then Err 16 else if has_tei tei l then Ok (room_beside (link_of s tei l) (frames_in m)) else Err 2)
  pub link_counters : (line tei : ℕ) (s : Service) (m : Machine) → line < (frames_in m).config.lines → let l = line_at line (frames_in m) in
      link_counters_of line (number_of s) tei m
      ≡ (if nat_lt 126 tei then Err 16 else if has_tei tei l then Ok (counters_beside (link_of s tei l)) else Err 2)
  pub no_service : (line service tei : ℕ) (m : Machine) → IsNoService service
      → (state_of line service tei m ≡ Err 15) × (room_of line service tei m ≡ Err 15) × (link_counters_of line service tei m ≡ Err 15)
  -- So is when its state changed last, of a card that keeps its own timers; and which links a line has.
  pub changes : ChangesAreAnswered
  pub links : LinksAreTold
  -- The frame that has begun is the last one that was put on the line; and of those that were heard the last is told. A card of frames
  -- has neither.
  pub begun : (line : ℕ) (m : OctetCard) → begun_of line (with_ports m) ≡ Ok (beginning (last_or [] (flat_map frame_in (port_at line m).items)))
  pub heard : (line : ℕ) (m : OctetCard) → let n201 = m.card.config.n201 in heard_of line (with_ports m)
      ≡ Ok (last_or (beginning []) (flat_map (beginning_in n201) (heard_in n201 (port_at line m).received)))
  pub no_octets : (line : ℕ) (m : Card) → (begun_of line (alone m) ≡ Err 26) × (heard_of line (alone m) ≡ Err 26)
  -- The same frame that has begun, whole; and that which the latest octet has ended, if it has ended any.
  pub begun_frame : (line : ℕ) (out : List ℕ) (m : OctetCard) → begun_frame_of line out (with_ports m) ≡ whole_in out (last_or [] (flat_map frame_in (port_at line m).items))
  pub heard_frame : (line : ℕ) (out : List ℕ) (m : OctetCard) (e : Event) → HasEnded line m (e ∷ []) → heard_frame_of line out (with_ports m) ≡ whole_in out (octets_heard e)
  pub none_ended : (line : ℕ) (out : List ℕ) (m : OctetCard) → HasEnded line m [] → heard_frame_of line out (with_ports m) ≡ Err 28
  pub no_whole : (line : ℕ) (out : List ℕ) (m : Card) → (begun_frame_of line out (alone m) ≡ Err 26) × (heard_frame_of line out (alone m) ≡ Err 26)
  -- Where a frame waits first is told.
  pub waits : (from line : ℕ) (m : Card) → WaitsFirst m from line → waiting_from from (alone m) ≡ Ok line
  pub none_waits : (from : ℕ) (m : Card) → NoneWaits m from → waiting_from from (alone m) ≡ Err 28
  -- Counters are told as they are, each at its place.
  pub counters : (c : Counters) → plain_counters c ≡ record { values = c.values; reserved = zeros 17 }
  -- A card stores what its machine does: what the card of frames does, and the frames on their way. It may store, of each line, control frames, messages, and the frames on their way, and of each
  -- slot N201 octets.
  pub stored : (m : OctetCard) → stored_of (with_ports m) ≡ Ok (of_octets.stored m)
  pub stored_at_ports : (m : OctetCard) → stored_of (with_ports m) ≡ Ok (of_frames.stored m.card + sum_by (octets_on_their_way m.card.config.n201) m.ports)
  -- Of a frame that comes so many octets are held as have come whole behind its flag, while it and its check have room.
  pub coming : (n201 : ℕ) (octets part : List ℕ) (before : List Bool) → bits octets ≡ before ++ (flag ++ stuffed (bits part)) → length part ≤ n201 + 6
      → octets_held n201 octets ≡ length part
  pub stored_alone : (m : Card) → stored_of (alone m) ≡ Ok (of_frames.stored m)
  pub limit : (m : Machine) → let c = (frames_in m).config in
      limit_of m ≡ Ok (c.lines * (8 * c.control * c.terminals + most_of_messages c) + c.slots * c.n201 + c.lines * (2 * c.n201 + 10))
  pub lines : (m : Machine) → lines_of m ≡ Ok (frames_in m).config.lines
  -- Octets are told in words if they are 1028 at most, the side is one, and there is room.
  pub text : (octets : List ℕ) (side room : ℕ) → text_of octets side room
      ≡ (if nat_lt 1028 (length octets) then Err 19 else if nat_lt 2 side then Err 43 else if nat_lt room (length (said_of side octets)) then Err 19 else Ok (said_of side octets))

-- Worked values: a card on which TEI 64 is, and one of octets that has put SABME and a flag on its line.
abbrev with_tei : Card
with_tei = after (at 0 (request (Assign 64))) (fresh usual)

state_told : state_of 0 0 64 (alone with_tei) ≡ Ok 4
unfolding lines.after lines.takes_slot teis.course teis.refusal
state_told = refl

not_on_the_line : state_of 0 16 65 (alone with_tei) ≡ Ok 0
unfolding lines.after lines.takes_slot teis.course teis.refusal
not_on_the_line = refl

all_is_left : room_of 0 16 64 (alone with_tei) ≡ Ok (record { pool = 64; queue = 8; va = 0; reserved = zeros 10 })
unfolding lines.after lines.takes_slot teis.course teis.refusal
all_is_left = refl

none_counted : link_counters_of 0 0 64 (alone with_tei)
    ≡ Ok (record { sent_again = 0; t200_expired = 0; rejects_sent = 0; rejects_received = 0; established = 0; reserved = zeros 11 })
unfolding lines.after lines.takes_slot teis.course teis.refusal
none_counted = refl

changed_told : changed_of 0 0 64 with_tei (noted 7 with_tei unmarked) ≡ Ok 7
unfolding lines.after lines.takes_slot teis.course teis.refusal
changed_told = refl

abbrev sabme : OctetCard
sabme = record { card = with_tei; ports = record { received = []; items = item.frame (2 ∷ 129 ∷ 127 ∷ []) ∷ idle ∷ []; given = [] } ∷ [] }

begun_told : begun_of 0 (with_ports sabme) ≡ Ok (record { length = 3; octets = 2 ∷ 129 ∷ 127 ∷ 0 ∷ []; reserved = zeros 2 })
begun_told = refl

limit_told : limit_of (with_ports sabme) ≡ Ok 17470
limit_told = refl

text_told : text_of (2 ∷ []) 0 100 ≡ Ok (codes "frame: short\n")
unfolding reading
text_told = refl
