-- A network's line and a terminal's line on one bus: what happened at either, and the frames in transit to the terminal.
use Rattle.std.specs.Prelude.{ℕ, ◌+◌, ◌*◌, ◌==◌, ◌&&◌, ◌||◌, not, Bool, true, false, List, [], ◌∷◌, ◌++◌, length, map, filter, flat_map, take, drop, fold, is_some, if◌then◌else◌}
use Rattle.std.specs.List.{list_any}
use Rattle.std.specs.Option.{option_map_or}
use Rattle.lapd_frame.specs.declared.services.Service.TheVariants.{Call}
use Rattle.lapd_frame.specs.Grammar.{Parts}
use Rattle.model_teis.specs.declared.network.messages.Message.{Message}
use Rattle.model_teis.specs.declared.network.messages.Message.TheVariants.{IdentityAssigned, IdentityRemove}
use Rattle.model_teis.specs.declared.network.remembered.Remembered.{Remembered}
use Rattle.model_line.specs.declared.config.Config.{Config}
use Rattle.model_line.specs.Came.{came}
use Rattle.model_line.specs.Event as line_event
use Rattle.model_line.specs.Event.{hears, request}
use Rattle.model_line.specs.Request.{Down}
use Rattle.model_card.specs.Card.{Card, fresh, state}
use Rattle.model_card.specs.Event.{Event, at}
use Rattle.model_card.specs.Machine.{after, answer}
use Rattle.model_card.specs.Run.{Moment, moments, after_all}
use Rattle.laws_trace.specs.LinkFrames.{frame_of}
use Rattle.laws_trace.specs.Managing.{Managed, is_on, none_on, due, octets_of}
use Rattle.laws_trace.specs.ManagingTerminal.{is_message}
use Rattle.laws_trace.specs.TeisAreManaged.{message_text}
use Rattle.laws_trace.specs.Trace.{frame_in}

-- The cards of the network and of a terminal, and the lines that are on the bus.
pub record Bus : Type 0 where
  pub network : Config
  pub number : ℕ
  pub terminal : Config
  pub line : ℕ

-- Whether a TEI is on a line, as `Card::state` tells.
abbrev pub is_there : ℕ → ℕ → Card → Bool
is_there number tei card = is_some (state number Call tei card)

-- An assignment is a reference number, and the TEI that is assigned by it. The network has made it if it comes to owe the message
-- that says so, and the TEI was not on the line before. It holds while the TEI is on the line (Q.921 clause 5.3.2).
pub record Network : Type 0 where
  pub teis : Managed
  pub made : List Remembered
  pub hold : List Remembered

abbrev pub newly_owed : Managed → Managed → List Message
newly_owed was now = drop (length was.owed) now.owed

abbrev pub assigned_in : Message → List Remembered
assigned_in (IdentityAssigned ri tei) = record { ri = ri; tei = tei } ∷ []
assigned_in other = []

abbrev pub newly_made : Managed → Managed → List Remembered
newly_made was now = filter (λ r. not (is_on r.tei was)) (flat_map assigned_in (newly_owed was now))

abbrev pub with_teis : (ℕ → Bool) → Managed → Network → Network
with_teis stays now n =
    let new = newly_made n.teis now in
    record { teis = now; made = n.made ++ new; hold = filter (λ r. stays r.tei) (n.hold ++ new) }

abbrev pub network_led : Config → ℕ → Network → Moment → Network
network_led c number n m =
    if m.event.line == number then with_teis (λ tei. is_there number tei (after m.event m.card)) (due c m.event.what n.teis) n else n

abbrev pub network_after : Config → ℕ → List Event → Network
network_after c number events = fold (network_led c number) (record { teis = none_on; made = []; hold = [] }) (moments (fresh c) events)

-- What has happened: the events of the network's card and of the terminal's; the frames in transit to the terminal, the oldest
-- first, which the network's line has sent; and the assignments whose removal the terminal has missed.
pub record Past : Type 0 where
  pub at_network : List Event
  pub at_terminal : List Event
  pub way : List (List ℕ)
  pub missed : List Remembered

abbrev pub begun : Past
begun = record { at_network = []; at_terminal = []; way = []; missed = [] }

abbrev pub network_of : Bus → Past → Network
network_of b p = network_after b.network b.number p.at_network

-- The message of TEI management, if a frame comes to the terminal as one; and whether it removes a TEI (clauses 5.3.4 and 5.3.6).
abbrev pub message_in : Config → List ℕ → List ℕ
message_in c octets = option_map_or (λ (f : Parts). if is_message c f && f.address.command then f.info else []) (frame_of c (came c.n201 octets)) []

abbrev pub is_removal : ℕ → List ℕ → Bool
is_removal tei (entity ∷ high ∷ low ∷ type ∷ last ∷ []) = entity == 0x0F && type == 6 && last == 2 * tei + 1
is_removal tei other = false

-- The frames that are to come to the terminal, if none is lost: those in transit, and the messages that the network owes.
abbrev pub owed_by : Bus → Managed → List (List ℕ)
owed_by b w = map (λ message. message_text b.network (octets_of message)) w.owed

abbrev pub removal_comes : Bus → Past → ℕ → Bool
removal_comes b p tei = list_any (λ octets. is_removal tei (message_in b.terminal octets)) (p.way ++ owed_by b (network_of b p).teis)

-- What can happen: an event at the network's card, or at the terminal's; the oldest frame in transit comes to the terminal's line; or
-- it is lost. What the network's line hears is any frame. What the terminal's line hears comes from the network's alone.
pub data Step : Type 0 where
  network : Event → Step
  terminal : Event → Step
  receives : Step
  loses : Step

-- A terminal misses a removal that is lost, or given up as the network's line is down. Or none is owed though the TEI leaves the
-- line: as T201 runs out (profile), or if there is no room for it (clause 5.3.3.2, annex B and profile). One that was missed stays
-- missed until that assignment is made anew, which needs a number that comes again.
abbrev pub removes : ℕ → Message → Bool
removes tei (IdentityRemove of) = of == tei
removes tei other = false

abbrev pub gives_up : ℕ → line_event.Event → Managed → Bool
gives_up tei (request Down) was = list_any (removes tei) was.owed
gives_up tei other was = false

abbrev pub leaves_untold : ℕ → Managed → Managed → Bool
leaves_untold tei was now = is_on tei was && not (is_on tei now) && not (list_any (removes tei) (newly_owed was now))

abbrev pub misses : Bus → Past → Step → ℕ → Bool
misses b p (network e) tei =
    let was = (network_of b p).teis in e.line == b.number && (gives_up tei e.what was || leaves_untold tei was (due b.network e.what was))
misses b p loses tei = list_any (λ octets. is_removal tei (message_in b.terminal octets)) (take 1 p.way)
misses b p other tei = false

-- Where a step leads.
abbrev pub sent_by : Bus → Event → Past → List (List ℕ)
sent_by b e p = if e.line == b.number then frame_in (answer e (after_all (fresh b.network) p.at_network)) else []

abbrev pub is_heard : line_event.Event → Bool
is_heard (hears e) = true
is_heard other = false

abbrev pub received : Bus → List (List ℕ) → Past → Past
received b [] p = p
received b (octets ∷ more) p = record p { at_terminal = p.at_terminal ++ at b.line (hears (came b.terminal.n201 octets)) ∷ []; way = more }

abbrev pub acting : Bus → Step → Past → Past
acting b (network e) p = record p { at_network = p.at_network ++ e ∷ []; way = p.way ++ sent_by b e p }
acting b (terminal e) p = if e.line == b.line && is_heard e.what then p else record p { at_terminal = p.at_terminal ++ e ∷ [] }
acting b receives p = received b p.way p
acting b loses p = record p { way = drop 1 p.way }

-- Only an assignment that does not hold after the step has missed a removal.
abbrev pub is_among : Remembered → List Remembered → Bool
is_among r all = list_any (λ (one : Remembered). one.ri == r.ri && one.tei == r.tei) all

abbrev pub over_of : List Remembered → List Remembered → List Remembered
over_of hold all = filter (λ r. not (is_among r hold)) all

abbrev pub missing : Bus → Step → Past → List Remembered
missing b step p = filter (λ r. misses b p step r.tei) (network_of b p).made

abbrev pub doing : Bus → Past → Step → Past
doing b p step = let now = acting b step p in record now { missed = over_of (network_of b now).hold (p.missed ++ missing b step p) }

abbrev pub past_of : Bus → List Step → Past
past_of b steps = fold (doing b) begun steps
