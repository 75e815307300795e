-- A board leads where the card of its kind leads, and answers as it does.
use Rattle.lapd_sim.proofs.OfMachine.Vocabulary.{arith, ◌≡◌, ℕ, List, [], ◌∷◌, map, refl, ap, ◌∙◌, Octets, Frames, Config, after, after_all, moments, reply, RunsOnBoards, OctetCard, octet_event, frame_event, reply_of_octets, reply_of_frames, board_of_octets, board_of_frames, moment_of_octets, moment_of_frames}
use Rattle.model_card.specs.Event as frames
use Rattle.model_card.specs.Machine as machine
use Rattle.model_card.specs.Run as runs
use Rattle.model_line.specs.Event as line
use Rattle.model_card.specs.ports.Card as ports
use Rattle.model_card.specs.ports.Event as octets
use Rattle.model_card.specs.ports.Port as port
use Rattle.model_card.specs.ports.Run as octet_runs

on_octets : (c : Config) (m : OctetCard) (number : ℕ) (e : port.Event)
    → after (octet_event (octets.at number e)) (record { kind = Octets; config = c; card = m }) ≡ record { kind = Octets; config = c; card = ports.after (octets.at number e) m }
on_octets c m number e = grind arith

runs_of_octets : (c : Config) (m : OctetCard) (events : List octets.Event)
    → after_all (record { kind = Octets; config = c; card = m }) (map octet_event events) ≡ record { kind = Octets; config = c; card = octet_runs.after_all m events }
unfolding after_all octet_runs.after_all
runs_of_octets c m [] = refl
runs_of_octets c m (e ∷ events) =
    ap (λ b. after_all b (map octet_event events)) (on_octets c m e.line e.what) ∙ runs_of_octets c (ports.after e m) events

says_octets : (c : Config) (m : OctetCard) (number : ℕ) (e : port.Event)
    → reply (octet_event (octets.at number e)) (board_of_octets c m) ≡ reply_of_octets (ports.answer (octets.at number e) m)
unfolding reply
says_octets c m number (port.octet value) = refl
says_octets c m number (port.expiry timer) = refl
says_octets c m number (port.request r) = refl
says_octets c m number port.pull = refl

moments_of_octets : (c : Config) (m : OctetCard) (events : List octets.Event)
    → moments (board_of_octets c m) (map octet_event events) ≡ map (moment_of_octets c) (octet_runs.moments m events)
unfolding moments octet_runs.moments
moments_of_octets c m [] = refl
moments_of_octets c m (e ∷ events) =
    ap (λ r. record { board = board_of_octets c m; event = octet_event e; reply = r } ∷ moments (after (octet_event e) (board_of_octets c m)) (map octet_event events)) (says_octets c m e.line e.what)
    ∙ ap (λ b. moment_of_octets c (record { card = m; event = e; answer = ports.answer e m }) ∷ moments b (map octet_event events)) (on_octets c m e.line e.what)
    ∙ ap (λ ms. moment_of_octets c (record { card = m; event = e; answer = ports.answer e m }) ∷ ms) (moments_of_octets c (ports.after e m) events)

on_frames : (c : Config) (m : OctetCard) (number : ℕ) (e : line.Event)
    → after (frame_event (frames.at number e)) (record { kind = Frames; config = c; card = m }) ≡ record { kind = Frames; config = c; card = record m { card = machine.after (frames.at number e) m.card } }
on_frames c m number e = grind arith

runs_of_frames : (c : Config) (m : OctetCard) (events : List frames.Event)
    → after_all (record { kind = Frames; config = c; card = m }) (map frame_event events) ≡ record { kind = Frames; config = c; card = record m { card = runs.after_all m.card events } }
unfolding after_all runs.after_all
runs_of_frames c m [] = refl
runs_of_frames c m (e ∷ events) =
    ap (λ b. after_all b (map frame_event events)) (on_frames c m e.line e.what) ∙ runs_of_frames c (record m { card = machine.after e m.card }) events

says_frames : (c : Config) (m : OctetCard) (number : ℕ) (e : line.Event)
    → reply (frame_event (frames.at number e)) (board_of_frames c m) ≡ reply_of_frames (machine.answer (frames.at number e) m.card)
unfolding reply
says_frames c m number (line.hears x) = refl
says_frames c m number (line.expiry timer) = refl
says_frames c m number (line.request r) = refl
says_frames c m number line.next = refl

moments_of_frames : (c : Config) (m : OctetCard) (events : List frames.Event)
    → moments (board_of_frames c m) (map frame_event events) ≡ map (moment_of_frames c m) (runs.moments m.card events)
unfolding moments runs.moments
moments_of_frames c m [] = refl
moments_of_frames c m (e ∷ events) =
    ap (λ r. record { board = board_of_frames c m; event = frame_event e; reply = r } ∷ moments (after (frame_event e) (board_of_frames c m)) (map frame_event events)) (says_frames c m e.line e.what)
    ∙ ap (λ b. moment_of_frames c m (record { card = m.card; event = e; answer = machine.answer e m.card }) ∷ moments b (map frame_event events)) (on_frames c m e.line e.what)
    ∙ ap (λ ms. moment_of_frames c m (record { card = m.card; event = e; answer = machine.answer e m.card }) ∷ ms) (moments_of_frames c (record m { card = machine.after e m.card }) events)

pub runs_on_boards : RunsOnBoards
runs_on_boards = record { octets = runs_of_octets; octet_moments = moments_of_octets; frames = runs_of_frames; frame_moments = moments_of_frames }
