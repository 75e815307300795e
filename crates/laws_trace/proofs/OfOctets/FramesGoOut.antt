-- What a receiver hears of a line are frames, and in the end all of them: the laws.
use Rattle.laws_trace.proofs.Vocabulary.{arith, ◌≡◌, ℕ, ◌<◌, List, [], ◌∷◌, map, subst, All, All-nil, All-cons, All-head, All-tail, Config, IsInRange, all-left, as_octets, octets_given, frames_to_hear, OfEachLine, meant_all, refines, given_frames_are_heard, heard_frames_are_octets, IsSpelled, Seen, trace_of, frames_begun, ports_fresh as fresh, PortsEvent as Event, PortsAreAtLines as AreAtLines}
use Rattle.laws_trace.proofs.Vocabulary.{stream_heard_in, stream_frame, CardEvent}
use Rattle.model_card.proofs.OfPorts.AsOctets.{all_exact}
use Rattle.model_card.specs.Card as cards
use Rattle.model_card.specs.Run as runs
use Rattle.laws_trace.proofs.OctetsBegin.{frames-are-octets}
use Rattle.laws_trace.proofs.Spelled.{frames-are-read}
use Rattle.laws_trace.specs.octets.FramesGoOut.{IsReadable, OnlyFramesAreHeard, GivenAreOctets, GoOutAsTheyAre, AllFramesGoOut}
use Rattle.laws_trace.proofs.OfOctets.AsOctets.{still_spelled}
use Rattle.laws_trace.proofs.OfOctets.Emptied.{before_none, latest_gave_none}
use Rattle.laws_trace.proofs.OfOctets.Seen.{begun_given, requests_are, trace_hears, gives}

all_readable : (c : Config) (given : List (List ℕ)) → All (IsSpelled c) given → All (IsReadable c) (map stream_frame (map as_octets given))
all_readable c [] h = All-nil (IsReadable c)
all_readable c (octets ∷ given) h =
    All-cons (IsReadable c) (stream_frame (as_octets octets)) (map stream_frame (map as_octets given))
    (still_spelled c octets (All-head (IsSpelled c) octets given h)) (all_readable c given (All-tail (IsSpelled c) octets given h))

module _ (c : Config) (events : List Event) (number : ℕ) (ranged : IsInRange c) (all : AreAtLines (fresh c) events) (within : number < c.lines) where
  abbrev pub meaning : List CardEvent
  meaning = meant_all (fresh c) events

  abbrev pub t : List Seen
  t = trace_of c meaning number

  pub lines : runs.AreAtLines (cards.fresh c) meaning
  lines = (refines (fresh c) events).at_lines all

  pub begun : frames_begun t ≡ frames_to_hear c events number
  begun = begun_given number (cards.fresh c) meaning

  pub spelled : All (IsSpelled c) (frames_to_hear c events number)
  spelled = frames-are-read c meaning number ranged lines within

  pub readable : OnlyFramesAreHeard c events number
  readable =
      let out = given_frames_are_heard.so_far c events number ranged all within in
      all-left (IsReadable c) (stream_heard_in c.n201 (octets_given c events number)) (map stream_frame out.on_its_way)
      (subst (All (IsReadable c)) out.heard (all_readable c (frames_to_hear c events number) spelled))

  pub are_octets : GivenAreOctets c events number
  are_octets granted = grind (arith, requests_are, trace_hears, heard_frames_are_octets, begun, frames-are-octets, lines, gives)

pub only-frames-are-heard : OfEachLine OnlyFramesAreHeard
only-frames-are-heard c events number ranged all within = readable c events number ranged all within

pub given-are-octets : OfEachLine GivenAreOctets
given-are-octets c events number ranged all within granted = are_octets c events number ranged all within granted

pub go-out-as-they-are : OfEachLine GoOutAsTheyAre
go-out-as-they-are c events number ranged all within granted = grind (arith, all_exact, are_octets, given_frames_are_heard)

pub all-frames-go-out : OfEachLine AllFramesGoOut
all-frames-go-out c events number ranged all within h =
    given_frames_are_heard.all c events number ranged all within (before_none c events number ranged all within h)
    (latest_gave_none c events number ranged all within h)
