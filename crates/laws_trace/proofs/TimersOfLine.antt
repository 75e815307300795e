-- What is known of a link, and what is heard of it: one event of a line.
use Rattle.laws_trace.proofs.Vocabulary.{arith, ◌≡◌, ℕ, Bool, false, Option, None, option_map, fold, list_any, option_map_or, Service, Config, next, Answer, Line, taken, next_of, Control, Event, answer, seen, or-false}
use Rattle.laws_trace.proofs.TimersWatched.{Sent, Known, listens, sends, control_in, learns, brings}
use Rattle.laws_trace.proofs.DataGoesOut.{sent_with}
use Rattle.laws_trace.proofs.Deliveries.{frame_by}

-- What is seen of an event: what is learned by it.
module _ (c : Config) (service : Service) (tei : ℕ) (k : Known) where
  abbrev pub sent_at : Event → Line → Option Sent
  sent_at next l = sent_with c service tei (option_map next_of (taken c l))
  sent_at other l = None

  pub seen-learns : (e : Event) (l : Line) (r i : Bool) → fold (learns c service tei r i) k (seen e (answer c e l))
      ≡ option_map_or (sends k) (sent_at e l) (option_map_or (listens r i k) (control_in service tei (frame_by c e)) k)
  unfolding answer
  seen-learns e l r i = grind (arith, listens, control_in, option_map)

-- Whether a frame of the link is heard whose control field is so.
module _ (c : Config) (service : Service) (tei : ℕ) (which : Control → Bool) where
  pub seen-brings : (e : Event) (a : Answer) → list_any (brings which c service tei) (seen e a) ≡ option_map_or which (control_in service tei (frame_by c e)) false
  seen-brings e a = grind (arith, control_in, or-false)
