-- What calls of Rattle mean: each by computing.
use Rattle.laws_promises.proofs.Vocabulary.{◌≡◌, ℕ, List, [], ◌∷◌, ap, arith, refl, sym, ◌∙◌}
use Rattle.std.proofs.Common.{◌++◌, append_assoc, append-nil}
use Rattle.std.proofs.lemmas.Bool.{le-ltb, lt-ltb}
use Rattle.laws_promises.specs.EventsMean.{EventsMeanThis}
use Rattle.laws_promises.specs.RepliesMean.{RepliesMeanThis}
use Rattle.laws_promises.specs.RequestsMean.{RequestsMeanThis}
use Rattle.lapd_card.specs.Kinds.{alone, with_ports, AnyStands}
use Rattle.lapd_card.specs.Sink.{MissesNext, Taken}
use Rattle.lapd_card.specs.declared.kinds.AnyCard.{AnyCard}
use Rattle.lapd_card.specs.declared.kinds.AnyCard.TheVariants.{Octets, Frames}
use Rattle.model_card.specs.Card.{Card}
use Rattle.model_card.specs.declared.kinds.CardKind.TheVariants as kinds
use Rattle.model_card.specs.ports.Card.{OctetCard}
use Rattle.model_line.specs.declared.config.Config.{Config}
use Rattle.model_timed.specs.Frames.{frames}
use Rattle.model_timed.specs.Octets.{octets}
use Rattle.model_timed.specs.Timed.{Kind}
use Rattle.laws_promises.specs.FrameDrive as of_frames
use Rattle.laws_promises.specs.RunsMean.{RunsMeanThis, AreAnswered, AreServed, IsOf, Keeps, Misses}
use Rattle.laws_promises.specs.TimedDrive.{frames_say, octets_say}
use Rattle.laws_promises.specs.TimedReply.{Answer}
use Rattle.laws_promises.specs.TimedRun.{answer_due}
unfoldable use Rattle.laws_promises.specs.TimedRun.{replies, served_all, events_in}
use Rattle.laws_promises.specs.declared.frame_events.FrameEvent.{FrameEvent}
use Rattle.laws_promises.specs.declared.frame_events.FrameEvent.TheVariants.{Frame, Failed, Next, Expire, Request}

pub requests_mean_this : RequestsMeanThis
requests_mean_this = grind arith

pub events_mean_this : EventsMeanThis
events_mean_this = grind (arith, le-ltb, lt-ltb)

pub replies_mean_this : RepliesMeanThis
replies_mean_this = grind arith

-- A sink that keeps each reply has kept all that it took.
kept_all : {R : Type 0} (kept : List (ℕ × R)) (some : List (ℕ × R)) (later : List (ℕ × R)) → Taken Keeps kept some later → later ≡ kept ++ some
kept_all kept [] later taken = taken ∙ sym (append-nil kept)
kept_all kept ((number, reply) ∷ some) later (next, took, rest) = kept_all next some later rest ∙ (ap (λ l. l ++ some) took ∙ append_assoc kept ((number, reply) ∷ []) some)

-- One that misses a reply has kept those before it.
kept_before : {R : Type 0} (some all kept later : List (ℕ × R)) → MissesNext Keeps Misses some all kept later → later ≡ kept ++ some
kept_before some all kept later missed = missed.missed ∙ kept_all kept some missed.before missed.taken

-- Steps are answered so, at a card of either kind.
answered_so : {Card Event : Type 0} (k : Kind Card Event) (says : Event → Card → Answer) → AreAnswered k says
unfolding replies
answered_so k says = record {
  event = λ e t. refl;
  goes = λ moment t. refl;
  none_falls = λ t is. ap (λ o. answer_due k says o t.card) is;
  falls = λ x t is. ap (λ o. answer_due k says o t.card) is;
  none = λ t. refl;
  each = λ s steps t. refl;
}

-- And they are served so.
served_so : {Card Event : Type 0} (k : Kind Card Event) → AreServed k
unfolding served_all events_in
served_so k = record {
  event = λ e t. refl;
  goes = λ moment t. refl;
  falls = λ t. refl;
  none = λ t. (refl, refl);
  each = λ s steps t. (refl, refl);
}

-- Each event of a card of frames is at its line.
on-its-line : (n201 : ℕ) (e : FrameEvent) → of_frames.line_of e ≡ (of_frames.event_of n201 e).line
on-its-line n201 (Frame _ _) = refl
on-its-line n201 (Failed _ _) = refl
on-its-line n201 (Next _) = refl
on-its-line n201 (Expire _ _) = refl
on-its-line n201 (Request _ _) = refl

-- A card has the lines of its machine.
is_alone : (card : AnyCard) (m : Card) → AnyStands card (alone m) → IsOf card kinds.Frames m.config
is_alone (Octets card) m stands = absurd stands
is_alone (Frames card) m stands = let is = sym stands.config in (refl, is, ap (λ (c : Config). c.lines) is)

has_ports : (card : AnyCard) (m : OctetCard) → AnyStands card (with_ports m) → IsOf card kinds.Octets m.card.config
has_ports (Octets card) m stands = let is = sym stands.frames.config in (refl, is, ap (λ (c : Config). c.lines) is)
has_ports (Frames card) m stands = absurd stands

pub runs_mean_this : RunsMeanThis
runs_mean_this = record {
  lines = λ card m stands. (sym (ap (λ (c : Config). c.lines) stands.config), sym stands.config);
  octet_line = λ e. refl;
  octet_lines = λ card m stands. sym (ap (λ (c : Config). c.lines) stands.frames.config);
  timed_lines = λ card t stands. is_alone card.card t.card stands.card_stands;
  timed_octet_lines = λ card t stands. has_ports card.card t.card stands.card_stands;
  at_its_line = on-its-line;
  kept = λ failures old new events kept later count h m stands. kept_all kept _ later (h.runs.taken m stands);
  missed = kept_before;
  failures = λ n. refl;
  counters = λ lines. refl;
  frame_comes = λ octets lines number within. (refl, within);
  fails = λ fault lines number within. (refl, within);
  next_frame = λ lines number within. (refl, within);
  octet_comes = λ value lines number within. (refl, within);
  pull = λ lines number within. (refl, within);
  ask = λ kind r lines number within. within;
  any_time = λ kind lines moment. (tt, tt);
  frames_answer = λ e card. refl;
  octets_answer = λ e m. refl;
  told = λ number t. refl;
  refused = λ number why. refl;
  pulled_octet = λ number value begun orders. refl;
  frames_are = answered_so frames frames_say;
  octets_are = answered_so octets octets_say;
  frames_served = served_so frames;
  octets_served = served_so octets;
  frames_kept = λ failures old new events kept later count h t stands. kept_all kept _ later (h.frames.taken t stands);
  octets_kept = λ failures old new events kept later count h t stands. kept_all kept _ later (h.octets.taken t stands);
}
