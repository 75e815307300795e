-- The two kinds of cards that keep their own timers: what the proofs ask of each, and what an event is to it.
use Rattle.std.proofs.Common.{arith, ◌≡◌, ℕ, ◌<◌, List, [], ◌∷◌, ◌++◌, refl, sym, ap, ◌∙◌}
use Rattle.std.proofs.lemmas.List.Sums.{fold-append}
use Rattle.std.specs.Prelude.{option_to_list}
use Rattle.lapd_card.specs.FrameStands.{FrameStands}
use Rattle.lapd_card.specs.Kinds.{alone, counters_of, frames_of, kind_of, shelf_of, with_ports, AnyLeads, AnyStands, Machine}
use Rattle.lapd_card.specs.Kinds.{answer as kinds_answer}
use Rattle.lapd_card.specs.Stands.{meaning_counted}
use Rattle.lapd_card.specs.declared.kinds.AnyCard.{AnyCard}
use Rattle.lapd_card.specs.declared.kinds.AnyCard.TheVariants.{Octets, Frames}
use Rattle.lapd_card.proofs.Counting.{moments-more}
use Rattle.lapd_card.proofs.OctetsTaken.{meanings-count}
use Rattle.lapd_card.proofs.OneOctet.{IsPassedOn, meant_is, passed_answer}
use Rattle.lapd_count.specs.declared.counters.Counters.{Counters}
use Rattle.lapd_timed.specs.Called.{CalledOfFrames, CalledOfOctets}
use Rattle.lapd_timed.specs.Kinds.{room_of}
use Rattle.lapd_timed.specs.TimedStands.{FramesStand, OctetsStand}
use Rattle.lapd_timed.specs.declared.timed_card.TimedCard.{TimedCard}
use Rattle.lapd_timed.proofs.Led.{frames-led, octets-led}
use Rattle.model_card.specs.Card.{Card}
use Rattle.model_card.specs.Counted.{all_counted, moment_counted, moment_of}
use Rattle.model_card.specs.Event as frame
unfoldable use Rattle.model_card.specs.Run.{after_all, moments}
use Rattle.model_card.specs.declared.kinds.CardKind.TheVariants as kinds
use Rattle.model_card.specs.ports.Card.{OctetCard}
use Rattle.model_card.specs.ports.Event as octet
use Rattle.model_card.specs.ports.Port as port
unfoldable use Rattle.model_card.specs.ports.Run.{after_all as octets_after_all, meant_all}
use Rattle.model_card.proofs.OfPorts.Fold.{run_is_moments}
use Rattle.model_line.specs.Event as line_event
use Rattle.model_line.specs.declared.config.Config.{Config}
use Rattle.model_line.proofs.Ranges.{ranges_of}
use Rattle.model_timed.specs.Frames as of_frames_machine
use Rattle.model_timed.specs.Octets as of_octets_machine
use Rattle.laws_promises.specs.TimedDrive.{of_frames, of_octets}
use Rattle.laws_promises.specs.TimedReply.{answered, by_port}
use Rattle.laws_promises.proofs.TimedServing.{Happened, IsDriven}

-- ---- what the proofs ask of each

frames-counted : (all : List Counters) (m : Card) (es : List frame.Event) (e : frame.Event) → all_counted all (moments m (es ++ e ∷ [])) ≡ all_counted (all_counted all (moments m es)) (moments (after_all m es) (e ∷ []))
unfolding moments
frames-counted all m es e = ap (all_counted all) (moments-more m es e) ∙ fold-append moment_counted all (moments m es) (moment_of (after_all m es) e ∷ [])

pub frames-driven : IsDriven of_frames
unfolding after_all moments
frames-driven = record {
  timers = λ c t s. (t.card, s.timers_stand);
  led_nothing = λ card. refl;
  led_one = λ card e es. refl;
  none_counted = λ all card. refl;
  one_counted = frames-counted;
}

octet-counted : (all : List Counters) (m : OctetCard) (e : octet.Event) → all_counted all (moments m.card (meant_all m (e ∷ []))) ≡ meaning_counted all m e
unfolding moments meant_all
octet-counted all m e = meanings-count all m [] e

octets-counted : (all : List Counters) (m : OctetCard) (es : List octet.Event) (e : octet.Event)
    → all_counted all (moments m.card (meant_all m (es ++ e ∷ [])))
    ≡ all_counted (all_counted all (moments m.card (meant_all m es))) (moments (octets_after_all m es).card (meant_all (octets_after_all m es) (e ∷ [])))
octets-counted all m es e =
    let before = all_counted all (moments m.card (meant_all m es)) in
    meanings-count all m es e ∙ ap (λ n. meaning_counted before n e) (run_is_moments.card m es) ∙ sym (octet-counted before (octets_after_all m es) e)

pub octets-driven : IsDriven of_octets
unfolding octets_after_all meant_all moments
octets-driven = record {
  timers = λ c t s. (t.card.card, s.timers_stand);
  led_nothing = λ m. refl;
  led_one = λ m e es. refl;
  none_counted = λ all m. refl;
  one_counted = octets-counted;
}

-- ---- what an event is

-- a frame, a fault, or a call for the next frame
pub frame-happened : (e : frame.Event) (a said : line_event.Answer) (old new : TimedCard) → said ≡ a → CalledOfFrames e a old new → Happened of_frames e (answered e.line said) old new
unfolding moments
frame-happened e a said old new same called =
    let led = frames-led e old.card new.card called.leads in
    record {
      kind = led.kind;
      config = led.config;
      counted = λ t s. led.counted t.card s.card_stands;
      answers = λ t s. ap (answered e.line) (same ∙ called.answers t.card s.card_stands);
    }

-- an octet, or a pull
pub octet-happened : (e : octet.Event) (a said : port.Answer) (old new : TimedCard) → said ≡ a → CalledOfOctets e a old new → Happened of_octets e (by_port e.line said) old new
octet-happened e a said old new same called =
    let led = octets-led e old.card new.card called.leads in
    record {
      kind = led.kind;
      config = led.config;
      counted = λ t s. led.counted t.card s.card_stands ∙ sym (octet-counted (counters_of old.card) t.card e);
      answers = λ t s. ap (by_port e.line) (same ∙ called.answers t.card s.card_stands);
    }

-- an expiry, or a request, which a card of octets passes on
module _ {e : port.Event} {f : line_event.Event} (passes : IsPassedOn e f) (line : ℕ) (a said : line_event.Answer) (old new : TimedCard) (same : said ≡ a) (leads : AnyLeads (frame.at line f) old.card new.card)
    (answers : (m : Machine) → AnyStands old.card m → a ≡ kinds_answer (frame.at line f) m) where
  pub frames-happened : Happened of_frames (frame.at line f) (answered line said) old new
  unfolding moments
  frames-happened = record {
    kind = leads.kind;
    config = leads.config;
    counted = λ t s. leads.counted (alone t.card) s.card_stands;
    answers = λ t s. ap (answered line) (same ∙ answers (alone t.card) s.card_stands);
  }

  passed-counted : (all : List Counters) (m : OctetCard) → moment_counted all (moment_of m.card (frame.at line f)) ≡ all_counted all (moments m.card (meant_all m (octet.at line e ∷ [])))
  unfolding moments meant_all
  passed-counted all m = ap (λ o. all_counted all (moments m.card (option_to_list o ++ []))) (sym (meant_is passes line m))

  pub octets-happened : answered line said ≡ by_port line (port.answer_of said) → Happened of_octets (octet.at line e) (answered line said) old new
  octets-happened plain = record {
    kind = leads.kind;
    config = leads.config;
    counted = λ t s. leads.counted (with_ports t.card) s.card_stands ∙ passed-counted (counters_of old.card) t.card;
    answers = λ t s.
        plain
        ∙ ap (λ x. by_port line (port.answer_of x)) (same ∙ answers (with_ports t.card) s.card_stands)
        ∙ ap (by_port line) (sym (passed_answer passes line t.card));
  }

-- ---- what is of the other kind

pub no-octets : (c : TimedCard) → kind_of c.card ≡ kinds.Frames → (t : of_octets_machine.TimedOctetCard) → OctetsStand c t → ⊥
no-octets c is t s = none c.card is t.card s.card_stands
  where
    none : (card : AnyCard) → kind_of card ≡ kinds.Frames → (m : OctetCard) → AnyStands card (with_ports m) → ⊥
    none (Octets card) is m s = absurd (cc)
    none (Frames card) is m s = absurd s

pub no-frames : (c : TimedCard) → kind_of c.card ≡ kinds.Octets → (t : of_frames_machine.TimedCard) → FramesStand c t → ⊥
no-frames c is t s = none c.card is t.card s.card_stands
  where
    none : (card : AnyCard) → kind_of card ≡ kinds.Octets → (m : Card) → AnyStands card (alone m) → ⊥
    none (Frames card) is m s = absurd (cc)
    none (Octets card) is m s = absurd s

-- No card has so long a frame that there is no room for it.
pub stands-alone : (card : AnyCard) (m : Card) → AnyStands card (alone m) → FrameStands shelf_of (frames_of card) m
stands-alone (Frames card) m s = s
stands-alone (Octets card) m s = absurd s

pub always-room : (c : TimedCard) → 264 < room_of c.card → (t : of_frames_machine.TimedCard) → FramesStand c t → ⊥
always-room c small t s =
    let stands = stands-alone c.card t.card s.card_stands in
    let few = (ranges_of t.card.config stands.reached.config).n201.most in
    omega (arith, small, few, ap (λ (d : Config). d.n201) stands.config)
