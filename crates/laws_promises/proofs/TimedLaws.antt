-- The laws of a list of events at a card that keeps its own timers, of either kind.
use Rattle.std.proofs.Common.{◌≡◌, ℕ, ◌<◌, List, [], ◌∷◌, refl, sym, ap, subst}
use Rattle.std.proofs.lemmas.List.Elements.{All-cons, All-map, All-nil, All-weaker}
use Rattle.std.specs.List.{AllByRecursion}
use Rattle.std.specs.Prelude.{All}
use Rattle.lapd_card.specs.Card.{Held}
use Rattle.lapd_card.specs.Kinds.{config_of, frames_of, kind_of, line_count, shelf_of, with_ports, AnyStands}
use Rattle.lapd_card.specs.Stands.{OctetCardStands}
use Rattle.lapd_card.specs.declared.kinds.AnyCard.{AnyCard}
use Rattle.lapd_card.specs.declared.kinds.AnyCard.TheVariants.{Octets, Frames}
use Rattle.lapd_card.proofs.OctetHeadline.{laws as octet_laws}
use Rattle.lapd_clock.specs.Timers.{Expiry}
use Rattle.lapd_store.specs.Store.{Store}
use Rattle.lapd_timed.specs.TimedStands.{FramesStand, OctetsStand}
use Rattle.lapd_timed.specs.declared.timed_card.TimedCard.{TimedCard}
use Rattle.model_card.specs.Event.{Event}
use Rattle.model_card.specs.declared.kinds.CardKind.{CardKind}
use Rattle.model_card.specs.ports.Card.{OctetCard}
use Rattle.model_card.specs.ports.Event as octet
use Rattle.model_card.specs.ports.Run as octets_run
use Rattle.model_card.specs.ports.Run.{meant_all}
use Rattle.model_card.proofs.OfPorts.Codec.{refines}
use Rattle.model_card.proofs.OfPorts.Reaching.{frames_reached}
use Rattle.model_card.proofs.OfPorts.Steps.{config_after}
use Rattle.model_line.specs.declared.config.Config.{Config}
use Rattle.model_timed.specs.Frames as of_frames_machine
use Rattle.model_timed.specs.Frames.{frames}
use Rattle.model_timed.specs.Octets as of_octets_machine
use Rattle.model_timed.specs.Octets.{octets}
use Rattle.model_timed.proofs.Marking.{changes_are_told, octet_changes_are_told}
use Rattle.model_timed.proofs.RunTheSame.{octet_timers_run_the_same, timers_run_the_same}
use Rattle.model_timed.proofs.True.{timers_are_true}
use Rattle.laws_promises.specs.FrameDrive.{FramesKeepLaws}
use Rattle.laws_promises.specs.TimedDrive.{frame_step, frame_steps, octet_step, octet_steps, of_frames, of_octets, MayHappen, OctetsKeepLaws, TimedKeepLaws}
unfoldable use Rattle.laws_promises.specs.TimedRun.{events_in}
use Rattle.laws_promises.specs.declared.frame_events.FrameEvent.TheVariants as untimed
use Rattle.laws_promises.specs.declared.timed_events.TimedEvent as rust
use Rattle.laws_promises.proofs.FrameLaws.{laws}
use Rattle.laws_promises.proofs.Kept.{promises-kept}
use Rattle.laws_promises.proofs.Linear.{TakesItsOctets, takes}
use Rattle.laws_promises.proofs.OctetsKept.{octets-kept}
use Rattle.laws_promises.proofs.TimedKinds.{frames-driven, octets-driven, stands-alone}
use Rattle.laws_promises.proofs.TimedLines.{IfHappens, all-meant, events-at, run-at-lines}
use Rattle.laws_promises.proofs.TimedRunning.{are-steps}
use Rattle.laws_promises.proofs.TimedServing.{events-led}

-- What may happen is at a line of the card, and takes the octets of a frame that comes.
frame-at-line : (n201 lines : ℕ) (kind : CardKind) (e : rust.TimedEvent) → MayHappen kind lines e → IfHappens (λ (x : Event). x.line < lines) (frame_step n201 e)
frame-at-line n201 lines kind (rust.TheVariants.Time moment) may = tt
frame-at-line n201 lines kind rust.TheVariants.FallDue may = tt
frame-at-line n201 lines kind (rust.TheVariants.Request line request) may = may
frame-at-line n201 lines kind (rust.TheVariants.Frame line frame) may = may.1
frame-at-line n201 lines kind (rust.TheVariants.Failed line fault) may = may.1
frame-at-line n201 lines kind (rust.TheVariants.Next line) may = may.1
frame-at-line n201 lines kind (rust.TheVariants.Octet line value) may = tt
frame-at-line n201 lines kind (rust.TheVariants.Pull line) may = tt

octet-at-line : (lines : ℕ) (kind : CardKind) (e : rust.TimedEvent) → MayHappen kind lines e → IfHappens (λ (x : octet.Event). x.line < lines) (octet_step e)
octet-at-line lines kind (rust.TheVariants.Time moment) may = tt
octet-at-line lines kind rust.TheVariants.FallDue may = tt
octet-at-line lines kind (rust.TheVariants.Request line request) may = may
octet-at-line lines kind (rust.TheVariants.Frame line frame) may = tt
octet-at-line lines kind (rust.TheVariants.Failed line fault) may = tt
octet-at-line lines kind (rust.TheVariants.Next line) may = tt
octet-at-line lines kind (rust.TheVariants.Octet line value) may = may.1
octet-at-line lines kind (rust.TheVariants.Pull line) may = may.1

takes-octets : (n201 : ℕ) (e : rust.TimedEvent) → IfHappens (TakesItsOctets n201) (frame_step n201 e)
takes-octets n201 (rust.TheVariants.Time moment) = tt
takes-octets n201 rust.TheVariants.FallDue = tt
takes-octets n201 (rust.TheVariants.Request line request) = takes n201 (untimed.Request line request)
takes-octets n201 (rust.TheVariants.Frame line frame) = takes n201 (untimed.Frame line frame)
takes-octets n201 (rust.TheVariants.Failed line fault) = takes n201 (untimed.Failed line fault)
takes-octets n201 (rust.TheVariants.Next line) = takes n201 (untimed.Next line)
takes-octets n201 (rust.TheVariants.Octet line value) = tt
takes-octets n201 (rust.TheVariants.Pull line) = tt

all-take-octets : (c : TimedCard) (events : List rust.TimedEvent) → All (IfHappens (TakesItsOctets (config_of c.card).n201)) (frame_steps c events)
all-take-octets c [] = All-nil (IfHappens (TakesItsOctets (config_of c.card).n201))
all-take-octets c (e ∷ events) =
    let n201 = (config_of c.card).n201 in
    All-cons (IfHappens (TakesItsOctets n201)) (frame_step n201 e) (frame_steps c events) (takes-octets n201 e) (all-take-octets c events)

-- The laws of octets hold of events at lines of a card of octets.
at-lines-of : (card : Held Store) (events : List octet.Event) → All (λ (e : octet.Event). e.line < card.frames.config.lines) events → (m : OctetCard) → OctetCardStands shelf_of card m → octets_run.AreAtLines m events
at-lines-of card events within m s = subst (λ (c : Config). All (λ (e : octet.Event). e.line < c.lines) events) (sym s.frames.config) within

octets-keep : (card : AnyCard) (m : OctetCard) (events : List octet.Event) → AnyStands card (with_ports m) → All (λ (e : octet.Event). e.line < line_count card) events → OctetsKeepLaws card events
octets-keep (Octets card) m events s within =
    let at-lines = at-lines-of card events within in (
      octet_laws shelf_of card events at-lines,
      λ n stands. (promises-kept n.card (meant_all n events) (frames_reached n stands.reached) ((refines n events).at_lines (at-lines n stands)), octets-kept n events stands.reached (at-lines n stands)),
    )
octets-keep (Frames card) m events s within = absurd s

ports-config : (card : AnyCard) (m : OctetCard) → AnyStands card (with_ports m) → m.card.config ≡ config_of card
ports-config (Octets card) m s = s.frames.config
ports-config (Frames card) m s = absurd s

module _ (c : TimedCard) (events : List rust.TimedEvent) (may : All (MayHappen (kind_of c.card) (line_count c.card)) events) where
  abbrev lines : ℕ
  lines = line_count c.card

  abbrev n201 : ℕ
  n201 = (config_of c.card).n201

  frames-at-lines : All (IfHappens (λ (x : Event). x.line < lines)) (frame_steps c events)
  frames-at-lines =
      All-map (IfHappens (λ (x : Event). x.line < lines)) (frame_step n201) events
      (All-weaker (MayHappen (kind_of c.card) lines) (λ e. IfHappens (λ (x : Event). x.line < lines) (frame_step n201 e)) (frame-at-line n201 lines (kind_of c.card)) events may)

  octets-at-lines : All (IfHappens (λ (x : octet.Event). x.line < lines)) (octet_steps events)
  octets-at-lines =
      All-map (IfHappens (λ (x : octet.Event). x.line < lines)) octet_step events
      (All-weaker (MayHappen (kind_of c.card) lines) (λ e. IfHappens (λ (x : octet.Event). x.line < lines) (octet_step e)) (octet-at-line lines (kind_of c.card)) events may)

  frames-keep-laws : (t : of_frames_machine.TimedCard) → FramesStand c t → FramesKeepLaws shelf_of (frames_of c.card) (events_in frames (frame_steps c events) t)
  frames-keep-laws t s =
      let is : t.card.config ≡ config_of c.card = (stands-alone c.card t.card s.card_stands).config in
      let run = subst (λ (d : Config). AllByRecursion (λ (x : Expiry). x.line < d.lines) t.clock.running) is (run-at-lines c.timers t.card t.clock s.timers_stand) in
      let at-lines = events-at frames (λ m. m.config.lines) (λ e m. refl) (λ line timer. refl) lines (frame_steps c events) t frames-at-lines (ap (λ (d : Config). d.lines) is, run) in
      laws shelf_of (frames_of c.card) (events_in frames (frame_steps c events) t)
      (λ m stands. subst (λ (d : Config). All (λ (e : Event). e.line < d.lines) (events_in frames (frame_steps c events) t)) (sym stands.config) at-lines)
      (all-meant frames (TakesItsOctets n201) (λ line timer. takes n201 (untimed.Expire line timer)) (frame_steps c events) t (all-take-octets c events))

  octets-keep-laws : (t : of_octets_machine.TimedOctetCard) → OctetsStand c t → OctetsKeepLaws c.card (events_in octets (octet_steps events) t)
  octets-keep-laws t s =
      let is : t.card.card.config ≡ config_of c.card = ports-config c.card t.card s.card_stands in
      let run = subst (λ (d : Config). AllByRecursion (λ (x : Expiry). x.line < d.lines) t.clock.running) is (run-at-lines c.timers t.card.card t.clock s.timers_stand) in
      let at-lines = events-at octets (λ m. m.card.config.lines) (λ e m. ap (λ (d : Config). d.lines) (config_after m e)) (λ line timer. refl) lines (octet_steps events) t octets-at-lines
      (ap (λ (d : Config). d.lines) is, run) in
      octets-keep c.card t.card (events_in octets (octet_steps events) t) s.card_stands at-lines

  pub timed-laws : TimedKeepLaws c events
  timed-laws = record {
    frames = record { machine = are-steps frames; leads = events-led of_frames frames-driven; timers_are_true = timers_are_true frames };
    octets = record { machine = are-steps octets; leads = events-led of_octets octets-driven; timers_are_true = timers_are_true octets };
    timers_run_the_same = timers_run_the_same;
    octet_timers_run_the_same = octet_timers_run_the_same;
    changes_are_told = changes_are_told;
    octet_changes_are_told = octet_changes_are_told;
    frames_keep = frames-keep-laws;
    octets_keep = octets-keep-laws;
  }
