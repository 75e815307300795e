-- A card and its timers, one step on.
use Rattle.std.proofs.Common.{arith, ◌≡◌, ◌≢◌, Bool, true, false, cond, ℕ, zero, suc, ◌<◌, List, [], ◌∷◌, length, Option, Some, None, option_map, refl, sym, ap, ◌∙◌, subst}
use Rattle.std.proofs.lemmas.Option.{none-some, same_Some}
use Rattle.std.specs.Option.{option_map_or}
use Rattle.lapd_card.specs.Called.{AnyCalled, Called, OctetCalled}
use Rattle.lapd_card.specs.Card as octets_card
use Rattle.lapd_card.specs.FrameCard as frames_card
use Rattle.lapd_card.specs.Kinds.{alone, card_in, frames_of, line_count, shelf_of, with_ports, AnyLeads, AnyStands, CardStands, FrameCardStands, Machine}
use Rattle.lapd_card.specs.Stands as octets_stand
use Rattle.lapd_card.specs.declared.kinds.AnyCard.{AnyCard}
use Rattle.lapd_card.specs.declared.kinds.AnyCard.TheVariants.{Octets, Frames}
use Rattle.lapd_card.specs.{listed, told_at}
use Rattle.lapd_card.proofs.OneOctet.{IsPassedOn, meant_is, passed_after}
use Rattle.lapd_card.proofs.OnePort.{ports-all}
use Rattle.lapd_clock.specs.Timer.{Timer, Order}
use Rattle.lapd_clock.specs.Timers.{Expiry}
use Rattle.lapd_frame.specs.declared.refusals.Refusal.{Refusal}
use Rattle.lapd_line.specs.declared.port.Port.{Port}
use Rattle.lapd_link_steps.specs.declared.report.BareReport.{BareReport}
use Rattle.lapd_store.specs.Store.{Store}
use Rattle.model_card.specs.Card.{Card}
use Rattle.model_card.specs.Event as frame
use Rattle.model_card.specs.Machine as machine
use Rattle.model_card.specs.ports.Card as ports
use Rattle.model_card.specs.ports.Card.{OctetCard}
use Rattle.model_card.specs.ports.Event as octet
use Rattle.model_card.specs.ports.Port as port
use Rattle.model_line.specs.Event as line_event
use Rattle.model_line.specs.Laws.{orders_in}
use Rattle.model_line.specs.declared.config.Config.{Config}
use Rattle.model_timed.specs.Clock.{Clock, at_moment, due, without_first}
use Rattle.model_timed.specs.Frames as frames
use Rattle.model_timed.specs.Octets as octets
use Rattle.model_timed.specs.Timed as timed
use Rattle.model_timed.specs.Timed.{Kind, Timed, happens, falls_due, with_event, with_expiry}
use Rattle.model_timed.proofs.OctetsRun.{OctetsMean, octets-mean}
use Rattle.lapd_timed.specs.Called.{CalledOfBoth, CalledOfFrames, CalledOfOctets}
use Rattle.lapd_timed.specs.Carried.{AreCarriedOut, AreNoted, AreStillNoted}
use Rattle.lapd_timed.specs.Places.{named_by}
use Rattle.lapd_timed.specs.Stands.{moment_of, AreLeftIn, AreOfLines, ChangesStandIn, TimersStandIn}
use Rattle.lapd_timed.specs.Kinds.{LedByFrames, LedByOctets}
use Rattle.lapd_timed.specs.TimedStands.{AreFrames, AreOctets, FramesStand, OctetsStand, Steps}
use Rattle.lapd_timed.specs.declared.card_timers.CardTimers.{CardTimers}
use Rattle.lapd_timed.specs.declared.timed_card.TimedCard.{TimedCard}
use Rattle.lapd_timed.specs.TimedStands.{FramesMarked, OctetsMarked}
use Rattle.lapd_timed.proofs.Touching.{KeepsOthers}
use Rattle.lapd_timed.proofs.MarkedSteps.{event-marked, noted-again, noted-same, noted-still, unmarked-event}
use Rattle.lapd_card.specs.FrameStands.{FrameStands}
use Rattle.model_card.specs.Card.{line_at}
use Rattle.model_card.specs.Reached.{IsReached}
use Rattle.model_line.specs.Line.{Line}
use Rattle.model_line.specs.Machine as lines
use Rattle.model_timed.specs.Changes.{Marks, marked, itself, standing, noted}
use Rattle.model_timed.specs.Changes.{inside as in_octets}
use Rattle.lapd_timed.proofs.Events.{frames-done, octets-done, all-left, meant-so}

-- The card of frames stands for that of the machine, and has the line.
pub inside : (card : AnyCard) (m : Machine) → AnyStands card m → FrameCardStands (frames_of card) (card_in m)
inside (Octets card) (with_ports m) stands = stands.frames
inside (Octets card) (alone m) stands = absurd stands
inside (Frames card) (with_ports m) stands = absurd stands
inside (Frames card) (alone m) stands = stands

-- its machine has been reached
pub reached : (timers : Option CardTimers) (m : Card) (c : Clock) → TimersStandIn timers m c → IsReached m
reached None m c stood = absurd stood
reached (Some t) m c stood = stood.reached

-- and its moment is that of the timers
pub moment-is : (timers : Option CardTimers) (m : Card) (c : Clock) → TimersStandIn timers m c → c.now ≡ moment_of timers
moment-is None m c stood = absurd stood
moment-is (Some t) m c stood = stood.clock_is.now

-- they are of the lines of the card
pub lines-are : {lines : ℕ} {o : Option CardTimers} {t : CardTimers} → o ≡ Some t → AreOfLines lines o → t.lines ≡ lines
lines-are {lines} is own = subst (AreOfLines lines) is own

reached-left : (e : frame.Event) (timers : Option CardTimers) (m : Card) (c : Clock) → AreLeftIn e timers m c → IsReached m
reached-left e None m c left = absurd left
reached-left e (Some t) m c left = left.reached

there : (card : AnyCard) (m : Machine) (line : ℕ) → AnyStands card m → line < line_count card → line < (card_in m).config.lines
there card m line stands within = subst (λ n. line < n) (ap (λ d. d.lines) (sym (inside card m stands).config)) within

-- ---- an event of one kind alone

module _ (line : ℕ) (e : octet.Event) (at_line : e.line ≡ line) (may : octets.IsNoExpiry e.what) {r : port.Answer} (old new : TimedCard) (card now : octets_card.Held Store) (is : old.card ≡ Octets card) (be : new.card ≡ Octets now)
    (called : OctetCalled shelf_of e r card now) (within : line < line_count old.card) (orders : List Order) (carried : AreCarriedOut now.frames line orders old.timers new.timers)
    (none : orders ≡ [] → (m : Card) (c : Clock) → TimersStandIn old.timers m c → TimersStandIn new.timers m c) (says : (m : OctetCard) → CardStands card m → orders ≡ octets.orders_in r) where
  octets-step : (t : octets.TimedOctetCard) → OctetsStand old t → OctetsStand new (octets.after (happens e) t)
  octets-step t s =
      let on = subst (λ k. AnyStands k (with_ports t.card)) is s.card_stands in
      let stands = called.leads.stands t.card on in
      record {
        card_stands = subst (λ k. AnyStands k (with_ports (ports.after e t.card))) (sym be) stands;
        timers_stand = octets-done now.frames line orders old.timers new.timers carried e at_line may t.card t.clock (there old.card (with_ports t.card) line s.card_stands within) stands.frames
            (says t.card on ∙ ap octets.orders_in (called.answers t.card on)) (λ is. none is t.card.card t.clock s.timers_stand) s.timers_stand;
      }

  octets-called : OctetsMarked (happens e) old new → CalledOfOctets e r old new
  octets-called marked = record {
    answers = λ m s. called.answers m (subst (λ k. AnyStands k (with_ports m)) is s);
    leads = subst (λ k. LedByOctets e k new.card) (sym is) (subst (LedByOctets e (Octets card)) (sym be) called.leads);
    after = octets-step;
    marked = marked;
    timed = carried.there;
  }

  -- by what the octet means to the card of frames inside: links are noted, or none has changed
  abbrev here-in : (t : octets.TimedOctetCard) → OctetsStand old t → (f : frame.Event) → f.line ≡ e.line → f.line < t.card.card.config.lines
  here-in t s f same = subst (λ n. n < t.card.card.config.lines) (sym (same ∙ at_line)) (there old.card (with_ports t.card) line s.card_stands within)

  abbrev on : (t : octets.TimedOctetCard) → OctetsStand old t → CardStands card t.card
  on t s = subst (λ x. AnyStands x (with_ports t.card)) is s.card_stands

  pub octets-called-still : AreStillNoted old.timers new.timers
      → ((m : OctetCard) → CardStands card m → (f : frame.Event) → ports.meant e m ≡ Some f → IsReached m.card → f.line < m.card.config.lines → (number : ℕ)
      → standing number (lines.after m.card.config f.what (line_at f.line m.card)) ≡ standing number (line_at f.line m.card)) → CalledOfOctets e r old new
  octets-called-still still keeps = octets-called (λ t marks s stood. go t marks s stood (octets.after (happens e) t).clock.now (ports.meant e t.card) refl (octets-mean e t.card))
    where
      go : (t : octets.TimedOctetCard) (marks : Marks) → OctetsStand old t → ChangesStandIn old.timers t.card.card marks → (k : ℕ) (o : Option frame.Event) → ports.meant e t.card ≡ o → OctetsMean e t.card o
          → ChangesStandIn new.timers (ports.after e t.card).card (noted k (ports.after e t.card).card marks)
      go t marks s stood k None meant means = subst (λ (x : Card). ChangesStandIn new.timers x (noted k x marks)) (sym means.1) (noted-again new.timers t.card.card k marks (still t.card.card marks stood))
      go t marks s stood k (Some f) meant means =
          let here = here-in t s f means.0 in let r = reached old.timers t.card.card t.clock s.timers_stand in
          subst (λ (x : Card). ChangesStandIn new.timers x (noted k x marks)) (sym means.2)
          (unmarked-event t.card.card r f here marks new.timers k (keeps t.card (on t s) f meant r here) (still t.card.card marks stood))

  pub octets-called-noted : (mid : Option CardTimers) → AreStillNoted old.timers mid → (tei : ℕ) → AreNoted now.frames line tei mid new.timers
      → ((m : OctetCard) → CardStands card m → (f : frame.Event) → ports.meant e m ≡ Some f → KeepsOthers tei m.card.config (line_at f.line m.card) (lines.after m.card.config f.what (line_at f.line m.card)))
      → CalledOfOctets e r old new
  octets-called-noted mid still tei are_noted keeps = octets-called (λ t marks s stood. go t marks s stood (ports.meant e t.card) refl (octets-mean e t.card))
    where
      go : (t : octets.TimedOctetCard) (marks : Marks) → OctetsStand old t → ChangesStandIn old.timers t.card.card marks → (o : Option frame.Event) → ports.meant e t.card ≡ o → OctetsMean e t.card o
          → ChangesStandIn new.timers (ports.after e t.card).card (noted (octets.after (happens e) t).clock.now (ports.after e t.card).card marks)
      go t marks s stood None meant means =
          noted-still t.card.card (ports.after e t.card).card now.frames line tei mid new.timers (octets.after (happens e) t).clock marks (called.leads.stands t.card (on t s)).frames are_noted (octets-step t s).timers_stand means.1
          (still t.card.card marks stood)
      go t marks s stood (Some f) meant means =
          let c = (octets.after (happens e) t).clock in
          subst (λ (x : Card). ChangesStandIn new.timers x (noted c.now x marks)) (sym means.2)
          (event-marked t.card.card (reached old.timers t.card.card t.clock s.timers_stand) f (here-in t s f means.0) marks now.frames mid new.timers c tei (keeps t.card (on t s) f meant)
          (subst (λ (x : Card). FrameStands shelf_of now.frames x) means.2 (called.leads.stands t.card (on t s)).frames)
          (subst (λ n. AreNoted now.frames n tei mid new.timers) (sym (means.0 ∙ at_line)) are_noted)
          (subst (λ (x : Card). TimersStandIn new.timers x c) means.2 (octets-step t s).timers_stand) (still t.card.card marks stood))

module _ (line : ℕ) (e : frame.Event) (at_line : e.line ≡ line) (may : frames.IsNoExpiry e.what) {r : line_event.Answer} (old new : TimedCard) (card now : frames_card.Held Store) (is : old.card ≡ Frames card) (be : new.card ≡ Frames now)
    (called : Called shelf_of e r card now) (within : line < line_count old.card) (orders : List Order) (carried : AreCarriedOut now line orders old.timers new.timers) (ordered : orders ≡ orders_in r) where
  frames-step : (t : frames.TimedCard) → FramesStand old t → FramesStand new (frames.after (happens e) t)
  frames-step t s =
      let on = subst (λ k. AnyStands k (alone t.card)) is s.card_stands in
      let stands = called.leads.stands t.card on in
      record {
        card_stands = subst (λ k. AnyStands k (alone (machine.after e t.card))) (sym be) stands;
        timers_stand = frames-done now line orders old.timers new.timers carried e at_line t.card t.clock (there old.card (alone t.card) line s.card_stands within) stands
            (ordered ∙ ap orders_in (called.answers t.card on)) (all-left e may old.timers t.card t.clock s.timers_stand);
      }

  frames-called : FramesMarked (happens e) old new → CalledOfFrames e r old new
  frames-called marked = record {
    answers = λ m s. called.answers m (subst (λ k. AnyStands k (alone m)) is s);
    leads = subst (λ k. LedByFrames e k new.card) (sym is) (subst (LedByFrames e (Frames card)) (sym be) called.leads);
    after = frames-step;
    marked = marked;
    timed = carried.there;
  }

  -- where the links of a TEI are noted, or none has changed
  abbrev here-at : (t : frames.TimedCard) → FramesStand old t → e.line < t.card.config.lines
  here-at t s = subst (λ n. n < t.card.config.lines) (sym at_line) (there old.card (alone t.card) line s.card_stands within)

  pub frames-called-noted : (mid : Option CardTimers) → AreStillNoted old.timers mid → (tei : ℕ) → ((c : Config) (l : Line) → KeepsOthers tei c l (lines.after c e.what l)) → AreNoted now e.line tei mid new.timers
      → CalledOfFrames e r old new
  frames-called-noted mid still tei keeps are_noted = frames-called (λ t marks s stood.
      event-marked t.card (reached old.timers t.card t.clock s.timers_stand) e (here-at t s) marks now mid new.timers (frames.after (happens e) t).clock tei (keeps t.card.config (line_at e.line t.card))
      (called.leads.stands t.card (subst (λ k. AnyStands k (alone t.card)) is s.card_stands)) are_noted (frames-step t s).timers_stand (still t.card marks stood))

  pub frames-called-still : AreStillNoted old.timers new.timers → ((m : Card) → IsReached m → e.line < m.config.lines → (number : ℕ) → standing number (lines.after m.config e.what (line_at e.line m)) ≡ standing number (line_at e.line m))
      → CalledOfFrames e r old new
  frames-called-still still keeps = frames-called (λ t marks s stood.
      let r = reached old.timers t.card t.clock s.timers_stand in
      unmarked-event t.card r e (here-at t s) marks new.timers (frames.after (happens e) t).clock.now (keeps t.card r (here-at t s)) (still t.card marks stood))

-- the orders of what an octet led to
told-orders : (ports : List Port) (line : ℕ) (report : BareReport) → line < length ports → (told_at ports line report).orders ≡ listed report.orders
told-orders [] line report within = absurd (omega (arith, within))
told-orders (p ∷ ps) zero report within = refl
told-orders (p ∷ ps) (suc line) report within = told-orders ps line report (omega (arith, within))

pub orders-told : (e : octet.Event) (card now : octets_card.Held Store) (line : ℕ) (report : BareReport) → octets_stand.Leads shelf_of e card now → line < octets_card.line_count card → (m : OctetCard) → CardStands card m
    → (told_at now.ports line report).orders ≡ listed report.orders
orders-told e card now line report leads within m s =
    told-orders now.ports line report
    (subst (λ n. line < n) (sym (ports-all shelf_of now (ports.after e m, leads.stands m s))) (subst (λ (c : Config). line < c.lines) (sym leads.config) within))

-- an octet that is called for means a call for the next frame, if anything
pub pull-means : (line : ℕ) (m : OctetCard) (f : frame.Event) → ports.meant (octet.at line port.pull) m ≡ Some f → f ≡ frame.at line line_event.next
unfolding ports.meant
pull-means line m f meant = go (port.is_due (ports.port_at line m)) meant
  where
    go : (b : Bool) → option_map (frame.at line) (cond b (Some line_event.next) None) ≡ Some f → f ≡ frame.at line line_event.next
    go true is = sym (same_Some (frame.at line line_event.next) f is)
    go false is = absurd (none-some f is)

-- ---- an event of both kinds

module _ {e : port.Event} {f : line_event.Event} (passes : IsPassedOn e f) (line : ℕ) (card now last : AnyCard) (be : last ≡ now) (leads : AnyLeads (frame.at line f) card now) (within : line < line_count card)
    (timers new : Option CardTimers) (orders : List Order) (carried : AreCarriedOut (frames_of now) line orders timers new)
    (says : (m : Machine) → AnyStands card m → orders ≡ frames.orders_at (frame.at line f) (card_in m)) where
  pub both-octets : (m : OctetCard) (c : Clock) → AnyStands card (with_ports m) → AreLeftIn (frame.at line f) timers m.card c
      → AreOctets last new (with_event octets.octets (octet.at line e) (record { card = m; clock = c }))
  both-octets m c on left = record {
    card_stands =
        subst (λ k. AnyStands k (with_ports (ports.after (octet.at line e) m))) (sym be)
        (subst (λ x. AnyStands now (with_ports x)) (sym (passed_after passes line m)) (leads.stands (with_ports m) on));
    timers_stand = meant-so (octet.at line e) (frame.at line f) m c new (subst (OctetsMean (octet.at line e) m) (meant_is passes line m) (octets-mean (octet.at line e) m))
        (frames-done (frames_of now) line orders timers new carried (frame.at line f) refl m.card c (there card (with_ports m) line on within)
        (inside now _ (leads.stands (with_ports m) on)) (says (with_ports m) on) left);
  }

  pub both-frames : (m : Card) (c : Clock) → AnyStands card (alone m) → AreLeftIn (frame.at line f) timers m c
      → AreFrames last new (with_event frames.frames (frame.at line f) (record { card = m; clock = c }))
  both-frames m c on left = record {
    card_stands = subst (λ k. AnyStands k (alone (machine.after (frame.at line f) m))) (sym be) (leads.stands (alone m) on);
    timers_stand = frames-done (frames_of now) line orders timers new carried (frame.at line f) refl m c (there card (alone m) line on within)
        (inside now _ (leads.stands (alone m) on)) (says (alone m) on) left;
  }

  module _ (mid : Option CardTimers) (still : AreStillNoted timers mid) (tei : ℕ) (keeps : (c : Config) (l : Line) → KeepsOthers tei c l (lines.after c f l)) (are_noted : AreNoted (frames_of now) line tei mid new) where
    pub marked-frames : (m : Card) (c : Clock) (marks : Marks) → AnyStands card (alone m) → AreLeftIn (frame.at line f) timers m c → ChangesStandIn timers m marks
        → let u = with_event frames.frames (frame.at line f) (record { card = m; clock = c }) in ChangesStandIn new u.card (marked itself u marks)
    marked-frames m c marks on left stood =
        event-marked m (reached-left (frame.at line f) timers m c left) (frame.at line f) (there card (alone m) line on within) marks (frames_of now) mid new (with_event frames.frames (frame.at line f) (record { card = m; clock = c })).clock tei
        (keeps m.config (line_at line m)) (inside now _ (leads.stands (alone m) on)) are_noted (both-frames m c on left).timers_stand (still m marks stood)

    pub marked-octets : (m : OctetCard) (c : Clock) (marks : Marks) → AnyStands card (with_ports m) → AreLeftIn (frame.at line f) timers m.card c → ChangesStandIn timers m.card marks
        → let u = with_event octets.octets (octet.at line e) (record { card = m; clock = c }) in ChangesStandIn new u.card.card (marked in_octets u marks)
    marked-octets m c marks on left stood =
        let k = (with_event octets.octets (octet.at line e) (record { card = m; clock = c })).clock in
        let means = subst (OctetsMean (octet.at line e) m) (meant_is passes line m) (octets-mean (octet.at line e) m) in
        subst (λ (x : Card). ChangesStandIn new x (noted k.now x marks)) (sym means.2)
        (event-marked m.card (reached-left (frame.at line f) timers m.card c left) (frame.at line f) (there card (with_ports m) line on within) marks (frames_of now) mid new k tei
        (keeps m.card.config (line_at line m.card)) (inside now _ (leads.stands (with_ports m) on)) are_noted
        (subst (λ (x : Card). TimersStandIn new x k) means.2 (both-octets m c on left).timers_stand) (still m.card marks stood))

module _ {e : port.Event} {f : line_event.Event} (passes : IsPassedOn e f) (line : ℕ) (may : frames.IsNoExpiry f) {r : line_event.Answer} (old new : TimedCard) (now : AnyCard) (be : new.card ≡ now) (called : AnyCalled (frame.at line f) r old.card now)
    (kept : (why : Refusal) → r ≡ line_event.refused why → new ≡ old) (within : line < line_count old.card) (orders : List Order) (carried : AreCarriedOut (frames_of now) line orders old.timers new.timers) (ordered : orders ≡ orders_in r) where
  says : (m : Machine) → AnyStands old.card m → orders ≡ frames.orders_at (frame.at line f) (card_in m)
  says m on = ordered ∙ ap orders_in (called.answers m on)

  both-called : OctetsMarked (happens (octet.at line e)) old new → FramesMarked (happens (frame.at line f)) old new → CalledOfBoth (octet.at line e) (frame.at line f) r old new
  both-called marked_octets marked_frames = record {
    answers = called.answers;
    unchanged = kept;
    leads = subst (AnyLeads (frame.at line f) old.card) (sym be) called.leads;
    after = record {
      octets = λ t s. both-octets passes line old.card now new.card be called.leads within old.timers new.timers orders carried says t.card t.clock s.card_stands (all-left (frame.at line f) may old.timers t.card.card t.clock s.timers_stand);
      frames = λ t s. both-frames passes line old.card now new.card be called.leads within old.timers new.timers orders carried says t.card t.clock s.card_stands (all-left (frame.at line f) may old.timers t.card t.clock s.timers_stand);
      octets_marked = marked_octets;
      frames_marked = marked_frames;
    };
    timed = carried.there;
  }

  -- A request that is refused, or is of no link, leaves all links as they stand;
  pub both-called-still : AreStillNoted old.timers new.timers
      → ((m : Machine) → AnyStands old.card m → IsReached (card_in m) → line < (card_in m).config.lines → (other number : ℕ)
      → standing number (line_at other (machine.after (frame.at line f) (card_in m))) ≡ standing number (line_at other (card_in m))) → CalledOfBoth (octet.at line e) (frame.at line f) r old new
  both-called-still still stays = both-called octets-stay frames-stay
    where
      stay : (m : Machine) (c : Clock) (k : ℕ) (marks : Marks) → AnyStands old.card m → TimersStandIn old.timers (card_in m) c → ChangesStandIn old.timers (card_in m) marks
          → ChangesStandIn new.timers (machine.after (frame.at line f) (card_in m)) (noted k (machine.after (frame.at line f) (card_in m)) marks)
      stay m c k marks on stood noted =
          noted-same new.timers (card_in m) (machine.after (frame.at line f) (card_in m)) k marks refl
          (stays m on (reached old.timers (card_in m) c stood) (there old.card m line on within)) (still (card_in m) marks noted)

      frames-stay : FramesMarked (happens (frame.at line f)) old new
      frames-stay t marks s stood = stay (alone t.card) t.clock (frames.after (happens (frame.at line f)) t).clock.now marks s.card_stands s.timers_stand stood

      octets-stay : OctetsMarked (happens (octet.at line e)) old new
      octets-stay t marks s stood =
          let k = (octets.after (happens (octet.at line e)) t).clock.now in
          let means = subst (OctetsMean (octet.at line e) t.card) (meant_is passes line t.card) (octets-mean (octet.at line e) t.card) in
          subst (λ (x : Card). ChangesStandIn new.timers x (noted k x marks)) (sym means.2) (stay (with_ports t.card) t.clock k marks s.card_stands s.timers_stand stood)

  -- and one that is granted touches the links of a TEI.
  pub both-called-noted : (mid : Option CardTimers) → AreStillNoted old.timers mid → (tei : ℕ) → ((c : Config) (l : Line) → KeepsOthers tei c l (lines.after c f l)) → AreNoted (frames_of now) line tei mid new.timers
      → CalledOfBoth (octet.at line e) (frame.at line f) r old new
  both-called-noted mid still tei keeps are_noted = both-called
      (λ t marks s stood. marked-octets passes line old.card now new.card be called.leads within old.timers new.timers orders carried says mid still tei keeps are_noted t.card t.clock marks s.card_stands
      (all-left (frame.at line f) may old.timers t.card.card t.clock s.timers_stand) stood)
      (λ t marks s stood. marked-frames passes line old.card now new.card be called.leads within old.timers new.timers orders carried says mid still tei keeps are_noted t.card t.clock marks s.card_stands
      (all-left (frame.at line f) may old.timers t.card t.clock s.timers_stand) stood)

-- an answer by what it says
pub both-as : {o : octet.Event} {e : frame.Event} {r says : line_event.Answer} {old new : TimedCard} → r ≡ says → CalledOfBoth o e says old new → CalledOfBoth o e r old new
both-as {o} {e} {old = old} {new} is called = subst (λ a. CalledOfBoth o e a old new) (sym is) called

-- a card without timers stands for no timed card
pub none-steps : {o : timed.Step octet.Event} {f : timed.Step frame.Event} (old new : TimedCard) → old.timers ≡ None → Steps o f old new
none-steps old new none = record {
  octets = λ t s. absurd (subst (λ k. TimersStandIn k t.card.card t.clock) none s.timers_stand);
  frames = λ t s. absurd (subst (λ k. TimersStandIn k t.card t.clock) none s.timers_stand);
  octets_marked = λ t marks s. absurd (subst (λ k. TimersStandIn k t.card.card t.clock) none s.timers_stand);
  frames_marked = λ t marks s. absurd (subst (λ k. TimersStandIn k t.card t.clock) none s.timers_stand);
}

-- the time goes on, of timers that are there
pub time-steps : (moment : ℕ) (old new : TimedCard) → new.card ≡ old.card → ((m : Card) (c : Clock) → TimersStandIn old.timers m c → TimersStandIn new.timers m (at_moment moment c))
    → ((m : Card) (marks : Marks) → ChangesStandIn old.timers m marks → ChangesStandIn new.timers m marks) → Steps (timed.time moment) (timed.time moment) old new
time-steps moment old new same gone still = record {
  octets = λ t s. record { card_stands = subst (λ k. AnyStands k (with_ports t.card)) (sym same) s.card_stands; timers_stand = gone t.card.card t.clock s.timers_stand };
  frames = λ t s. record { card_stands = subst (λ k. AnyStands k (alone t.card)) (sym same) s.card_stands; timers_stand = gone t.card t.clock s.timers_stand };
  octets_marked = λ t marks s stood. noted-again new.timers t.card.card moment marks (still t.card.card marks stood);
  frames_marked = λ t marks s stood. noted-again new.timers t.card moment marks (still t.card marks stood);
}

-- ---- what is due

due-some : (o : Option Expiry) (d : ℕ × Timer) → Some d ≡ option_map named_by o → (x : Expiry) × ((o ≡ Some x) × (named_by x ≡ d))
due-some None d is = absurd (none-some d (sym is))
due-some (Some x) d is = (x, (refl, sym (same_Some d (named_by x) is)))

module _ {Card Event : Type 0} (k : Kind Card Event) (t : Timed Card) where
  pub fell-is : (d : ℕ × Timer) → Some d ≡ option_map named_by (due t.clock) → timed.after k falls_due t ≡ with_event k (k.expiry d.0 d.1) (record { card = t.card; clock = without_first t.clock })
  fell-is d is =
      let x = due-some (due t.clock) d is in
      ap (λ o. option_map_or (with_expiry k t) o t) x.1.0 ∙ ap (λ (y : ℕ × Timer). with_event k (k.expiry y.0 y.1) (record { card = t.card; clock = without_first t.clock })) x.1.1

  module _ (P : Timed Card → Type 0) where
    pub fell : (d : ℕ × Timer) → Some d ≡ option_map named_by (due t.clock) → P (with_event k (k.expiry d.0 d.1) (record { card = t.card; clock = without_first t.clock })) → P (timed.after k falls_due t)
    fell d is stands = subst P (sym (fell-is d is)) stands

    pub rested : None ≡ option_map named_by (due t.clock) → P t → P (timed.after k falls_due t)
    rested is stands = go (due t.clock) refl is
      where
        go : (o : Option Expiry) → due t.clock ≡ o → None ≡ option_map named_by o → P (timed.after k falls_due t)
        go None e is = subst (λ o. P (option_map_or (with_expiry k t) o t)) (sym e) stands
        go (Some x) e is = absurd (none-some (named_by x) is)
