-- A card of either kind.
use Rattle.lapd_card.proofs.Vocabulary.{◌≡◌, ℕ, ◌<◌, sym, ap, refl, subst, ◌∙◌, option_map, option_to_list, Card, Event, at, moment_counted, moment_of, all_counted, Store, counters_in, OctetCard}
use Rattle.lapd_card.specs.declared.kinds.AnyCard.{AnyCard}
use Rattle.lapd_card.specs.declared.kinds.AnyCard.TheVariants.{Octets, Frames}
use Rattle.lapd_card.specs.Kinds.{Machine, with_ports, alone, card_in, AnyStands, AnyLeads, CardStands, FrameCardStands, shelf_of}
use Rattle.model_line.specs.Event as line
use Rattle.model_card.specs.ports.Codec.{frame_moment}
use Rattle.model_card.specs.ports.Event as octet_event
use Rattle.model_card.specs.ports.Port as port
use Rattle.lapd_card.specs.Called.{AnyCalled, Called}
use Rattle.lapd_card.specs.Card as octets
use Rattle.lapd_card.specs.FrameCard as frames
use Rattle.lapd_card.specs.FrameStands as frame_stands
use Rattle.lapd_card.specs.Stands as octets_stand
use Rattle.lapd_card.proofs.OneOctet.{IsPassedOn, meant_is, passed_after, passed_leads}
use Rattle.lapd_card.specs.Kinds as kinds

-- what holds of each machine for which a card of octets stands, or one of frames
pub by_octets : (P : Machine → Type 0) {card : AnyCard} {c : octets.Held Store} → card ≡ Octets c → ((m : OctetCard) → CardStands c m → P (with_ports m)) → (m : Machine) → AnyStands card m → P m
by_octets P {card} {c} is h m s = go m (subst (λ card. AnyStands card m) is s)
  where
    go : (m : Machine) → AnyStands (Octets c) m → P m
    go (with_ports m) s = h m s
    go (alone m) s = absurd s

pub by_frames : (P : Machine → Type 0) {card : AnyCard} {c : frames.Held Store} → card ≡ Frames c → ((m : Card) → FrameCardStands c m → P (alone m)) → (m : Machine) → AnyStands card m → P m
by_frames P {card} {c} is h m s = go m (subst (λ card. AnyStands card m) is s)
  where
    go : (m : Machine) → AnyStands (Frames c) m → P m
    go (with_ports m) s = absurd s
    go (alone m) s = h m s

-- ---- an event at the card of frames

frames_lead : {e : Event} {card : AnyCard} {old new : frames.Held Store} → card ≡ Frames old → frame_stands.Leads shelf_of e old new → AnyLeads e card (Frames new)
frames_lead {e} {card} {old} {new} is leads = subst (λ card. AnyLeads e card (Frames new)) (sym is) (record {
  kind = refl;
  config = leads.config;
  stands = by_frames (λ m. AnyStands (Frames new) (kinds.after e m)) refl leads.stands;
  counted = by_frames (λ m. counters_in new.lines ≡ moment_counted (counters_in old.lines) (moment_of (card_in m) e)) refl leads.counted;
})

-- a card of octets passes it on
module _ {e : port.Event} {f : line.Event} (on : IsPassedOn e f) where
  octets_lead : {i : ℕ} {card : AnyCard} {old new : octets.Held Store} → card ≡ Octets old → octets_stand.Leads shelf_of (octet_event.at i e) old new → AnyLeads (at i f) card (Octets new)
  octets_lead {i} {card} {old} {new} is leads = subst (λ card. AnyLeads (at i f) card (Octets new)) (sym is) (record {
    kind = refl;
    config = leads.config;
    stands = by_octets (λ m. AnyStands (Octets new) (kinds.after (at i f) m)) refl (λ m s. subst (CardStands new) (passed_after on i m) (leads.stands m s));
    counted = by_octets (λ m. counters_in new.frames.lines ≡ moment_counted (counters_in old.frames.lines) (moment_of (card_in m) (at i f))) refl
        (λ m s. leads.counted m s ∙ ap (λ o. all_counted (counters_in old.frames.lines) (option_to_list (option_map (frame_moment m) o))) (meant_is on i m));
  })

-- So a call of a card of frames, or one that a card of octets passes on, is one of a card of either kind.
pub frames_called : {e : Event} {r : line.Answer} {card : AnyCard} {old new : frames.Held Store} → card ≡ Frames old → Called shelf_of e r old new → AnyCalled e r card (Frames new)
frames_called {e} {r} {card} {old} {new} is called = subst (λ card. AnyCalled e r card (Frames new)) (sym is) (record {
  answers = by_frames (λ m. r ≡ kinds.answer e m) refl called.answers;
  unchanged = λ why is. ap Frames (called.unchanged why is);
  leads = frames_lead refl called.leads;
})

pub octets_called : {e : port.Event} {f : line.Event} (on : IsPassedOn e f) {i : ℕ} {r : line.Answer} {card : AnyCard} {old : octets.Held Store} {new : frames.Held Store} → card ≡ Octets old → i < octets.line_count old
    → Called shelf_of (at i f) r old.frames new → AnyCalled (at i f) r card (Octets (record { frames = new; ports = old.ports }))
octets_called {e} {f} on {i} {r} {card} {old} {new} is within called = subst (λ card. AnyCalled (at i f) r card (Octets (record { frames = new; ports = old.ports }))) (sym is) (record {
  answers = by_octets (λ m. r ≡ kinds.answer (at i f) m) refl (λ m s. called.answers m.card s.frames);
  unchanged = λ why is. ap (λ (g : frames.Held Store). Octets (record { frames = g; ports = old.ports })) (called.unchanged why is);
  leads = octets_lead on refl (passed_leads on shelf_of within called.leads);
})
