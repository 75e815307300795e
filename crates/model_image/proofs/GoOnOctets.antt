-- Two cards of octets whose lines are the same, and their ports, go on the same.
use Rattle.std.proofs.Common.{◌≡◌, ℕ, ◌<◌, List, [], ◌∷◌, ◌++◌, set, Option, Some, None, refl, sym, ap, ◌∙◌, subst}
use Rattle.std.specs.Prelude.{All, fold, option_map}
use Rattle.std.specs.Option.{option_map_or}
use Rattle.std.proofs.lemmas.List.Elements.{All-cons, All-head, All-nil, All-tail}
use Rattle.model_line.specs.Event as line
use Rattle.model_line.specs.declared.config.Config.{Config}
use Rattle.model_card.specs.Card.{Card}
use Rattle.model_card.specs.Event as frames
use Rattle.model_card.specs.Machine as machine
use Rattle.model_card.specs.Run.{IsAtLine}
use Rattle.model_card.specs.Sound.{IsSound}
use Rattle.model_card.proofs.CardSound.{after_is_sound}
use Rattle.model_card.specs.ports.Card.{OctetCard, answer_to, card_after, port_at}
unfoldable use Rattle.model_card.specs.ports.Card.{after, answer, meant}
use Rattle.model_card.specs.ports.Event.{Event}
use Rattle.model_card.specs.ports.Port as port
use Rattle.model_card.specs.ports.Port.{Answer, Port}
use Rattle.model_card.specs.ports.Run.{Run, one_more, AreAtLines}
use Rattle.model_card.proofs.OfPorts.Steps.{config_after}
use Rattle.model_image.specs.Laws.{AreSameCards}
use Rattle.model_image.specs.Restored.{AreSameOctetCards, OctetCardGoesOn}
use Rattle.model_image.proofs.GoOnCards.{cards_go_on}
use Rattle.lapd_image.proofs.Reading.{heads}

-- ---- one event of frames

pub record GoesOnce (e : frames.Event) (a b : Card) : Type 0 where
  pub answers : machine.answer e a ≡ machine.answer e b
  pub cards : AreSameCards (machine.after e a) (machine.after e b)
  pub sound : IsSound (machine.after e a)
  pub also : IsSound (machine.after e b)

pub frames-once : (e : frames.Event) (a b : Card) → IsSound a → IsSound b → AreSameCards a b → e.line < a.config.lines → GoesOnce e a b
frames-once e a b sound also same here =
    let run = cards_go_on a b (e ∷ []) sound also same (All-cons (IsAtLine a) e [] here (All-nil (IsAtLine a))) in
    record {
      answers = ap (λ (p : ℕ × line.Answer). p.1) (heads run.replies);
      cards = run.then_same;
      sound = after_is_sound a e sound here;
      also = after_is_sound b e also (subst (λ (c : Config). e.line < c.lines) same.config here);
    }

-- Two cards of frames, as they are led to.
record Led (x y : Card) : Type 0 where
  pub cards : AreSameCards x y
  pub sound : IsSound x
  pub also : IsSound y

-- ---- what an event means, if anything

module _ (a b : Card) (number : ℕ) (sound : IsSound a) (also : IsSound b) (same : AreSameCards a b) (here : number < a.config.lines) where
  abbrev meaning : Option line.Event → Option frames.Event
  meaning q = option_map (frames.at number) q

  said-same : (q : Option line.Event) → option_map (answer_to a) (meaning q) ≡ option_map (answer_to b) (meaning q)
  said-same None = refl
  said-same (Some what) = ap Some (frames-once (frames.at number what) a b sound also same here).answers

  led : (q : Option line.Event) → Led (option_map_or (card_after a) (meaning q) a) (option_map_or (card_after b) (meaning q) b)
  led None = record { cards = same; sound = sound; also = also }
  led (Some what) = let once = frames-once (frames.at number what) a b sound also same here in record { cards = once.cards; sound = once.sound; also = once.also }

-- ---- one event of octets

pub record OctetsGoOnce (e : Event) (m n : OctetCard) : Type 0 where
  pub answers : answer e m ≡ answer e n
  pub cards : AreSameOctetCards (after e m) (after e n)
  pub sound : IsSound (after e m).card
  pub also : IsSound (after e n).card

module _ (e : Event) (a b : Card) (ports : List Port) (sound : IsSound a) (also : IsSound b) (same : AreSameCards a b) (here : e.line < a.config.lines) where
  abbrev with_ports : Card → OctetCard
  with_ports card = record { card = card; ports = ports }

  abbrev p : Port
  p = port_at e.line (with_ports a)

  abbrev heard : Config → Option line.Event
  heard c = port.meant c.n201 e.what p

  says : option_map (answer_to a) (option_map (frames.at e.line) (heard a.config)) ≡ option_map (answer_to b) (option_map (frames.at e.line) (heard b.config))
  says =
      said-same a b e.line sound also same here (heard a.config)
      ∙ ap (λ (c : Config). option_map (answer_to b) (option_map (frames.at e.line) (heard c))) same.config

  on : Led (option_map_or (card_after a) (option_map (frames.at e.line) (heard a.config)) a) (option_map_or (card_after b) (option_map (frames.at e.line) (heard b.config)) b)
  on =
      subst (λ (c : Config). Led (option_map_or (card_after a) (option_map (frames.at e.line) (heard a.config)) a)
      (option_map_or (card_after b) (option_map (frames.at e.line) (heard c)) b)) same.config (led a b e.line sound also same here (heard a.config))

  with-ports : OctetsGoOnce e (with_ports a) (with_ports b)
  unfolding after answer meant
  with-ports = record {
    answers = ap (λ s. port.answer e.what s p) says;
    cards = record { cards = on.cards; ports = ap (λ s. set ports e.line (port.after e.what s p)) says };
    sound = on.sound;
    also = on.also;
  }

pub octets-once : (e : Event) (m n : OctetCard) → IsSound m.card → IsSound n.card → AreSameOctetCards m n → e.line < m.card.config.lines → OctetsGoOnce e m n
octets-once e m n sound also same here =
    subst (λ (ports : List Port). OctetsGoOnce e m (record { card = n.card; ports = ports })) same.ports (with-ports e m.card n.card m.ports sound also same.cards here)

-- ---- a run

octets-from : (events : List Event) (m n : OctetCard) (rs qs : List (ℕ × Answer)) → rs ≡ qs → IsSound m.card → IsSound n.card → AreSameOctetCards m n → AreAtLines m events
    → let r : Run = fold one_more (record { card = m; replies = rs }) events in let q : Run = fold one_more (record { card = n; replies = qs }) events in
    (r.replies ≡ q.replies) × AreSameOctetCards r.card q.card
octets-from [] m n rs qs said sound also same at = (said, same)
octets-from (e ∷ events) m n rs qs said sound also same at =
    let once = octets-once e m n sound also same (All-head (λ (x : Event). x.line < m.card.config.lines) e events at) in
    octets-from events (after e m) (after e n) _ _ (λ i. said i ++ (e.line, once.answers i) ∷ []) once.sound once.also once.cards
    (subst (λ (c : Config). All (λ (x : Event). x.line < c.lines) events) (sym (config_after m e)) (All-tail (λ (x : Event). x.line < m.card.config.lines) e events at))

pub octets_go_on : (m n : OctetCard) (events : List Event) → IsSound m.card → IsSound n.card → AreSameOctetCards m n → AreAtLines m events → OctetCardGoesOn m n events
octets_go_on m n events sound also same at =
    let run = octets-from events m n [] [] refl sound also same at in
    record { replies = run.0; then_same = run.1 }
