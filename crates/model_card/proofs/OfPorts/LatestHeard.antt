-- What is told of the frame that was heard last: the law.
use Rattle.model_card.proofs.OfPorts.Vocabulary.{◌≡◌, ℕ, ◌<◌, false, List, [], ◌∷◌, ◌++◌, Option, None, refl, sym, ap, ◌∙◌, arith, length-replicate, get_or-replicate, All-head, All-tail, heard_in, Config, Port, after_all, fresh, fresh_port, meant_all, octets_come, port_at, Event as CardEvent}
use Rattle.std.specs.Prelude.{fold}
use Rattle.std.proofs.lemmas.List.Sums.{fold-append}
use Rattle.model_bits.specs.Stream.{Event, frame, overlong, dropped}
use Rattle.model_bits.specs.declared.heads.Head.{Head}
use Rattle.model_line.specs.Counts.{is_frame}
use Rattle.model_card.specs.ports.Codec.{heard_at}
use Rattle.model_card.specs.ports.HeadHeard.{or_heard, head_heard_at}
use Rattle.model_card.specs.ports.LatestHeard.{AreDropped, LatestHeardIsTold}
use Rattle.model_card.proofs.OfPorts.Codec.{run_goes_on}
use Rattle.model_card.proofs.OfPorts.FramesHeard.{card_heard}
use Rattle.model_card.proofs.OfPorts.Steps.{config_stays}

-- What is dropped leaves the frame before.
one_drops : (n201 : ℕ) (before : Option Head) (e : Event) → is_frame e ≡ false → or_heard n201 before e ≡ before
one_drops n201 before (frame octets) is = absurd (cc is)
one_drops n201 before (overlong head) is = absurd (cc is)
one_drops n201 before (dropped cause) is = refl

drops_leave : (n201 : ℕ) (before : Option Head) (later : List Event) → AreDropped later → fold (or_heard n201) before later ≡ before
drops_leave n201 before [] all = refl
drops_leave n201 before (e ∷ later) all =
    ap (λ o. fold (or_heard n201) o later) (one_drops n201 before e (All-head (λ e. is_frame e ≡ false) e later all))
    ∙ drops_leave n201 before later (All-tail (λ e. is_frame e ≡ false) e later all)

last_stays : (n201 : ℕ) (heard earlier later : List Event) (e : Event) → heard ≡ earlier ++ e ∷ later → AreDropped later
    → fold (or_heard n201) None heard ≡ or_heard n201 (fold (or_heard n201) None earlier) e
last_stays n201 heard earlier later e is all =
    ap (fold (or_heard n201) None) is ∙ fold-append (or_heard n201) None earlier (e ∷ later)
    ∙ drops_leave n201 (or_heard n201 (fold (or_heard n201) None earlier) e) later all

-- What is told is of what was heard there.
of_heard : (c : Config) (events : List CardEvent) (number : ℕ) → number < c.lines
    → head_heard_at number (after_all (fresh c) events) ≡ fold (or_heard c.n201) None (heard_at number (meant_all (fresh c) events))
of_heard c events number within =
    let goes = run_goes_on (fresh c) events number (omega (arith, within, length-replicate c.lines fresh_port)) in
    let fresh_is : port_at number (fresh c) ≡ fresh_port = get_or-replicate c.lines number fresh_port fresh_port within in
    let came : (port_at number (after_all (fresh c) events)).received ≡ octets_come number events =
    goes.received ∙ ap (λ (p : Port). p.received ++ octets_come number events) fresh_is in
    ap (λ (d : Config). fold (or_heard d.n201) None (heard_in d.n201 (port_at number (after_all (fresh c) events)).received)) (config_stays (fresh c) events)
    ∙ ap (λ o. fold (or_heard c.n201) None (heard_in c.n201 o)) came
    ∙ sym (ap (fold (or_heard c.n201) None) (card_heard c events number within))

pub latest_heard_is_told : LatestHeardIsTold
latest_heard_is_told c events number within =
    let heard = heard_at number (meant_all (fresh c) events) in
    let told = of_heard c events number within in
    record {
      whole = λ earlier later octets is all. told ∙ last_stays c.n201 heard earlier later (frame octets) is all;
      long = λ earlier later head is all. told ∙ last_stays c.n201 heard earlier later (overlong head) is all;
      none = λ all. told ∙ drops_leave c.n201 None heard all;
    }
