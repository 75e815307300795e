-- What is done on a circuit of octets is, at the cards of frames inside, done on a wire of frames.
use Rattle.laws_order.proofs.Vocabulary.{arith, ◌≡◌, ℕ, ◌<◌, Bool, true, false, cond, List, [], ◌∷◌, ◌++◌, length, drop, Option, None, Some, is_some, option_map, option_to_list, refl, sym, ap, ◌∙◌, subst, append-nil, All, option_map_or, get_or-set_same, All-append, All-head, All-nil, All-tail, Service, AreOctets, Config, came, NextFrame, said, answer_to, frames_among, octet_pulled, Port}
use Rattle.laws_order.proofs.Vocabulary.{fresh_port, answer_of, gained, given_in, is_due, item_of, next_octet, with_item, with_octet, IsSoundPort, contents_given, Endpoint, Wire, doing-append, Request, IsInRange, IsTalkOf, IsTalk, StreamEvent, port_pull, port_request, PortEvent, port_octet, port_after, port_told, card_answer, IsCall}
use Rattle.model_line.specs.Event as line
unfoldable use Rattle.model_line.specs.Machine.{answer as line_answer, takes_slot}
use Rattle.model_card.specs.Event as frames
unfoldable use Rattle.model_card.specs.ports.Card.{after, answer, meant}
use Rattle.model_card.specs.ports.Event.{at}
use Rattle.laws_wire.specs.Wire as wire
unfoldable use Rattle.laws_wire.specs.Wire.{doing_all as frames_done}
use Rattle.laws_order.specs.circuit.Circuit.{Endpoint as OctetEndpoint, port_of, happens, with_first_of, Circuit, Step as OctetStep, requests as octet_requests, sends as octet_sends, receives as octet_receives, StepAt as OctetStepAt, at_near, at_far, acting, turned, doing}
unfoldable use Rattle.laws_order.specs.circuit.Circuit.{doing_all}
use Rattle.laws_order.proofs.OfCircuit.AsFrames.{as_endpoint, meaning, if_meant, heard-as, asked-as, pulled-as}
use Rattle.laws_order.proofs.OfCircuit.OneWay.{Carries, one-given, one-put, none-heard, one-heard}
use Rattle.laws_order.proofs.OfCircuit.Ran.{Ran, goes-on, config, within-ports, sound-port, on-line, gives-octets}

-- ---- what is meant

-- A circuit as a wire, with the frames on their way.
abbrev pub as_wire : List (List ℕ) → List (List ℕ) → Circuit → Wire
as_wire there back w = record { near = as_endpoint there w.near; far = as_endpoint back w.far }

-- A request is a request; a pull gives a frame where an item is due; an octet that ends something brings a frame.
abbrev pub hearing_means : List ℕ → OctetEndpoint → Option wire.Step
hearing_means [] s = None
hearing_means (value ∷ more) s = cond (is_some (gained s.card.card.config.n201 (port_of s).received value)) (Some wire.receives) None

abbrev pub act_meant : OctetStep → Circuit → Option wire.Step
act_meant (octet_requests r) w = Some (wire.requests r)
act_meant octet_sends w = cond (is_due (port_of w.near)) (Some wire.sends) None
act_meant octet_receives w = hearing_means w.far.way w.near

abbrev pub doing_meant : OctetStepAt → Circuit → Option wire.StepAt
doing_meant (at_near act) w = option_map wire.at_near (act_meant act w)
doing_meant (at_far act) w = option_map wire.at_far (act_meant act (turned w))

unfoldable pub doings_meant : List OctetStepAt → Circuit → List wire.StepAt
doings_meant [] w = []
doings_meant (d ∷ ds) w = option_to_list (doing_meant d w) ++ doings_meant ds (doing d w)

abbrev pub if_acted : Option wire.Step → Wire → Wire
if_acted None f = f
if_acted (Some act) f = wire.acting act f

-- ---- a port after an event

pub port-after : (s : OctetEndpoint) (what : PortEvent) → s.line < length s.card.ports → port_of (happens what s) ≡ port_after what (said (at s.line what) s.card) (port_of s)
unfolding after
port-after s what within = get_or-set_same s.card.ports s.line (port_after what (said (at s.line what) s.card) (port_of s)) fresh_port within

same-way : (way : List ℕ) (o : Option line.Answer) → way ++ octet_pulled (option_map_or answer_of o (port_told line.nothing)) ≡ way
same-way way o = ap (λ l. way ++ l) (grind arith) ∙ append-nil way

pub asked-way : (r : Request) (s : OctetEndpoint) → (happens (port_request r) s).way ≡ s.way
unfolding answer
asked-way r s = same-way s.way (said (at s.line (port_request r)) s.card)

pub heard-way : (value : ℕ) (s : OctetEndpoint) → (happens (port_octet value) s).way ≡ s.way
unfolding answer
heard-way value s = same-way s.way (said (at s.line (port_octet value)) s.card)

same-received : (o : Option line.Answer) (p : Port) → (with_octet (with_item o p)).received ≡ p.received
same-received o p = grind arith

-- ---- one way, where ports stay in part

module _ (n201 : ℕ) where
  moved : (p q : Port) (way way' received received' : List ℕ) (frames : List (List ℕ)) → p ≡ q → way ≡ way' → received ≡ received' → Carries n201 q way' received' frames → Carries n201 p way received frames
  moved p q way way' received received' frames same way-same received-same h = grind (arith, Carries)

  -- what a call for the next frame puts on the line
  frame-put : (g : Option NextFrame) → frames_among (item_of g ∷ []) ≡ wire.frames_by (line.gave g)
  frame-put g = grind arith

  octets-put : (g : Option NextFrame) → ((f : NextFrame) → g ≡ Some f → AreOctets f.octets) → All AreOctets (frames_among (item_of g ∷ []))
  octets-put g h = grind arith

  pub record Fits (c : Config) : Type 0 where
    pub ranged : IsInRange c
    pub size : c.n201 ≡ n201

  -- Two ends that ran, and what is on its way between them.
  pub record Follows (c d : Config) (w : Circuit) (there back : List (List ℕ)) : Type 0 where
    pub near : Ran c w.near
    pub far : Ran d w.far
    pub goes : Carries n201 (port_of w.near) w.near.way (port_of w.far).received there
    pub comes : Carries n201 (port_of w.far) w.far.way (port_of w.near).received back

  pub other-way : (c d : Config) (w : Circuit) (there back : List (List ℕ)) → Follows c d w there back → Follows d c (turned w) back there
  other-way c d w there back h = record { near = h.far; far = h.near; goes = h.comes; comes = h.goes }

  -- ---- one act at an end

  module _ (c d : Config) (fits : Fits c) (fits_far : Fits d) (w : Circuit) (there back : List (List ℕ)) (h : Follows c d w there back) where
    pub record Acted (act : Option wire.Step) (w' : Circuit) : Type 0 where
      pub there' : List (List ℕ)
      pub back' : List (List ℕ)
      pub follows : Follows c d w' there' back'
      pub same : if_acted act (as_wire there back w) ≡ as_wire there' back' w'

    abbrev near : OctetEndpoint
    near = w.near

    abbrev far : OctetEndpoint
    far = w.far

    inside : near.line < length near.card.ports
    inside = within-ports c fits.ranged near h.near

    n201-is : near.card.card.config.n201 ≡ n201
    n201-is = ap (λ (x : Config). x.n201) (config c fits.ranged near h.near) ∙ fits.size

    abbrev with_ends : Endpoint → Endpoint → Wire
    with_ends x y = record { near = x; far = y }

    abbrev with-near : Endpoint → Wire
    with-near x = with_ends x (as_endpoint back far)

    asked-one : (r : Request) → AreOctets (contents_given r) → Acted (Some (wire.requests r)) (acting (octet_requests r) w)
    asked-one r octets =
        let s = happens (port_request r) near in
        let same = port-after near (port_request r) inside in
        record {
          there' = there;
          back' = back;
          follows = record {
            near = goes-on c near (port_request r) octets h.near;
            far = h.far;
            goes = moved (port_of s) (port_of near) s.way near.way (port_of far).received (port_of far).received there same (asked-way r near) refl h.goes;
            comes = moved (port_of far) (port_of far) far.way far.way (port_of s).received (port_of near).received back refl refl (ap (λ (p : Port). p.received) same) h.comes;
          };
          same = ap with-near (sym (asked-as r near there));
        }

    -- ---- a pull

    pulled-meant : (due : Bool) → if_acted (cond due (Some wire.sends) None) (as_wire there back w) ≡ with-near (if_meant (cond due (Some line.next) None) (as_endpoint there near))
    pulled-meant due = grind arith

    pulled-goes : (due : Bool) → let o : Option line.Event = cond due (Some line.next) None in
        let q = with_item (option_map (answer_to near.card.card) (option_map (frames.at near.line) o)) (port_of near) in
        Carries n201 (with_octet q) (near.way ++ next_octet q ∷ []) (port_of far).received (if_meant o (as_endpoint there near)).way
    unfolding line_answer takes_slot
    pulled-goes true =
        let g = given_in (card_answer (frames.at near.line line.next) near.card.card) in
        let q : Port = record (port_of near) { items = (port_of near).items ++ item_of g ∷ [] } in
        subst (λ frames. Carries n201 (with_octet q) (near.way ++ next_octet q ∷ []) (port_of far).received (there ++ frames)) (frame-put g)
        (one-given n201 q near.way (port_of far).received (there ++ frames_among (item_of g ∷ []))
        (one-put n201 (port_of near) near.way (port_of far).received there h.goes (item_of g)
        (octets-put g (λ f is. gives-octets c fits.ranged near h.near f (ap line.gave is))))
        (next_octet q))
    pulled-goes false = one-given n201 (port_of near) near.way (port_of far).received there h.goes (next_octet (port_of near))

    pulled-one : Acted (act_meant octet_sends w) (acting octet_sends w)
    unfolding answer meant
    pulled-one =
        let s = happens port_pull near in
        let x = if_meant (meaning port_pull near) (as_endpoint there near) in
        let after-it = port-after near port_pull inside in
        record {
          there' = x.way;
          back' = back;
          follows = record {
            near = goes-on c near port_pull tt h.near;
            far = h.far;
            goes = subst (λ p. Carries n201 p s.way (port_of far).received x.way) (sym after-it) (pulled-goes (is_due (port_of near)));
            comes = grind (arith, moved, same-received);
          };
          same = pulled-meant (is_due (port_of near)) ∙ ap with-near (sym (pulled-as near there));
        }

    -- ---- an octet is heard

    abbrev hearing : List ℕ → Circuit
    hearing way = record { near = with_first_of way near; far = record far { way = drop 1 way } }

    heard-none : far.way ≡ [] → Acted None (hearing [])
    heard-none empty = grind arith

    heard-one : (value : ℕ) (more : List ℕ) (o : Option StreamEvent) → far.way ≡ value ∷ more → gained n201 (port_of near).received value ≡ o
        → Acted (cond (is_some o) (Some wire.receives) None) (hearing (value ∷ more))
    heard-one value more o is what = go o what
      where
        s : OctetEndpoint
        s = happens (port_octet value) near

        after-it : port_of s ≡ record (port_of near) { received = (port_of near).received ++ value ∷ [] }
        after-it = port-after near (port_octet value) inside

        ran : Ran c s
        ran = goes-on c near (port_octet value) tt h.near

        as-heard : (o : Option StreamEvent) → gained n201 (port_of near).received value ≡ o → as_endpoint there s ≡ if_meant (option_map line.hears o) (as_endpoint there near)
        as-heard o e = grind (arith, heard-as, if_meant, option_map, as_endpoint, n201-is)

        goes : Carries n201 (port_of s) s.way (port_of far).received there
        goes =
            moved (port_of s) (record (port_of near) { received = (port_of near).received ++ value ∷ [] }) s.way near.way (port_of far).received (port_of far).received there after-it (heard-way value near) refl
            (record { given = h.goes.given; are = h.goes.are; octets = h.goes.octets })

        comes : (frames : List (List ℕ)) → Carries n201 (port_of far) more ((port_of near).received ++ value ∷ []) frames → Carries n201 (port_of far) more (port_of s).received frames
        comes frames x = subst (λ received. Carries n201 (port_of far) more received frames) (sym (ap (λ (p : Port). p.received) after-it)) x

        go : (o : Option StreamEvent) → gained n201 (port_of near).received value ≡ o → Acted (cond (is_some o) (Some wire.receives) None) (hearing (value ∷ more))
        go None e = record {
          there' = there;
          back' = back;
          follows = grind (arith, ran, goes, comes, none-heard);
          same = ap with-near (sym (as-heard None e));
        }
        go (Some event) e =
            let x =
            one-heard n201 (port_of far) far.way (port_of near).received back h.comes (subst (λ n. IsSoundPort n (port_of far)) fits_far.size (sound-port d fits_far.ranged far h.far))
            (on-line d fits_far.ranged far h.far) value more event is e in
            record {
              there' = there;
              back' = x.rest;
              follows = record { near = ran; far = (record { within = h.far.within; events = h.far.events; at_lines = h.far.at_lines; is = h.far.is; exact = h.far.exact }); goes = goes; comes = comes x.rest x.carries };
              same =
                  ap (λ fs. with_ends (wire.with_first_of fs (as_endpoint there near)) ((λ (fs : List (List ℕ)). as_endpoint (drop 1 fs) far) fs)) x.frames_are
                  ∙ ap (λ e. with_ends (wire.happens (line.hears e) (as_endpoint there near)) (as_endpoint x.rest far)) (ap (λ n. came n x.first) n201-is ∙ x.whole ∙ sym x.event)
                  ∙ ap (λ s. with_ends s (as_endpoint x.rest far)) (sym (as-heard (Some event) e));
            }

    pub one-act : (service : Service) (tei : ℕ) (act : OctetStep) → IsTalkOf service tei act → Acted (act_meant act w) (acting act w)
    one-act service tei (octet_requests r) is = asked-one r (grind arith)
    one-act service tei octet_sends is = pulled-one
    one-act service tei octet_receives is = grind (arith, heard-none, is_some, n201-is, heard-one)

  -- ---- all that is done

  module _ (service : Service) (tei : ℕ) (c d : Config) (fits : Fits c) (fits_far : Fits d) where
    pub record Done (ds : List wire.StepAt) (w : Circuit) (there back : List (List ℕ)) (w' : Circuit) : Type 0 where
      pub there' : List (List ℕ)
      pub back' : List (List ℕ)
      pub follows : Follows c d w' there' back'
      pub same : wire.doing_all ds (as_wire there back w) ≡ as_wire there' back' w'
      pub talk : All (IsCall service tei) ds

    by-near : (o : Option wire.Step) (f : Wire) → wire.doing_all (option_to_list (option_map wire.at_near o)) f ≡ if_acted o f
    unfolding frames_done
    by-near o f = grind arith

    by-far : (o : Option wire.Step) (f : Wire) → wire.doing_all (option_to_list (option_map wire.at_far o)) f ≡ wire.turned (if_acted o (wire.turned f))
    unfolding frames_done
    by-far o f = grind arith

    pub one-done : (x : OctetStepAt) → IsTalk service tei x → (w : Circuit) (there back : List (List ℕ)) → Follows c d w there back → Done (option_to_list (doing_meant x w)) w there back (doing x w)
    one-done (at_near act) is w there back h =
        let one = one-act c d fits fits_far w there back h service tei act is in
        record { there' = one.there'; back' = one.back'; follows = one.follows; same = by-near (act_meant act w) (as_wire there back w) ∙ one.same; talk = grind arith }
    one-done (at_far act) is w there back h =
        let one = one-act d c fits_far fits (turned w) back there (other-way c d w there back h) service tei act is in
        record {
          there' = one.back';
          back' = one.there';
          follows = other-way d c (acting act (turned w)) one.there' one.back' one.follows;
          same = by-far (act_meant act (turned w)) (as_wire there back w) ∙ ap wire.turned one.same;
          talk = grind arith;
        }

    pub all-done : (ds : List OctetStepAt) → All (IsTalk service tei) ds → (w : Circuit) (there back : List (List ℕ)) → Follows c d w there back → Done (doings_meant ds w) w there back (doing_all ds w)
    unfolding doing_all doings_meant frames_done
    all-done [] all w there back h = record { there' = there; back' = back; follows = h; same = refl; talk = All-nil (IsCall service tei) }
    all-done (x ∷ ds) all w there back h =
        let one = one-done x (All-head (IsTalk service tei) x ds all) w there back h in
        let rest = all-done ds (All-tail (IsTalk service tei) x ds all) (doing x w) one.there' one.back' one.follows in
        let first = option_to_list (doing_meant x w) in
        let others = doings_meant ds (doing x w) in
        record {
          there' = rest.there';
          back' = rest.back';
          follows = rest.follows;
          same = doing-append first others (as_wire there back w) ∙ ap (wire.doing_all others) one.same ∙ rest.same;
          talk = All-append (IsCall service tei) first others one.talk rest.talk;
        }
