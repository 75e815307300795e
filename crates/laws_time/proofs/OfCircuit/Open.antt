-- What is under way from an end, and until when T200 runs there: after each event.
use Rattle.laws_time.proofs.Vocabulary.{all-right, All, All-head, All-tail, AllByRecursion, Bool, Config, Control, ControlFrame, IsInRange, IsWaitingFrame, Item, Link, LinkEvent, LinkIsSound, List, OctetEndpoint, Parts, Service, StationStands, [], ap, arith, as_endpoint, as_heard, bits, event-follows, false, few-left, frame, inl, inr, is_final, item_text, left_of, length, length-append}
use Rattle.laws_time.proofs.Vocabulary.{length-bits, length-check, length-map, link-sound, link_cleared as cleared, list_any, longest_text, map, map-append, offer, or-none, own_side, parts_of, port_of, put, reading, refl, room, spelling, subst, sym, take, terms, true, true≢false, ℕ, ◌*◌, ◌++◌, ◌+◌, ◌/◌, ◌∙◌, ◌∷◌, ◌≡◌, ◌≤◌}
use Rattle.lapd_frame.proofs.Naming.{reading-again}
use Rattle.model_bits.specs.Stuffing.{stuffed}
use Rattle.model_link.specs.Link.{frame_of}
use Rattle.model_link.specs.Machine as links
use Rattle.laws_time.specs.circuit.LongEnough.{is_of}
use Rattle.laws_time.proofs.OfCircuit.Sender.{asks, Sends, IsIn, text_length, wait-more, sends-with, sends-on, Takes, WaitIn, text, Took}
use Rattle.laws_time.proofs.OfCircuit.Standing.{Ends, Pulled, pulls, bare, fine}

-- A control frame takes at most 72 bits.
pub stuffed-longest : (b : List Bool) → 5 * length (stuffed b) ≤ 6 * length b
stuffed-longest [] = omega arith
stuffed-longest (true ∷ true ∷ true ∷ true ∷ true ∷ b) = let more = stuffed-longest b in omega (arith, more)
stuffed-longest (x ∷ b) = let more = stuffed-longest b in omega (arith, more)

pub short-text : (octets : List ℕ) → length octets ≤ 4 → length (item_text (frame octets)) ≤ 72
short-text octets few = grind (arith, stuffed-longest, length-append, length-bits, length-check)

abbrev pub IsOrdinary : LinkEvent → Type 0
IsOrdinary offer = ⊥
IsOrdinary cleared = ⊥
IsOrdinary other = Unit {0}

module _ (c : Config) (service : Service) (tei place : ℕ) (ranged : IsInRange c) where
  abbrev pub ring : Link → List (List ℕ)
  ring l = map (text c service tei) l.waiting

  abbrev pub half : ℕ
  half = longest_text c.n201 / 8 + 9 * c.control

  -- What is put by an event comes at the end.
  pub waiting-then : (e : LinkEvent) (l : Link) → IsOrdinary e
      → (links.after (terms c service tei) e l).waiting ≡ l.waiting ++ take (room (terms c service tei) l) (put (as_heard (terms c service tei) e) l (links.after (terms c service tei) e l).state)
  waiting-then e l h1z = grind (arith, event-follows)

  -- A frame that waits is read as it is.
  module _ (kind : Bool → Control → Bool) where
    pub text-kind : (f : ControlFrame) → IsWaitingFrame (terms c service tei) f → is_of kind c (text c service tei f) ≡ kind f.command f.control
    text-kind f w =
        ap (λ r. list_any (λ (f : Parts). kind f.address.command f.control) (parts_of r))
        (reading-again (own_side c) (frame_of (terms c service tei) f) (text c service tei f) (record { is_frame = w.is_frame; octets_are = refl })) ∙ or-none (kind f.command f.control)

    none-in : (fs : List ControlFrame) → All (IsWaitingFrame (terms c service tei)) fs → AllByRecursion (λ f. kind f.command f.control ≡ false) fs → (o : List ℕ) → IsIn o (map (text c service tei) fs) → is_of kind c o ≡ true → ⊥
    none-in [] all none o has is = absurd has
    none-in (f ∷ fs) all none o (inl same) is = true≢false (sym is ∙ ap (is_of kind c) (sym same) ∙ text-kind f (All-head (IsWaitingFrame (terms c service tei)) f fs all) ∙ none.0)
    none-in (f ∷ fs) all none o (inr has) is = none-in fs (All-tail (IsWaitingFrame (terms c service tei)) f fs all) none.1 o has is

    -- An end puts control frames: of the kind none, or it may do so by now.
    module _ (s u : OctetEndpoint) (h : Ends c service tei place ranged s) (k : Ends c service tei place ranged u) (most : ℕ)
        (items : (port_of u).items ≡ (port_of s).items) (given : (port_of u).given ≡ (port_of s).given) (puts : List ControlFrame) (more : k.its.waiting ≡ h.its.waiting ++ puts) where
      sound : LinkIsSound (terms c service tei) k.its
      sound = link-sound service tei place (as_endpoint [] u) (bare c service tei place ranged k.its)
          (subst (λ d. StationStands d service tei place (as_endpoint [] u) (bare c service tei place ranged k.its)) (sym k.stands.config) k.stands)

      frames : All (IsWaitingFrame (terms c service tei)) puts
      frames = all-right (IsWaitingFrame (terms c service tei)) h.its.waiting puts (subst (All (IsWaitingFrame (terms c service tei))) more sound.frames)

      ring-is : ring k.its ≡ ring h.its ++ map (text c service tei) puts
      ring-is = ap (map (text c service tei)) more ∙ map-append (text c service tei) h.its.waiting puts

      fits : length h.its.waiting + length puts ≤ c.control
      fits = let all = ap length more ∙ length-append h.its.waiting puts in let few = sound.ring in omega (arith, all, few)

      lengths : (length (ring h.its) ≡ length h.its.waiting) × (length (map (text c service tei) puts) ≡ length puts)
      lengths = (length-map h.its.waiting (text c service tei), length-map puts (text c service tei))

      text-short : text_length (port_of s).items ≤ 8 * length (port_of s).given + longest_text c.n201
      text-short =
          let p = port_of s in let all = ap length (fine c service tei place ranged s h).sound.text.text ∙ length-append (bits p.given) (left_of p) in
          let few = few-left c ranged s h.ran in omega (arith, all, length-bits p.given, few)

      pub puts-none : AllByRecursion (λ f. kind f.command f.control ≡ false) puts → Sends c.n201 (is_of kind c) most (port_of s) (ring h.its) → Sends c.n201 (is_of kind c) most (port_of u) (ring k.its)
      puts-none none s_ok =
          sends-with c.n201 (is_of kind c) most (port_of s) (port_of u) (ring h.its) (ring k.its) items given (subst (WaitIn c.n201 (is_of kind c) most (text_length (port_of s).items)) (sym ring-is)
          (wait-more c.n201 (is_of kind c) most (text_length (port_of s).items) (ring h.its) (map (text c service tei) puts) s_ok.wait (λ o has is. absurd (none-in puts frames none o has is)))) s_ok

      pub puts-by-now : length (port_of s).given + half ≤ most → Sends c.n201 (is_of kind c) most (port_of s) (ring h.its) → Sends c.n201 (is_of kind c) most (port_of u) (ring k.its)
      puts-by-now soon s_ok = let few = lengths in let room_left = fits in let short = text-short in grind (arith, sends-with, is_of, port_of, text_length, ring-is, wait-more, map, text)

    -- A pull.
    module _ (plain : (p : Parts) → (asks p.address.command p.control ≡ false) × (is_final p.address.command p.control ≡ false) → kind p.address.command p.control ≡ false)
        (s : OctetEndpoint) (h : Ends c service tei place ranged s) (most : ℕ) where
      abbrev x : Pulled c service tei place ranged s h
      x = pulls c service tei place ranged s h

      abbrev u : OctetEndpoint
      u = Rattle.laws_order.specs.circuit.Circuit.happens Rattle.model_card.specs.ports.Port.pull s

      waits : LinkIsSound (terms c service tei) h.its
      waits = link-sound service tei place (as_endpoint [] s) (bare c service tei place ranged h.its)
          (subst (λ d. StationStands d service tei place (as_endpoint [] s) (bare c service tei place ranged h.its)) (sym h.stands.config) h.stands)

      takes : (new : List Item) (ws now : List ControlFrame) → All (IsWaitingFrame (terms c service tei)) ws → Took c service tei new ws now
          → Takes c.n201 (is_of kind c) most new (map (text c service tei) ws) (map (text c service tei) now)
      takes new ws now all (inl y) = inl (y.0, ap (map (text c service tei)) y.1)
      takes new ws now all (inr (inl y)) =
          let w = All-head (IsWaitingFrame (terms c service tei)) y.0 now (subst (All (IsWaitingFrame (terms c service tei))) y.2 all) in
          inr (inl (text c service tei y.0, y.1, ap (map (text c service tei)) y.2, short-text (text c service tei y.0) w.octets))
      takes new ws now all (inr (inr y)) = grind (arith, map, text, spelling, own_side, reading, asks, is_final, is_of)

      pub pulled-on : Sends c.n201 (is_of kind c) most (port_of s) (ring h.its) → Sends c.n201 (is_of kind c) most (port_of u) (ring x.ends.its)
      pulled-on ok =
          sends-on c.n201 (is_of kind c) most (port_of s) (port_of u) x.new x.value (ring h.its) (ring x.ends.its) (fine c service tei place ranged s h)
          (fine c service tei place ranged u x.ends) x.gave (takes x.new h.its.waiting x.ends.its.waiting waits.frames x.took) ok
