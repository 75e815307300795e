-- What an event of a line leaves of the contents that a link keeps.
use Rattle.laws_trace.proofs.Vocabulary.{◌≡◌, ℕ, ◌%◌, Bool, true, false, cond, not, List, [], ◌∷◌, ◌++◌, ◌&&◌, ◌||◌, drop, Some, None, refl, sym, ap, ◌∙◌, subst, ◌⊎◌, inr, arith, append-nil, All, is_some, list_any, All-head, All-tail, none-some, Note, Service, place_of-is, is_on-at, not_not, accepted, ends, gives_up, LinkEstablish, Establish, tells_loss, empties, Terms, Link, is_multiple_frame}
use Rattle.laws_trace.proofs.Vocabulary.{queue_of, state_number}
use Rattle.laws_trace.proofs.Vocabulary.{notes-own, Config, at_link, Answer, request, next, Line, has_tei, link_of, place_in, terms, aim_of, Deactivate, at_requested, at_deactivated, aim_of_request, IsInRange, terms_in_range, notes_of, is_loss_of, is_granted, link-grants, not-refused, fresh_link, refusal, Request, Release, IsSound, of_link, brings, is_news, is_sabme, steps, seen, is_up}
use Rattle.laws_trace.proofs.Vocabulary.{link_after as after, link_told as told, Event, cond_both, LinkRequest, requested, LinkRelease, LinkData, cleared, line_after, answer}
use Rattle.model_link.specs.Requests as requests
use Rattle.model_link.specs.Sound as link_sound
use Rattle.laws_trace.proofs.LineAtEnd.{link-at-end}
use Rattle.laws_trace.proofs.DataAsked as asks
use Rattle.laws_trace.proofs.DataAsked.{no-data, only-requested, only-offered, granted-data}
use Rattle.laws_trace.proofs.DataOfLink.{none-accepted}
use Rattle.laws_trace.proofs.KeptOfLink.{went_by, none-left, some-left, own-losses}
use Rattle.laws_trace.proofs.LinkLed.{own-is, elsewhere}
use Rattle.laws_trace.proofs.NewsOfOthers.{others-silent}
use Rattle.laws_trace.proofs.NewsRows.{sabme_of}
use Rattle.laws_trace.proofs.NewsSeen.{one-begins}
use Rattle.laws_trace.proofs.ObservedFacts.{brings-is}
use Rattle.laws_trace.proofs.OfferTells.{offer-tells_nothing}
use Rattle.laws_trace.proofs.OneLink.{is_at_link, HasOne, HasNone, Goes, event-goes}
use Rattle.laws_trace.proofs.PlacesSeen.{gives_up_of, granted_in, lost_in, told-grants, asked-grants, heard-loses, expiry-loses, asked-loses, own-release}
use Rattle.laws_trace.proofs.TimersOfEvent.{off-fresh}
use Rattle.laws_trace.proofs.TimersWatched as known
use Rattle.laws_trace.proofs.Facts.{number-up}
use Rattle.laws_trace.proofs.Vocabulary.{inl, inr}

either-false : (b : Bool) → cond b false false ≡ false
either-false b = grind arith

pub still : (anew : Bool) (k : Link) → went_by anew k k ≡ 0
still anew k = cond_both (is_up (state_number k.state) && is_up (state_number k.state) && not anew) (steps (k.a % 128) (k.a % 128)) 0 (λ n. n ≡ 0) (λ up. omega arith) (λ down. refl)

-- What is left of what a link keeps.
abbrev pub left : Bool → Bool → Link → Link → List (List ℕ) → List (List ℕ)
left lost anew k x more = cond lost [] (cond (is_up (state_number k.state)) (drop (went_by anew k x) (queue_of k) ++ more) (queue_of k))

-- What an event of the link accepts is what is granted, and exactly where it leaves nothing layer 3 learns it.
module _ (c : Config) (ranged : IsInRange c) (l : Line) (s : IsSound c l) (service : Service) (tei : ℕ) where
  abbrev own_terms : Terms
  own_terms = terms c service tei

  abbrev own : Link
  own = link_of service tei l

  abbrev One : Event → Type 0
  One e = HasOne c service tei e l (line_after c e l) (answer c e l)

  pub accepted-asked : (e : Event) → (x : One e) → accepted own_terms x.event own ≡ granted_in service tei (seen e (answer c e l))
  accepted-asked (request r) x = grind (arith, only-requested, granted-data, not-full, asked-grants)
    where
      not-full : (what : LinkRequest) (full : Bool) (contents : List ℕ) → what ≡ LinkData contents → x.event ≡ requested what full → r ≡ of_link service tei what
          → is_granted (answer c (request r) l) ≡ true
          → (request r ≡ next) ⊎ (aim_of c (request r) l ≡ at_link service tei x.place x.event) → requests.refusal own_terms own full (LinkData contents) ≡ None
      not-full what full contents is event asked g o = grind (arith, not-refused, link-grants)
  accepted-asked e x = grind (arith, only-offered, no-data, told-grants)

  noted : (e : Event) → (x : One e) → list_any (is_loss_of service tei) (notes_of (answer c e l)) ≡ tells_loss (told own_terms x.event own).notes
  noted e x =
      ap (list_any (is_loss_of service tei)) x.notes ∙ sym (own-losses own_terms (told own_terms x.event own).notes (notes-own own_terms x.event own))

  -- a release that the line grants its link does not refuse, nor an establishment
  opened : (place : ℕ) → place_in l tei ≡ Some place → refusal c false (Establish service tei) l ≡ None → (full : Bool) → requests.refusal own_terms own full LinkEstablish ≡ None
  opened place on none full = grind (arith, not_not)

  served : (place : ℕ) → place_in l tei ≡ Some place → refusal c false (Release service tei) l ≡ None → (full : Bool) → requests.refusal own_terms own full LinkRelease ≡ None
  served place on none full = grind (arith, not_not)

  released : (what : LinkRequest) (full : Bool) → (what ≡ LinkEstablish → requests.refusal own_terms own full LinkEstablish ≡ None) → (what ≡ LinkRelease → requests.refusal own_terms own full LinkRelease ≡ None)
      → gives_up what ≡ ends own_terms (requested what full) own
  released what full g h = grind (arith, is_some, either-false)

  pub lost-is : (e : Event) → (x : One e) → lost_in service tei (seen e (answer c e l)) ≡ empties own_terms x.event own
  lost-is (request r) x =
      let y = only-requested c r (answer c (request r) l) service tei x.event x.by in
      let ns = notes_of (answer c (request r) l) in
      asked-loses service tei r (answer c (request r) l)
      ∙ ap (λ b. cond b (gives_up_of service tei r || list_any (is_loss_of service tei) ns) false) y.4
      ∙ ap (λ b. b || list_any (is_loss_of service tei) ns)
      (ap (gives_up_of service tei) y.3 ∙ own-release service tei y.0
      ∙ released y.0 y.1 (λ is. opened x.place x.placed (subst (λ r. refusal c false r l ≡ None) (y.3 ∙ ap (of_link service tei) is) (not-refused c r l y.4)) y.1) (λ is. served x.place x.placed (subst (λ r. refusal c false r l ≡ None) (y.3 ∙ ap (of_link service tei) is) (not-refused c r l y.4)) y.1)
      ∙ sym (ap (λ le. ends own_terms le own) y.2)) ∙ ap (λ b. ends own_terms x.event own || b) (noted (request r) x)
  lost-is e x = grind (arith, heard-loses, noted, told, expiry-loses, only-offered, offer-tells_nothing)

  -- No event of the link grants it data.
  pub none-granted : (e : Event) → HasNone c service tei e l (line_after c e l) (answer c e l) → granted_in service tei (seen e (answer c e l)) ≡ []
  none-granted other x = grind (arith, asked-grants, cond_both, asks.elsewhere, told-grants, answer)

  -- and none loses what it keeps, while its TEI stays
  module _ (place : ℕ) (on : place_in l tei ≡ Some place) where
    none-asked : (r : Request) → is_at_link service tei (aim_of_request r l) ≡ false → gives_up_of service tei r ≡ false
    none-asked (Establish its by) aims = elsewhere c service tei known.nothing_yet l place on its by (requested LinkEstablish false) (at_requested its by LinkEstablish) (λ p. refl) aims
    none-asked (Release its by) aims = elsewhere c service tei known.nothing_yet l place on its by (requested LinkRelease false) (at_requested its by LinkRelease) (λ p. refl) aims
    none-asked (Deactivate its by) aims = elsewhere c service tei known.nothing_yet l place on its by cleared (at_deactivated its by) (λ p. refl) aims
    none-asked other aims = refl

    no-note : (ns : List Note) → All (λ n. is_news service tei n ≡ false) ns → list_any (is_loss_of service tei) ns ≡ false
    no-note [] all = refl
    no-note (n ∷ ns) all =
        ap (λ b. b || list_any (is_loss_of service tei) ns) (no-loss n (All-head (λ n. is_news service tei n ≡ false) n ns all))
        ∙ no-note ns (All-tail (λ n. is_news service tei n ≡ false) n ns all)
      where
        no-loss : (n : Note) → is_news service tei n ≡ false → is_loss_of service tei n ≡ false
        no-loss n none = grind arith

    pub none-lost : (e : Event) → is_at_link service tei (aim_of c e l) ≡ false → has_tei tei (line_after c e l) ≡ true → lost_in service tei (seen e (answer c e l)) ≡ false
    none-lost e aims there = go e aims (no-note (notes_of (answer c e l)) (others-silent service tei c e l s aims (inr there)))
      where
        go : (e : Event) → is_at_link service tei (aim_of c e l) ≡ false → list_any (is_loss_of service tei) (notes_of (answer c e l)) ≡ false
            → lost_in service tei (seen e (answer c e l)) ≡ false
        go e aims none = grind (arith, heard-loses, expiry-loses, asked-loses, gives_up_of, none-asked, is_at_link, not-refused)

-- One event of a line.
module _ (c : Config) (ranged : IsInRange c) (l : Line) (s : IsSound c l) (service : Service) (tei : ℕ) (e : Event) where
  abbrev a : Answer
  a = answer c e l

  abbrev new : Line
  new = line_after c e l

  abbrev t : Terms
  t = terms c service tei

  abbrev k : Link
  k = link_of service tei l

  abbrev k' : Link
  k' = link_of service tei (line_after c e l)

  abbrev anew : Bool
  anew = brings is_sabme c service tei e

  abbrev Left : Type 0
  Left = queue_of k' ≡ left (lost_in service tei (seen e a)) anew k k' (granted_in service tei (seen e a))

  -- No event of the link.
  none-left-so : (x : HasNone c service tei e l new a) → (p q : ℕ) → place_in l tei ≡ Some p → place_in new tei ≡ Some q → Left
  none-left-so x p q on there =
      let same = x.stays (is_on-at l.management.places p tei (place_of-is l.management.places tei p on).1) (is_on-at new.management.places q tei (place_of-is new.management.places tei q there).1) in
      let rest : drop (went_by anew k k') (queue_of k) ++ granted_in service tei (seen e a) ≡ queue_of k =
      ap (λ more. drop (went_by anew k k') (queue_of k) ++ more) (none-granted c ranged l s service tei e x) ∙ append-nil (drop (went_by anew k k') (queue_of k))
      ∙ ap (λ y. drop (went_by anew k y) (queue_of k)) same ∙ ap (λ n. drop n (queue_of k)) (still anew k) in
      ap (λ (y : Link). queue_of y) same
      ∙ sym (ap (λ b. left b anew k k' (granted_in service tei (seen e a))) (none-lost c ranged l s service tei p on e x.aims (is_on-at new.management.places q tei (place_of-is new.management.places tei q there).1))
      ∙ ap (λ xs. cond (is_up (state_number k.state)) xs (queue_of k)) rest ∙ cond_both (is_up (state_number k.state)) (queue_of k) (queue_of k) (λ q. q ≡ queue_of k) (λ up. refl) (λ down. refl))

  -- One event of it.
  one-left : (x : HasOne c service tei e l new a) → Left
  one-left x =
      ap (λ (y : Link). queue_of y) x.is ∙ go (empties t x.event k) refl
      ∙ sym (ap (λ b. left b anew k k' (granted_in service tei (seen e a))) (lost-is c ranged l s service tei e x)
      ∙ ap (left (empties t x.event k) anew k k') (sym (accepted-asked c ranged l s service tei e x))
      ∙ ap (λ y. left (empties t x.event k) anew k y (accepted t x.event k)) x.is
      ∙ ap (λ z. left (empties t x.event k) z k (after t x.event k) (accepted t x.event k)) anew-is)
    where
      sound : link_sound.IsSound t k
      sound = link-at-end c l ranged s service tei x.place x.placed

      range : link_sound.IsInRange t
      range = terms_in_range c ranged service tei (s.management.table.range x.place tei (place_of-is l.management.places tei x.place x.placed).1)

      anew-is : anew ≡ sabme_of x.event
      anew-is = sym (brings-is c service tei is_sabme e a) ∙ one-begins c service tei is_sabme e a x.event x.by

      go : (b : Bool) → empties t x.event k ≡ b
          → queue_of (after t x.event k) ≡ left (empties t x.event k) (sabme_of x.event) k (after t x.event k) (accepted t x.event k)
      go true all = none-left t k sound range.k_high x.event all ∙ sym (ap (λ b. left b (sabme_of x.event) k (after t x.event k) (accepted t x.event k)) all)
      go false some =
          some-left t k sound range.k_high x.event some ∙ by-state (is_multiple_frame k.state) refl
          ∙ sym (ap (λ b. left b (sabme_of x.event) k (after t x.event k) (accepted t x.event k)) some)
        where
          rest : List (List ℕ)
          rest = drop (went_by (sabme_of x.event) k (after t x.event k)) (queue_of k) ++ accepted t x.event k

          by-state : (b : Bool) → is_multiple_frame k.state ≡ b → rest ≡ cond (is_up (state_number k.state)) rest (queue_of k)
          by-state true up = sym (ap (λ b. cond b rest (queue_of k)) (number-up k.state ∙ up))
          by-state false down = grind (arith, went_by, sabme_of, none-accepted, append-nil, number-up, rest)

  -- Its deactivation.
  pub left-so : (p q : ℕ) → place_in l tei ≡ Some p → place_in new tei ≡ Some q → Left
  left-so p q on there = go (event-goes c e l service tei s)
    where
      go : Goes c service tei e l new a → Left
      go (inl x) = none-left-so x p q on there
      go (inr (inl x)) = one-left x
      go (inr (inr x)) = grind (arith, granted_in, lost_in, asked-loses, own-is)

  -- A TEI that comes to the line has a link that begins.
  pub comes-so : place_in l tei ≡ None → k' ≡ fresh_link
  comes-so off = go (event-goes c e l service tei s)
    where
      go : Goes c service tei e l new a → k' ≡ fresh_link
      go o = grind (arith, none-some, off-fresh)
