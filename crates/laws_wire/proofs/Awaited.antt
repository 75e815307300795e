-- What is awaited at a station is awaited at the end for which it stands: there a T200 that is long enough is timely, N200 is used up as
-- its expiry tells, and it runs as its expiry is answered.
use Rattle.laws_wire.proofs.Vocabulary.{◌≡◌, ℕ, zero, suc, Bool, true, false, cond, not, IsTrue, List, [], ◌∷◌, ◌++◌, length, map, Option, None, Some, option_map, refl, sym, ap, subst, ◌∙◌, true≢false, All, flat_map, list_any, option_map_or, nat_lt, All-nil, All-cons, All-append, All-head, All-tail, Seq, Control, Information, ReceiveReady, Service, Parts, spelling, TeiAssigned, Established}
use Rattle.laws_wire.proofs.Vocabulary.{ControlFrame, LinkTimer}
use Rattle.laws_wire.proofs.Vocabulary.{Terms, Link, fresh, frame_of, state_number, is_multiple_frame, may_repeat, course, begun, given_of, is_running, Course, T200, LinkEndpoint, frame_given, with_sent, Config, next, link_in, state_in, state_of, terms, awaits_answer, HasNo, Endpoint, answered, happens, told_by, expiry, is_error, TellNoError, is_poll, is_final, giving, NoneGoes, IsNoneOpen}
use Rattle.laws_wire.proofs.Vocabulary.{awaits_in, awaits_reply}
use Rattle.laws_wire.proofs.Vocabulary.{IsLongEnough, MayRepeat, is_any_order, runs_t200, Answer, BadTei, NoLink, Refusal, Rests, arith, frames_by, is_on-at, le-ltb, link_of, list_any_none, place_of-is, queue_of, told, told_of_link, of_aim, at_timer, place_in, ◌-◌, ◌≤◌, expired, timer_T200, line_answer, line_takes_slot, all-right, room_of, orders_for, orders_in, unless, free, own_side}
use Rattle.model_link.specs.Machine as links
use Rattle.model_link.specs.Offers as offers
use Rattle.laws_link.specs.two.Timely as two_links
use Rattle.laws_wire.specs.Facing.{line_of, read_as, parts_of, own_link}
use Rattle.laws_wire.proofs.Held.{error-said, tells_error}
use Rattle.laws_wire.proofs.Speaking.{heard_by, said_by}
use Rattle.laws_wire.proofs.Standing.{IsCarried, StationStands, link-ranges, gives-frames, gives-stands}

-- ---- of two links less is asked

pub record NoneOpen (n m : LinkEndpoint) : Type 0 where
  pub commands : HasNo is_poll n
  pub responses : HasNo is_final m

pub closed : (n m : LinkEndpoint) → NoneOpen n m → two_links.IsNoneOpen n m
closed n m h = record { enquiries = grind arith; answers = grind arith }

-- ---- a link whose T200 expires

module _ (t : Terms) (l : Link) where
  abbrev expires : Course
  expires = course t (expired T200) l

  none-ordered : (r : Option LinkTimer) → is_any_order (orders_for t r None r) ≡ false
  none-ordered r = grind arith

  -- and tells an error if it may not go again
  told-few : awaits_answer l.state ≡ true → is_running T200 l ≡ true → list_any is_error expires.notes ≡ false → may_repeat t l ≡ true
  told-few awaits running fair = grind arith

fair-said : (c : Course) → TellNoError (said_by c) → list_any is_error c.notes ≡ false
fair-said c h = go (list_any is_error c.notes) refl
  where
    go : (b : Bool) → list_any is_error c.notes ≡ b → b ≡ false
    go true e = sym (error-said c e) ∙ list_any_none tells_error (said_by c) h
    go false e = refl

-- ---- a link that is only called for its next frames

-- what it gives has waited, or is an I-frame with P=0, or an acknowledgement with F=0
module _ (of : Bool → Control → Bool) (i : (ns nr : Seq) → of true (Information ns nr false) ≡ false) (rr : (nr : Seq) → of false (ReceiveReady nr false) ≡ false) where
  abbrev IsNone : ControlFrame → Type 0
  IsNone f = of f.command f.control ≡ false

  abbrev IsNot : Parts → Type 0
  IsNot f = of f.address.command f.control ≡ false

  record Gives (t : Terms) (l : Link) (c : Course) : Type 0 where
    waiting : All IsNone c.link.waiting
    gives : All IsNot (frame_given t (given_of t l c c.sent))

  offers-none : (t : Terms) (l : Link) (ws : List ControlFrame) → All IsNone ws → All IsNone l.waiting → Gives t l (offers.offer_among t ws (begun l))
  offers-none t l (f ∷ fs) h w = record { waiting = All-tail IsNone f fs h; gives = All-cons IsNot _ [] (All-head IsNone f fs h) (All-nil IsNot) }
  offers-none t l [] h w = grind arith

  sent-none : (n : LinkEndpoint) → HasNo of n → HasNo of (with_sent n)
  sent-none n h =
      let x = offers-none n.terms n.link n.link.waiting h.waiting h.waiting in
      record { waiting = x.waiting; way = All-append IsNot n.way (frame_given n.terms (links.given n.terms n.link)) h.way x.gives }

-- ---- a station, and the end for which it stands

two-pass : (a b : Bool) (x y : Refusal) → a ≡ false → b ≡ false → cond a (Some x) (cond b (Some y) None) ≡ None
two-pass a b x y e e' = rw (e, e') refl

-- its frames are read as what they are
pub read-again : (service : Service) (tei : ℕ) (c : Config) (way : List Parts) → All (IsCarried c service tei) way → flat_map (read_as c) (map (spelling (own_side c)) way) ≡ way
read-again service tei c [] all = refl
read-again service tei c (f ∷ fs) all =
    ap (λ r. parts_of r ++ flat_map (read_as c) (map (spelling (own_side c)) fs)) (All-head (IsCarried c service tei) f fs all).carried.read
    ∙ ap (λ more. f ∷ more) (read-again service tei c fs (All-tail (IsCarried c service tei) f fs all))

module _ (service : Service) (tei place : ℕ) where
  abbrev Own : Endpoint → LinkEndpoint → Type 0
  Own s n = StationStands s.card.config service tei place s n

  way-read : (s : Endpoint) (n : LinkEndpoint) → Own s n → flat_map (read_as s.card.config) s.way ≡ n.way
  way-read s n h = ap (flat_map (read_as s.card.config)) h.way ∙ read-again service tei s.card.config n.way h.carried

  -- what waits goes, as the next frame is called for again and again
  waits-none : (of : Bool → Control → Bool) (ws : List ControlFrame) (s : Endpoint) (n : LinkEndpoint) → Own s n → n.link.waiting ≡ ws → NoneGoes of s
      → All (λ (f : ControlFrame). of f.command f.control ≡ false) ws
  unfolding giving
  waits-none of [] s n h e none = All-nil (λ (f : ControlFrame). of f.command f.control ≡ false)
  waits-none of (f ∷ fs) s n h e none =
      let t = n.terms in
      let l = n.link in
      let h' = gives-stands service tei place s n h in
      let gone : flat_map (read_as s.card.config) (happens next s).way ≡ n.way ++ frame_of t f ∷ [] =
      way-read (happens next s) (with_sent n) h'
      ∙ ap (λ ws. let c = offers.offer_among t ws (begun l) in n.way ++ frame_given t (given_of t l c c.sent)) e in
      let its = all-right (λ (f : Parts). of f.address.command f.control ≡ false) n.way (frame_of t f ∷ []) (subst (All (λ (f : Parts). of f.address.command f.control ≡ false)) gone (none (suc zero))) in
      All-cons (λ (f : ControlFrame). of f.command f.control ≡ false) f fs (All-head (λ (f : Parts). of f.address.command f.control ≡ false) (frame_of t f) [] its)
      (waits-none of fs (happens next s) (with_sent n) h' (ap (λ ws. (offers.offer_among t ws (begun l)).link.waiting) e) (λ k. none (suc k)))

  goes-none : (of : Bool → Control → Bool) → ((ns nr : Seq) → of true (Information ns nr false) ≡ false) → ((nr : Seq) → of false (ReceiveReady nr false) ≡ false)
      → (k : ℕ) (s : Endpoint) (n : LinkEndpoint) → Own s n → HasNo of n → All (λ (f : Parts). of f.address.command f.control ≡ false) (flat_map (read_as s.card.config) (giving k s).way)
  unfolding giving
  goes-none of i rr zero s n h x = subst (All (λ (f : Parts). of f.address.command f.control ≡ false)) (sym (way-read s n h)) x.way
  goes-none of i rr (suc k) s n h x = goes-none of i rr k (happens next s) (with_sent n) (gives-stands service tei place s n h) (sent-none of i rr n x)

-- T200 of a link on the line expires
module _ (service : Service) (tei : ℕ) (s : Endpoint) where
  abbrev t200 : Answer
  t200 = answered (expiry (timer_T200 service tei)) s

  answers-t200 : (place : ℕ) → place_in (line_of s) tei ≡ Some place
      → t200 ≡ told (told_of_link (links.told (terms s.card.config service tei) (expired T200) (link_in (line_of s) service place)))
  unfolding line_answer line_takes_slot
  answers-t200 place e = ap (λ o. told (of_aim s.card.config (at_timer service tei T200 o) (line_of s)).told) e

  pub runs-there : ((link_of service tei (line_of s)).state ≡ TeiAssigned → ⊥) → runs_t200 service tei s ≡ is_running T200 (link_of service tei (line_of s))
  runs-there = go (place_in (line_of s) tei) refl
    where
      go : (o : Option ℕ) → place_in (line_of s) tei ≡ o → let l = option_map_or (link_in (line_of s) service) o fresh in (l.state ≡ TeiAssigned → ⊥) → runs_t200 service tei s ≡ is_running T200 l
      go None e up = absurd (up refl)
      go (Some place) e up =
          ap (λ a. is_any_order (orders_in a)) (answers-t200 place e) ∙ (grind (arith, nat_lt, none-ordered))

module _ (service : Service) (tei : ℕ) (c : Config) (place : ℕ) (s : Endpoint) (n : LinkEndpoint) (h : StationStands c service tei place s n) where
  own : StationStands s.card.config service tei place s n
  own = subst (λ k. StationStands k service tei place s n) (sym h.config) h

  pub link-is : own_link service tei s ≡ n.link
  link-is = ap (λ o. option_map_or (link_in (line_of s) service) o fresh) h.speaks.placed ∙ h.speaks.link

  pub way-is : flat_map (read_as s.card.config) s.way ≡ n.way
  way-is = way-read service tei place s n own

  pub state-is : state_of service tei (line_of s) ≡ Some (state_number n.link.state)
  state-is = ap (option_map (state_in (line_of s) service)) h.speaks.placed ∙ ap (λ (l : Link). Some (state_number l.state)) h.speaks.link

  pub awaits-is : awaits_reply service tei s ≡ awaits_answer n.link.state
  awaits-is = ap awaits_in state-is ∙ (grind arith)

  pub none-there : (of : Bool → Control → Bool) → NoneGoes of s → HasNo of n
  unfolding giving
  none-there of none = record {
    waiting = waits-none service tei place of n.link.waiting s n own refl none;
    way = subst (All (λ (f : Parts). of f.address.command f.control ≡ false)) (way-read service tei place s n own) (none zero);
  }

  pub none-here : (of : Bool → Control → Bool) → ((ns nr : Seq) → of true (Information ns nr false) ≡ false) → ((nr : Seq) → of false (ReceiveReady nr false) ≡ false) → HasNo of n → NoneGoes of s
  none-here of i rr x = λ k. goes-none service tei place of i rr k s n own x

  -- what it gives is read as what it is
  pub gives-reads : flat_map (read_as s.card.config) (frames_by (answered next s)) ≡ frame_given n.terms (links.given n.terms n.link)
  gives-reads =
      let given = frame_given n.terms (links.given n.terms n.link) in
      ap (flat_map (read_as s.card.config)) (gives-frames service tei place s n own)
      ∙ read-again service tei s.card.config given (all-right (IsCarried s.card.config service tei) n.way given (gives-stands service tei place s n own).carried)

  -- it rests where it is in state 7 and keeps nothing
  pub rests-here : n.link.state ≡ Established → queue_of n.link ≡ [] → Rests service tei s
  rests-here state empty =
      let l = line_of s in
      let few : tei ≤ 126 = subst (λ (t : Terms). t.tei ≤ 126) h.terms (link-ranges service tei place s n own).tei in
      let at = (place_of-is l.management.places tei place h.speaks.placed).1 in
      let kept : queue_of (link_of service tei l) ≡ [] = ap queue_of link-is ∙ empty in
      let free_room = room_of (terms s.card.config service tei) (free s.card) (link_of service tei l) in (
        state-is ∙ ap (λ here. Some (state_number here)) state,
        free_room,
        ap (λ o. unless o free_room) (two-pass _ _ BadTei NoLink (le-ltb 126 tei few) (ap not (is_on-at l.management.places place tei at))),
        ap (λ q. s.card.config.queue - length q) kept ∙ omega arith,
      )

  -- its T200 expires
  its-answer : t200 service tei s ≡ told (told_of_link (links.told n.terms (expired T200) n.link))
  its-answer = grind (arith, answers-t200)

  pub may-there : MayRepeat service tei s → awaits_answer n.link.state ≡ true → is_running T200 n.link ≡ true → may_repeat n.terms n.link ≡ true
  may-there may awaits running =
      told-few n.terms n.link awaits running (fair-said (course n.terms (expired T200) n.link) (subst (λ a. TellNoError (told_by a)) its-answer may))

  pub may-here : (awaits_answer n.link.state ≡ true → may_repeat n.terms n.link ≡ true) → MayRepeat service tei s
  may-here few = subst (λ a. TellNoError (told_by a)) (sym its-answer) (grind (arith, heard_by))

  pub runs-is : (n.link.state ≡ TeiAssigned → ⊥) → runs_t200 service tei s ≡ is_running T200 n.link
  runs-is up = runs-there service tei s (λ e. up (ap (λ (l : Link). l.state) (sym link-is) ∙ e)) ∙ ap (is_running T200) link-is

  pub runs-up : IsTrue (is_multiple_frame n.link.state) → runs_t200 service tei s ≡ is_running T200 n.link
  runs-up up = runs-is (λ e. true≢false (sym up ∙ ap is_multiple_frame e))

-- what waits, or is on its way, first
pub waits-first : (asked : Bool → Control → Bool) (n : LinkEndpoint) (f : ControlFrame) (fs : List ControlFrame) → n.link.waiting ≡ f ∷ fs → asked f.command f.control ≡ true → HasNo asked n → ⊥
waits-first asked n f fs first is h = grind arith

pub goes-first : (asked : Bool → Control → Bool) (n : LinkEndpoint) (f : Parts) (fs : List Parts) → n.way ≡ f ∷ fs → asked f.address.command f.control ≡ true → HasNo asked n → ⊥
goes-first asked n f fs first is h = grind arith

module _ (service : Service) (tei : ℕ) (c d : Config) (p q : ℕ) (s r : Endpoint) (n m : LinkEndpoint) (near : StationStands c service tei p s n) (far : StationStands d service tei q r m) where
  pub long-there : IsLongEnough service tei s r → awaits_answer n.link.state ≡ true → NoneOpen n m
  long-there long awaits =
      let none = long (awaits-is service tei c p s n near ∙ awaits) in
      record { commands = none-there service tei c p s n near is_poll none.commands; responses = none-there service tei d q r m far is_final none.responses }

  pub open-here : NoneOpen n m → IsNoneOpen s r
  open-here h = record {
    commands = none-here service tei c p s n near is_poll (λ ns nr. refl) (λ nr. refl) h.commands;
    responses = none-here service tei d q r m far is_final (λ ns nr. refl) (λ nr. refl) h.responses;
  }
