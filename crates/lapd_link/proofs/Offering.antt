-- Offers.
use Rattle.lapd_link.proofs.Vocabulary.{◌≡◌, ℕ, suc, zero, ◌+◌, ◌<◌, ◌≤◌, Bool, true, false, IsTrue, cond, List, [], ◌∷◌, length, drop, get_or, Option, Some, None, MatchOption, refl, sym, ap, subst, ◌∙◌, arith, length-drop, IfSome, IsSome, All, slice_get, get_or-drop, slice_get_within, get_or_from_slice_get, seq, ReceiveReady, IsFrame, allows, takes, row, sapi_of, Service, Call, Packet, frame_of}
use Rattle.lapd_link.proofs.Vocabulary.{IsInRange, IsWaitingFrame, Store, IsUsed, contents_of, Owned, Keeps, Keeps-at, Keeps-used, Order, ControlFrame, T200, Terms, orders_for, Sent, Course, begun, ◌then◌, changed, pending_is, response, start, course, after, given, given_of, sound-after, Entity, BareReport, IsClear, Agrees, fits-resting, begun-resting, rests-after, Link, contents_in, HasMessage}
use Rattle.lapd_link.proofs.Vocabulary.{LinkStands, terms_of}
use Rattle.model_link.specs.Link as machine
use Rattle.model_link.specs.Events as event
use Rattle.model_link.specs.Offers as offers
use Rattle.lapd_link_steps.specs.declared.offers.Given as rows
use Rattle.lapd_link_steps.specs.Done as done
use Rattle.lapd_link.proofs.Ending.{few}

-- An offer releases nothing.
kept-by : (b : Bool) (x y : Course) (q : List (List ℕ)) → machine.queue_of x.link ≡ q → machine.queue_of y.link ≡ q → machine.queue_of (cond {A = Course} b x y).link ≡ q
kept-by true x y q first second = first
kept-by false x y q first second = second

pub queue-offered : (t : Terms) (waiting : List ControlFrame) (c : Course) → machine.queue_of (offers.offer_among t waiting c).link ≡ machine.queue_of c.link
queue-offered t (f ∷ fs) c = refl
queue-offered t [] c =
    let sent : Course = (offers.give_information then changed offers.with_one_sent then pending_is false) c in
    kept-by (offers.may_send_information t c.link) (offers.send_information c) _ _
    (kept-by (offers.is_awaiting_acknowledgement sent.link) sent (start T200 sent) _ refl refl)
    (kept-by c.link.pending (offers.send_acknowledgement c) c _ refl refl)

-- The contents of a slot of the queue are those at its place.
none-too : {X Y : Type 0} (xs : List X) (ys : List Y) (i : ℕ) → length xs ≡ length ys → slice_get xs i ≡ None → slice_get ys i ≡ None
none-too [] [] i same none = refl
none-too [] (y ∷ ys) i same none = absurd (omega arith)
none-too (x ∷ xs) [] i same none = refl
none-too (x ∷ xs) (y ∷ ys) zero same none = absurd (cc)
none-too (x ∷ xs) (y ∷ ys) (suc i) same none = none-too xs ys i (omega arith) none

contents-found : {store : Store} {slots : List ℕ} {messages : List (List ℕ)} {others : List Owned} (place : ℕ) (slot : Option ℕ) → slice_get slots place ≡ slot → Keeps store slots messages others → contents_in store slot ≡ slice_get messages place
contents-found {slots = slots} {messages} place None is kept = sym (none-too slots messages place kept.lengths is)
contents-found {slots = slots} {messages} {others} place (Some n) is kept = Keeps-at slots messages others place n is kept

pub slot-contents : {store : Store} {slots : List ℕ} {messages : List (List ℕ)} {others : List Owned} (place slot : Option ℕ) → MatchOption place (slot ≡ None) (λ n. slot ≡ slice_get slots n) → Keeps store slots messages others → contents_in store slot ≡ done.contents_at messages place
slot-contents {store} None slot is kept = ap (contents_in store) is
slot-contents {store} (Some n) slot is kept = contents-found n slot (sym is) kept

-- A slot of the queue is in use.
used-found : {store : Store} {slots : List ℕ} {messages : List (List ℕ)} {others : List Owned} (place : ℕ) (slot : Option ℕ) → slice_get slots place ≡ slot → Keeps store slots messages others → IfSome slot (λ n. IsUsed store n)
used-found place None is kept = tt
used-found {slots = slots} {messages} {others} place (Some n) is kept = Keeps-used slots messages others place n is kept

pub slot-used : {store : Store} {slots : List ℕ} {messages : List (List ℕ)} {others : List Owned} (place slot : Option ℕ) → MatchOption place (slot ≡ None) (λ n. slot ≡ slice_get slots n) → Keeps store slots messages others → IfSome slot (λ n. IsUsed store n)
slot-used {store} None slot is kept = subst (λ (o : Option ℕ). IfSome o (λ n. IsUsed store n)) (sym is) tt
slot-used (Some n) slot is kept = used-found n slot (sym is) kept

-- It holds contents, of which none is longer than N201.
not-longer : (contents : List (List ℕ)) (a place n : ℕ) (octets : List ℕ) → All (λ x. length x ≤ n) contents → slice_get (drop a contents) place ≡ Some octets → length octets ≤ n
not-longer contents a place n octets short is =
    let within : place < length (drop a contents) = slice_get_within (drop a contents) place octets is in
    let found : get_or contents (a + place) [] ≡ octets = sym (get_or-drop a contents place []) ∙ get_or_from_slice_get (drop a contents) place octets [] is in
    subst (λ (x : List ℕ). length x ≤ n) found (short (a + place) [] (omega (arith, within, length-drop a contents)))

message-of : (store : Store) (contents : List (List ℕ)) (a place n slot : ℕ) (o : Option (List ℕ)) → contents_of store slot ≡ o → IsSome o → All (λ x. length x ≤ n) contents → contents_of store slot ≡ slice_get (drop a contents) place → HasMessage store n slot
message-of store contents a place n slot None is some short found = absurd (cc)
message-of store contents a place n slot (Some octets) is some short found = (octets, is, not-longer contents a place n octets short (sym found ∙ is))

message-found : {store : Store} {slots : List ℕ} {others : List Owned} (contents : List (List ℕ)) (a place n : ℕ) (slot : Option ℕ) → slice_get slots place ≡ slot → Keeps store slots (drop a contents) others → All (λ x. length x ≤ n) contents → IfSome slot (HasMessage store n)
message-found contents a place n None is kept short = tt
message-found {store} {slots} {others} contents a place n (Some k) is kept short =
    message-of store contents a place n k (contents_of store k) refl (Keeps-used slots (drop a contents) others place k is kept) short (Keeps-at slots (drop a contents) others place k is kept)

pub slot-message : {store : Store} {slots : List ℕ} {others : List Owned} (contents : List (List ℕ)) (a n : ℕ) (place slot : Option ℕ) → MatchOption place (slot ≡ None) (λ k. slot ≡ slice_get slots k) → Keeps store slots (drop a contents) others → All (λ x. length x ≤ n) contents → IfSome slot (HasMessage store n)
slot-message {store} contents a n None slot is kept short = subst (λ (o : Option ℕ). IfSome o (HasMessage store n)) (sym is) tt
slot-message contents a n (Some k) slot is kept short = message-found contents a k n slot (sym is) kept short

-- What an offer gives is a frame.
Good : Terms → Option Sent → Type 0
Good t sent = IfSome sent (λ x. IsFrame (frame_of t x.frame))

sapi-small : (service : Service) → sapi_of service < 64
sapi-small Call = omega arith
sapi-small Packet = omega arith

is-frame : (t : Terms) (f : ControlFrame) → IsInRange t → IsTrue (allows (row f.control).kind f.command) → IsTrue (takes (row f.control).info 0) → IsFrame (frame_of t f)
is-frame t f range kind size =
    let sapi : sapi_of t.service < 64 = sapi-small t.service in
    let tei : t.tei ≤ 126 = range.tei in
    record { sapi = sapi; tei = omega arith; kind = kind; size = size }

good-by : (t : Terms) (b : Bool) (x y : Course) → Good t x.sent → Good t y.sent → Good t (cond {A = Course} b x y).sent
good-by t true x y first second = first
good-by t false x y first second = second

frames-sent : (t : Terms) (fs : List ControlFrame) (c : Course) → IsInRange t → All (IsWaitingFrame t) fs → Good t c.sent → Good t (offers.offer_among t fs c).sent
unfolding Good
frames-sent t (f ∷ fs) c range frames begins = (frames 0 f (omega arith)).is_frame
frames-sent t [] c range frames begins =
    let sent : Course = (offers.give_information then changed offers.with_one_sent then pending_is false) c in
    good-by t (offers.may_send_information t c.link) (offers.send_information c) _
    (good-by t (offers.is_awaiting_acknowledgement sent.link) sent (start T200 sent) (is-frame t (offers.next_information c.link) range refl refl) (is-frame t (offers.next_information c.link) range refl refl))
    (good-by t c.link.pending (offers.send_acknowledgement c) c (is-frame t (response (ReceiveReady (seq c.link.r) false)) range refl refl) begins)

pub frame-offered : {link : Link} {store : Store} {others : List Owned} {m : machine.Link} (given : rows.Given) → LinkStands link store others m → (course (terms_of link) event.offer m).sent ≡ done.given_of (machine.queue_of m) (Some given) → IsFrame (frame_of (terms_of link) given.frame)
unfolding Good
frame-offered {link} {m = m} given s sent =
    subst (Good (terms_of link)) sent (frames-sent (terms_of link) m.waiting (begun m) s.fits.range s.fits.sound.frames tt)

-- The course of an offer,
pub offered : {link : Link} {store : Store} {others : List Owned} {m : machine.Link} {queued : ℕ} {none : BareReport} {e' : Entity} {t' : BareReport} {given : Option rows.Given} → LinkStands link store others m → IsClear none → queued ≡ length link.queue.slots → done.Gives (terms_of link) (offers.offer_step (terms_of link)) queued link.entity none e' t' given → Agrees (terms_of link) [] (machine.queue_of m) (course (terms_of link) event.offer m) e' t'
offered {link} {m = m} {e' = e'} {t'} s nothing many gives =
    subst (λ (c : Course). Agrees (terms_of link) [] (machine.queue_of m) (offers.offer_step (terms_of link) c) e' t')
    (begun-resting [] s.fits.rests nothing)
    (gives.step [] (machine.queue_of m) (done.past_at m) (omega (arith, many, s.kept.lengths)) nothing.released refl (fits-resting s.fits.rests (few s) nothing))

-- what it sends,
pub offered-sent : {link : Link} {store : Store} {others : List Owned} {m : machine.Link} {queued : ℕ} {none : BareReport} {e' : Entity} {t' : BareReport} {given : Option rows.Given} → LinkStands link store others m → IsClear none → queued ≡ length link.queue.slots → done.Gives (terms_of link) (offers.offer_step (terms_of link)) queued link.entity none e' t' given → (course (terms_of link) event.offer m).sent ≡ done.given_of (machine.queue_of m) given
offered-sent {link} {m = m} s nothing many gives =
    ap (λ (c : Course). (offers.offer_step (terms_of link) c).sent) (sym (begun-resting [] s.fits.rests nothing))
    ∙ gives.sent [] (machine.queue_of m) (done.past_at m) (omega (arith, many, s.kept.lengths)) nothing.released refl (fits-resting s.fits.rests (few s) nothing)

-- and what the link stands for afterwards
pub stands-offered : {link : Link} {store : Store} {others : List Owned} {m : machine.Link} {e' : Entity} {t' : BareReport} → LinkStands link store others m → Agrees (terms_of link) [] (machine.queue_of m) (course (terms_of link) event.offer m) e' t' → LinkStands (record link { entity = e' }) store others (after (terms_of link) event.offer m)
stands-offered {link} {store} {others} {m} s agrees =
    record {
      fits =
          record {
            range = s.fits.range;
            sound = sound-after (terms_of link) s.fits.range event.offer m s.fits.sound;
            rests = rests-after agrees;
            capacity = s.fits.capacity;
          };
      wide = s.wide;
      kept = subst (λ (q : List (List ℕ)). Keeps store link.queue.slots q others) (sym (queue-offered (terms_of link) m.waiting (begun m))) s.kept;
    }

-- what is given, with its orders
pub given-offered : {e' : Entity} {t' : BareReport} (t : Terms) (m : machine.Link) (frame : ControlFrame) (contents found : Option (List ℕ)) (orders : List Order) → Agrees t [] (machine.queue_of m) (course t event.offer m) e' t' → (course t event.offer m).sent ≡ Some (record { frame = frame; contents = contents }) → found ≡ contents → orders ≡ orders_for t m.running t'.started e'.running → Some (record { frame = frame; contents = found; orders = orders }) ≡ given t m
given-offered t m frame contents found orders agrees sent same ordered =
    ap (λ (x : Option (List ℕ)). Some (record { frame = frame; contents = x; orders = orders })) same
    ∙ ap (λ (x : List Order). Some (record { frame = frame; contents = contents; orders = x })) ordered
    ∙ ap (λ (c : Course). Some (record { frame = frame; contents = contents; orders = orders_for t m.running c.started c.link.running })) agrees.is
    ∙ ap (λ (o : Option Sent). given_of t m (course t event.offer m) o) (sym sent)
