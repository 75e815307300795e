-- What an event shows of the places of a link: data that is granted, and that layer 3 learns of a loss.
use Rattle.laws_trace.proofs.Vocabulary.{arith, ◌≡◌, ℕ, Bool, false, cond, List, [], ◌++◌, ◌||◌, append-nil, flat_map, list_any, Service, Timer, gives_up, Establish, Answer, hears, expiry, request, next, Deactivate, notes_of, is_loss_of, is_granted, Event, LineTold, told, Request, Release, of_link, Seen, data_asked, granted, trace_noted as noted, is_own, seen, seen_told, seen_granted, and-false}
use Rattle.laws_trace.proofs.Vocabulary.{or-false}
use Rattle.laws_trace.proofs.Vocabulary.{and-true, LinkRequest, StreamEvent}
use Rattle.laws_trace.specs.Outgoing as outgoing
use Rattle.laws_trace.proofs.LinkLed.{own-is}

-- Data that is granted, as it is seen; and that layer 3 learns of a loss.
abbrev pub data_granted : Service → ℕ → Seen → List (List ℕ)
data_granted service tei (granted r) = data_asked service tei r
data_granted service tei other = []

abbrev pub gives_up_of : Service → ℕ → Request → Bool
gives_up_of service tei (Establish of by) = is_own service tei of by
gives_up_of service tei (Release of by) = is_own service tei of by
gives_up_of service tei (Deactivate of by) = is_own service tei of by
gives_up_of service tei other = false

abbrev pub shows_loss : Service → ℕ → Seen → Bool
shows_loss service tei (granted r) = gives_up_of service tei r
shows_loss service tei (noted ns contents) = list_any (is_loss_of service tei) ns
shows_loss service tei other = false

module _ (service : Service) (tei : ℕ) where
  abbrev pub granted_in : List Seen → List (List ℕ)
  granted_in t = flat_map (data_granted service tei) t

  abbrev pub lost_in : List Seen → Bool
  lost_in t = list_any (shows_loss service tei) t

  pub told-grants : (a : Answer) → granted_in (seen_told a) ≡ []
  told-grants a = grind arith

  pub asked-grants : (r : Request) (a : Answer) → granted_in (seen_granted r a ++ seen_told a) ≡ cond (is_granted a) (data_asked service tei r) []
  asked-grants r a = grind (arith, append-nil)

  -- A note of a loss is seen, and so is an establishment or a release that is granted.
  alone : (b : Bool) → (b || (false || false)) ≡ b
  alone b = grind arith

  pub heard-loses : (what : StreamEvent) (a : Answer) → lost_in (seen (hears what) a) ≡ list_any (is_loss_of service tei) (notes_of a)
  heard-loses what a = grind (arith, alone)

  pub expiry-loses : (timer : Timer) (a : Answer) → lost_in (seen (expiry timer) a) ≡ list_any (is_loss_of service tei) (notes_of a)
  expiry-loses timer a = grind (arith, alone)

  pub asked-loses : (r : Request) (a : Answer) → lost_in (seen (request r) a) ≡ cond (is_granted a) (gives_up_of service tei r || list_any (is_loss_of service tei) (notes_of a)) false
  asked-loses r a = grind (arith, alone)

  pub own-release : (what : LinkRequest) → gives_up_of service tei (of_link service tei what) ≡ gives_up what
  own-release what = grind (arith, own-is)

  -- So it is by the event and its answer.
  granted-is : (r : Request) (t : LineTold) → data_asked service tei r ≡ outgoing.data_granted service tei (request r) (told t)
  granted-is r t = grind arith

  pub granted-so : (what : Event) (a : Answer) → granted_in (seen what a) ≡ outgoing.data_granted service tei what a
  granted-so what a = grind (arith, asked-grants, granted-is, told-grants)

  pub lost-so : (what : Event) (a : Answer) → (what ≡ next → notes_of a ≡ []) → lost_in (seen what a) ≡ outgoing.loses service tei what a
  lost-so what a quiet = grind (arith, heard-loses, expiry-loses, asked-loses, or-false, and-true, and-false)
